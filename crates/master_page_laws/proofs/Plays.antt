-- Whatever the replies and the buffers lent, the calls give back what the script gives.
use Prim.Native.Nat.{ℕ, zero, suc, ◌+◌, ◌-◌, ◌*◌, ◌/◌, ◌^◌, ◌<◌}
use mathlib.Core.Path.{◌≡◌, refl, sym, ap, ap₂, ◌∙◌, subst}
use mathlib.Core.Bool.{Bool, true, false, cond}
use mathlib.Core.List.{List, [], ◌∷◌, ◌++◌}
use native.Mathlib.Decide.{ℕ_discrete}
use native.Mathlib.Nat.{div-one}
use native.Mathlib.Omega.{arith}
use lib.Pow.{shr-shr}
use lib.Dec.{eqb, ltb}
use lib.ListN.{length, set, replicate}
use borrow.Author.Tests.{lt-ltb, le-ltb, eq-eqb, ne_eqb, ltb-true}
use Rattle.base_types.specs.Bits.{bit_at, bits_of, bits_of_bytes}
use Rattle.base_types.specs.Refusal.{number_of, values_of}
use Rattle.base_types.specs.Outcome.{Outcome}
use Rattle.base_types.proofs.Collect.{gathered, gathers}
use Rattle.base_types.proofs.Values.{value_of}
use Rattle.chip_memory.specs.Layout.{is_page}
use Rattle.chip_memory.specs.Page.{copied}
use Rattle.chip_memory.proofs.Pages.{copied_same}
use Rattle.bus_scripts.specs.Next.{Next}
use Rattle.bus_scripts.specs.Joint as joint
use Rattle.bus_scripts.specs.Script.{Script, stops, gives, check, reset, send_bits, send_bytes, read_bits, read_byte, read_crc, outcome_at, handed_at, left_in, left_by, follow, play_from, play}
use Rattle.bus_scripts.proofs.Follows.{Follows, sending, stopping, giving, shown_is, handed_is, onward, resetting, checking, receiving, receiving_bytes}
use Rattle.master_page.specs.declared.Part.{Part}
use Rattle.master_page.specs.declared.Part.TheVariants.{Redirection, RedirectionCrc, Data, DataCrc}
use Rattle.master_page.specs.declared.Phase.{Phase}
use Rattle.master_page.specs.declared.Phase.TheVariants.{Presence, Command, Receive, Closing, Stopped}
use Rattle.master_page.specs.declared.PageStop.{PageStop}
use Rattle.master_page.specs.declared.PageStop.TheVariants.{PageNumber, Loop, Outside, Crc16, NoPresence}
use Rattle.master_page.specs.declared.PageRead.{PageRead}
use Rattle.master_page.specs.Page.{page_stop}
use Rattle.master_page_laws.specs.Script.{read_command, crc_word}
use Rattle.master_page.specs.Code.PageSteps.{command_byte, command_bit, word_shift_in, page_with, page_presence, after_extended_read, hopped, page_named, byte_followed}
use Rattle.master_page.specs.Code.PageSteps.{redirection_judged, next_data, data_judged, part_in, page_bit_in, page_closed, page_next_at, page_next, page_phase_answer, finishes}
use Rattle.master_page.specs.PageRead.{page_shown, page_begun, refused_start, start_state, read_answer, read_state, read_buffer}
use Rattle.master_page_laws.specs.Script.{visit_script, final_script, by_byte, walk_script, page_script}
use Rattle.master_page.specs.Held.{PageHeld, page_called, page_started}
use Rattle.master_page_laws.specs.Laws.{page_answers_to, page_after, PageCall, PageGiven, page_given_back, page_given_to, page_state_after}
use Rattle.master_page_laws.specs.Laws.{script_after, script_back, play_lent}
use Rattle.master_page_laws.proofs.Ranges.{Within, in_range_lem, kept, started_in}

-- page p after so many hops
abbrev standing : Phase → ℕ → ℕ → List ℕ → PageRead
standing phase p hops bytes = record { phase = phase; page = record { 0 = p }; hops = hops; bytes = bytes }

-- k bits of x, from bit i on
unfoldable bits_at : ℕ → ℕ → ℕ → List Bool
bits_at x i zero = []
bits_at x i (suc k) = bit_at x i ∷ bits_at x (i + 1) k

bits_at_lem : (k i x : ℕ) → bits_of k (x / 2 ^ i) ≡ bits_at x i k
unfolding bits_of bits_at
bits_at_lem zero i x = refl
bits_at_lem (suc k) i x = ap (λ (l : List Bool). bit_at x i ∷ l) (ap (bits_of k) (shr-shr x i 1) ∙ bits_at_lem k (i + 1) x)

eight_bits : (x : ℕ) → bits_of 8 x ≡ bits_at x 0 8
eight_bits x = ap (bits_of 8) (sym (div-one x)) ∙ bits_at_lem 8 0 x

-- what the register of sixteen bits holds: a word, or a byte in its high half
word_held : (bs : List Bool) → length bs ≡ 16 → gathered 32768 0 bs ≡ value_of bs
word_held bs l = gathers 32768 bs 16 1 0 l refl ∙ omega arith

high_held : (bs : List Bool) → length bs ≡ 8 → gathered 32768 0 bs / 256 ≡ value_of bs
high_held bs l = let e : gathered 32768 0 bs ≡ 0 + 256 * value_of bs = gathers 32768 bs 8 256 0 l refl in omega arith

-- the reader's state, and the bytes that the call handed over that led to it
record Ran : Type 0 where
  state : PageRead
  handed : List ℕ

abbrev ran : PageRead → List ℕ → Ran
ran s bytes = record { state = s; handed = bytes }

abbrev bare : PageRead → Ran
bare s = ran s []

module _ (n : ℕ) where
  -- a call hands the bytes over that first tells Final
  abbrev step : Ran → Bool → Ran
  step m r = ran (page_next n m.state r) (cond (finishes m.state.phase r) m.state.bytes [])

  abbrev RanFollows : Ran → Script → Type 0
  RanFollows m script = Follows step (λ (x : Ran). page_shown x.state) (λ (x : Ran). x.handed) m script

  abbrev PageFollows : PageRead → Script → Type 0
  PageFollows s script = RanFollows (bare s) script

  -- what a part leads to does not depend on the phase
  part_with : (phase : Phase) (s : PageRead) (part : Part) (v : ℕ) → part_in n (page_with s phase) part v ≡ part_in n s part v
  unfolding part_in redirection_judged byte_followed page_named hopped data_judged
  part_with phase s Redirection v = refl
  part_with phase s (RedirectionCrc b) v = refl
  part_with phase s (Data k) v = refl
  part_with phase s DataCrc v = refl

  module _ (p hops : ℕ) (bytes : List ℕ) where
    abbrev here : Phase → PageRead
    here phase = standing phase p hops bytes

    -- a state that has stopped
    halted : (cause : PageStop) → PageFollows (here (Stopped cause)) (stops (number_of (page_stop cause)) (values_of (page_stop cause)))
    unfolding page_next_at page_phase_answer
    halted cause = stopping refl refl (λ r. refl)

    -- ---- the command

    abbrev bits_from : ℕ → ℕ → List Bool
    bits_from i zero = []
    bits_from i (suc k) = command_bit p i ∷ bits_from (i + 1) k

    bits_are : bits_from 0 32 ≡ bits_of_bytes (0xCC ∷ read_command p)
    unfolding command_bit command_byte bits_of_bytes bits_at
    bits_are = simp eight_bits

    command_on : (k i : ℕ) (on : Script) → i + k ≡ 31 → PageFollows (here (Receive Redirection 8 0)) on → PageFollows (here (Command i)) (send_bits (bits_from i (suc k)) on)
    unfolding page_phase_answer page_next_at after_extended_read send_bits
    command_on zero i on l f = sending {s = bare (here (Command i))} {on = λ r. on} refl refl (λ r. simp (le-ltb i 31 (omega arith)) f)
    command_on (suc k) i on l f =
        sending {s = bare (here (Command i))} {on = λ r. send_bits (bits_from (i + 1) (suc k)) on} refl refl (λ r. simp (lt-ltb i 31 (omega arith)) (command_on k (i + 1) on (omega arith) f))

    commands : (on : Script) → PageFollows (here (Receive Redirection 8 0)) on → PageFollows (here (Command 0)) (send_bytes (0xCC ∷ read_command p) on)
    commands on f = subst (λ (l : List Bool). PageFollows (here (Command 0)) (send_bits l on)) bits_are (command_on 31 0 on refl f)

    -- ---- a part

    bit_next : (part : Part) (left v : ℕ) (r : Bool) → page_next n (here (Receive part (suc (suc left)) v)) r ≡ here (Receive part (suc left) (word_shift_in v r))
    unfolding page_next_at page_bit_in
    bit_next part left v r = let e : suc (suc left) - 1 ≡ suc left = omega arith in simp (lt-ltb 1 (suc (suc left)) (omega arith), e)

    bit_last : (part : Part) (v : ℕ) (r : Bool) → page_next n (here (Receive part 1 v)) r ≡ part_in n (here Presence) part (word_shift_in v r)
    unfolding page_next_at page_bit_in
    bit_last part v r = part_with (Receive part 1 v) (here Presence) part (word_shift_in v r)

    part_in_lem : (part : Part) (left : ℕ) (on : ℕ → Script)
        → ((bs : List Bool) → length bs ≡ suc left → PageFollows (part_in n (here Presence) part (gathered 32768 0 bs)) (on (value_of bs)))
        → PageFollows (here (Receive part (suc left) 0)) (read_bits (suc left) on)
    unfolding page_phase_answer
    part_in_lem part left on f =
        receiving 32768 (λ k v. bare (here (Receive part k v))) (λ v. bare (part_in n (here Presence) part v)) (λ k v. refl) (λ k v. refl)
        (λ k v r. ap bare (bit_next part k v r)) (λ v r. ap bare (bit_last part v r)) left 0 on f

    -- the closing reset
    closes : PageFollows (here Closing) (reset (gives (p ∷ hops ∷ []) bytes))
    unfolding page_next_at page_closed page_phase_answer
    closes = resetting refl refl (halted NoPresence) (giving refl refl (λ r. refl) refl refl (λ r. refl))

    data_crc_lem : PageFollows (here (Receive DataCrc 16 0)) (read_crc (crc_word bytes) (reset (gives (p ∷ hops ∷ []) bytes)))
    unfolding part_in data_judged
    data_crc_lem = part_in_lem DataCrc 15 _ (λ bs e. rw (word_held bs e) (checking bare (eqb (value_of bs) (crc_word bytes)) (λ _. closes) (λ _. halted Crc16)))

  module _ (p hops : ℕ) where
    -- ---- the data

    abbrev awaiting : ℕ → List ℕ → Ran
    awaiting k bytes = bare (standing (Receive (Data k) 8 0) p hops bytes)

    data_more : (k : ℕ) (bytes : List ℕ) (on : ℕ → Script) → k < 31 → ((v : ℕ) → RanFollows (awaiting (k + 1) (set bytes k v)) (on v)) → RanFollows (awaiting k bytes) (read_byte on)
    unfolding part_in next_data
    data_more k bytes on l f = part_in_lem p hops bytes (Data k) 7 on (λ bs e. simp (lt-ltb k 31 l, high_held bs e) (f (value_of bs)))

    data_last : (bytes : List ℕ) (on : ℕ → Script) → ((v : ℕ) → PageFollows (standing (Receive DataCrc 16 0) p hops (set bytes 31 v)) (on v))
        → RanFollows (awaiting 31 bytes) (read_byte on)
    unfolding part_in next_data
    data_last bytes on f = part_in_lem p hops bytes (Data 31) 7 on (λ bs e. simp (high_held bs e) (f (value_of bs)))

    finals : (bytes : List ℕ) → length bytes ≡ 32 → PageFollows (standing (Receive (Data 0) 8 0) p hops bytes) (final_script p hops)
    unfolding final_script
    finals bytes sized =
        receiving_bytes 31 awaiting (λ ds. bare (standing (Receive DataCrc 16 0) p hops ds)) data_more data_last bytes _ sized (λ ds l. data_crc_lem p hops ds)

    -- ---- the visit

    hops_last : (bytes : List ℕ) (named : ℕ) → hops + 1 ≡ n → PageFollows (hopped n (standing Presence p hops bytes) named) (stops 4 [])
    unfolding hopped
    hops_last bytes named l = simp (le-ltb (hops + 1) n (omega arith)) (halted p hops bytes Loop)

    module _ (bytes : List ℕ) (sized : length bytes ≡ 32) (on : ℕ → Script)
        (goes : (named : ℕ) → named < n → PageFollows (hopped n (standing Presence p hops bytes) named) (on named)) where
      abbrev crc_at : ℕ → ℕ
      crc_at byte = crc_word (read_command p ++ (byte ∷ []))

      choose : (test : Bool) {s t : PageRead} {x y : Script} → PageFollows s x → PageFollows t y → PageFollows (cond test s t) (cond test x y)
      choose true f g = f
      choose false f g = g

      follows_byte : (byte : ℕ) → PageFollows (byte_followed n (standing Presence p hops bytes) byte) (by_byte n p hops on byte)
      unfolding byte_followed page_named is_page
      follows_byte byte =
          choose (eqb byte 255) (finals bytes sized)
          (checking bare (ltb (255 - byte) n) (λ t. goes (255 - byte) (ltb-true (255 - byte) n t)) (λ _. halted p hops bytes (Outside (255 - byte))))

      crc_in : (byte : ℕ) → PageFollows (standing (Receive (RedirectionCrc (record { 0 = byte })) 16 0) p hops bytes) (read_crc (crc_at byte) (by_byte n p hops on byte))
      unfolding part_in redirection_judged
      crc_in byte =
          part_in_lem p hops bytes (RedirectionCrc (record { 0 = byte })) 15 _
          (λ bs e. rw (word_held bs e) (checking bare (eqb (value_of bs) (crc_at byte)) (λ _. follows_byte byte) (λ _. halted p hops bytes Crc16)))

      visits : PageFollows (standing Presence p hops bytes) (visit_script p (by_byte n p hops on))
      unfolding visit_script page_next_at page_presence page_phase_answer part_in
      visits =
          resetting refl refl (halted p hops bytes NoPresence)
          (commands p hops bytes _ (part_in_lem p hops bytes Redirection 7 _ (λ bs e. rw (high_held bs e) (crc_in (value_of bs)))))

  -- ---- the walk

  module _ (bytes : List ℕ) (sized : length bytes ≡ 32) where
    walks : (more p hops : ℕ) → hops + more + 1 ≡ n → PageFollows (standing Presence p hops bytes) (walk_script n more p hops)
    unfolding walk_script hopped
    walks zero p hops l = visits p hops bytes sized _ (λ named m. hops_last p hops bytes named (omega arith))
    walks (suc more) p hops l =
        visits p hops bytes sized (λ named. walk_script n more named (hops + 1))
        (λ named m. simp (lt-ltb (hops + 1) n (omega arith)) (walks more named (hops + 1) (omega arith)))

  -- ---- the calls

  -- the script by the reply of the next call, from a state on; the bytes handed over before do not matter
  abbrev Awaits : PageRead → (Bool → Script) → Type 0
  Awaits s on = (r : Bool) → RanFollows (step (bare s) r) (on r)

  opens : 0 < n → (p : ℕ) → Awaits (start_state n p) (λ first. page_script n p)
  unfolding start_state is_page page_script page_begun refused_start page_next_at page_phase_answer
  opens some p r = go (ltb p n)
    where
      go : (t : Bool) → RanFollows (step (bare (cond t (page_begun p) refused_start)) r) (check t 3 (walk_script n (n - 1) p 0))
      go true = walks (replicate 32 0) refl (n - 1) p 0 (omega arith)
      go false = halted 0 0 (replicate 32 0) PageNumber

  -- what a call leaves in a buffer of 32 bytes
  left_is : (finished : Bool) (bytes buffer : List ℕ) → length bytes ≡ 32 → length buffer ≡ 32
      → cond finished (copied bytes buffer) buffer ≡ left_in (cond finished bytes []) buffer
  left_is true [] buffer l m = absurd (omega arith)
  left_is true (b ∷ bytes) buffer l m = copied_same (b ∷ bytes) buffer (l ∙ sym m)
  left_is false bytes buffer l m = refl

  module _ (s : PageRead) (on : Bool → Script) (w : Within n 32 s) (f : Awaits s on) (r : Bool) (buffer : List ℕ) where
    abbrev lending : PageCall
    lending = record { reply = r; buffer = buffer }

    right_back : length buffer ≡ 32 → page_given_back n s lending ≡ record { answer = outcome_at (on r); buffer = left_in (handed_at (on r)) buffer }
    unfolding read_answer read_buffer
    right_back l =
        simp (in_range_lem n s w, eq-eqb (length buffer) 32 l)
        (ap₂ (λ (a : Outcome Next) (b : List ℕ). record { answer = a; buffer = b }) (shown_is (f r))
        (left_is (finishes s.phase r) s.bytes buffer w.sized l ∙ ap (λ (b : List ℕ). left_in b buffer) (handed_is (f r))))

    right_state : length buffer ≡ 32 → page_state_after n s lending ≡ page_next n s r
    unfolding read_state
    right_state l = simp (in_range_lem n s w, eq-eqb (length buffer) 32 l)

    wrong_back : (length buffer ≡ 32 → ⊥) → page_given_back n s lending ≡ script_back on lending
    unfolding read_answer read_buffer
    wrong_back l = simp (in_range_lem n s w, ne_eqb (length buffer) 32 l)

    wrong_state : (length buffer ≡ 32 → ⊥) → page_state_after n s lending ≡ s
    unfolding read_state
    wrong_state l = simp (in_range_lem n s w, ne_eqb (length buffer) 32 l)

  abbrev script_to : (Bool → Script) → List PageCall → List PageGiven
  script_to on calls = joint.answers script_after script_back on calls

  one_call : (c : PageCall) (cs : List PageCall) (s : PageRead) (on : Bool → Script) → Within n 32 s → Awaits s on → Dec (length c.buffer ≡ 32)
      → ((t : PageRead) (k : Bool → Script) → Within n 32 t → Awaits t k → page_given_to n t cs ≡ script_to k cs)
      → page_given_to n s (c ∷ cs) ≡ script_to on (c ∷ cs)
  one_call c cs s on w f (yes l) rest =
      simp (eq-eqb (length c.buffer) 32 l)
      (ap₂ (λ (x : PageGiven) (xs : List PageGiven). x ∷ xs) (right_back s on w f c.reply c.buffer l)
      (ap (λ (t : PageRead). page_given_to n t cs) (right_state s on w f c.reply c.buffer l)
      ∙ rest (page_next n s c.reply) (follow (on c.reply)) (kept n s c.reply w) (onward (f c.reply))))
  one_call c cs s on w f (no l) rest =
      let e : script_after on c ≡ on = simp (ne_eqb (length c.buffer) 32 l) in
      ap₂ (λ (x : PageGiven) (xs : List PageGiven). x ∷ xs) (wrong_back s on w f c.reply c.buffer l)
      (ap (λ (t : PageRead). page_given_to n t cs) (wrong_state s on w f c.reply c.buffer l) ∙ rest s on w f ∙ ap (λ (k : Bool → Script). script_to k cs) (sym e))

  lent_from : (calls : List PageCall) (s : PageRead) (on : Bool → Script) → Within n 32 s → Awaits s on → page_given_to n s calls ≡ script_to on calls
  lent_from [] s on w f = refl
  lent_from (c ∷ cs) s on w f = one_call c cs s on w f (ℕ_discrete (length c.buffer) 32) (λ t k v g. lent_from cs t k v g)

  pub page_plays_lent : 0 < n → (p : ℕ) (calls : List PageCall) → page_given_to n (start_state n p) calls ≡ play_lent (page_script n p) calls
  page_plays_lent some p calls = lent_from calls (start_state n p) (λ first. page_script n p) (started_in n some p) (opens some p)

  -- ---- with one buffer

  held_from : (rs : List Bool) (s : PageRead) (on : Bool → Script) (buffer : List ℕ) → Within n 32 s → Awaits s on → length buffer ≡ 32
      → let h : PageHeld = record { state = s; buffer = buffer } in
      (page_answers_to n h rs ≡ play_from on rs) × ((page_after n h rs).buffer ≡ left_by on rs buffer)
  held_from [] s on buffer w f l = (refl, refl)
  held_from (r ∷ rs) s on buffer w f l =
      let back = right_back s on w f r buffer l in
      let left : page_called n (record { state = s; buffer = buffer }) r ≡ record { state = page_next n s r; buffer = left_in (handed_at (on r)) buffer } =
      ap₂ (λ (t : PageRead) (b : List ℕ). record { state = t; buffer = b }) (right_state s on w f r buffer l) (ap (λ (g : PageGiven). g.buffer) back) in
      let more = held_from rs (page_next n s r) (follow (on r)) (left_in (handed_at (on r)) buffer) (kept n s r w) (onward (f r)) room in (
        ap₂ (λ (a : Outcome Next) (h : PageHeld). a ∷ page_answers_to n h rs) (ap (λ (g : PageGiven). g.answer) back) left
            ∙ ap (λ (l : List (Outcome Next)). outcome_at (on r) ∷ l) more.0,
        ap (λ (h : PageHeld). (page_after n h rs).buffer) left ∙ more.1,
      )
    where
      go : (finished : Bool) (bytes : List ℕ) → length bytes ≡ 32 → length (left_in (cond finished bytes []) buffer) ≡ 32
      go true [] m = l
      go true (b ∷ bytes) m = m
      go false bytes m = l

      room : length (left_in (handed_at (on r)) buffer) ≡ 32
      room = subst (λ (b : List ℕ). length (left_in b buffer) ≡ 32) (handed_is (f r)) (go (finishes s.phase r) s.bytes w.sized)

  module _ (some : 0 < n) (p : ℕ) (lent : List ℕ) (room : length lent ≡ 32) where
    pub page_plays : (replies : List Bool) → page_answers_to n (page_started n p lent) replies ≡ play (page_script n p) replies
    page_plays replies = (held_from replies (start_state n p) (λ first. page_script n p) lent (started_in n some p) (opens some p) room).0

    pub page_leaves : (replies : List Bool) → (page_after n (page_started n p lent) replies).buffer ≡ left_by (λ first. page_script n p) replies lent
    page_leaves replies = (held_from replies (start_state n p) (λ first. page_script n p) lent (started_in n some p) (opens some p) room).1
