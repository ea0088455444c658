-- The chip neither reads nor alters what an image holds at the gaps.
use Prim.Native.Nat.{ℕ, ◌+◌, ◌-◌, ◌*◌, ◌/◌, ◌%◌, ◌<◌}
use mathlib.Core.Path.{◌≡◌, refl, sym, ap, ap₂, ◌∙◌, subst}
use mathlib.Core.Bool.{Bool, true, false, cond, ◌&&◌}
use mathlib.Core.List.{List, [], ◌∷◌}
use native.Mathlib.Decide.{dec_lt, ℕ_discrete}
use native.Mathlib.Omega.{arith}
use lib.Bits.{bit_and}
use lib.Dec.{ltb}
use lib.ListN.{length, get_or, set, length-set, get_or-eq_default}
use lib.Seq.{get_or-set_same, get_or-set_other}
use borrow.Author.Tests.{le-ltb}
use Rattle.base_types.specs.Outcome.{Outcome, refused, accepted, unless_refused}
use Rattle.base_types.specs.declared.address.Target.{Target}
use Rattle.base_types.specs.declared.address.Target.TheVariants.{Data, Status}
use Rattle.bus_events.specs.declared.Event.{Event}
use Rattle.bus_events.specs.declared.Event.TheVariants.{Reset, Slot, Pulse, PowerLoss}
use Rattle.chip_memory.specs.declared.layout.Field.{Field}
use Rattle.chip_memory.specs.declared.layout.Field.TheVariants.{DataProtection, RedirectionProtection, UsedPages}
use Rattle.chip_memory.specs.Layout.{first_address, is_image, is_held, redirection_bytes}
use Rattle.chip_memory.specs.Image.{data_byte, status_byte, target_byte, redirection_of, page_bit}
use Rattle.chip_memory.specs.Write.{bit_of, status_writable, is_writable, index_of, programmed}
use Rattle.chip_memory.proofs.Gaps.{gap_kept}
use Rattle.chip_stage.specs.declared.stage.Command.{Command}
use Rattle.chip_stage.specs.declared.stage.Command.TheVariants.{ReadMemory, ReadStatus, ExtendedRead, Write}
use Rattle.chip_stage.specs.declared.stage.Incoming.{Incoming}
use Rattle.chip_stage.specs.declared.stage.Incoming.TheVariants.{Command as CommandByte, AddressLow, AddressHigh, Data as DataByte}
use Rattle.chip_stage.specs.declared.stage.Outgoing.{Outgoing}
use Rattle.chip_stage.specs.declared.stage.Outgoing.TheVariants.{MemoryData, MemoryCrc, StatusData, StatusCrc, RedirectionByte, RedirectionCrc, PageData, PageCrc, WriteCrc, ReadBack}
use Rattle.chip_stage.specs.declared.stage.MemoryStage.{MemoryStage}
use Rattle.chip_stage.specs.declared.stage.MemoryStage.TheVariants.{Silent, Receive, Send, Armed}
use Rattle.chip_stage.specs.Reads.{memory_from, status_from, redirection_from, page_from, start_memory, start_status, start_extended, after_memory, after_status, next_status, after_page, next_page}
use Rattle.chip_stage.specs.Writes.{reading_back}
use Rattle.chip_function.specs.Functions.{addressed, started_at, received, receive_bit, sent, send_bit, memory_slot, pulse_image, pulse_stage}
use Rattle.chip_entries.specs.declared.event.Stage.{Stage}
use Rattle.chip_entries.specs.declared.event.Stage.TheVariants.{Rom, Memory}
use Rattle.chip_entries.specs.declared.event.State.{State}
use Rattle.chip_entries.specs.Event.{stage_slot, pulse_image_of, stage_pulse, image_after, stage_after, event_answer, event_state, event_image}
use Rattle.chip_entries.specs.Run.{Chip, next, draws, run, answers}
use Rattle.chip_entries.proofs.Kept.{image_length}
use Rattle.chip_session_laws.specs.Table.{Gap, Alike, ◌over◌, GapLaws}
use Rattle.chip_session_laws.proofs.Table.{data_held, redirection_held, used_held, gap_unheld, gap_low}

module _ (n : ℕ) where
  -- ---- no event alters a gap

  pulse_keeps : (s : Stage) (img : List ℕ) (a : ℕ) → Gap n a → get_or (pulse_image_of n s img) (32 * n + a) 0 ≡ get_or img (32 * n + a) 0
  unfolding pulse_image_of pulse_image
  pulse_keeps (Rom r) img a g = refl
  pulse_keeps (Memory Silent) img a g = refl
  pulse_keeps (Memory (Receive i k register crc)) img a g = refl
  pulse_keeps (Memory (Send o left v crc)) img a g = refl
  pulse_keeps (Memory (Armed mode t byte)) img a g = gap_kept n img t byte a (gap_unheld n g)

  event_keeps : (s : Stage) (e : Event) (img : List ℕ) (a : ℕ) → Gap n a → get_or (image_after n s e img) (32 * n + a) 0 ≡ get_or img (32 * n + a) 0
  unfolding image_after
  event_keeps s Reset img a g = refl
  event_keeps s (Slot bit) img a g = refl
  event_keeps s Pulse img a g = pulse_keeps s img a g
  event_keeps s PowerLoss img a g = refl

  either : (t : Outcome Bool) (new old : List ℕ) (i : ℕ) → get_or new i 0 ≡ get_or old i 0 → get_or (unless_refused t new old) i 0 ≡ get_or old i 0
  either (accepted r) new old i e = e
  either (refused k vs) new old i e = refl

  kept : (c : Chip) (es : List Event) (a : ℕ) → Gap n a → get_or (run n c es).image (32 * n + a) 0 ≡ get_or c.image (32 * n + a) 0
  unfolding run event_image
  kept c [] a g = refl
  kept c (e ∷ es) a g = kept (next n c e) es a g ∙ either (draws n c e) _ c.image (32 * n + a) (event_keeps c.state.stage e c.image a g)

  -- ---- what is read of two images that agree outside the gaps

  module _ (x y : List ℕ) (same : Alike n x y) where
    data_at : (a : ℕ) → a < 32 * n → get_or x a 0 ≡ get_or y a 0
    data_at a lt = same a (λ b g e. omega arith)

    held_at : (a : ℕ) → is_held n a ≡ true → get_or x (32 * n + a) 0 ≡ get_or y (32 * n + a) 0
    held_at a h = same (32 * n + a) (λ b g e. no_gap b g (omega arith))
      where
        no_gap : (b : ℕ) → Gap n b → a ≡ b → ⊥
        no_gap b g e = let z : ◌≡◌ {A = Bool} true false = sym h ∙ ap (is_held n) e ∙ gap_unheld n g in let w : ◌≡◌ {A = ℕ} 0 1 = cc in omega arith

    same_data : (a : ℕ) → data_byte n x a ≡ data_byte n y a
    unfolding data_byte
    same_data a = go (dec_lt a (32 * n))
      where
        go : Dec (a < 32 * n) → cond (ltb a (32 * n)) (get_or x a 0) 0xFF ≡ cond (ltb a (32 * n)) (get_or y a 0) 0xFF
        go (yes lt) = ap (λ (b : ℕ). cond (ltb a (32 * n)) b 0xFF) (data_at a lt)
        go (no ge) = simp (le-ltb a (32 * n) (omega arith))

    same_status : (a : ℕ) → status_byte n x a ≡ status_byte n y a
    unfolding status_byte
    same_status a = go (is_held n a) refl
      where
        go : (b : Bool) → is_held n a ≡ b → cond b (get_or x (32 * n + a) 0) 0xFF ≡ cond b (get_or y (32 * n + a) 0) 0xFF
        go true h = held_at a h
        go false h = refl

    same_target : (t : Target) → target_byte n x t ≡ target_byte n y t
    unfolding target_byte
    same_target (Data a) = same_data a.0
    same_target (Status a) = same_status a.0

    same_redirection : (p : ℕ) → redirection_of n x p ≡ redirection_of n y p
    unfolding redirection_of
    same_redirection p = same (32 * n + (0x100 + p)) (λ b g e. let lt = gap_low n g in omega arith)

    -- ---- the stage after a slot

    same_addressed : (c : Command) (a crc : ℕ) → addressed n c a crc x ≡ addressed n c a crc y
    unfolding addressed start_memory start_status start_extended memory_from status_from redirection_from
    same_addressed ReadMemory a crc = rw (same_data a)
    same_addressed ReadStatus a crc = rw (same_status a)
    same_addressed ExtendedRead a crc = rw (same_redirection (a / 32 % 256))
    same_addressed (Write mode space) a crc = refl

    same_received : (i : Incoming) (byte crc : ℕ) → received n i byte crc x ≡ received n i byte crc y
    unfolding received started_at
    same_received CommandByte byte crc = refl
    same_received (AddressLow c) byte crc = refl
    same_received (AddressHigh c low) byte crc = same_addressed c _ _
    same_received (DataByte mode t) byte crc = refl

    same_sent : (o : Outgoing) (crc : ℕ) → sent n o crc x ≡ sent n o crc y
    unfolding sent after_memory after_status next_status after_page next_page memory_from status_from redirection_from page_from
    same_sent (MemoryData a) crc = rw (same_data (a.0 + 1))
    same_sent MemoryCrc crc = refl
    same_sent (StatusData a) crc = rw (same_status (a.0 + 1))
    same_sent (StatusCrc a) crc = rw (same_status (a.0 + 1))
    same_sent (RedirectionByte a) crc = refl
    same_sent (RedirectionCrc a) crc = rw (same_data a.0)
    same_sent (PageData a) crc = rw (same_data (a.0 + 1))
    same_sent (PageCrc a) crc = rw (same_redirection ((a.0 + 1) / 32 % 256))
    same_sent (WriteCrc t byte) crc = refl
    same_sent (ReadBack mode t) crc = refl

    same_slot : (m : MemoryStage) (bit : Bool) → memory_slot n m bit x ≡ memory_slot n m bit y
    unfolding memory_slot receive_bit send_bit
    same_slot Silent bit = refl
    same_slot (Receive i k register crc) bit = rw (same_received i _ crc)
    same_slot (Send o left v crc) bit = rw (same_sent o crc)
    same_slot (Armed mode t byte) bit = refl

    same_pulse : (m : MemoryStage) → pulse_stage n m x ≡ pulse_stage n m y
    unfolding pulse_stage reading_back
    same_pulse Silent = refl
    same_pulse (Receive i k register crc) = refl
    same_pulse (Send o left v crc) = refl
    same_pulse (Armed mode t byte) = rw (same_target t)

    same_stage : (s : Stage) (e : Event) (number : List ℕ) → stage_after n s e number x ≡ stage_after n s e number y
    unfolding stage_after stage_slot stage_pulse
    same_stage s Reset number = refl
    same_stage (Rom r) (Slot bit) number = refl
    same_stage (Memory m) (Slot bit) number = ap Memory (same_slot m bit)
    same_stage (Rom r) Pulse number = refl
    same_stage (Memory m) Pulse number = ap Memory (same_pulse m)
    same_stage s PowerLoss number = refl

    -- ---- the image after a pulse

    field_held : n % 8 ≡ 0 → (f : Field) (p : ℕ) → p < n → is_held n (first_address f + p / 8) ≡ true
    unfolding first_address
    field_held whole DataProtection p lt = ap (is_held n) (omega arith) ∙ data_held n (p / 8) (omega arith)
    field_held whole RedirectionProtection p lt = redirection_held n (p / 8) (omega arith)
    field_held whole UsedPages p lt = used_held n (p / 8) (omega arith)

    same_bit : n % 8 ≡ 0 → (f : Field) (p : ℕ) → bit_of n f x p ≡ bit_of n f y p
    unfolding bit_of page_bit
    same_bit whole f p = go (dec_lt p n)
      where
        go : Dec (p < n) → (ltb p n && page_bit n f x p) ≡ (ltb p n && page_bit n f y p)
        go (yes lt) = rw (held_at (first_address f + p / 8) (field_held whole f p lt))
        go (no ge) = simp (le-ltb p n (omega arith))

    same_writable : n % 8 ≡ 0 → (t : Target) → is_writable n x t ≡ is_writable n y t
    unfolding is_writable status_writable
    same_writable whole (Data a) = same_bit whole DataProtection (a.0 / 32)
    same_writable whole (Status a) = rw (same_bit whole RedirectionProtection (a.0 - redirection_bytes))

    both_anded : length x ≡ length y → (i byte : ℕ) → Alike n (set x i (bit_and (get_or x i 0) byte)) (set y i (bit_and (get_or y i 0) byte))
    both_anded l i byte j free = go (ℕ_discrete j i) (dec_lt i (length x))
      where
        u : List ℕ
        u = set x i (bit_and (get_or x i 0) byte)

        v : List ℕ
        v = set y i (bit_and (get_or y i 0) byte)

        go : Dec (j ≡ i) → Dec (i < length x) → get_or u j 0 ≡ get_or v j 0
        go (no ne) d = get_or-set_other x i j _ 0 ne ∙ same j free ∙ sym (get_or-set_other y i j _ 0 ne)
        go (yes e) (yes lt) =
            ap (λ k. get_or u k 0) e ∙ get_or-set_same x i _ 0 lt
            ∙ ap (λ b. bit_and b byte) (subst (λ k. get_or x k 0 ≡ get_or y k 0) e (same j free))
            ∙ sym (ap (λ k. get_or v k 0) e ∙ get_or-set_same y i _ 0 (omega arith))
        go (yes e) (no ge) =
            get_or-eq_default u 0 (omega (arith, length-set x i (bit_and (get_or x i 0) byte)))
            ∙ sym (get_or-eq_default v 0 (omega (arith, length-set y i (bit_and (get_or y i 0) byte))))

    both_programmed : n % 8 ≡ 0 → length x ≡ length y → (t : Target) (byte : ℕ) → Alike n (programmed n x t byte) (programmed n y t byte)
    unfolding programmed
    both_programmed whole l t byte = rw (same_writable whole t) (go (is_writable n y t))
      where
        go : (b : Bool) → Alike n (cond b (set x (index_of n t) (bit_and (get_or x (index_of n t) 0) byte)) x) (cond b (set y (index_of n t) (bit_and (get_or y (index_of n t) 0) byte)) y)
        go true = both_anded l (index_of n t) byte
        go false = same

    both_pulsed : n % 8 ≡ 0 → length x ≡ length y → (s : Stage) → Alike n (pulse_image_of n s x) (pulse_image_of n s y)
    unfolding pulse_image_of pulse_image
    both_pulsed whole l (Rom r) = same
    both_pulsed whole l (Memory Silent) = same
    both_pulsed whole l (Memory (Receive i k register crc)) = same
    both_pulsed whole l (Memory (Send o left v crc)) = same
    both_pulsed whole l (Memory (Armed mode t byte)) = both_programmed whole l t byte

    both_after : n % 8 ≡ 0 → length x ≡ length y → (s : Stage) (e : Event) → Alike n (image_after n s e x) (image_after n s e y)
    unfolding image_after
    both_after whole l s Reset = same
    both_after whole l s (Slot bit) = same
    both_after whole l s Pulse = both_pulsed whole l s
    both_after whole l s PowerLoss = same

  -- ---- one event, and several

  module _ (whole : n % 8 ≡ 0) where
    module _ (s : State) (x y : List ℕ) (l : length x ≡ length y) (same : Alike n x y) (e : Event) where
      one_told : draws n (s over x) e ≡ draws n (s over y) e
      unfolding event_answer is_image
      one_told = rw l

      one_state : (next n (s over x) e).state ≡ (next n (s over y) e).state
      unfolding event_state
      one_state =
          ap₂ (λ (t : Outcome Bool) (g : Stage). unless_refused t (record { stage = g; number = s.number }) s) one_told
          (same_stage (image_after n s.stage e x) (image_after n s.stage e y) (both_after x y same whole l s.stage e) s.stage e s.number)

      either_alike : (t : Outcome Bool) (u v : List ℕ) → Alike n u v → Alike n (unless_refused t u x) (unless_refused t v y)
      either_alike (accepted r) u v h = h
      either_alike (refused k vs) u v h = same

      one_image : Alike n (next n (s over x) e).image (next n (s over y) e).image
      unfolding event_image
      one_image = rw one_told (either_alike (draws n (s over y) e) _ _ (both_after x y same whole l s.stage e))

    next_length : (c : Chip) (e : Event) → length (next n c e).image ≡ length c.image
    unfolding event_image
    next_length c e = go (draws n c e)
      where
        go : (t : Outcome Bool) → length (unless_refused t (image_after n c.state.stage e c.image) c.image) ≡ length c.image
        go (accepted r) = image_length n c.state.stage e c.image
        go (refused k vs) = refl

    abbrev lengths : (s : State) (x y : List ℕ) → length x ≡ length y → (e : Event) → length (next n (s over x) e).image ≡ length (next n (s over y) e).image
    lengths s x y l e = next_length (s over x) e ∙ l ∙ sym (next_length (s over y) e)

    told : (s : State) (x y : List ℕ) → length x ≡ length y → Alike n x y → (es : List Event) → answers n (s over x) es ≡ answers n (s over y) es
    unfolding answers
    told s x y l same [] = refl
    told s x y l same (e ∷ es) =
        let x' = (next n (s over x) e).image in
        let y' = (next n (s over y) e).image in
        ap₂ (λ (t : Outcome Bool) (ts : List (Outcome Bool)). t ∷ ts) (one_told s x y l same e)
        (told (next n (s over x) e).state x' y' (lengths s x y l e) (one_image s x y l same e) es
        ∙ ap (λ (z : State). answers n (z over y') es) (one_state s x y l same e))

    state : (s : State) (x y : List ℕ) → length x ≡ length y → Alike n x y → (es : List Event) → (run n (s over x) es).state ≡ (run n (s over y) es).state
    unfolding run
    state s x y l same [] = refl
    state s x y l same (e ∷ es) =
        let x' = (next n (s over x) e).image in
        let y' = (next n (s over y) e).image in
        state (next n (s over x) e).state x' y' (lengths s x y l e) (one_image s x y l same e) es
        ∙ ap (λ (z : State). (run n (z over y') es).state) (one_state s x y l same e)

    image : (s : State) (x y : List ℕ) → length x ≡ length y → Alike n x y → (es : List Event) → Alike n (run n (s over x) es).image (run n (s over y) es).image
    unfolding run
    image s x y l same [] = same
    image s x y l same (e ∷ es) =
        let x' = (next n (s over x) e).image in
        let y' = (next n (s over y) e).image in
        subst (λ (z : State). Alike n (run n (next n (s over x) e) es).image (run n (z over y') es).image) (one_state s x y l same e)
        (image (next n (s over x) e).state x' y' (lengths s x y l e) (one_image s x y l same e) es)

    pub gap_laws : GapLaws n
    gap_laws = record { told = told; state = state; image = image; kept = kept }
