-- What a chip draws over a page read's events: the replies of a visit and of a page, with the bytes of its image.
use Prim.Native.Nat.{ℕ, zero, suc, ◌+◌, ◌-◌, ◌*◌, ◌/◌, ◌%◌, ◌<◌, ◌≤◌}
use mathlib.Core.Path.{◌≡◌, refl, sym, ap, ◌∙◌, subst}
use mathlib.Core.Bool.{Bool, true, false}
use mathlib.Core.List.{List, [], ◌∷◌, ◌++◌, append_assoc}
use native.Mathlib.Numerals.{add-one}
use native.Mathlib.Omega.{arith}
use lib.Dec.{lit<}
use lib.ListN.{length, get_or, take, drop, length-append, length-replicate}
use lib.Seq.{drop-cons}
use borrow.Author.Tests.{lt-ltb}
use Rattle.base_types.specs.Bits.{bits_of, bits_of_bytes}
use Rattle.base_types.proofs.Words.{bits_length, bytes_length}
use Rattle.bus_events.specs.Events as bus
use Rattle.bus_events.specs.Slots.{slots, ones}
use Rattle.base_crc.specs.Crc.{crc16_of}
use Rattle.chip_memory.specs.Layout.{image_size, data_size}
use Rattle.chip_memory.specs.Image.{data_byte, redirection_of, page_bytes}
use Rattle.chip_memory.proofs.Pages.{page_length}
use Rattle.base_types.specs.declared.address.Space.TheVariants.{Data}
use Rattle.chip_stage.specs.declared.stage.Command.TheVariants.{ExtendedRead}
use Rattle.chip_stage.specs.declared.stage.MemoryStage.{MemoryStage}
use Rattle.chip_stage.specs.declared.stage.MemoryStage.TheVariants.{Silent}
use Rattle.chip_stage.specs.Limits.{limit_of, kept_address}
use Rattle.chip_stage.specs.Reads.{start_extended}
use Rattle.chip_function.specs.Functions.{memory_command, addressed}
use Rattle.base_types.specs.Scan.{values_from}
use Rattle.chip_function_laws.specs.Streams.{header, extended_pages, extended_stream}
use Rattle.chip_function_laws.specs.Reads.{Sends, none, next}
use Rattle.chip_function_laws.proofs.Addresses.{address_laws}
use Rattle.chip_function_laws.proofs.Sessions.{read_laws}
use Rattle.chip_entries.specs.declared.event.Stage.TheVariants.{Memory}
use Rattle.chip_entries.specs.Event.{awaiting_rom}
use Rattle.chip_entries.specs.Run.{Chip}
use Rattle.chip_session_laws.specs.Session.{Ready, ◌at◌, Reaches, skip}
use Rattle.chip_session_laws.proofs.Runs.{◌then◌}
use Rattle.chip_session_laws.proofs.Slots.{lines_read, ready, over_memory}
use Rattle.chip_session_laws.proofs.Sessions.{resets, up_to_address}
use Rattle.master_page_laws.specs.Heard.{visit_events, visit_replies, data_events, data_replies}
use Rattle.master_page_laws.specs.Script.{read_command, crc_word}

-- ---- what is sent, cut in two

record SentInTwo (n : ℕ) (img : List ℕ) (m : MemoryStage) (xs ys : List Bool) (e : MemoryStage) : Type 0 where
  middle : MemoryStage
  front : Sends n img m xs middle
  back : Sends n img middle ys e

sent_in_two : (n : ℕ) (img : List ℕ) {m e : MemoryStage} (xs ys : List Bool) → Sends n img m (xs ++ ys) e → SentInTwo n img m xs ys e
sent_in_two n img [] ys p = record { middle = _; front = none; back = p }
sent_in_two n img (x ∷ xs) ys (next hb hs rest) =
    let h = sent_in_two n img xs ys rest in
    record { middle = h.middle; front = next hb hs h.front; back = h.back }

module _ (n : ℕ) (img : List ℕ) (sized : length img ≡ image_size n) where
  bytes_are : (k a : ℕ) → a + k ≤ data_size n → values_from (data_byte n img) a k ≡ take k (drop a img)
  unfolding values_from data_byte
  bytes_are zero a l = refl
  bytes_are (suc k) a l =
      let e : drop a img ≡ get_or img a 0 ∷ drop (a + 1) img = drop-cons img a 0 (omega arith) ∙ ap (λ (m : ℕ). get_or img a 0 ∷ drop m img) (sym (add-one a)) in
      simp (lt-ltb a (data_size n) (omega arith), e) (ap (λ (l : List ℕ). get_or img a 0 ∷ l) (bytes_are k (a + 1) (omega arith)))

  -- what Extended Read sends from the first byte of page p on
  module _ (p : ℕ) (below : p < n) (low : n ≤ 256) where
    abbrev byte : ℕ
    byte = redirection_of n img p

    abbrev visit_bits : List Bool
    visit_bits = bits_of 8 byte ++ bits_of 16 (crc_word (read_command p ++ (byte ∷ [])))

    abbrev data_bits : List Bool
    data_bits = bits_of_bytes (page_bytes img p)

    abbrev crc_bits : List Bool
    crc_bits = bits_of 16 (crc_word (page_bytes img p))

    abbrev later : List Bool
    later = extended_pages n img (p + 1) (n - (p + 1))

    stream_is : extended_stream n img (32 * p) ≡ visit_bits ++ (data_bits ++ (crc_bits ++ later))
    unfolding page_bytes
    stream_is =
        let e : 32 * p / 32 ≡ p = omega arith in
        let f : 32 - 32 * p % 32 ≡ 32 = omega arith in
        let g : 32 * p / 256 % 256 ≡ 32 * p / 256 = omega arith in
        simp (e, f, g, bytes_are 32 (32 * p) (omega arith), append_assoc)

-- ---- the visit of page p, and its bytes

-- what the chip echoes of the command
abbrev pub echoed : ℕ → List Bool
echoed p = bits_of_bytes (0xCC ∷ read_command p)

pub record Visit (n : ℕ) (c : Chip) (p : ℕ) : Type 0 where
  pub after : MemoryStage
  pub visit : Reaches n c (visit_events p) (visit_replies (echoed p) p (redirection_of n c.image p)) (c at Memory after)
  pub page : Reaches n (c at Memory after) data_events (data_replies (page_bytes c.image p)) (c at awaiting_rom)

module _ (n : ℕ) (whole : n % 8 ≡ 0) (low : n ≤ 256) where
  -- read slots meet what is sent
  read_out : (c : Chip) {m e : MemoryStage} (k : ℕ) {bs : List Bool} → Sends n c.image m bs e → length bs ≡ k → Ready n (c at Memory m)
      → Reaches n (c at Memory m) (slots (ones k)) bs (c at Memory e)
  read_out c k {bs} s l ok = rw (lines_read k bs l) at (over_memory n whole c (ones k) s (length-replicate k true ∙ sym l) ok)

  command_in : (c : Chip) (p : ℕ) → p < n → Ready n c
      → Reaches n c (bus.reset ∷ slots (echoed p)) (false ∷ echoed p) (c at Memory (start_extended n (32 * p) (crc16_of (header 0xA5 (32 * p))) c.image))
  unfolding bits_of_bytes memory_command addressed
  command_in c p below ok =
      let g : 32 * p / 256 % 256 ≡ 32 * p / 256 = omega arith in
      let own : kept_address n (32 * p) ≡ 32 * p = (address_laws n low).own Data (32 * p) (unfold limit_of in omega arith) in
      rw g (rw own at (up_to_address n whole c ExtendedRead 0xA5 (32 * p) ok skip (lit< tt) refl (omega arith)))

  pub visits : (c : Chip) (p : ℕ) → p < n → Ready n c → Visit n c p
  visits c p below ok =
      let img = c.image in
      let stream = subst (λ (l : List Bool). Sends n img (start_extended n (32 * p) (crc16_of (header 0xA5 (32 * p))) img) l Silent)
      (stream_is n img ok.sized p below low) ((read_laws n whole low).extended img (32 * p) (omega arith)) in
      let a = sent_in_two n img (visit_bits n img ok.sized p below low) _ stream in
      let b = sent_in_two n img (data_bits n img ok.sized p below low) _ a.back in
      let d = sent_in_two n img (crc_bits n img ok.sized p below low) _ b.back in
      let command = command_in c p below ok in
      let r : ℕ = redirection_of n img p in
      let wide : length (bits_of 8 r ++ bits_of 16 (crc_word (read_command p ++ (r ∷ [])))) ≡ 24 =
      omega (arith, length-append (bits_of 8 r) (bits_of 16 (crc_word (read_command p ++ (r ∷ [])))), bits_length 8 r, bits_length 16 (crc_word (read_command p ++ (r ∷ [])))) in
      let visit = command then read_out c 24 a.front wide (ready n whole ok command) in
      let ok₁ = ready n whole ok visit in
      let size : length (bits_of_bytes (page_bytes img p)) ≡ 256 = omega (arith, bytes_length (page_bytes img p), page_length n img p ok.sized below) in
      let bytes = read_out c 256 b.front size ok₁ in
      let ok₂ = ready n whole ok₁ bytes in
      let crc = read_out c 16 d.front (bits_length 16 (crc_word (page_bytes img p))) ok₂ in
      record {
        after = a.middle;
        visit = visit;
        page = bytes then crc then resets n whole (c at Memory d.middle) (ready n whole ok₂ crc);
      }
