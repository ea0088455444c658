-- The paper's table: a pulse ANDs the byte into its target, unless that is protected or a gap, and changes no other byte.
use Prim.Native.Nat.{ℕ, ◌+◌, ◌-◌, ◌*◌, ◌/◌, ◌%◌, ◌^◌, ◌<◌, ◌≤◌}
use mathlib.Core.Path.{◌≡◌, refl, ap, ◌∙◌}
use mathlib.Core.Bool.{Bool, true, false, cond, ◌||◌}
use mathlib.Core.Logic.{◌⊎◌, inl, inr, ⊎_elim}
use mathlib.Core.List.{List, []}
use native.Mathlib.Decide.{dec_lt, ℕ_discrete}
use native.Mathlib.Omega.{arith}
use lib.Bits.{bit_and}
use lib.ListN.{length, get_or, set, length-set}
use lib.Seq.{get_or-set_same, get_or-set_other}
use borrow.Author.Tests.{lt-ltb, le-ltb, eq-eqb}
use Rattle.base_types.specs.declared.address.Space.{Space}
use Rattle.base_types.specs.declared.address.Space.TheVariants.{Data as DataSpace, Status as StatusSpace}
use Rattle.base_types.specs.declared.address.Target.{Target}
use Rattle.base_types.specs.declared.write_mode.WriteMode.{WriteMode}
use Rattle.bus_events.specs.Events.{pulse}
use Rattle.chip_memory.specs.declared.layout.Field.{Field}
use Rattle.chip_memory.specs.declared.layout.Field.TheVariants.{DataProtection, RedirectionProtection}
use Rattle.chip_memory.specs.Layout.{first_address, image_size, is_image, is_within, is_held}
use Rattle.chip_memory.specs.Image.{data_byte, status_byte, target_byte, redirection_of, page_bit}
use Rattle.chip_memory.proofs.Gaps.{redirection_held as redirection-byte-held}
use Rattle.chip_memory.specs.Write.{bit_of, status_writable, is_writable, index_of, programmed}
use Rattle.chip_stage.specs.declared.stage.MemoryStage.TheVariants.{Armed}
use Rattle.chip_stage.specs.Limits.{limit_of, is_address, target_at, target_in_range}
use Rattle.chip_function.specs.Functions.{pulse_image}
use Rattle.chip_function.specs.Ranges.{memory_in_range}
use Rattle.chip_entries.specs.declared.event.Stage.TheVariants.{Memory}
use Rattle.chip_entries.specs.Event.{chip_in_range, image_after, pulse_image_of}
use Rattle.chip_entries.specs.Run.{Chip, next}
use Rattle.chip_entries.proofs.Kept.{next_is}
use Rattle.chip_session_laws.specs.Session.{◌at◌}
use Rattle.chip_session_laws.specs.Table.{address_end, place_of, bit, Gap, after_data, after_redirection_law, after_used, Writable, data_open, redirection_open}
use Rattle.chip_session_laws.specs.Table.{data_field, redirection_field, used_field, Unwritable, data_closed, redirection_closed, in_gap, Anded, Rule}
use Rattle.chip_session_laws.specs.Table.{armed_with, PulseLaws, ByteLaws}

-- ---- which status addresses hold something

or_true : (x : Bool) → (x || true) ≡ true
or_true true = refl
or_true false = refl

module _ (n : ℕ) where
  within : (first size a : ℕ) → first ≤ a → a - first < size → is_within first size a ≡ true
  unfolding is_within
  within first size a le lt = simp (le-ltb a first le, lt-ltb (a - first) size lt)

  below : (first size a : ℕ) → a < first → is_within first size a ≡ false
  unfolding is_within
  below first size a lt = simp (lt-ltb a first lt)

  above : (first size a : ℕ) → first ≤ a → size ≤ a - first → is_within first size a ≡ false
  unfolding is_within
  above first size a le ge = simp (le-ltb a first le, le-ltb (a - first) size ge)

  -- the three fields of bits ..
  pub data_held : (k : ℕ) → k < n / 8 → is_held n k ≡ true
  unfolding is_held first_address
  data_held k lt = simp (within 0x000 (n / 8) k (omega arith) (omega arith), or_true)

  pub redirection_held : (k : ℕ) → k < n / 8 → is_held n (0x020 + k) ≡ true
  unfolding is_held first_address
  redirection_held k lt = simp (within 0x020 (n / 8) (0x020 + k) (omega arith) (omega arith), or_true)

  pub used_held : (k : ℕ) → k < n / 8 → is_held n (0x040 + k) ≡ true
  unfolding is_held first_address
  used_held k lt = simp (within 0x040 (n / 8) (0x040 + k) (omega arith) (omega arith), or_true)

  -- .. and the gaps
  pub gap_unheld : {a : ℕ} → Gap n a → is_held n a ≡ false
  unfolding is_held first_address
  gap_unheld {a} (after_data le lt) =
      simp (below 0x100 n a (omega arith), above 0x000 (n / 8) a (omega arith) (omega arith), below 0x020 (n / 8) a (omega arith), below 0x040 (n / 8) a (omega arith))
  gap_unheld {a} (after_redirection_law le lt) =
      simp (below 0x100 n a (omega arith), above 0x000 (n / 8) a (omega arith) (omega arith), above 0x020 (n / 8) a (omega arith) (omega arith), below 0x040 (n / 8) a (omega arith))
  gap_unheld {a} (after_used le lt) =
      simp (below 0x100 n a (omega arith), above 0x000 (n / 8) a (omega arith) (omega arith), above 0x020 (n / 8) a (omega arith) (omega arith), above 0x040 (n / 8) a (omega arith) (omega arith))

  pub gap_low : {a : ℕ} → Gap n a → a < 0x100
  gap_low (after_data le lt) = omega arith
  gap_low (after_redirection_law le lt) = omega arith
  gap_low (after_used le lt) = lt

  -- ---- every address is in a row

  parity : (x : ℕ) → (x % 2 ≡ 1) ⊎ (x % 2 ≡ 0)
  parity x = go (ℕ_discrete (x % 2) 0)
    where
      go : Dec (x % 2 ≡ 0) → (x % 2 ≡ 1) ⊎ (x % 2 ≡ 0)
      go (yes e) = inr e
      go (no ne) = inl (omega arith)

  status_row : (img : List ℕ) (a : ℕ) → a < 0x100 + n → Writable n img StatusSpace a ⊎ Unwritable n img StatusSpace a
  status_row img a lt = go (dec_lt a (n / 8)) (dec_lt a 0x020) (dec_lt a (0x020 + n / 8)) (dec_lt a 0x040) (dec_lt a (0x040 + n / 8)) (dec_lt a 0x100)
    where
      go : Dec (a < n / 8) → Dec (a < 0x020) → Dec (a < 0x020 + n / 8) → Dec (a < 0x040) → Dec (a < 0x040 + n / 8) → Dec (a < 0x100)
          → Writable n img StatusSpace a ⊎ Unwritable n img StatusSpace a
      go (yes h) b c d e f = inl (data_field h)
      go (no g) (yes h) c d e f = inr (in_gap (after_data {a = a} (omega arith) h))
      go (no g) (no b) (yes h) d e f = inl (redirection_field {a = a} (omega arith) h)
      go (no g) (no b) (no c) (yes h) e f = inr (in_gap (after_redirection_law {a = a} (omega arith) h))
      go (no g) (no b) (no c) (no d) (yes h) f = inl (used_field {a = a} (omega arith) h)
      go (no g) (no b) (no c) (no d) (no e) (yes h) = inr (in_gap (after_used {a = a} (omega arith) h))
      go (no g) (no b) (no c) (no d) (no e) (no f) =
          let p = a - 0x100 in
          ⊎_elim (λ h. inl (redirection_open {a = a} p (omega arith) (omega arith) h)) (λ h. inr (redirection_closed {a = a} p (omega arith) (omega arith) h))
          (parity (get_or img (32 * n + (0x020 + p / 8)) 0 / 2 ^ (p % 8)))

  every : (img : List ℕ) (space : Space) (a : ℕ) → a < address_end n space → Writable n img space a ⊎ Unwritable n img space a
  every img DataSpace a lt = ⊎_elim (λ h. inl (data_open h)) (λ h. inr (data_closed h)) (parity (get_or img (32 * n + (0x000 + a / 32 / 8)) 0 / 2 ^ (a / 32 % 8)))
  every img StatusSpace a lt = status_row img a lt

  -- ---- what is read

  held_or_gap : (a : ℕ) → a < 0x100 + n → (is_held n a ≡ true) ⊎ Gap n a
  held_or_gap a lt = ⊎_elim (λ w. inl (open_held w)) closed_held (status_row [] a lt)
    where
      open_held : Writable n [] StatusSpace a → is_held n a ≡ true
      open_held (redirection_open p lp e b) = redirection-byte-held n a (omega arith) (omega arith)
      open_held (data_field h) = data_held a h
      open_held (redirection_field ge h) = ap (is_held n) (omega arith) ∙ redirection_held (a - 0x020) (omega arith)
      open_held (used_field ge h) = ap (is_held n) (omega arith) ∙ used_held (a - 0x040) (omega arith)

      closed_held : Unwritable n [] StatusSpace a → (is_held n a ≡ true) ⊎ Gap n a
      closed_held (redirection_closed p lp e b) = inl (redirection-byte-held n a (omega arith) (omega arith))
      closed_held (in_gap g) = inr g

  pub byte_laws : ByteLaws n
  unfolding data_byte status_byte target_byte redirection_of
  byte_laws =
      record {
        memory = λ img a lt. simp (lt-ltb a (32 * n) lt);
        status = λ img a lt no_gap. ⊎_elim (λ (h : is_held n a ≡ true). simp h) (λ (g : Gap n a). absurd (no_gap g)) (held_or_gap a lt);
        gap = λ img a g. simp (gap_unheld g);
        redirection = λ img p. refl;
        target_data = λ img a. refl;
        target_status = λ img a. refl;
      }

  -- ---- what is programmed

  module _ (img : List ℕ) (t : Target) (byte : ℕ) where
    anded : is_writable n img t ≡ true → index_of n t < length img → Anded img (programmed n img t byte) (index_of n t) byte
    unfolding programmed
    anded w lt =
        let i = index_of n t in
        let v = bit_and (get_or img i 0) byte in
        rw w
        (record {
          there = get_or-set_same img i v 0 lt;
          elsewhere = λ j ne. get_or-set_other img i j v 0 ne;
          as_long = length-set img i v;
        })

    same : is_writable n img t ≡ false → programmed n img t byte ≡ img
    unfolding programmed
    same w = simp w

    off_target : (j : ℕ) → (j ≡ index_of n t → ⊥) → get_or (programmed n img t byte) j 0 ≡ get_or img j 0
    unfolding programmed
    off_target j ne = go (is_writable n img t)
      where
        go : (b : Bool) → get_or (cond b (set img (index_of n t) (bit_and (get_or img (index_of n t) 0) byte)) img) j 0 ≡ get_or img j 0
        go true = get_or-set_other img (index_of n t) j (bit_and (get_or img (index_of n t) 0) byte) 0 ne
        go false = refl

  -- the bit of a page
  bit_one : (f : Field) (img : List ℕ) (p : ℕ) → p < n → bit img (32 * n + (first_address f + p / 8)) (p % 8) ≡ 1 → bit_of n f img p ≡ true
  unfolding bit_of page_bit
  bit_one f img p lt e = simp (lt-ltb p n lt, eq-eqb _ 1 e)

  bit_zero : (f : Field) (img : List ℕ) (p : ℕ) → p < n → bit img (32 * n + (first_address f + p / 8)) (p % 8) ≡ 0 → bit_of n f img p ≡ false
  unfolding bit_of page_bit
  bit_zero f img p lt e = simp (lt-ltb p n lt, e)

  module _ (img : List ℕ) (a : ℕ) where
    low : a < 0x100 → is_writable n img (target_at StatusSpace a) ≡ is_held n a
    unfolding is_writable target_at status_writable
    low h = simp (lt-ltb a 0x100 h)

    high : (p : ℕ) → a ≡ 0x100 + p → is_writable n img (target_at StatusSpace a) ≡ bit_of n RedirectionProtection img p
    unfolding is_writable target_at status_writable
    high p e =
        let le : 0x100 ≤ a = omega arith in
        let d : a - 0x100 ≡ p = omega arith in
        simp (le-ltb a 0x100 le, d)

  module _ (fits : n ≤ 256) where
    opens : (img : List ℕ) {space : Space} {a : ℕ} → Writable n img space a → a < address_end n space → is_writable n img (target_at space a) ≡ true
    unfolding first_address
    opens img (data_open {a = a} e) lt = unfold is_writable target_at in bit_one DataProtection img (a / 32) (omega arith) e
    opens img (redirection_open {a = a} p lp e b) lt = high img a p e ∙ bit_one RedirectionProtection img p lp b
    opens img (data_field {a = a} h) lt = low img a (omega arith) ∙ data_held a h
    opens img (redirection_field {a = a} ge h) lt = low img a (omega arith) ∙ ap (is_held n) (omega arith) ∙ redirection_held (a - 0x020) (omega arith)
    opens img (used_field {a = a} ge h) lt = low img a (omega arith) ∙ ap (is_held n) (omega arith) ∙ used_held (a - 0x040) (omega arith)

    closes : (img : List ℕ) {space : Space} {a : ℕ} → Unwritable n img space a → a < address_end n space → is_writable n img (target_at space a) ≡ false
    unfolding first_address
    closes img (data_closed {a = a} e) lt = unfold is_writable target_at in bit_zero DataProtection img (a / 32) (omega arith) e
    closes img (redirection_closed {a = a} p lp e b) lt = high img a p e ∙ bit_zero RedirectionProtection img p lp b
    closes img (in_gap {a = a} g) lt = low img a (gap_low g) ∙ gap_unheld g

  pub place_is : (space : Space) (a : ℕ) → index_of n (target_at space a) ≡ place_of n space a
  unfolding index_of target_at
  place_is DataSpace a = refl
  place_is StatusSpace a = refl

  in_image : (space : Space) (a : ℕ) → a < address_end n space → place_of n space a < 32 * n + (0x100 + n)
  in_image DataSpace a lt = omega arith
  in_image StatusSpace a lt = omega arith

  -- a byte for an address goes by the rows, and alters nothing else
  pub rule : n ≤ 256 → (img : List ℕ) (space : Space) (a byte : ℕ) → length img ≡ 32 * n + (0x100 + n) → a < address_end n space
      → Rule n space img (programmed n img (target_at space a) byte) a byte
  rule fits img space a byte l lt =
      record {
        written = λ w.
            rw (place_is space a) at
            (anded img (target_at space a) byte (opens fits img w lt) (rw (place_is space a, l) (in_image space a lt)));
        left = λ u. same img (target_at space a) byte (closes fits img u lt);
      }

  pub elsewhere_one : (space : Space) (img : List ℕ) (a byte j : ℕ) → (j ≡ place_of n space a → ⊥) → get_or (programmed n img (target_at space a) byte) j 0 ≡ get_or img j 0
  elsewhere_one space img a byte j ne = off_target img (target_at space a) byte j (λ e. ne (e ∙ place_is space a))

  -- ---- a pulse

  pub limit_is : (space : Space) → limit_of n space ≡ address_end n space
  unfolding limit_of
  limit_is DataSpace = refl
  limit_is StatusSpace = refl

  target_in : (space : Space) (a : ℕ) → a < address_end n space → target_in_range n (target_at space a) ≡ true
  unfolding target_in_range target_at is_address limit_of
  target_in DataSpace a lt = lt-ltb a (32 * n) lt
  target_in StatusSpace a lt = lt-ltb a (0x100 + n) lt

  armed_is : (c : Chip) (mode : WriteMode) (space : Space) (a byte : ℕ) → armed_with c mode space a byte ≡ c at Memory (Armed mode (target_at space a) byte)
  unfolding target_at
  armed_is c mode DataSpace a byte = refl
  armed_is c mode StatusSpace a byte = refl

  -- on an armed chip within its ranges
  pulsed : (c : Chip) (mode : WriteMode) (t : Target) (byte : ℕ) → length c.image ≡ image_size n → target_in_range n t ≡ true
      → (next n (c at Memory (Armed mode t byte)) pulse).image ≡ programmed n c.image t byte
  unfolding is_image chip_in_range memory_in_range image_after pulse_image_of pulse_image
  pulsed c mode t byte l r =
      ap (λ (d : Chip). d.image) (next_is n (c at Memory (Armed mode t byte)) (eq-eqb (length c.image) (image_size n) l) r pulse)

  pub pulse_laws : n ≤ 256 → PulseLaws n
  pulse_laws fits =
      record {
        every = every;
        pulse = λ c mode space a byte l lt.
            rw (armed_is c mode space a byte, pulsed c mode (target_at space a) byte l (target_in space a lt)) (rule fits c.image space a byte l lt);
      }
