-- A whole write in plain numbers: the image afterwards, byte for byte, and what the events draw.
use Prim.Native.Nat.{ℕ, zero, suc, ◌+◌, ◌*◌, ◌/◌, ◌%◌, ◌<◌, ◌≤◌}
use mathlib.Core.Path.{◌≡◌, refl, ap, ◌∙◌}
use mathlib.Core.Bool.{Bool, false}
use mathlib.Core.List.{List, [], ◌∷◌, ◌++◌}
use native.Mathlib.Nat.{add-zero}
use native.Mathlib.Omega.{arith}
use lib.Bits.{bit_and}
use lib.ListN.{length, get_or}
use Rattle.base_types.specs.Bits.{bits_of_bytes}
use Rattle.base_types.specs.declared.address.Space.{Space}
use Rattle.base_types.specs.declared.address.Space.TheVariants.{Data, Status}
use Rattle.base_types.specs.declared.write_mode.WriteMode.{WriteMode}
use Rattle.base_types.specs.declared.write_mode.WriteMode.TheVariants.{Ordinary, Quick}
use Rattle.base_types.specs.WriteMode.{write_command}
use Rattle.base_crc.specs.Crc.{crc16_of}
use Rattle.chip_memory.specs.Write.{programmed}
use Rattle.chip_memory.proofs.Gaps.{programmed_length}
use Rattle.chip_stage.specs.Limits.{limit_of, target_at}
use Rattle.chip_stage.proofs.Addresses.{limit_fits}
use Rattle.chip_function_laws.specs.Streams.{header}
use Rattle.chip_function_laws.specs.Writes.{written_from}
use Rattle.chip_function_laws.proofs.Addresses.{address_laws}
use Rattle.chip_entries.specs.Run.{Chip, run}
use Rattle.chip_session_laws.specs.Session.{Ready, ◌at◌, ◌holding◌, Reaches, Selection, WriteCycle, cycle_bytes, cycle_lines, byte_of, before_byte}
use Rattle.chip_session_laws.specs.Table.{address_end, place_of, Writable, data_open, redirection_open, data_field, redirection_field, used_field}
use Rattle.chip_session_laws.specs.Table.{Unwritable, data_closed, redirection_closed, in_gap}
use Rattle.chip_session_laws.specs.Written.{Written, session, Writes, WrittenLaws}
use Rattle.chip_session_laws.proofs.Places.{elsewhere, written_length, later_kept, one_place}
use Rattle.chip_session_laws.proofs.Table.{rule, elsewhere_one, limit_is}
use Rattle.chip_session_laws.proofs.Writes.{cycles_written}

cycles_length : {mode : WriteMode} (cycles : List (WriteCycle mode)) → length (cycle_bytes cycles) ≡ length cycles
cycles_length [] = refl
cycles_length (t ∷ ts) = ap suc (cycles_length ts)

module _ (n : ℕ) where
  -- ---- the bits that guard an address are not written from there on

  open_before : (bytes img : List ℕ) {space : Space} {a : ℕ} → a + length bytes ≤ address_end n space → Writable n (written_from n img space a bytes) space a → Writable n img space a
  open_before bytes img le (data_open {a = a} e) = data_open (rw (elsewhere n Data bytes img a (32 * n + (0x000 + a / 32 / 8)) (λ i lt z. omega arith)) at e)
  open_before bytes img le (redirection_open {a = a} p lp z e) =
      redirection_open p lp z (rw (elsewhere n Status bytes img a (32 * n + (0x020 + p / 8)) (λ i lt y. omega arith)) at e)
  open_before bytes img le (data_field h) = data_field h
  open_before bytes img le (redirection_field ge h) = redirection_field ge h
  open_before bytes img le (used_field ge h) = used_field ge h

  closed_before : (bytes img : List ℕ) {space : Space} {a : ℕ} → a + length bytes ≤ address_end n space → Unwritable n (written_from n img space a bytes) space a → Unwritable n img space a
  closed_before bytes img le (data_closed {a = a} e) = data_closed (rw (elsewhere n Data bytes img a (32 * n + (0x000 + a / 32 / 8)) (λ i lt z. omega arith)) at e)
  closed_before bytes img le (redirection_closed {a = a} p lp z e) =
      redirection_closed p lp z (rw (elsewhere n Status bytes img a (32 * n + (0x020 + p / 8)) (λ i lt y. omega arith)) at e)
  closed_before bytes img le (in_gap g) = in_gap g

  -- ---- each byte

  module _ (fits : n ≤ 256) (space : Space) where
    abbrev there : ℕ → ℕ
    there a = place_of n space a

    -- what the two rows say of byte i, in an image new after an image img
    abbrev Byte : List ℕ → List ℕ → List ℕ → ℕ → ℕ → Type 0
    Byte img new bytes a i =
        (Writable n new space (a + i) → get_or new (there (a + i)) 0 ≡ bit_and (get_or img (there (a + i)) 0) (get_or bytes i 0))
        × (Unwritable n new space (a + i) → get_or new (there (a + i)) 0 ≡ get_or img (there (a + i)) 0)

    each : (bytes img : List ℕ) (a : ℕ) → length img ≡ 32 * n + (0x100 + n) → a + length bytes ≤ address_end n space
        → (i : ℕ) → i < length bytes → Byte img (written_from n img space a bytes) bytes a i
    unfolding written_from
    each [] img a l le i lt = absurd (omega arith)
    each (b ∷ bs) img a l le zero lt =
        let mid = programmed n img (target_at space a) b in
        let own = rule n fits img space a b l (omega arith) in
        let kept = later_kept n space bs mid a in
        rw (add-zero a) (
          (λ w. kept ∙ (own.written (open_before (b ∷ bs) img le w)).there),
          (λ u. kept ∙ ap (λ (x : List ℕ). get_or x (there a) 0) (own.left (closed_before (b ∷ bs) img le u))),
        )
    each (b ∷ bs) img a l le (suc i) lt =
        let up : a + suc i ≡ a + 1 + i = omega arith in
        let later = each bs (programmed n img (target_at space a) b) (a + 1) (programmed_length n img (target_at space a) b ∙ l) (omega arith) i (omega arith) in
        let kept = elsewhere_one n space img a b (there (a + 1 + i)) (λ e. let same = one_place n space (a + 1 + i) a e in omega arith) in
        rw up ((λ w. later.0 w ∙ ap (λ x. bit_and x (get_or bs i 0)) kept), (λ u. later.1 u ∙ kept))

    is_image_lem : (bytes img : List ℕ) (a : ℕ) → length img ≡ 32 * n + (0x100 + n) → a + length bytes ≤ address_end n space
        → Written n space img (written_from n img space a bytes) a bytes
    is_image_lem bytes img a l le =
        record {
          written = λ i lt. (each bytes img a l le i lt).0;
          left = λ i lt. (each bytes img a l le i lt).1;
          elsewhere = elsewhere n space bytes img a;
          as_long = written_length n space bytes img a;
        }

  -- ---- the four commands

  module _ (whole : n % 8 ≡ 0) (fits : n ≤ 256) (mode : WriteMode) (space : Space) where
    module _ (c : Chip) {ms ls : List Bool} (a : ℕ) (cycles : List (WriteCycle mode)) (ok : Ready n c) (sel : Selection c.state.number ms ls)
        (some : 0 < length cycles) (le : a + length cycles ≤ address_end n space) where
      room : a + length cycles ≤ limit_of n space
      room = rw (limit_is n space) le

      goes : Reaches n c (session ms (write_command mode space) a cycles)
          (false ∷ ((ls ++ bits_of_bytes (header (write_command mode space) a))
          ++ cycle_lines (byte_of n (written_from n c.image space a (cycle_bytes cycles)) space) a (crc16_of (header (write_command mode space) a)) cycles))
          ((c at before_byte n mode space (a + length cycles)) holding written_from n c.image space a (cycle_bytes cycles))
      goes =
          let own = (address_laws n fits).own space a (omega (arith, room)) in
          rw own at (cycles_written n whole c mode space a cycles ok sel (omega (arith, limit_fits n space fits, room)) (rw own room) some)

      leaves : (run n c (session ms (write_command mode space) a cycles)).image ≡ written_from n c.image space a (cycle_bytes cycles)
      leaves = ap (λ (d : Chip). d.image) goes.there

    writes : Writes n mode space (write_command mode space)
    writes =
        record {
          image = λ c {ms} {ls} a cycles ok sel some le.
              rw (leaves c a cycles ok sel some le)
              (is_image_lem fits space (cycle_bytes cycles) c.image a ok.sized (rw (cycles_length cycles) le));
          told = λ c {ms} {ls} a cycles ok sel some le. rw (leaves c a cycles ok sel some le) (goes c a cycles ok sel some le).told;
        }

  pub written_laws : n % 8 ≡ 0 → n ≤ 256 → WrittenLaws n
  written_laws whole fits =
      record {
        memory = writes whole fits Ordinary Data;
        status = writes whole fits Ordinary Status;
        quick_memory = writes whole fits Quick Data;
        quick_status = writes whole fits Quick Status;
      }
