-- Bytes written from an address on alter nothing but the places of their own addresses, each once.
use Prim.Native.Nat.{ℕ, suc, ◌+◌, ◌<◌}
use mathlib.Core.Path.{◌≡◌, refl, ap, ◌∙◌}
use mathlib.Core.List.{List, [], ◌∷◌}
use native.Mathlib.Omega.{arith}
use lib.ListN.{length, get_or}
use Rattle.base_types.specs.declared.address.Space.{Space}
use Rattle.base_types.specs.declared.address.Space.TheVariants.{Data, Status}
use Rattle.chip_memory.specs.Image.{data_byte, status_byte, target_byte}
use Rattle.chip_memory.specs.Write.{programmed}
use Rattle.chip_memory.proofs.Gaps.{programmed_length}
use Rattle.chip_stage.specs.Limits.{target_at}
use Rattle.chip_function_laws.specs.Writes.{written_from}
use Rattle.chip_session_laws.specs.Session.{byte_of}
use Rattle.chip_session_laws.specs.Table.{place_of}
use Rattle.chip_session_laws.proofs.Table.{elsewhere_one}

module _ (n : ℕ) where
  pub byte_is : (img : List ℕ) (space : Space) (a : ℕ) → byte_of n img space a ≡ target_byte n img (target_at space a)
  unfolding target_byte target_at
  byte_is img Data a = refl
  byte_is img Status a = refl

  -- what is read of an address goes by the byte at its place
  byte_same : (x y : List ℕ) (space : Space) (a : ℕ) → get_or x (place_of n space a) 0 ≡ get_or y (place_of n space a) 0 → byte_of n x space a ≡ byte_of n y space a
  unfolding data_byte status_byte
  byte_same x y Data a e = rw e
  byte_same x y Status a e = rw e

  module _ (space : Space) where
    pub one_place : (x y : ℕ) → place_of n space x ≡ place_of n space y → x ≡ y
    one_place = go space
      where
        go : (s : Space) (x y : ℕ) → place_of n s x ≡ place_of n s y → x ≡ y
        go Data x y e = e
        go Status x y e = omega arith

    pub elsewhere : (bytes img : List ℕ) (a j : ℕ) → ((i : ℕ) → i < length bytes → j ≡ place_of n space (a + i) → ⊥)
        → get_or (written_from n img space a bytes) j 0 ≡ get_or img j 0
    unfolding written_from
    elsewhere [] img a j free = refl
    elsewhere (b ∷ bs) img a j free =
        elsewhere bs (programmed n img (target_at space a) b) (a + 1) j (λ i lt e. free (suc i) (omega arith) (e ∙ ap (place_of n space) (omega arith)))
        ∙ elsewhere_one n space img a b j (λ e. free 0 (omega arith) (e ∙ ap (place_of n space) (omega arith)))

    pub written_length : (bytes img : List ℕ) (a : ℕ) → length (written_from n img space a bytes) ≡ length img
    unfolding written_from
    written_length [] img a = refl
    written_length (b ∷ bs) img a = written_length bs (programmed n img (target_at space a) b) (a + 1) ∙ programmed_length n img (target_at space a) b

    -- the later bytes leave the one before them
    pub later_kept : (bytes img : List ℕ) (a : ℕ) → get_or (written_from n img space (a + 1) bytes) (place_of n space a) 0 ≡ get_or img (place_of n space a) 0
    later_kept bytes img a = elsewhere bytes img (a + 1) (place_of n space a) (λ i lt e. let same = one_place a (a + 1 + i) e in omega arith)

    pub stays_read : (img : List ℕ) (a : ℕ) (bytes : List ℕ) → byte_of n (written_from n img space (a + 1) bytes) space a ≡ target_byte n img (target_at space a)
    stays_read img a bytes = byte_same _ img space a (later_kept bytes img a) ∙ byte_is img space a
