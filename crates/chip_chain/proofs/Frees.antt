-- What the computed tests for a free page mean.
use Prim.Native.Nat.{ℕ, ◌<◌, ◌≤◌}
use mathlib.Core.Path.{◌≡◌, refl, sym, ◌∙◌}
use mathlib.Core.Bool.{Bool, true, false, not}
use mathlib.Core.List.{List}
use native.Mathlib.Omega.{arith}
use lib.Dec.{eqb}
use borrow.Author.Tests.{eqb-true, eqb-false, not-true, eq-eqb, ne_eqb}
use Rattle.chip_memory.specs.Layout.{first_address}
use Rattle.chip_memory.specs.Image.{redirection_of, page_bit}
use Rattle.std.specs.Prelude.{Some, None}
use Rattle.chip_chain.specs.Walk.{named_by}
use Rattle.chip_chain.specs.Free.{names, is_unnamed, is_free, is_free_other, lowest_free, Free, Lowest, FreeLaws}
use Rattle.base_types.proofs.Scan.{both_true, every_means, every_intro}
use Rattle.chip_chain.proofs.Scan.{first_at, first_nothing}

pub free_means : (n : ℕ) (img : List ℕ) (p : ℕ) → is_free n img p ≡ true → Free n img p
unfolding is_free is_unnamed
free_means n img p e =
    let a = both_true _ _ e in
    let b = both_true _ _ a.1 in
    let c = both_true _ _ b.1 in
    let d = both_true _ _ c.1 in
    let f = both_true _ _ d.1 in
    let z : p ≡ 0 → ⊥ = eqb-false p 0 (not-true _ a.0) in
    record {
      low = omega arith;
      unused = b.0;
      unprotected = c.0;
      valid = eqb-true _ _ d.0;
      blank = f.0;
      unnamed = λ q lt. not-true _ (every_means (λ (r : ℕ). not (names (redirection_of n img r) p)) n 0 f.1 q (omega arith) (omega arith));
    }

pub means_free : (n : ℕ) (img : List ℕ) (p : ℕ) → Free n img p → is_free n img p ≡ true
unfolding is_free is_unnamed
means_free n img p f =
    let u : is_unnamed n img p ≡ true = every_intro (λ (r : ℕ). not (names (redirection_of n img r) p)) n 0 (λ q a b. simp (f.unnamed q (omega arith))) in
    let z : eqb p 0 ≡ false = ne_eqb p 0 (λ w. omega (arith, f.low)) in
    simp (z, f.unused, f.unprotected, eq-eqb _ _ f.valid, f.blank) u

-- a free page that fails the search's test is l
is_l : (n : ℕ) (img : List ℕ) (l p : ℕ) → Free n img p → is_free_other n img l p ≡ false → p ≡ l
unfolding is_free_other
is_l n img l p f e = go (eqb p l) refl
  where
    go : (b : Bool) → eqb p l ≡ b → p ≡ l
    go true z = eqb-true p l z
    go false z = let r : ◌≡◌ {A = Bool} true false = simp (z, means_free n img p f) at e in absurd (cc)

-- a byte that names no page p ≥ 1 names another one
pub named_elsewhere : (byte p : ℕ) → 1 ≤ p → names byte p ≡ false → named_by byte ≡ p → ⊥
named_elsewhere byte p low e z =
    let s : names byte p ≡ true = simp (ne_eqb byte 255 (λ w. omega arith), eq-eqb _ _ z) in
    let y : ◌≡◌ {A = Bool} true false = sym s ∙ e in
    cc

pub found_means : (n : ℕ) (img : List ℕ) (l t : ℕ) → lowest_free n img l ≡ Some (record { 0 = t }) → Lowest n img l t
unfolding lowest_free is_free_other
found_means n img l t e =
    let f = first_at (is_free_other n img l) n 0 t e in
    let w = both_true (not (eqb t l)) (is_free n img t) f.holds in
    record {
      on_chip = omega (arith, f.high);
      free = free_means n img t w.1;
      apart = eqb-false t l (not-true _ w.0);
      below = λ p lt fr. is_l n img l p fr (f.before p (omega arith) lt);
    }

-- no page found: there is none
pub nothing_means : (n : ℕ) (img : List ℕ) (l : ℕ) → lowest_free n img l ≡ None → (p : ℕ) → p < n → Free n img p → p ≡ l
unfolding lowest_free
nothing_means n img l e p lt f = is_l n img l p f (first_nothing (is_free_other n img l) n 0 e p (omega arith) (omega arith))

pub free_laws : (n : ℕ) (img : List ℕ) → FreeLaws n img
unfolding page_bit redirection_of first_address
free_laws n img =
    record {
      free_means = free_means n img;
      means_free = means_free n img;
      found_means = found_means n img;
      used_bit = λ p. refl;
      protection_bit = λ p. refl;
      redirection_byte = λ p. refl;
      nothing_means = nothing_means n img;
    }
