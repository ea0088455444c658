-- The eight bytes of a number.
use Prim.Native.Nat.{ℕ, suc, ◌<◌}
use mathlib.Core.Path.{◌≡◌, sym, ap, ◌∙◌}
use mathlib.Core.List.{List, ◌∷◌}
use native.Mathlib.Omega.{arith}
use lib.ListN.{length, get_or, drop, drop_of_length-le}
use lib.Seq.{drop-cons}
use Rattle.plug_answers.specs.Answers.{eight_of}

module _ (b : List ℕ) where
  place : (k : ℕ) (rest : List ℕ) → k < length b → rest ≡ drop (suc k) b → get_or b k 0 ∷ rest ≡ drop k b
  place k rest h e = ap (λ (r : List ℕ). get_or b k 0 ∷ r) e ∙ sym (drop-cons b k 0 h)

  pub eight_is : length b ≡ 8 → eight_of b ≡ b
  unfolding eight_of
  eight_is l =
      place 0 _ (omega arith)
      (place 1 _ (omega arith)
      (place 2 _ (omega arith)
      (place 3 _ (omega arith)
      (place 4 _ (omega arith)
      (place 5 _ (omega arith)
      (place 6 _ (omega arith)
      (place 7 _ (omega arith) (sym (drop_of_length-le b {i = 8} (omega arith))))))))))
