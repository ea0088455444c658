-- What is asked of a page's bytes.
use Rattle.std.specs.Prelude.{ℕ, Bool, true, ◌&&◌, List, [], ◌∷◌, eqb}

-- they are all FFh
unfoldable pub is_blank : List ℕ → Bool
is_blank [] = true
is_blank (b ∷ bs) = eqb b 0xFF && is_blank bs

-- a buffer with these bytes put over its first ones, as far as both go
unfoldable pub copied : List ℕ → List ℕ → List ℕ
copied [] old = old
copied (b ∷ bs) [] = []
copied (b ∷ bs) (o ∷ old) = b ∷ copied bs old
