-- Changes at the ends of the range of values, and numbers that are none. One statement covers them.
use Rattle.std.specs.Prelude.{refl, List, [], ◌∷◌, ℤ, pos, neg_ℤ}
use Rattle.base_types.specs.Outcome.{Outcome, refused, accepted}
use Rattle.base_types.specs.Rows.{Row, ◌gives◌, Hold}
use Rattle.base_tenths.specs.Tenths.{signed_of, is_value, fold_of, change_answer}

pub change_rows : List (Row (Outcome ℤ))
change_rows =
    -- over the ends, one tenth
    (change_answer (pos 1799) (neg_ℤ (pos 1800)) gives accepted (pos 1))
    ∷ (change_answer (neg_ℤ (pos 1800)) (pos 1799) gives accepted (neg_ℤ (pos 1)))
    -- 1799 stays, and 1800 is -1800
    ∷ (change_answer (pos 0) (pos 1799) gives accepted (pos 1799))
    ∷ (change_answer (neg_ℤ (pos 1)) (pos 1799) gives accepted (neg_ℤ (pos 1800)))
    -- -1800 stays, and -1801 is 1799
    ∷ (change_answer (pos 0) (neg_ℤ (pos 1800)) gives accepted (neg_ℤ (pos 1800)))
    ∷ (change_answer (pos 1) (neg_ℤ (pos 1800)) gives accepted (pos 1799))
    -- 7FFFh, and the numbers next to the ends
    ∷ (change_answer (signed_of 0x7FFF) (pos 0) gives refused 19 [])
    ∷ (change_answer (pos 0) (pos 1800) gives refused 19 [])
    ∷ (change_answer (neg_ℤ (pos 1801)) (pos 0) gives refused 19 [])
    ∷ []

pub change_rows_hold : Hold change_rows
unfolding change_rows change_answer is_value fold_of signed_of
change_rows_hold = refl
