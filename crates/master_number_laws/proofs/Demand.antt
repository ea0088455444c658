-- The number read's laws over whole runs.
use Prim.Native.Nat.{ℕ, ◌%◌}
use mathlib.Core.Path.{◌≡◌}
use Rattle.bus_scripts.proofs.Scripts.{script_laws}
use Rattle.master_number.specs.NumberRead.{number_answer, number_state}
use Rattle.master_number_laws.specs.Laws.{NumberLaws}
use Rattle.master_number_laws.proofs.Ranges.{number_starts, number_keeps, number_listed, number_outside, number_never_2}
use Rattle.master_number_laws.proofs.Plays.{number_plays}
use Rattle.master_number_laws.proofs.Derived.{number_counted, number_ordered, number_agreed, number_image_stays, number_joined}

pub number_laws : (n : ℕ) → n % 8 ≡ 0 → NumberLaws n
number_laws n whole =
    record {
      starts = number_starts;
      keeps = number_keeps;
      listed = number_listed;
      outside = number_outside;
      never_2 = number_never_2;
      plays = number_plays;
      counted = number_counted;
      ordered = number_ordered;
      agreed = number_agreed;
      image_stays = number_image_stays n;
      plays_on = λ react line b replies good. script_laws.on_bus react line number_state number_answer number_plays b replies good;
      joined = λ c replies ok small good. number_joined n whole c ok small replies good;
    }
