-- The verdicts of the walk by name. Definitions and laws build verdicts by these names, so that a further value of one shows in few places.
use Rattle.std.specs.Prelude.{ℕ}
use Rattle.base_types.specs.declared.verdict.Verdict.{Verdict}
use Rattle.base_types.specs.declared.verdict.Verdict.TheVariants.{Final, Loop, Outside}

-- the walk ends at a valid page, after so many hops
abbrev pub final : ℕ → ℕ → Verdict
final page hops = Final (record { 0 = page }) hops

-- the chain never ends
abbrev pub loops : Verdict
loops = Loop

-- a byte names a number that is no page of the chip
abbrev pub outside : ℕ → Verdict
outside number = Outside number
