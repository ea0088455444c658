use Rattle.std.proofs.Common.{◌≤◌}
use Rattle.program_listing.proofs.read.Given as goal

abbrev pub invariant-loop : goal.invariant-loop
invariant-loop g l = l.size ≤ 2393
