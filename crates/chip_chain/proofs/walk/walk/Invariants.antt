use Prim.Native.Nat.{◌-◌}
use mathlib.Core.Path.{◌≡◌}
use Rattle.chip_memory.specs.Layout.{page_count}
use Rattle.chip_memory.specs.Image.{redirection_of}
use Rattle.chip_chain.specs.Walk.{walk_from, walk_of}
use Rattle.chip_chain.proofs.walk.walk.Given as goal

-- the walk that is left tells what the whole walk tells
abbrev pub invariant-loop-hops : goal.invariant-loop-hops
invariant-loop-hops l = let n = page_count l.memory.last in
    let img = l.memory.image.now in
    walk_from (redirection_of n img) n (n - l.hops) l.at.0 l.hops ≡ walk_of n img l.initial.at.0
