use Prim.Native.Nat.{ℕ, ◌-◌}
use mathlib.Core.Path.{◌≡◌}
use mathlib.Core.Bool.{not}
use Rattle.base_types.specs.Scan.{every}
use Rattle.chip_memory.specs.Layout.{page_count}
use Rattle.chip_memory.specs.Image.{redirection_of}
use Rattle.chip_chain.specs.Free.{names, is_unnamed}
use Rattle.chip_chain.proofs.free.is_unnamed.Given as goal

-- the page is unnamed where the bytes that are left do not name it
abbrev pub invariant-loop-q : goal.invariant-loop-q
invariant-loop-q l = let n = page_count l.memory.last in
    is_unnamed n l.memory.image.now l.p.0 ≡ every (λ (r : ℕ). not (names (redirection_of n l.memory.image.now r) l.p.0)) (n - l.q) l.q
