use native.Mathlib.Omega.{arith}
use Rattle.program_text.specs.Numeral.{is_digit}
use Rattle.program_text.proofs.Numerals.{digits_step, next_below, eight_below}
use Rattle.program_text.proofs.numeral.digits.Goals as goal

-- fewer than nine digits came before it
pub overflow_mul-value : goal.overflow_mul-value
overflow_mul-value c = let l = c.loop-byte in omega (arith, eight_below l.value l.byte-index l.invariant.0 (omega arith))

pub overflow_add-value : goal.overflow_add-value
overflow_add-value c = let l = c.loop-byte in omega (arith, eight_below l.value l.byte-index l.invariant.0 (omega arith))

pub loop-byte-preserved : goal.loop-byte-preserved
unfolding is_digit
loop-byte-preserved c =
    let l = c.loop-byte in
    (next_below l.value l.byte-index _ l.invariant.0 (grind arith), grind (arith, digits_step))
