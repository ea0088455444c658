-- `base_crc::crc16::step_by_nibbles` meets its contract: the mask 15 is the remainder by 16.
use mathlib.Core.Path.{◌≡◌, ap, ap₂, ◌∙◌}
use Prim.Native.Nat.{ℕ, ◌/◌, ◌%◌}
use borrow.Author.Rules.{rules}
use lib.Bits.{bit_xor, and_mask}
use lib.ListN.{get_or}
use Rattle.base_crc.specs.Table.{entry_index, step_by_nibbles}
use Rattle.base_crc.proofs.crc16.step_by_nibbles.Goals as goal

pub returns : goal.returns
unfolding step_by_nibbles
returns c = let args = c.args in
    let place = get_or c.to_le_bytes.result 0 0 in
    let low : place ≡ entry_index args.reg args.byte = search rules in
    ap₂ (λ (j k : ℕ). bit_xor (args.reg / 256) (bit_xor (get_or args.low.now j 0) (get_or args.high.now k 0)))
    (and_mask place 4 ∙ ap (λ (x : ℕ). x % 16) low) (ap (λ (x : ℕ). x / 16) low)
