-- `base_crc::crc16::run` meets its contract: the bytes that are left go into the register as all of them do at the start.
use mathlib.Core.Path.{ap, ◌∙◌}
use mathlib.Core.List.{List}
use Prim.Native.Nat.{ℕ}
use lib.Bits.{bit_xor}
use lib.ListN.{get_or}
use Rattle.base_crc.specs.Polynomial.{crc16_polynomial}
use Rattle.base_crc.specs.Crc.{crc16_byte, crc16_from}
use Rattle.base_crc.proofs.Steps.{next_byte, done_bytes}
use Rattle.base_crc.proofs.Table.{kept_first, kept_next}
use borrow.Author.Rules.{rules}
use Rattle.base_crc.proofs.crc16.run.Invariants.{kept}
use Rattle.base_crc.proofs.crc16.run.Goals as goal

pub loop-b-init : goal.loop-b-init
loop-b-init c = let args = c.args in
    (search rules, ap (λ (r : ℕ). crc16_from r args.bytes.now) (kept_first crc16_polynomial args.reg))

pub loop-b-preserved : goal.loop-b-preserved
loop-b-preserved c = let bytes : List ℕ = c.args.bytes.now in
    let byte : ℕ = get_or bytes c.loop-b.b-index 0 in
    let rest : ℕ = c.loop-b.rest in
    let place : ℕ = c.loop-b.place in
    let entry : ℕ = get_or c.table-entries.result place 0 in (
      search rules,
      next_byte crc16_polynomial (kept rest place) bytes c.loop-b.b-index (search rules)
          (kept_next crc16_polynomial rest byte entry (search rules)
          ∙ ap (λ (l : List ℕ). crc16_byte (bit_xor rest (get_or l place 0)) byte) c.table-entries.ensures)
          ∙ c.loop-b.invariant.1,
    )

pub returns : goal.returns
returns c = let place : ℕ = c.loop-b.place in
    ap (λ (l : List ℕ). bit_xor c.loop-b.rest (get_or l place 0)) c.table-entries.ensures
    ∙ done_bytes crc16_polynomial (kept c.loop-b.rest place) c.args.bytes.now c.loop-b.b-index (search rules)
    ∙ c.loop-b.invariant.1
