use Rattle.std.proofs.Common.{◌≡◌, length, rules}
use Rattle.plug_master_packing.specs.Publisher.{publisher_buffer, publisher_bytes}
use Rattle.plug_master_packing.proofs.Publisher.{publisher_stored}
use Rattle.plug_master_packing.proofs.publisher_state.pack.Goals as goal

pub returns-clause-bytes : goal.returns-clause-bytes
unfolding publisher_buffer publisher_bytes
returns-clause-bytes c =
    let len : length c.args.state.new ≡ 32 = search rules in
    let mode = c.mode_byte.ensures in
    rw (len, c.front_of-front.ensures, mode, publisher_stored) at c.put.ensures.bytes
