use Rattle.std.proofs.Common.{◌≡◌, length, rules}
use Rattle.plug_master_packing.specs.Page.{page_buffer, page_read_bytes}
use Rattle.plug_master_packing.proofs.Page.{page_stored}
use Rattle.plug_master_packing.proofs.page_state.pack.Goals as goal

pub returns-clause-bytes : goal.returns-clause-bytes
unfolding page_buffer page_read_bytes
returns-clause-bytes c =
    let len : length c.args.state.bytes ≡ 32 = search rules in
    rw (len, c.front_of-front.ensures, page_stored) at c.put.ensures.bytes
