-- One turn, with the last of the tables that are left.
use Rattle.crc.proofs.Left.{last_table}
use Rattle.crc.proofs.shifts.Goals as goal

pub loop-table-preserved : goal.loop-table-preserved
loop-table-preserved g c =
    let loop' = c.loop-table in
    last_table loop'.table-iterator.iter.rest.now c.next.new.self.iter.rest.now c.in-Some.table.now g.row.N _ loop'.above loop'.left c.in-Some.ensures.steps
    loop'.invariant.0 loop'.invariant.1 c.requires loop'.invariant.2
