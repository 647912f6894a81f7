-- `others_of` meets its contract. No assumptions.
use Rattle.std.proofs.Common.{to_z-of_z}
use Rattle.numeric.proofs.Machine.{result_is}
use Rattle.rows.specs.Inner.Code.{others_from}
use Rattle.rows.proofs.RowArithmetic.{fifteenth_bound}
use Rattle.rows.proofs.others.others_of.Goals as goal

pub other_changes-requires : goal.other_changes-requires
other_changes-requires c =
    rw (result_is _ c.fifteenth-e.ensures c.fifteenth-e.type_inv)
    (fifteenth_bound _ _ c.by-r.result.small c.of-k.result.small)

pub returns : goal.returns
unfolding others_from
returns c =
    let f = c.ranges in
    rw (c.other_changes.ensures, result_is _ c.fifteenth-e.ensures c.fifteenth-e.type_inv)
    (rw (c.of-k.ensures, c.by-r.ensures) (rw (to_z-of_z f.x, to_z-of_z f.y, to_z-of_z f.z)))
