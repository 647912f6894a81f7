-- `flow_river` meets its contract: past checks 4 and 6 check 8 does not hold either (proofs/FlowLaws.antt).
-- No assumptions.
use borrow.Author.Tests.{le-leb}
use Rattle.numeric.specs.Check.{first_holding}
use Rattle.river.proofs.CheckedLaws.{four_passed}
use Rattle.river.proofs.Rivers.{river-cells}
use Rattle.transport.specs.Flow.{flow_number, flow_answer}
use Rattle.transport.proofs.FlowLaws.{flow_never_eight}
use Rattle.transport.proofs.FlowLists.{river-within, left-within}
use Rattle.transport.proofs.flow_river.Goals as goal

pub leave_cells-requires : goal.leave_cells-requires
leave_cells-requires c =
    river-within c.args.river (four_passed c.args.river c.in_ok-checked.field-0 c.in_ok-checked.ensures.answer).0

pub move_amounts-requires-clause-cells_in_bounds : goal.move_amounts-requires-clause-cells_in_bounds
move_amounts-requires-clause-cells_in_bounds c =
    river-cells c.args.river (four_passed c.args.river c.in_ok-checked.field-0 c.in_ok-checked.ensures.answer).0

pub move_amounts-requires-clause-amounts_within : goal.move_amounts-requires-clause-amounts_within
move_amounts-requires-clause-amounts_within c =
    let right = (four_passed c.args.river c.in_ok-checked.field-0 c.in_ok-checked.ensures.answer).0 in
    let within = river-within c.args.river right in
    let left = left-within c.args.part _ c.args.river.amounts c.if-part-gt-PART_MOST.false within in
    (within, rw c.leave_cells.ensures left)

pub returns : goal.returns
unfolding flow_answer flow_number first_holding
returns c =
    let right = (four_passed c.args.river c.in_ok-checked.field-0 c.in_ok-checked.ensures.answer).0 in
    record {
      answer =
          rw (
            c.move_amounts.ensures,
            c.leave_cells.ensures,
            right,
            le-leb _ 10000 c.if-part-gt-PART_MOST.false,
            flow_never_eight c.args.river c.args.part right c.if-part-gt-PART_MOST.false,
          );
    }
