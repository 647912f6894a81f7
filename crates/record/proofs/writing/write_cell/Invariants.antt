-- The loop's invariant: the first k lines are written. No assumptions.
use Rattle.std.proofs.Common.{◌≡◌}
use Rattle.text.specs.Writes.{put}
use Rattle.record.specs.Lines.{value_of}
use Rattle.record.specs.Inner.Stages.{labelled_lines}
use Rattle.record.proofs.writing.write_cell.Given as goal

abbrev pub invariant-loop-k : goal.invariant-loop-k
invariant-loop-k l =
    l.text ≡ put l.fn.text 0 (labelled_lines l.k l.number (value_of l.cell.amounts.now l.cell.carries.now 0))
