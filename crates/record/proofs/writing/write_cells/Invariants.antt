-- The loop's invariant: as many cells as pairs came are written. No assumptions.
use Rattle.std.proofs.Common.{◌≡◌, length}
use Rattle.record.specs.Inner.Stages.{cells_put}
use Rattle.record.proofs.writing.write_cells.Given as goal

abbrev pub invariant-loop-c : goal.invariant-loop-c
invariant-loop-c l = l.out ≡ cells_put l.fn.out l.checked.river.now.amounts l.checked.river.now.carries (length l.yielded)
