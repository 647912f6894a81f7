-- What the amounts passed hold.
use Rattle.std.proofs.Common.{length}
use Rattle.totals.proofs.TotalsLaws.{HeldBelow}
use Rattle.totals.proofs.Totals.of_cell.Given as goal

abbrev pub invariant-loop-amount : goal.invariant-loop-amount
invariant-loop-amount l = HeldBelow l.fn.set l.amounts (length l.yielded) l.totals
