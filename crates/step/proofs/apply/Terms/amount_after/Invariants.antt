-- The total is the old amount and what the first p processes add. No assumptions.
use Rattle.std.proofs.Common.{◌≡◌}
use lib.IntN.{◌+ℤ◌}
use Rattle.numeric.specs.Sum.{sum}
use Rattle.step.specs.Inner.Rating.{amount_in}
use Rattle.step.specs.Inner.Stepping.{added_from}
use Rattle.step.proofs.apply.Terms.amount_after.Given as goal

abbrev pub invariant-loop-p : goal.invariant-loop-p
invariant-loop-p l =
    l.total ≡ amount_in l.self.amounts.now l.s +ℤ sum l.p (added_from l.self.batches.now l.self.entries.now l.s)
