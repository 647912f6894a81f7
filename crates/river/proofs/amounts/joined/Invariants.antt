-- The bits cover the amounts passed.
use Rattle.river.specs.Inner.Runs.{CoversFirst}
use Rattle.river.proofs.amounts.joined.Given as goal

abbrev pub invariant-loop-amount : goal.invariant-loop-amount
invariant-loop-amount l = CoversFirst l.amounts l.amount-index l.bits
