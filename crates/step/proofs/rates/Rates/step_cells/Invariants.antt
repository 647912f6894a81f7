-- As many cells as pairs came passed check 7 and are stepped, and zeros follow. No assumptions.
use Rattle.std.proofs.Common.{◌≡◌, true, length}
use lib.IntN.{pos}
use Rattle.numeric.specs.Check.{every}
use Rattle.stoichiometry.specs.Rows.{processes}
use Rattle.stoichiometry.specs.Substances.{substances}
use Rattle.stoichiometry.specs.Totals.{amount_at}
use Rattle.river.specs.Rivers.{carry_at}
use Rattle.step.specs.Steps.{new_amount, new_carry}
use Rattle.step.specs.Inner.Stepping.{batches_few}
use Rattle.numeric.proofs.GridLaws.{RowsMade}
use Rattle.river.specs.Rivers.{most_cells}
use Rattle.step.proofs.rates.Rates.step_cells.Given as goal

abbrev pub invariant-loop-c : goal.invariant-loop-c
invariant-loop-c l =
    record {
      passed : every (length l.yielded) (λ c. batches_few l.self.set l.self.conditions (amount_at l.checked.river.now.amounts c) (carry_at l.checked.river.now.carries c)) ≡ true;
      stepped :
          RowsMade most_cells substances l.checked.river.now.cells (pos 0)
          (λ c. new_amount l.self.set l.self.conditions (amount_at l.checked.river.now.amounts c) (carry_at l.checked.river.now.carries c)) (length l.yielded) l.amounts_after;
      kept :
          RowsMade most_cells processes l.checked.river.now.cells 0
          (λ c. new_carry l.self.set l.self.conditions (amount_at l.checked.river.now.amounts c) (carry_at l.checked.river.now.carries c)) (length l.yielded) l.carries_after;
    }
