-- Whether the carries passed are below one batch.
use Rattle.std.proofs.Common.{ℕ, ◌<◌, ◌≤◌, get_or}
use Rattle.std.specs.Prelude.{IsTrue, ◌↔◌}
use Rattle.river.specs.Rivers.{most_carry}
use Rattle.river.proofs.carries.all_below_batch.Given as goal

abbrev pub invariant-loop-carry : goal.invariant-loop-carry
invariant-loop-carry l = IsTrue l.right ↔ ((k : ℕ) → k < l.carry-index → get_or l.carries k 0 ≤ most_carry)
