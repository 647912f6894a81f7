-- The loop's invariant: the first k lines have their values, which are stored: those of the first 18 lines as amounts,
-- those past them as carries. No assumptions.
use Rattle.std.proofs.Common.{◌≡◌, ◌+◌, ◌-◌, true, is_some, nat_abs}
use Rattle.numeric.specs.Check.{every}
use Rattle.numeric.proofs.Filling.{Filled}
use Rattle.stoichiometry.specs.Rows.{processes}
use Rattle.stoichiometry.specs.Substances.{substances}
use Rattle.record_reading.specs.Inner.Stages.{value_in, number_in}
use Rattle.record_reading.proofs.reading.read_cell.Given as goal

abbrev pub invariant-loop-k : goal.invariant-loop-k
invariant-loop-k l =
    (every l.k (λ q. is_some (value_in l.text l.c q)) ≡ true)
    × Filled substances (l.k - (l.k - substances)) (number_in l.text l.c) l.amounts
    × Filled processes (l.k - substances) (λ p. nat_abs (number_in l.text l.c (substances + p))) l.carries
