-- The loop's invariant: every line of the first c cells has its value; these are stored, and zeros follow.
-- No assumptions.
use Rattle.std.proofs.Common.{◌≡◌, ◌+◌, true, pos, nat_abs}
use Rattle.numeric.specs.Check.{every}
use Rattle.numeric.proofs.GridLaws.{RowsMade}
use Rattle.stoichiometry.specs.Rows.{processes}
use Rattle.stoichiometry.specs.Substances.{substances}
use Rattle.river.specs.Rivers.{most_cells}
use Rattle.record_reading.specs.Reading.{number_at, cell_right, cells_in}
use Rattle.record_reading.proofs.reading.read_cells.Given as goal

abbrev pub invariant-loop-c : goal.invariant-loop-c
invariant-loop-c l =
    (every l.c (cell_right l.text) ≡ true)
    × RowsMade most_cells substances (cells_in l.text) (pos 0) (number_at l.text) l.c l.amounts
    × RowsMade most_cells processes (cells_in l.text) 0 (λ d p. nat_abs (number_at l.text d (substances + p))) l.c l.carries
