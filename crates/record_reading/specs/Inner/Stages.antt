-- What the inner functions of the reader hand to each other: the values of a cell by its text alone. No assumptions.
use Rattle.std.specs.Prelude.{ℕ, ◌+◌, ◌*◌, ◌/◌, Bool, ◌&&◌, cond, List, eqb, ℤ, pos, nat_abs, Option, Some, None, is_some, unwrap_or}
use Rattle.numeric.specs.Check.{every}
use Rattle.numeric.specs.Table.{tab}
use Rattle.stoichiometry.specs.Substances.{substances}
use Rattle.stoichiometry.specs.Rows.{processes}
use Rattle.text.specs.Blocks.{part}
use Rattle.river.specs.Rivers.{cells_fit}
use Rattle.record.specs.Lines.{lines, line_bytes, cell_bytes}
use Rattle.record_reading.specs.Reading.{line_value, lowest_on, highest_on}

-- The value on line k of the text of cell c, both from 0.
unfoldable pub value_in : List ℕ → ℕ → ℕ → Option ℤ
value_in t c k = line_value (part (k * line_bytes) line_bytes t) (c + 1) (k + 1) (lowest_on k) (highest_on k)

-- It as a number, 0 where there is none.
abbrev pub number_in : List ℕ → ℕ → ℕ → ℤ
number_in t c k = unwrap_or (value_in t c k) (pos 0)

-- Every line of it has its value.
abbrev pub cell_found : List ℕ → ℕ → Bool
cell_found t c = every lines (λ k. is_some (value_in t c k))

-- Its amounts and its carries.
abbrev pub amounts_found : List ℕ → ℕ → List ℤ
amounts_found t c = tab substances (number_in t c)

abbrev pub carries_found : List ℕ → ℕ → List ℕ
carries_found t c = tab processes (λ p. nat_abs (number_in t c (substances + p)))

-- How many cells a text of this many bytes is of, if they are 1 to 8 and no byte is left.
abbrev pub size_right : ℕ → Bool
size_right bytes = cells_fit (bytes / cell_bytes) && eqb (bytes / cell_bytes * cell_bytes) bytes

abbrev pub cells_of : ℕ → Option ℕ
cells_of bytes = cond (size_right bytes) (Some (bytes / cell_bytes)) None
