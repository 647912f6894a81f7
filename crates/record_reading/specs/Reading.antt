-- Reading a record (scope, "Probe frame, letter, record", check 11): a text is a record exactly when each of its
-- lines is the line of a value within limits, and check 4 does not hold of the river that has these values. Laws,
-- that what is written is read back and that nothing else is read: proofs/RecordLaws.antt. No assumptions.
use Rattle.std.specs.Prelude.{ℕ, ◌+◌, ◌-◌, ◌*◌, ◌/◌, Bool, true, false, not, ◌&&◌, cond, List, [], ◌∷◌, ltb, eqb, length, ℤ, pos, neg_ℤ, nat_abs, Option, Some, None, is_some, unwrap_or, option_and_then, Result}
use Rattle.numeric.specs.Check.{in_range, every, first_holding, ◌when◌}
use Rattle.numeric.specs.Table.{grid}
use Rattle.stoichiometry.specs.declared.refusals.Refusal.{Refusal}
use Rattle.stoichiometry.specs.Refusals.{answer_of}
use Rattle.stoichiometry.specs.Substances.{substances, most_net}
use Rattle.stoichiometry.specs.Rows.{processes}
use Rattle.river.specs.declared.River.{River}
use Rattle.river.specs.Rivers.{most_cells, cells_fit, river_wrong, most_carry}
use Rattle.text.specs.Blocks.{part}
use Rattle.text_reading.specs.Reading.{parse}
use Rattle.record.specs.Lines.{lines, line_bytes, cell_bytes, line}

-- Two texts are the same, byte for byte.
unfoldable pub same_bytes : List ℕ → List ℕ → Bool
same_bytes [] [] = true
same_bytes [] (y ∷ ys) = false
same_bytes (x ∷ xs) [] = false
same_bytes (x ∷ xs) (y ∷ ys) = eqb x y && same_bytes xs ys

-- The value of a line, if the line is, byte for byte, that of a value from `lowest` to `highest`.
unfoldable pub line_value : List ℕ → ℕ → ℕ → ℤ → ℤ → Option ℤ
line_value l cell k lowest highest =
    option_and_then (λ z. cond (same_bytes l (line cell k z)) (Some z) None) (parse lowest highest (part 6 20 l))

-- The limits of the value on line k, counted from 0: any amount, or a carry. The bounds of each amount are those of
-- check 4.
unfoldable pub lowest_on : ℕ → ℤ
lowest_on k = cond (ltb k substances) (neg_ℤ (pos most_net)) (pos 0)

unfoldable pub highest_on : ℕ → ℤ
highest_on k = cond (ltb k substances) (pos most_net) (pos most_carry)

-- The value on line k of cell c of a text, both from 0.
unfoldable pub value_at : List ℕ → ℕ → ℕ → Option ℤ
value_at t c k =
    line_value (part ((c * lines + k) * line_bytes) line_bytes t) (c + 1) (k + 1) (lowest_on k) (highest_on k)

-- It as a number, 0 where there is none.
abbrev pub number_at : List ℕ → ℕ → ℕ → ℤ
number_at t c k = unwrap_or (value_at t c k) (pos 0)

-- Every line of cell c has its value, and every line of n cells.
abbrev pub cell_right : List ℕ → ℕ → Bool
cell_right t c = every lines (λ k. is_some (value_at t c k))

unfoldable pub lines_right : ℕ → List ℕ → Bool
lines_right n t = every n (cell_right t)

-- The amounts and carries that a text of n cells has, zeros beyond the last cell.
unfoldable pub amounts_in : ℕ → List ℕ → List ℤ
amounts_in n t = grid most_cells substances n (pos 0) (number_at t)

unfoldable pub carries_in : ℕ → List ℕ → List ℕ
carries_in n t = grid most_cells processes n 0 (λ c p. nat_abs (number_at t c (substances + p)))

-- The cells of a text, and its river.
abbrev pub cells_in : List ℕ → ℕ
cells_in t = length t / cell_bytes

unfoldable pub river_in : List ℕ → River
river_in t = record { cells = cells_in t; amounts = amounts_in (cells_in t) t; carries = carries_in (cells_in t) t }

-- A text is exactly a record of 1 to 8 cells with values in bounds.
unfoldable pub is_record : List ℕ → Bool
is_record t =
    cells_fit (cells_in t) && eqb (cells_in t * cell_bytes) (length t)
    && lines_right (cells_in t) t && not (river_wrong (river_in t))

-- The river of a record; 11 for every other text.
unfoldable pub read_answer : List ℕ → Result River Refusal
read_answer t = answer_of (first_holding (11 when not (is_record t) ∷ [])) (river_in t)

-- The lines of one cell, counted from 1: the number, 11 before 5, and that part of the text, empty on refusal.
unfoldable pub cell_number : List ℕ → ℕ → ℕ
cell_number t cell =
    first_holding (11 when not (is_record t) ∷ 5 when not (in_range 1 (cells_in t) cell) ∷ [])

unfoldable pub cell_lines : List ℕ → ℕ → List ℕ
cell_lines t cell = cond (eqb (cell_number t cell) 0) (part ((cell - 1) * cell_bytes) cell_bytes t) []
