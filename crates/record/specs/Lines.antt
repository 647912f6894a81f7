-- The record (scope, "Probe frame, letter, record"): its lines, the lines of a cell, the text of cells, for any
-- number of cells and lines; then a river's values and its record. Laws: proofs/LineLaws.antt. No assumptions.
use Rattle.std.specs.Prelude.{ℕ, ◌+◌, ◌-◌, ◌*◌, cond, List, [], ◌∷◌, ◌++◌, ltb, ℤ, pos}
use Rattle.stoichiometry.specs.Substances.{substances}
use Rattle.stoichiometry.specs.Rows.{processes}
use Rattle.river.specs.declared.River.{River}
use Rattle.stoichiometry.specs.Totals.{amount_at}
use Rattle.river.specs.Rivers.{carry_at}
use Rattle.text.specs.Blocks.{blocks}
use Rattle.text.specs.Decimals.{plain, decimal}

-- Lines of a cell: its amounts, then its carries.
abbrev pub lines : ℕ
lines = substances + processes

-- Bytes of a line, and of a cell's lines.
abbrev pub line_bytes : ℕ
line_bytes = 27

abbrev pub cell_bytes : ℕ
cell_bytes = lines * line_bytes

-- What stands before a value: cell in 2 columns, blank (32), line in 2, blank.
unfoldable pub front : ℕ → ℕ → List ℕ
front cell k = plain 2 32 cell ++ (32 ∷ []) ++ plain 2 32 k ++ (32 ∷ [])

-- One line: what stands before the value, the value in 20 columns, line feed (10). Cell and line are counted from 1.
unfoldable pub line : ℕ → ℕ → ℤ → List ℕ
line cell k value = front cell k ++ decimal 20 value ++ (10 ∷ [])

-- The first `count` lines of a cell, of values by cell and line; both are counted from 0 here.
unfoldable pub cell_text : ℕ → (ℕ → ℕ → ℤ) → ℕ → List ℕ
cell_text count value c = blocks count (λ k. line (c + 1) (k + 1) (value c k))

-- Cells in order.
unfoldable pub record_text : ℕ → ℕ → (ℕ → ℕ → ℤ) → List ℕ
record_text cells count value = blocks cells (cell_text count value)

-- The value on line k of cell c, both from 0: the amounts, then the carries.
unfoldable pub value_of : List ℤ → List ℕ → ℕ → ℕ → ℤ
value_of amounts carries c k = cond (ltb k substances) (amount_at amounts c k) (pos (carry_at carries c (k - substances)))

-- The record of a river.
unfoldable pub record_of : River → List ℕ
record_of r = record_text r.cells lines (value_of r.amounts r.carries)
