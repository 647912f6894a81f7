-- Laws of the lines of a record: lengths, the bytes before a value, the value on a line. No assumptions.
use Prim.Native.Nat.{ℕ, ◌+◌, ◌-◌, ◌*◌, ◌≤◌, ◌<◌}
use mathlib.Core.List.{List}
use mathlib.Core.Path.{◌≡◌, refl, ◌∙◌}
use native.Mathlib.Nat.{zero-add, zero-mul}
use borrow.Author.Tests.{lt-ltb, le-ltb}
use lib.IntN.{ℤ, pos}
use lib.ListN.{length, get_or, length-append}
use Rattle.stoichiometry.specs.Substances.{substances}
use Rattle.river.specs.declared.River.{River}
use Rattle.stoichiometry.specs.Totals.{amount_at}
use Rattle.river.specs.Rivers.{carry_at}
use Rattle.text.proofs.BlockLaws.{blocks-length}
use Rattle.text.proofs.DecimalLaws.{plain-length, decimal-length}
use Rattle.record.specs.Lines.{lines, line_bytes, cell_bytes, front, line, cell_text, record_text, value_of, record_of}

-- What stands before a value has 6 bytes.
pub front_length : (cell k : ℕ) → length (front cell k) ≡ 6
unfolding front
front_length cell k = simp (length-append, plain-length)

-- A line has 27 bytes.
pub line-length : (cell k : ℕ) (z : ℤ) → length (line cell k z) ≡ line_bytes
unfolding line
line-length cell k z = simp (length-append, front_length, decimal-length)

-- The length of the first lines of a cell.
pub cell-length : (count : ℕ) (v : ℕ → ℕ → ℤ) (c : ℕ) → length (cell_text count v c) ≡ count * line_bytes
unfolding cell_text
cell-length count v c =
    blocks-length line_bytes count (λ k. line (c + 1) (k + 1) (v c k)) (λ k. line-length (c + 1) (k + 1) (v c k))

-- The length of the text of cells.
pub record-length : (cells count : ℕ) (v : ℕ → ℕ → ℤ) → length (record_text cells count v) ≡ cells * (count * line_bytes)
unfolding record_text
record-length cells count v = blocks-length (count * line_bytes) cells (cell_text count v) (cell-length count v)

-- The value on line k of cell c.
module _ (amounts : List ℤ) (carries : List ℕ) (c k : ℕ) where
  -- The first lines have the amounts.
  pub value_amount : k < substances → value_of amounts carries c k ≡ amount_at amounts c k
  unfolding value_of
  value_amount h = rw (lt-ltb k substances h)

  -- The others have the carries.
  pub value_carry : substances ≤ k → value_of amounts carries c k ≡ pos (carry_at carries c (k - substances))
  unfolding value_of
  value_carry h = rw (le-ltb k substances h)

-- The value on line k of a cell by its own amounts and carries: those of cell 0 of the two lists.
module _ (amounts : List ℤ) (carries : List ℕ) (k : ℕ) where
  pub own_amount : k < substances → value_of amounts carries 0 k ≡ get_or amounts k (pos 0)
  own_amount h = value_amount amounts carries 0 k h ∙ rw (zero-mul, zero-add) refl

  pub own_carry : substances ≤ k → value_of amounts carries 0 k ≡ pos (get_or carries (k - substances) 0)
  own_carry h = value_carry amounts carries 0 k h ∙ rw (zero-mul, zero-add) refl

-- The length of the record of a river.
pub record_bytes : (r : River) → length (record_of r) ≡ r.cells * cell_bytes
unfolding record_of
record_bytes r = record-length r.cells lines (value_of r.amounts r.carries)
