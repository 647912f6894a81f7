-- Laws of records. Of a river of which check 4 does not hold: its record is read back to it (`read_write`). Of a text
-- that is a record: it is what is written of the river that it reads to (`write_read`). Texts of any numbers of cells
-- and lines: TextLaws.antt. No assumptions.
use Prim.Native.Nat.{ℕ, ◌+◌, ◌-◌, ◌*◌, ◌≤◌, ◌<◌}
use mathlib.Core.Bool.{true, false, ◌&&◌, true≢false}
use mathlib.Core.List.{List}
use mathlib.Core.Path.{◌≡◌, refl, sym, ap, ap₂, ◌∙◌}
use native.Mathlib.Decide.{dec_lt}
use native.Mathlib.Omega.{arith}
use borrow.Author.Tests.{lt-ltb, le-ltb, le-leb, eq-eqb}
use lib.Dec.{lit<}
use lib.IntN.{ℤ, pos, negsuc, nat_abs}
use lib.ListN.{length}
use lib.Signed.{le_z}
use Rattle.std.specs.Prelude.{Ok}
use Rattle.numeric.specs.Check.{in_range}
use Rattle.numeric.proofs.Bounds.{abs_le, abs_ge}
use Rattle.numeric.proofs.CheckLaws.{every_at, every_all}
use Rattle.numeric.proofs.Comparison.{le_le_z}
use Rattle.numeric.proofs.GridLaws.{grid_at_lem, grid_eq, grid_of_list}
use Rattle.stoichiometry.specs.Substances.{substances, most_net}
use Rattle.stoichiometry.specs.Rows.{processes}
use Rattle.river.specs.declared.River.{River}
use Rattle.stoichiometry.specs.Totals.{amount_at}
use Rattle.river.specs.Rivers.{most_cells, carry_at, cells_fit, river_wrong, most_carry}
use Rattle.river.proofs.Bounds.{fits_bound}
use Rattle.river.proofs.Rivers.{river-cells, amount_fits_at, carry-fits_at, amount_zero_beyond, carry_zero_beyond}
use Rattle.text.specs.Blocks.{part}
use Rattle.std.specs.Prelude.{Some, is_some}
use Rattle.record.specs.Lines.{lines, line_bytes, cell_bytes, line, cell_text, value_of, record_of}
use Rattle.record_reading.specs.Reading.{lowest_on, highest_on, value_at, number_at, cell_right, lines_right}
use Rattle.record_reading.specs.Reading.{amounts_in, carries_in, cells_in, river_in, is_record, read_answer, cell_lines}
use Rattle.record.proofs.LineLaws.{value_amount, value_carry, record_bytes}
use Rattle.record_reading.proofs.LineReading.{line_value_lem, value_line}
use Rattle.record_reading.proofs.TextLaws.{text-line, text-cell, text_of_lines}
use Rattle.record_reading.proofs.ReadAnswers.{answer-accepted, read-record, record-parts, size_known}
use Rattle.record_reading.proofs.ReadAnswers.{cell_exists_lem, lines_accepted}

-- A value that is within the limits of line k, and that 20 columns hold.
record Allowed (k : ℕ) (z : ℤ) : Type 0 where
  from : le_z (lowest_on k) z ≡ true
  to : le_z z (highest_on k) ≡ true
  small : nat_abs z ≤ most_net

-- A river of which check 4 does not hold.
module _ (r : River) (right : river_wrong r ≡ false) where
  value_allowed : (c k : ℕ) → c < r.cells → k < lines → Dec (k < substances)
      → Allowed k (value_of r.amounts r.carries c k)
  unfolding value_of lowest_on highest_on
  value_allowed c k h l (yes y) =
      let z = amount_at r.amounts c k in
      let b : nat_abs z ≤ most_net = fits_bound k z y (amount_fits_at r right c k h y) in
      record {
        from = rw (lt-ltb k substances y) (le_le_z _ z (abs_ge z most_net b));
        to = rw (lt-ltb k substances y) (le_le_z z _ (abs_le z most_net b));
        small = rw (lt-ltb k substances y) b;
      }
  value_allowed c k h l (no g) =
      let n = carry_at r.carries c (k - substances) in
      let b : n ≤ most_carry = carry-fits_at r right c (k - substances) h (omega arith) in
      let past = le-ltb k substances (omega arith) in
      record {
        from = rw past (le-leb 0 n (omega arith));
        to = rw past (le-leb n most_carry b);
        small = rw past (omega arith);
      }

  -- Line k of cell c of the record of a river reads as the river's value.
  pub value_written : (c k : ℕ) → c < r.cells → k < lines
      → value_at (record_of r) c k ≡ Some (value_of r.amounts r.carries c k)
  unfolding value_at record_of
  value_written c k h l =
      let a = value_allowed c k h l (dec_lt k substances) in
      rw (text-line r.cells lines (value_of r.amounts r.carries) c k h l)
      (line_value_lem (c + 1) (k + 1) _ (lowest_on k) (highest_on k) a.from a.to a.small)

  cells_back : cells_in (record_of r) ≡ r.cells
  cells_back = let e = record_bytes r in omega arith

  amounts_back : length r.amounts ≡ most_cells * substances → amounts_in r.cells (record_of r) ≡ r.amounts
  unfolding amounts_in
  amounts_back long =
      grid_eq most_cells substances r.cells (pos 0) _ _ (lit< tt)
      (λ c k h l. rw (value_written c k h (omega arith)) (value_amount r.amounts r.carries c k l))
      ∙ sym
      (grid_of_list most_cells substances r.cells (pos 0) r.amounts (lit< tt) long (amount_zero_beyond r right))

  carries_back : length r.carries ≡ most_cells * processes → carries_in r.cells (record_of r) ≡ r.carries
  unfolding carries_in
  carries_back long =
      grid_eq most_cells processes r.cells 0 _ _ (lit< tt)
      (λ c p h l.
      let k = substances + p in
      let place : k - substances ≡ p = omega arith in
      rw (value_written c k h (omega arith), value_carry r.amounts r.carries c k (omega arith), place))
      ∙ sym (grid_of_list most_cells processes r.cells 0 r.carries (lit< tt) long (carry_zero_beyond r right))

-- A river in bounds, of arrays of their lengths.
module _ (r : River) (right : river_wrong r ≡ false) (amounts : length r.amounts ≡ most_cells * substances)
    (carries : length r.carries ≡ most_cells * processes) where
  river_back : river_in (record_of r) ≡ r
  unfolding river_in
  river_back = rw (cells_back r right, amounts_back r right amounts, carries_back r right carries) refl

  record-accepted : is_record (record_of r) ≡ true
  unfolding is_record lines_right cells_fit
  record-accepted =
      let t = record_of r in
      let n = river-cells r right in
      let size : cells_in t * cell_bytes ≡ length t = let e = record_bytes r in omega arith in
      let cells : cells_fit (cells_in t) ≡ true =
      rw (cells_back r right) (ap₂ ◌&&◌ (le-leb 1 r.cells n.0) (le-leb r.cells most_cells n.1)) in
      let all : lines_right (cells_in t) t ≡ true =
      rw (cells_back r right)
      (every_all _ (cell_right t) (λ c h. every_all lines _ (λ k l. rw (value_written r right c k h l) refl))) in
      let bounds : river_wrong (river_in t) ≡ false = rw river_back right in
      rw (cells, eq-eqb (cells_in t * cell_bytes) (length t) size, all, bounds)

  -- What is written of a river reads back to that river, carries and all.
  pub read_write : read_answer (record_of r) ≡ Ok r
  read_write =
      answer-accepted (record_of r) record-accepted ∙ ap Ok river_back

  -- The lines of one of its cells, as they are handed out.
  pub lines_written : (cell : ℕ) → 1 ≤ cell → cell ≤ r.cells
      → cell_lines (record_of r) cell ≡ cell_text lines (value_of r.amounts r.carries) (cell - 1)
  unfolding record_of
  lines_written cell low high =
      let there : in_range 1 (cells_in (record_of r)) cell ≡ true =
      rw (cells_back r right, le-leb 1 cell low, le-leb cell r.cells high) refl in
      lines_accepted (record_of r) cell (cell_exists_lem (record_of r) cell record-accepted there)
      ∙ text-cell r.cells lines (value_of r.amounts r.carries) (cell - 1) (omega arith)

-- A value from the lowest carry on is not below 0.
carry_from : (k : ℕ) (z : ℤ) → substances ≤ k → le_z (lowest_on k) z ≡ true → pos (nat_abs z) ≡ z
unfolding lowest_on
carry_from k (pos n) h e = refl
carry_from k (negsuc n) h e = absurd (true≢false (sym (rw (le-ltb k substances h) at e)))

-- A text that is a record.
module _ (t : List ℕ) (right : is_record t ≡ true) where
  -- Check 4 does not hold of the river that it reads to.
  pub river-read : river_wrong (river_in t) ≡ false
  river-read = (record-parts t right).2

  -- What is known of line k of cell c.
  line-right : (c k : ℕ) → c < cells_in t → k < lines
      → let z = number_at t c k in
      (part ((c * lines + k) * line_bytes) line_bytes t ≡ line (c + 1) (k + 1) z) × (le_z (lowest_on k) z ≡ true)
  unfolding lines_right value_at
  line-right c k h l =
      let cells = every_at (cells_in t) c (cell_right t) (record-parts t right).1 h in
      let ok = every_at lines k (λ j. is_some (value_at t c j)) cells l in
      let known = value_line _ (c + 1) (k + 1) (lowest_on k) (highest_on k) ok in
      (known.0, known.1)

  -- Its value is that of the river that the text reads to.
  value_read : (c k : ℕ) → c < cells_in t → k < lines → Dec (k < substances)
      → value_of (river_in t).amounts (river_in t).carries c k ≡ number_at t c k
  unfolding river_in amounts_in carries_in
  value_read c k h l (yes y) =
      let most = (river-cells (river_in t) river-read).1 in
      value_amount (river_in t).amounts (river_in t).carries c k y
      ∙ grid_at_lem most_cells substances (cells_in t) (pos 0) _ c k (pos 0) h (omega arith) y
  value_read c k h l (no g) =
      let most = (river-cells (river_in t) river-read).1 in
      let place : substances + (k - substances) ≡ k = omega arith in
      value_carry (river_in t).amounts (river_in t).carries c k (omega arith)
      ∙ ap pos
      (grid_at_lem most_cells processes (cells_in t) 0 _ c (k - substances) 0 h (omega arith) (omega arith) ∙ rw place)
      ∙ carry_from k (number_at t c k) (omega arith) (line-right c k h l).1

  -- A text that is a record is, byte for byte, what is written of the river that it reads to.
  pub write_read : t ≡ record_of (river_in t)
  unfolding record_of river_in
  write_read =
      let size = sym (size_known t (record-parts t right).0).1 in
      text_of_lines (cells_in t) lines (value_of (river_in t).amounts (river_in t).carries) (lit< tt) t size
      (λ c k h l.
      (line-right c k h l).0 ∙ ap (line (c + 1) (k + 1)) (sym (value_read c k h l (dec_lt k substances))))

-- A text that is read is what is written of the river read.
pub read-accepted : (t : List ℕ) (r : River) → read_answer t ≡ Ok r → t ≡ record_of r
read-accepted t r e = let read = read-record t r e in write_read t read.0 ∙ ap record_of read.1

-- Two texts that read to one river are the same.
pub read_unique : (t u : List ℕ) (r : River) → read_answer t ≡ Ok r → read_answer u ≡ Ok r → t ≡ u
read_unique t u r e f = read-accepted t r e ∙ sym (read-accepted u r f)
