-- What the writes leave in a buffer: one line, the lines of a cell, the copy; and the number of a write by its checks.
-- No assumptions.
use mathlib.Core.Path.{◌≡◌, refl, sym, ap, ap₂, ◌∙◌}
use mathlib.Core.Bool.{Bool, true, false, cond}
use mathlib.Core.List.{List, [], ◌∷◌, ◌++◌}
use Prim.Native.Nat.{ℕ, ◌+◌, ◌-◌, ◌*◌, ◌≤◌, ◌<◌}
use native.Mathlib.Decide.{dec_lt}
use native.Mathlib.Omega.{arith}
use borrow.Author.Tests.{lt-ltb, le-ltb}
use lib.Dec.{eqb}
use borrow.Rule.Slice.PartMut.{put_mid}
use lib.ListN.{length, take, drop, set, get_or, length-append, length-take, length-drop}
use lib.Seq.{take_at}
use lib.IntN.{ℤ, pos}
use Rattle.std.specs.Simd.{first_chunks}
use Rattle.numeric.specs.Check.{first_holding}
use Rattle.stoichiometry.specs.Rows.{processes}
use Rattle.stoichiometry.specs.Substances.{substances}
use Rattle.river.specs.declared.River.{River}
use Rattle.river.specs.Rivers.{most_cells, river_wrong}
use Rattle.river.proofs.Rivers.{river-cells, amount_cut, carry_cut}
use Rattle.text.specs.Decimals.{columns, plain, decimal}
use Rattle.text.specs.Writes.{put}
use Rattle.text.proofs.BlockLaws.{blocks_cong}
use Rattle.text.proofs.DecimalLaws.{decimal-length}
use Rattle.text.proofs.WriteLaws.{put-length, put_all, front_written, grow, store, mid_written, front_written}
use Rattle.record.specs.Lines.{lines, line_bytes, cell_bytes, front, line, cell_text, value_of, record_of}
use Rattle.record.specs.Inner.Stages.{labelled, labelled_lines}
use Rattle.record.specs.Writing.{write_number, output_after, work_after}
use Rattle.record.proofs.LineLaws.{value_amount, value_carry, own_amount, own_carry, record_bytes}

-- One line over its bytes: what stands before the value, the value and the line feed.
pub line_written : (l x y front : List ℕ) (z : ℤ) → length l ≡ line_bytes → length front ≡ 6 → x ≡ front
    → y ≡ decimal (length (take 20 (drop 6 (x ++ drop 6 l)))) z
    → set (put_mid 6 20 (x ++ drop 6 l) y) 26 10 ≡ front ++ decimal 20 z ++ (10 ∷ [])
line_written l x y front z long six e e' =
    let l₁ = x ++ drop 6 l in
    let before = front ++ decimal 20 z in
    let first : l₁ ≡ put l 0 front = front_written l x front 6 six e in
    let kept : length l₁ ≡ length l = ap length first ∙ put-length l 0 front (omega arith) in
    let wide : length (take 20 (drop 6 l₁)) ≡ 20 = simp (length-take, length-drop) (omega arith) in
    let lb : length before ≡ 26 = length-append front (decimal 20 z) ∙ ap₂ ◌+◌ six (decimal-length 20 z) in
    let second : put_mid 6 20 l₁ y ≡ put l 0 before =
    mid_written l₁ y _ 6 20 20 (decimal-length 20 z) refl (e' ∙ ap (λ (n : ℕ). decimal n z) wide)
    ∙ grow l l₁ 0 6 6 front _ six refl (omega arith) first in
    store l _ 0 26 26 10 before lb refl (omega arith) second
    ∙ put_all l (before ++ (10 ∷ [])) (length-append before (10 ∷ []) ∙ omega arith)

-- A line with the columns of its cell and of its place.
pub labelled_line : (cell k : ℕ) (cs ks : List ℕ) (z : ℤ) → cs ≡ plain 2 32 cell → ks ≡ plain 2 32 k
    → labelled cs ks z ≡ line cell k z
unfolding labelled line front plain columns
labelled_line cell k cs ks z e e' = rw (e, e') refl

-- A line of any columns has 27 bytes.
pub labelled-length : (number label : List ℕ) (z : ℤ) → length (labelled number label z) ≡ line_bytes
unfolding labelled
labelled-length number label z = simp (length-append, decimal-length)

-- A cell of a river that passes check 4, as the code cuts out its amounts and its carries: the lines that it writes,
-- with the columns of the cell's number, are the cell's.
module _ (r : River) (right : river_wrong r ≡ false) (cells : List (List ℤ)) (kept : List (List ℕ))
    (cut : cells ≡ first_chunks substances most_cells r.amounts)
    (cut_too : kept ≡ first_chunks processes most_cells r.carries) (c : ℕ) (h : c < r.cells) where
  value_is : (k : ℕ) → k < lines
      → value_of (get_or cells c []) (get_or kept c []) 0 k ≡ value_of r.amounts r.carries c k
  value_is k l = by_test (dec_lt k substances)
    where
      most : c < most_cells
      most = omega (arith, (river-cells r right).1)

      by_test : Dec (k < substances)
          → value_of (get_or cells c []) (get_or kept c []) 0 k ≡ value_of r.amounts r.carries c k
      by_test (yes i) =
          own_amount _ _ k i
          ∙ amount_cut most_cells r.amounts cells cut c most k i
          ∙ sym (value_amount r.amounts r.carries c k i)
      by_test (no i) =
          own_carry _ _ k (omega arith)
          ∙ ap pos (carry_cut most_cells r.carries kept cut_too c most (k - substances) (omega arith))
          ∙ sym (value_carry r.amounts r.carries c k (omega arith))

  pub labelled_lines_are : (number : List ℕ) → number ≡ plain 2 32 (c + 1)
      → labelled_lines lines number (value_of (get_or cells c []) (get_or kept c []) 0)
      ≡ cell_text lines (value_of r.amounts r.carries) c
  unfolding labelled_lines cell_text
  labelled_lines_are number e =
      blocks_cong lines _ _ (λ k l.
      labelled_line (c + 1) (k + 1) number _ _ e refl ∙ ap (line (c + 1) (k + 1)) (value_is k l))

-- The number of a write, by the checks.
module _ (r : River) (output work : ℕ) where
  pub river_refused : river_wrong r ≡ true → write_number r output work ≡ 4
  unfolding write_number first_holding
  river_refused wrong = rw wrong refl

  pub output_refused : river_wrong r ≡ false → output < r.cells * cell_bytes → write_number r output work ≡ 10
  unfolding write_number first_holding
  output_refused right h = rw (right, lt-ltb output (r.cells * cell_bytes) h) refl

  pub work_refused : river_wrong r ≡ false → r.cells * cell_bytes ≤ output → work < r.cells * cell_bytes
      → write_number r output work ≡ 10
  unfolding write_number first_holding
  work_refused right h l = rw (right, le-ltb output (r.cells * cell_bytes) h, lt-ltb work (r.cells * cell_bytes) l) refl

  -- One of them is too short.
  pub space_refused : river_wrong r ≡ false → (r.cells * cell_bytes ≤ output → work < r.cells * cell_bytes)
      → write_number r output work ≡ 10
  space_refused right h = at (dec_lt output (r.cells * cell_bytes))
    where
      at : Dec (output < r.cells * cell_bytes) → write_number r output work ≡ 10
      at (yes short) = output_refused right short
      at (no room) = work_refused right (omega arith) (h (omega arith))

  pub write_accepted : river_wrong r ≡ false → r.cells * cell_bytes ≤ output → r.cells * cell_bytes ≤ work
      → write_number r output work ≡ 0
  unfolding write_number first_holding
  write_accepted right h l =
      rw (right, le-ltb output (r.cells * cell_bytes) h, le-ltb work (r.cells * cell_bytes) l) refl

-- On refusal every byte of both buffers stays.
module _ (number : ℕ) (r : River) (l : List ℕ) (refused : eqb number 0 ≡ false) where
  pub output_stays : output_after number r l ≡ l
  unfolding output_after
  output_stays = ap (λ (b : Bool). cond b (put l 0 (record_of r)) l) refused

  pub work_stays : work_after number r l ≡ l
  unfolding work_after
  work_stays = ap (λ (b : Bool). cond b (put l 0 (record_of r)) l) refused

-- Otherwise both begin with the record: the bytes that are copied are it.
pub output_written : (r : River) (l : List ℕ) → output_after 0 r l ≡ put l 0 (record_of r)
unfolding output_after
output_written r l = refl

pub work_written : (r : River) (o o₁ w ys : List ℕ) → o₁ ≡ put o 0 (record_of r) → ys ≡ take (r.cells * cell_bytes) o₁
    → ys ++ drop (r.cells * cell_bytes) w ≡ work_after 0 r w
unfolding work_after put
work_written r o o₁ w ys e e₁ =
    let bytes = r.cells * cell_bytes in
    let long = record_bytes r in
    front_written w ys (record_of r) bytes long (e₁ ∙ rw e (take_at (record_of r) _ bytes long))
