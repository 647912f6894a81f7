-- What the writes leave in the output: a row; and the number of a write by its checks. No assumptions.
use Prim.Native.Nat.{ℕ, ◌+◌, ◌*◌, ◌/◌, ◌%◌, ◌≤◌, ◌<◌}
use mathlib.Core.Bool.{Bool, true, false, cond}
use mathlib.Core.List.{List, [], ◌∷◌, ◌++◌}
use mathlib.Core.Path.{◌≡◌, refl, sym, ap, ap₂, ◌∙◌}
use native.Mathlib.Omega.{arith}
use borrow.Author.Tests.{lt-ltb, le-ltb}
use borrow.Rule.Slice.PartMut.{put_mid}
use lib.Dec.{eqb}
use lib.ListN.{length, set, length-append}
use lib.Seq.{sets}
use Rattle.numeric.specs.Check.{first_holding}
use Rattle.river.specs.declared.River.{River}
use Rattle.river.specs.Rivers.{river_wrong}
use Rattle.text.specs.Decimals.{columns, plain}
use Rattle.text.specs.Writes.{put}
use Rattle.text.proofs.DecimalLaws.{glyph_zero}
use Rattle.text.proofs.WriteLaws.{put_all, grow, store, sets_put, mid_written}
use Rattle.page.specs.Pages.{row_bytes, letter_columns, row, page_of}
use Rattle.page.specs.Writing.{page_number, page_after}
use Rattle.page.specs.Inner.Stages.{levels_text}
use Rattle.page.proofs.RowLaws.{levels-length, row-length}

-- A cell below 10 in its two columns.
cell-columns : (cell : ℕ) → cell < 10 → plain 2 32 cell ≡ 32 ∷ (48 + cell) ∷ []
unfolding plain columns
cell-columns cell small =
    let none : cell / 10 ≡ 0 = omega arith in
    let one : cell % 10 ≡ cell = omega arith in
    rw (glyph_zero (cell / 10) 32 none, one)

-- A row over its bytes: the cell, a blank and the letter, the levels, the line feed.
pub row_written : (l ys : List ℕ) (cell letter : ℕ) (levels : List ℕ) → length l ≡ row_bytes → cell < 10
    → length levels ≡ 6
    → ys ≡ levels_text levels 6
    → set (put_mid 4 60 (set (set (set (set l 0 32) 1 (48 + cell)) 2 32) 3 letter) ys) 64 10 ≡ row cell letter levels
unfolding row letter_columns
row_written l ys cell letter levels long small six e =
    let front : List ℕ = 32 ∷ (48 + cell) ∷ 32 ∷ letter ∷ [] in
    let text = levels_text levels 6 in
    let sixty : length text ≡ 60 = levels-length levels 6 in
    let first : sets l 0 front ≡ put l 0 front = sets_put l 0 front (omega arith) in
    let second : put_mid 4 60 (sets l 0 front) ys ≡ put l 0 (front ++ text) =
    mid_written _ ys text 4 60 60 sixty refl e ∙ grow l _ 0 4 4 front text refl refl (omega arith) first in
    let wide : length (front ++ text) ≡ 64 = length-append front text ∙ omega arith in
    let marked : plain 2 32 cell ++ letter_columns letter ≡ front =
    ap (λ (x : List ℕ). x ++ letter_columns letter) (cell-columns cell small) in
    store l _ 0 64 64 10 (front ++ text) wide refl (omega arith) second
    ∙ ap₂ (λ (x : List ℕ) (k : ℕ). put l 0 (x ++ levels_text levels k ++ (10 ∷ []))) (sym marked) (sym six)
    ∙ put_all l (row cell letter levels) (row-length cell letter levels six ∙ sym long)

-- The number of a write, by the checks.
module _ (r : River) (output : ℕ) where
  pub river_refused : river_wrong r ≡ true → page_number r output ≡ 4
  unfolding page_number first_holding
  river_refused wrong = rw wrong refl

  pub space_refused : river_wrong r ≡ false → output < r.cells * row_bytes → page_number r output ≡ 12
  unfolding page_number first_holding
  space_refused right h = rw (right, lt-ltb output (r.cells * row_bytes) h) refl

  pub page_accepted : river_wrong r ≡ false → r.cells * row_bytes ≤ output → page_number r output ≡ 0
  unfolding page_number first_holding
  page_accepted right h = rw (right, le-ltb output (r.cells * row_bytes) h) refl

-- On refusal every byte of the output stays.
pub output_stays : (number : ℕ) (r : River) (l : List ℕ) → eqb number 0 ≡ false → page_after number r l ≡ l
unfolding page_after
output_stays number r l refused = ap (λ (b : Bool). cond b (put l 0 (page_of r)) l) refused

-- Otherwise it begins with the page.
pub page_written : (r : River) (l : List ℕ) → page_after 0 r l ≡ put l 0 (page_of r)
unfolding page_after
page_written r l = refl
