-- Laws of a row, for any cell, letter and six levels: its width, its characters, and where a level stands.
-- No assumptions.
use Prim.Native.Nat.{ℕ, ◌+◌, ◌*◌, ◌<◌}
use mathlib.Core.List.{List, [], ◌∷◌, ◌++◌, append_assoc}
use mathlib.Core.Path.{◌≡◌, refl, ap, ◌∙◌}
use native.Mathlib.Omega.{arith}
use lib.ListN.{length, drop, get_or, length-append, length-drop}
use lib.Seq.{take-append-le, drop-append-le, drop-append-add}
use Rattle.text.specs.Blocks.{part}
use Rattle.text.specs.Decimals.{plain}
use Rattle.text.proofs.BlockLaws.{blocks-length, part-blocks}
use Rattle.text.proofs.DecimalLaws.{plain-length}
use Rattle.page.specs.Pages.{level_columns, row_characters, row_bytes, grams, letter_columns, row, IsRow}
use Rattle.page.specs.Inner.Stages.{levels_text}
use Rattle.page.proofs.LevelLaws.{grams-length}
use Rattle.page.proofs.Characters.{Character, characters-append, plain-characters, blocks-characters}
use Rattle.page.proofs.Characters.{grams-characters, letter_characters}

-- The columns of some levels.
pub levels-length : (levels : List ℕ) (count : ℕ) → length (levels_text levels count) ≡ count * level_columns
levels-length levels count =
    blocks-length level_columns count (λ i. grams (get_or levels i 0)) (λ i. grams-length (get_or levels i 0))

module _ (cell letter : ℕ) (levels : List ℕ) (six : length levels ≡ 6) where
  -- What stands before the levels, and the characters of the row.
  abbrev front : List ℕ
  front = plain 2 32 cell ++ letter_columns letter

  abbrev written : List ℕ
  written = front ++ levels_text levels (length levels)

  front_length : length front ≡ 4
  unfolding letter_columns
  front_length = simp (length-append, plain-length)

  written_length : length written ≡ row_characters
  written_length =
      let long = levels-length levels (length levels) in
      let four = front_length in
      length-append front (levels_text levels (length levels)) ∙ omega arith

  pub row-length : length (row cell letter levels) ≡ row_bytes
  unfolding row
  row-length = length-append written (10 ∷ []) ∙ ap (λ (n : ℕ). n + 1) written_length

  -- 64 characters and a line feed.
  pub row_is : Character letter → IsRow (row cell letter levels)
  unfolding row
  row_is readable =
      let text = levels_text levels (length levels) in
      let first = characters-append (plain 2 32 cell) (letter_columns letter)
      (plain-characters 2 32 cell (omega arith, omega arith)) (letter_characters letter readable) in
      let figures = blocks-characters (length levels) (λ i. grams (get_or levels i 0)) (λ i. grams-characters _) in
      record {
        characters = written;
        ended = refl;
        width = written_length;
        printed = λ j h. characters-append front text first figures j (omega (arith, written_length));
      }

  -- Level i stands in the columns from 4 + 10 i on.
  pub row-level : (i : ℕ) → i < length levels
      → part (4 + i * level_columns) level_columns (row cell letter levels) ≡ grams (get_or levels i 0)
  unfolding row
  row-level i h =
      let text = levels_text levels (length levels) in
      let long = levels-length levels (length levels) in
      let start : 4 + i * level_columns ≡ length front + i * level_columns = omega (arith, front_length) in
      rw (append_assoc front text (10 ∷ []), start, drop-append-add)
      (rw (drop-append-le (i * level_columns) text (10 ∷ []) (omega arith))
      (take-append-le level_columns (drop (i * level_columns) text) (10 ∷ []) (simp length-drop (omega arith))
      ∙ part-blocks level_columns _ (λ k. grams-length (get_or levels k 0)) (length levels) i h))
