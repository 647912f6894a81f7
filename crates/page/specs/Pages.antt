-- The bank page (request 2026-01): a level in its columns, a row, the page of a river, all as bytes of ASCII. Laws:
-- proofs/LevelLaws.antt, proofs/RowLaws.antt, proofs/PageLaws.antt. No assumptions.
use Rattle.std.specs.Prelude.{ℕ, ◌+◌, ◌-◌, ◌*◌, ◌/◌, ◌%◌, ◌<◌, ◌≤◌, List, [], ◌∷◌, ◌++◌, map, ◌≡◌, ℤ, length, get_or}
use Rattle.stoichiometry.specs.Substances.{Substance, organic, ss, nh4, no2, no3, hpo4, o2, place}
use Rattle.stoichiometry.specs.Levels.{level_of}
use Rattle.stoichiometry.specs.Totals.{amount_at}
use Rattle.river.specs.declared.River.{River}
use Rattle.river.specs.Cells.{byte, letter_of}
use Rattle.text.specs.Blocks.{blocks}
use Rattle.text.specs.Decimals.{plain}

-- Columns of a level; characters of a row, and its bytes, of which the last is the line feed.
abbrev pub level_columns : ℕ
level_columns = 10

abbrev pub row_characters : ℕ
row_characters = 64

abbrev pub row_bytes : ℕ
row_bytes = row_characters + 1

-- A number of thousandths with three decimals, right-justified in 10 columns: the whole in 6, a point (46), then
-- tenths, hundredths and thousandths. 48 is a zero.
unfoldable pub decimals : ℕ → List ℕ
decimals n = plain 6 32 (n / 1000) ++ (46 ∷ (48 + n / 100 % 10) ∷ (48 + n / 10 % 10) ∷ (48 + n % 10) ∷ [])

-- A level, µg, as g/m³, rounded down to the thousandth of a gram.
unfoldable pub grams : ℕ → List ℕ
grams level = decimals (level / 1000)

-- The letter, right-justified in 2 columns: a blank (32) before it.
unfoldable pub letter_columns : ℕ → List ℕ
letter_columns letter = 32 ∷ letter ∷ []

-- A row: the cell in 2 columns, the letter in 2, the levels in 10 each; line feed (10).
unfoldable pub row : ℕ → ℕ → List ℕ → List ℕ
row cell letter levels =
    plain 2 32 cell ++ letter_columns letter ++ blocks (length levels) (λ i. grams (get_or levels i 0)) ++ (10 ∷ [])

-- The substances whose levels a row has, in its order: SS, NH4-N, NO2-N, NO3-N, PO4-P, O2.
abbrev pub shown : List Substance
shown = organic ss ∷ nh4 ∷ no2 ∷ no3 ∷ hpo4 ∷ o2 ∷ []

-- Their levels in a cell, counted from 0, µg.
unfoldable pub levels_at : List ℤ → ℕ → List ℕ
levels_at amounts c = map (λ s. level_of s (amount_at amounts c (place s))) shown

-- The row of a cell, counted from 0; what stands on it is counted from 1.
unfoldable pub row_of : List ℤ → ℕ → List ℕ
row_of amounts c = row (c + 1) (byte (letter_of amounts c)) (levels_at amounts c)

-- The page of a river: the rows of its cells in order.
unfoldable pub page_of : River → List ℕ
page_of r = blocks r.cells (row_of r.amounts)

-- What a row is on the page: 64 characters of ASCII, from the blank (32) to the tilde (126), and a line feed.
pub record IsRow (t : List ℕ) : Type 0 where
  pub characters : List ℕ
  pub ended : t ≡ characters ++ (10 ∷ [])
  pub width : length characters ≡ row_characters
  pub printed : (j : ℕ) → j < row_characters → (32 ≤ get_or characters j 0) × (get_or characters j 0 ≤ 126)

-- The number that bytes show, read as digits from the left, after those of n. A blank shows nothing: 32 − 48 is 0 here.
abbrev pub shown_by : ℕ → List ℕ → ℕ
shown_by n [] = n
shown_by n (b ∷ l) = shown_by (n * 10 + (b - 48)) l
