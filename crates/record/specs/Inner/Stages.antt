-- What the inner functions of the writer hand to each other. No assumptions.
use Rattle.std.specs.Prelude.{ℕ, ◌+◌, ◌<◌, List, [], ◌∷◌, ◌++◌, ◌≡◌, ℤ, get_or, slice_index_or}
use Rattle.text.specs.Blocks.{blocks}
use Rattle.text.specs.Decimals.{plain, decimal}
use Rattle.text.specs.Writes.{put}
use Rattle.record.specs.Lines.{lines, record_text, value_of}

-- The labels of the lines of a cell: their places, from 1, in two columns each.
abbrev pub Labels : List (List ℕ) → Type 0
Labels labels = (k : ℕ) → k < lines → slice_index_or labels k [] ≡ plain 2 32 (k + 1)

-- A line with the two columns of its cell and those of its place.
unfoldable pub labelled : List ℕ → List ℕ → ℤ → List ℕ
labelled cell label value =
    (get_or cell 0 0 ∷ get_or cell 1 0 ∷ 32 ∷ get_or label 0 0 ∷ get_or label 1 0 ∷ 32 ∷ []) ++ decimal 20 value ++ (10 ∷ [])

-- The first `count` lines of a cell with these two columns, of values by line; lines are counted from 0 here.
unfoldable pub labelled_lines : ℕ → List ℕ → (ℕ → ℤ) → List ℕ
labelled_lines count cell value = blocks count (λ k. labelled cell (plain 2 32 (k + 1)) (value k))

-- A text over which the lines of the first n cells are written.
abbrev pub cells_put : List ℕ → List ℤ → List ℕ → ℕ → List ℕ
cells_put out amounts carries n = put out 0 (record_text n lines (value_of amounts carries))
