-- Writing a bank page (request 2026-01, checks 4 and 12): the number, and every byte of the output. No assumptions.
use Rattle.std.specs.Prelude.{ℕ, ◌*◌, Bool, cond, List, [], ◌∷◌, ltb, eqb}
use Rattle.numeric.specs.Check.{first_holding, ◌when◌}
use Rattle.river.specs.declared.River.{River}
use Rattle.river.specs.Rivers.{river_wrong}
use Rattle.text.specs.Writes.{put}
use Rattle.page.specs.Pages.{row_bytes, page_of}

-- Check 12, of the length of the output.
abbrev pub page_space_wrong : ℕ → ℕ → Bool
page_space_wrong cells output = ltb output (cells * row_bytes)

unfoldable pub page_number : River → ℕ → ℕ
page_number r output = first_holding (4 when river_wrong r ∷ 12 when page_space_wrong r.cells output ∷ [])

-- The output after the call: it begins with the river's page and what was past it stays; on refusal every byte stays.
unfoldable pub page_after : ℕ → River → List ℕ → List ℕ
page_after number r before = cond (eqb number 0) (put before 0 (page_of r)) before
