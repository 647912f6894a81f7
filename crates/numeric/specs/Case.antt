-- Worked cases: a table of computed values, each beside what it has to be. No assumptions.
use Rattle.std.specs.Prelude.{List, map, ◌≡◌, ℤ}

infix 68 ◌gives◌
-- A computed value, and the value that a document states for it.
pub data Case : Type 0 where
  ◌gives◌ : ℤ → ℤ → Case

abbrev pub computed : Case → ℤ
computed (x gives y) = x

abbrev pub stated : Case → ℤ
stated (x gives y) = y

-- Every case of a table comes out as stated.
abbrev pub AllHold : List Case → Type 0
AllHold cases = map computed cases ≡ map stated cases
