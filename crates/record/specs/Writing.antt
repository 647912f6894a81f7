-- Writing a record (scope, "Probe frame, letter, record", checks 4 and 10): the number, and every byte of the output
-- and of the work area. No assumptions.
use Rattle.std.specs.Prelude.{ℕ, ◌*◌, Bool, ◌||◌, cond, List, [], ◌∷◌, ltb, eqb}
use Rattle.numeric.specs.Check.{first_holding, ◌when◌}
use Rattle.river.specs.declared.River.{River}
use Rattle.river.specs.Rivers.{river_wrong}
use Rattle.text.specs.Writes.{put}
use Rattle.record.specs.Lines.{cell_bytes, record_of}

-- Check 10, of the lengths of the output and of the work area.
abbrev pub space_wrong : ℕ → ℕ → ℕ → Bool
space_wrong cells output work = ltb output (cells * cell_bytes) || ltb work (cells * cell_bytes)

unfoldable pub write_number : River → ℕ → ℕ → ℕ
write_number r output work = first_holding (4 when river_wrong r ∷ 10 when space_wrong r.cells output work ∷ [])

-- The output after the call: it begins with the river's record and what was past it stays; on refusal every byte stays.
unfoldable pub output_after : ℕ → River → List ℕ → List ℕ
output_after number r before = cond (eqb number 0) (put before 0 (record_of r)) before

-- The work area after the call: it begins with the same record.
unfoldable pub work_after : ℕ → River → List ℕ → List ℕ
work_after number r before = cond (eqb number 0) (put before 0 (record_of r)) before
