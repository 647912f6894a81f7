-- What a record is (scope, "Probe frame, letter, record", check 11), said without reading. That reading accepts these
-- texts and no others: proofs/RecordTexts.antt. No assumptions.
use Rattle.std.specs.Prelude.{ℕ, ◌*◌, false, List, ◌≡◌, length}
use Rattle.stoichiometry.specs.Substances.{substances}
use Rattle.stoichiometry.specs.Rows.{processes}
use Rattle.river.specs.declared.River.{River}
use Rattle.river.specs.Rivers.{most_cells, river_wrong}
use Rattle.record.specs.Lines.{record_of}

-- The text is exactly the record of the river: 1 to 8 cells, values in bounds, zeros beyond the last cell (check 4 does
-- not hold). A river's arrays have these lengths.
pub record IsRecordOf (t : List ℕ) (r : River) : Type 0 where
  pub text : t ≡ record_of r
  pub right : river_wrong r ≡ false
  pub amounts : length r.amounts ≡ most_cells * substances
  pub carries : length r.carries ≡ most_cells * processes
