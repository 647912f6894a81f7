-- What `write_rows` leaves where it was to write the rows of a set. Inner definitions. No assumptions.
use Rattle.std.specs.Prelude.{◌*◌, cond, List, eqb, replicate, ℤ, pos}
use Rattle.stoichiometry.specs.declared.Set.{Set}
use Rattle.stoichiometry.specs.Substances.{substances}
use Rattle.stoichiometry.specs.Rows.{processes, rows_of}
use Rattle.stoichiometry.specs.Sets.{set_number}

-- A refusal leaves zeros.
abbrev pub refused_entries : List ℤ
refused_entries = replicate (processes * substances) (pos 0)

-- All rows of a set; of a refused one these zeros.
unfoldable pub entries_written : Set → List ℤ
entries_written set = cond (eqb (set_number set) 0) (rows_of set) refused_entries
