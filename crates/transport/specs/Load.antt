-- Load (scope, "Flow, air, load, and the book"): adds a whole number of either sign to one amount. No assumptions.
use Rattle.std.specs.Prelude.{ℕ, ◌+◌, ◌*◌, ◌-◌, not, ◌&&◌, [], ◌∷◌, set, ℤ, ◌+ℤ◌, Result}
use Rattle.numeric.specs.Check.{first_holding, ◌when◌}
use Rattle.stoichiometry.specs.declared.refusals.Refusal.{Refusal}
use Rattle.stoichiometry.specs.Refusals.{answer_of}
use Rattle.stoichiometry.specs.Substances.{substances}
use Rattle.river.specs.declared.River.{River}
use Rattle.stoichiometry.specs.Totals.{amount_at}
use Rattle.river.specs.Rivers.{amount_fits, river_wrong, cell_exists, substance_exists}

-- The river with one amount changed: place s of cell c, both from 0.
abbrev pub with_amount : River → ℕ → ℕ → ℤ → River
with_amount r c s x =
    record { cells = r.cells; amounts = set r.amounts (c * substances + s) x; carries = r.carries }

-- The amount after the load of a whole number, `added`, of either sign.
abbrev pub loaded_amount : River → ℕ → ℕ → ℤ → ℤ
loaded_amount r cell substance added = amount_at r.amounts (cell - 1) (substance - 1) +ℤ added

unfoldable pub load_number : River → ℕ → ℕ → ℤ → ℕ
load_number r cell substance added =
    first_holding
    (4 when river_wrong r
    ∷ 5 when not (cell_exists r cell && substance_exists substance)
    ∷ 8 when not (amount_fits (substance - 1) (loaded_amount r cell substance added))
    ∷ [])

-- The river with the amount after.
unfoldable pub load_answer : River → ℕ → ℕ → ℤ → Result River Refusal
load_answer r cell substance added =
    answer_of (load_number r cell substance added)
    (with_amount r (cell - 1) (substance - 1) (loaded_amount r cell substance added))
