-- The six totals of a cell under a set (scope, "Flow, air, load, and the book"), by cell_total of
-- stoichiometry/specs/Totals.antt. No assumptions.
use Rattle.std.specs.Prelude.{ℕ, ◌-◌, not, List, [], ◌∷◌, ◌++◌, ℤ, Result}
use Rattle.numeric.specs.Check.{first_holding, ◌when◌}
use Rattle.stoichiometry.specs.declared.Set.{Set}
use Rattle.stoichiometry.specs.declared.refusals.Refusal.{Refusal}
use Rattle.stoichiometry.specs.Refusals.{answer_of}
use Rattle.stoichiometry.specs.Substances.{Total, carbon, hydrogen, oxygen, nitrogen, phosphorus, charge}
use Rattle.stoichiometry.specs.Totals.{cell_total}
use Rattle.stoichiometry.specs.Sets.{set_checks}
use Rattle.river.specs.declared.River.{River}
use Rattle.river.specs.Rivers.{river_wrong, cell_exists}
use Rattle.totals.specs.declared.Totals.{Totals}

unfoldable pub totals_number : Set → River → ℕ → ℕ
totals_number set r cell =
    first_holding (set_checks set ++ (4 when river_wrong r ∷ 5 when not (cell_exists r cell) ∷ []))

-- The totals in the order of the fields.
abbrev pub total_list : Totals → List ℤ
total_list t = t.carbon ∷ t.hydrogen ∷ t.oxygen ∷ t.nitrogen ∷ t.phosphorus ∷ t.charge ∷ []

-- The six totals of a cell, grains.
abbrev pub totals_in : Set → List ℤ → ℕ → Totals
totals_in set amounts c =
    let total : Total → ℤ = λ t. cell_total set t amounts c in
    record {
      carbon = total carbon;
      hydrogen = total hydrogen;
      oxygen = total oxygen;
      nitrogen = total nitrogen;
      phosphorus = total phosphorus;
      charge = total charge;
    }

unfoldable pub totals_answer : Set → River → ℕ → Result Totals Refusal
totals_answer set r cell = answer_of (totals_number set r cell) (totals_in set r.amounts (cell - 1))
