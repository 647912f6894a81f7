-- Worked cases of rows beside those that document 01 stars (crate results): row 6 leaves NO2 alone, the inert part of
-- row 14 is not cut. A table about the definitions, and that all of it holds. That the published set is accepted:
-- PublishedSet.antt. No assumptions.
use mathlib.Core.List.{List, [], ◌∷◌}
use mathlib.Core.Path.{refl}
use lib.IntN.{pos}
use Rattle.numeric.specs.Case.{Case, ◌gives◌, AllHold}
use Rattle.stoichiometry.specs.declared.Set.{Set}
use Rattle.stoichiometry.specs.Substances.{organic, xi, no2, place}
use Rattle.stoichiometry.specs.Parameters.{all_rates, all_half_saturations, published_set}
use Rattle.stoichiometry.specs.Rows.{entry, oxygen_change, row, processes_of, process_at, row_entry}

-- Rate constants of 2,000 and half-saturations of 1,000,000.
abbrev published : Set
published = published_set (all_rates 2000) (all_half_saturations 1000000)

pub cases : List Case
cases =
    row_entry published 5 (place no2) gives pos 0
    ∷ row_entry published 13 (place (organic xi)) gives pos 1240
    ∷ []

pub cases_hold : AllHold cases
unfolding cases row_entry entry row oxygen_change process_at processes_of
cases_hold = refl
