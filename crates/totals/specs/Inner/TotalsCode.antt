-- How the code adds up what a cell holds: what one of each substance holds, as six totals, and the bounds that keep the
-- sums within 64 bits. Inner definitions that nobody need believe: proofs/TotalsLaws.antt ties them to Totals.antt.
-- No assumptions.
use Rattle.std.specs.Prelude.{ℕ, ◌+◌, ◌*◌, ◌^◌, ◌≤◌, ◌<◌, List, map, get_or, ℤ, pos, nat_abs, ◌+ℤ◌, ◌*ℤ◌}
use Rattle.stoichiometry.specs.declared.Set.{Set}
use Rattle.stoichiometry.specs.Substances.{Substance, organic, nh4, no2, no3, hpo4, o2, hco3, h_plus, xp, h2o, n2}
use Rattle.stoichiometry.specs.Substances.{substances, order, Composition, composition_of, amount_of, contents}
use Rattle.stoichiometry.specs.Substances.{Total, carbon, hydrogen, oxygen, nitrogen, phosphorus, charge}
use Rattle.river.specs.Rivers.{highest_at}
use Rattle.totals.specs.declared.Totals.{Totals}

-- Six totals, and one of them.
abbrev pub totals_from : (Total → ℤ) → Totals
totals_from f =
    record {
      carbon = f carbon;
      hydrogen = f hydrogen;
      oxygen = f oxygen;
      nitrogen = f nitrogen;
      phosphorus = f phosphorus;
      charge = f charge;
    }

abbrev pub total_in : Total → Totals → ℤ
total_in carbon totals = totals.carbon
total_in hydrogen totals = totals.hydrogen
total_in oxygen totals = totals.oxygen
total_in nitrogen totals = totals.nitrogen
total_in phosphorus totals = totals.phosphorus
total_in charge totals = totals.charge

-- A composition as six totals; what one of each substance holds, in their order.
abbrev pub as_totals : Composition → Totals
as_totals c = totals_from (λ t. amount_of t c)

unfoldable pub compositions : Set → List Totals
compositions set = map (λ s. as_totals (composition_of set s)) order

-- Totals and those of an amount of a substance of which one holds `one`.
abbrev pub with_amount : Totals → ℤ → Totals → Totals
with_amount sums amount one = totals_from (λ t. total_in t sums +ℤ amount *ℤ total_in t one)

-- The sums fit 64 bits.
pub record Addable (sums : Totals) (amount : ℤ) (one : Totals) : Type 0 where
  pub fits : (t : Total) → nat_abs (total_in t sums) + nat_abs (amount *ℤ total_in t one) < 2 ^ 63

-- The most that one of a substance holds of any total; of an organic 312,480 × 1,000.
abbrev pub heaviest : Substance → ℕ
heaviest (organic x) = 312480000
heaviest nh4 = 4
heaviest no2 = 2
heaviest no3 = 3
heaviest hpo4 = 4
heaviest o2 = 2
heaviest hco3 = 3
heaviest h_plus = 1
heaviest xp = 4
heaviest h2o = 2
heaviest n2 = 2

-- The most that an amount at place s holds of any total.
unfoldable pub most_held : ℕ → ℕ
most_held s = nat_abs (highest_at s) * get_or (map heaviest order) s 0

-- What each amount of a cell holds is in its bounds.
pub record AddableAmounts (set : Set) (amounts : List ℤ) : Type 0 where
  pub within : (t : Total) (s : ℕ) → s < substances
      → nat_abs (contents set t s (get_or amounts s (pos 0))) ≤ most_held s
