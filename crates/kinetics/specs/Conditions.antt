-- What a step is given besides the set and the river (scope, "Numbers a caller may get", 6): the check of it.
-- No assumptions.
use Rattle.std.specs.Prelude.{ℕ, Bool, not, ◌&&◌, leb}
use Rattle.numeric.specs.Check.{in_range}
use Rattle.kinetics.specs.declared.Conditions.{Conditions}
use Rattle.kinetics.specs.declared.Temperatures.{Temperatures}
use Rattle.stoichiometry.specs.Limits.{most_seconds}

-- Every temperature factor the same, millionths.
abbrev pub all_temperatures : ℕ → Temperatures
all_temperatures factor = record { xh = factor; xn1 = factor; xn2 = factor; algae = factor; hydrolysis = factor }

-- Every temperature factor is at most 4,000,000.
unfoldable pub temperatures_fit : Temperatures → Bool
temperatures_fit t =
    let fits : ℕ → Bool = λ x. leb x 4000000 in
    fits t.xh && fits t.xn1 && fits t.xn2 && fits t.algae && fits t.hydrolysis

-- Check 6 of a step: seconds outside 1 to 3,600, light above 10^6, or a temperature factor above 4,000,000.
unfoldable pub conditions_wrong : Conditions → Bool
conditions_wrong conditions =
    not
    (in_range 1 most_seconds conditions.seconds && leb conditions.light 1000000
    && temperatures_fit conditions.temperatures)
