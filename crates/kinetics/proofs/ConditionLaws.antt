-- Conditions that check 6 passes are in their ranges. No assumptions.
use mathlib.Core.Bool.{Bool, false, ◌&&◌}
use mathlib.Core.Path.{◌≡◌}
use lib.Dec.{leb}
use borrow.Author.Tests.{leb-true, not-false}
use Rattle.numeric.specs.Check.{in_range}
use Rattle.numeric.proofs.CheckLaws.{and_left, and_right}
use Rattle.stoichiometry.specs.Limits.{most_seconds}
use Rattle.kinetics.specs.declared.Conditions.{Conditions}
use Rattle.kinetics.specs.Conditions.{temperatures_fit, conditions_wrong}
use Rattle.kinetics.specs.Inner.Ranges.{ConditionsFit}

pub conditions_fit : (conditions : Conditions) → conditions_wrong conditions ≡ false → ConditionsFit conditions
unfolding conditions_wrong temperatures_fit
conditions_fit conditions e =
    let fits : Bool =
    in_range 1 most_seconds conditions.seconds && leb conditions.light 1000000
    && temperatures_fit conditions.temperatures in
    let passed = not-false fits e in
    search (and_left, and_right, leb-true)
