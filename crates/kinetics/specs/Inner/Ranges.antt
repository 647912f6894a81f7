-- Ranges of the conditions as check 6 leaves them. Laws: proofs/ConditionLaws.antt, FactorLaws.antt. No assumptions.
use Rattle.std.specs.Prelude.{◌≤◌}
use Rattle.kinetics.specs.declared.Conditions.{Conditions}
use Rattle.stoichiometry.specs.Limits.{most_seconds}

-- Seconds at most 3,600, light at most 10^6, temperature factors at most 4,000,000.
pub record ConditionsFit (conditions : Conditions) : Type 0 where
  pub seconds : conditions.seconds ≤ most_seconds
  pub light : conditions.light ≤ 1000000
  pub xh : conditions.temperatures.xh ≤ 4000000
  pub xn1 : conditions.temperatures.xn1 ≤ 4000000
  pub xn2 : conditions.temperatures.xn2 ≤ 4000000
  pub algae : conditions.temperatures.algae ≤ 4000000
  pub hydrolysis : conditions.temperatures.hydrolysis ≤ 4000000
