-- Levels (scope, "Units and substances"): the µg of a substance, or of its element, in an amount. Law: level_bound in
-- river/proofs/Levels.antt. No assumptions.
use Rattle.std.specs.Prelude.{ℕ, ◌/◌, ℤ, nat_abs}
use Rattle.stoichiometry.specs.declared.levels.Microgram.{Microgram}
use Rattle.stoichiometry.specs.declared.levels.Microgram.TheVariants.{Organic, Oxygen, Nitrogen, Phosphorus}
use Rattle.stoichiometry.specs.Substances.{Substance, organic, nh4, no2, no3, hpo4, o2, hco3, h_plus, xp, h2o, n2}
use Rattle.stoichiometry.specs.Substances.{grains_per_microgram_o, grains_per_microgram_n, grains_per_microgram_p}

-- The customer's "level", µg: of a dissolved substance its grains divided by W, rounded down, XP by P; of an organic,
-- its amount. Amounts that have a level are not negative. HCO3, H+, H2O and N2 have none: 0.
unfoldable pub level_of : Substance → ℤ → ℕ
level_of (organic x) amount = nat_abs amount
level_of nh4 amount = nat_abs amount / grains_per_microgram_n
level_of no2 amount = nat_abs amount / grains_per_microgram_n
level_of no3 amount = nat_abs amount / grains_per_microgram_n
level_of hpo4 amount = nat_abs amount / grains_per_microgram_p
level_of o2 amount = nat_abs amount / grains_per_microgram_o
level_of hco3 amount = 0
level_of h_plus amount = 0
level_of xp amount = nat_abs amount / grains_per_microgram_p
level_of h2o amount = 0
level_of n2 amount = 0

-- What one µg is of an amount: of an organic 1, of a dissolved substance W of its element.
abbrev pub in_microgram : Microgram → ℕ
in_microgram Organic = 1
in_microgram Oxygen = grains_per_microgram_o
in_microgram Nitrogen = grains_per_microgram_n
in_microgram Phosphorus = grains_per_microgram_p

-- The most of a level, µg: that of 10^16 grains of O2.
abbrev pub most_level : ℕ
most_level = 1024065540
