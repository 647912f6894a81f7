-- Parameter sets: checks 1 and 2 (scope, "Numbers a caller may get") and the published set (scope, "Units and
-- substances"; Tables 6 and 7 of document 000). Check 3 looks at rows: Sets.antt. No assumptions.
use Rattle.std.specs.Prelude.{ℕ, ◌+◌, Bool, not, ◌&&◌, List, [], ◌∷◌, eqb}
use Rattle.numeric.specs.Check.{in_range, all_of}
use Rattle.stoichiometry.specs.declared.Fractions.{Fractions}
use Rattle.stoichiometry.specs.declared.Organics.{Organics}
use Rattle.stoichiometry.specs.declared.Yields.{Yields}
use Rattle.stoichiometry.specs.declared.InertFractions.{InertFractions}
use Rattle.stoichiometry.specs.declared.RateConstants.{RateConstants}
use Rattle.stoichiometry.specs.declared.GrowthRates.{GrowthRates}
use Rattle.stoichiometry.specs.declared.HalfSaturations.{HalfSaturations}
use Rattle.stoichiometry.specs.declared.Set.{Set}
use Rattle.stoichiometry.specs.Substances.{organics, fractions_of}

-- The fractions of each organic, in the order of `organics`.
abbrev pub organic_list : Organics → List Fractions
organic_list f = f.ss ∷ f.si ∷ f.xh ∷ f.xn1 ∷ f.xn2 ∷ f.xalg ∷ f.xs ∷ f.xi ∷ []

-- The five fractions of an organic add to 1,000.
unfoldable pub adds_up : Fractions → Bool
adds_up f = eqb (f.carbon + f.hydrogen + f.oxygen + f.nitrogen + f.phosphorus) 1000

-- Check 1: the fractions of some organic do not.
unfoldable pub fractions_wrong : Set → Bool
fractions_wrong set = not (all_of (λ o. adds_up (fractions_of set o)) organics)

-- Mass fractions, thousandths; yields and inert fractions, hundredths; rate constants, thousandths per day;
-- half-saturations, µg: each list in the order of the fields.
abbrev pub fraction_list : Fractions → List ℕ
fraction_list f = f.carbon ∷ f.hydrogen ∷ f.oxygen ∷ f.nitrogen ∷ f.phosphorus ∷ []

abbrev pub yield_list : Yields → List ℕ
yield_list y = y.aerobic ∷ y.nitrate ∷ y.nitrite ∷ y.xn1 ∷ y.xn2 ∷ y.death ∷ y.hydrolysis ∷ []

abbrev pub inert_list : InertFractions → List ℕ
inert_list f = f.bacteria ∷ f.algae ∷ []

abbrev pub rate_list : RateConstants → List ℕ
rate_list k =
    k.aerobic.growth ∷ k.aerobic.respiration ∷ k.anoxic.growth ∷ k.anoxic.respiration
    ∷ k.xn1.growth ∷ k.xn1.respiration ∷ k.xn2.growth ∷ k.xn2.respiration
    ∷ k.algae.ammonium ∷ k.algae.nitrate ∷ k.algae.respiration ∷ k.algae.death
    ∷ k.hydrolysis ∷ k.adsorption ∷ k.desorption ∷ []

abbrev pub half_list : HalfSaturations → List ℕ
half_list h =
    h.aerobic.ss ∷ h.aerobic.o2 ∷ h.aerobic.nitrogen ∷ h.aerobic.phosphate
    ∷ h.anoxic.ss ∷ h.anoxic.o2 ∷ h.anoxic.no3 ∷ h.anoxic.no2 ∷ h.anoxic.phosphate
    ∷ h.xn1.o2 ∷ h.xn1.nh4 ∷ h.xn1.phosphate
    ∷ h.xn2.o2 ∷ h.xn2.no2 ∷ h.xn2.phosphate
    ∷ h.algae.o2 ∷ h.algae.nitrogen ∷ h.algae.nh4 ∷ h.algae.phosphate ∷ []

-- The rate constants of growth and respiration of an organism, thousandths per day.
abbrev pub growth_rates : ℕ → ℕ → GrowthRates
growth_rates k r = record { growth = k; respiration = r }

-- Every rate constant k, thousandths per day; every half-saturation k, µg.
abbrev pub all_rates : ℕ → RateConstants
all_rates k =
    let organism = growth_rates k k in
    record {
      aerobic = organism;
      anoxic = organism;
      xn1 = organism;
      xn2 = organism;
      algae = record { ammonium = k; nitrate = k; respiration = k; death = k };
      hydrolysis = k;
      adsorption = k;
      desorption = k;
    }

abbrev pub all_half_saturations : ℕ → HalfSaturations
all_half_saturations k =
    record {
      aerobic = record { ss = k; o2 = k; nitrogen = k; phosphate = k };
      anoxic = record { ss = k; o2 = k; no3 = k; no2 = k; phosphate = k };
      xn1 = record { o2 = k; nh4 = k; phosphate = k };
      xn2 = record { o2 = k; no2 = k; phosphate = k };
      algae = record { o2 = k; nitrogen = k; nh4 = k; phosphate = k };
    }

-- Every yield is from 1 to 100 hundredths, every inert fraction at most 100.
unfoldable pub yields_fit : Yields → InertFractions → Bool
yields_fit y f = all_of (in_range 1 100) (yield_list y) && all_of (in_range 0 100) (inert_list f)

-- Every rate constant is at most 20,000 thousandths per day, every half-saturation from 1 to 10^8 µg.
unfoldable pub constants_fit : RateConstants → HalfSaturations → Bool
constants_fit k h = all_of (in_range 0 20000) (rate_list k) && all_of (in_range 1 100000000) (half_list h)

-- Check 2: a yield, an inert fraction, a rate constant or a half-saturation is outside its range.
unfoldable pub figures_wrong : Set → Bool
figures_wrong set = not (yields_fit set.yields set.inert && constants_fit set.rates set.half)

-- C, H, O, N, P of one organic.
abbrev pub fractions : ℕ → ℕ → ℕ → ℕ → ℕ → Fractions
fractions c h o n p = record { carbon = c; hydrogen = h; oxygen = o; nitrogen = n; phosphorus = p }

-- Table 6 of document 000, thousandths.
abbrev pub published_fractions : Organics
published_fractions =
    record {
      ss = fractions 570 80 280 60 10;
      si = fractions 610 70 280 30 10;
      xh = fractions 520 80 250 120 30;
      xn1 = fractions 520 80 250 120 30;
      xn2 = fractions 520 80 250 120 30;
      xalg = fractions 360 70 500 60 10;
      xs = fractions 570 80 280 60 10;
      xi = fractions 610 70 280 30 10;
    }

-- Table 7 of document 000, hundredths.
abbrev pub published_yields : Yields
published_yields = record { aerobic = 60; nitrate = 50; nitrite = 30; xn1 = 13; xn2 = 3; death = 62; hydrolysis = 100 }

abbrev pub published_inert : InertFractions
published_inert = record { bacteria = 20; algae = 20 }

-- The published set with the caller's rate constants and half-saturations.
abbrev pub published_set : RateConstants → HalfSaturations → Set
published_set k h =
    record { fractions = published_fractions; yields = published_yields; inert = published_inert; rates = k; half = h }
