-- The list of its figures tells a value: no two fractions, inert fractions, rate constants or half-saturations have the
-- same list (specs/Parameters.antt), nor two values of the eight organics. The organics of a set stand in the order of
-- `organics`. No assumptions.
use Prim.Native.Nat.{ℕ}
use mathlib.Core.Path.{◌≡◌, ap, refl}
use mathlib.Core.List.{List}
use Rattle.std.specs.Prelude.{get_or, map}
use Rattle.stoichiometry.specs.declared.Fractions.{Fractions}
use Rattle.stoichiometry.specs.declared.Organics.{Organics}
use Rattle.stoichiometry.specs.declared.InertFractions.{InertFractions}
use Rattle.stoichiometry.specs.declared.RateConstants.{RateConstants}
use Rattle.stoichiometry.specs.declared.HalfSaturations.{HalfSaturations}
use Rattle.stoichiometry.specs.declared.Set.{Set}
use Rattle.stoichiometry.specs.Substances.{organics, fractions_of}
use Rattle.stoichiometry.specs.Parameters.{fractions, fraction_list, organic_list, inert_list}
use Rattle.stoichiometry.specs.Parameters.{growth_rates, rate_list, half_list}

fractions_by : List ℕ → Fractions
fractions_by l =
    let at : ℕ → ℕ = λ i. get_or l i 0 in
    fractions (at 0) (at 1) (at 2) (at 3) (at 4)

organics_by : List Fractions → Organics
organics_by l =
    let at : ℕ → Fractions = λ i. get_or l i (fractions 0 0 0 0 0) in
    record { ss = at 0; si = at 1; xh = at 2; xn1 = at 3; xn2 = at 4; xalg = at 5; xs = at 6; xi = at 7 }

inert_by : List ℕ → InertFractions
inert_by l = record { bacteria = get_or l 0 0; algae = get_or l 1 0 }

rates_of : List ℕ → RateConstants
rates_of l =
    let at : ℕ → ℕ = λ i. get_or l i 0 in
    record {
      aerobic = growth_rates (at 0) (at 1);
      anoxic = growth_rates (at 2) (at 3);
      xn1 = growth_rates (at 4) (at 5);
      xn2 = growth_rates (at 6) (at 7);
      algae = record { ammonium = at 8; nitrate = at 9; respiration = at 10; death = at 11 };
      hydrolysis = at 12;
      adsorption = at 13;
      desorption = at 14;
    }

halves_of : List ℕ → HalfSaturations
halves_of l =
    let at : ℕ → ℕ = λ i. get_or l i 0 in
    record {
      aerobic = record { ss = at 0; o2 = at 1; nitrogen = at 2; phosphate = at 3 };
      anoxic = record { ss = at 4; o2 = at 5; no3 = at 6; no2 = at 7; phosphate = at 8 };
      xn1 = record { o2 = at 9; nh4 = at 10; phosphate = at 11 };
      xn2 = record { o2 = at 12; no2 = at 13; phosphate = at 14 };
      algae = record { o2 = at 15; nitrogen = at 16; nh4 = at 17; phosphate = at 18 };
    }

pub fraction_list-unique : (a b : Fractions) → fraction_list a ≡ fraction_list b → a ≡ b
unfolding fractions_by
fraction_list-unique a b e = ap fractions_by e

pub organic_list-unique : (a b : Organics) → organic_list a ≡ organic_list b → a ≡ b
unfolding organics_by
organic_list-unique a b e = ap organics_by e

pub organic_list-each : (set : Set) → organic_list set.fractions ≡ map (fractions_of set) organics
organic_list-each set = refl

pub inert_list-unique : (a b : InertFractions) → inert_list a ≡ inert_list b → a ≡ b
unfolding inert_by
inert_list-unique a b e = ap inert_by e

pub rate_list-unique : (a b : RateConstants) → rate_list a ≡ rate_list b → a ≡ b
unfolding rates_of
rate_list-unique a b e = ap rates_of e

pub half_list-unique : (a b : HalfSaturations) → half_list a ≡ half_list b → a ≡ b
unfolding halves_of
half_list-unique a b e = ap halves_of e
