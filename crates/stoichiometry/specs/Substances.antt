-- The substances (scope, "Units and substances"): their order, what one of each holds, and the contents of an amount
-- of one. A grain, the customer's unit of a substance that is no organic, is 1/312,480 nmol; organics are in µg of
-- organic matter. Laws: proofs/Contents.antt. No assumptions.
use Rattle.std.specs.Prelude.{ℕ, List, [], ◌∷◌, map, get_or, ℤ, pos, neg_ℤ, ◌*ℤ◌}
use Rattle.stoichiometry.specs.declared.Fractions.{Fractions}
use Rattle.stoichiometry.specs.declared.Set.{Set}

-- How many substances there are.
abbrev pub substances : ℕ
substances = 18

pub data Organic : Type 0 where
  ss si xh xn1 xn2 xalg xs xi : Organic

-- h_plus is H+.
pub data Substance : Type 0 where
  organic : Organic → Substance
  nh4 no2 no3 hpo4 o2 hco3 h_plus xp h2o n2 : Substance

abbrev pub organics : List Organic
organics = ss ∷ si ∷ xh ∷ xn1 ∷ xn2 ∷ xalg ∷ xs ∷ xi ∷ []

-- The substances in their order, 1 to 18.
abbrev pub order : List Substance
order =
    organic ss ∷ organic si ∷ nh4 ∷ no2 ∷ no3 ∷ hpo4 ∷ o2 ∷ hco3 ∷ h_plus
    ∷ organic xh ∷ organic xn1 ∷ organic xn2 ∷ organic xalg ∷ organic xs ∷ organic xi ∷ xp ∷ h2o ∷ n2 ∷ []

-- The place of a substance in the order, counted from 0.
abbrev pub place : Substance → ℕ
place (organic ss) = 0
place (organic si) = 1
place nh4 = 2
place no2 = 3
place no3 = 4
place hpo4 = 5
place o2 = 6
place hco3 = 7
place h_plus = 8
place (organic xh) = 9
place (organic xn1) = 10
place (organic xn2) = 11
place (organic xalg) = 12
place (organic xs) = 13
place (organic xi) = 14
place xp = 15
place h2o = 16
place n2 = 17

-- The most of an amount: of an organic, µg; of any other substance, grains; of the net changes H+ and H2O, grains,
-- either way.
abbrev pub most_organic : ℕ
most_organic = 1000000000

abbrev pub most_grains : ℕ
most_grains = 10000000000000000

abbrev pub most_net : ℕ
most_net = 1000000000000000000

-- Grains of an element's substance in one µg of the element, the customer's W: O in O2, N in NH4, NO2 or NO3, P in
-- HPO4 or XP.
abbrev pub grains_per_microgram_o : ℕ
grains_per_microgram_o = 9765000

abbrev pub grains_per_microgram_n : ℕ
grains_per_microgram_n = 22320000

abbrev pub grains_per_microgram_p : ℕ
grains_per_microgram_p = 10080000

-- The mass fractions of an organic under a set, thousandths.
abbrev pub fractions_of : Set → Organic → Fractions
fractions_of set ss = set.fractions.ss
fractions_of set si = set.fractions.si
fractions_of set xh = set.fractions.xh
fractions_of set xn1 = set.fractions.xn1
fractions_of set xn2 = set.fractions.xn2
fractions_of set xalg = set.fractions.xalg
fractions_of set xs = set.fractions.xs
fractions_of set xi = set.fractions.xi

-- The six totals.
pub data Total : Type 0 where
  carbon hydrogen oxygen nitrogen phosphorus charge : Total

-- What one of a substance holds, in grains of each total.
pub record Composition : Type 0 where
  pub carbon : ℤ
  pub hydrogen : ℤ
  pub oxygen : ℤ
  pub nitrogen : ℤ
  pub phosphorus : ℤ
  pub charge : ℤ

-- One µg of an organic with these fractions.
abbrev pub organic_composition : Fractions → Composition
organic_composition f =
    record {
      carbon = pos 26040 *ℤ pos f.carbon;
      hydrogen = pos 312480 *ℤ pos f.hydrogen;
      oxygen = pos 19530 *ℤ pos f.oxygen;
      nitrogen = pos 22320 *ℤ pos f.nitrogen;
      phosphorus = pos 10080 *ℤ pos f.phosphorus;
      charge = pos 0;
    }

-- One grain of a substance with this formula: atoms of C, H, O, N, P, and the charge.
abbrev pub formula : ℕ → ℕ → ℕ → ℕ → ℕ → ℤ → Composition
formula c h o n p z =
    record { carbon = pos c; hydrogen = pos h; oxygen = pos o; nitrogen = pos n; phosphorus = pos p; charge = z }

-- What one of each substance holds under a set. XP is adsorbed HPO4 with all its atoms and charge.
abbrev pub composition_of : Set → Substance → Composition
composition_of set (organic x) = organic_composition (fractions_of set x)
composition_of set nh4 = formula 0 4 0 1 0 (pos 1)
composition_of set no2 = formula 0 0 2 1 0 (neg_ℤ (pos 1))
composition_of set no3 = formula 0 0 3 1 0 (neg_ℤ (pos 1))
composition_of set hpo4 = formula 0 1 4 0 1 (neg_ℤ (pos 2))
composition_of set o2 = formula 0 0 2 0 0 (pos 0)
composition_of set hco3 = formula 1 1 3 0 0 (neg_ℤ (pos 1))
composition_of set h_plus = formula 0 1 0 0 0 (pos 1)
composition_of set xp = formula 0 1 4 0 1 (neg_ℤ (pos 2))
composition_of set h2o = formula 0 2 1 0 0 (pos 0)
composition_of set n2 = formula 0 0 0 2 0 (pos 0)

-- One total of a composition.
abbrev pub amount_of : Total → Composition → ℤ
amount_of carbon c = c.carbon
amount_of hydrogen c = c.hydrogen
amount_of oxygen c = c.oxygen
amount_of nitrogen c = c.nitrogen
amount_of phosphorus c = c.phosphorus
amount_of charge c = c.charge

-- What one of a substance holds of a total.
abbrev pub held : Set → Total → Substance → ℤ
held set t s = amount_of t (composition_of set s)

-- The same by the substance's place; nothing at places where no substance stands.
unfoldable pub held_at : Set → Total → ℕ → ℤ
held_at set t k = get_or (map (held set t) order) k (pos 0)

-- The contents of an amount of the substance at a place: one total, grains.
unfoldable pub contents : Set → Total → ℕ → ℤ → ℤ
contents set t k amount = amount *ℤ held_at set t k
