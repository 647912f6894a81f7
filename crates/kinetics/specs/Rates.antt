-- The rates of the 17 processes in one cell (scope, "One step"): one table of rate constants, X and factors, in the
-- document's order; products, q and extents by it. Laws: proofs/RateBounds.antt, Uptake.antt. No assumptions.
use Rattle.std.specs.Prelude.{ℕ, ◌*◌, ◌/◌, Bool, List, [], ◌∷◌, get_or, ℤ, pos}
use Rattle.std.specs.Int.Signed.{lt_z}
use Rattle.stoichiometry.specs.declared.Set.{Set}
use Rattle.stoichiometry.specs.Substances.{Substance, organic, ss, xh, xn1, xn2, xalg, xs, nh4, no2, no3, hpo4, o2}
use Rattle.stoichiometry.specs.Substances.{xp, place}
use Rattle.stoichiometry.specs.Levels.{level_of}
use Rattle.stoichiometry.specs.Rows.{released, process_at, row_entry}
use Rattle.kinetics.specs.declared.Conditions.{Conditions}
use Rattle.stoichiometry.specs.Limits.{seconds_per_day}
use Rattle.kinetics.specs.Factors.{of_xh, of_xn1, of_xn2, of_algae, of_hydrolysis, Factor, by, inhibited_by, by_if}
use Rattle.kinetics.specs.Factors.{by_nitrogen, phosphate, zero_unless, light, temperature, taken_by_all}

-- The P factor of the process at place p stands exactly when the row's HPO4 is below zero.
unfoldable pub takes_phosphate : Set → ℕ → Bool
takes_phosphate set p = lt_z (row_entry set p (place hpo4)) (pos 0)

-- Process 1 takes up nitrogen: its N is below zero. Otherwise its NH4 factor drops and process 2 has p = 0.
unfoldable pub takes_nitrogen : Set → Bool
takes_nitrogen set = lt_z (released set (process_at set 0).changes).n (pos 0)

-- How fast a process runs: the rate constant k, thousandths per day, the substance whose level is X, and the factors.
pub record Rate : Type 0 where
  pub k : ℕ
  pub x : Substance
  pub factors : List Factor

abbrev pub rate : ℕ → Substance → List Factor → Rate
rate k x factors = record { k = k; x = x; factors = factors }

-- The rates of processes 1 to 17, temperature last. Half-saturations: a of aerobic XH, d of anoxic XH, n of XN1, m of
-- XN2, g of algae.
unfoldable pub rates_of : Set → List Rate
rates_of set =
    let k = set.rates in
    let a = set.half.aerobic in
    let d = set.half.anoxic in
    let n = set.half.xn1 in
    let m = set.half.xn2 in
    let g = set.half.algae in
    let nitrogen = takes_nitrogen set in
    rate k.aerobic.growth (organic xh)
    (by (organic ss) a.ss ∷ by o2 a.o2 ∷ by_if nitrogen nh4 a.nitrogen ∷ phosphate a.phosphate
    ∷ temperature of_xh ∷ [])
    ∷ rate k.aerobic.growth (organic xh)
    (by (organic ss) a.ss ∷ by o2 a.o2 ∷ inhibited_by nh4 a.nitrogen ∷ by no3 a.nitrogen
    ∷ phosphate a.phosphate ∷ temperature of_xh ∷ zero_unless nitrogen ∷ [])
    ∷ rate k.aerobic.respiration (organic xh) (by o2 a.o2 ∷ temperature of_xh ∷ [])
    ∷ rate k.anoxic.growth (organic xh)
    (by (organic ss) d.ss ∷ inhibited_by o2 d.o2 ∷ by no3 d.no3 ∷ phosphate d.phosphate
    ∷ temperature of_xh ∷ [])
    ∷ rate k.anoxic.growth (organic xh)
    (by (organic ss) d.ss ∷ inhibited_by o2 d.o2 ∷ by no2 d.no2 ∷ phosphate d.phosphate
    ∷ temperature of_xh ∷ [])
    ∷ rate k.anoxic.respiration (organic xh) (inhibited_by o2 d.o2 ∷ by no3 d.no3 ∷ temperature of_xh ∷ [])
    ∷ rate k.xn1.growth (organic xn1)
    (by o2 n.o2 ∷ by nh4 n.nh4 ∷ phosphate n.phosphate ∷ temperature of_xn1 ∷ [])
    ∷ rate k.xn1.respiration (organic xn1) (by o2 n.o2 ∷ temperature of_xn1 ∷ [])
    ∷ rate k.xn2.growth (organic xn2)
    (by o2 m.o2 ∷ by no2 m.no2 ∷ phosphate m.phosphate ∷ temperature of_xn2 ∷ [])
    ∷ rate k.xn2.respiration (organic xn2) (by o2 m.o2 ∷ temperature of_xn2 ∷ [])
    ∷ rate k.algae.ammonium (organic xalg)
    (by_nitrogen g.nitrogen ∷ by nh4 g.nh4 ∷ phosphate g.phosphate ∷ light ∷ temperature of_algae ∷ [])
    ∷ rate k.algae.nitrate (organic xalg)
    (by_nitrogen g.nitrogen ∷ inhibited_by nh4 g.nh4 ∷ phosphate g.phosphate ∷ light ∷ temperature of_algae ∷ [])
    ∷ rate k.algae.respiration (organic xalg) (by o2 g.o2 ∷ temperature of_algae ∷ [])
    ∷ rate k.algae.death (organic xalg) (temperature of_algae ∷ [])
    ∷ rate k.hydrolysis (organic xs) (temperature of_hydrolysis ∷ [])
    ∷ rate k.adsorption hpo4 []
    ∷ rate k.desorption xp []
    ∷ []

-- No process: it does not run.
abbrev pub no_rate : Rate
no_rate = rate 0 hpo4 []

-- The rate of the process at a place, counted from 0.
unfoldable pub rate_at : Set → ℕ → Rate
rate_at set p = get_or (rates_of set) p no_rate

-- The product p of the process at a place, in a cell with these levels: 10^6, taken by each factor.
unfoldable pub product_at : Set → Conditions → (Substance → ℕ) → ℕ → ℕ
product_at set conditions level p = taken_by_all conditions level (takes_phosphate set p) (rate_at set p).factors 1000000

-- The levels of a cell with these amounts by place.
abbrev pub levels_of : (ℕ → ℤ) → Substance → ℕ
levels_of amount s = level_of s (amount (place s))

-- q = k × p × seconds / 86,400, rounded down, of the process at a place.
unfoldable pub quota_at : Set → Conditions → (ℕ → ℤ) → ℕ → ℕ
quota_at set conditions amount p =
    (rate_at set p).k * product_at set conditions (levels_of amount) p * conditions.seconds / seconds_per_day

-- Its extent in millionths of a batch: X × q / (1,000 × b), rounded down.
unfoldable pub extent_at : Set → Conditions → (ℕ → ℤ) → ℕ → ℕ
extent_at set conditions amount p =
    levels_of amount (rate_at set p).x * quota_at set conditions amount p / (1000 * (process_at set p).batch)
