-- Bounds of rates (specs/Rates.antt): rate constants, half-saturations and batch sizes of a set that check 2 passes;
-- then, of every process of the table, the product, q and the extent. No assumptions.
use Prim.Native.Nat.{ℕ, suc, ◌*◌, ◌/◌, ◌≤◌, ◌<◌}
use mathlib.Core.Bool.{true, false}
use mathlib.Core.List.{List, [], ◌∷◌}
use mathlib.Core.Path.{◌≡◌, refl}
use native.Mathlib.Omega.{arith}
use native.Mathlib.Nat.{mul-le-mul, div-le_of_le-mul}
use borrow.Author.Tests.{leb-true, not-false}
use lib.Dec.{leb}
use lib.ListN.{get_or}
use lib.IntN.{ℤ}
use Rattle.numeric.specs.Check.{in_range, all_of}
use Rattle.numeric.proofs.CheckLaws.{and_left, and_right, leb-within, all_of_at}
use Rattle.numeric.proofs.TableLaws.{Each, each_at}
use Rattle.stoichiometry.specs.declared.Set.{Set}
use Rattle.stoichiometry.specs.Substances.{Substance}
use Rattle.stoichiometry.specs.Levels.{most_level}
use Rattle.stoichiometry.specs.Parameters.{yield_list, inert_list, rate_list, half_list, yields_fit, constants_fit}
use Rattle.stoichiometry.specs.Parameters.{figures_wrong}
use Rattle.stoichiometry.specs.Rows.{processes, no_process, processes_of, process_at}
use Rattle.kinetics.specs.declared.Conditions.{Conditions}
use Rattle.stoichiometry.specs.Limits.{most_seconds, seconds_per_day}
use Rattle.kinetics.specs.Rates.{rates_of, no_rate, rate_at, takes_phosphate, product_at, levels_of, quota_at, extent_at}
use Rattle.kinetics.specs.Inner.Ranges.{ConditionsFit}
use Rattle.kinetics.proofs.FactorLaws.{rise_of_all, product_bound}

-- Figures that are all in a range, each by itself.
each_in : (low high i : ℕ) (l : List ℕ) → all_of (in_range low high) l ≡ true → Each (λ i x. (low ≤ x) × (x ≤ high)) i l
unfolding all_of
each_in low high i [] e = tt
each_in low high i (x ∷ xs) e = (
  leb-within low x high (and_left (in_range low high x) (all_of (in_range low high) xs) e),
  each_in low high (suc i) xs (and_right (in_range low high x) (all_of (in_range low high) xs) e),
)

-- A set that check 2 passes.
module _ (set : Set) (fits : figures_wrong set ≡ false) where
  yields_fit_lem : yields_fit set.yields set.inert ≡ true
  unfolding figures_wrong
  yields_fit_lem = and_left _ (constants_fit set.rates set.half) (not-false _ fits)

  constants_fit_lem : constants_fit set.rates set.half ≡ true
  unfolding figures_wrong
  constants_fit_lem = and_right (yields_fit set.yields set.inert) _ (not-false _ fits)

  yields_in : Each (λ i y. (1 ≤ y) × (y ≤ 100)) 0 (yield_list set.yields)
  unfolding yields_fit
  yields_in =
      each_in 1 100 0 (yield_list set.yields) (and_left _ (all_of (in_range 0 100) (inert_list set.inert)) yields_fit_lem)

  constants_in : Each (λ i k. (0 ≤ k) × (k ≤ 20000)) 0 (rate_list set.rates)
  unfolding constants_fit
  constants_in =
      each_in 0 20000 0 (rate_list set.rates)
      (and_left _ (all_of (in_range 1 100000000) (half_list set.half)) constants_fit_lem)

  -- Every half-saturation is from 1 to 10^8 µg.
  pub halves_in : Each (λ i k. (1 ≤ k) × (k ≤ 100000000)) 0 (half_list set.half)
  unfolding constants_fit
  halves_in =
      each_in 1 100000000 0 (half_list set.half)
      (and_right (all_of (in_range 0 20000) (rate_list set.rates)) _ constants_fit_lem)

  constants_bound : Each (λ p r. r.k ≤ 20000) 0 (rates_of set)
  unfolding rates_of
  constants_bound = omega (arith, constants_in)

  -- Every rate constant is at most 20,000 thousandths per day.
  pub constant_bound : (p : ℕ) → p < processes → (rate_at set p).k ≤ 20000
  unfolding rate_at
  constant_bound p h = each_at (λ p r. r.k ≤ 20000) 0 (rates_of set) p no_rate constants_bound (unfold rates_of in h)

  batches_bound : Each (λ p q. 1 ≤ q.batch) 0 (processes_of set)
  unfolding processes_of
  batches_bound = omega (arith, yields_in)

  -- Every batch size is at least 1 µg.
  pub batch_bound : (p : ℕ) → p < processes → 1 ≤ (process_at set p).batch
  unfolding process_at
  batch_bound p h =
      each_at (λ p q. 1 ≤ q.batch) 0 (processes_of set) p no_process batches_bound (unfold processes_of in h)

-- The factors of every process make its product at most 4 times as large.
rises : (set : Set) → all_of (λ r. leb (rise_of_all r.factors) 4) (rates_of set) ≡ true
unfolding all_of rates_of
rises set = refl

-- The product of every process is at most 4,000,000 millionths.
pub product_at_bound : (set : Set) (conditions : Conditions) (level : Substance → ℕ) → ConditionsFit conditions
    → (p : ℕ) → p < processes → product_at set conditions level p ≤ 4000000
unfolding product_at rate_at
product_at_bound set conditions level fits p h =
    let fs = (get_or (rates_of set) p no_rate).factors in
    let rise =
    all_of_at (λ r. leb (rise_of_all r.factors) 4) (rates_of set) p no_rate (rises set) (unfold rates_of in h) in
    omega (arith, product_bound conditions fits level (takes_phosphate set p) fs 1000000, leb-true (rise_of_all fs) 4 rise)

-- q of a rate constant, a product and seconds in these bounds is at most 3,333,333,333.
pub quota_bound : {k p seconds : ℕ} → k ≤ 20000 → p ≤ 4000000 → seconds ≤ most_seconds
    → k * p * seconds / seconds_per_day ≤ 3333333333
quota_bound h k l = omega (arith, mul-le-mul (mul-le-mul h k) l)

-- A set that check 2 passes, conditions that check 6 passes, a cell whose levels are in their bounds.
module _ (set : Set) (figures : figures_wrong set ≡ false) (conditions : Conditions) (fits : ConditionsFit conditions)
    (amount : ℕ → ℤ) (p : ℕ) (h : p < processes) where
  pub quota_at_bound : quota_at set conditions amount p ≤ 3333333333
  unfolding quota_at
  quota_at_bound =
      quota_bound (constant_bound set figures p h)
      (product_at_bound set conditions (levels_of amount) fits p h) fits.seconds

  -- An extent is at most 3.5 × 10^15 millionths of a batch.
  pub extent_at_bound : levels_of amount (rate_at set p).x ≤ most_level
      → extent_at set conditions amount p ≤ 3500000000000000
  unfolding extent_at
  extent_at_bound l =
      let batch = batch_bound set figures p h in
      div-le_of_le-mul (1000 * (process_at set p).batch) (omega (arith, mul-le-mul l quota_at_bound))
