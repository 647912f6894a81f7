-- The levels and the products are the definition's, so the extents are. No assumptions.
use Rattle.std.proofs.Common.{ℕ, ◌<◌, ◌≡◌, [], ◌∷◌, ◌∙◌}
use lib.Dec.{lit<}
use Rattle.kinetics.proofs.FactorLaws.{times_first}
use Rattle.kinetics.specs.Rates.{rate_at, rates_of, product_at}
use Rattle.numeric.specs.Table.{tab}
use Rattle.stoichiometry.specs.Rows.{processes}
use Rattle.step.specs.declared.levels.CellLevels.{CellLevels}
use Rattle.step.specs.declared.rates.Rates.{Rates}
use Rattle.step.specs.Inner.Rating.{ExtentFits, level_in, level_list}
use Rattle.step.proofs.RatingLaws.{extent_fits, extent_by, extents_are}
use Rattle.step.proofs.rates.Rates.cell_extents.Goals as goal

-- X, rate constant and product of every process fit the machine, in these rates.
fits : (rates : Rates) (l : CellLevels) (p : ℕ) → p < processes
    → ExtentFits (level_in l (rate_at rates.set p).x) (rate_at rates.set p).k
    (product_at rates.set rates.conditions (level_in l) p)
fits rates l p h = (extent_fits _ _ _ _ rates.ready rates.sized l p h).0

pub extent-requires : goal.extent-requires
unfolding rate_at rates_of product_at tab
extent-requires c = (lit< tt, rw c.aerobic-aerobic.ensures (fits c.args.self.now c.levels-l.result 0 (lit< tt)))

pub extent-requires-2 : goal.extent-requires-2
unfolding rate_at rates_of product_at tab
extent-requires-2 c = (lit< tt, rw c.aerobic-aerobic.ensures (fits c.args.self.now c.levels-l.result 1 (lit< tt)))

pub extent-requires-3 : goal.extent-requires-3
unfolding rate_at rates_of product_at tab
extent-requires-3 c = (lit< tt, rw c.aerobic-aerobic.ensures (fits c.args.self.now c.levels-l.result 2 (lit< tt)))

pub extent-requires-4 : goal.extent-requires-4
unfolding rate_at rates_of product_at tab
extent-requires-4 c = (lit< tt, rw c.anoxic-anoxic.ensures (fits c.args.self.now c.levels-l.result 3 (lit< tt)))

pub extent-requires-5 : goal.extent-requires-5
unfolding rate_at rates_of product_at tab
extent-requires-5 c = (lit< tt, rw c.anoxic-anoxic.ensures (fits c.args.self.now c.levels-l.result 4 (lit< tt)))

pub extent-requires-6 : goal.extent-requires-6
unfolding rate_at rates_of product_at tab
extent-requires-6 c = (lit< tt, rw c.anoxic-anoxic.ensures (fits c.args.self.now c.levels-l.result 5 (lit< tt)))

pub extent-requires-7 : goal.extent-requires-7
unfolding rate_at rates_of product_at tab
extent-requires-7 c = (lit< tt, rw c.nitrifiers-nitrifiers.ensures (fits c.args.self.now c.levels-l.result 6 (lit< tt)))

pub extent-requires-8 : goal.extent-requires-8
unfolding rate_at rates_of product_at tab
extent-requires-8 c = (lit< tt, rw c.nitrifiers-nitrifiers.ensures (fits c.args.self.now c.levels-l.result 7 (lit< tt)))

pub extent-requires-9 : goal.extent-requires-9
unfolding rate_at rates_of product_at tab
extent-requires-9 c = (lit< tt, rw c.nitrifiers-nitrifiers.ensures (fits c.args.self.now c.levels-l.result 8 (lit< tt)))

pub extent-requires-10 : goal.extent-requires-10
unfolding rate_at rates_of product_at tab
extent-requires-10 c = (lit< tt, rw c.nitrifiers-nitrifiers.ensures (fits c.args.self.now c.levels-l.result 9 (lit< tt)))

pub extent-requires-11 : goal.extent-requires-11
unfolding rate_at rates_of product_at tab
extent-requires-11 c = (lit< tt, rw c.algae-algae.ensures (fits c.args.self.now c.levels-l.result 10 (lit< tt)))

pub extent-requires-12 : goal.extent-requires-12
unfolding rate_at rates_of product_at tab
extent-requires-12 c = (lit< tt, rw c.algae-algae.ensures (fits c.args.self.now c.levels-l.result 11 (lit< tt)))

pub extent-requires-13 : goal.extent-requires-13
unfolding rate_at rates_of product_at tab
extent-requires-13 c = (lit< tt, rw c.algae-algae.ensures (fits c.args.self.now c.levels-l.result 12 (lit< tt)))

pub extent-requires-14 : goal.extent-requires-14
unfolding rate_at rates_of product_at tab
extent-requires-14 c = (lit< tt, rw times_first at (fits c.args.self.now c.levels-l.result 13 (lit< tt)))

pub extent-requires-15 : goal.extent-requires-15
unfolding rate_at rates_of product_at tab
extent-requires-15 c = (lit< tt, rw times_first at (fits c.args.self.now c.levels-l.result 14 (lit< tt)))

pub extent-requires-16 : goal.extent-requires-16
unfolding rate_at rates_of product_at tab
extent-requires-16 c = (lit< tt, fits c.args.self.now c.levels-l.result 15 (lit< tt))

pub extent-requires-17 : goal.extent-requires-17
unfolding rate_at rates_of product_at tab
extent-requires-17 c = (lit< tt, fits c.args.self.now c.levels-l.result 16 (lit< tt))

pub returns : goal.returns
unfolding rate_at rates_of product_at tab
returns c =
    let rates = c.args.self.now in
    let extent : ℕ → ℕ = extent_by _ _ _ _ rates.ready rates.sized (level_in c.levels-l.result) in
    let a = c.aerobic-aerobic.ensures in
    let b = c.anoxic-anoxic.ensures in
    let n = c.nitrifiers-nitrifiers.ensures in
    let g = c.algae-algae.ensures in
    let dying : c.extent-14.result ≡ extent 13 = rw times_first c.extent-14.ensures in
    let warmed : c.extent-15.result ≡ extent 14 = rw times_first c.extent-15.ensures in
    ◌∙◌ {b = tab processes extent}
    (λ i.
    (rw a at c.extent.ensures) i ∷
    (rw a at c.extent-2.ensures) i ∷
    (rw a at c.extent-3.ensures) i ∷
    (rw b at c.extent-4.ensures) i ∷
    (rw b at c.extent-5.ensures) i ∷
    (rw b at c.extent-6.ensures) i ∷
    (rw n at c.extent-7.ensures) i ∷
    (rw n at c.extent-8.ensures) i ∷
    (rw n at c.extent-9.ensures) i ∷
    (rw n at c.extent-10.ensures) i ∷
    (rw g at c.extent-11.ensures) i ∷
    (rw g at c.extent-12.ensures) i ∷
    (rw g at c.extent-13.ensures) i ∷
    dying i ∷
    warmed i ∷
    c.extent-16.ensures i ∷
    c.extent-17.ensures i ∷
    [])
    (extents_are _ _ _ _ rates.ready rates.sized (level_list c.levels-l.result) _ c.levels-l.ensures)
