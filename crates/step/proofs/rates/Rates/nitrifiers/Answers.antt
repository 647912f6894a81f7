-- The products are the definition's from place 6, factor by factor. No assumptions.
use lib.Dec.{lit<}
use Rattle.kinetics.proofs.FactorLaws.{times_first}
use Rattle.kinetics.specs.Rates.{rate_at, rates_of, product_at}
use Rattle.numeric.specs.Table.{tab}
use Rattle.step.proofs.RatingLaws.{takes_phosphate_lem}
use Rattle.step.proofs.rates.Rates.nitrifiers.Goals as goal

pub returns : goal.returns
unfolding rate_at rates_of product_at tab
returns c =
    let rates = c.args.self.now in
    let phosphate = takes_phosphate_lem rates.set _ rates.ready.rows in
    simp (
      c.by.ensures,
      c.times_if.ensures,
      c.times-ammonium.ensures,
      c.by-2.ensures,
      c.by-3.ensures,
      c.times_if-2.ensures,
      c.times-nitrite.ensures,
      c.by-4.ensures,
      c.monod-o2.ensures,
      c.monod.ensures,
      c.monod-phosphate.ensures,
      c.monod-oxygen.ensures,
      c.monod-2.ensures,
      c.monod-phosphorus.ensures,
      c.takes_up.ensures,
      c.takes_up-2.ensures,
      phosphate 6 (lit< tt),
      phosphate 8 (lit< tt),
      times_first,
    )
