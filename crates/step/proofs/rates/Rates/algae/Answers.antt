-- The products are the definition's from place 10, factor by factor. No assumptions.
use lib.Dec.{lit<}
use Rattle.kinetics.proofs.FactorLaws.{times_first}
use Rattle.kinetics.specs.Rates.{rate_at, rates_of, product_at}
use Rattle.numeric.specs.Table.{tab}
use Rattle.step.proofs.RatingLaws.{takes_phosphate_lem}
use Rattle.step.proofs.rates.Rates.algae.Goals as goal

pub returns : goal.returns
unfolding rate_at rates_of product_at tab
returns c =
    let rates = c.args.self.now in
    let phosphate = takes_phosphate_lem rates.set _ rates.ready.rows in
    simp (
      c.by.ensures,
      c.times.ensures,
      c.times_if-first.ensures,
      c.times-ammonium.ensures,
      c.by-2.ensures,
      c.times-2.ensures,
      c.times_if-second.ensures,
      c.times-nitrate.ensures,
      c.inhibition_beside.ensures,
      c.by-3.ensures,
      c.monod-nitrogen.ensures,
      c.monod-phosphate.ensures,
      c.monod-nh4.ensures,
      c.monod-o2.ensures,
      c.takes_up.ensures,
      c.takes_up-2.ensures,
      phosphate 10 (lit< tt),
      phosphate 11 (lit< tt),
      times_first,
    )
