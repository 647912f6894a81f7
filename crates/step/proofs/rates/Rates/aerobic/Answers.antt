-- The three products are the first of the definition, factor by factor. No assumptions.
use lib.Dec.{lit<}
use Rattle.kinetics.proofs.FactorLaws.{times_first}
use Rattle.kinetics.specs.Rates.{rate_at, rates_of, product_at}
use Rattle.numeric.specs.Table.{tab}
use Rattle.step.proofs.RatingLaws.{takes_nitrogen_lem, takes_phosphate_lem}
use Rattle.step.proofs.rates.Rates.aerobic.Goals as goal

pub returns : goal.returns
unfolding rate_at rates_of product_at tab
returns c =
    let rates = c.args.self.now in
    let phosphate = takes_phosphate_lem rates.set _ rates.ready.rows in
    simp (
      c.by.ensures,
      c.times_if-2.ensures,
      c.times_if-ammonium.ensures,
      c.only_if.ensures,
      c.by-grown.ensures,
      c.times_if.ensures,
      c.times-nitrate.ensures,
      c.times-inhibited.ensures,
      c.times-start.ensures,
      c.by-2.ensures,
      c.monod.ensures,
      c.monod-o2.ensures,
      c.inhibition_beside.ensures,
      c.monod-nh4.ensures,
      c.monod-2.ensures,
      c.monod-phosphate.ensures,
      c.takes_up-takes_nh4.ensures,
      c.takes_up.ensures,
      c.takes_up-2.ensures,
      takes_nitrogen_lem rates.set _ rates.ready.rows,
      phosphate 0 (lit< tt),
      phosphate 1 (lit< tt),
      times_first,
    )
