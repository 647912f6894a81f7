-- 1,000 × b is not 0. No assumptions.
use Rattle.step.proofs.RatingLaws.{size_some}
use Rattle.step.proofs.rates.Rates.extent.Goals as goal

pub nonzero_div-result : goal.nonzero_div-result
nonzero_div-result c =
    let rates = c.args.self.now in
    size_some _ _ _ _ rates.ready rates.sized c.args.at c.requires.0
