-- `all` over the places tests the amounts there. No assumptions.
use Rattle.std.proofs.Common.{◌≡◌, ◌+◌, ◌-◌, ◌∙◌, arith, get_or, pos, refl, rules, sym}
use borrow.Author.Tests.{tests}
use Rattle.std.proofs.lemmas.Iterator.{YieldsList-from_range}
use Rattle.std.proofs.lemmas.Iterator.Search.{all_from_yields_List}
use Rattle.river.specs.Rivers.{amount_fits}
use Rattle.river.proofs.Runs.{run_listed}
use Rattle.river.proofs.amounts.each_amount_fits.Goals as goal

pub returns-clause-fit : goal.returns-clause-fit
returns-clause-fit c told =
    let cell = c.args.cell.now in
    let first = c.args.first in
    let n = c.args.end - first in
    let all =
    all_from_yields_List (λ s. amount_fits s (get_or cell s (pos 0))) _ _ c.all.result c.all.ensures.ran
    (YieldsList-from_range first c.args.end n refl refl) (λ x b q k. search (rules, tests)) in
    let end : first + n ≡ c.args.end = omega arith in
    rw end at (run_listed cell first n (sym all ∙ told))
