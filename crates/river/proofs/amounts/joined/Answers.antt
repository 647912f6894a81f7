-- `amounts::joined` meets its contract: one amount more is joined. No assumptions.
use Rattle.std.proofs.Common.{rules, ◌≡◌, get_or, pos}
use Rattle.numeric.proofs.Machine.{kept}
use Rattle.river.proofs.Runs.{covers_more}
use Rattle.river.proofs.amounts.joined.Goals as goal

pub loop-amount-preserved : goal.loop-amount-preserved
loop-amount-preserved c =
    let amount = get_or c.args.amounts.now c.loop-amount.amount-index (pos 0) in
    let same : kept amount ≡ amount = search rules in
    covers_more c.args.amounts.now c.loop-amount.amount-index c.loop-amount.bits-bits same c.loop-amount.invariant
