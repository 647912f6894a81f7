-- `Totals::of_cell` meets its contract: what the amounts of a cell hold is small enough to be added. No assumptions.
use Rattle.std.proofs.Common.{◌≡◌, ◌<◌, rules, arith, length, length-append, get_or, pos}
use Rattle.std.proofs.lemmas.Slice.Zip.{zip_turn, zip_end}
use Rattle.numeric.proofs.Machine.{kept_is}
use Rattle.stoichiometry.specs.Substances.{substances}
use Rattle.totals.specs.Inner.TotalsCode.{compositions}
use Rattle.totals.proofs.TotalsLaws.{turn_fits, turn_next, held_none, held_all}
use Rattle.totals.proofs.Totals.of_cell.Goals as goal
use Rattle.totals.proofs.Totals.of_cell.Goals.{In-Some}

pub loop-amount-init : goal.loop-amount-init
loop-amount-init c = held_none c.args.set c.args.amounts.now c.default-totals.result c.default-totals.ensures

-- In a turn stand the amount at its place, and what one of the substance there holds.
turn : (c : In-Some) → let k = length c.loop-amount.yielded in
    (k < substances)
    × (c.in-Some.amount.now ≡ get_or c.args.amounts.now k (pos 0))
    × (c.in-Some.one.now ≡ get_or (compositions c.args.set) k c.loop-amount.totals)
turn c =
    let amounts = c.args.amounts.now in
    let l = c.loop-amount in
    let at =
    zip_turn amounts c.of_each-ones.result l.yielded _ _ c.next.new.self _ (search rules) (search rules) l.yielded_by _
    c.in-Some.is c.next.ensures.steps in (
      omega (arith, at.0),
      at.2 (pos 0),
      rw c.of_each-ones.ensures at (at.3 l.totals),
    )

pub with-totals-requires : goal.with-totals-requires
with-totals-requires c =
    let l = c.loop-amount in
    let (place, amount, one) = turn (search) in
    rw (amount, kept_is (get_or c.args.amounts.now (length l.yielded) (pos 0)) (search rules), one)
    (turn_fits c.args.set c.args.amounts.now (length l.yielded) l.totals _ place l.invariant c.requires)

pub loop-amount-preserved : goal.loop-amount-preserved
loop-amount-preserved c =
    let l = c.loop-amount in
    let (place, amount, one) = turn (search) in
    let same = kept_is (get_or c.args.amounts.now (length l.yielded) (pos 0)) (search rules) in
    rw (length-append, c.with-totals.ensures, amount, same, one)
    (turn_next c.args.set c.args.amounts.now (length l.yielded) l.totals _ place l.invariant)

pub returns : goal.returns
returns c =
    let amounts = c.args.amounts.now in
    let l = c.loop-amount in
    let done =
    zip_end amounts c.of_each-ones.result l.yielded _ _ c.next.new.self _ (search rules) (search rules) l.yielded_by
    c.in-None.is c.next.ensures.steps in
    held_all c.args.set amounts _ l.totals (omega (arith, done)) l.invariant
