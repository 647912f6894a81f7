-- A value is an amount, or a carry. No assumptions.
use Rattle.std.proofs.Common.{sym, ◌∙◌, pos, get_or, rules}
use Rattle.numeric.proofs.Machine.{kept_is}
use Rattle.record.proofs.LineLaws.{own_amount, own_carry}
use Rattle.record.proofs.writing.Cell.value.Goals as goal

pub returns-then-k-lt-SUBSTANCES : goal.returns-then-k-lt-SUBSTANCES
returns-then-k-lt-SUBSTANCES c =
    let cell = c.args.self.now in
    kept_is (get_or cell.amounts.now c.args.k (pos 0)) (search rules)
    ∙ sym (own_amount cell.amounts.now cell.carries.now c.args.k c.if-k-lt-SUBSTANCES.true)

pub returns : goal.returns
returns c =
    let cell = c.args.self.now in
    kept_is c.from.result c.from.type_inv
    ∙ c.from.ensures
    ∙ sym (own_carry cell.amounts.now cell.carries.now c.args.k c.if-k-lt-SUBSTANCES.false)
