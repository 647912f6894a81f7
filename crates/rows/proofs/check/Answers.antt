-- `check` meets its contract: it is refused what `rows_of` is. No assumptions.
use Rattle.std.proofs.Common.{sym, ap, ◌∙◌}
use Rattle.std.proofs.lemmas.Result.{err_from_is_err_and}
use Rattle.rows.proofs.AnswerLaws.{without, checked}
use Rattle.rows.proofs.check.Goals as goal

pub returns-in_err-rows_of : goal.returns-in_err-rows_of
returns-in_err-rows_of c =
    let refused = err_from_is_err_and c.from_residual.result c.from_residual.ensures.1 in
    record { answer = rw (refused.1, refused.2) (ap without (sym c.in_err-rows_of.was) ∙ checked c.args.set _ c.rows_of.ensures.answer) }

pub returns : goal.returns
returns c = record { answer = ap without (sym c.in_ok-rows_of.was) ∙ checked c.args.set _ c.rows_of.ensures.answer }
