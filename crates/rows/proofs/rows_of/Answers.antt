-- `rows_of` meets its contract: it refuses what `write_rows` refuses. No assumptions.
use Rattle.std.proofs.lemmas.Result.{err_from_is_err_and}
use Rattle.rows.proofs.AnswerLaws.{rows_handed}
use Rattle.rows.proofs.rows_of.Goals as goal

pub returns-in_err-write_rows-clause-answer : goal.returns-in_err-write_rows-clause-answer
returns-in_err-write_rows-clause-answer c =
    rows_handed c.args.set (err_from_is_err_and _ c.from_residual.ensures.1) c.in_err-write_rows.ensures.answer
