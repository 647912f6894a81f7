-- `front_right` meets its contract: the six bytes are those of the front. No assumptions.
use Rattle.std.proofs.Common.{◌∙◌, arith}
use Rattle.record_reading.proofs.LineReading.{front_compared}
use Rattle.record_reading.proofs.reading.front_right.Goals as goal

pub returns : goal.returns
returns c =
    c.eq.ensures
    ∙ front_compared c.args.line.now _ _ c.args.cell c.args.place (omega (arith, c.told-line)) c.two_columns.ensures.columns
    c.two_columns-2.ensures.columns
