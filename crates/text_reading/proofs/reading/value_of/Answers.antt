-- `value_of` meets its contract: the blanks, then a minus or none, then the digits. No assumptions.
use Rattle.std.proofs.Common.{arith}
use Rattle.text_reading.proofs.ReadingLoop.{digits_from_minus, digits_from_blanks}
use Rattle.text_reading.proofs.reading.value_of.Goals as goal
use Rattle.text_reading.proofs.reading.value_of.Goals.{else-start-columns-via-then-start-columns+else-columns-start-eq45, else-start-columns-via-else-start-columns}

pub value_after-requires : goal.value_after-requires
value_after-requires c =
    let found = c.blanks-start.ensures in
    digits_from_minus _ _ found c.if-start-columns.true c.if-columns-start-eq45.true

pub value_after-requires-else-start-columns : goal.value_after-requires-else-start-columns
value_after-requires-else-start-columns c =
    let found = c.blanks-start.ensures in
    digits_from_blanks _ _ found
    (elim c.else-start-columns.branch [
      | else-start-columns-via-then-start-columns+else-columns-start-eq45 w ↦ λ l. w.if-columns-start-eq45.false
      | else-start-columns-via-else-start-columns w ↦ λ l. absurd (omega arith)
    ])
