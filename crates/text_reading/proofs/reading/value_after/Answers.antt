-- `value_after` meets its contract: nothing left, a zero, or other digits. No assumptions.
use Rattle.std.proofs.Common.{sym, arith}
use Rattle.text_reading.proofs.ReadingLoop.{empty_none, zeros-none, zero_read, minus_zero_none}
use Rattle.text_reading.proofs.reading.value_after.Goals as goal

-- The text ends after blanks, or after a minus.
pub returns-then-start-end : goal.returns-then-start-end
returns-then-start-end c = sym (empty_none _ _ _ c.requires (omega arith))

-- A byte after a zero.
pub returns-then-start-end-2 : goal.returns-then-start-end-2
returns-then-start-end-2 c = sym (zeros-none _ _ _ c.requires (omega arith) c.if-columns-start-eq48.true)

-- A zero alone.
pub returns-then-mark-eq32 : goal.returns-then-mark-eq32
returns-then-mark-eq32 c =
    sym (zero_read _ _ _ c.requires (omega arith) (omega arith) c.if-columns-start-eq48.true (omega arith))

-- A zero after a minus.
pub returns-then-columns-start-eq48 : goal.returns-then-columns-start-eq48
returns-then-columns-start-eq48 c =
    sym (minus_zero_none _ _ _ c.requires (omega arith) c.if-columns-start-eq48.true (λ e. omega arith))
