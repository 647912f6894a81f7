-- The loop's invariant: what was seen so far is the mark and the value of the digits. No assumptions.
use Rattle.std.proofs.Common.{◌-◌, length}
use Rattle.text_reading.proofs.DigitLoop.{DigitsRead}
use Rattle.text_reading.proofs.reading.digits_after.Given as goal

abbrev pub invariant-loop-k : goal.invariant-loop-k
invariant-loop-k l = DigitsRead l.columns l.mark l.start l.size l.k

abbrev pub decreases-loop-k : goal.decreases-loop-k
decreases-loop-k l = length l.columns - l.k
