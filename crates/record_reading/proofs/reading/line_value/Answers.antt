-- `line_value` meets its contract: the line feed, what stands before the value, and the value
-- (proofs/LineReading.antt). No assumptions.
use Rattle.std.proofs.Common.{sym, ap, ◌∙◌}
use Rattle.numeric.proofs.Machine.{kept}
use Rattle.text_reading.specs.Reading.{parse}
use Rattle.text.specs.Blocks.{part}
use Rattle.record_reading.proofs.LineReading.{end_refused, front_refused, line_read, limits_kept}
use Rattle.record_reading.proofs.reading.line_value.Goals as goal
use Rattle.record_reading.proofs.reading.line_value.Goals.{else-line-eq10-via-then-line-eq10+else-front_right, else-line-eq10-via-else-line-eq10}

pub returns-then-front_right : goal.returns-then-front_right
returns-then-front_right c =
    let right = sym c.front_right.ensures ∙ c.if-front_right.true in
    let lowest = ap kept c.limits_on-lowest.ensures.lowest ∙ (limits_kept c.args.k).0 in
    let highest = ap kept c.limits_on-lowest.ensures.highest ∙ (limits_kept c.args.k).1 in
    c.read_decimal.ensures.answer
    ∙ (λ i. parse (lowest i) (highest i) (part 6 20 c.args.line.now))
    ∙ sym (line_read c.args.line.now c.told-line _ _ _ _ right c.if-line-eq10.true)

pub returns-else-line-eq10 : goal.returns-else-line-eq10
returns-else-line-eq10 c =
    elim c.else-line-eq10.branch [
      | else-line-eq10-via-then-line-eq10+else-front_right w ↦
          sym (front_refused c.args.line.now c.told-line _ _ _ _ (sym w.front_right.ensures ∙ w.if-front_right.false))
      | else-line-eq10-via-else-line-eq10 w ↦ sym (end_refused c.args.line.now c.told-line _ _ _ _ w.if-line-eq10.false)
    ]
