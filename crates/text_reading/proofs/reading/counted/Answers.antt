-- `counted` meets its contract: no digit or a value that is too large, or the value with its mark. No assumptions.
use Rattle.std.proofs.Common.{sym, ap, ◌∙◌, Some}
use Rattle.numeric.proofs.Machine.{result_is}
use Rattle.text_reading.specs.Reading.{signed}
use Rattle.text_reading.proofs.DigitLoop.{counted_none, counted_large, counted_within}
use Rattle.text_reading.proofs.reading.counted.Goals as goal
use Rattle.text_reading.proofs.reading.counted.Goals.{then-size-eq0-via-then-size-eq0, then-size-eq0-via-else-size-eq0+then-size-gt-LARGEST}

pub returns-then-size-eq0 : goal.returns-then-size-eq0
returns-then-size-eq0 c =
    elim c.then-size-eq0.branch [
      | then-size-eq0-via-then-size-eq0 w ↦ sym (counted_none c.args.mark _ w.if-size-eq0.true)
      | then-size-eq0-via-else-size-eq0+then-size-gt-LARGEST w ↦ sym (counted_large c.args.mark _ w.if-size-gt-LARGEST.true)
    ]

pub returns : goal.returns
returns c =
    ap Some (result_is (signed c.args.mark c.args.size) c.signed.ensures c.signed.type_inv)
    ∙ sym (counted_within c.args.mark _ c.if-size-eq0.false c.if-size-gt-LARGEST.false)
