-- `write_decimal` meets its contract: nothing where the columns are not all there, otherwise the value over them. No
-- assumptions.
use Rattle.std.proofs.Common.{◌≡◌, ◌+◌, ◌-◌, take, drop, sym, ap₂, ◌∙◌, arith, length, length-take, length-drop, to_z-of_z}
use Rattle.text.specs.Decimals.{decimal}
use Rattle.text.proofs.WriteLaws.{put_within_lem, put_refused, mid_written}
use Rattle.text.proofs.DecimalLaws.{decimal-length}
use Rattle.text.proofs.write_decimal.Goals as goal
use Rattle.text.proofs.write_decimal.Goals.{else-at-out-via-then-at-out+else-width-out, else-at-out-via-else-at-out}

-- `at` is past the end, or not all columns are there.
pub returns-else-at-out : goal.returns-else-at-out
returns-else-at-out c =
    let all = decimal-length c.args.width c.args.value in
    elim c.else-at-out.branch [
      | else-at-out-via-then-at-out+else-width-out w ↦
          record { out = sym (put_refused _ _ c.args.width _ all (omega (arith, w.if-at-out.true, w.if-width-out.false))) }
      | else-at-out-via-else-at-out w ↦
          record { out = sym (put_refused _ _ c.args.width _ all (omega (arith, w.if-at-out.false))) }
    ]

pub returns-then-width-out : goal.returns-then-width-out
returns-then-width-out c =
    let l = c.args.out.now in
    let w = c.args.width in
    let count : c.args.at + w - c.args.at ≡ w = omega arith in
    let long : length (take (c.args.at + w - c.args.at) (drop c.args.at l)) ≡ w =
    simp (length-take, length-drop) (omega arith) in
    let all = decimal-length w c.args.value in
    record {
      out =
          mid_written l _ _ c.args.at _ w all count
          (c.write_value.ensures.columns ∙ ap₂ decimal long (to_z-of_z c.ranges.value))
          ∙ sym (put_within_lem l c.args.at w _ all (omega arith));
    }
