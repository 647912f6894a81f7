-- `write_two` meets its contract: nothing where both columns are not there, otherwise n over them. No assumptions.
use Rattle.std.proofs.Common.{◌≡◌, ◌+◌, ◌-◌, sym, ◌∙◌, arith}
use Rattle.text.proofs.WriteLaws.{put_within_lem, put_refused, mid_written}
use Rattle.text.proofs.DecimalLaws.{plain-length}
use Rattle.text.proofs.write_two.Goals as goal
use Rattle.text.proofs.write_two.Goals.{else-at-out-via-then-at-out+else-out-at-ge2, else-at-out-via-else-at-out}

-- `at` is past the end, or only one column is there.
pub returns-else-at-out : goal.returns-else-at-out
returns-else-at-out c =
    let both = plain-length 2 32 c.args.n in
    elim c.else-at-out.branch [
      | else-at-out-via-then-at-out+else-out-at-ge2 w ↦
          record { out = sym (put_refused _ _ 2 _ both (omega (arith, w.if-at-out.true, w.if-out-at-ge2.false))) }
      | else-at-out-via-else-at-out w ↦
          record { out = sym (put_refused _ _ 2 _ both (omega (arith, w.if-at-out.false))) }
    ]

pub returns-then-out-at-ge2 : goal.returns-then-out-at-ge2
returns-then-out-at-ge2 c =
    let count : c.args.at + 2 - c.args.at ≡ 2 = omega arith in
    let both = plain-length 2 32 c.args.n in
    record {
      out =
          mid_written c.args.out.now _ _ c.args.at _ 2 both count
          (c.copy_from_slice.ensures.after ∙ c.two_columns.ensures.columns)
          ∙ sym (put_within_lem c.args.out.now c.args.at 2 _ both (omega arith));
    }
