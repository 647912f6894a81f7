-- `copy_bytes` meets its contract: one of both is shorter, or the bytes are copied. No assumptions.
use mathlib.Core.Bool.{and-false}
use Rattle.std.proofs.Common.{sym, ◌∙◌, refl, length, take}
use borrow.Author.Tests.{lt-leb}
use lib.Dec.{leb}
use lib.Seq.{length-take-le}
use Rattle.text.proofs.WriteLaws.{copied-accepted, copied_refused, front_written}
use Rattle.text.proofs.copy_bytes.Goals as goal

pub returns-then-from-count : goal.returns-then-from-count
returns-then-from-count c = record { to = sym (copied_refused _ _ _ (rw (lt-leb _ _ c.if-from-count.true) refl)) }

pub returns-then-to-count : goal.returns-then-to-count
returns-then-to-count c =
    let first = leb c.args.count (length c.args.from.now) in
    record { to = sym (copied_refused _ _ _ (rw (lt-leb _ _ c.if-to-count.true) (and-false first))) }

pub returns : goal.returns
returns c =
    let from = c.args.from.now in
    let count = c.args.count in
    record {
      to =
          front_written c.args.to.now _ (take count from) count (length-take-le count from c.if-from-count.false)
          c.copy_from_slice.ensures.after
          ∙ sym (copied-accepted from count c.args.to.now c.if-from-count.false c.if-to-count.false);
    }
