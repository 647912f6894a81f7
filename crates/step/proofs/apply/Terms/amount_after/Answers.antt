-- The digit of a process says whether it is added, and each total fits. No assumptions.
use Rattle.std.proofs.Common.{◌∙◌}
use mir.Facts.{to_z-of_z}
use Rattle.river.proofs.Bounds.{fits_bound}
use Rattle.step.specs.Inner.Rating.{amount_in}
use Rattle.step.proofs.StepArithmetic.{total_none, total_next}
use Rattle.step.proofs.Unchanged.{digit_at}
use Rattle.step.proofs.apply.Terms.amount_after.Goals as goal

pub loop-p-init : goal.loop-p-init
loop-p-init c =
    let a = c.args in
    let terms = a.self.now in
    total_none _ _ terms.batches_fit terms.entries_fit a.s (amount_in terms.amounts.now a.s)
    (fits_bound a.s _ c.requires.0 (terms.amounts_fit.amount a.s c.requires.0))

pub added_by-total-requires : goal.added_by-total-requires
added_by-total-requires c =
    let p = c.loop-p.p in
    (c.requires.0, c.loop-p-test.true, digit_at c.args.changing p ∙ c.requires.1 p c.loop-p-test.true)

pub overflow_add-total : goal.overflow_add-total
overflow_add-total c =
    let a = c.args in
    let terms = a.self.now in
    let next =
    total_next _ _ terms.batches_fit terms.entries_fit a.s (amount_in terms.amounts.now a.s) c.loop-p.p
    _ _ c.loop-p.invariant c.added_by-total.ensures (fits_bound a.s _ c.requires.0 (terms.amounts_fit.amount a.s c.requires.0))
    c.loop-p-test.true in
    rw next.0 next.1

pub loop-p-preserved : goal.loop-p-preserved
loop-p-preserved c =
    let a = c.args in
    let terms = a.self.now in
    let next =
    total_next _ _ terms.batches_fit terms.entries_fit a.s (amount_in terms.amounts.now a.s) c.loop-p.p
    _ _ c.loop-p.invariant c.added_by-total.ensures (fits_bound a.s _ c.requires.0 (terms.amounts_fit.amount a.s c.requires.0))
    c.loop-p-test.true in
    rw next.0 (to_z-of_z next.1)
