-- The carries and the amounts that are made are those of the definitions (proofs/StepLoop.antt), where check 7 is
-- passed. No assumptions.
use mathlib.Core.Bool.{true≢false}
use Rattle.std.proofs.Common.{◌≡◌, true, refl, sym, ◌∙◌}
use Rattle.step.specs.Inner.Rating.{amount_in, carry_in}
use Rattle.step.specs.Inner.Stepping.{batches_few}
use Rattle.step.proofs.ExtentBounds.{extents_fit}
use Rattle.step.proofs.StepLoop.{batches_pass, batches_many, batches-fit, amounts_are, rest_made}
use Rattle.step.proofs.rates.Rates.step_cell.Goals as goal
use Rattle.step.proofs.rates.Rates.step_cell.Goals.{Else-not-batches_fit}

pub split-requires : goal.split-requires
split-requires c =
    let cell = c.args.cell.now in
    let rates = c.args.self.now in
    let small = extents_fit cell.amounts.now cell.fits rates.set rates.conditions _ rates.ready in
    (rw c.cell_extents-extents.ensures small, c.requires)

pub returns-then-not-batches_fit-clause-batches : goal.returns-then-not-batches_fit-clause-batches
returns-then-not-batches_fit-clause-batches c =
    let rates = c.args.self.now in
    let whole = rw c.cell_extents-extents.ensures at c.split.ensures.whole_after in
    let many =
    batches_many rates.set rates.conditions c.args.cell.now.amounts.now c.args.carries.now _ whole
    (λ pass. true≢false (sym (c.if-not-batches_fit.ensures.1 pass))) in
    rw many refl

-- Check 7 is passed.
few : (c : Else-not-batches_fit) → batches_few c.args.self.now.set c.args.self.now.conditions
    (amount_in c.args.cell.now.amounts.now) (carry_in c.args.carries.now) ≡ true
few c =
    let rates = c.args.self.now in
    let whole = rw c.cell_extents-extents.ensures at c.split.ensures.whole_after in
    batches_pass rates.set rates.conditions c.args.cell.now.amounts.now c.args.carries.now _ whole
    (c.if-not-batches_fit.ensures.0 refl)

pub invariant_of-terms : goal.invariant_of-terms
invariant_of-terms c =
    let rates = c.args.self.now in
    let whole = rw c.cell_extents-extents.ensures at c.split.ensures.whole_after in
    let cell = c.args.cell.now in
    record {
      amounts_fit = cell.fits;
      batches_fit = batches-fit rates.set rates.conditions cell.amounts.now c.args.carries.now _ whole (few (search));
      entries_fit = rates.entries_fit;
    }

pub returns-clause-batches : goal.returns-clause-batches
returns-clause-batches c = rw (few (search)) refl

pub returns-clause-amounts : goal.returns-clause-amounts
returns-clause-amounts c =
    let rates = c.args.self.now in
    let whole = rw c.cell_extents-extents.ensures at c.split.ensures.whole_after in
    c.amounts_after.ensures
    ∙ amounts_are rates.set rates.conditions c.args.cell.now.amounts.now c.args.carries.now _ whole _ rates.ready.rows

pub returns-clause-carries : goal.returns-clause-carries
returns-clause-carries c =
    let rates = c.args.self.now in
    rw c.cell_extents-extents.ensures at c.split.ensures.rest_after
    ∙ rest_made rates.set rates.conditions c.args.cell.now.amounts.now c.args.carries.now
