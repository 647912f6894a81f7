-- The product of batches and an entry fits 64 bits. No assumptions.
use Rattle.step.proofs.StepArithmetic.{term_kept}
use Rattle.step.proofs.apply.Terms.added_by.Goals as goal

pub returns-then-changes : goal.returns-then-changes
returns-then-changes c =
    let terms = c.args.self.now in
    term_kept _ _ terms.batches_fit terms.entries_fit c.args.s c.args.p c.requires.1
