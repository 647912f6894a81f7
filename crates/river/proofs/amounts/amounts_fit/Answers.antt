-- `amounts_fit` meets its contract: the first cells are tested for their bounds, and the others for zeros.
-- No assumptions.
use Rattle.std.proofs.Common.{rules, tests, arith, ◌≡◌, true, false, take, drop}
use Rattle.std.specs.Iterator.Adapters.{take_count, skip_count}
use Rattle.std.proofs.lemmas.Iterator.{YieldsList-from_slice, YieldsList-from_take, cases_from_all}
use Rattle.std.proofs.lemmas.Iterator.Adapters.{YieldsList-from_skip}
use Rattle.river.specs.Inner.Parts.{cell_fits, cell_empty}
use Rattle.river.proofs.Rivers.{Says, all_says, front_fails, both_tested}
use Rattle.river.proofs.amounts.amounts_fit.Goals as goal
use Rattle.river.proofs.amounts.amounts_fit.Goals.{After-all}

-- What the test of the first cells says.
front : (c : After-all) → Says cell_fits (take c.args.cells c.as_chunks.result.0.now) c.all.result
front c =
    let n = c.args.cells in
    let cells = c.as_chunks.result.0.now in
    let taken : take_count c.take.result ≡ n = omega (arith, c.take.ensures.count) in
    all_says cell_fits _ _
    (cases_from_all _ _ _ (λ x. cell_fits x ≡ true) (λ x. cell_fits x ≡ false) c.all.ensures.ran
    (YieldsList-from_take n (YieldsList-from_slice cells cc) taken)
    (λ x q k. search (rules, tests)) (λ x q k. search (rules, tests)))

pub returns-then-all : goal.returns-then-all
returns-then-all c =
    let n = c.args.cells in
    let cells = c.as_chunks.result.0.now in
    let skipped : skip_count c.skip.result ≡ n = omega (arith, c.skip.ensures.count) in
    let back : Says cell_empty (drop n cells) c.all-then-all.result =
    all_says cell_empty _ _
    (cases_from_all _ _ _ (λ x. cell_empty x ≡ true) (λ x. cell_empty x ≡ false) c.all-then-all.ensures.ran
    (YieldsList-from_skip n (YieldsList-from_slice cells cc) skipped)
    (λ x q k. search (rules, tests)) (λ x q k. search (rules, tests))) in
    record {
      answer = both_tested n c.args.amounts.now cells (rw c.told-amounts at c.as_chunks.ensures.front)
          (rw c.told-amounts at c.as_chunks.ensures.front_len) c.all.result c.all-then-all.result (front (search)) back
          c.if-all.true;
    }

pub returns-else-all : goal.returns-else-all
returns-else-all c = record {
  answer = front_fails c.args.cells c.args.amounts.now c.as_chunks.result.0.now
      (rw c.told-amounts at c.as_chunks.ensures.front) (rw c.told-amounts at c.as_chunks.ensures.front_len)
      c.all.result (front (search)) c.if-all.false;
}
