-- `carries::carries_fit` meets its contract: the carries before the end of the river's cells, and those from it on.
-- No assumptions.
use Rattle.std.proofs.Common.{rules, ◌≡◌, ◌≤◌, ◌∙◌, sym, true, take, drop, get_or}
use mathlib.Core.Bool.{true≢false}
use Rattle.std.specs.Prelude.{EachIndex}
use Rattle.river.specs.Rivers.{most_carry}
use Rattle.river.proofs.Rivers.{carries_tested}
use Rattle.river.proofs.carries.carries_fit.Goals as goal

pub returns-then-all_below_batch : goal.returns-then-all_below_batch
returns-then-all_below_batch c =
    let carries = c.args.carries.now in
    let end = c.min-end.result in
    let front : EachIndex (take end carries) (λ k. get_or (take end carries) k 0 ≤ most_carry) = search rules in
    let back : c.all.result ≡ true → EachIndex (drop end carries) (λ k. get_or (drop end carries) k 0 ≡ 0) = search rules in
    let both : EachIndex (drop end carries) (λ k. get_or (drop end carries) k 0 ≡ 0) → c.all.result ≡ true = search rules in
    carries_tested c.args.cells carries end c.min-end.ensures c.told-carries c.all.result (λ e. front) back (λ f. both)

pub returns-else-all_below_batch : goal.returns-else-all_below_batch
returns-else-all_below_batch c =
    let carries = c.args.carries.now in
    let end = c.min-end.result in
    let front : c.all_below_batch.result ≡ true → EachIndex (take end carries) (λ k. get_or (take end carries) k 0 ≤ most_carry) = search rules in
    let both : EachIndex (take end carries) (λ k. get_or (take end carries) k 0 ≤ most_carry) → c.all_below_batch.result ≡ true = search rules in
    carries_tested c.args.cells carries end c.min-end.ensures c.told-carries c.all_below_batch.result front (λ e. absurd (true≢false (sym e ∙ c.if-all_below_batch.false))) (λ f g. both f)
