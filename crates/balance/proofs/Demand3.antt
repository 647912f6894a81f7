-- Demand 3 (scope, "Flow, air, load, and the book"): a fresh river of 1 to 8 cells is answered, and after any list of
-- calls on it under one accepted set, check 4 does not hold of the river, and what cells i to j hold of each total is
-- what their book says, which is given the calls and their answers alone. The result and nothing else; the induction:
-- ListBalance.antt. No assumptions.
use Prim.Native.Nat.{ℕ, ◌≤◌}
use mathlib.Core.Bool.{false}
use mathlib.Core.List.{List}
use mathlib.Core.Path.{◌≡◌}
use Rattle.std.specs.Prelude.{Ok}
use Rattle.stoichiometry.specs.declared.Set.{Set}
use Rattle.stoichiometry.specs.Substances.{Total}
use Rattle.stoichiometry.specs.Sets.{Accepted}
use Rattle.river.specs.Rivers.{most_cells, river_wrong, zero_river, fresh_answer}
use Rattle.river.proofs.FreshLaws.{fresh-accepted}
use Rattle.balance.specs.Calls.{Call, book}
use Rattle.balance.specs.Held.{after, answered, held}
use Rattle.balance.proofs.Soundness.{sound_zero}
use Rattle.balance.proofs.ListBalance.{after_keeps, fresh_balance}

pub calls_balance : (set : Set) → Accepted set → (n : ℕ) → 1 ≤ n → n ≤ most_cells → (calls : List Call)
    → let fresh = zero_river n in
    let r = after set calls fresh in
    (fresh_answer n ≡ Ok fresh) × (river_wrong r ≡ false) × (r.cells ≡ n)
    × ((i j : ℕ) → 1 ≤ i → i ≤ j → j ≤ n → (t : Total)
    → held set t r.amounts i j ≡ book set t i j (answered set calls fresh))
calls_balance set accepted n low high calls =
    let kept = after_keeps set n calls (zero_river n) (sound_zero n low high) in
    (fresh-accepted n low high, kept.right, kept.cells, fresh_balance set calls n low high)
