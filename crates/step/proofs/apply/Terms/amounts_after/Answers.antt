-- The 18 amounts, each as the machine keeps it. No assumptions.
use Rattle.std.proofs.Common.{[], ◌∷◌}
use Rattle.numeric.specs.Table.{tab}
use Rattle.numeric.proofs.Machine.{result_is}
use Rattle.step.specs.Inner.Stepping.{new_from}
use Rattle.step.proofs.apply.Terms.amounts_after.Goals as goal

pub returns : goal.returns
unfolding tab
returns c =
    let terms = c.args.self.now in
    let amount = new_from terms.amounts.now terms.batches.now terms.entries.now in
    λ i.
    result_is (amount 0) c.amount_after.ensures c.amount_after.type_inv i ∷
    result_is (amount 1) c.amount_after-2.ensures c.amount_after-2.type_inv i ∷
    result_is (amount 2) c.amount_after-3.ensures c.amount_after-3.type_inv i ∷
    result_is (amount 3) c.amount_after-4.ensures c.amount_after-4.type_inv i ∷
    result_is (amount 4) c.amount_after-5.ensures c.amount_after-5.type_inv i ∷
    result_is (amount 5) c.amount_after-6.ensures c.amount_after-6.type_inv i ∷
    result_is (amount 6) c.amount_after-7.ensures c.amount_after-7.type_inv i ∷
    result_is (amount 7) c.amount_after-8.ensures c.amount_after-8.type_inv i ∷
    result_is (amount 8) c.amount_after-9.ensures c.amount_after-9.type_inv i ∷
    result_is (amount 9) c.amount_after-10.ensures c.amount_after-10.type_inv i ∷
    result_is (amount 10) c.amount_after-11.ensures c.amount_after-11.type_inv i ∷
    result_is (amount 11) c.amount_after-12.ensures c.amount_after-12.type_inv i ∷
    result_is (amount 12) c.amount_after-13.ensures c.amount_after-13.type_inv i ∷
    result_is (amount 13) c.amount_after-14.ensures c.amount_after-14.type_inv i ∷
    result_is (amount 14) c.amount_after-15.ensures c.amount_after-15.type_inv i ∷
    result_is (amount 15) c.amount_after-16.ensures c.amount_after-16.type_inv i ∷
    result_is (amount 16) c.amount_after-17.ensures c.amount_after-17.type_inv i ∷
    result_is (amount 17) c.amount_after-18.ensures c.amount_after-18.type_inv i ∷
    []
