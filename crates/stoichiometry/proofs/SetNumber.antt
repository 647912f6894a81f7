-- The number of a set (specs/Sets.antt), a law for each case: the first check that holds, or none; and what an
-- accepted set has passed. No assumptions.
use mathlib.Core.Bool.{true, false}
use mathlib.Core.List.{[]}
use mathlib.Core.Path.{◌≡◌, sym, ◌∙◌}
use borrow.Author.Tests.{not-false}
use lib.Dec.{lit<}
use Rattle.numeric.proofs.CheckLaws.{first_nil, first_holds, first_fails, first_zero}
use Rattle.stoichiometry.specs.declared.Set.{Set}
use Rattle.stoichiometry.specs.Substances.{Organic, fractions_of}
use Rattle.stoichiometry.specs.Parameters.{adds_up, fractions_wrong, figures_wrong}
use Rattle.stoichiometry.specs.Sets.{rows_wrong, set_number}
use Rattle.stoichiometry.proofs.Contents.{each-organic}

pub number-one : (set : Set) → fractions_wrong set ≡ true → set_number set ≡ 1
unfolding set_number
number-one set e = first_holds 1 _ _ e

pub number_two : (set : Set) → fractions_wrong set ≡ false → figures_wrong set ≡ true → set_number set ≡ 2
unfolding set_number
number_two set e f = first_fails 1 _ _ e ∙ first_holds 2 _ _ f

pub number_three : (set : Set) → fractions_wrong set ≡ false → figures_wrong set ≡ false → rows_wrong set ≡ true
    → set_number set ≡ 3
unfolding set_number
number_three set e f g = first_fails 1 _ _ e ∙ first_fails 2 _ _ f ∙ first_holds 3 _ _ g

pub number_zero : (set : Set) → fractions_wrong set ≡ false → figures_wrong set ≡ false → rows_wrong set ≡ false
    → set_number set ≡ 0
unfolding set_number
number_zero set e f g = first_fails 1 _ _ e ∙ first_fails 2 _ _ f ∙ first_fails 3 _ _ g ∙ first_nil

-- The fractions of every organic add up where check 1 does not hold.
pub adds_up_lem : (set : Set) → fractions_wrong set ≡ false → (x : Organic) → adds_up (fractions_of set x) ≡ true
unfolding fractions_wrong
adds_up_lem set e x = each-organic (λ o. adds_up (fractions_of set o)) (not-false _ e) x

-- No check holds of an accepted set.
pub accepted-passes : (set : Set) → set_number set ≡ 0
    → (fractions_wrong set ≡ false) × (figures_wrong set ≡ false) × (rows_wrong set ≡ false)
unfolding set_number
accepted-passes set e =
    let one = first_zero 1 (fractions_wrong set) _ (lit< tt) e in
    let after_one = first_fails 1 (fractions_wrong set) _ one in
    let two = first_zero 2 (figures_wrong set) _ (lit< tt) (sym after_one ∙ e) in
    let after_two = first_fails 2 (figures_wrong set) _ two in
    (one, two, first_zero 3 (rows_wrong set) [] (lit< tt) (sym after_two ∙ sym after_one ∙ e))
