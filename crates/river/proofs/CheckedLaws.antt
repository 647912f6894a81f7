-- What an answer of check 4 or 5 tells of the river (specs/Checked.antt). No assumptions.
use Prim.Native.Nat.{ℕ, suc, ◌-◌, ◌<◌}
use mathlib.Core.Bool.{Bool, true, false, not}
use mathlib.Core.List.{[], ◌∷◌}
use mathlib.Core.Path.{◌≡◌, refl, ◌∙◌}
use native.Mathlib.Omega.{arith}
use borrow.Author.Tests.{not-true, not-false}
use Rattle.std.specs.Prelude.{Result, Ok, Err}
use Rattle.numeric.specs.Check.{first_holding, ◌when◌}
use Rattle.stoichiometry.specs.Refusals.{refusal_of, answer_of}
use Rattle.stoichiometry.specs.Substances.{substances}
use Rattle.stoichiometry.specs.declared.refusals.Refusal.{Refusal}
use Rattle.stoichiometry.specs.declared.refusals.Refusal.TheVariants.{River as RiverWrong, Place}
use Rattle.stoichiometry.proofs.RefusalLaws.{tested, test_holds, test_passed, answer-refused}
use Rattle.river.specs.declared.River.{River}
use Rattle.river.specs.declared.checked.Checked.{Checked}
use Rattle.river.specs.Rivers.{river_wrong, cell_exists}
use Rattle.river.specs.Checked.{checked_answer, place_answer}
use Rattle.river.proofs.Rivers.{AmountKnown, amount_known}

-- An answer by one check.
one_test : {A : Type 0} (n : ℕ) (done : A) (wrong : Bool)
    → answer_of (first_holding (suc n when wrong ∷ [])) done ≡ tested (refusal_of (suc n)) done wrong
unfolding first_holding
one_test n done true = answer-refused (suc n) done (λ z. omega arith)
one_test n done false = refl

module _ (r : River) where
  -- Check 4 holds of a refused river, and the refusal is 4.
  pub four_holds : (refusal : Refusal) → Err refusal ≡ checked_answer r → (river_wrong r ≡ true) × (refusal ≡ RiverWrong)
  unfolding checked_answer
  four_holds refusal e = test_holds RiverWrong r (river_wrong r) refusal (e ∙ one_test 3 r (river_wrong r))

  -- So a call that hands the refusal on is refused with 4.
  pub four_handed : {T : Type 0} {result : Result T Refusal} {refusal : Refusal}
      → (x : Refusal) × (result ≡ Err x) × (x ≡ refusal) → Err refusal ≡ checked_answer r
      → (result ≡ Err RiverWrong) × (river_wrong r ≡ true)
  four_handed {refusal = refusal} (x, is, same) e =
      let held = four_holds refusal e in
      (rw (is, same, held.1) refl, held.0)

  -- It does not hold of a river that passes, and that is the one that was given.
  pub four_passed : (checked : Checked) → Ok checked.river.now ≡ checked_answer r
      → (river_wrong r ≡ false) × (checked.river.now ≡ r)
  unfolding checked_answer
  four_passed checked e = test_passed RiverWrong r (river_wrong r) checked.river.now (e ∙ one_test 3 r (river_wrong r))

  -- Check 5 holds of a number that has no place, and the refusal is 5.
  pub five_holds : (cell : ℕ) (refusal : Refusal) → Err refusal ≡ place_answer r cell
      → (cell_exists r cell ≡ false) × (refusal ≡ Place)
  unfolding place_answer
  five_holds cell refusal e =
      let none = not (cell_exists r cell) in
      let held = test_holds Place (cell - 1) none refusal (e ∙ one_test 4 (cell - 1) none) in
      (not-true (cell_exists r cell) held.0, held.1)

  -- It does not hold of a cell that has a place, and that is its number less one.
  pub five_passed : (cell c : ℕ) → Ok c ≡ place_answer r cell → (cell_exists r cell ≡ true) × (c ≡ cell - 1)
  unfolding place_answer
  five_passed cell c e =
      let none = not (cell_exists r cell) in
      let passed = test_passed Place (cell - 1) none c (e ∙ one_test 4 (cell - 1) none) in
      (not-false (cell_exists r cell) passed.0, passed.1)

  -- What is known of an amount of a cell of it that has a place.
  pub passed_known : (checked : Checked) (cell c s : ℕ) → Ok checked.river.now ≡ checked_answer r
      → Ok c ≡ place_answer r cell → s < substances → AmountKnown r cell s
  passed_known checked cell c s e exists l = amount_known r (four_passed checked e).0 cell s (five_passed cell c exists).0 l
