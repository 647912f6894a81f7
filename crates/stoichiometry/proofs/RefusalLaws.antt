-- What an answer tells of the number that it is made by, and that it has that number (specs/Refusals.antt). No assumptions.
use Prim.Native.Nat.{ℕ, zero, suc, ◌≤◌}
use mathlib.Core.Path.{◌≡◌, refl, ap, ◌∙◌}
use native.Mathlib.Omega.{arith}
use lib.Dec.{eqb, eqb-suc-zero}
use Rattle.std.specs.Prelude.{Bool, true, false, if◌then◌else◌, Result, Ok, Err, is_ok}
use Rattle.std.specs.Result.{result_unwrap_or}
use Rattle.std.proofs.lemmas.Bool.{true≢false, false≢true, eqb-true}
use Rattle.numeric.specs.Check.{every}
use Rattle.numeric.proofs.CheckLaws.{every_at}
use Rattle.stoichiometry.specs.declared.refusals.Refusal.{Refusal}
use Rattle.stoichiometry.specs.declared.refusals.Refusal.TheVariants.{Fractions, Figures, Rows, River, Place, Conditions}
use Rattle.stoichiometry.specs.declared.refusals.Refusal.TheVariants.{Batches, Bounds, Reading, Space, Text, Page}
use Rattle.stoichiometry.specs.Refusals.{number, refusal_of, answer_of, number_of}

-- The refusal of an answer, or another one.
abbrev pub refusal_in : {A : Type 0} → Refusal → Result A Refusal → Refusal
refusal_in other (Ok done) = other
refusal_in other (Err refusal) = refusal

above_zero : {A : Type 0} (n : ℕ) (done : A) → answer_of (suc n) done ≡ Err (refusal_of (suc n))
above_zero n done = rw (eqb-suc-zero n) refl

-- A result comes with the number 0.
pub answer-ok : {A : Type 0} (n : ℕ) (done a : A) → Ok a ≡ answer_of n done → (n ≡ 0) × (a ≡ done)
answer-ok zero done a e = (refl, ap (λ r. result_unwrap_or r done) e)
answer-ok (suc n) done a e = absurd (true≢false (ap is_ok (e ∙ above_zero n done)))

-- A refusal is that of its number, which is not 0.
pub answer-err : {A : Type 0} (n : ℕ) (done : A) (refusal : Refusal) → Err refusal ≡ answer_of n done
    → (n ≡ 0 → ⊥) × (refusal ≡ refusal_of n)
answer-err zero done refusal e = absurd (false≢true (ap is_ok e))
answer-err (suc n) done refusal e =
    ((λ z. omega arith), ap (refusal_in refusal) (e ∙ above_zero n done))

-- Another call that is refused by the same number answers that refusal.
pub answer-refused : {A : Type 0} (n : ℕ) (done : A) → (n ≡ 0 → ⊥) → answer_of n done ≡ Err (refusal_of n)
answer-refused zero done h = absurd (h refl)
answer-refused (suc n) done h = above_zero n done

-- An answer by one test: a refusal tells that it holds, a result that it does not.
module _ {A : Type 0} (refused : Refusal) (done : A) where
  abbrev pub tested : Bool → Result A Refusal
  tested wrong = if wrong then Err refused else Ok done

  pub test_holds : (wrong : Bool) (refusal : Refusal) → Err refusal ≡ tested wrong → (wrong ≡ true) × (refusal ≡ refused)
  test_holds true refusal e = (refl, ap (refusal_in refusal) e)
  test_holds false refusal e = absurd (false≢true (ap is_ok e))

  pub test_passed : (wrong : Bool) (a : A) → Ok a ≡ tested wrong → (wrong ≡ false) × (a ≡ done)
  test_passed true a e = absurd (true≢false (ap is_ok e))
  test_passed false a e = (refl, ap (λ answer. result_unwrap_or answer done) e)

-- The refusal of a number from 1 to 12 has that number.
numbers_right : every 12 (λ k. eqb (number (refusal_of (suc k))) (suc k)) ≡ true
unfolding every
numbers_right = refl

pub refusal_of-number : (n : ℕ) → 1 ≤ n → n ≤ 12 → number (refusal_of n) ≡ n
refusal_of-number zero low high = absurd (omega arith)
refusal_of-number (suc n) low high =
    eqb-true _ _ (every_at 12 n (λ k. eqb (number (refusal_of (suc k))) (suc k)) numbers_right (omega arith))

-- So has the answer of a number up to 12.
pub answer_of-number : {A : Type 0} (n : ℕ) (done : A) → n ≤ 12 → number_of (answer_of n done) ≡ n
answer_of-number zero done high = refl
answer_of-number (suc n) done high = rw (eqb-suc-zero n) (refusal_of-number (suc n) (omega arith) high)

-- No refusal has the number 0.
pub number-positive : (refusal : Refusal) → number refusal ≡ 0 → ⊥
number-positive Fractions e = omega arith
number-positive Figures e = omega arith
number-positive Rows e = omega arith
number-positive River e = omega arith
number-positive Place e = omega arith
number-positive Conditions e = omega arith
number-positive Batches e = omega arith
number-positive Bounds e = omega arith
number-positive Reading e = omega arith
number-positive Space e = omega arith
number-positive Text e = omega arith
number-positive Page e = omega arith
