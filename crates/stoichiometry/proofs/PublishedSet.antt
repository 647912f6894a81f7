-- The published set (specs/Parameters.antt) is accepted with all rate constants and half-saturations that are in their
-- ranges: its fractions, yields and rows do not depend on them. So `Set::published` refuses with 2 or answers an
-- accepted set. No assumptions.
use mathlib.Core.Bool.{true, false}
use mathlib.Core.Logic.{◌⊎◌, inl, inr, ⊎_elim}
use mathlib.Core.Path.{◌≡◌, refl, sym, ap, ◌∙◌, transport}
use native.Mathlib.Omega.{arith}
use Rattle.std.specs.Prelude.{Ok, Err}
use Rattle.std.specs.Result.{result_unwrap_or}
use Rattle.std.proofs.lemmas.Bool.{cases_Bool}
use Rattle.stoichiometry.specs.Refusals.{number_of}
use Rattle.numeric.specs.Check.{every, all_of, first_holding}
use Rattle.stoichiometry.specs.declared.HalfSaturations.{HalfSaturations}
use Rattle.stoichiometry.specs.declared.RateConstants.{RateConstants}
use Rattle.stoichiometry.specs.declared.Set.{Set}
use Rattle.stoichiometry.specs.declared.refusals.Refusal.TheVariants.{Figures}
use Rattle.stoichiometry.specs.Parameters.{adds_up, yields_fit, constants_fit, fractions_wrong}
use Rattle.stoichiometry.specs.Parameters.{figures_wrong, published_set}
use Rattle.stoichiometry.specs.Rows.{entry, oxygen_change, row, processes_of, process_at, row_entry}
use Rattle.stoichiometry.specs.Sets.{Accepted, rows_wrong, published_answer}
use Rattle.stoichiometry.proofs.SetNumber.{number_zero}

module _ (k : RateConstants) (h : HalfSaturations) where
  fractions-right : fractions_wrong (published_set k h) ≡ false
  unfolding fractions_wrong adds_up all_of
  fractions-right = refl

  figures-right : constants_fit k h ≡ true → figures_wrong (published_set k h) ≡ false
  unfolding figures_wrong yields_fit all_of
  figures-right e = rw e

  rows_right : rows_wrong (published_set k h) ≡ false
  unfolding rows_wrong every row_entry entry row oxygen_change process_at processes_of
  rows_right = refl

  -- The published set is accepted for all constants in their ranges.
  pub published-accepted : constants_fit k h ≡ true → Accepted (published_set k h)
  published-accepted e = number_zero (published_set k h) fractions-right (figures-right e) rows_right

  pub in_range_lem : constants_fit k h ≡ true → published_answer k h ≡ Ok (published_set k h)
  unfolding published_answer first_holding
  in_range_lem e = rw e

  pub out_of_range : constants_fit k h ≡ false → published_answer k h ≡ Err Figures
  unfolding published_answer first_holding
  out_of_range e = rw e

  -- What is answered is a refusal with 2, or an accepted set.
  pub published_answer_lem :
      (published_answer k h ≡ Err Figures)
      ⊎ ((published_answer k h ≡ Ok (published_set k h)) × Accepted (published_set k h))
  published_answer_lem =
      ⊎_elim
      (λ e. inr (in_range_lem e, published-accepted e))
      (λ e. inl (out_of_range e))
      (cases_Bool (constants_fit k h))

  -- So what is not refused is an accepted set.
  pub published_zero : (set : Set) → published_answer k h ≡ Ok set → Accepted set
  published_zero set e =
      ⊎_elim
      (λ refused. absurd (omega (arith, ap number_of (sym refused ∙ e))))
      (λ accepted. transport (ap (λ a. Accepted (result_unwrap_or a set)) (sym accepted.0 ∙ e)) accepted.1)
      published_answer_lem
