-- What the calls on sets answer (scope, "Numbers a caller may get"): check 3, the number of a set, an accepted set,
-- and the answer of `Set::published`. The answer of the rows: crate rows. No assumptions.
use Rattle.std.specs.Prelude.{ℕ, Bool, true, not, ◌&&◌, List, [], ◌∷◌, ◌≡◌, pos, Result}
use Rattle.std.specs.Int.Signed.{le_z, lt_z}
use Rattle.numeric.specs.Check.{every, Check, first_holding, ◌when◌}
use Rattle.stoichiometry.specs.declared.RateConstants.{RateConstants}
use Rattle.stoichiometry.specs.declared.HalfSaturations.{HalfSaturations}
use Rattle.stoichiometry.specs.declared.Set.{Set}
use Rattle.stoichiometry.specs.declared.refusals.Refusal.{Refusal}
use Rattle.stoichiometry.specs.Substances.{place, nh4, hpo4, o2, hco3}
use Rattle.stoichiometry.specs.Parameters.{fractions_wrong, figures_wrong, constants_fit, fractions, published_set}
use Rattle.stoichiometry.specs.Parameters.{all_rates, all_half_saturations}
use Rattle.stoichiometry.specs.Refusals.{answer_of}
use Rattle.stoichiometry.specs.Rows.{processes, Asked, consumes_o2, takes_up_nothing, unasked}
use Rattle.stoichiometry.specs.Rows.{process_at, oxygen_change, row_entry}

-- A process at place p has what check 3 asks of it. An entry of 0 is no uptake.
abbrev pub asked_met : Set → ℕ → Asked → Bool
asked_met set p consumes_o2 = lt_z (oxygen_change set (process_at set p)) (pos 0)
asked_met set p takes_up_nothing =
    le_z (pos 0) (row_entry set p (place nh4)) && le_z (pos 0) (row_entry set p (place hpo4))
    && le_z (pos 0) (row_entry set p (place o2)) && le_z (pos 0) (row_entry set p (place hco3))
asked_met set p unasked = true

-- Check 3: E of a process 1 to 10 or 13 is not below zero, or 14 or 15 takes up NH4, HPO4, O2 or HCO3.
unfoldable pub rows_wrong : Set → Bool
rows_wrong set = not (every processes (λ p. asked_met set p (process_at set p).asked))

-- The checks of a set, in checking order.
abbrev pub set_checks : Set → List Check
set_checks set = 1 when fractions_wrong set ∷ 2 when figures_wrong set ∷ 3 when rows_wrong set ∷ []

-- The number of a set, 0 for none.
unfoldable pub set_number : Set → ℕ
set_number set = first_holding (set_checks set)

-- No check of a set holds of it.
abbrev pub Accepted : Set → Type 0
Accepted set = set_number set ≡ 0

-- A set of zeros.
abbrev pub zero_set : Set
zero_set =
    let none = fractions 0 0 0 0 0 in
    record {
      fractions = record { ss = none; si = none; xh = none; xn1 = none; xn2 = none; xalg = none; xs = none; xi = none };
      yields = record { aerobic = 0; nitrate = 0; nitrite = 0; xn1 = 0; xn2 = 0; death = 0; hydrolysis = 0 };
      inert = record { bacteria = 0; algae = 0 };
      rates = all_rates 0;
      half = all_half_saturations 0;
    }

-- The published set with the caller's rate constants and half-saturations; 2 where one is outside its range.
unfoldable pub published_answer : RateConstants → HalfSaturations → Result Set Refusal
published_answer k h = answer_of (first_holding (2 when not (constants_fit k h) ∷ [])) (published_set k h)
