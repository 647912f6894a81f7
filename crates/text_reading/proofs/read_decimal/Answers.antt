-- `read_decimal` meets its contract: no value, or one that is within the limits or not. No assumptions.
use mathlib.Core.Bool.{Bool, true, false, cond, ◌&&◌}
use Rattle.std.proofs.Common.{◌≡◌, List, ℕ, ℤ, Option, Some, None, rules, refl, sym, ap, ap₂, ◌∙◌, arith, w64, to_z, of_z, to_z-of_z}
use Rattle.std.specs.Prelude.{option_and_then, MatchOption}
use Rattle.std.specs.Bool.{then_some}
use Rattle.std.proofs.lemmas.Int.{fits_signed_from_abs}
use lib.Signed.{le_z}
use mir.Val.{SFits}
use Rattle.text_reading.specs.Reading.{within, value_of, parse}
use Rattle.text_reading.proofs.ReadingLaws.{value_bound}
use Rattle.text_reading.proofs.read_decimal.Goals as goal

-- The machine's test.
abbrev tested : ℤ → ℤ → Bool
tested x y = le_z (to_z w64 (of_z w64 x)) (to_z w64 (of_z w64 y))

bits_le : (x y : ℤ) → SFits w64 x → SFits w64 y → tested x y ≡ le_z x y
bits_le x y f g = rw (to_z-of_z f, to_z-of_z g) (λ i. le_z x y)

some_if : (b : Bool) (z : ℤ) → then_some b z ≡ cond b (Some z) None
some_if true z = refl
some_if false z = refl

-- What passes it is what is accepted.
accepted : (lowest highest : ℤ) → SFits w64 lowest → SFits w64 highest → (t : List ℕ) (v r : Option ℤ)
    → v ≡ value_of t
    → MatchOption v (r ≡ None) (λ z. (b : Bool) × (b ≡ (tested lowest z && tested z highest)) × (r ≡ then_some b z))
    → r ≡ parse lowest highest t
unfolding parse within
accepted lowest highest low high t None r e m = m ∙ ap (option_and_then (within lowest highest)) e
accepted lowest highest low high t (Some z) r e (b, held, m) =
    let fits = fits_signed_from_abs w64 z (omega (arith, value_bound t z (sym e))) in
    let passed = held ∙ ap₂ ◌&&◌ (bits_le lowest z low fits) (bits_le z highest fits high) in
    m ∙ ap (λ (x : Bool). then_some x z) passed ∙ some_if _ z ∙ ap (option_and_then (within lowest highest)) e

pub returns : goal.returns
returns c =
    record {
      answer =
          accepted c.args.lowest c.args.highest c.ranges.lowest c.ranges.highest c.args.columns.now _ _ c.value_of.ensures
          (search rules);
    }
