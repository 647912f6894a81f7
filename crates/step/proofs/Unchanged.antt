-- Processes that do not change a substance, as the code tells them by the digits of a number: they add nothing to it.
-- No assumptions.
use Prim.Native.Nat.{ℕ, zero, suc, ◌+◌, ◌/◌, ◌%◌, ◌^◌, ◌<◌}
use mathlib.Core.Bool.{Bool, true, false, not, cond}
use mathlib.Core.List.{List}
use mathlib.Core.Path.{◌≡◌, refl, sym, ap, ◌∙◌}
use native.Mathlib.Nat.{div-one}
use native.Mathlib.Omega.{arith}
use lib.Dec.{eqb}
use lib.IntN.{ℤ, pos, ◌*ℤ◌, *ℤ-zero}
use lib.ListN.{get_or}
use Rattle.std.specs.Int.Bits.{bit_and}
use Rattle.std.proofs.lemmas.Nat.{and_mask, shr-shr}
use Rattle.stoichiometry.specs.Rows.{processes}
use Rattle.stoichiometry.specs.Substances.{substances}
use Rattle.numeric.specs.Check.{every}
use Rattle.numeric.proofs.CheckLaws.{every_at}
use Rattle.rows.specs.Changing.{digit, may_change, Digits}
use Rattle.step.specs.Inner.Stepping.{EntriesFit, added_from}

-- Such a process adds nothing.
pub added_none : (whole entries : List ℤ) (s p : ℕ) → EntriesFit entries → s < substances
    → p < processes → may_change p s ≡ false → added_from whole entries s p ≡ pos 0
added_none whole entries s p e l h none =
    ap (λ (z : ℤ). get_or whole p (pos 0) *ℤ z) (e.zeros.each p s h l none)
    ∙ *ℤ-zero (get_or whole p (pos 0))

-- A digit of a number is the last one of the number shifted by its place.
pub digit_shifted : (n p : ℕ) → digit n p ≡ eqb (n / 2 ^ p % 2) 1
unfolding digit
digit_shifted n zero = ap (λ (m : ℕ). eqb (m % 2) 1) (sym (div-one n))
digit_shifted n (suc p) =
    let place : 1 + p ≡ suc p = omega arith in
    digit_shifted (n / 2) p ∙ ap (λ (m : ℕ). eqb (m % 2) 1) (shr-shr n 1 p ∙ ap (λ (k : ℕ). n / 2 ^ k) place)

-- As the code reads it.
pub digit_at : (n p : ℕ) → eqb (bit_and (n / 2 ^ p) 1) 1 ≡ digit n p
digit_at n p = ap (λ (m : ℕ). eqb m 1) (and_mask (n / 2 ^ p) 1) ∙ sym (digit_shifted n p)

-- A number whose digits agree with the definition at every process, by computation.
abbrev agrees : ℕ → ℕ → ℕ → Bool
agrees changing s p = cond (digit changing p) (may_change p s) (not (may_change p s))

pub told : (changing s : ℕ) → every processes (agrees changing s) ≡ true → Digits changing s
told changing s e p h = agree (digit changing p) (may_change p s) (every_at processes p (agrees changing s) e h)
  where
    agree : (a b : Bool) → cond a b (not b) ≡ true → a ≡ b
    agree true b e = sym e
    agree false true e = e
    agree false false e = refl
