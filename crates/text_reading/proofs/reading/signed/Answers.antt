-- `signed` meets its contract: the value, negated after a minus. No assumptions.
use mathlib.Core.Path.{◌≡◌, sym, ap, ◌∙◌, subst}
use Rattle.std.proofs.Common.{ℕ, zero, suc, ◌≤◌, ℤ, pos, neg_ℤ, ◌-ℤ◌, arith, w64, to_z, to_z-of_z}
use lib.IntN.{+ℤ_idl}
use mir.Val.{SFits}
use mir.Facts.{to_z_pos}
use borrow.Author.Tests.{eq-eqb, ne_eqb}
use Rattle.text_reading.specs.Reading.{signed}
use Rattle.text_reading.proofs.reading.signed.Goals as goal

module _ (n : ℕ) (h : n ≤ 1_000_000_000_000_000_009) where
  neg_fits : (k : ℕ) → k ≡ n → SFits w64 (neg_ℤ (pos k))
  neg_fits zero e = record { sfits = omega arith }
  neg_fits (suc k) e = record { sfits = omega arith }

  negated : pos 0 -ℤ to_z w64 n ≡ neg_ℤ (pos n)
  negated = ap (λ (t : ℤ). pos 0 -ℤ t) (to_z_pos w64 {n = n} (omega arith)) ∙ +ℤ_idl (neg_ℤ (pos n))

  negated_fits : SFits w64 (pos 0 -ℤ to_z w64 n)
  negated_fits = subst (λ (t : ℤ). SFits w64 t) (sym negated) (neg_fits n (λ i. n))

-- After a minus.
pub returns-then-mark-eq45 : goal.returns-then-mark-eq45
unfolding signed
returns-then-mark-eq45 c =
    let size = c.args.size in
    rw (eq-eqb _ _ c.if-mark-eq45.true) (to_z-of_z (negated_fits size (omega arith)) ∙ negated size (omega arith))

pub returns-else-mark-eq45 : goal.returns-else-mark-eq45
unfolding signed
returns-else-mark-eq45 c = rw (ne_eqb _ _ c.if-mark-eq45.false) (to_z_pos w64 {n = c.args.size} (omega arith))
