-- `flow::Part::passed` meets its contract: the part of a size fits with either sign, since it is no larger.
-- No assumptions.
use Rattle.std.proofs.Common.{◌≡◌, [], ◌∷◌, ◌∙◌, refl, arith, ℕ, ◌^◌, ◌<◌, ◌≤◌, ℤ, pos, neg_ℤ, nat_abs, ◌-ℤ◌, to_z}
use Rattle.std.proofs.lemmas.Int.{fits_signed_from_abs}
use lib.IntN.{+ℤ_idl}
use lib.Signed.{◌≤ℤ◌, ◌<ℤ◌}
use mir.Facts.{to_z-of_z, to_z_pos, sfits_lit}
use mir.Syntax.{w64}
use Rattle.numeric.proofs.Bounds.{abs_neg}
use Rattle.numeric.proofs.Comparison.{bits_lt, bits_nlt}
use Rattle.numeric.proofs.Expression.{v, ⊝}
use Rattle.numeric.proofs.Fitting.{Bounded, ◌&◌, all}
use Rattle.numeric.proofs.Machine.{kept, ran}
use Rattle.stoichiometry.specs.Substances.{most_net}
use Rattle.transport.specs.Flow.{passing}
use Rattle.transport.proofs.FlowLaws.{share, share_le, passing_below, passing_above}
use Rattle.transport.proofs.flow.Part.passed.Goals as goal

-- The part of the size of an amount, as the machine has it, and with the other sign.
module _ (part n : ℕ) (amount : ℤ) (h : part ≤ 10000) (small : nat_abs amount ≤ most_net)
    (e : n ≡ share part (nat_abs amount)) where
  part-fits : n < 2 ^ 63
  part-fits = omega (arith, share_le part (nat_abs amount) h)

  as-is : pos 0 ≤ℤ amount → to_z w64 n ≡ passing part amount
  as-is above = to_z_pos w64 part-fits ∙ rw (e, passing_above part amount above) refl

  negated : amount <ℤ pos 0 → kept (pos 0 -ℤ to_z w64 n) ≡ passing part amount
  negated below =
      let minus = neg_ℤ (pos n) in
      let fits = fits_signed_from_abs w64 minus (omega (arith, abs_neg (pos n), part-fits)) in
      rw (to_z_pos w64 part-fits, +ℤ_idl minus, to_z-of_z {w = w64} fits, passing_below part amount below, e) refl

pub returns-then-amount-lt0 : goal.returns-then-amount-lt0
returns-then-amount-lt0 c =
    let a = c.args in
    let known : Bounded (a.amount ∷ []) (most_net ∷ []) = c.requires & all in
    let size-is = c.of.ensures ∙ rw (ran known (⊝ (v 0)) tt, abs_neg a.amount) refl in
    negated a.self.value _ a.amount c.args.self.most c.requires size-is
    (bits_lt c.ranges.amount (sfits_lit {z = pos 0} tt) c.if-amount-lt0.true)

pub returns : goal.returns
returns c =
    let a = c.args in
    let size-is = c.of-2.ensures ∙ rw (to_z-of_z c.ranges.amount) refl in
    as-is a.self.value _ a.amount c.args.self.most c.requires size-is
    (bits_nlt c.ranges.amount (sfits_lit {z = pos 0} tt) c.if-amount-lt0.false)
