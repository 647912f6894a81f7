-- `Exchange::gain` meets its contract: the bounds of the saturation, the level and the part show that each step fits 64
-- bits, so that the machine's quotient is the definition's. No assumptions.
use Rattle.std.proofs.Common.{◌≡◌, ℕ, ◌^◌, ◌≤◌, ◌<◌, [], ◌∷◌, refl, sym, ◌∙◌, arith, pos, nat_abs, ℤ, ◌-ℤ◌, ◌*ℤ◌, to_z}
use Rattle.std.proofs.lemmas.Int.{fits_signed_from_abs}
use lib.Signed.{quot_z}
use mir.Facts.{to_z_pos, to_z-of_z}
use mir.Syntax.{w64}
use Rattle.numeric.proofs.Expression.{v, #, ◌⊖◌, ◌⊗◌}
use Rattle.numeric.proofs.Fitting.{Bounded, ◌&◌, all, abs_under}
use Rattle.numeric.proofs.Machine.{asked, kept, ran}
use Rattle.numeric.proofs.Quotient.{abs_quot}
use Rattle.stoichiometry.specs.Limits.{most_saturation}
use Rattle.stoichiometry.specs.Substances.{o2, grains_per_microgram_o}
use Rattle.stoichiometry.specs.Levels.{level_of, most_level}
use Rattle.river.proofs.Levels.{level_bound}
use Rattle.transport.specs.Air.{gain}
use Rattle.transport.proofs.AirLaws.{air-figures, exchanged_bound}
use Rattle.transport.proofs.air.Exchange.gain.Goals as goal
use Rattle.transport.proofs.air.Exchange.gain.Goals.{After-part}

-- A number below 2 ^ 63 in a signed local.
as_kept : (n : ℕ) → n < 2 ^ 63 → to_z w64 n ≡ kept (pos n)
as_kept n h = to_z_pos w64 h ∙ sym (to_z-of_z {w = w64} (fits_signed_from_abs w64 (pos n) h))

saturation-is : (c : After-part) → to_z w64 c.args.self.now.saturation ≡ kept (pos c.args.self.now.saturation)
saturation-is c = as_kept _ (let most = (air-figures _ _ _ c.args.self.now.in_bounds).most in omega arith)

level-is : (c : After-part) → c.level-level.result ≡ level_of o2 c.args.amount
unfolding level_of
level-is c = c.level-level.ensures.answer ∙ rw (to_z-of_z c.ranges.amount) refl

level-small : (c : After-part) → c.level-level.result ≤ most_level
level-small c = rw (level-is c) (level_bound o2 c.args.amount c.requires)

level-kept : (c : After-part) → to_z w64 c.level-level.result ≡ kept (pos c.level-level.result)
level-kept c = as_kept c.level-level.result (omega (arith, level-small c))

-- The part that is exchanged, the saturation and the level.
known : (c : After-part)
    → Bounded (c.part.result ∷ pos c.args.self.now.saturation ∷ pos c.level-level.result ∷ [])
    (833333333 ∷ most_saturation ∷ most_level ∷ [])
known c =
    let f = air-figures _ _ _ c.args.self.now.in_bounds in
    let part : nat_abs c.part.result ≤ 833333333 = rw c.part.ensures (exchanged_bound _ _ f.constant f.time) in
    part & f.most & level-small c & all

-- The difference times the part, in billionths, and the µg that are exchanged.
abbrev product : After-part → ℤ
product c = (pos c.args.self.now.saturation -ℤ pos c.level-level.result) *ℤ c.part.result

moved-known : (c : After-part) → Bounded (quot_z (product c) (pos 1000000000) ∷ []) (870054616 ∷ [])
moved-known c =
    let most = abs_under (known c) ((v 1 ⊖ v 2) ⊗ v 0) 870054616318644820 tt in
    let small : nat_abs (quot_z (product c) (pos 1000000000)) ≤ 870054616 =
    omega (arith, abs_quot (product c) 1000000000) in
    small & all

pub overflow_mul-result : goal.overflow_mul-result
overflow_mul-result c = rw (saturation-is c, level-kept c) (asked (known c) ((v 1 ⊖ v 2) ⊗ v 0) tt)

pub returns : goal.returns
unfolding gain
returns c =
    rw (
      saturation-is c,
      level-kept c,
      ran (known c) ((v 1 ⊖ v 2) ⊗ v 0) tt,
      ran (moved-known c) (v 0 ⊗ # (pos grains_per_microgram_o)) tt,
      level-is c,
      c.part.ensures,
    )
