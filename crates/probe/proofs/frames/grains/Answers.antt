-- The product is far below 2 ^ 63. No assumptions.
use Rattle.std.proofs.Common.{◌≡◌, ℕ, ◌*◌, ◌≤◌, ap, true, Ok, sym, ◌∙◌, arith}
use Rattle.std.proofs.lemmas.Int.{fits_signed_from_abs}
use lib.Ieee.{Float}
use mir.Syntax.{w64}
use mir.Facts.{Fits-below, to_z_pos}
use lib.Dec.{lit≤}
use Rattle.stoichiometry.specs.declared.levels.Microgram.{Microgram}
use Rattle.stoichiometry.specs.declared.levels.Microgram.TheVariants.{Organic, Oxygen, Nitrogen, Phosphorus}
use Rattle.stoichiometry.specs.Levels.{in_microgram}
use Rattle.stoichiometry.specs.Substances.{grains_per_microgram_n}
use Rattle.probe.proofs.FrameLaws.{grains_bound}
use Rattle.probe.specs.Readings.{reading_fits, scaled_floor}
use Rattle.probe.specs.declared.readings.Scale.{Scale}
use Rattle.probe.proofs.frames.grains.Goals as goal
use Rattle.probe.proofs.frames.grains.Goals.{After-grains}

microgram_bound : (m : Microgram) → in_microgram m ≤ grains_per_microgram_n
microgram_bound Organic = lit≤ tt
microgram_bound Oxygen = lit≤ tt
microgram_bound Nitrogen = lit≤ tt
microgram_bound Phosphorus = lit≤ tt

small : (x : Float) (scale : Scale) (n w : ℕ) → reading_fits x ≡ true → w ≤ grains_per_microgram_n
    → n ≡ scaled_floor x scale.numerator scale.denominator → n * w ≤ 114278400000000000
small x scale n w fits W e = rw e (grains_bound x _ _ w fits scale.in_range.1 scale.in_range.0 W)

bound : (c : After-grains) → c.scaled_floor.result * in_microgram c.args.microgram ≤ 114278400000000000
bound c =
    let fits = sym c.reading_fits.ensures ∙ c.if-reading_fits.true in
    small c.args.x c.args.scale _ _ fits (microgram_bound c.args.microgram) c.scaled_floor.ensures

pub overflow_mul-result : goal.overflow_mul-result
overflow_mul-result c =
    rw c.grains.ensures.answer (Fits-below {n = 114278400000000001} tt (omega (arith, bound (search))))

pub overflow_cast-result : goal.overflow_cast-result
overflow_cast-result c = rw c.grains.ensures.answer (fits_signed_from_abs w64 _ (omega (arith, bound (search))))

pub returns-then-reading_fits : goal.returns-then-reading_fits
returns-then-reading_fits c =
    let fits = sym c.reading_fits.ensures ∙ c.if-reading_fits.true in
    rw (fits, c.grains.ensures.answer, sym c.scaled_floor.ensures)
    (ap Ok (to_z_pos w64 (omega (arith, bound (search)))))
