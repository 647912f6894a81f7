-- The bits' fields give the exact value (proofs/ReadingLaws.antt). No assumptions.
use Rattle.std.proofs.lemmas.Float.{T_from_true}
use Rattle.std.proofs.Common.{◌≡◌, ◌*◌, ◌/◌, ◌%◌, ◌+◌, true, sym, ◌∙◌, arith}
use native.Mathlib.Nat.{mod-lt}
use lib.Dec.{T, lit<}
use lib.Ieee.{Float, binary32, to_bits, fits}
use Rattle.probe.specs.Readings.{reading_fits}
use Rattle.probe.specs.declared.readings.Scale.{Scale}
use Rattle.probe.proofs.ReadingLaws.{Fields, fields_of, fits_64, shifted_by, no_nan}
use Rattle.probe.proofs.readings.scaled_floor.Goals as goal

fields : (x : Float) (scale : Scale) → T (fits binary32 x) → reading_fits x ≡ true
    → Fields x (to_bits binary32 x % 2147483648 / 8388608) (to_bits binary32 x % 8388608) scale.numerator scale.denominator
fields x scale format reading = fields_of x scale.numerator scale.denominator format reading scale.in_range.0 scale.in_range.1

pub float_to_bits-bits : goal.float_to_bits-bits
float_to_bits-bits c = no_nan c.args.x c.requires

pub returns-then-field-eq0 : goal.returns-then-field-eq0
returns-then-field-eq0 c =
    sym ((fields c.args.x c.args.scale (T_from_true _ c.well_formed.0.1) c.requires).none c.if-field-eq0.true)

pub overflow_sub-shift : goal.overflow_sub-shift
overflow_sub-shift c =
    omega (arith, (fields c.args.x c.args.scale (T_from_true _ c.well_formed.0.1) c.requires).high)

pub returns : goal.returns
returns c =
    let bits = to_bits binary32 c.args.x in
    let scale = c.args.scale in
    let digits = bits % 8388608 in
    let fit = fits_64 digits scale.numerator (mod-lt bits (lit< tt)) scale.in_range.0 in
    rw (c.unbounded_shr.ensures, c.from.ensures)
    (shifted_by ((8388608 + digits) * scale.numerator) scale.denominator _ fit
    ∙ sym ((fields c.args.x scale (T_from_true _ c.well_formed.0.1) c.requires).some c.if-field-eq0.false))
