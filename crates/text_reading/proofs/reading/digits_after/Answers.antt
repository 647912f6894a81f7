-- `digits_after` meets its contract: two digits a turn, then the last. No assumptions.
use mathlib.Core.Bool.{◌&&◌}
use Rattle.std.proofs.Common.{◌≡◌, true, ◌+◌, get_or, sym, ap₂, ◌∙◌, arith}
use Rattle.text_reading.specs.Reading.{is_digit}
use Rattle.text_reading.proofs.ReadingLaws.{ascii_digit, digit_range}
use Rattle.text_reading.proofs.DigitLoop.{digits_start, digits_fit, digits_more, digits_two}
use Rattle.text_reading.proofs.DigitLoop.{digits_not, two_not, digits_end, many_none}
use Rattle.text_reading.proofs.reading.digits_after.Goals as goal
use Rattle.text_reading.proofs.reading.digits_after.Goals.{After-pair, then-k-end+else-not-is_ascii_digit-3, else-k-end}
use Rattle.text_reading.proofs.reading.digits_after.Goals.{then-not-is_ascii_digit-via-then-not-is_ascii_digit, then-not-is_ascii_digit-via-else-not-is_ascii_digit+then-not-is_ascii_digit-2}

-- Too many digits.
pub returns-then-end-start-gt-DIGITS : goal.returns-then-end-start-gt-DIGITS
returns-then-end-start-gt-DIGITS c =
    sym (many_none _ _ _ c.requires.digits_from c.requires.no_leading_zero c.if-end-start-gt-DIGITS.true)

pub loop-k-init : goal.loop-k-init
loop-k-init c = digits_start _ _ _ c.requires.digits_from c.requires.no_leading_zero

-- A byte that is no digit.
pub returns-then-not-is_ascii_digit : goal.returns-then-not-is_ascii_digit
returns-then-not-is_ascii_digit c =
    elim c.then-not-is_ascii_digit.branch [
      | then-not-is_ascii_digit-via-then-not-is_ascii_digit w ↦
          let wrong = ascii_digit _ c.is_ascii_digit.ensures.value w.if-not-is_ascii_digit.true in
          sym (digits_not _ _ _ _ _ c.loop-k.invariant (omega arith) wrong)
      | then-not-is_ascii_digit-via-else-not-is_ascii_digit+then-not-is_ascii_digit-2 w ↦
          let one = ascii_digit _ c.is_ascii_digit.ensures.value w.if-not-is_ascii_digit.false in
          let other =
          ascii_digit _ w.is_ascii_digit-else-not-is_ascii_digit.ensures.value w.if-not-is_ascii_digit-2.true in
          sym (two_not _ _ _ _ _ c.loop-k.invariant c.loop-k-test.true (ap₂ ◌&&◌ one other))
    ]

pub overflow_mul-size : goal.overflow_mul-size
overflow_mul-size c = let small = digits_fit _ _ _ _ _ c.loop-k.invariant 17 (omega arith) in omega arith

-- Both bytes of a turn are digits.
digits : (c : After-pair) → let columns = c.args.columns.now in
    (is_digit (get_or columns c.loop-k.k 0) ≡ true) × (is_digit (get_or columns (c.loop-k.k + 1) 0) ≡ true)
digits c = (
  ascii_digit _ c.is_ascii_digit.ensures.value c.if-not-is_ascii_digit.false,
  ascii_digit _ c.is_ascii_digit-else-not-is_ascii_digit.ensures.value c.if-not-is_ascii_digit-2.false,
)

pub overflow_add-size : goal.overflow_add-size
overflow_add-size c =
    let (first, second) = digits (search) in
    let small = digits_fit _ _ _ _ _ c.loop-k.invariant 17 (omega arith) in
    omega (arith, digit_range _ first, digit_range _ second, c.pair.ensures)

pub loop-k-preserved : goal.loop-k-preserved
loop-k-preserved c =
    let (first, second) = digits (search) in
    rw c.pair.ensures (digits_two _ _ _ _ _ c.loop-k.invariant c.loop-k-test.true first second)

-- The last byte is no digit.
pub returns-then-not-is_ascii_digit-3 : goal.returns-then-not-is_ascii_digit-3
returns-then-not-is_ascii_digit-3 c =
    let wrong = ascii_digit _ c.is_ascii_digit-then-k-end.ensures.value c.if-not-is_ascii_digit-3.true in
    sym (digits_not _ _ _ _ _ c.loop-k.invariant c.if-k-end.true wrong)

pub overflow_mul-size-then-k-end : goal.overflow_mul-size-then-k-end
overflow_mul-size-then-k-end c = let small = digits_fit _ _ _ _ _ c.loop-k.invariant 18 (omega arith) in omega arith

pub overflow_add-size-then-k-end : goal.overflow_add-size-then-k-end
overflow_add-size-then-k-end c =
    let a = get_or c.args.columns.now c.loop-k.k 0 in
    let digit = ascii_digit a c.is_ascii_digit-then-k-end.ensures.value c.if-not-is_ascii_digit-3.false in
    let small = digits_fit _ _ _ _ _ c.loop-k.invariant 18 (omega arith) in
    omega (arith, digit_range _ digit, c.digit.ensures)

-- The value, with a last digit or without.
pub returns : goal.returns
returns c =
    c.counted.ensures
    ∙ elim c.if-k-end.branch [
      | then-k-end+else-not-is_ascii_digit-3 w ↦
          let digit = ascii_digit _ w.is_ascii_digit-then-k-end.ensures.value w.if-not-is_ascii_digit-3.false in
          let whole = digits_more _ _ _ _ _ c.loop-k.invariant w.if-k-end.true digit in
          rw (w.size-is, w.digit.ensures) (sym (digits_end _ _ _ _ _ whole (omega arith)))
      | else-k-end w ↦ rw w.size-is (sym (digits_end _ _ _ _ _ c.loop-k.invariant w.if-k-end.false))
    ]
