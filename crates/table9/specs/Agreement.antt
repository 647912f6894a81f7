-- When a printed figure of Table 9 (document 000) agrees with amount / unit, by whole numbers: it differs by at most
-- half a unit of its last printed digit, |amount / unit − digits / scale| ≤ 1 / (2 · scale), here times
-- 2 · unit · scale. No assumptions.
use Rattle.std.specs.Prelude.{ℕ, ◌*◌, ◌≤◌, Bool, ◌&&◌, leb}
use Rattle.std.specs.Bool.{beq}
use Rattle.std.specs.Int.{abs_diff}
use Rattle.table9.specs.declared.agreement.Figure.{Figure}

-- There is a unit, and no product below reaches 2 ^ 64.
pub record InReach (amount unit : ℕ) (figure : Figure) : Type 0 where
  pub unit_least : 1 ≤ unit
  pub unit_most : unit ≤ 3000000000000
  pub amount_most : amount ≤ 10000000000000
  pub digits_most : figure.digits ≤ 5000000
  pub scale_most : figure.scale ≤ 1000000

-- The figure agrees with amount / unit, which is below zero where `negative` holds.
unfoldable pub agrees_with : Bool → ℕ → ℕ → Figure → Bool
agrees_with negative amount unit figure =
    beq negative figure.negative
    && leb (2 * abs_diff (amount * figure.scale) (figure.digits * unit)) unit
