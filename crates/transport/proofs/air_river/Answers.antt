-- `air_river` meets its contract: past checks 4 to 6 the O2 is known, and check 8 does not hold (proofs/AirLaws.antt,
-- air_never_eight). No assumptions.
use Rattle.std.proofs.Common.{◌≡◌, ◌-◌, ◌<◌, ℕ, true, false, ◌∙◌, arith}
use borrow.Author.Rules.{sfits_of}
use lib.Dec.{lit<}
use mir.Facts.{to_z-of_z}
use mir.Syntax.{w64}
use Rattle.numeric.specs.Check.{first_holding}
use Rattle.numeric.proofs.Machine.{kept}
use Rattle.stoichiometry.specs.Substances.{o2, place}
use Rattle.river.specs.Rivers.{most_cells, amount_fits, cell_exists}
use Rattle.river.proofs.CheckedLaws.{four_passed, five_passed, passed_known}
use Rattle.river.proofs.Rivers.{AmountKnown, fits_machine}
use Rattle.transport.specs.declared.air.Exchange.{Exchange}
use Rattle.transport.specs.Air.{gain_at, aired_amount, air_figure_wrong, air_number, air_answer}
use Rattle.transport.proofs.AirLaws.{air_never_eight}
use Rattle.transport.proofs.air_river.Goals as goal
use Rattle.transport.proofs.air_river.Goals.{In_ok-at, After-gain-amount}

-- The amount of O2 past checks 4 and 5, and the place of its cell.
known : (c : In_ok-at) → AmountKnown c.args.river c.args.cell (place o2)
known c =
    let checked = c.in_ok-checked in
    passed_known c.args.river checked.field-0 c.args.cell c.in_ok-at.field-0 (place o2) checked.ensures.answer
    c.in_ok-at.ensures.answer (lit< tt)

there : (c : In_ok-at)
    → (cell_exists c.args.river c.args.cell ≡ true) × (c.in_ok-at.field-0 ≡ c.args.cell - 1) × (c.in_ok-at.field-0 < most_cells)
there c =
    let (exists, at) = five_passed c.args.river c.args.cell c.in_ok-at.field-0 c.in_ok-at.ensures.answer in
    (exists, at, omega (arith, at, (known c).below))

pub overflow_mul-at : goal.overflow_mul-at
overflow_mul-at c = let (exists, at, below) = there (search) in omega arith

pub overflow_add-at : goal.overflow_add-at
overflow_add-at c = let (exists, at, below) = there (search) in omega arith

pub bounds-river-at : goal.bounds-river-at
bounds-river-at c = let (exists, at, below) = there (search) in omega arith

pub gain-amount-requires : goal.gain-amount-requires
gain-amount-requires c =
    let (exists, at, below) = there (search) in
    let amount = known (search) in
    rw (at, amount.same) amount.fits

-- An exchange has the figures that it was made of, and they pass check 6.
passed : (exchange : Exchange) (constant seconds saturation : ℕ)
    → (exchange.constant ≡ constant) × (exchange.seconds ≡ seconds) × (exchange.saturation ≡ saturation)
    → air_figure_wrong constant seconds saturation ≡ false
passed exchange constant seconds saturation (k, t, s) = rw (← k, ← t, ← s) exchange.in_bounds

-- Past check 6 the O2 after is in its bounds, and what is added is the gain of the cell.
after : (c : After-gain-amount) → let a = c.args in
    (air_figure_wrong a.constant a.seconds a.saturation ≡ false)
    × (amount_fits (place o2) (aired_amount a.river (a.cell - 1) a.constant a.seconds a.saturation) ≡ true)
    × (kept c.gain-amount.result ≡ gain_at a.river (a.cell - 1) a.constant a.seconds a.saturation)
after c =
    let a = c.args in
    let checked = c.in_ok-checked in
    let same = (known (search)).same in
    let (exists, at, below) = there (search) in
    let right = (four_passed a.river checked.field-0 checked.ensures.answer).0 in
    let made = c.in_ok-exchange in
    let six = passed made.exchange a.constant a.seconds a.saturation made.ensures.figures in
    let (k, t, s) = made.ensures.figures in (
      six,
      air_never_eight a.river a.cell a.constant a.seconds a.saturation right exists six,
      to_z-of_z {w = w64} (sfits_of c.gain-amount.type_inv) ∙ (rw (at, same, k, t, s) at c.gain-amount.ensures),
    )

pub overflow_add-river : goal.overflow_add-river
overflow_add-river c =
    let same = (known (search)).same in
    let (exists, at, below) = there (search) in
    let (figures, fits, gain) = after c in
    rw (at, same, gain) (fits_machine (place o2) _ (lit< tt) fits)

pub bounds-river-at-2 : goal.bounds-river-at-2
bounds-river-at-2 c = bounds-river-at (search)

pub returns : goal.returns
unfolding air_answer air_number first_holding
returns c =
    let checked = c.in_ok-checked in
    let same = (known (search)).same in
    let (exists, at, below) = there (search) in
    let right = (four_passed c.args.river checked.field-0 checked.ensures.answer).0 in
    let (figures, fits, gain) = after c in
    record {
      answer =
          rw (
            at,
            same,
            gain,
            to_z-of_z (fits_machine (place o2) _ (lit< tt) fits),
            right,
            exists,
            figures,
            fits,
          );
    }
