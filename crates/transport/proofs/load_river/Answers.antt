-- `load_river` meets its contract: past the checks the amount is known, and the sum is in its bounds. No assumptions.
use Rattle.std.proofs.Common.{rules, ◌≡◌, ◌-◌, ◌<◌, ◌∙◌, true, arith, refl, sym, Ok, Err}
use Rattle.std.specs.Option.{ok_or}
use Rattle.stoichiometry.specs.declared.refusals.Refusal.TheVariants.{Bounds}
use mir.Facts.{to_z-of_z}
use Rattle.numeric.specs.Check.{first_holding}
use Rattle.river.specs.Rivers.{most_cells, cell_exists}
use Rattle.river.proofs.CheckedLaws.{four_passed, five_passed, passed_known}
use Rattle.river.proofs.Rivers.{AmountKnown, fits_machine, substance_bound}
use Rattle.transport.specs.Load.{load_number, load_answer}
use Rattle.transport.proofs.LoadLaws.{taken_sum, refused_sum}
use Rattle.transport.proofs.load_river.Goals as goal
use Rattle.transport.proofs.load_river.Goals.{Else-not-in_range}

-- The amount past checks 4 and 5, and the place of its cell.
known : (c : Else-not-in_range) → AmountKnown c.args.river c.args.cell (c.args.substance - 1)
known c =
    let bound = substance_bound c.args.substance (sym c.if-not-in_range.ensures) in
    let checked = c.in_ok-checked in
    passed_known c.args.river checked.field-0 c.args.cell c.in_ok-c.c (c.args.substance - 1) checked.ensures.answer
    c.in_ok-c.ensures.answer (omega arith)

there : (c : Else-not-in_range)
    → (cell_exists c.args.river c.args.cell ≡ true) × (c.in_ok-c.c ≡ c.args.cell - 1) × (c.in_ok-c.c < most_cells)
there c =
    let (exists, at) = five_passed c.args.river c.args.cell c.in_ok-c.c c.in_ok-c.ensures.answer in
    (exists, at, omega (arith, at, (known c).below))

pub overflow_mul-at : goal.overflow_mul-at
overflow_mul-at c = let (exists, at, below) = there (search) in omega arith

pub overflow_add-at : goal.overflow_add-at
overflow_add-at c =
    let (exists, at, below) = there (search) in
    omega (arith, substance_bound c.args.substance (sym c.if-not-in_range.ensures))

pub bounds-river-at : goal.bounds-river-at
bounds-river-at c =
    let (exists, at, below) = there (search) in
    omega (arith, substance_bound c.args.substance (sym c.if-not-in_range.ensures))

pub returns-in_err-river : goal.returns-in_err-river
unfolding load_answer load_number first_holding
returns-in_err-river c =
    let checked = c.in_ok-checked in
    let right = (four_passed c.args.river checked.field-0 checked.ensures.answer).0 in
    let (exists, at, below) = there (search) in
    let same = (known (search)).same in
    let number = c.in_err-river.field-0.0 in
    let was : ok_or c.sum.result Bounds ≡ Err number = sym c.ok_or.ensures.value ∙ c.in_err-river.was in
    let refused = refused_sum _ _ Bounds number (rw c.sum.ensures at was) in
    let beyond = rw (at, same, to_z-of_z c.ranges.added) at refused.0 in
    let handed : c.from_residual-in_err-river.result ≡ Err number = search rules in
    record { answer = rw (handed, refused.1, right, exists, ← c.if-not-in_range.ensures, beyond) refl }

pub bounds-river-at-2 : goal.bounds-river-at-2
bounds-river-at-2 c = bounds-river-at (search)

pub returns : goal.returns
unfolding load_answer load_number first_holding
returns c =
    let bound = substance_bound c.args.substance (sym c.if-not-in_range.ensures) in
    let checked = c.in_ok-checked in
    let right = (four_passed c.args.river checked.field-0 checked.ensures.answer).0 in
    let (exists, at, below) = there (search) in
    let same = (known (search)).same in
    let was : ok_or c.sum.result Bounds ≡ Ok c.in_ok-river.field-0 = sym c.ok_or.ensures.value ∙ c.in_ok-river.was in
    let taken = taken_sum _ _ _ Bounds (rw c.sum.ensures at was) in
    let fits = rw (at, same, to_z-of_z c.ranges.added) at taken.0 in
    record {
      answer =
          rw (
            taken.1,
            at,
            same,
            to_z-of_z c.ranges.added,
            to_z-of_z (fits_machine (c.args.substance - 1) _ (omega arith) fits),
            right,
            exists,
            ← c.if-not-in_range.ensures,
            fits,
          );
    }
