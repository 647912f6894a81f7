-- `letter_of` meets its contract: past both checks the cell is one of the river's, and is cut out of its amounts. No
-- assumptions.
use Rattle.std.proofs.Common.{◌≡◌, refl, arith, rules, ◌-◌, ◌<◌, ◌*◌, ◌/◌, length, pos, ℕ, []}
use lib.Dec.{lit<}
use lib.ListN.{get_or}
use Rattle.numeric.specs.Check.{first_holding}
use Rattle.stoichiometry.specs.Substances.{o2, nh4, place, substances}
use Rattle.stoichiometry.specs.Totals.{amount_at}
use Rattle.river.specs.Rivers.{most_cells}
use Rattle.river.specs.Cells.{letter_answer, letter_number, letter_of}
use Rattle.stoichiometry.specs.Levels.{level_of}
use Rattle.river.proofs.Rivers.{AmountKnown, amount_cut}
use Rattle.river.proofs.CheckedLaws.{four_passed, five_passed, passed_known}
use Rattle.river.proofs.letter_of.Goals as goal
use Rattle.river.proofs.letter_of.Goals.{After-as_chunks}

inside : (c : After-as_chunks) → (c.in_ok-c.c ≡ c.args.cell - 1) × (c.in_ok-c.c < most_cells)
inside c =
    let checked = c.in_ok-checked in
    let at = (five_passed c.args.river c.args.cell c.in_ok-c.c c.in_ok-c.ensures.answer).1 in
    let known =
    passed_known c.args.river checked.field-0 c.args.cell c.in_ok-c.c (place o2) checked.ensures.answer
    c.in_ok-c.ensures.answer (lit< tt) in
    (at, omega (arith, at, known.below))

pub bounds-cells-c : goal.bounds-cells-c
bounds-cells-c c =
    let (at, below) = inside (search) in
    let long : length c.args.river.amounts ≡ most_cells * substances = search rules in
    let count : length c.as_chunks.result.0.now ≡ length c.args.river.amounts / substances = c.as_chunks.ensures.front_len in
    omega arith

pub bounds-cells-c-in_ok-c : goal.bounds-cells-c-in_ok-c
bounds-cells-c-in_ok-c c = bounds-cells-c (search)

cut : (c : After-as_chunks) (s : ℕ) → s < substances
    → get_or (get_or c.as_chunks.result.0.now c.in_ok-c.c []) s (pos 0) ≡ amount_at c.args.river.amounts (c.args.cell - 1) s
cut c s l =
    let long : length c.args.river.amounts ≡ most_cells * substances = search rules in
    let (at, below) = inside c in
    rw (← at) (amount_cut _ c.args.river.amounts _ c.as_chunks.ensures.front c.in_ok-c.c (omega arith) s l)

pub returns : goal.returns
unfolding letter_answer letter_number letter_of first_holding level_of
returns c =
    let checked = c.in_ok-checked in
    let right = (four_passed c.args.river checked.field-0 checked.ensures.answer).0 in
    let there = (five_passed c.args.river c.args.cell c.in_ok-c.c c.in_ok-c.ensures.answer).0 in
    let known : (s : ℕ) → s < substances → AmountKnown c.args.river c.args.cell s =
    λ s l. passed_known c.args.river checked.field-0 c.args.cell c.in_ok-c.c s checked.ensures.answer
    c.in_ok-c.ensures.answer l in
    let oxygen = rw (cut (search) (place o2) (lit< tt), (known (place o2) (lit< tt)).same) at c.level-oxygen.ensures.answer in
    let ammonium = rw (cut (search) (place nh4) (lit< tt), (known (place nh4) (lit< tt)).same) at c.level-ammonium.ensures.answer in
    record { answer = rw (c.letter_by.ensures.answer, oxygen, ammonium, right, there) refl }
