-- The results, each stated whole and cited: demand 3; the published set is accepted; a text is a record or it is
-- refused; a page shows what the river holds; flow and air never need 8; any row balances; the starred cases. The
-- definitions to believe stand in specs/ of the crates named in the `use` lines. No assumptions.
use Prim.Native.Nat.{ℕ, ◌+◌, ◌-◌, ◌*◌, ◌/◌, ◌≤◌, ◌<◌}
use mathlib.Core.Bool.{true, false}
use mathlib.Core.List.{List}
use mathlib.Core.Logic.{◌↔◌, ◌⊎◌}
use mathlib.Core.Path.{◌≡◌, refl}
use lib.Ieee.{round}
use lib.IntN.{pos}
use lib.ListN.{length, take, drop, get_or}
use Rattle.numeric.specs.Case.{AllHold}
use Rattle.numeric.specs.Check.{every, all_of, first_holding}
use Rattle.numeric.specs.Sum.{sum}
use Rattle.numeric.specs.Table.{tab, grid}
use Rattle.numeric.proofs.CaseLaws.{all_hold}
use Rattle.stoichiometry.specs.declared.HalfSaturations.{HalfSaturations}
use Rattle.stoichiometry.specs.declared.RateConstants.{RateConstants}
use Rattle.stoichiometry.specs.declared.Set.{Set}
use Rattle.stoichiometry.specs.Substances.{substances, Total, contents}
use Rattle.stoichiometry.specs.Levels.{level_of}
use Rattle.stoichiometry.specs.Parameters.{adds_up, fractions_wrong, figures_wrong, yields_fit, constants_fit}
use Rattle.stoichiometry.specs.Parameters.{published_set}
use Rattle.stoichiometry.specs.Rows.{Process, entry, oxygen_change, row, processes_of, process_at, row_entry, rows_of}
use Rattle.stoichiometry.specs.Refusals.{number_of}
use Rattle.stoichiometry.specs.Sets.{Accepted, rows_wrong, set_number, published_answer}
use Rattle.stoichiometry.proofs.Balance as Balance
use Rattle.stoichiometry.specs.declared.refusals.Refusal.TheVariants.{Figures, Text}
use Rattle.std.specs.Prelude.{Ok, Err}
use Rattle.stoichiometry.proofs.PublishedSet as Published
use Rattle.rows.specs.Answers.{rows_answer}
use Rattle.kinetics.specs.Conditions.{temperatures_fit, conditions_wrong}
use Rattle.kinetics.specs.Factors.{share, times}
use Rattle.kinetics.specs.Rates.{takes_phosphate, takes_nitrogen, rates_of, rate_at, product_at, quota_at, extent_at}
use Rattle.river.specs.declared.River.{River}
use Rattle.river.specs.Rivers.{most_cells, lowest_at, highest_at, amount_fits, amounts_fit, carries_fit, cells_fit, river_wrong}
use Rattle.river.specs.Rivers.{zero_river, fresh_answer, cell_exists}
use Rattle.river.specs.Cells.{byte, letter_of, letter_answer}
use Rattle.river.proofs.FreshLaws.{fresh_cells}
use Rattle.transport.specs.Load.{load_number, load_answer}
use Rattle.transport.specs.Flow.{passing, left_of, moved_of, flow_number, flow_answer}
use Rattle.transport.specs.Air.{exchanged, gain, air_figure_wrong, air_number, air_answer}
use Rattle.transport.proofs.FlowLaws.{flow_number_not_eight}
use Rattle.transport.proofs.AirLaws.{air_number_eight}
use Rattle.step.specs.Steps.{carried, batches, new_carry, new_amount, stepped_amounts, stepped_carries, batches_wrong}
use Rattle.step.specs.Steps.{step_number, step_answer}
use Rattle.balance.specs.Calls.{Call, book}
use Rattle.balance.specs.Held.{after, answered, held}
use Rattle.balance.proofs.Demand3.{calls_balance}
use Rattle.probe.specs.Readings.{reading_fits, scaled_floor}
use Rattle.probe.specs.Frames.{frame_fits, frame_number, frame_answer}
use Rattle.record_reading.specs.Reading.{read_answer}
use Rattle.record_reading.specs.Records.{IsRecordOf}
use Rattle.record_reading.proofs.RecordLaws.{read_unique}
use Rattle.record_reading.proofs.RecordTexts.{read-is_record, read_else_refused}
use Rattle.text.specs.Blocks.{part}
use Rattle.page.specs.Pages.{row_bytes, grams, levels_at, row_of, page_of, IsRow, shown_by}
use Rattle.page.proofs.PageLaws as Page
use Rattle.results.specs.Starred.{starred}

-- Demand 3: a fresh river of 1 to 8 cells is answered, and after every list of loads, flows, air exchanges and steps on
-- it under an accepted set, the river is in its bounds, and each total that cells i to j hold is what their book says.
pub demand_3 : (set : Set) → Accepted set → (n : ℕ) → 1 ≤ n → n ≤ most_cells → (calls : List Call)
    → let fresh = zero_river n in
    let r = after set calls fresh in
    (fresh_answer n ≡ Ok fresh) × (river_wrong r ≡ false) × (r.cells ≡ n)
    × ((i j : ℕ) → 1 ≤ i → i ≤ j → j ≤ n → (t : Total)
    → held set t r.amounts i j ≡ book set t i j (answered set calls fresh))
demand_3 = calls_balance

-- No other number of cells is answered.
pub fresh_1_to_8 : (n : ℕ) → number_of (fresh_answer n) ≡ 0 → (1 ≤ n) × (n ≤ most_cells)
fresh_1_to_8 = fresh_cells

-- The published set is accepted for all constants in their ranges; the call refuses with 2 or answers an accepted set.
pub published-accepted : (k : RateConstants) (h : HalfSaturations) → constants_fit k h ≡ true
    → Accepted (published_set k h)
published-accepted = Published.published-accepted

pub published_answer_lem : (k : RateConstants) (h : HalfSaturations)
    → (published_answer k h ≡ Err Figures)
    ⊎ ((published_answer k h ≡ Ok (published_set k h)) × Accepted (published_set k h))
published_answer_lem = Published.published_answer_lem

-- A text is read as a river exactly when it is, byte for byte, the record of that river, which is in its bounds.
pub record-read : (t : List ℕ) (r : River) → (read_answer t ≡ Ok r) ↔ IsRecordOf t r
record-read = read-is_record

-- So two texts that read to one river are one text.
pub record_unique : (t u : List ℕ) (r : River) → read_answer t ≡ Ok r → read_answer u ≡ Ok r → t ≡ u
record_unique = read_unique

-- Every other text is refused with 11.
pub record_refused : (t : List ℕ) → ((r : River) → IsRecordOf t r → ⊥)
    → read_answer t ≡ Err Text
record_refused = read_else_refused

-- A page has 65 bytes a cell. The row of a cell, counted from 1, begins at 65 × (cell − 1) and is 64 characters and a
-- line feed.
pub page_length : (r : River) → length (page_of r) ≡ r.cells * row_bytes
page_length = Page.page_length

pub page_rows : (r : River) (cell : ℕ) → cell_exists r cell ≡ true
    → (part ((cell - 1) * row_bytes) row_bytes (page_of r) ≡ row_of r.amounts (cell - 1))
    × IsRow (row_of r.amounts (cell - 1))
page_rows r cell exists = (Page.page_row r cell exists, Page.row_of-is r.amounts (cell - 1))

-- The letter of a row is the one that `letter_of` answers.
pub page_letter : (r : River) (cell : ℕ) → cell_exists r cell ≡ true → river_wrong r ≡ false
    → let letter = letter_of r.amounts (cell - 1) in
    (letter_answer r cell ≡ Ok letter) × (get_or (page_of r) ((cell - 1) * row_bytes + 3) 0 ≡ byte letter)
page_letter = Page.page_letter

-- Each level of a river that check 4 passes takes at most 8 of its 10 columns: the first two are blank (32). It shows
-- every digit, down to the thousandth of a gram.
pub page_levels : (r : River) → river_wrong r ≡ false → (c : ℕ) → c < r.cells → (i : ℕ)
    → let level = get_or (levels_at r.amounts c) i 0 in
    let t = grams level in
    (get_or t 0 0 ≡ 32) × (get_or t 1 0 ≡ 32)
    × (shown_by 0 (take 6 t) * 1000 + shown_by 0 (drop 7 t) ≡ level / 1000)
page_levels = Page.levels-shown

-- Flow and air are never refused with 8.
pub flow_never_8 : (r : River) (part : ℕ) → flow_number r part ≡ 8 → ⊥
flow_never_8 = flow_number_not_eight

pub air_never_8 : (r : River) (cell k seconds saturation : ℕ) → air_number r cell k seconds saturation ≡ 8 → ⊥
air_never_8 = air_number_eight

-- Any row balances, whatever its process is made of; so does each row of any set.
pub row_balance : (set : Set) (p : Process) (t : Total)
    → sum substances (λ s. contents set t s (entry (row set p) s)) ≡ pos 0
row_balance = Balance.row_balance

pub process_balance : (set : Set) (p : ℕ) (t : Total)
    → sum substances (λ s. contents set t s (row_entry set p s)) ≡ pos 0
process_balance = Balance.process_balance

-- Every case that document 01 stars comes out as stated.
pub starred_hold : AllHold starred
unfolding starred every all_of first_holding sum tab grid fractions_wrong adds_up figures_wrong yields_fit constants_fit
    published_answer rows_wrong set_number entry oxygen_change row processes_of process_at row_entry rows_of rows_answer
    share times takes_phosphate takes_nitrogen rates_of rate_at product_at quota_at extent_at temperatures_fit
    conditions_wrong fresh_answer cells_fit lowest_at highest_at amount_fits amounts_fit carries_fit river_wrong
    level_of load_number load_answer passing left_of moved_of flow_number flow_answer exchanged gain
    air_figure_wrong air_number air_answer carried batches new_carry new_amount stepped_amounts stepped_carries batches_wrong
    step_number step_answer reading_fits scaled_floor round frame_fits frame_number frame_answer
starred_hold = all_hold starred refl
