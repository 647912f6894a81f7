-- `read_cell` meets its contract: a line without a value, or a line more (proofs/ReadCells.antt). No assumptions.
use Rattle.std.proofs.Common.{rules, ◌≡◌, ◌<◌, ◌+◌, ◌-◌, ◌*◌, ℕ, [], get_or, sym, ap, ◌∙◌, arith, Some, is_some}
use Rattle.std.proofs.Common.{nat_abs}
use lib.Signed.{yes_non_neg}
use mir.Facts.{Fits-below}
use Rattle.numeric.proofs.CheckLaws.{every-none, every_more, every_fails}
use Rattle.numeric.proofs.Filling.{fill_none}
use Rattle.stoichiometry.specs.Substances.{substances}
use Rattle.text.specs.Blocks.{part}
use Rattle.record.specs.Lines.{lines, line_bytes}
use Rattle.record_reading.specs.Inner.Stages.{value_in, number_in}
use Rattle.record_reading.proofs.ReadCells.{line_is, value_found, value_some, value_kept, carry_range}
use Rattle.record_reading.proofs.ReadCells.{amount_stored, amounts_kept, carry_stored, carries_kept}
use Rattle.record_reading.proofs.reading.read_cell.Goals as goal
use Rattle.record_reading.proofs.reading.read_cell.Goals.{In-loop-k, After-line_value, In_ok-value}
use Rattle.record_reading.proofs.reading.read_cell.Goals.{then-k-lt-SUBSTANCES, else-k-lt-SUBSTANCES}

pub loop-k-init : goal.loop-k-init
loop-k-init c = (every-none _, fill_none _ _ _ (search rules), fill_none _ _ _ (search rules))

-- Line k is one of the cell's, and is cut out of its text.
line_at : (c : In-loop-k) → (c.loop-k.k < lines)
    × (get_or c.as_chunks.result.0.now c.loop-k.k [] ≡ part (c.loop-k.k * line_bytes) line_bytes c.args.text.now)
line_at c =
    let inside : c.loop-k.k < lines = omega (arith, c.loop-k-test.true, c.as_chunks.ensures.front_len, c.told-text) in
    (inside, line_is c.args.text.now _ c.loop-k.k c.as_chunks.ensures.front c.told-text inside)

-- What is read there, and past the `?` the value.
found : (c : After-line_value) → c.line_value.result ≡ value_in c.args.text.now c.args.c c.loop-k.k
found c = value_found c.args.text.now c.args.c c.loop-k.k _ _ (line_at (search)).1 c.line_value.ensures

some : (c : In_ok-value) → value_in c.args.text.now c.args.c c.loop-k.k ≡ Some c.in_ok-value.value
some c = sym (found (search)) ∙ c.in_ok-value.was

-- A line has no value.
pub returns-in_err-value-clause-value : goal.returns-in_err-value-clause-value
returns-in_err-value-clause-value c =
    ap is_some c.from_residual.ensures
    ∙ sym (every_fails lines _ _ (line_at (search)).0 (ap is_some (sym (found (search)) ∙ c.in_err-value.was)))

pub overflow_cast-carries : goal.overflow_cast-carries
overflow_cast-carries c =
    let k = c.loop-k.k in
    let range =
    carry_range c.args.text.now c.args.c k c.if-k-lt-SUBSTANCES.false (value_some _ _ k _ (some (search))) in
    rw (value_kept _ _ k _ (some (search))) (yes_non_neg range.0, Fits-below {n = 1000000} tt (omega (arith, range.1)))

pub loop-k-preserved : goal.loop-k-preserved
loop-k-preserved c =
    let k = c.loop-k.k in
    let value = some (search) in
    let kept = value_kept c.args.text.now c.args.c k c.in_ok-value.value value in
    let more = every_more k _ c.loop-k.invariant.0 (value_some c.args.text.now c.args.c k c.in_ok-value.value value) in
    elim c.if-k-lt-SUBSTANCES.branch [
      | then-k-lt-SUBSTANCES w ↦
          let h = w.if-k-lt-SUBSTANCES.true in (
            more,
            rw w.amounts-is (amount_stored _ k _ h c.loop-k.invariant.1 _ kept),
            rw w.carries-is (carries_kept _ k _ h c.loop-k.invariant.2),
          )
      | else-k-lt-SUBSTANCES w ↦
          let h = w.if-k-lt-SUBSTANCES.false in
          let line : substances + (k - substances) ≡ k = omega arith in
          let at_line = ap (λ (q : ℕ). nat_abs (number_in c.args.text.now c.args.c q)) (sym line) in
          let (inside, cut) = line_at (search) in (
            more,
            rw w.amounts-is (amounts_kept _ k _ h c.loop-k.invariant.1),
            rw w.carries-is (carry_stored _ k _ h inside c.loop-k.invariant.2 _ (ap nat_abs kept ∙ at_line)),
          )
    ]
