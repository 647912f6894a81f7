-- `write_cell` meets its contract: one line more (proofs/Written.antt). No assumptions.
use Rattle.std.proofs.Common.{◌≡◌, ◌+◌, ◌*◌, ◌≤◌, ap₂, ◌∙◌, arith, length}
use Rattle.text.proofs.BlockLaws.{no_block, next_block, all_blocks}
use Rattle.text.specs.Decimals.{plain}
use Rattle.numeric.proofs.Machine.{kept_is}
use Rattle.record.specs.Lines.{value_of, lines, line_bytes}
use Rattle.record.specs.Inner.Stages.{labelled, labelled_lines}
use Rattle.record.proofs.Written.{labelled-length}
use Rattle.record.proofs.writing.write_cell.Goals as goal

pub loop-k-init : goal.loop-k-init
unfolding labelled_lines
loop-k-init c = no_block line_bytes _ (λ i. labelled-length c.args.number _ _) c.args.text.now

pub loop-k-preserved : goal.loop-k-preserved
unfolding labelled_lines
loop-k-preserved c =
    let k = c.loop-k.k in
    let cell = c.args.cell.now in
    let value = value_of cell.amounts.now cell.carries.now 0 in
    let read = kept_is c.value.result c.value.type_inv ∙ c.value.ensures in
    let written : c.write_line.new.line ≡ labelled c.args.number (plain 2 32 (k + 1)) (value k) =
    c.write_line.ensures ∙ ap₂ (labelled c.args.number) (c.requires.labels k c.loop-k-test.true) read in
    let room : k * line_bytes + line_bytes ≤ length c.args.text.now = omega (arith, c.requires.room) in
    next_block line_bytes _ (λ i. labelled-length c.args.number _ _) c.args.text.now c.loop-k.text _ k _ (omega arith) room
    c.loop-k.invariant written

pub returns : goal.returns
unfolding labelled_lines
returns c =
    let all : c.loop-k.k ≡ lines = omega arith in
    all_blocks line_bytes _ (λ i. labelled-length c.args.number _ _) c.args.text.now c.loop-k.text lines c.requires.room
    (rw all at c.loop-k.invariant)
