-- `write_levels` meets its contract: one level more. No assumptions.
use Rattle.std.proofs.Common.{◌≡◌, ◌+◌, ◌*◌, ◌≤◌, ◌<◌, ℕ, List, ◌∙◌, arith, length, get_or, map, rules}
use Rattle.std.proofs.lemmas.List.{get_or-map}
use Rattle.text.proofs.BlockLaws.{no_block, next_block, all_blocks}
use Rattle.page.specs.Pages.{level_columns, grams}
use Rattle.page.specs.declared.writing.Level.{Level}
use Rattle.page.proofs.LevelLaws.{grams-length}
use Rattle.page.proofs.writing.write_levels.Goals as goal

-- A level has its columns.
each : (levels : List Level) (k : ℕ)
    → length (grams (get_or (map (λ level. level.micrograms) levels) k 0)) ≡ level_columns
each levels k = grams-length (get_or (map (λ level. level.micrograms) levels) k 0)

pub loop-i-init : goal.loop-i-init
loop-i-init c = no_block level_columns _ (each c.args.levels.now) c.args.text.now

pub loop-i-preserved : goal.loop-i-preserved
loop-i-preserved c =
    let levels = c.args.levels.now in
    let within : c.loop-i.i < length levels = omega arith in
    let room : c.loop-i.i * level_columns + level_columns ≤ length c.args.text.now = omega (arith, c.requires) in
    next_block level_columns _ (each levels) c.args.text.now c.loop-i.text _ c.loop-i.i _ (omega arith) room
    c.loop-i.invariant
    (c.copy_from_slice.ensures.after
    ∙ rw (get_or-map (λ level. level.micrograms) levels c.loop-i.i c.index-levels-i.result 0 within) (search rules))

pub returns : goal.returns
returns c =
    let six : c.loop-i.i ≡ 6 = omega arith in
    all_blocks level_columns _ (each c.args.levels.now) c.args.text.now c.loop-i.text 6 c.requires
    (rw six at c.loop-i.invariant)
