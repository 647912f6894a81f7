-- The next element of each list is what the process makes: a carry and an extent are far below 2 ^ 63 together.
-- No assumptions.
use Rattle.std.proofs.Common.{◌<◌, refl, ap, arith, length, length-append}
use mir.Facts.{to_z_pos}
use mir.Syntax.{w64}
use Rattle.std.proofs.lemmas.Iterator.{YieldsList-from_slice, YieldsList-from_zip}
use Rattle.std.proofs.lemmas.Iterator.Consumers.{YieldsList-from_enumerate, YieldsList-turn}
use Rattle.numeric.proofs.Filling.{fill_none, fill_more}
use Rattle.stoichiometry.specs.Rows.{processes}
use Rattle.numeric.proofs.PairLaws.{pair_at}
use Rattle.step.proofs.split.split.Goals as goal

pub loop-p-init : goal.loop-p-init
loop-p-init c =
    record { stored = fill_none processes _ _ c.told-whole; left = fill_none processes _ _ c.told-rest }

pub loop-p-preserved : goal.loop-p-preserved
loop-p-preserved c =
    let l = c.loop-p in
    let inv = l.invariant in
    let k = length l.yielded in
    let made = c.divided-batches.ensures in
    let turn =
    pair_at c.args.extents.now c.args.carries.now k (c.in-Some.p, (c.in-Some.extent.now, c.in-Some.carry.now)) 0 0
    (YieldsList-turn
    (YieldsList-from_enumerate (YieldsList-from_zip (YieldsList-from_slice c.args.extents.now cc) (YieldsList-from_slice c.args.carries.now cc)) cc)
    l.yielded _ l.yielded_by _ c.next.new.self _ c.in-Some.is c.next.ensures.steps) in
    let within : k < processes = omega (arith, turn.1, c.told-extents) in
    let carry = c.requires.1.most k within in
    let extent = c.requires.0.most k within in
    rw (length-append, turn.0)
    (record {
      stored = fill_more processes k _ _ _ inv.stored within (rw (ap (λ x. x.0) made, turn.3, turn.4) (to_z_pos w64 (omega (arith, carry, extent))));
      left = fill_more processes k _ _ _ inv.left within (rw (ap (λ x. x.1) made, turn.3, turn.4) refl);
    })
