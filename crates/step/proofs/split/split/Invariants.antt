-- As many elements of both lists are made as pairs came. No assumptions.
use Rattle.std.proofs.Common.{length}
use Rattle.numeric.proofs.Filling.{Filled}
use Rattle.stoichiometry.specs.Rows.{processes}
use Rattle.step.specs.Inner.Stepping.{whole_of, rest_of}
use Rattle.step.proofs.split.split.Given as goal

abbrev pub invariant-loop-p : goal.invariant-loop-p
invariant-loop-p l =
    record {
      stored : Filled processes (length l.yielded) (whole_of l.extents l.carries) l.whole;
      left : Filled processes (length l.yielded) (rest_of l.extents l.carries) l.rest;
    }
