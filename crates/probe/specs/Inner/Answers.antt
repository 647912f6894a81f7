-- What an inner function makes of readings. No assumptions.
use Rattle.std.specs.Prelude.{Bool, cond, Result, Ok, Err}
use Rattle.stoichiometry.specs.declared.refusals.Refusal.{Refusal}
use Rattle.stoichiometry.specs.declared.refusals.Refusal.TheVariants.{Reading}

-- What is made of readings, or the refusal of one that does not fit.
abbrev pub if_fits : {A : Type 0} → Bool → A → Result A Refusal
if_fits fits done = cond fits (Ok done) (Err Reading)
