-- `batches_of` meets its contract: the sizes are those of the processes. No assumptions.
use Rattle.std.proofs.Common.{refl}
use Rattle.numeric.specs.Table.{tab}
use Rattle.stoichiometry.specs.Rows.{processes_of, process_at}
use Rattle.rows.specs.Answers.{batches_of}
use Rattle.rows.proofs.processes.batches_of.Goals as goal

pub returns : goal.returns
unfolding batches_of tab process_at processes_of
returns c = record { answer = refl }
