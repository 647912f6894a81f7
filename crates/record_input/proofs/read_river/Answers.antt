use Rattle.record_input.proofs.Inputs.{read_whole}
use Rattle.record_input.proofs.read_river.Goals as goal

pub returns : goal.returns
returns g c =
    let read = c.in_ok-n.ensures in
    record { answer = rw c.read_record.ensures.answer (read_whole c.read_full.new.buf read.length _ _ c.in_ok-n.n read.bound.0 read.bytes read.end) }
