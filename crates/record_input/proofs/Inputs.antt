-- What is read of an input, at most one byte more than the longest record has, is answered as the whole of it: a text
-- that is longer than any record is refused as its start is. No assumptions.
use mathlib.Core.Path.{◌≡◌, refl, sym, ap, ◌∙◌}
use mathlib.Core.Bool.{Bool, true, false}
use mathlib.Core.List.{List}
use Prim.Native.Nat.{ℕ, ◌+◌, ◌*◌, ◌≤◌, ◌<◌}
use native.Mathlib.Omega.{arith}
use native.Mathlib.Decide.{dec_lt}
use lib.ListN.{length, take, length-append}
use lib.Seq.{take-length}
use Rattle.std.specs.Prelude.{Option, Some, None, Err, IfSome}
use Rattle.std.specs.Io.KnownBytes.{Consumes, IsAtEnd}
use Rattle.std.proofs.KnownBytes.{Consumes-whole}
use Rattle.stoichiometry.specs.declared.refusals.Refusal.TheVariants.{Text}
use Rattle.river.specs.Rivers.{most_cells}
use Rattle.record.specs.Lines.{cell_bytes}
use Rattle.record_reading.specs.Reading.{is_record, read_answer}
use Rattle.record_reading.proofs.ReadAnswers.{size_known, record-parts, read_refused}

-- A text that is longer than the record of eight cells is none.
module _ (t : List ℕ) (long : most_cells * cell_bytes < length t) where
  by_test : (b : Bool) → is_record t ≡ b → read_answer t ≡ Err Text
  by_test true e = let size = size_known t (record-parts t e).0 in absurd (omega (arith, long, size.0, size.1))
  by_test false e = read_refused t e

  too_long : read_answer t ≡ Err Text
  too_long = by_test (is_record t) refl

module _ (buf : List ℕ) (room : length buf ≡ most_cells * cell_bytes + 1) where
  -- Of an input that fills the room.
  filled : (before after : Option (List ℕ)) → Consumes before after buf
      → IfSome before (λ text. read_answer buf ≡ read_answer text)
  filled None after h = tt
  filled (Some xs) None h = absurd h
  filled (Some xs) (Some ys) h =
      let longer : length xs ≡ length buf + length ys = ap length h ∙ length-append buf ys in
      too_long buf (omega (arith, room)) ∙ sym (too_long xs (omega (arith, room, longer)))

  pub read_whole : (before after : Option (List ℕ)) (n : ℕ) → n ≤ length buf → Consumes before after (take n buf)
      → (n < length buf → IsAtEnd after) → IfSome before (λ text. read_answer (take n buf) ≡ read_answer text)
  read_whole before after n within consumed end = by_length (dec_lt n (length buf))
    where
      by_length : Dec (n < length buf) → IfSome before (λ text. read_answer (take n buf) ≡ read_answer text)
      by_length (yes l) =
          Consumes-whole before after (take n buf) (λ text. read_answer (take n buf) ≡ read_answer text) consumed (end l) refl
      by_length (no g) =
          let full : n ≡ length buf = omega (arith, within, g) in
          let all : take n buf ≡ buf = ap (λ m. take m buf) full ∙ take-length buf in
          rw all (filled before after (rw all at consumed))
