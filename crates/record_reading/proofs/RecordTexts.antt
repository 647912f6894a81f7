-- Which texts are read: the records of rivers, each as its river (`read-is_record`); every other text is refused with
-- 11 (`read_else_refused`). No assumptions.
use Prim.Native.Nat.{ℕ}
use mathlib.Core.Bool.{Bool, true, false}
use mathlib.Core.List.{List}
use mathlib.Core.Logic.{◌↔◌}
use mathlib.Core.Path.{◌≡◌, refl, ap, ◌∙◌, subst}
use lib.IntN.{pos}
use Rattle.std.specs.Prelude.{Ok, Err}
use Rattle.stoichiometry.specs.declared.refusals.Refusal.TheVariants.{Text}
use Rattle.numeric.proofs.GridLaws.{grid-length}
use Rattle.stoichiometry.specs.Substances.{substances}
use Rattle.stoichiometry.specs.Rows.{processes}
use Rattle.river.specs.declared.River.{River}
use Rattle.river.specs.Rivers.{most_cells}
use Rattle.record_reading.specs.Reading.{amounts_in, carries_in, river_in, is_record, read_answer}
use Rattle.record_reading.specs.Records.{IsRecordOf}
use Rattle.record_reading.proofs.ReadAnswers.{read_refused, read-record}
use Rattle.record_reading.proofs.RecordLaws.{read_write, river-read, write_read}

-- A text that passes the test is the record of the river that it reads to.
is_record_lem : (t : List ℕ) → is_record t ≡ true → IsRecordOf t (river_in t)
unfolding river_in amounts_in carries_in
is_record_lem t e = record {
  text = write_read t e;
  right = river-read t e;
  amounts = grid-length most_cells substances _ (pos 0) _;
  carries = grid-length most_cells processes _ 0 _;
}

-- A text is read as a river exactly when it is the record of that river.
pub read-is_record : (t : List ℕ) (r : River) → (read_answer t ≡ Ok r) ↔ IsRecordOf t r
read-is_record t r = (read, written)
  where
    read : read_answer t ≡ Ok r → IsRecordOf t r
    read e = let accepted = read-record t r e in subst (IsRecordOf t) accepted.1 (is_record_lem t accepted.0)

    written : IsRecordOf t r → read_answer t ≡ Ok r
    written w = ap read_answer w.text ∙ read_write r w.right w.amounts w.carries

-- A text that is the record of no river is refused.
pub read_else_refused : (t : List ℕ) → ((r : River) → IsRecordOf t r → ⊥) → read_answer t ≡ Err Text
read_else_refused t none = read_refused t (go (is_record t) refl)
  where
    go : (b : Bool) → is_record t ≡ b → is_record t ≡ false
    go true e = absurd (none (river_in t) (is_record_lem t e))
    go false e = e
