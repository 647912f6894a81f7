-- The answers of reading, by the tests in their order: which texts are records, and the number and the lines of a cell.
-- No assumptions.
use mathlib.Core.Path.{◌≡◌, refl, sym, ◌∙◌}
use mathlib.Core.Bool.{Bool, true, false, not, ◌&&◌}
use mathlib.Core.List.{List, []}
use Prim.Native.Nat.{ℕ, ◌+◌, ◌-◌, ◌*◌, ◌≤◌}
use native.Mathlib.Omega.{arith}
use borrow.Author.Tests.{ne_eqb, eqb-true, not-true}
use lib.Dec.{eqb}
use lib.ListN.{length}
use Rattle.std.specs.Prelude.{Ok, Err, Some, None}
use Rattle.stoichiometry.specs.declared.refusals.Refusal.{Refusal}
use Rattle.stoichiometry.specs.declared.refusals.Refusal.TheVariants.{Text}
use Rattle.numeric.specs.Check.{in_range, first_holding}
use Rattle.numeric.proofs.CheckLaws.{and_left, and_right, leb-within}
use Rattle.stoichiometry.specs.Refusals.{number}
use Rattle.stoichiometry.proofs.RefusalLaws.{number-positive}
use Rattle.river.specs.declared.River.{River}
use Rattle.river.specs.Rivers.{most_cells, cells_fit, river_wrong}
use Rattle.text.specs.Blocks.{part}
use Rattle.record.specs.Lines.{cell_bytes}
use Rattle.record_reading.specs.Reading.{cells_in, lines_right, river_in, is_record}
use Rattle.record_reading.specs.Reading.{read_answer, cell_number, cell_lines}
use Rattle.record_reading.specs.Inner.Stages.{size_right, cells_of}

module _ (t : List ℕ) where
  -- The size of a text that passes the test of it, and its cells.
  pub size_known : size_right (length t) ≡ true → (cells_in t ≤ most_cells) × (cells_in t * cell_bytes ≡ length t)
  unfolding cells_fit
  size_known e =
      let cells = cells_fit (cells_in t) in
      let bytes = eqb (cells_in t * cell_bytes) (length t) in
      ((leb-within 1 (cells_in t) most_cells (and_left cells bytes e)).1, eqb-true _ _ (and_right cells bytes e))

  pub cells_counted : (n : ℕ) → cells_of (length t) ≡ Some n → (size_right (length t) ≡ true) × (n ≡ cells_in t)
  cells_counted n = go (size_right (length t)) refl
    where
      go : (b : Bool) → size_right (length t) ≡ b → cells_of (length t) ≡ Some n
          → (size_right (length t) ≡ true) × (n ≡ cells_in t)
      go true e h = let some = rw e at h in (e, cc)
      go false e h = let none = rw e at h in absurd (cc)

  pub cells_uncounted : cells_of (length t) ≡ None → size_right (length t) ≡ false
  cells_uncounted = go (size_right (length t)) refl
    where
      go : (b : Bool) → size_right (length t) ≡ b → cells_of (length t) ≡ None → size_right (length t) ≡ false
      go true e h = let some = rw e at h in absurd (cc)
      go false e h = e

  -- What is known of a record.
  pub record-parts : is_record t ≡ true
      → (size_right (length t) ≡ true) × (lines_right (cells_in t) t ≡ true) × (river_wrong (river_in t) ≡ false)
  unfolding is_record
  record-parts e =
      let size = size_right (length t) in
      let lines = lines_right (cells_in t) t in
      let bounds = not (river_wrong (river_in t)) in
      let both = and_left (size && lines) bounds e in
      let right = not-true _ (and_right (size && lines) bounds e) in
      (and_left size lines both, and_right size lines both, right)

  -- A record is answered with its river, every other text with 11.
  pub answer-accepted : is_record t ≡ true → read_answer t ≡ Ok (river_in t)
  unfolding read_answer first_holding
  answer-accepted e = rw e refl

  pub read_refused : is_record t ≡ false → read_answer t ≡ Err Text
  unfolding read_answer first_holding
  read_refused e = rw e refl

  -- What the answer says.
  answer_says : (b : Bool) → is_record t ≡ b
      → ((r : River) → read_answer t ≡ Ok r → (is_record t ≡ true) × (river_in t ≡ r))
      × ((refusal : Refusal) → read_answer t ≡ Err refusal → (is_record t ≡ false) × (refusal ≡ Text))
  answer_says true e =
      (λ r a. (e, same_river (answer-accepted e) a), λ refusal a. absurd (other (answer-accepted e) a))
    where
      same_river : {r : River} → read_answer t ≡ Ok (river_in t) → read_answer t ≡ Ok r → river_in t ≡ r
      same_river x y = cc

      other : {r : River} {refusal : Refusal} → read_answer t ≡ Ok r → read_answer t ≡ Err refusal → ⊥
      other x y = cc
  answer_says false e =
      (λ r a. absurd (other (read_refused e) a), λ refusal a. (e, same_refusal (read_refused e) a))
    where
      other : {r : River} {refusal : Refusal} → read_answer t ≡ Err refusal → read_answer t ≡ Ok r → ⊥
      other x y = cc

      same_refusal : {refusal : Refusal} → read_answer t ≡ Err Text → read_answer t ≡ Err refusal → refusal ≡ Text
      same_refusal x y = cc

  pub read-record : (r : River) → read_answer t ≡ Ok r → (is_record t ≡ true) × (river_in t ≡ r)
  read-record = (answer_says (is_record t) refl).0

  pub answer_refused : (refusal : Refusal) → read_answer t ≡ Err refusal → (is_record t ≡ false) × (refusal ≡ Text)
  answer_refused = (answer_says (is_record t) refl).1

  module _ (cell : ℕ) where
    -- 11 before 5, then the cell.
    pub text_refused : is_record t ≡ false → cell_number t cell ≡ 11
    unfolding cell_number first_holding
    text_refused e = rw e refl

    pub cell_refused : is_record t ≡ true → in_range 1 (cells_in t) cell ≡ false → cell_number t cell ≡ 5
    unfolding cell_number first_holding
    cell_refused e out = rw (e, out) refl

    pub cell_exists_lem : is_record t ≡ true → in_range 1 (cells_in t) cell ≡ true → cell_number t cell ≡ 0
    unfolding cell_number first_holding
    cell_exists_lem e within = rw (e, within) refl

    -- The lines, and where they stand.
    pub lines_accepted : cell_number t cell ≡ 0 → cell_lines t cell ≡ part ((cell - 1) * cell_bytes) cell_bytes t
    unfolding cell_lines
    lines_accepted e = rw e refl

    pub lines_none : (cell_number t cell ≡ 0 → ⊥) → cell_lines t cell ≡ []
    unfolding cell_lines
    lines_none h = rw (ne_eqb (cell_number t cell) 0 h) refl

    pub lines_refused : (refusal : Refusal) → number refusal ≡ cell_number t cell → cell_lines t cell ≡ []
    lines_refused refusal e = lines_none (λ z. number-positive refusal (e ∙ z))

    pub cell_within : cell_number t cell ≡ 0 → (1 ≤ cell) × ((cell - 1) * cell_bytes + cell_bytes ≤ length t)
    cell_within z = go (is_record t) (in_range 1 (cells_in t) cell) refl refl
      where
        go : (a b : Bool) → is_record t ≡ a → in_range 1 (cells_in t) cell ≡ b
            → (1 ≤ cell) × ((cell - 1) * cell_bytes + cell_bytes ≤ length t)
        go true true e f =
            let cells = leb-within 1 cell (cells_in t) f in
            (cells.0, omega (arith, cells, size_known (record-parts e).0))
        go true false e f = let five : ◌≡◌ {A = ℕ} 5 0 = sym (cell_refused e f) ∙ z in absurd (omega arith)
        go false b e f = let eleven : ◌≡◌ {A = ℕ} 11 0 = sym (text_refused e) ∙ z in absurd (omega arith)
