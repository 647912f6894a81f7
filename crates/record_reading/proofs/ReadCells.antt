-- What the reading loops find: the value on a line of a text, its range, a line more, a cell more. No assumptions.
use mathlib.Core.Path.{◌≡◌, sym, ap, ◌∙◌}
use mathlib.Core.Bool.{true}
use mathlib.Core.List.{List, []}
use Prim.Native.Nat.{ℕ, ◌+◌, ◌-◌, ◌*◌, ◌/◌, ◌≤◌, ◌<◌}
use native.Mathlib.Decide.{dec_lt}
use native.Mathlib.Omega.{arith}
use borrow.Author.Tests.{lt-ltb, le-ltb}
use lib.IntN.{pos, nat_abs}
use lib.ListN.{length, get_or, set, take, drop}
use mir.Syntax.{w64}
use Rattle.std.proofs.lemmas.List.{take-take, drop-take, drop-drop}
use lib.Signed.{◌≤ℤ◌}
use Rattle.std.specs.Prelude.{ℤ, Option, Some, is_some, unwrap_or}
use mir.Facts.{to_z-of_z}
use Rattle.numeric.proofs.Bounds.{abs_from, abs_of_nonneg}
use Rattle.numeric.proofs.CheckLaws.{every_eq}
use Rattle.numeric.proofs.Comparison.{le_z_true}
use Rattle.numeric.proofs.Filling.{Filled, fill_more}
use Rattle.numeric.proofs.Machine.{kept}
use Rattle.stoichiometry.specs.Substances.{substances, most_net}
use Rattle.stoichiometry.specs.Rows.{processes}
use Rattle.river.specs.Rivers.{most_carry}
use Rattle.std.specs.Simd.{first_chunks}
use Rattle.std.proofs.lemmas.Int.{fits_signed_from_abs}
use Rattle.text.specs.Blocks.{part}
use Rattle.numeric.proofs.ChunkLaws.{chunk_is}
use Rattle.record.specs.Lines.{lines, line_bytes, cell_bytes}
use Rattle.record_reading.specs.Reading.{line_value, lowest_on, highest_on, value_at, number_at, cell_right}
use Rattle.record_reading.specs.Inner.Stages.{value_in, number_in, cell_found}
use Rattle.record_reading.proofs.LineReading.{value_line}

-- A part of a part of a text.
part-part : (t : List ℕ) (a w b m : ℕ) → a + w ≤ m → part a w (part b m t) ≡ part (b + a) w t
part-part t a w b m h =
    let rest : a + (m - a) ≡ m = omega arith in
    ap (λ (k : ℕ). take w (drop a (take k (drop b t)))) (sym rest)
    ∙ ap (take w) (drop-take a (m - a) (drop b t))
    ∙ take-take w (m - a) (drop a (drop b t)) (omega arith)
    ∙ ap (take w) (drop-drop a b t)

-- The value on a line of a text is that in the text of its cell.
pub value_of_cell : (t u : List ℕ) (c k : ℕ) → u ≡ part (c * cell_bytes) cell_bytes t → k < lines
    → value_in u c k ≡ value_at t c k
unfolding value_in value_at
value_of_cell t u c k e h =
    let place : c * cell_bytes + k * line_bytes ≡ (c * lines + k) * line_bytes = omega arith in
    ap (λ (l : List ℕ). line_value l (c + 1) (k + 1) (lowest_on k) (highest_on k))
    (ap (part (k * line_bytes) line_bytes) e ∙ part-part t (k * line_bytes) line_bytes (c * cell_bytes) cell_bytes (omega arith)
    ∙ ap (λ (at : ℕ). part at line_bytes t) place)

-- So are its numbers, and whether each line has one.
module _ (t u : List ℕ) (c : ℕ) (e : u ≡ part (c * cell_bytes) cell_bytes t) where
  pub number_in_cell : (k : ℕ) → k < lines → number_in u c k ≡ number_at t c k
  number_in_cell k h = ap (λ (o : Option ℤ). unwrap_or o (pos 0)) (value_of_cell t u c k e h)

  pub cell_found_lem : cell_found u c ≡ cell_right t c
  cell_found_lem = every_eq lines _ _ (λ k h. ap is_some (value_of_cell t u c k e h))

-- A line of a cell's text, as the loop cuts it out, and the text of a cell.
pub line_is : (t : List ℕ) (cut : List (List ℕ)) (k : ℕ) → cut ≡ first_chunks line_bytes (length t / line_bytes) t
    → length t ≡ cell_bytes → k < lines → get_or cut k [] ≡ part (k * line_bytes) line_bytes t
line_is t cut k e long h = rw e (chunk_is line_bytes (length t / line_bytes) t k (omega arith))

pub cell_is : (t : List ℕ) (cut : List (List ℕ)) (c : ℕ) → cut ≡ first_chunks cell_bytes (length t / cell_bytes) t
    → c < length t / cell_bytes → get_or cut c [] ≡ part (c * cell_bytes) cell_bytes t
cell_is t cut c e h = rw e (chunk_is cell_bytes (length t / cell_bytes) t c h)

-- The lines of a cell's text.
module _ (t : List ℕ) (c k : ℕ) where
  -- What is read is within its limits.
  value_within : is_some (value_in t c k) ≡ true
      → (lowest_on k ≤ℤ number_in t c k) × (number_in t c k ≤ℤ highest_on k)
  unfolding value_in
  value_within e =
      let l = part (k * line_bytes) line_bytes t in
      let known = value_line l (c + 1) (k + 1) (lowest_on k) (highest_on k) e in
      (le_z_true (lowest_on k) _ known.1, le_z_true _ (highest_on k) known.2)

  pub carry_range : substances ≤ k → is_some (value_in t c k) ≡ true
      → (pos 0 ≤ℤ number_in t c k) × (nat_abs (number_in t c k) ≤ most_carry)
  unfolding lowest_on highest_on
  carry_range h e =
      let known = rw (le-ltb k substances h) at (value_within e) in
      (known.0, abs_of_nonneg (number_in t c k) most_carry known.0 known.1)

  pub value_small : is_some (value_in t c k) ≡ true → nat_abs (number_in t c k) ≤ most_net
  unfolding lowest_on highest_on
  value_small e = at (dec_lt k substances)
    where
      at : Dec (k < substances) → nat_abs (number_in t c k) ≤ most_net
      at (yes h) =
          let known = rw (lt-ltb k substances h) at (value_within e) in
          abs_from (number_in t c k) most_net known.0 known.1
      at (no g) = let small = (carry_range (omega arith) e).1 in omega arith

  -- What the loop reads of its line.
  pub value_found : (l : List ℕ) (r : Option ℤ) → l ≡ part (k * line_bytes) line_bytes t
      → r ≡ line_value l (c + 1) (k + 1) (lowest_on k) (highest_on k) → r ≡ value_in t c k
  unfolding value_in
  value_found l r cut e = rw cut at e

  -- There is a value on the line: it is the line's number, and the machine keeps it.
  pub value_some : (z : ℤ) → value_in t c k ≡ Some z → is_some (value_in t c k) ≡ true
  value_some z e = ap is_some e

  pub value_kept : (z : ℤ) → value_in t c k ≡ Some z → kept z ≡ number_in t c k
  value_kept z e =
      let same : number_in t c k ≡ z = ap (λ (o : Option ℤ). unwrap_or o (pos 0)) e in
      let small = value_small (value_some z e) in
      to_z-of_z (fits_signed_from_abs w64 z (omega (arith, small, ap nat_abs same))) ∙ sym same

-- A line more of a cell, whose first lines are stored as amounts and those past them as carries.
module _ {A : Type 0} (m : List A) (k : ℕ) (f : ℕ → A) where
  pub amount_stored : k < substances → Filled substances (k - (k - substances)) f m → (v : A) → v ≡ f k
      → Filled substances (k + 1 - (k + 1 - substances)) f (set m k v)
  amount_stored h e v q =
      let before : k - (k - substances) ≡ k = omega arith in
      let after : k + 1 - (k + 1 - substances) ≡ k + 1 = omega arith in
      rw after (fill_more substances k f m v (rw before at e) h q)

  pub amounts_kept : substances ≤ k → Filled substances (k - (k - substances)) f m
      → Filled substances (k + 1 - (k + 1 - substances)) f m
  amounts_kept h e = let same : k - (k - substances) ≡ k + 1 - (k + 1 - substances) = omega arith in rw same at e

  pub carry_stored : substances ≤ k → k < lines → Filled processes (k - substances) f m → (v : A)
      → v ≡ f (k - substances) → Filled processes (k + 1 - substances) f (set m (k - substances) v)
  carry_stored h l e v q =
      let after : k + 1 - substances ≡ k - substances + 1 = omega arith in
      rw after (fill_more processes (k - substances) f m v e (omega arith) q)

  pub carries_kept : k < substances → Filled processes (k - substances) f m → Filled processes (k + 1 - substances) f m
  carries_kept h e = let same : k - substances ≡ k + 1 - substances = omega arith in rw same at e
