-- Laws of the text of cells, for any numbers of cells and lines and any values: its lines and the lines of a cell, by
-- their places, and that a text with these lines is it. No assumptions.
use Prim.Native.Nat.{ℕ, suc, ◌+◌, ◌*◌, ◌/◌, ◌%◌, ◌≤◌, ◌<◌}
use mathlib.Core.List.{List}
use mathlib.Core.Path.{◌≡◌, sym, ap, ap₂, ◌∙◌}
use native.Mathlib.Nat.{suc-mul, mul_assoc, mul-le-mul_right, div-lt_iff_lt-mul, div-add-mod', mod-lt}
use native.Mathlib.Omega.{arith}
use lib.Arith.{digits_div, digits_mod}
use lib.IntN.{ℤ}
use lib.ListN.{length}
use lib.Seq.{take_all}
use Rattle.text.specs.Blocks.{blocks, part}
use Rattle.text.proofs.BlockLaws.{blocks_flat, part-blocks, blocks-parts}
use Rattle.record.specs.Lines.{line_bytes, line, cell_text, record_text}
use Rattle.record.proofs.LineLaws.{line-length, cell-length}

-- The text of n cells of `count` lines, any values.
module _ (n count : ℕ) (v : ℕ → ℕ → ℤ) where
  -- Line j of all.
  line_of : ℕ → List ℕ
  line_of j = line (j / count + 1) (j % count + 1) (v (j / count) (j % count))

  flat : record_text n count v ≡ blocks (n * count) line_of
  unfolding record_text cell_text line_of
  flat = blocks_flat count n (λ c k. line (c + 1) (k + 1) (v c k))

  -- Line k of cell c of the text.
  pub text-line : (c k : ℕ) → c < n → k < count
      → part ((c * count + k) * line_bytes) line_bytes (record_text n count v) ≡ line (c + 1) (k + 1) (v c k)
  unfolding line_of
  text-line c k h l =
      let row : suc c * count ≤ n * count = mul-le-mul_right count h in
      let next : suc c * count ≡ c * count + count = suc-mul c count in
      ap (part ((c * count + k) * line_bytes) line_bytes) flat
      ∙ part-blocks line_bytes line_of (λ j. line-length (j / count + 1) (j % count + 1) (v (j / count) (j % count)))
      (n * count) (c * count + k) (omega arith)
      ∙ ap₂ (λ (d j : ℕ). line (d + 1) (j + 1) (v d j)) (digits_div c l) (digits_mod c l)

  -- The lines of cell c of the text.
  pub text-cell : (c : ℕ) → c < n
      → part (c * (count * line_bytes)) (count * line_bytes) (record_text n count v) ≡ cell_text count v c
  unfolding record_text
  text-cell c h = part-blocks (count * line_bytes) (cell_text count v) (cell-length count v) n c h

  -- A text of that length with these lines at their places is it.
  pub text_of_lines : 0 < count → (t : List ℕ) → length t ≡ n * (count * line_bytes)
      → ((c k : ℕ) → c < n → k < count → part ((c * count + k) * line_bytes) line_bytes t ≡ line (c + 1) (k + 1) (v c k))
      → t ≡ record_text n count v
  unfolding line_of
  text_of_lines some t long h =
      let size : length t ≡ n * count * line_bytes = long ∙ sym (mul_assoc n count line_bytes) in
      sym (take_all (n * count * line_bytes) t (omega arith))
      ∙ blocks-parts line_bytes line_of t (n * count)
      (λ j l.
      ap (λ (i : ℕ). part (i * line_bytes) line_bytes t) (sym (div-add-mod' j count))
      ∙ h (j / count) (j % count) ((div-lt_iff_lt-mul some).1 l) (mod-lt j some))
      ∙ sym flat
