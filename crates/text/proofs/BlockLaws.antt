-- Laws of `blocks`: length, equal blocks, two runs in one, rows of blocks as one run; for blocks of one width, of the
-- parts of a run and of a loop that writes them; and a part by its bytes. No assumptions.
use Prim.Native.Nat.{ℕ, zero, suc, ◌+◌, ◌*◌, ◌/◌, ◌%◌, ◌≤◌, ◌<◌}
use mathlib.Core.List.{List, ◌++◌, append_assoc, append-nil}
use mathlib.Core.Logic.{⊎_elim}
use mathlib.Core.Path.{◌≡◌, refl, sym, ap, ap₂, ◌∙◌}
use native.Mathlib.Nat.{suc-mul, zero-mul, add-suc, add-zero, mul-le-mul_right, eq-or-lt_of_le, le_of_suc-le-suc}
use native.Mathlib.Numerals.{add-one}
use native.Mathlib.Omega.{arith}
use borrow.Rule.Slice.PartMut.{put_mid}
use lib.Arith.{digits_div, digits_mod}
use lib.ListN.{length, take, drop, get_or, length-append, length-take, length-drop}
use lib.Seq.{drop_at, take-add, take_all, take-append-le, drop-append-le, get_or-take, get_or-drop}
use Rattle.numeric.specs.Table.{tab}
use Rattle.numeric.proofs.TableLaws.{tab_of_list, tab_eq}
use Rattle.text.specs.Blocks.{blocks, part}
use Rattle.text.specs.Writes.{put}
use Rattle.text.proofs.WriteLaws.{put-none, put_all, mid_written, grow}

pub blocks-length : (w m : ℕ) (f : ℕ → List ℕ) → ((i : ℕ) → length (f i) ≡ w) → length (blocks m f) ≡ m * w
unfolding blocks
blocks-length w zero f h = rw zero-mul
blocks-length w (suc m) f h = rw (length-append, blocks-length w m f h, h m, suc-mul)

pub blocks_cong : (m : ℕ) (f g : ℕ → List ℕ) → ((i : ℕ) → i < m → f i ≡ g i) → blocks m f ≡ blocks m g
unfolding blocks
blocks_cong zero f g h = refl
blocks_cong (suc m) f g h = ap₂ ◌++◌ (blocks_cong m f g (λ i l. h i (omega arith))) (h m (omega arith))

pub blocks_add : (a b : ℕ) (f : ℕ → List ℕ) → blocks (a + b) f ≡ blocks a f ++ blocks b (λ k. f (a + k))
unfolding blocks
blocks_add a zero f = rw (add-zero, append-nil)
blocks_add a (suc b) f = rw (add-suc, blocks_add a b f, append_assoc)

-- Rows of L blocks one after the other are one run.
pub blocks_flat : (L n : ℕ) (g : ℕ → ℕ → List ℕ)
    → blocks n (λ c. blocks L (g c)) ≡ blocks (n * L) (λ j. g (j / L) (j % L))
unfolding blocks
blocks_flat L zero g = rw zero-mul
blocks_flat L (suc n) g =
    ap₂ ◌++◌ (blocks_flat L n g) (blocks_cong L (g n) _ (λ k l. rw (digits_div n l, digits_mod n l)))
    ∙ sym (blocks_add (n * L) L (λ j. g (j / L) (j % L)))
    ∙ rw suc-mul

module _ (w : ℕ) (f : ℕ → List ℕ) (h : (i : ℕ) → length (f i) ≡ w) where
  -- Part i of the run is f i.
  pub part-blocks : (m i : ℕ) → i < m → part (i * w) w (blocks m f) ≡ f i
  unfolding blocks
  part-blocks zero i l = absurd (omega arith)
  part-blocks (suc m) i l =
      ⊎_elim
      (λ e. rw e
      (ap (take w) (drop_at (blocks m f) (f m) (m * w) (blocks-length w m f h))
      ∙ take_all w (f m) (omega (arith, h m))))
      (λ lt.
      let up : i * w + w ≤ length (blocks m f) =
      rw (blocks-length w m f h, ← suc-mul i w) (mul-le-mul_right w lt) in
      rw (drop-append-le (i * w) (blocks m f) (f m) (omega arith))
      (take-append-le w (drop (i * w) (blocks m f)) (f m) (simp length-drop (omega arith)) ∙ part-blocks m i lt))
      (eq-or-lt_of_le (le_of_suc-le-suc l))

-- A part by its bytes.
pub part-tab : (t : List ℕ) (at w : ℕ) → at + w ≤ length t → part at w t ≡ tab w (λ i. get_or t (at + i) 0)
part-tab t at w h =
    tab_of_list w 0 (part at w t) (simp (length-take, length-drop) (omega arith))
    ∙ tab_eq w _ _ (λ i l. get_or-take w (drop at t) i 0 l ∙ get_or-drop at t i 0)

-- A text that is f i in each part is the run.
pub blocks-parts : (w : ℕ) (f : ℕ → List ℕ) (t : List ℕ) (m : ℕ) → ((i : ℕ) → i < m → part (i * w) w t ≡ f i)
    → take (m * w) t ≡ blocks m f
unfolding blocks
blocks-parts w f t zero h = rw zero-mul
blocks-parts w f t (suc m) h =
    rw (suc-mul, take-add) (ap₂ ◌++◌ (blocks-parts w f t m (λ i l. h i (omega arith))) (h m (omega arith)))

-- Blocks of one width written over the start of a text, one after the other: none, one more over its part, and all that
-- the text has room for.
module _ (w : ℕ) (f : ℕ → List ℕ) (each : (i : ℕ) → length (f i) ≡ w) (l₀ : List ℕ) where
  pub no_block : l₀ ≡ put l₀ 0 (blocks 0 f)
  unfolding blocks
  no_block = sym (put-none l₀ 0)

  pub next_block : (l ys : List ℕ) (k len : ℕ) → len ≡ w → k * w + w ≤ length l₀
      → l ≡ put l₀ 0 (blocks k f)
      → ys ≡ f k
      → put_mid (k * w) len l ys ≡ put l₀ 0 (blocks (k + 1) f)
  unfolding blocks
  next_block l ys k len long room e e₁ =
      rw (add-one k)
      (mid_written l ys (f k) (k * w) len w (each k) long e₁
      ∙ grow l₀ l 0 (k * w) (k * w) (blocks k f) (f k) (blocks-length w k f each) (omega arith) (omega arith) e)

  -- The same step of a run that begins at any place.
  pub blocks_turn : (l l₁ : List ℕ) (at m k : ℕ) → m ≡ at + k * w → at + k * w + w ≤ length l₀
      → l ≡ put l₀ at (blocks k f)
      → l₁ ≡ put l m (f k)
      → l₁ ≡ put l₀ at (blocks (k + 1) f)
  unfolding blocks
  blocks_turn l l₁ at m k em h e e₁ =
      rw (add-one k) (e₁ ∙ grow l₀ l at (k * w) m (blocks k f) (f k) (blocks-length w k f each) em (omega arith) e)

  pub all_blocks : (l : List ℕ) (n : ℕ) → length l₀ ≡ n * w → l ≡ put l₀ 0 (blocks n f) → l ≡ blocks n f
  all_blocks l n long e = e ∙ put_all l₀ (blocks n f) (blocks-length w n f each ∙ sym long)
