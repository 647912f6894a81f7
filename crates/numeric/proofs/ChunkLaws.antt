-- Chunks of one width, as `as_chunks` cuts a list: each is a part of the list. No assumptions.
use Prim.Native.Nat.{ℕ, zero, suc, ◌<◌, ◌+◌, ◌*◌}
use mathlib.Core.List.{List, []}
use mathlib.Core.Path.{◌≡◌, refl, ap, ◌∙◌}
use native.Mathlib.Nat.{suc-mul, zero-mul}
use native.Mathlib.Omega.{arith}
use lib.ListN.{get_or, take, drop}
use lib.Seq.{drop-drop, get_or-take, get_or-drop}
use Rattle.std.specs.Simd.{first_chunks}

module _ {A : Type 0} (w : ℕ) where
  pub chunk_is : (n : ℕ) (xs : List A) (i : ℕ) → i < n → get_or (first_chunks w n xs) i [] ≡ take w (drop (i * w) xs)
  chunk_is zero xs i h = absurd (omega arith)
  chunk_is (suc n) xs zero h = rw zero-mul refl
  chunk_is (suc n) xs (suc i) h =
      let next : w + i * w ≡ suc i * w = rw suc-mul (omega arith) in
      chunk_is n (drop w xs) i (omega arith) ∙ rw (drop-drop (i * w) w xs, next) refl

  -- An element of a chunk stands at its place in the list.
  pub chunk_at : (n : ℕ) (xs : List A) (i s : ℕ) (d : A) → i < n → s < w
      → get_or (get_or (first_chunks w n xs) i []) s d ≡ get_or xs (i * w + s) d
  chunk_at n xs i s d h l =
      ap (λ (c : List A). get_or c s d) (chunk_is n xs i h)
      ∙ get_or-take w (drop (i * w) xs) s d l
      ∙ get_or-drop (i * w) xs s d
