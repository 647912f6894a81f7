-- A loop that counts the pairs of two lists, or the first of them: what stands in the pair of each place.
-- No assumptions.
use Prim.Native.Nat.{ℕ, ◌+◌, ◌≤◌, ◌<◌}
use mathlib.Core.List.{List}
use mathlib.Core.Path.{◌≡◌, sym, ap, ◌∙◌}
use native.Mathlib.Omega.{arith}
use lib.ListN.{length, get_or, take}
use Rattle.std.specs.List.{zip, enumerate_from}
use Rattle.std.proofs.lemmas.List.{get_or_default, length-take, get_or-take}
use Rattle.std.proofs.lemmas.List.FromFn.{length-enumerate_from, get_or-enumerate_from}
use Rattle.std.proofs.lemmas.Slice.Zip.{length-zip, get_or-zip}

module _ {A B : Type 0} (xs : List A) (ys : List B) where
  abbrev pairs : List (ℕ × (A × B))
  pairs = enumerate_from 0 (zip xs ys)

  pub pair_at : (i : ℕ) (p : ℕ × (A × B)) (d : A) (e : B) → (i < length pairs) × (p ≡ get_or pairs i p)
      → (p.0 ≡ i) × (i < length xs) × (i < length ys) × (p.1.0 ≡ get_or xs i d) × (p.1.1 ≡ get_or ys i e)
  pair_at i p d e turn =
      let inside : i < length (zip xs ys) = omega (arith, turn.0, length-enumerate_from 0 (zip xs ys)) in
      let left : i < length xs = omega (arith, inside, length-zip xs ys) in
      let right : i < length ys = omega (arith, inside, length-zip xs ys) in
      let numbered = turn.1 ∙ get_or-enumerate_from 0 (zip xs ys) i p inside in
      let pair = get_or-zip xs ys i p.1 left right in (
        ap (λ q. q.0) numbered ∙ omega arith,
        left,
        right,
        ap (λ q. q.1.0) numbered ∙ ap (λ q. q.0) pair ∙ get_or_default xs i _ d left,
        ap (λ q. q.1.1) numbered ∙ ap (λ q. q.1) pair ∙ get_or_default ys i _ e right,
      )

  -- The first m.
  module _ (m : ℕ) where
    abbrev firsts : List (ℕ × (A × B))
    firsts = enumerate_from 0 (take m (zip xs ys))

    pub firsts-length : m ≤ length xs → m ≤ length ys → length firsts ≡ m
    firsts-length left right =
        length-enumerate_from 0 (take m (zip xs ys)) ∙ length-take m (zip xs ys) ∙ omega (arith, left, right, length-zip xs ys)

    pub first_at : (i : ℕ) (p : ℕ × (A × B)) (d : A) (e : B) → (i < length firsts) × (p ≡ get_or firsts i p)
        → (p.0 ≡ i) × (i < m) × (p.1.0 ≡ get_or xs i d) × (p.1.1 ≡ get_or ys i e)
    first_at i p d e turn =
        let taken : i < length (take m (zip xs ys)) = omega (arith, turn.0, length-enumerate_from 0 (take m (zip xs ys))) in
        let below : i < m = omega (arith, taken, length-take m (zip xs ys)) in
        let inside : i < length (zip xs ys) = omega (arith, taken, length-take m (zip xs ys)) in
        let same : get_or firsts i p ≡ get_or pairs i p =
        get_or-enumerate_from 0 (take m (zip xs ys)) i p taken
        ∙ ap (λ q. (0 + i, q)) (get_or-take m (zip xs ys) i p.1 below)
        ∙ sym (get_or-enumerate_from 0 (zip xs ys) i p inside) in
        let pair = pair_at i p d e (omega (arith, inside, length-enumerate_from 0 (zip xs ys)), turn.1 ∙ same) in
        (pair.0, below, pair.3, pair.4)
