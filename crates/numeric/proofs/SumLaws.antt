-- Laws of `sum`, for any number of summands: equal summands, zero, sums and multiples, one summand, bounds (one for all
-- summands, or one for each), one summand changed, one sum after another, the order of two sums, what passes between
-- neighbours. No assumptions.
use Prim.Native.Nat.{ℕ, zero, suc, ◌+◌, ◌*◌, ◌<◌, ◌≤◌}
use mathlib.Core.Path.{◌≡◌, refl, ap, ap₂, sym, ◌∙◌}
use mathlib.Core.List.{[], ◌∷◌}
use native.Mathlib.Omega.{arith}
use native.Mathlib.Numerals.{add-one}
use native.Mathlib.Nat.{lt-suc_self, le_refl, add-zero, add-suc}
use native.Mathlib.Decide.{dec_lt}
use lib.IntN.{ℤ, pos, nat_abs, ◌+ℤ◌, ◌-ℤ◌, ◌*ℤ◌, +ℤ_idr, +ℤ_assoc}
use Rattle.numeric.specs.Sum.{sum}
use Rattle.numeric.proofs.Bounds.{abs_add}
use Rattle.numeric.proofs.Expression.{v, #, ◌⊕◌, ◌⊖◌, ◌⊗◌}
use Rattle.numeric.proofs.Ring.{solve}

pub sum-none : (f : ℕ → ℤ) → sum 0 f ≡ pos 0
unfolding sum
sum-none f = refl

pub sum_more : (n : ℕ) (f : ℕ → ℤ) → sum (n + 1) f ≡ sum n f +ℤ f n
unfolding sum
sum_more n f = rw add-one

pub sum_eq : (n : ℕ) (f g : ℕ → ℤ) → ((k : ℕ) → k < n → f k ≡ g k) → sum n f ≡ sum n g
unfolding sum
sum_eq zero f g h = refl
sum_eq (suc n) f g h = ap₂ ◌+ℤ◌ (sum_eq n f g (λ k l. h k (omega arith))) (h n (lt-suc_self n))

pub sum_zero : (n : ℕ) → sum n (λ (k : ℕ). pos 0) ≡ pos 0
unfolding sum
sum_zero zero = refl
sum_zero (suc n) = ap (λ (x : ℤ). x +ℤ pos 0) (sum_zero n)

pub sum_add : (n : ℕ) (f g : ℕ → ℤ) → sum n (λ (k : ℕ). f k +ℤ g k) ≡ sum n f +ℤ sum n g
unfolding sum
sum_add zero f g = refl
sum_add (suc n) f g =
    ap (λ (x : ℤ). x +ℤ (f n +ℤ g n)) (sum_add n f g)
    ∙ solve (sum n f ∷ sum n g ∷ f n ∷ g n ∷ []) (v 0 ⊕ v 1 ⊕ (v 2 ⊕ v 3)) (v 0 ⊕ v 2 ⊕ (v 1 ⊕ v 3)) tt

pub sum_sub : (n : ℕ) (f g : ℕ → ℤ) → sum n (λ (k : ℕ). f k -ℤ g k) ≡ sum n f -ℤ sum n g
unfolding sum
sum_sub zero f g = refl
sum_sub (suc n) f g =
    ap (λ (x : ℤ). x +ℤ (f n -ℤ g n)) (sum_sub n f g)
    ∙ solve (sum n f ∷ sum n g ∷ f n ∷ g n ∷ []) (v 0 ⊖ v 1 ⊕ (v 2 ⊖ v 3)) (v 0 ⊕ v 2 ⊖ (v 1 ⊕ v 3)) tt

pub sum_scale : (n : ℕ) (a : ℤ) (f : ℕ → ℤ) → sum n (λ (k : ℕ). a *ℤ f k) ≡ a *ℤ sum n f
unfolding sum
sum_scale zero a f = solve (a ∷ []) (# (pos 0)) (v 0 ⊗ # (pos 0)) tt
sum_scale (suc n) a f =
    ap (λ (x : ℤ). x +ℤ a *ℤ f n) (sum_scale n a f)
    ∙ solve (a ∷ sum n f ∷ f n ∷ []) (v 0 ⊗ v 1 ⊕ v 0 ⊗ v 2) (v 0 ⊗ (v 1 ⊕ v 2)) tt

pub sum_bound : (n : ℕ) (f : ℕ → ℤ) (b : ℕ) → ((k : ℕ) → k < n → nat_abs (f k) ≤ b) → nat_abs (sum n f) ≤ n * b
unfolding sum
sum_bound zero f b h = omega arith
sum_bound (suc n) f b h =
    omega (arith, abs_add (sum n f) (f n), sum_bound n f b (λ k l. h k (omega arith)), h n (lt-suc_self n))

-- b 0 + .. + b (n − 1).
unfoldable pub added : ℕ → (ℕ → ℕ) → ℕ
added zero b = 0
added (suc n) b = added n b + b n

-- A bound for each summand gives one for the sum.
pub sum-within : (n : ℕ) (f : ℕ → ℤ) (b : ℕ → ℕ) → ((k : ℕ) → k < n → nat_abs (f k) ≤ b k) → nat_abs (sum n f) ≤ added n b
unfolding sum added
sum-within zero f b h = le_refl 0
sum-within (suc n) f b h =
    omega (arith, abs_add (sum n f) (f n), sum-within n f b (λ k l. h k (omega arith)), h n (lt-suc_self n))

added_at : (n k : ℕ) (b : ℕ → ℕ) → k < suc n → (k < n → added k b + b k ≤ added n b) → Dec (k < n)
    → added k b + b k ≤ added n b + b n
added_at n k b h r (yes l) = omega (arith, r l)
added_at n k b h r (no g) = let e : k ≡ n = omega arith in rw e (le_refl (added n b + b n))

-- The first k and one more are no more than all.
pub added_le : (n k : ℕ) (b : ℕ → ℕ) → k < n → added k b + b k ≤ added n b
unfolding added
added_le zero k b h = absurd (omega arith)
added_le (suc n) k b h = added_at n k b h (λ l. added_le n k b l) (dec_lt k n)

change_at_lem : (n a : ℕ) (f g : ℕ → ℤ) → a < suc n → ((k : ℕ) → (k ≡ a → ⊥) → g k ≡ f k)
    → (a < n → sum n g ≡ sum n f +ℤ (g a -ℤ f a)) → Dec (a < n) → sum n g +ℤ g n ≡ sum n f +ℤ f n +ℤ (g a -ℤ f a)
change_at_lem n a f g h e r (yes l) =
    rw (r l, e n (λ q. omega arith)) (solve (sum n f ∷ g a ∷ f a ∷ f n ∷ []) (v 0 ⊕ (v 1 ⊖ v 2) ⊕ v 3) (v 0 ⊕ v 3 ⊕ (v 1 ⊖ v 2)) tt)
change_at_lem n a f g h e r (no b) =
    let q : a ≡ n = omega arith in
    rw (q, sum_eq n g f (λ k l. e k (λ j. omega arith)))
    (solve (sum n f ∷ g n ∷ f n ∷ []) (v 0 ⊕ v 1) (v 0 ⊕ v 2 ⊕ (v 1 ⊖ v 2)) tt)

-- One summand changed: the sum changes by as much.
pub sum_change : (n a : ℕ) (f g : ℕ → ℤ) → a < n → ((k : ℕ) → (k ≡ a → ⊥) → g k ≡ f k)
    → sum n g ≡ sum n f +ℤ (g a -ℤ f a)
unfolding sum
sum_change zero a f g h e = absurd (omega arith)
sum_change (suc n) a f g h e = change_at_lem n a f g h e (λ l. sum_change n a f g l e) (dec_lt a n)

-- All summands but one are 0.
pub sum_single : (n a : ℕ) (f : ℕ → ℤ) → a < n → ((k : ℕ) → (k ≡ a → ⊥) → f k ≡ pos 0) → sum n f ≡ f a
sum_single n a f h e =
    sum_change n a (λ (k : ℕ). pos 0) f h e
    ∙ ap (λ (x : ℤ). x +ℤ (f a -ℤ pos 0)) (sum_zero n)
    ∙ solve (f a ∷ []) (# (pos 0) ⊕ (v 0 ⊖ # (pos 0))) (v 0) tt

-- The first m summands, then n more.
pub sum-append : (m n : ℕ) (f : ℕ → ℤ) → sum (m + n) f ≡ sum m f +ℤ sum n (λ (k : ℕ). f (m + k))
unfolding sum
sum-append m zero f = rw add-zero (sym (+ℤ_idr (sum m f)))
sum-append m (suc n) f = rw (add-suc, sum-append m n f, +ℤ_assoc)

-- The sums of rows and of columns.
pub sum_exchange : (m n : ℕ) (f : ℕ → ℕ → ℤ) → sum m (λ a. sum n (λ b. f a b)) ≡ sum n (λ b. sum m (λ a. f a b))
unfolding sum
sum_exchange zero n f = sym (sum_zero n)
sum_exchange (suc m) n f =
    ap (λ (x : ℤ). x +ℤ sum n (λ b. f m b)) (sum_exchange m n f)
    ∙ sym (sum_add n (λ b. sum m (λ a. f a b)) (λ b. f m b))

-- Each place gets what passes from the one before it and gives what passes to the next: the sum gets what passes to the
-- first and gives what passes from the last.
pub sum_telescope : (n : ℕ) (f g passes : ℕ → ℤ) → ((k : ℕ) → k < n → g k ≡ f k -ℤ passes (suc k) +ℤ passes k)
    → sum n g ≡ sum n f +ℤ (passes 0 -ℤ passes n)
unfolding sum
sum_telescope zero f g passes h = solve (passes 0 ∷ []) (# (pos 0)) (# (pos 0) ⊕ (v 0 ⊖ v 0)) tt
sum_telescope (suc n) f g passes h =
    ap₂ ◌+ℤ◌ (sum_telescope n f g passes (λ k l. h k (omega arith))) (h n (lt-suc_self n))
    ∙ solve (sum n f ∷ passes 0 ∷ passes n ∷ f n ∷ passes (suc n) ∷ [])
    (v 0 ⊕ (v 1 ⊖ v 2) ⊕ (v 3 ⊖ v 4 ⊕ v 2)) (v 0 ⊕ v 3 ⊕ (v 1 ⊖ v 4)) tt
