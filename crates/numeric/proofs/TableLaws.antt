-- Laws of `tab`: its length, its elements, and that a list is known by its elements. No assumptions.
use Prim.Native.Nat.{ℕ, zero, suc, ◌<◌, ◌≤◌, ◌+◌}
use mathlib.Core.List.{List, [], ◌∷◌, ◌++◌}
use mathlib.Core.Path.{◌≡◌, refl, sym, ap₂, ◌∙◌}
use lib.ListN.{length, get_or, replicate, length-append, get_or-append}
use lib.Seq.{get_or-append_seam, ext_get_or}
use native.Mathlib.Numerals.{add-one}
use native.Mathlib.Nat.{lt-suc_self, not-suc-le-zero, le_of_suc-le-suc, add-zero, add-suc, suc-add}
use native.Mathlib.Decide.{dec_lt}
use native.Mathlib.Omega.{arith}
use Rattle.numeric.specs.Table.{tab}

module _ {A : Type 0} where
  pub tab-length : (n : ℕ) (f : ℕ → A) → length (tab n f) ≡ n
  unfolding tab
  tab-length zero f = refl
  tab-length (suc n) f = rw (length-append, tab-length n f, add-one)

  tab_at : (n : ℕ) (f : ℕ → A) (i : ℕ) (d : A) → i < suc n → (i < n → get_or (tab n f) i d ≡ f i) → Dec (i < n)
      → get_or (tab n f ++ (f n ∷ [])) i d ≡ f i
  tab_at n f i d h r (yes l) = get_or-append (tab n f) (f n ∷ []) d i (rw tab-length l) ∙ r l
  tab_at n f i d h r (no g) = let e : i ≡ n = omega arith in rw e (rw (tab-length n f) at (get_or-append_seam (tab n f) (f n) [] d))

  pub get_or-tab : (n : ℕ) (f : ℕ → A) (i : ℕ) (d : A) → i < n → get_or (tab n f) i d ≡ f i
  unfolding tab
  get_or-tab zero f i d h = absurd (omega arith)
  get_or-tab (suc n) f i d h = tab_at n f i d h (λ l. get_or-tab n f i d l) (dec_lt i n)

  -- Tables with the same elements are the same.
  pub tab_eq : (n : ℕ) (f g : ℕ → A) → ((k : ℕ) → k < n → f k ≡ g k) → tab n f ≡ tab n g
  unfolding tab
  tab_eq zero f g h = refl
  tab_eq (suc n) f g h =
      ap₂ (λ (l : List A) (x : A). l ++ (x ∷ [])) (tab_eq n f g (λ k l. h k (omega arith))) (h n (lt-suc_self n))

  -- A list of n elements is the table of them.
  pub tab_of_list : (n : ℕ) (d : A) (l : List A) → length l ≡ n → l ≡ tab n (λ (k : ℕ). get_or l k d)
  tab_of_list n d l e =
      ext_get_or d l (tab n (λ (k : ℕ). get_or l k d)) (e ∙ sym (tab-length n (λ (k : ℕ). get_or l k d)))
      (λ i h. sym (get_or-tab n (λ (k : ℕ). get_or l k d) i d (omega arith)))

  -- A fact for each element of a list and its place, counted from i: a product that a proof gives part by part.
  abbrev pub Each : (ℕ → A → Type 0) → ℕ → List A → Type 0
  Each P i [] = Unit {0}
  Each P i (x ∷ xs) = P i x × Each P (suc i) xs

  pub each_at : (P : ℕ → A → Type 0) (i : ℕ) (xs : List A) (k : ℕ) (d : A) → Each P i xs → k < length xs
      → P (i + k) (get_or xs k d)
  each_at P i [] k d h l = absurd (not-suc-le-zero l)
  each_at P i (x ∷ xs) zero d h l = rw add-zero h.0
  each_at P i (x ∷ xs) (suc k) d h l =
      rw (add-suc, ← suc-add) (each_at P (suc i) xs k d h.1 (le_of_suc-le-suc l))

-- Every element of a list has a size of at most b.
infixr 67 ◌also◌
pub data AtMost {A : Type 0} (size : A → ℕ) (b : ℕ) : List A → Type 0 where
  done : AtMost size b []
  ◌also◌ : {x : A} {l : List A} → size x ≤ b → AtMost size b l → AtMost size b (x ∷ l)

pub at_most_at : {A : Type 0} {size : A → ℕ} {b : ℕ} {l : List A} → AtMost size b l → (d : A) → size d ≤ b → (k : ℕ)
    → size (get_or l k d) ≤ b
at_most_at done d h k = h
at_most_at (a also r) d h zero = a
at_most_at (a also r) d h (suc k) = at_most_at r d h k

-- A run of one element before a list.
pub at_most-run : {A : Type 0} {size : A → ℕ} {b : ℕ} {l : List A} (n : ℕ) (x : A) → size x ≤ b → AtMost size b l
    → AtMost size b (replicate n x ++ l)
at_most-run zero x h r = r
at_most-run (suc n) x h r = h also at_most-run n x h r
