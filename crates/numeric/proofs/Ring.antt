-- Identities of integers by computation: `solve env l r tt : eval env l ≡ eval env r`, where the two expressions have
-- one normal form. A polynomial is a list of terms, each a coefficient and the sorted list of its atoms. That lists
-- are sorted is not proved and not needed: it only makes equal polynomials meet. Where `tt` is refused, the identity
-- is false or an atom's index is wrong. No assumptions.
use mathlib.Core.Path.{◌≡◌, refl, sym, ap, ap₂, ◌∙◌, subst}
use mathlib.Core.Bool.{Bool, true, false, ◌&&◌}
use mathlib.Core.List.{List, [], ◌∷◌}
use Prim.Native.Nat.{ℕ}
use native.Mathlib.Omega.{arith}
use lib.Dec.{T, ltb, eqb, eqb→eq}
use lib.ListN.{get_or}
use lib.Ieee.Fits.{and_l, and_r}
use lib.IntN.{ℤ, pos, negsuc, neg_ℤ, ◌+ℤ◌, ◌-ℤ◌, ◌*ℤ◌, +ℤ_idl, zero-*ℤ}
use Rattle.numeric.proofs.Expression.{Ex, v, #, op, plus, minus, times, ◌⊕◌, ◌⊖◌, ◌⊗◌, ⊝, eval, equal}
use Rattle.numeric.proofs.RingLaws.{*ℤ_assoc, *ℤ_distrib_left, *ℤ_distrib_right, one_*ℤ}

-- The value of a monomial: the product of its atoms.
abbrev pub mono : List ℤ → List ℕ → ℤ
mono env [] = pos 1
mono env (i ∷ m) = get_or env i (pos 0) *ℤ mono env m

-- How two monomials stand in the order of terms.
pub data Way : Type 0 where
  less same more : Way

abbrev pub by : Bool → Bool → Way → Way
by true q w = less
by false true w = w
by false false w = more

-- Shorter lists first, then by atoms.
abbrev pub way : List ℕ → List ℕ → Way
way [] [] = same
way [] (j ∷ n) = less
way (i ∷ m) [] = more
way (i ∷ m) (j ∷ n) = by (ltb i j) (eqb i j) (way m n)

way_same : (m n : List ℕ) → way m n ≡ same → m ≡ n
way_same [] [] e = refl
way_same [] (j ∷ n) e = cc
way_same (i ∷ m) [] e = cc
way_same (i ∷ m) (j ∷ n) e = go (way_same m n) (ltb i j) (eqb i j) refl e
  where
    go : (way m n ≡ same → m ≡ n) → (p q : Bool) → eqb i j ≡ q → by p q (way m n) ≡ same → i ∷ m ≡ j ∷ n
    go ih true q f g = cc
    go ih false true f g = ap₂ ◌∷◌ (eqb→eq i j (subst T (sym f) tt)) (ih g)
    go ih false false f g = cc

-- An atom into a monomial.
abbrev pub put : ℕ → List ℕ → List ℕ
put i [] = i ∷ []
put i (j ∷ m) = elim (ltb j i) [ true ↦ j ∷ put i m | false ↦ i ∷ j ∷ m ]

put_is : (env : List ℤ) (i : ℕ) (m : List ℕ) → mono env (put i m) ≡ get_or env i (pos 0) *ℤ mono env m
put_is env i [] = refl
put_is env i (j ∷ m) = go (put_is env i m) (ltb j i)
  where
    x : ℤ
    x = get_or env i (pos 0)

    y : ℤ
    y = get_or env j (pos 0)

    go : mono env (put i m) ≡ get_or env i (pos 0) *ℤ mono env m → (b : Bool) → mono env (elim b [ true ↦ j ∷ put i m | false ↦ i ∷ j ∷ m ]) ≡ get_or env i (pos 0) *ℤ (get_or env j (pos 0) *ℤ mono env m)
    go ih true =
        ap (λ (z : ℤ). get_or env j (pos 0) *ℤ z) ih
        ∙ equal (get_or env i (pos 0) ∷ get_or env j (pos 0) ∷ mono env m ∷ []) (v 1 ⊗ (v 0 ⊗ v 2)) (v 0 ⊗ (v 1 ⊗ v 2)) (omega arith)
    go ih false = refl

-- The product of two monomials.
abbrev pub joined : List ℕ → List ℕ → List ℕ
joined [] n = n
joined (i ∷ m) n = put i (joined m n)

joined_is : (env : List ℤ) (m n : List ℕ) → mono env (joined m n) ≡ mono env m *ℤ mono env n
joined_is env [] n = sym (one_*ℤ (mono env n))
joined_is env (i ∷ m) n =
    put_is env i (joined m n)
    ∙ ap (λ (z : ℤ). get_or env i (pos 0) *ℤ z) (joined_is env m n)
    ∙ sym (*ℤ_assoc (get_or env i (pos 0)) (mono env m) (mono env n))

-- A coefficient and its monomial.
pub data Term : Type 0 where
  term : ℤ → List ℕ → Term

-- The value of a polynomial.
abbrev pub value : List ℤ → List Term → ℤ
value env [] = pos 0
value env (term c m ∷ p) = c *ℤ mono env m +ℤ value env p

abbrev pub choose : Way → List Term → List Term → List Term → List Term
choose less a b c = a
choose same a b c = b
choose more a b c = c

-- A term into a polynomial.
abbrev pub add : ℤ → List ℕ → List Term → List Term
add c m [] = term c m ∷ []
add c m (term d n ∷ p) = choose (way m n) (term c m ∷ term d n ∷ p) (term (c +ℤ d) n ∷ p) (term d n ∷ add c m p)

add_is : (env : List ℤ) (c : ℤ) (m : List ℕ) (p : List Term) → value env (add c m p) ≡ c *ℤ mono env m +ℤ value env p
add_is env c m [] = refl
add_is env c m (term d n ∷ p) = go (add_is env c m p) (way m n) refl
  where
    go : value env (add c m p) ≡ c *ℤ mono env m +ℤ value env p → (w : Way) → way m n ≡ w → value env (choose w (term c m ∷ term d n ∷ p) (term (c +ℤ d) n ∷ p) (term d n ∷ add c m p)) ≡ c *ℤ mono env m +ℤ (d *ℤ mono env n +ℤ value env p)
    go ih less e = refl
    go ih same e =
        equal (c ∷ d ∷ mono env n ∷ value env p ∷ []) ((v 0 ⊕ v 1) ⊗ v 2 ⊕ v 3) (v 0 ⊗ v 2 ⊕ (v 1 ⊗ v 2 ⊕ v 3)) (omega arith)
        ∙ ap (λ (k : List ℕ). c *ℤ mono env k +ℤ (d *ℤ mono env n +ℤ value env p)) (sym (way_same m n e))
    go ih more e =
        ap (λ (z : ℤ). d *ℤ mono env n +ℤ z) ih
        ∙ equal ((c *ℤ mono env m) ∷ (d *ℤ mono env n) ∷ value env p ∷ []) (v 1 ⊕ (v 0 ⊕ v 2)) (v 0 ⊕ (v 1 ⊕ v 2)) (omega arith)

-- The sum of two polynomials.
abbrev pub added : List Term → List Term → List Term
added [] q = q
added (term c m ∷ p) q = add c m (added p q)

added_is : (env : List ℤ) (p q : List Term) → value env (added p q) ≡ value env p +ℤ value env q
added_is env [] q = sym (+ℤ_idl (value env q))
added_is env (term c m ∷ p) q =
    add_is env c m (added p q)
    ∙ ap (λ (z : ℤ). c *ℤ mono env m +ℤ z) (added_is env p q)
    ∙ equal ((c *ℤ mono env m) ∷ value env p ∷ value env q ∷ []) (v 0 ⊕ (v 1 ⊕ v 2)) (v 0 ⊕ v 1 ⊕ v 2) (omega arith)

crossed : (a b c d : ℤ) → a *ℤ b *ℤ (c *ℤ d) ≡ a *ℤ c *ℤ (b *ℤ d)
crossed a b c d = equal (a ∷ b ∷ c ∷ d ∷ []) (v 0 ⊗ v 1 ⊗ (v 2 ⊗ v 3)) (v 0 ⊗ v 2 ⊗ (v 1 ⊗ v 3)) (omega arith)

-- A term times a polynomial.
abbrev pub scale : ℤ → List ℕ → List Term → List Term
scale c m [] = []
scale c m (term d n ∷ p) = add (c *ℤ d) (joined m n) (scale c m p)

scale_is : (env : List ℤ) (c : ℤ) (m : List ℕ) (p : List Term)
    → value env (scale c m p) ≡ c *ℤ mono env m *ℤ value env p
scale_is env c m [] = equal (c ∷ mono env m ∷ []) (# (pos 0)) (v 0 ⊗ v 1 ⊗ # (pos 0)) (omega arith)
scale_is env c m (term d n ∷ p) =
    add_is env (c *ℤ d) (joined m n) (scale c m p)
    ∙ ap₂ (λ (y z : ℤ). c *ℤ d *ℤ y +ℤ z) (joined_is env m n) (scale_is env c m p)
    ∙ ap (λ (y : ℤ). y +ℤ c *ℤ mono env m *ℤ value env p) (crossed c d (mono env m) (mono env n))
    ∙ sym (*ℤ_distrib_left (c *ℤ mono env m) (d *ℤ mono env n) (value env p))

-- The product of two polynomials.
abbrev pub product : List Term → List Term → List Term
product [] q = []
product (term c m ∷ p) q = added (scale c m q) (product p q)

product_is : (env : List ℤ) (p q : List Term) → value env (product p q) ≡ value env p *ℤ value env q
product_is env [] q = sym (zero-*ℤ (value env q))
product_is env (term c m ∷ p) q =
    added_is env (scale c m q) (product p q)
    ∙ ap₂ (λ (y z : ℤ). y +ℤ z) (scale_is env c m q) (product_is env p q)
    ∙ sym (*ℤ_distrib_right (c *ℤ mono env m) (value env p) (value env q))

-- The normal form of an expression.
abbrev pub norm : Ex → List Term
norm (v i) = term (pos 1) (i ∷ []) ∷ []
norm (# c) = term c [] ∷ []
norm (op plus a b) = added (norm a) (norm b)
norm (op minus a b) = added (norm a) (scale (negsuc 0) [] (norm b))
norm (op times a b) = product (norm a) (norm b)
norm (⊝ a) = scale (negsuc 0) [] (norm a)

neg_is : (x : ℤ) → negsuc 0 *ℤ pos 1 *ℤ x ≡ neg_ℤ x
neg_is x = equal (x ∷ []) (# (negsuc 0) ⊗ # (pos 1) ⊗ v 0) (⊝ (v 0)) (omega arith)

norm_is : (env : List ℤ) (e : Ex) → value env (norm e) ≡ eval env e
norm_is env (v i) = equal (get_or env i (pos 0) ∷ []) (# (pos 1) ⊗ (v 0 ⊗ # (pos 1)) ⊕ # (pos 0)) (v 0) (omega arith)
norm_is env (# c) = equal (c ∷ []) (v 0 ⊗ # (pos 1) ⊕ # (pos 0)) (v 0) (omega arith)
norm_is env (op plus a b) = added_is env (norm a) (norm b) ∙ ap₂ (λ (y z : ℤ). y +ℤ z) (norm_is env a) (norm_is env b)
norm_is env (op minus a b) =
    added_is env (norm a) (scale (negsuc 0) [] (norm b))
    ∙ ap₂ (λ (y z : ℤ). y +ℤ z) (norm_is env a) (scale_is env (negsuc 0) [] (norm b) ∙ neg_is (value env (norm b)) ∙ ap neg_ℤ (norm_is env b))
norm_is env (op times a b) = product_is env (norm a) (norm b) ∙ ap₂ (λ (y z : ℤ). y *ℤ z) (norm_is env a) (norm_is env b)
norm_is env (⊝ a) = scale_is env (negsuc 0) [] (norm a) ∙ neg_is (value env (norm a)) ∙ ap neg_ℤ (norm_is env a)

-- The coefficient is 0.
abbrev pub nothing : ℤ → Bool
nothing (pos n) = eqb n 0
nothing (negsuc n) = false

nothing_is : (c : ℤ) → T (nothing c) → c ≡ pos 0
nothing_is (pos n) t = ap pos (eqb→eq n 0 t)
nothing_is (negsuc n) t = absurd t

-- Every coefficient is 0.
abbrev pub empty : List Term → Bool
empty [] = true
empty (term c m ∷ p) = nothing c && empty p

empty_is : (env : List ℤ) (p : List Term) → T (empty p) → value env p ≡ pos 0
empty_is env [] t = refl
empty_is env (term c m ∷ p) t =
    ap₂ (λ (y z : ℤ). y *ℤ mono env m +ℤ z) (nothing_is c (and_l (nothing c) (empty p) t))
    (empty_is env p (and_r (nothing c) (empty p) t))
    ∙ ap (λ (z : ℤ). z +ℤ pos 0) (zero-*ℤ (mono env m))

zero_difference : (x y : ℤ) → x -ℤ y ≡ pos 0 → x ≡ y
zero_difference x y e =
    equal (x ∷ y ∷ []) (v 0) (v 0 ⊖ v 1 ⊕ v 1) (omega arith) ∙ ap (λ (z : ℤ). z +ℤ y) e ∙ +ℤ_idl y

-- The difference of the two has no coefficient but 0.
abbrev pub Same : Ex → Ex → Type 0
Same l r = T (empty (norm (l ⊖ r)))

pub solve : (env : List ℤ) (l r : Ex) → Same l r → eval env l ≡ eval env r
solve env l r t = zero_difference (eval env l) (eval env r) (sym (norm_is env (l ⊖ r)) ∙ empty_is env (norm (l ⊖ r)) t)
