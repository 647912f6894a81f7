-- Laws of `grid`: the element at a place of one of the first rows and beyond them, a fact of every element, equal grids,
-- a list that is one; `RowsFilled`, the invariant of a loop that stores row after row; last, `RowsMade`, that of a loop that
-- makes row after row: joined, they are a grid. No assumptions.
use Prim.Native.Nat.{ℕ, zero, suc, ◌+◌, ◌*◌, ◌/◌, ◌%◌, ◌≤◌, ◌<◌}
use mathlib.Core.Bool.{cond}
use mathlib.Core.List.{List, [], ◌∷◌, ◌++◌, append_assoc, append-nil}
use mathlib.Core.Path.{◌≡◌, refl, sym, ap, ap₂, ◌∙◌}
use native.Mathlib.Decide.{dec_lt}
use native.Mathlib.Nat.{mul-le-mul_right, mod-lt, div-add-mod', le-div_iff_mul-le, add-zero, add-suc, suc-mul, zero-mul}
use native.Mathlib.Omega.{arith}
use borrow.Author.Tests.{lt-ltb, le-ltb}
use lib.Arith.{digits_div, digits_mod}
use lib.Dec.{ltb}
use lib.ListN.{length, get_or, set, replicate, length-replicate}
use lib.Seq.{get_or-set_other}
use Rattle.std.specs.List.{flat_map}
use Rattle.std.proofs.lemmas.Grind.{flat_map-append}
use Rattle.numeric.specs.Table.{tab, run, grid, grid_at}
use Rattle.numeric.proofs.CheckLaws.{row_beyond}
use Rattle.numeric.proofs.Filling.{fill_more, FilledThen, then_none, then_run, then_done, replicate_at}
use Rattle.numeric.proofs.TableLaws.{tab-length, get_or-tab, tab_eq, tab_of_list}

module _ {A : Type 0} (w n : ℕ) (z : A) (f : ℕ → ℕ → A) where
  pub grid-place : (c s : ℕ) → c < n → s < w → grid_at w n z f (c * w + s) ≡ f c s
  grid-place c s h k = rw (digits_div c k, digits_mod c k, lt-ltb c n h)

  pub grid_beyond : (k : ℕ) → 0 < w → n * w ≤ k → grid_at w n z f k ≡ z
  grid_beyond k some h = rw (row_beyond w n k some h)

  -- What holds of the elements of the first rows and of z holds at every place.
  pub grid-each : (P : A → Type 0) → 0 < w → P z → ((c s : ℕ) → c < n → s < w → P (f c s)) → (k : ℕ)
      → P (grid_at w n z f k)
  grid-each P some beyond inside k = at (dec_lt (k / w) n)
    where
      at : Dec (k / w < n) → P (grid_at w n z f k)
      at (yes l) = rw (lt-ltb (k / w) n l) (inside (k / w) (k % w) l (mod-lt k some))
      at (no g) = rw (le-ltb (k / w) n (omega arith)) beyond

module _ {A : Type 0} (m w n : ℕ) (z : A) where
  pub grid-length : (f : ℕ → ℕ → A) → length (grid m w n z f) ≡ m * w
  unfolding grid
  grid-length f = tab-length (m * w) (grid_at w n z f)

  pub grid_at_lem : (f : ℕ → ℕ → A) (c s : ℕ) (d : A) → c < n → c < m → s < w → get_or (grid m w n z f) (c * w + s) d ≡ f c s
  unfolding grid
  grid_at_lem f c s d h l k =
      let there : (c + 1) * w ≤ m * w = mul-le-mul_right w (omega arith) in
      get_or-tab (m * w) (grid_at w n z f) (c * w + s) d (omega arith) ∙ grid-place w n z f c s h k

  -- Grids whose first rows are the same are the same.
  pub grid_eq : (f g : ℕ → ℕ → A) → 0 < w → ((c s : ℕ) → c < n → s < w → f c s ≡ g c s)
      → grid m w n z f ≡ grid m w n z g
  unfolding grid
  grid_eq f g some e = tab_eq (m * w) (grid_at w n z f) (grid_at w n z g) (λ k h. at k (dec_lt (k / w) n))
    where
      at : (k : ℕ) → Dec (k / w < n) → grid_at w n z f k ≡ grid_at w n z g k
      at k (yes l) = rw (lt-ltb (k / w) n l) (e (k / w) (k % w) l (mod-lt k some))
      at k (no h) = rw (le-ltb (k / w) n (omega arith))

  -- A list of that length with z beyond its first rows.
  pub grid_of_list : (l : List A) → 0 < w → length l ≡ m * w → ((k : ℕ) → n * w ≤ k → k < m * w → get_or l k z ≡ z)
      → l ≡ grid m w n z (λ c s. get_or l (c * w + s) z)
  unfolding grid
  grid_of_list l some long beyond =
      tab_of_list (m * w) z l long ∙ tab_eq (m * w) (λ k. get_or l k z) (grid_at w n z (λ c s. get_or l (c * w + s) z)) (λ k h. at k h (dec_lt (k / w) n))
    where
      at : (k : ℕ) → k < m * w → Dec (k / w < n) → get_or l k z ≡ grid_at w n z (λ c s. get_or l (c * w + s) z) k
      at k h (yes y) = rw (lt-ltb (k / w) n y) (ap (λ (j : ℕ). get_or l j z) (sym (div-add-mod' k w)))
      at k h (no g) =
          let past : n ≤ k / w = omega arith in
          rw (le-ltb (k / w) n past) (beyond k ((le-div_iff_mul-le some).0 past) h)

  -- The first c rows of the list are those of a grid of n rows, and z follows.
  pub record RowsFilled (f : ℕ → ℕ → A) (c : ℕ) (l : List A) : Type 0 where
    pub filled : FilledThen (m * w) (c * w) (grid_at w n z f) z l

  pub rows_none : (f : ℕ → ℕ → A) → RowsFilled f 0 (replicate (m * w) z)
  rows_none f = record { filled = rw zero-mul (then_none (m * w) (grid_at w n z f) z) }

  -- One row more.
  pub rows_next : (f : ℕ → ℕ → A) (c : ℕ) (l next : List A) (g : ℕ → A) → RowsFilled f c l → c < n → n ≤ m
      → ((s : ℕ) → s < w → g s ≡ f c s) → next ≡ run l (c * w) w g → RowsFilled f (c + 1) next
  rows_next f c l next g i h k e q =
      let there : (c + 1) * w ≤ m * w = mul-le-mul_right w (omega arith) in
      let more : c * w + w ≡ (c + 1) * w = omega arith in
      let filled =
      then_run (m * w) (c * w) w (grid_at w n z f) g z l next i.filled (omega arith)
      (λ s j. e s j ∙ sym (grid-place w n z f c s h j)) q in
      record { filled = rw more at filled }

  pub rows_done : (f : ℕ → ℕ → A) (c : ℕ) (l : List A) → 0 < w → c ≡ n → RowsFilled f c l → l ≡ grid m w n z f
  unfolding grid
  rows_done f c l some e i =
      then_done (m * w) (c * w) (grid_at w n z f) z l i.filled (λ k h j. grid_beyond w n z f k some (rw e at h))

module _ {A : Type 0} where
  -- A table of n + m elements is two.
  tab_add : (n m : ℕ) (f : ℕ → A) → tab (n + m) f ≡ tab n f ++ tab m (λ k. f (n + k))
  unfolding tab
  tab_add n zero f = rw add-zero (sym (append-nil (tab n f)))
  tab_add n (suc m) f =
      rw add-suc
      (ap (λ (l : List A). l ++ (f (n + m) ∷ [])) (tab_add n m f)
      ∙ append_assoc (tab n f) (tab m (λ k. f (n + k))) (f (n + m) ∷ []))

  -- Rows of w elements, joined.
  rows_joined : (w m : ℕ) (row : ℕ → ℕ → A)
      → flat_map (λ (x : List A). x) (tab m (λ c. tab w (row c))) ≡ tab (m * w) (λ k. row (k / w) (k % w))
  unfolding tab
  rows_joined w zero row = rw zero-mul refl
  rows_joined w (suc m) row =
      let last : tab w (row m) ≡ tab w (λ s. row ((m * w + s) / w) ((m * w + s) % w)) =
      tab_eq w _ _ (λ s l. rw (digits_div m l, digits_mod m l) refl) in
      flat_map-append (λ (x : List A). x) (tab m (λ c. tab w (row c))) (tab w (row m) ∷ [])
      ∙ ap₂ ◌++◌ (rows_joined w m row) (append-nil (tab w (row m)) ∙ last)
      ∙ rw suc-mul (sym (tab_add (m * w) w (λ k. row (k / w) (k % w))))

module _ {A : Type 0} (m w n : ℕ) (z : A) (f : ℕ → ℕ → A) where
  abbrev row_of : ℕ → List A
  row_of c = tab w (λ s. cond (ltb c n) (f c s) z)

  -- The first c rows are made, and zeros follow.
  pub record RowsMade (c : ℕ) (rows : List (List A)) : Type 0 where
    pub made : FilledThen m c row_of (replicate w z) rows

  pub made_none : RowsMade 0 (replicate m (replicate w z))
  made_none = record { made = then_none m row_of (replicate w z) }

  -- A row more.
  pub made_next : (c : ℕ) (rows : List (List A)) (row : List A) → RowsMade c rows → c < n → n ≤ m
      → row ≡ tab w (f c) → RowsMade (c + 1) (set rows c row)
  made_next c rows row i h most e =
      let known : row ≡ tab w (λ s. cond (ltb c n) (f c s) z) = rw (lt-ltb c n h) e in
      record {
        made =
            record {
              filled = fill_more m c _ rows row i.made.filled (omega arith) known;
              rest =
                  λ j k.
                  get_or-set_other rows c j row (replicate w z) (λ q. absurd (omega arith)) ∙ i.made.rest j (omega arith);
            };
      }

  -- All rows are made: joined, they are the grid.
  pub made_done : (c : ℕ) (rows : List (List A)) → c ≡ n → RowsMade c rows
      → flat_map (λ (x : List A). x) rows ≡ grid m w n z f
  unfolding grid
  made_done c rows e i =
      let beyond : (j : ℕ) → c ≤ j → j < m → row_of j ≡ replicate w z =
      λ j h k.
      rw (le-ltb j n (omega arith))
      (tab_eq w _ _ (λ s l. sym (replicate_at w s z)) ∙ sym (tab_of_list w z (replicate w z) (length-replicate w z))) in
      ap (flat_map (λ (x : List A). x)) (then_done m c row_of (replicate w z) rows i.made beyond)
      ∙ rows_joined w m (λ d s. cond (ltb d n) (f d s) z)
