-- Loops that fill a list: `Filled n k f l` is the invariant of a loop that stores f k at each k in turn into a list
-- of n elements, with a law for its start, a turn and its end; then the same for `run`, its elements, and `fill_run`,
-- which takes a filling past a run. No assumptions.
use Prim.Native.Nat.{ℕ, zero, suc, ◌<◌, ◌≤◌, ◌+◌}
use mathlib.Core.List.{List}
use mathlib.Core.Logic.{◌≢◌}
use mathlib.Core.Path.{◌≡◌, refl, sym, ap, ◌∙◌}
use lib.ListN.{length, get_or, take, set, length-set, replicate, length-replicate}
use lib.Seq.{take-suc-set, take_all, get_or-take, get_or-set_same, get_or-set_other, ext_get_or}
use native.Mathlib.Numerals.{add-one}
use native.Mathlib.Omega.{arith}
use native.Mathlib.Decide.{dec_lt}
use native.Mathlib.Nat.{add-zero, lt-suc_self}
use Rattle.numeric.specs.Table.{tab, run}
use Rattle.numeric.proofs.TableLaws.{tab-length, get_or-tab}

module _ {A : Type 0} where
  tab_more : (f : ℕ → A) (l : List A) (k : ℕ) (v : A) → k < length l → take k l ≡ tab k f → v ≡ f k
      → take (k + 1) (set l k v) ≡ tab (k + 1) f
  unfolding tab
  tab_more f l k v h e p = rw (add-one, take-suc-set l k v h, e, p)

  -- The list has n elements, and its first k are f 0 to f (k − 1).
  pub record Filled (n k : ℕ) (f : ℕ → A) (l : List A) : Type 0 where
    pub within : k ≤ n
    pub long : length l ≡ n
    pub done : take k l ≡ tab k f

  pub fill_none : (n : ℕ) (f : ℕ → A) (l : List A) → length l ≡ n → Filled n 0 f l
  unfolding tab
  fill_none n f l e = record { within = omega arith; long = e; done = refl }

  pub fill_more : (n k : ℕ) (f : ℕ → A) (l : List A) (v : A) → Filled n k f l → k < n → v ≡ f k
      → Filled n (k + 1) f (set l k v)
  fill_more n k f l v i h e =
      record { within = omega arith; long = length-set l k v ∙ i.long; done = tab_more f l k v (rw i.long h) i.done e }

  pub fill_done : (n k : ℕ) (f : ℕ → A) (l : List A) → Filled n k f l → n ≤ k → l ≡ tab n f
  fill_done n k f l i h =
      let e : k ≡ n = omega arith in
      let full : take n l ≡ tab n f = rw e at i.done in
      sym (take_all n l (omega (arith, i.long))) ∙ full

  pub run_none : (l : List A) (b : ℕ) (f : ℕ → A) → l ≡ run l b 0 f
  unfolding run
  run_none l b f = refl

  pub run_more : (l : List A) (b n : ℕ) (f : ℕ → A) (m : List A) (v : A) → m ≡ run l b n f → v ≡ f n
      → set m (b + n) v ≡ run l b (n + 1) f
  unfolding run
  run_more l b n f m v e p = rw (add-one, e, p)

  pub run_length : (l : List A) (b n : ℕ) (f : ℕ → A) → length (run l b n f) ≡ length l
  unfolding run
  run_length l b zero f = refl
  run_length l b (suc n) f = length-set (run l b n f) (b + n) (f n) ∙ run_length l b n f

  at_stored : (l : List A) (b n : ℕ) (f : ℕ → A) (i : ℕ) (d : A) → i < suc n → b + suc n ≤ length l
      → (i < n → get_or (run l b n f) (b + i) d ≡ f i)
      → Dec (i < n) → get_or (set (run l b n f) (b + n) (f n)) (b + i) d ≡ f i
  at_stored l b n f i d h k r (yes m) =
      get_or-set_other (run l b n f) (b + n) (b + i) (f n) d (λ e. absurd (omega arith)) ∙ r m
  at_stored l b n f i d h k r (no g) =
      let e : i ≡ n = omega arith in
      rw e (get_or-set_same (run l b n f) (b + n) (f n) d (rw run_length (omega arith)))

  -- What a run stored, and what it left.
  pub run_at : (l : List A) (b n : ℕ) (f : ℕ → A) (i : ℕ) (d : A) → i < n → b + n ≤ length l
      → get_or (run l b n f) (b + i) d ≡ f i
  unfolding run
  run_at l b zero f i d h k = absurd (omega arith)
  run_at l b (suc n) f i d h k =
      at_stored l b n f i d h k (λ m. run_at l b n f i d m (omega arith)) (dec_lt i n)

  pub run-other : (l : List A) (b n : ℕ) (f : ℕ → A) (i : ℕ) (d : A) → ((s : ℕ) → s < n → i ≢ b + s)
      → get_or (run l b n f) i d ≡ get_or l i d
  unfolding run
  run-other l b zero f i d h = refl
  run-other l b (suc n) f i d h =
      get_or-set_other (run l b n f) (b + n) i (f n) d (h n (lt-suc_self n)) ∙ run-other l b n f i d (λ s m. h s (omega arith))

  -- A run of n elements takes a filling from k to k + n.
  pub fill_run : (m k n : ℕ) (f g : ℕ → A) (l : List A) → Filled m k f l → k + n ≤ m
      → ((s : ℕ) → s < n → g s ≡ f (k + s)) → Filled m (k + n) f (run l k n g)
  unfolding run
  fill_run m k zero f g l i h e = rw add-zero i
  fill_run m k (suc n) f g l i h e =
      let one_more = fill_more m (k + n) f (run l k n g) (g n) (fill_run m k n f g l i (omega arith) (λ s l. e s (omega arith))) (omega arith) (e n (lt-suc_self n)) in
      let next : k + n + 1 ≡ k + suc n = omega arith in
      rw next at one_more

  -- Past the run the list is as it was.
  pub run_beyond : (l : List A) (b n : ℕ) (f : ℕ → A) (k : ℕ) (d : A) → b + n ≤ k → get_or (run l b n f) k d ≡ get_or l k d
  run_beyond l b n f k d h = run-other l b n f k d (λ s m e. absurd (omega arith))

  filled_at : (n k : ℕ) (f : ℕ → A) (l : List A) (d : A) → Filled n k f l → (j : ℕ) → j < k → get_or l j d ≡ f j
  filled_at n k f l d i j h =
      sym (get_or-take k l j d h) ∙ ap (λ (m : List A). get_or m j d) i.done ∙ get_or-tab k f j d h

  -- A filling whose rest is as wanted already.
  pub fill_rest : (n k : ℕ) (f : ℕ → A) (l : List A) (d : A) → Filled n k f l
      → ((j : ℕ) → k ≤ j → j < n → get_or l j d ≡ f j) → l ≡ tab n f
  fill_rest n k f l d i rest =
      ext_get_or d l (tab n f) (i.long ∙ sym (tab-length n f))
      (λ j h. pick j (rw i.long at h) (dec_lt j k) ∙ sym (get_or-tab n f j d (rw i.long at h)))
    where
      pick : (j : ℕ) → j < n → Dec (j < k) → get_or l j d ≡ f j
      pick j h (yes l) = filled_at n k f _ d i j l
      pick j h (no g) = rest j (omega arith) h

  -- A list of n elements, filled up to b and z from there on: the invariant of a loop that stores runs one after the
  -- other and may end before the list does.
  pub record FilledThen (n b : ℕ) (f : ℕ → A) (z : A) (l : List A) : Type 0 where
    pub filled : Filled n b f l
    pub rest : (j : ℕ) → b ≤ j → get_or l j z ≡ z

  -- A list of one element has it everywhere, also past its end.
  pub replicate_at : (n j : ℕ) (z : A) → get_or (replicate n z) j z ≡ z
  replicate_at zero j z = refl
  replicate_at (suc n) zero z = refl
  replicate_at (suc n) (suc j) z = replicate_at n j z

  pub then_none : (n : ℕ) (f : ℕ → A) (z : A) → FilledThen n 0 f z (replicate n z)
  then_none n f z =
      record { filled = fill_none n f (replicate n z) (length-replicate n z); rest = λ j h. replicate_at n j z }

  pub then_run : (n b m : ℕ) (f g : ℕ → A) (z : A) (l next : List A) → FilledThen n b f z l → b + m ≤ n
      → ((s : ℕ) → s < m → g s ≡ f (b + s)) → next ≡ run l b m g → FilledThen n (b + m) f z next
  then_run n b m f g z l next i h e q =
      rw q
      (record {
        filled = fill_run n b m f g l i.filled h e;
        rest = λ j k. run_beyond l b m g j z k ∙ i.rest j (omega arith);
      })

  pub then_done : (n b : ℕ) (f : ℕ → A) (z : A) (l : List A) → FilledThen n b f z l
      → ((j : ℕ) → b ≤ j → j < n → f j ≡ z) → l ≡ tab n f
  then_done n b f z l i e = fill_rest n b f l z i.filled (λ j h k. i.rest j h ∙ sym (e j h k))
