-- Bounds of an amount by the substance's place: what `lowest_at` and `highest_at` are by the kind of substance that
-- stands there, and what is known of an amount that fits. Last, the machine's test where no substance stands. No
-- assumptions.
use Prim.Native.Nat.{ℕ, ◌<◌, ◌≤◌}
use mathlib.Core.Bool.{Bool, true, false, ◌&&◌, ◌||◌, cond}
use mathlib.Core.List.{map}
use mathlib.Core.Path.{◌≡◌, refl, sym, ap₂, ◌∙◌}
use native.Mathlib.Omega.{arith}
use borrow.Author.Tests.{leb-true}
use lib.Dec.{leb, eqb}
use lib.IntN.{ℤ, pos, neg_ℤ, nat_abs}
use lib.ListN.{get_or-eq_default}
use lib.Signed.{le_z, ◌≤ℤ◌}
use mir.Syntax.{w64}
use mir.Val.{SFits, of_z}
use Rattle.numeric.specs.Check.{every}
use Rattle.numeric.specs.Table.{tab}
use Rattle.numeric.proofs.Bounds.{abs_between}
use Rattle.numeric.proofs.CheckLaws.{and_left, and_right, every_at}
use Rattle.numeric.proofs.Comparison.{le_z_true, le_le_z, zero_bits, zero_alone}
use Rattle.numeric.proofs.TableLaws.{get_or-tab}
use Rattle.stoichiometry.specs.Substances.{substances, order, most_organic, most_grains, most_net}
use Rattle.river.specs.Inner.Runs.{organic_at, net_at}
use Rattle.river.specs.Rivers.{lowest, highest, lowest_at, highest_at, amount_fits}

-- The bounds by kind.
abbrev lowest_of : Bool → Bool → ℤ
lowest_of organic net = cond organic (pos 0) (cond net (neg_ℤ (pos most_net)) (pos 0))

abbrev highest_of : Bool → Bool → ℤ
highest_of organic net = cond organic (pos most_organic) (cond net (pos most_net) (pos most_grains))

pub lowest_kind : (s : ℕ) → s < substances → lowest_at s ≡ lowest_of (organic_at s) (net_at s)
unfolding lowest_at tab
lowest_kind s h = get_or-tab substances (λ k. lowest_of (organic_at k) (net_at k)) s (pos 0) h

pub highest_kind : (s : ℕ) → s < substances → highest_at s ≡ highest_of (organic_at s) (net_at s)
unfolding highest_at tab
highest_kind s h = get_or-tab substances (λ k. highest_of (organic_at k) (net_at k)) s (pos 0) h

-- The least by whether it is H+ or H2O alone, since neither is an organic.
pub lowest_net : (s : ℕ) → s < substances → lowest_at s ≡ cond (net_at s) (neg_ℤ (pos most_net)) (pos 0)
unfolding lowest_at tab
lowest_net s h = get_or-tab substances (λ k. cond (net_at k) (neg_ℤ (pos most_net)) (pos 0)) s (pos 0) h

-- From place 18 on both bounds are 0.
pub lowest_none : (s : ℕ) → substances ≤ s → lowest_at s ≡ pos 0
unfolding lowest_at
lowest_none s h = get_or-eq_default (map lowest order) (pos 0) {n = s} h

pub highest_none : (s : ℕ) → substances ≤ s → highest_at s ≡ pos 0
unfolding highest_at
highest_none s h = get_or-eq_default (map highest order) (pos 0) {n = s} h

pub zero_fits : (s : ℕ) → s < substances → amount_fits s (pos 0) ≡ true
unfolding amount_fits lowest_at highest_at every
zero_fits s h = every_at substances s (λ k. amount_fits k (pos 0)) refl h

module _ (s : ℕ) (x : ℤ) where
  pub fits-lowest : amount_fits s x ≡ true → lowest_at s ≤ℤ x
  unfolding amount_fits
  fits-lowest e = le_z_true (lowest_at s) x (and_left (le_z (lowest_at s) x) (le_z x (highest_at s)) e)

  pub fits-highest : amount_fits s x ≡ true → x ≤ℤ highest_at s
  unfolding amount_fits
  fits-highest e = le_z_true x (highest_at s) (and_right (le_z (lowest_at s) x) (le_z x (highest_at s)) e)

  pub fits_from : lowest_at s ≤ℤ x → x ≤ℤ highest_at s → amount_fits s x ≡ true
  unfolding amount_fits
  fits_from l h = ap₂ ◌&&◌ (le_le_z (lowest_at s) x l) (le_le_z x (highest_at s) h)

-- An amount of a substance that fits.
module _ (s : ℕ) (x : ℤ) (h : s < substances) where
  -- A bound of the highest that every substance has, or every one but H+ and H2O.
  highest_le : (most : ℕ) (but : ℕ → Bool) → every substances (λ k. but k || leb (nat_abs (highest_at k)) most) ≡ true
      → but s ≡ false → nat_abs (highest_at s) ≤ most
  highest_le most but all e =
      let test = every_at substances s (λ k. but k || leb (nat_abs (highest_at k)) most) all h in
      leb-true (nat_abs (highest_at s)) most (rw e at test)

  -- It is no larger than the highest, since no substance goes further below 0 than above.
  pub fits_size : amount_fits s x ≡ true → nat_abs x ≤ nat_abs (highest_at s)
  unfolding lowest_at highest_at every
  fits_size e =
      let low = every_at substances s (λ k. leb (nat_abs (lowest_at k)) (nat_abs (highest_at k))) refl h in
      abs_between (lowest_at s) x (highest_at s) (leb-true _ _ low) (omega arith) (fits-lowest s x e) (fits-highest s x e)

  -- From −10^18 to 10^18.
  pub fits_bound : amount_fits s x ≡ true → nat_abs x ≤ most_net
  unfolding highest_at every
  fits_bound e = omega (arith, fits_size e, highest_le most_net (λ k. false) refl refl)

  -- Of a substance but H+ and H2O the least is 0.
  lowest_zero : net_at s ≡ false → lowest_at s ≡ pos 0
  lowest_zero n = lowest_kind s h ∙ by_kind (organic_at s) (net_at s) n
    where
      by_kind : (organic net : Bool) → net ≡ false → lowest_of organic net ≡ pos 0
      by_kind true net e = refl
      by_kind false net e = rw e

  -- Of a substance but H+ and H2O: from 0 to 10^16.
  pub fits-level : net_at s ≡ false → amount_fits s x ≡ true → (pos 0 ≤ℤ x) × (nat_abs x ≤ most_grains)
  unfolding highest_at every
  fits-level n e =
      (rw (lowest_zero n) at (fits-lowest s x e), omega (arith, fits_size e, highest_le most_grains net_at refl n))

  -- Of an organic: at most 10^9.
  pub fits-organic : organic_at s ≡ true → amount_fits s x ≡ true → nat_abs x ≤ most_organic
  fits-organic o e = rw (highest_kind s h, o) at (fits_size e)

-- From place 18 on both bounds are 0, so that the machine's test for 0 is that of the bounds.
pub none_tested : (s : ℕ) (z : ℤ) → SFits w64 z → substances ≤ s → eqb (of_z w64 z) 0 ≡ amount_fits s z
unfolding amount_fits
none_tested s z f h =
    zero_bits z f ∙ zero_alone z
    ∙ sym (ap₂ (λ (a b : ℤ). le_z a z && le_z z b) (lowest_none s h) (highest_none s h))
