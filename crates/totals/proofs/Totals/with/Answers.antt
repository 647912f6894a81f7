-- `Totals::with` meets its contract: each sum fits, and so does each product. No assumptions.
use Rattle.std.proofs.Common.{◌≡◌, refl, ◌∙◌, ◌^◌, ◌+◌, ◌<◌, rules, arith, ℤ, nat_abs, ◌+ℤ◌, ◌*ℤ◌}
use Rattle.std.proofs.lemmas.Int.{fits_signed_from_abs}
use lib.Signed.{mag}
use mir.Facts.{to_z-of_z}
use mir.Syntax.{w64}
use mir.Val.{SFits}
use Rattle.numeric.proofs.Bounds.{abs_add}
use Rattle.numeric.proofs.Machine.{kept, kept_is}
use Rattle.stoichiometry.specs.Substances.{carbon, hydrogen, oxygen, nitrogen, phosphorus, charge}
use Rattle.totals.proofs.Totals.with.Goals as goal

-- A sum and a product, as the machine has them.
module _ (amount one : ℤ) (a : SFits w64 amount) (o : mag one < 2 ^ 63) (sum : ℤ)
    (small : nat_abs sum + nat_abs (amount *ℤ one) < 2 ^ 63) where
  product-is : kept amount *ℤ kept one ≡ amount *ℤ one
  product-is = rw (to_z-of_z a, kept_is one o) refl

  product_fits : SFits w64 (kept amount *ℤ kept one)
  product_fits = rw product-is (fits_signed_from_abs w64 (amount *ℤ one) (omega (arith, small)))

  product_kept : kept (kept amount *ℤ kept one) ≡ amount *ℤ one
  product_kept = to_z-of_z product_fits ∙ product-is

  module _ (x : mag sum < 2 ^ 63) where
    sum_fits : SFits w64 (kept sum +ℤ kept (kept amount *ℤ kept one))
    sum_fits =
        rw (kept_is sum x, product_kept)
        (fits_signed_from_abs w64 (sum +ℤ amount *ℤ one) (omega (arith, small, abs_add sum (amount *ℤ one))))

    sum-is : kept (kept sum +ℤ kept (kept amount *ℤ kept one)) ≡ sum +ℤ amount *ℤ one
    sum-is = to_z-of_z sum_fits ∙ rw (kept_is sum x, product_kept) refl

pub overflow_mul-result : goal.overflow_mul-result
overflow_mul-result c =
    let a = c.args in
    product_fits a.amount a.one.carbon c.ranges.amount (search rules) a.self.carbon (c.requires.fits carbon)

pub overflow_add-result : goal.overflow_add-result
overflow_add-result c =
    let a = c.args in
    sum_fits a.amount a.one.carbon c.ranges.amount (search rules) a.self.carbon (c.requires.fits carbon) (search rules)

pub overflow_mul-result-2 : goal.overflow_mul-result-2
overflow_mul-result-2 c =
    let a = c.args in
    product_fits a.amount a.one.hydrogen c.ranges.amount (search rules) a.self.hydrogen (c.requires.fits hydrogen)

pub overflow_add-result-2 : goal.overflow_add-result-2
overflow_add-result-2 c =
    let a = c.args in
    sum_fits a.amount a.one.hydrogen c.ranges.amount (search rules) a.self.hydrogen (c.requires.fits hydrogen) (search rules)

pub overflow_mul-result-3 : goal.overflow_mul-result-3
overflow_mul-result-3 c =
    let a = c.args in
    product_fits a.amount a.one.oxygen c.ranges.amount (search rules) a.self.oxygen (c.requires.fits oxygen)

pub overflow_add-result-3 : goal.overflow_add-result-3
overflow_add-result-3 c =
    let a = c.args in
    sum_fits a.amount a.one.oxygen c.ranges.amount (search rules) a.self.oxygen (c.requires.fits oxygen) (search rules)

pub overflow_mul-result-4 : goal.overflow_mul-result-4
overflow_mul-result-4 c =
    let a = c.args in
    product_fits a.amount a.one.nitrogen c.ranges.amount (search rules) a.self.nitrogen (c.requires.fits nitrogen)

pub overflow_add-result-4 : goal.overflow_add-result-4
overflow_add-result-4 c =
    let a = c.args in
    sum_fits a.amount a.one.nitrogen c.ranges.amount (search rules) a.self.nitrogen (c.requires.fits nitrogen) (search rules)

pub overflow_mul-result-5 : goal.overflow_mul-result-5
overflow_mul-result-5 c =
    let a = c.args in
    product_fits a.amount a.one.phosphorus c.ranges.amount (search rules) a.self.phosphorus (c.requires.fits phosphorus)

pub overflow_add-result-5 : goal.overflow_add-result-5
overflow_add-result-5 c =
    let a = c.args in
    sum_fits a.amount a.one.phosphorus c.ranges.amount (search rules) a.self.phosphorus (c.requires.fits phosphorus) (search rules)

pub overflow_mul-result-6 : goal.overflow_mul-result-6
overflow_mul-result-6 c =
    let a = c.args in
    product_fits a.amount a.one.charge c.ranges.amount (search rules) a.self.charge (c.requires.fits charge)

pub overflow_add-result-6 : goal.overflow_add-result-6
overflow_add-result-6 c =
    let a = c.args in
    sum_fits a.amount a.one.charge c.ranges.amount (search rules) a.self.charge (c.requires.fits charge) (search rules)

pub returns : goal.returns
returns c =
    let a = c.args in
    let fit = c.ranges.amount in
    let small = c.requires.fits in
    λ i.
    record {
      carbon = sum-is a.amount a.one.carbon fit (search rules) a.self.carbon (small carbon) (search rules) i;
      hydrogen = sum-is a.amount a.one.hydrogen fit (search rules) a.self.hydrogen (small hydrogen) (search rules) i;
      oxygen = sum-is a.amount a.one.oxygen fit (search rules) a.self.oxygen (small oxygen) (search rules) i;
      nitrogen = sum-is a.amount a.one.nitrogen fit (search rules) a.self.nitrogen (small nitrogen) (search rules) i;
      phosphorus = sum-is a.amount a.one.phosphorus fit (search rules) a.self.phosphorus (small phosphorus) (search rules) i;
      charge = sum-is a.amount a.one.charge fit (search rules) a.self.charge (small charge) (search rules) i;
    }
