-- `fifteenth` meets its contract: each step of the sum fits, by what `Released` and `Kind` keep. No assumptions.
use mathlib.Core.List.{[]}
use Rattle.numeric.proofs.Expression.{◌⊕◌, ◌⊖◌, ◌⊗◌}
use Rattle.numeric.proofs.Fitting.{Bounded, all}
use Rattle.numeric.proofs.Machine.{asked, ran}
use Rattle.rows.specs.declared.released.Released.{Released}
use Rattle.rows.specs.declared.kind.Kind.{Kind}
use Rattle.rows.specs.Inner.Code.{fifteenth_of}
use Rattle.rows.specs.Inner.Held.{elements_of, numbers_of}
use Rattle.rows.proofs.RowArithmetic.{◌·◌, atoms, limits, atoms_bounded}
use Rattle.rows.proofs.RowArithmetic.{from_elements, nitrogen_form, fifteenth}
use Rattle.rows.proofs.RowArithmetic.{carbon, hydrogen, oxygen, nitrogen, nh4no2}
use Rattle.rows.proofs.others.fifteenth.Goals as goal

known : (r : Released) (k : Kind) → Bounded (atoms (elements_of r) (numbers_of k) []) (limits [])
known r k = atoms_bounded r.small k.small all

pub overflow_add-result : goal.overflow_add-result
overflow_add-result c = asked (known c.args.r c.args.k) (651 · oxygen ⊖ 1736 · carbon ⊖ 5208 · hydrogen ⊕ 1116 · nitrogen) tt

pub overflow_sub-result-3 : goal.overflow_sub-result-3
overflow_sub-result-3 c = asked (known c.args.r c.args.k) from_elements tt

pub overflow_mul-result-8 : goal.overflow_mul-result-8
overflow_mul-result-8 c = asked (known c.args.r c.args.k) (nitrogen ⊗ nitrogen_form) tt

pub overflow_sub-result-4 : goal.overflow_sub-result-4
overflow_sub-result-4 c = asked (known c.args.r c.args.k) (from_elements ⊖ nitrogen ⊗ nitrogen_form) tt

pub overflow_sub-result-5 : goal.overflow_sub-result-5
overflow_sub-result-5 c = asked (known c.args.r c.args.k) (from_elements ⊖ nitrogen ⊗ nitrogen_form ⊖ 2232 · nh4no2) tt

pub overflow_sub-result-6 : goal.overflow_sub-result-6
overflow_sub-result-6 c = asked (known c.args.r c.args.k) fifteenth tt

pub returns : goal.returns
unfolding fifteenth_of
returns c = ran (known c.args.r c.args.k) fifteenth tt
