-- `write_value` meets its contract: the size of the value, with its mark. No assumptions.
use Rattle.std.proofs.Common.{ℕ, ap, ap₂, ◌∙◌, length, nat_abs, to_z-of_z}
use Rattle.text.specs.Decimals.{plain, mark_of, decimal}
use Rattle.text.proofs.write_value.Goals as goal

pub returns : goal.returns
unfolding decimal
returns c =
    let signed = to_z-of_z c.ranges.value in
    record {
      columns =
          c.write_plain.ensures
          ∙ ap₂ (λ (m n : ℕ). plain (length c.args.columns.now) m n)
          (c.mark_of.ensures ∙ ap mark_of signed) (c.magnitude.ensures ∙ ap nat_abs signed);
    }
