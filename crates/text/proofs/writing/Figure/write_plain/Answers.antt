-- `write_plain` meets its contract: where there are fewer columns than digits, they are the last of all. No assumptions.
use Rattle.std.proofs.Common.{ℕ, ◌≡◌, ◌+◌, ◌-◌, ap, ◌∙◌, arith, length, take, drop}
use Rattle.std.proofs.lemmas.List.{take_all}
use Rattle.text.specs.Decimals.{plain}
use Rattle.text.proofs.DecimalLaws.{plain-length}
use Rattle.text.proofs.DigitLaws.{last_plain}
use Rattle.text.proofs.writing.Figure.write_plain.Goals as goal

pub returns-then-width-lt-DIGITS_MOST : goal.returns-then-width-lt-DIGITS_MOST
returns-then-width-lt-DIGITS_MOST c =
    let w = length c.args.out.now in
    let m = c.args.self.mark in
    let n = c.args.self.n in
    let all : 20 ≡ 20 - w + w = omega arith in
    let long = plain-length w m n in
    let last : drop (20 - w) c.write_whole.new.out ≡ plain w m n =
    ap (drop (20 - w)) (c.write_whole.ensures ∙ ap (λ (i : ℕ). plain i m n) all) ∙ last_plain (20 - w) w m n in
    c.copy_from_slice.ensures.after
    ∙ ap (take (20 - (20 - w))) last
    ∙ take_all (20 - (20 - w)) (plain w m n) (omega arith)
