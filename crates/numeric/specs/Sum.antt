-- Sums of integers over the numbers below n. Laws: proofs/SumLaws.antt. No assumptions.
use Rattle.std.specs.Prelude.{ℕ, zero, suc, ℤ, pos, ◌+ℤ◌}

-- f 0 + f 1 + .. + f (n − 1).
unfoldable pub sum : ℕ → (ℕ → ℤ) → ℤ
sum zero f = pos 0
sum (suc n) f = sum n f +ℤ f n
