-- `Exchange::part` meets its contract: within the bounds of its figures the product fits 64 bits. No assumptions.
use Rattle.std.proofs.Common.{◌*◌, ◌≤◌, arith, pos}
use Rattle.std.proofs.lemmas.Int.{fits_signed_from_abs}
use mir.Facts.{to_z_pos}
use mir.Syntax.{w64}
use Rattle.transport.specs.declared.air.Exchange.{Exchange}
use Rattle.transport.specs.Air.{exchanged}
use Rattle.transport.proofs.AirLaws.{air-figures, exchange_bound}
use Rattle.transport.proofs.air.Exchange.part.Goals as goal

-- The product of the figures.
product_bound : (exchange : Exchange) → exchange.constant * 1000000 * exchange.seconds ≤ 72000000000000
product_bound exchange =
    let figures = air-figures _ _ _ exchange.in_bounds in
    exchange_bound exchange.constant exchange.seconds figures.constant figures.time

pub overflow_mul-result-2 : goal.overflow_mul-result-2
overflow_mul-result-2 c = record { fits = omega (arith, product_bound c.args.self.now) }

pub overflow_cast-result-3 : goal.overflow_cast-result-3
overflow_cast-result-3 c = fits_signed_from_abs w64 (pos _) (omega (arith, product_bound c.args.self.now))

pub returns : goal.returns
unfolding exchanged
returns c = to_z_pos w64 (omega (arith, product_bound c.args.self.now))
