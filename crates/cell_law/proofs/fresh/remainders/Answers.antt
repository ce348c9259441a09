use Rattle.std.proofs.Common.{◌≡◌, ◌<◌, ◌∙◌, ◌^◌, arith}
use Rattle.cell_law.proofs.NoiseLanes.{eight_quotients_fit, eight_remainders}
use Rattle.cell_law.proofs.fresh.remainders.Goals as goal

pub overflow_cast-quotients : goal.overflow_cast-quotients
overflow_cast-quotients c = eight_quotients_fit c.args.numbers _ c.fits-numbers.0 c.fits-numbers.1 (let h : c.from.result < 2 ^ 16 = omega (arith, c.from.ensures) in h)

pub returns : goal.returns
returns c = eight_remainders c.args.numbers c.args.divisor _ c.fits-numbers.0 c.fits-numbers.1 c.requires.some c.requires.small (c.from.ensures ∙ c.requires.inverse)
