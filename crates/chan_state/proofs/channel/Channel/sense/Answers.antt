use Rattle.std.proofs.Common.{◌≡◌, subst, w16, to_z, of_z, rules}
use Rattle.std.specs.Prelude.{ℤ}
use Rattle.chan_state.specs.Steps.{SensesFor}
use Rattle.chan_state.proofs.channel.Channel.sense.Goals as goal

pub returns-clause-stands : goal.returns-clause-stands
returns-clause-stands g c =
    let level : to_z w16 (of_z w16 c.args.level) ≡ c.args.level = search rules in
    subst (λ (l : ℤ). SensesFor c.args.self.now.kept c.sense.new.self c.args.at c.args.place l c.sense.new.out c.sense.result) level c.sense.ensures.stands
