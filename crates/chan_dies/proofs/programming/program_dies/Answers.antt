use Rattle.std.proofs.Common.{◌∙◌, ℕ, map, sym}
use Rattle.chan_dies.specs.OneDie.{FaultsDie, RefusesBlock}
use Rattle.chan_dies.proofs.BothPages.{both_programmed, stopped_at_parity}
use Rattle.chan_dies.proofs.programming.program_dies.Goals as goal

pub returns-in-Passed-program_at-clause-end : goal.returns-in-Passed-program_at-clause-end
returns-in-Passed-program_at-clause-end g c =
    both_programmed c.args.shape.now c.args.slot c.args.word.now c.args.sum.now c.place_of-place.result c.parity_place-parity.result
    (map g.D.Die.state c.args.dies.now.items) (map g.D.Die.state c.program_at.new.dies.items) (map g.D.Die.state c.program_at-2.new.dies.items)
    (record { closes = sym c.is_last.ensures ∙ c.if-not-is_last.false; place_is = c.place_of-place.ensures; parity_is = c.parity_place-parity.ensures })
    c.in-Passed.ensures.end c.in-Passed-program_at.ensures.end

pub returns-in-Failed-program_at-clause-end : goal.returns-in-Failed-program_at-clause-end
returns-in-Failed-program_at-clause-end g c =
    stopped_at_parity c.args.shape.now c.args.slot c.args.word.now c.place_of-place.result c.parity_place-parity.result RefusesBlock
    (map g.D.Die.state c.args.dies.now.items) (map g.D.Die.state c.program_at.new.dies.items) (map g.D.Die.state c.program_at-2.new.dies.items)
    (record { closes = sym c.is_last.ensures ∙ c.if-not-is_last.false; place_is = c.place_of-place.ensures; parity_is = c.parity_place-parity.ensures })
    c.in-Passed.ensures.end c.in-Failed-program_at.ensures.end

pub returns-in-Fault-program_at-clause-end : goal.returns-in-Fault-program_at-clause-end
returns-in-Fault-program_at-clause-end g c =
    stopped_at_parity c.args.shape.now c.args.slot c.args.word.now c.place_of-place.result c.parity_place-parity.result
    (λ (sb : ℕ). FaultsDie)
    (map g.D.Die.state c.args.dies.now.items) (map g.D.Die.state c.program_at.new.dies.items) (map g.D.Die.state c.program_at-2.new.dies.items)
    (record { closes = sym c.is_last.ensures ∙ c.if-not-is_last.false; place_is = c.place_of-place.ensures; parity_is = c.parity_place-parity.ensures })
    c.in-Passed.ensures.end c.in-Fault-program_at.ensures.end
