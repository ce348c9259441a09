use Rattle.std.proofs.Common.{sym, subst}
use Rattle.std.specs.Prelude.{Ok}
use Rattle.collector.specs.Rounds.{MakesRound}
use Rattle.collector.specs.declared.replies.RoundReply.{RoundReply}
use Rattle.collector.proofs.RoundSteps.{decides_none, noted_turns, round_decides}
use Rattle.collector.proofs.collecting.turn.Goals as goal

pub returns-in-Some-clause-made : goal.returns-in-Some-clause-made
returns-in-Some-clause-made g c =
    round_decides c.args.worker.now (g.S.Steps.view c.args.steps.now) (g.S.Steps.stands c.args.steps.now) c.args.tag
    (g.S.Steps.view c.round.new.steps).seen c.in_ok-ended.ended
    c.in-Some.reply (sym c.in-Some.ensures) c.in_ok-ended.ensures.made

pub returns-in-None-clause-made : goal.returns-in-None-clause-made
returns-in-None-clause-made g c =
    noted_turns c.args.worker.now (g.S.Steps.view c.args.steps.now) (g.S.Steps.view c.round.new.steps) (g.S.Steps.stands
    c.args.steps.now) (g.S.Steps.stands c.round.new.steps) c.args.tag
    c.round.ensures.caller (subst (λ (ended : RoundReply). MakesRound c.args.worker.now (g.S.Steps.view c.args.steps.now)
    (g.S.Steps.stands c.args.steps.now) c.args.tag (g.S.Steps.view c.round.new.steps).seen (Ok ended))
    (decides_none c.in_ok-ended.ended (sym c.in-None.ensures)) c.in_ok-ended.ensures.made)
    (g.S.Steps.view c.note_turn.new.steps).seen c.note_turn.result c.note_turn.ensures.made
