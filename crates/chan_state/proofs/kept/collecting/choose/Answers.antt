use Rattle.std.proofs.Common.{◌∙◌, sym}
use Rattle.chan_state.proofs.Choices.{not_told}
use Rattle.chan_state.proofs.kept.collecting.choose.Goals as goal

pub returns-clause-answer : goal.returns-clause-answer
returns-clause-answer g c =
    not_told _ c.args.infos.now c.ask-answer.result c.in-Some.fallback c.ask-answer.ensures.answer (sym c.may_pick.ensures ∙ c.if-may_pick.false)
    (record { is_default = sym c.in-Some.ensures.value; low = c.in-Some.ensures.candidate.0; candidate = c.in-Some.ensures.candidate.1 })
