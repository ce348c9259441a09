use Rattle.std.proofs.Common.{refl, sym, subst}
use Rattle.std.specs.Prelude.{Ok}
use Rattle.chan_tables.specs.declared.answers.LiveAnswer.TheVariants as live
use Rattle.collector.specs.Emptying.{TakesNextFor, no_victim}
use Rattle.collector.specs.declared.emptying.Next.{Next}
use Rattle.collector.proofs.FirstCallers.{goes_on_both, goes_on_step, live_is_fresh, looks_live, may_after, page_is_copied, page_next}
use Rattle.collector.proofs.emptying.copy_next.Goals as goal

pub copy-requires-clause-fresh : goal.copy-requires-clause-fresh
copy-requires-clause-fresh g c κs within =
    live_is_fresh (g.S.Steps.view c.args.steps.now) (g.S.Steps.view c.look_live.new.self) (g.S.Steps.stands c.args.steps.now)
    (g.S.Steps.stands c.look_live.new.self) c.args.worker.now c.args.tag c.args.sb c.in-Found.look c.requires.may
    c.look_live.ensures.same c.look_live.ensures.goes_on (rw c.in-Found.is at c.in_ok-look.ensures.made)

pub copy-requires-clause-may : goal.copy-requires-clause-may
copy-requires-clause-may g c κs within =
    may_after c.args.worker.now (g.S.Steps.view c.args.steps.now) (g.S.Steps.view c.look_live.new.self)
    (g.S.Steps.stands c.args.steps.now) (g.S.Steps.stands c.look_live.new.self) c.look_live.ensures.same
    c.look_live.ensures.goes_on c.requires.may

pub returns-in-Found-clause-goes_on : goal.returns-in-Found-clause-goes_on
returns-in-Found-clause-goes_on g c =
    goes_on_both c.args.worker.now c.args.worker.now (g.S.Steps.view c.args.steps.now) (g.S.Steps.view c.look_live.new.self)
    (g.S.Steps.view c.copy.new.steps) (g.S.Steps.stands c.args.steps.now) (g.S.Steps.stands c.look_live.new.self)
    (g.S.Steps.stands c.copy.new.steps) refl
    (goes_on_step c.args.worker.now (g.S.Steps.view c.args.steps.now) (g.S.Steps.view c.look_live.new.self)
    (g.S.Steps.stands c.args.steps.now) (g.S.Steps.stands c.look_live.new.self) c.look_live.ensures.goes_on)
    c.copy.ensures.goes_on

pub returns-in-Found-clause-made : goal.returns-in-Found-clause-made
returns-in-Found-clause-made g c = λ start contents works is_of stood_for.
    let old = g.S.Steps.view c.args.steps.now in
    let new = (g.S.Steps.view c.copy.new.steps).seen in
    subst (λ (next : Next). TakesNextFor start contents old c.args.tag c.args.sb old.seen new (Ok next))
    (sym c.next_of_copy.ensures)
    (page_next start contents old c.args.tag c.args.sb old.seen new c.copy.result
    (page_is_copied start contents c.args.worker.now old (g.S.Steps.view c.look_live.new.self) (g.S.Steps.stands
    c.args.steps.now)
    (g.S.Steps.stands c.look_live.new.self) c.args.tag c.args.sb c.in-Found.look new c.copy.result works is_of stood_for
    c.look_live.ensures.same c.look_live.ensures.goes_on (rw c.in-Found.is at c.in_ok-look.ensures.made)
    c.copy.ensures.copies))

pub returns-in-NoneLive-clause-goes_on : goal.returns-in-NoneLive-clause-goes_on
returns-in-NoneLive-clause-goes_on g c = λ start contents works is_of stood. c.look_live.ensures.goes_on start contents is_of
    stood

pub returns-in-NoneLive-clause-made : goal.returns-in-NoneLive-clause-made
returns-in-NoneLive-clause-made g c = λ start contents works is_of stood_for.
    looks_live start contents (g.S.Steps.view c.args.steps.now) (g.S.Steps.stands c.args.steps.now) is_of stood_for c.args.tag
    c.args.sb (g.S.Steps.view c.look_live.new.self) (Ok live.NoneLive) (rw c.in-NoneLive.is at c.in_ok-look.ensures.made)

pub returns-in-NotVictim-clause-goes_on : goal.returns-in-NotVictim-clause-goes_on
returns-in-NotVictim-clause-goes_on g c = λ start contents works is_of stood. c.look_live.ensures.goes_on start contents is_of
    stood

pub returns-in-NotVictim-clause-made : goal.returns-in-NotVictim-clause-made
returns-in-NotVictim-clause-made g c = λ start contents works is_of stood_for.
    no_victim (looks_live start contents (g.S.Steps.view c.args.steps.now) (g.S.Steps.stands c.args.steps.now) is_of stood_for
    c.args.tag c.args.sb (g.S.Steps.view c.look_live.new.self) (Ok live.NotVictim)
    (rw c.in-NotVictim.is at c.in_ok-look.ensures.made)) refl
