use Rattle.std.proofs.Common.{refl}
use Rattle.chan_tables.specs.declared.answers.LookAnswer.TheVariants.{Empty, Lost}
use Rattle.chan_calls.proofs.BegunLadders.{may_call_on}
use Rattle.refresh.proofs.CopiedPages.{found_is_fresh, found_is_refreshed}
use Rattle.refresh.proofs.refreshing.refresh.Goals as goal

pub copy-requires-clause-fresh : goal.copy-requires-clause-fresh
copy-requires-clause-fresh g c κs within =
    found_is_fresh c.args.worker.now (g.S.Steps.view c.args.steps.now) (g.S.Steps.view c.look.new.self)
    (g.S.Steps.stands c.args.steps.now) (g.S.Steps.stands c.look.new.self) c.args.tag c.args.row c.in-Found.look
    c.look.ensures.same c.look.ensures.goes_on (rw c.in-Found.is at c.in_ok-look.ensures.made) c.requires.may

pub copy-requires-clause-may : goal.copy-requires-clause-may
copy-requires-clause-may g c κs within =
    may_call_on c.args.worker.now (g.S.Steps.view c.args.steps.now) (g.S.Steps.view c.look.new.self)
    (g.S.Steps.stands c.args.steps.now) (g.S.Steps.stands c.look.new.self) c.requires.may c.look.ensures.same
    c.look.ensures.goes_on

pub returns-in-Empty-clause-made : goal.returns-in-Empty-clause-made
returns-in-Empty-clause-made g c = λ start contents works is_of stood_for. record {
  answer = Empty;
  looked = g.S.Steps.view c.look.new.self;
  same = c.look.ensures.same;
  looks = rw c.in-Empty.is at c.in_ok-look.ensures.made;
  follows = (refl, refl);
}

pub returns-in-Lost-clause-made : goal.returns-in-Lost-clause-made
returns-in-Lost-clause-made g c = λ start contents works is_of stood_for. record {
  answer = Lost;
  looked = g.S.Steps.view c.look.new.self;
  same = c.look.ensures.same;
  looks = rw c.in-Lost.is at c.in_ok-look.ensures.made;
  follows = (refl, refl);
}

pub returns-in-Found-clause-made : goal.returns-in-Found-clause-made
returns-in-Found-clause-made g c =
    found_is_refreshed c.args.worker.now (g.S.Steps.view c.args.steps.now) (g.S.Steps.view c.look.new.self)
    (g.S.Steps.stands c.args.steps.now) (g.S.Steps.stands c.look.new.self) c.args.tag c.args.row c.in-Found.look
    c.look.ensures.same c.look.ensures.goes_on (rw c.in-Found.is at c.in_ok-look.ensures.made)
    (g.S.Steps.view c.copy.new.steps).seen c.copy.result c.refresh_of_copy.result c.refresh_of_copy.ensures
    c.copy.ensures.copies
