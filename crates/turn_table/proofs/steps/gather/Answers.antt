use Rattle.std.proofs.Common.{[], ap, subst, ◌∙◌, arith}
use Rattle.turn_table.specs.Kept.{EachGoesOn}
use Rattle.turn_table.specs.Places.{pass_at}
use Rattle.turn_table.specs.Steps.{Knower, joined_view}
use Rattle.turn_table.specs.Views.{view_of}
use Rattle.turn_table.specs.declared.view.Stage.TheVariants.{Away}
use Rattle.turn_table.proofs.Joining.{compares, joins}
use Rattle.turn_table.proofs.steps.gather.Goals as goal

pub join_seat-requires : goal.join_seat-requires
join_seat-requires g c = (
  c.requires.tables.0,
  c.requires.tables.1,
  ap (λ m. m.1) c.requires.second.1,
  omega arith,
  joins _ _ _ _ _ _ _ _ (ap (λ m. m.0.stage) c.requires.first.1) (ap (λ m. m.0.stage) c.requires.second.1),
)

pub load-requires : goal.load-requires
load-requires g c = (
  c.join_seat.ensures.0 ∙ c.requires.tables.0,
  omega arith,
  compares _ _ _ _ _ _ _ (ap (λ m. m.0.stage) c.join_seat.ensures.2 ∙ ap (λ m. m.0.stage) c.requires.first.1),
)

pub returns-clause-pass : goal.returns-clause-pass
returns-clause-pass g c =
    let V : Type 0 = g.row.V.Denot in (
      c.load.ensures.0 ∙ c.join_seat.ensures.0,
      c.load.ensures.2.1
          ∙ (ap (λ (m : Knower V). (record m.0 { joined = [] }, m.1)) c.join_seat.ensures.2
          ∙ (ap (λ (m : Knower V). (record (joined_view m.0 c.args.other.me.0) { joined = [] }, m.1)) c.requires.first.1
          ∙ ap (λ (m : Knower V). (record (joined_view (view_of Away (pass_at c.args.seat.now)) m.0) { joined = [] }, [])) c.requires.second.1)),
    )

pub returns-clause-first : goal.returns-clause-first
returns-clause-first g c =
    let V : Type 0 = g.row.V.Denot in
    let both = subst (λ (m : Knower V). EachGoesOn m.0.joined m.0.seen) c.join_seat.ensures.2 c.load.ensures.2.0 in both.0

pub returns-clause-second : goal.returns-clause-second
returns-clause-second g c =
    let V : Type 0 = g.row.V.Denot in
    let both = subst (λ (m : Knower V). EachGoesOn m.0.joined m.0.seen) c.join_seat.ensures.2 c.load.ensures.2.0 in both.1.0
