use Rattle.std.proofs.Common.{◌≡◌, ◌∷◌, ◌++◌, [], List, ℕ, sym, ap, subst, ◌∙◌, rules, FitsSigned, w16}
use Rattle.std.proofs.lemmas.Int.{to_z-of_z}
use Rattle.ldpc_decode.specs.View.{DecoderView}
use Rattle.retry_ladder.specs.View.{LadderView, state_in, with_sense}
use Rattle.ssd_geo.specs.BaseMatrix.{BaseMatrix}
use Rattle.ssd_geo.specs.Ladder.{LadderState, asks}
use Rattle.chan_calls.specs.Caller.{CallerView}
use Rattle.chan_calls.specs.Climbing.{Climbs, IsLadderOf}
use Rattle.chan_calls.proofs.AddedKinds.{same_caller_on}
use Rattle.chan_calls.proofs.ClimbingLooks.{asks_at, climb_bound, climb_fails, climb_has_place, climb_may_sense, climb_on, fed_too, fewer_left, may_climb_too, same_decoder}
use Rattle.chan_calls.proofs.climb.climb.Goals as goal

pub sense-requires-clause-may : goal.sense-requires-clause-may
sense-requires-clause-may g c =
    let inv = c.loop-place.invariant in
    let ladder = c.loop-place.ladder in
    let matrix = c.args.decoder.now.decoder.code in
    let limit = c.args.decoder.now.decoder.limit in
    let old = g.S.Steps.view c.args.steps.now in
    let new = g.S.Steps.view c.loop-place.steps in
    let asking : state_in ladder ≡ asks c.in-At.place c.in-At.level =
    asks_at (state_in ladder) c.in-At.place c.in-At.level c.in-At.ensures in
    climb_may_sense ladder matrix limit old new (g.S.Steps.stands c.args.steps.now)
    (g.S.Steps.stands c.loop-place.steps) c.args.tag c.args.look.now inv.climbed.0 inv.climbed.1
    (may_climb_too c.args.ladder.now ladder matrix limit old
    (g.S.Steps.stands c.args.steps.now) c.args.look.now inv.ladder c.requires.may)
    inv.climbed.2 c.in-At.place c.in-At.level asking

pub sense-requires-clause-place : goal.sense-requires-clause-place
sense-requires-clause-place g c =
    let inv = c.loop-place.invariant in
    let ladder = c.loop-place.ladder in
    let matrix = c.args.decoder.now.decoder.code in
    let limit = c.args.decoder.now.decoder.limit in
    let old = g.S.Steps.view c.args.steps.now in
    let new = g.S.Steps.view c.loop-place.steps in
    let asking : state_in ladder ≡ asks c.in-At.place c.in-At.level =
    asks_at (state_in ladder) c.in-At.place c.in-At.level c.in-At.ensures in
    climb_has_place ladder matrix limit old new (g.S.Steps.stands c.args.steps.now)
    (g.S.Steps.stands c.loop-place.steps) c.args.tag c.args.look.now inv.climbed.0 inv.climbed.1
    (may_climb_too c.args.ladder.now ladder matrix limit old
    (g.S.Steps.stands c.args.steps.now) c.args.look.now inv.ladder c.requires.may)
    inv.climbed.2 c.in-At.place c.in-At.level inv.caller asking

pub sense-requires-clause-asked : goal.sense-requires-clause-asked
sense-requires-clause-asked g c =
    let inv = c.loop-place.invariant in
    let ladder = c.loop-place.ladder in
    let matrix = c.args.decoder.now.decoder.code in
    let limit = c.args.decoder.now.decoder.limit in
    let old = g.S.Steps.view c.args.steps.now in
    let new = g.S.Steps.view c.loop-place.steps in
    let fits : FitsSigned w16 c.in-At.level = search rules in
    let asking : state_in ladder ≡ asks c.in-At.place c.in-At.level =
    asks_at (state_in ladder) c.in-At.place c.in-At.level c.in-At.ensures in
    simp to_z-of_z (climb_bound ladder matrix limit old new (g.S.Steps.stands c.args.steps.now)
    (g.S.Steps.stands c.loop-place.steps) c.args.tag c.args.look.now inv.climbed.0 inv.climbed.1
    (may_climb_too c.args.ladder.now ladder matrix limit old
    (g.S.Steps.stands c.args.steps.now) c.args.look.now inv.ladder c.requires.may)
    inv.climbed.2 (λ (state : LadderState). state ≡ asks c.in-At.place c.in-At.level) inv.caller
    asking)

pub loop-place-smaller : goal.loop-place-smaller
loop-place-smaller g c =
    let inv = c.loop-place.invariant in
    let ladder = c.loop-place.ladder in
    let matrix = c.args.decoder.now.decoder.code in
    let limit = c.args.decoder.now.decoder.limit in
    let old = g.S.Steps.view c.args.steps.now in
    let new = g.S.Steps.view c.loop-place.steps in
    let fits : FitsSigned w16 c.in-At.level = search rules in
    let asking : state_in ladder ≡ asks c.in-At.place c.in-At.level =
    asks_at (state_in ladder) c.in-At.place c.in-At.level c.in-At.ensures in
    fewer_left ladder matrix limit old new (g.S.Steps.stands c.args.steps.now)
    (g.S.Steps.stands c.loop-place.steps) c.args.tag c.args.look.now inv.climbed.0 inv.climbed.1
    (may_climb_too c.args.ladder.now ladder matrix limit old
    (g.S.Steps.stands c.args.steps.now) c.args.look.now inv.ladder c.requires.may)
    inv.climbed.2 (g.S.Steps.view c.sense.new.self) (g.S.Steps.stands c.sense.new.self)
    c.in-At.place c.in-At.level _ c.sense.new.out asking inv.caller
    (simp to_z-of_z at c.in-Sensed.ensures.made)

pub loop-place-preserved : goal.loop-place-preserved
loop-place-preserved g c =
    let inv = c.loop-place.invariant in
    let first : LadderView = c.args.ladder.now in
    let ladder : LadderView = c.loop-place.ladder in
    let matrix : BaseMatrix = c.args.decoder.now.decoder.code in
    let limit : ℕ = c.args.decoder.now.decoder.limit in
    let old : CallerView = g.S.Steps.view c.args.steps.now in
    let new : CallerView = g.S.Steps.view c.loop-place.steps in
    let next : CallerView = g.S.Steps.view c.sense.new.self in
    let stood = g.S.Steps.stands c.args.steps.now in
    let after = g.S.Steps.stands c.sense.new.self in
    let bits : List ℕ = c.sense.new.out in
    let fits : FitsSigned w16 c.in-At.level = search rules in
    let asking : state_in ladder ≡ asks c.in-At.place c.in-At.level =
    asks_at (state_in ladder) c.in-At.place c.in-At.level c.in-At.ensures in
    let fed : c.feed.new.self ≡ with_sense ladder matrix limit bits =
    c.feed.ensures.fed ∙ ap (λ (d : DecoderView). with_sense ladder d.code d.limit bits) inv.decoder
    in
    record {
      ladder = subst (IsLadderOf first) (sym fed) (fed_too first ladder matrix limit bits
          inv.ladder);
      decoder = same_decoder c.feed.new.decoder.decoder c.loop-place.decoder.decoder
          c.feed.ensures.matrix c.feed.ensures.limit ∙ inv.decoder;
      caller = same_caller_on old new next inv.caller c.sense.ensures.same;
      word = c.sense.ensures.word ∙ inv.word;
      climbed = (
        inv.climbed.0 ++ bits ∷ [],
        inv.climbed.1 ++ (c.in-At.place, c.in-At.level) ∷ [],
        subst (λ (l : LadderView). Climbs l matrix limit old next stood after c.args.tag
            c.args.look.now (inv.climbed.0 ++ bits ∷ [])
            (inv.climbed.1 ++ (c.in-At.place, c.in-At.level) ∷ []))
            (sym fed)
            (climb_on ladder matrix limit old new stood
            (g.S.Steps.stands c.loop-place.steps) c.args.tag c.args.look.now inv.climbed.0
            inv.climbed.1
            (may_climb_too first ladder matrix limit old stood c.args.look.now inv.ladder
            c.requires.may)
            inv.climbed.2 next after c.in-At.place c.in-At.level _ bits asking inv.caller
            (simp to_z-of_z at c.in-Sensed.ensures.made)),
      );
    }

pub returns-in-DieFault-clause-ended : goal.returns-in-DieFault-clause-ended
returns-in-DieFault-clause-ended g c =
    let inv = c.loop-place.invariant in
    let ladder = c.loop-place.ladder in
    let matrix = c.args.decoder.now.decoder.code in
    let limit = c.args.decoder.now.decoder.limit in
    let old = g.S.Steps.view c.args.steps.now in
    let new = g.S.Steps.view c.loop-place.steps in
    let fits : FitsSigned w16 c.in-At.level = search rules in
    let asking : state_in ladder ≡ asks c.in-At.place c.in-At.level =
    asks_at (state_in ladder) c.in-At.place c.in-At.level c.in-At.ensures in
    climb_fails ladder matrix limit old new (g.S.Steps.stands c.args.steps.now)
    (g.S.Steps.stands c.loop-place.steps) c.args.tag c.args.look.now inv.climbed.0 inv.climbed.1
    (may_climb_too c.args.ladder.now ladder matrix limit old
    (g.S.Steps.stands c.args.steps.now) c.args.look.now inv.ladder c.requires.may)
    inv.climbed.2 (g.S.Steps.view c.sense.new.self) (g.S.Steps.stands c.sense.new.self)
    c.in-At.place c.in-At.level _ c.sense.new.out c.in-DieFault.die c.args.ladder.now inv.ladder asking
    inv.caller (simp to_z-of_z at c.in-DieFault.ensures.made)
