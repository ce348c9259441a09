use Rattle.std.proofs.Common.{◌≡◌, refl}
use Rattle.ldpc_decode.specs.View.{DecoderView}
use Rattle.retry_ladder.specs.View.{LadderView, state_in}
use Rattle.ssd_geo.specs.Ladder.{LadderState}
use Rattle.ssd_geo.specs.declared.look.Look.{Look}
use Rattle.chan_calls.specs.Caller.{CallerView}
use Rattle.chan_calls.specs.Stepping.{Standing}
use Rattle.chan_calls.proofs.AnsweredLooks.{HasAnswered, answered_bound, answered_may_move, answered_shape}
use Rattle.chan_calls.proofs.BegunLadders.{HasBegun, page_begins, page_may_climb}
use Rattle.chan_calls.proofs.CopyCalls.{copies_page, copy_fails, copy_goes_on, copy_may_leave, failed_copy_goes_on}
use Rattle.chan_calls.proofs.FailedLooks.{fault_may_leave}
use Rattle.chan_calls.proofs.worker.Worker.copy.Goals as goal

pub climb-requires-clause-begun : goal.climb-requires-clause-begun
climb-requires-clause-begun g c κs within =
    let caller : CallerView = g.S.Steps.view c.args.steps.now in
    let stands : Standing = g.S.Steps.stands c.args.steps.now in
    let look : Look = c.args.look in
    let first : LadderView = c.begin.new.self in
    let begun : HasBegun c.self.inside c.args.self.now caller stands c.args.tag look first = record {
      view_is = c.self.view_is;
      ready = c.self.invariant;
      begun = c.begin.ensures;
      may = c.requires.may;
      fresh = c.requires.fresh;
    } in
    page_begins c.self.inside c.args.self.now caller stands c.args.tag look first begun

pub climb-requires-clause-may : goal.climb-requires-clause-may
climb-requires-clause-may g c κs within =
    let caller : CallerView = g.S.Steps.view c.args.steps.now in
    let stands : Standing = g.S.Steps.stands c.args.steps.now in
    let look : Look = c.args.look in
    let first : LadderView = c.begin.new.self in
    let begun : HasBegun c.self.inside c.args.self.now caller stands c.args.tag look first = record {
      view_is = c.self.view_is;
      ready = c.self.invariant;
      begun = c.begin.ensures;
      may = c.requires.may;
      fresh = c.requires.fresh;
    } in
    page_may_climb c.self.inside c.args.self.now caller stands c.args.tag look first begun

pub leave-requires-clause-may : goal.leave-requires-clause-may
leave-requires-clause-may g c =
    let caller : CallerView = g.S.Steps.view c.args.steps.now in
    let stands : Standing = g.S.Steps.stands c.args.steps.now in
    let look : Look = c.args.look in
    let first : LadderView = c.begin.new.self in
    let begun : HasBegun c.self.inside c.args.self.now caller stands c.args.tag look first = record {
      view_is = c.self.view_is;
      ready = c.self.invariant;
      begun = c.begin.ensures;
      may = c.requires.may;
      fresh = c.requires.fresh;
    } in
    let after : CallerView = g.S.Steps.view c.climb.new.steps in
    let climbed : Standing = g.S.Steps.stands c.climb.new.steps in
    let decoder : DecoderView = c.self.inside.decoder.decoder in
    fault_may_leave decoder.code decoder.limit first caller after stands climbed c.args.tag look
    c.in-Failed.die c.in-Failed.ensures.ended

pub returns-in-Failed-clause-goes_on : goal.returns-in-Failed-clause-goes_on
returns-in-Failed-clause-goes_on g c =
    let caller : CallerView = g.S.Steps.view c.args.steps.now in
    let stands : Standing = g.S.Steps.stands c.args.steps.now in
    let look : Look = c.args.look in
    let first : LadderView = c.begin.new.self in
    let begun : HasBegun c.self.inside c.args.self.now caller stands c.args.tag look first = record {
      view_is = c.self.view_is;
      ready = c.self.invariant;
      begun = c.begin.ensures;
      may = c.requires.may;
      fresh = c.requires.fresh;
    } in
    let after : CallerView = g.S.Steps.view c.climb.new.steps in
    let climbed : Standing = g.S.Steps.stands c.climb.new.steps in
    let decoder : DecoderView = c.self.inside.decoder.decoder in
    failed_copy_goes_on c.self.inside c.args.self.now caller stands c.args.tag look first begun after
    (g.S.Steps.view c.leave.new.self) climbed (g.S.Steps.stands c.leave.new.self) c.in-Failed.die
    c.args.condemn c.in-Failed.ensures.ended c.climb.ensures.caller c.leave.ensures.made

pub returns-in-Failed-clause-copies : goal.returns-in-Failed-clause-copies
returns-in-Failed-clause-copies g c =
    let caller : CallerView = g.S.Steps.view c.args.steps.now in
    let stands : Standing = g.S.Steps.stands c.args.steps.now in
    let look : Look = c.args.look in
    let first : LadderView = c.begin.new.self in
    let begun : HasBegun c.self.inside c.args.self.now caller stands c.args.tag look first = record {
      view_is = c.self.view_is;
      ready = c.self.invariant;
      begun = c.begin.ensures;
      may = c.requires.may;
      fresh = c.requires.fresh;
    } in
    let after : CallerView = g.S.Steps.view c.climb.new.steps in
    let climbed : Standing = g.S.Steps.stands c.climb.new.steps in
    let decoder : DecoderView = c.self.inside.decoder.decoder in
    copy_fails c.self.inside c.args.self.now caller stands c.args.tag look first begun after
    (g.S.Steps.view c.leave.new.self) climbed (g.S.Steps.stands c.leave.new.self) c.in-Failed.die
    c.args.condemn c.in-Failed.ensures.ended c.climb.ensures.caller c.leave.ensures.made

pub end_copy-reply-requires-clause-may : goal.end_copy-reply-requires-clause-may
end_copy-reply-requires-clause-may g c =
    let caller : CallerView = g.S.Steps.view c.args.steps.now in
    let stands : Standing = g.S.Steps.stands c.args.steps.now in
    let look : Look = c.args.look in
    let first : LadderView = c.begin.new.self in
    let begun : HasBegun c.self.inside c.args.self.now caller stands c.args.tag look first = record {
      view_is = c.self.view_is;
      ready = c.self.invariant;
      begun = c.begin.ensures;
      may = c.requires.may;
      fresh = c.requires.fresh;
    } in
    let after : CallerView = g.S.Steps.view c.climb.new.steps in
    let climbed : Standing = g.S.Steps.stands c.climb.new.steps in
    let decoder : DecoderView = c.self.inside.decoder.decoder in
    let ladder : LadderView = c.climb.new.ladder in
    let ended : HasAnswered first ladder decoder.code decoder.limit caller after stands climbed
    c.args.tag look = record {
      ladder_stays = c.climb.ensures.ladder;
      same = c.climb.ensures.caller;
      answered = c.in-Answered.ensures.ended.0;
      climbed_is = c.in-Answered.ensures.ended.1;
    } in
    answered_may_move c.self.inside c.args.self.now caller after stands climbed c.args.tag look first
    ladder begun ended

pub end_copy-reply-requires-clause-shape : goal.end_copy-reply-requires-clause-shape
end_copy-reply-requires-clause-shape g c =
    let caller : CallerView = g.S.Steps.view c.args.steps.now in
    let stands : Standing = g.S.Steps.stands c.args.steps.now in
    let look : Look = c.args.look in
    let first : LadderView = c.begin.new.self in
    let begun : HasBegun c.self.inside c.args.self.now caller stands c.args.tag look first = record {
      view_is = c.self.view_is;
      ready = c.self.invariant;
      begun = c.begin.ensures;
      may = c.requires.may;
      fresh = c.requires.fresh;
    } in
    let after : CallerView = g.S.Steps.view c.climb.new.steps in
    let climbed : Standing = g.S.Steps.stands c.climb.new.steps in
    let decoder : DecoderView = c.self.inside.decoder.decoder in
    let ladder : LadderView = c.climb.new.ladder in
    let ended : HasAnswered first ladder decoder.code decoder.limit caller after stands climbed
    c.args.tag look = record {
      ladder_stays = c.climb.ensures.ladder;
      same = c.climb.ensures.caller;
      answered = c.in-Answered.ensures.ended.0;
      climbed_is = c.in-Answered.ensures.ended.1;
    } in
    answered_shape c.self.inside c.args.self.now caller after stands climbed c.args.tag look first
    ladder begun ended

pub end_copy-reply-requires-clause-state : goal.end_copy-reply-requires-clause-state
end_copy-reply-requires-clause-state g c =
    let caller : CallerView = g.S.Steps.view c.args.steps.now in
    let stands : Standing = g.S.Steps.stands c.args.steps.now in
    let look : Look = c.args.look in
    let first : LadderView = c.begin.new.self in
    let begun : HasBegun c.self.inside c.args.self.now caller stands c.args.tag look first = record {
      view_is = c.self.view_is;
      ready = c.self.invariant;
      begun = c.begin.ensures;
      may = c.requires.may;
      fresh = c.requires.fresh;
    } in
    let after : CallerView = g.S.Steps.view c.climb.new.steps in
    let climbed : Standing = g.S.Steps.stands c.climb.new.steps in
    let decoder : DecoderView = c.self.inside.decoder.decoder in
    let ladder : LadderView = c.climb.new.ladder in
    let ended : HasAnswered first ladder decoder.code decoder.limit caller after stands climbed
    c.args.tag look = record {
      ladder_stays = c.climb.ensures.ladder;
      same = c.climb.ensures.caller;
      answered = c.in-Answered.ensures.ended.0;
      climbed_is = c.in-Answered.ensures.ended.1;
    } in
    answered_bound c.self.inside c.args.self.now caller after stands climbed c.args.tag look first
    ladder begun ended (λ (state : LadderState). state ≡ state_in ladder) refl

pub leave-requires-2-clause-may : goal.leave-requires-2-clause-may
leave-requires-2-clause-may g c =
    let caller : CallerView = g.S.Steps.view c.args.steps.now in
    let stands : Standing = g.S.Steps.stands c.args.steps.now in
    let look : Look = c.args.look in
    let first : LadderView = c.begin.new.self in
    let begun : HasBegun c.self.inside c.args.self.now caller stands c.args.tag look first = record {
      view_is = c.self.view_is;
      ready = c.self.invariant;
      begun = c.begin.ensures;
      may = c.requires.may;
      fresh = c.requires.fresh;
    } in
    let after : CallerView = g.S.Steps.view c.climb.new.steps in
    let climbed : Standing = g.S.Steps.stands c.climb.new.steps in
    let decoder : DecoderView = c.self.inside.decoder.decoder in
    let ladder : LadderView = c.climb.new.ladder in
    let ended : HasAnswered first ladder decoder.code decoder.limit caller after stands climbed
    c.args.tag look = record {
      ladder_stays = c.climb.ensures.ladder;
      same = c.climb.ensures.caller;
      answered = c.in-Answered.ensures.ended.0;
      climbed_is = c.in-Answered.ensures.ended.1;
    } in
    let mid : CallerView = g.S.Steps.view c.end_copy-reply.new.steps in
    let moved : Standing = g.S.Steps.stands c.end_copy-reply.new.steps in
    copy_may_leave c.self.inside c.args.self.now caller stands c.args.tag look first begun after mid
    climbed moved ladder c.args.condemn c.end_copy-reply.result ended c.end_copy-reply.ensures.caller
    c.end_copy-reply.ensures.ended

pub returns-clause-goes_on : goal.returns-clause-goes_on
returns-clause-goes_on g c =
    let caller : CallerView = g.S.Steps.view c.args.steps.now in
    let stands : Standing = g.S.Steps.stands c.args.steps.now in
    let look : Look = c.args.look in
    let first : LadderView = c.begin.new.self in
    let begun : HasBegun c.self.inside c.args.self.now caller stands c.args.tag look first = record {
      view_is = c.self.view_is;
      ready = c.self.invariant;
      begun = c.begin.ensures;
      may = c.requires.may;
      fresh = c.requires.fresh;
    } in
    let after : CallerView = g.S.Steps.view c.climb.new.steps in
    let climbed : Standing = g.S.Steps.stands c.climb.new.steps in
    let decoder : DecoderView = c.self.inside.decoder.decoder in
    let ladder : LadderView = c.climb.new.ladder in
    let ended : HasAnswered first ladder decoder.code decoder.limit caller after stands climbed
    c.args.tag look = record {
      ladder_stays = c.climb.ensures.ladder;
      same = c.climb.ensures.caller;
      answered = c.in-Answered.ensures.ended.0;
      climbed_is = c.in-Answered.ensures.ended.1;
    } in
    let mid : CallerView = g.S.Steps.view c.end_copy-reply.new.steps in
    let moved : Standing = g.S.Steps.stands c.end_copy-reply.new.steps in
    copy_goes_on c.self.inside c.args.self.now caller stands c.args.tag look first begun after mid
    climbed moved ladder c.args.condemn c.end_copy-reply.result ended c.end_copy-reply.ensures.caller
    c.end_copy-reply.ensures.ended
    (g.S.Steps.view c.leave-2.new.self) (g.S.Steps.stands c.leave-2.new.self)
    c.leave-2.ensures.made

pub returns-clause-copies : goal.returns-clause-copies
returns-clause-copies g c =
    let caller : CallerView = g.S.Steps.view c.args.steps.now in
    let stands : Standing = g.S.Steps.stands c.args.steps.now in
    let look : Look = c.args.look in
    let first : LadderView = c.begin.new.self in
    let begun : HasBegun c.self.inside c.args.self.now caller stands c.args.tag look first = record {
      view_is = c.self.view_is;
      ready = c.self.invariant;
      begun = c.begin.ensures;
      may = c.requires.may;
      fresh = c.requires.fresh;
    } in
    let after : CallerView = g.S.Steps.view c.climb.new.steps in
    let climbed : Standing = g.S.Steps.stands c.climb.new.steps in
    let decoder : DecoderView = c.self.inside.decoder.decoder in
    let ladder : LadderView = c.climb.new.ladder in
    let ended : HasAnswered first ladder decoder.code decoder.limit caller after stands climbed
    c.args.tag look = record {
      ladder_stays = c.climb.ensures.ladder;
      same = c.climb.ensures.caller;
      answered = c.in-Answered.ensures.ended.0;
      climbed_is = c.in-Answered.ensures.ended.1;
    } in
    let mid : CallerView = g.S.Steps.view c.end_copy-reply.new.steps in
    let moved : Standing = g.S.Steps.stands c.end_copy-reply.new.steps in
    copies_page c.self.inside c.args.self.now caller stands c.args.tag look first begun after mid
    climbed moved ladder c.args.condemn c.end_copy-reply.result ended c.end_copy-reply.ensures.caller
    c.end_copy-reply.ensures.ended
    (g.S.Steps.view c.leave-2.new.self) (g.S.Steps.stands c.leave-2.new.self)
    c.leave-2.ensures.made
