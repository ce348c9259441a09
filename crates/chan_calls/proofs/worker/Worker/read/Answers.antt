use Rattle.std.specs.Prelude.{IsTrue}
use Rattle.ldpc_decode.specs.View.{DecoderView}
use Rattle.retry_ladder.specs.View.{LadderView}
use Rattle.ssd_geo.specs.Ladder.{LadderState, has_answer}
use Rattle.ssd_geo.specs.declared.look.Look.{Look}
use Rattle.chan_calls.specs.Caller.{CallerView}
use Rattle.chan_calls.specs.Stepping.{Standing}
use Rattle.chan_calls.proofs.AnsweredLooks.{HasAnswered, answered_bound, answered_may_leave}
use Rattle.chan_calls.proofs.BegunLadders.{page_begins, page_may_climb}
use Rattle.chan_calls.proofs.FailedLooks.{fault_may_leave}
use Rattle.chan_calls.proofs.ReadCalls.{HasFoundPage, fault_goes_on, page_goes_on, read_begun, read_fails, reads_page}
use Rattle.chan_calls.proofs.worker.Worker.read.Goals as goal

pub climb-requires-clause-begun : goal.climb-requires-clause-begun
climb-requires-clause-begun g c κs within =
    let old : CallerView = g.S.Steps.view c.args.steps.now in
    let mid : CallerView = g.S.Steps.view c.look.new.self in
    let stood : Standing = g.S.Steps.stands c.args.steps.now in
    let looked : Standing = g.S.Steps.stands c.look.new.self in
    let look : Look = c.in-Found.look in
    let first : LadderView = c.begin.new.self in
    let page : HasFoundPage c.self.inside c.args.self.now old mid stood looked c.args.tag c.args.row
    look first = record {
      view_is = c.self.view_is;
      ready = c.self.invariant;
      begun = c.begin.ensures;
      may = c.requires.may;
      same = c.look.ensures.same;
      goes_on = c.look.ensures.goes_on;
      made = rw c.in-Found.is at c.in_ok-look.ensures.made;
    } in
    let begun = read_begun c.self.inside c.args.self.now old mid stood looked c.args.tag c.args.row look
    first page in
    page_begins c.self.inside c.args.self.now mid looked c.args.tag look first begun

pub climb-requires-clause-may : goal.climb-requires-clause-may
climb-requires-clause-may g c κs within =
    let old : CallerView = g.S.Steps.view c.args.steps.now in
    let mid : CallerView = g.S.Steps.view c.look.new.self in
    let stood : Standing = g.S.Steps.stands c.args.steps.now in
    let looked : Standing = g.S.Steps.stands c.look.new.self in
    let look : Look = c.in-Found.look in
    let first : LadderView = c.begin.new.self in
    let page : HasFoundPage c.self.inside c.args.self.now old mid stood looked c.args.tag c.args.row
    look first = record {
      view_is = c.self.view_is;
      ready = c.self.invariant;
      begun = c.begin.ensures;
      may = c.requires.may;
      same = c.look.ensures.same;
      goes_on = c.look.ensures.goes_on;
      made = rw c.in-Found.is at c.in_ok-look.ensures.made;
    } in
    let begun = read_begun c.self.inside c.args.self.now old mid stood looked c.args.tag c.args.row look
    first page in
    page_may_climb c.self.inside c.args.self.now mid looked c.args.tag look first begun

pub returns-in-Empty-clause-goes_on : goal.returns-in-Empty-clause-goes_on
returns-in-Empty-clause-goes_on g c = λ start contents works is_of stood. c.look.ensures.goes_on
    start contents is_of stood

pub returns-in-Lost-clause-goes_on : goal.returns-in-Lost-clause-goes_on
returns-in-Lost-clause-goes_on g c = λ start contents works is_of stood. c.look.ensures.goes_on
    start contents is_of stood

pub leave-requires-clause-may : goal.leave-requires-clause-may
leave-requires-clause-may g c =
    let old : CallerView = g.S.Steps.view c.args.steps.now in
    let mid : CallerView = g.S.Steps.view c.look.new.self in
    let stood : Standing = g.S.Steps.stands c.args.steps.now in
    let looked : Standing = g.S.Steps.stands c.look.new.self in
    let look : Look = c.in-Found.look in
    let first : LadderView = c.begin.new.self in
    let page : HasFoundPage c.self.inside c.args.self.now old mid stood looked c.args.tag c.args.row
    look first = record {
      view_is = c.self.view_is;
      ready = c.self.invariant;
      begun = c.begin.ensures;
      may = c.requires.may;
      same = c.look.ensures.same;
      goes_on = c.look.ensures.goes_on;
      made = rw c.in-Found.is at c.in_ok-look.ensures.made;
    } in
    let after : CallerView = g.S.Steps.view c.climb.new.steps in
    let climbed : Standing = g.S.Steps.stands c.climb.new.steps in
    let decoder : DecoderView = c.self.inside.decoder.decoder in
    fault_may_leave decoder.code decoder.limit first mid after looked climbed c.args.tag look
    c.in-Failed.die c.in-Failed.ensures.ended

pub returns-in-Failed-clause-goes_on : goal.returns-in-Failed-clause-goes_on
returns-in-Failed-clause-goes_on g c =
    let old : CallerView = g.S.Steps.view c.args.steps.now in
    let mid : CallerView = g.S.Steps.view c.look.new.self in
    let stood : Standing = g.S.Steps.stands c.args.steps.now in
    let looked : Standing = g.S.Steps.stands c.look.new.self in
    let look : Look = c.in-Found.look in
    let first : LadderView = c.begin.new.self in
    let page : HasFoundPage c.self.inside c.args.self.now old mid stood looked c.args.tag c.args.row
    look first = record {
      view_is = c.self.view_is;
      ready = c.self.invariant;
      begun = c.begin.ensures;
      may = c.requires.may;
      same = c.look.ensures.same;
      goes_on = c.look.ensures.goes_on;
      made = rw c.in-Found.is at c.in_ok-look.ensures.made;
    } in
    let after : CallerView = g.S.Steps.view c.climb.new.steps in
    let climbed : Standing = g.S.Steps.stands c.climb.new.steps in
    let decoder : DecoderView = c.self.inside.decoder.decoder in
    fault_goes_on c.self.inside c.args.self.now old mid stood looked c.args.tag c.args.row look first
    page after (g.S.Steps.view c.leave.new.self) climbed (g.S.Steps.stands c.leave.new.self)
    c.in-Failed.die c.in-Failed.ensures.ended c.climb.ensures.caller c.leave.ensures.made

pub returns-in-Failed-clause-ok : goal.returns-in-Failed-clause-ok
returns-in-Failed-clause-ok g c =
    let old : CallerView = g.S.Steps.view c.args.steps.now in
    let mid : CallerView = g.S.Steps.view c.look.new.self in
    let stood : Standing = g.S.Steps.stands c.args.steps.now in
    let looked : Standing = g.S.Steps.stands c.look.new.self in
    let look : Look = c.in-Found.look in
    let first : LadderView = c.begin.new.self in
    let page : HasFoundPage c.self.inside c.args.self.now old mid stood looked c.args.tag c.args.row
    look first = record {
      view_is = c.self.view_is;
      ready = c.self.invariant;
      begun = c.begin.ensures;
      may = c.requires.may;
      same = c.look.ensures.same;
      goes_on = c.look.ensures.goes_on;
      made = rw c.in-Found.is at c.in_ok-look.ensures.made;
    } in
    let after : CallerView = g.S.Steps.view c.climb.new.steps in
    let climbed : Standing = g.S.Steps.stands c.climb.new.steps in
    let decoder : DecoderView = c.self.inside.decoder.decoder in
    read_fails c.self.inside c.args.self.now old mid stood looked c.args.tag c.args.row look first
    page after (g.S.Steps.view c.leave.new.self) climbed (g.S.Steps.stands c.leave.new.self)
    c.in-Failed.die c.in-Failed.ensures.ended c.climb.ensures.caller c.leave.ensures.made

pub leave-requires-in-Found-clause-may : goal.leave-requires-in-Found-clause-may
leave-requires-in-Found-clause-may g c =
    let old : CallerView = g.S.Steps.view c.args.steps.now in
    let mid : CallerView = g.S.Steps.view c.look.new.self in
    let stood : Standing = g.S.Steps.stands c.args.steps.now in
    let looked : Standing = g.S.Steps.stands c.look.new.self in
    let look : Look = c.in-Found.look in
    let first : LadderView = c.begin.new.self in
    let page : HasFoundPage c.self.inside c.args.self.now old mid stood looked c.args.tag c.args.row
    look first = record {
      view_is = c.self.view_is;
      ready = c.self.invariant;
      begun = c.begin.ensures;
      may = c.requires.may;
      same = c.look.ensures.same;
      goes_on = c.look.ensures.goes_on;
      made = rw c.in-Found.is at c.in_ok-look.ensures.made;
    } in
    let begun = read_begun c.self.inside c.args.self.now old mid stood looked c.args.tag c.args.row look
    first page in
    let after : CallerView = g.S.Steps.view c.climb.new.steps in
    let climbed : Standing = g.S.Steps.stands c.climb.new.steps in
    let ladder : LadderView = c.climb.new.ladder in
    let decoder : DecoderView = c.self.inside.decoder.decoder in
    let ended : HasAnswered first ladder decoder.code decoder.limit mid after looked climbed
    c.args.tag look = record {
      ladder_stays = c.climb.ensures.ladder;
      same = c.climb.ensures.caller;
      answered = c.in-Answered.ensures.ended.0;
      climbed_is = c.in-Answered.ensures.ended.1;
    } in
    answered_may_leave after look.at
    (answered_bound c.self.inside c.args.self.now mid after looked climbed c.args.tag look first
    ladder begun ended (λ (state : LadderState). IsTrue (has_answer state)) ended.answered)

pub returns-in-Answered-clause-goes_on : goal.returns-in-Answered-clause-goes_on
returns-in-Answered-clause-goes_on g c =
    let old : CallerView = g.S.Steps.view c.args.steps.now in
    let mid : CallerView = g.S.Steps.view c.look.new.self in
    let stood : Standing = g.S.Steps.stands c.args.steps.now in
    let looked : Standing = g.S.Steps.stands c.look.new.self in
    let look : Look = c.in-Found.look in
    let first : LadderView = c.begin.new.self in
    let page : HasFoundPage c.self.inside c.args.self.now old mid stood looked c.args.tag c.args.row
    look first = record {
      view_is = c.self.view_is;
      ready = c.self.invariant;
      begun = c.begin.ensures;
      may = c.requires.may;
      same = c.look.ensures.same;
      goes_on = c.look.ensures.goes_on;
      made = rw c.in-Found.is at c.in_ok-look.ensures.made;
    } in
    let after : CallerView = g.S.Steps.view c.climb.new.steps in
    let climbed : Standing = g.S.Steps.stands c.climb.new.steps in
    let ladder : LadderView = c.climb.new.ladder in
    let decoder : DecoderView = c.self.inside.decoder.decoder in
    let ended : HasAnswered first ladder decoder.code decoder.limit mid after looked climbed
    c.args.tag look = record {
      ladder_stays = c.climb.ensures.ladder;
      same = c.climb.ensures.caller;
      answered = c.in-Answered.ensures.ended.0;
      climbed_is = c.in-Answered.ensures.ended.1;
    } in
    page_goes_on c.self.inside c.args.self.now old mid stood looked c.args.tag c.args.row look first
    page after (g.S.Steps.view c.leave-in-Found.new.self) climbed
    (g.S.Steps.stands c.leave-in-Found.new.self) ladder ended c.leave-in-Found.ensures.made

pub returns-in-Answered-clause-ok : goal.returns-in-Answered-clause-ok
returns-in-Answered-clause-ok g c =
    let old : CallerView = g.S.Steps.view c.args.steps.now in
    let mid : CallerView = g.S.Steps.view c.look.new.self in
    let stood : Standing = g.S.Steps.stands c.args.steps.now in
    let looked : Standing = g.S.Steps.stands c.look.new.self in
    let look : Look = c.in-Found.look in
    let first : LadderView = c.begin.new.self in
    let page : HasFoundPage c.self.inside c.args.self.now old mid stood looked c.args.tag c.args.row
    look first = record {
      view_is = c.self.view_is;
      ready = c.self.invariant;
      begun = c.begin.ensures;
      may = c.requires.may;
      same = c.look.ensures.same;
      goes_on = c.look.ensures.goes_on;
      made = rw c.in-Found.is at c.in_ok-look.ensures.made;
    } in
    let after : CallerView = g.S.Steps.view c.climb.new.steps in
    let climbed : Standing = g.S.Steps.stands c.climb.new.steps in
    let ladder : LadderView = c.climb.new.ladder in
    let decoder : DecoderView = c.self.inside.decoder.decoder in
    let ended : HasAnswered first ladder decoder.code decoder.limit mid after looked climbed
    c.args.tag look = record {
      ladder_stays = c.climb.ensures.ladder;
      same = c.climb.ensures.caller;
      answered = c.in-Answered.ensures.ended.0;
      climbed_is = c.in-Answered.ensures.ended.1;
    } in
    reads_page c.self.inside c.args.self.now old mid stood looked c.args.tag c.args.row look first
    page after (g.S.Steps.view c.leave-in-Found.new.self) climbed
    (g.S.Steps.stands c.leave-in-Found.new.self) ladder ended c.leave-in-Found.ensures.made
    c.answer-answer.result c.reply_of.result c.answer-answer.ensures c.reply_of.ensures
