use Rattle.std.proofs.Common.{Bool, sym, subst}
use Rattle.retry_ladder.specs.View.{state_in}
use Rattle.ssd_geo.specs.Ladder.{LadderState}
use Rattle.chan_calls.specs.Caller.{CallerView}
use Rattle.chan_calls.specs.Copied.{EndsCopy}
use Rattle.chan_calls.specs.Stepping.{Standing}
use Rattle.chan_calls.proofs.MovedLooks.{condemn_ends, move_ends, recovered_at, uncorrectable_at}
use Rattle.chan_calls.proofs.worker.copying.end_copy.Goals as goal

pub returns-in-Recovered-clause-ended : goal.returns-in-Recovered-clause-ended
returns-in-Recovered-clause-ended g c =
    let old : CallerView = g.S.Steps.view c.args.steps.now in
    let new : CallerView = g.S.Steps.view c.move_if.new.self in
    let stood : Standing = g.S.Steps.stands c.args.steps.now in
    let stands : Standing = g.S.Steps.stands c.move_if.new.self in
    let state : LadderState = state_in c.args.ladder.now in
    move_ends old new stood stands c.args.tag c.args.at c.requires.may.is_open c.word.result.now
    c.move_if.result c.reply_of_move.result c.args.condemn state c.move_if.ensures.made
    (recovered_at state c.in-Recovered.rung c.in-Recovered.ensures) c.word.ensures.word
    c.reply_of_move.ensures

pub returns-then-condemn-clause-ended : goal.returns-then-condemn-clause-ended
returns-then-condemn-clause-ended g c =
    let old : CallerView = g.S.Steps.view c.args.steps.now in
    let new : CallerView = g.S.Steps.view c.condemn_if.new.self in
    let stood : Standing = g.S.Steps.stands c.args.steps.now in
    let stands : Standing = g.S.Steps.stands c.condemn_if.new.self in
    let state : LadderState = state_in c.args.ladder.now in
    subst (λ (condemns : Bool). EndsCopy old new stood stands c.args.tag c.args.at condemns state
    c.reply_of_condemn.result) (sym c.if-condemn.true)
    (condemn_ends old new stood stands c.args.tag c.args.at c.requires.may.is_open
    c.condemn_if.result c.reply_of_condemn.result state c.condemn_if.ensures.made
    (uncorrectable_at state c.in-Uncorrectable.ensures) c.reply_of_condemn.ensures)
