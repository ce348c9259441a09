use Rattle.std.proofs.Common.{◌<◌, length, map, refl, subst, sym}
use Rattle.std.specs.Prelude.{Err, List, Ok, slice_index_or, slice_set}
use Rattle.chan_calls.specs.Caller.{CallerView}
use Rattle.shared_steps.specs.Sharing.{view_of_shared}
use Rattle.shared_steps.specs.declared.shared.Shared.{Shared}
use Rattle.ssd_geo.specs.declared.stop.ServeStop.{ServeStop}
use Rattle.ctl.specs.Asked.{settings}
use Rattle.ctl.specs.ChannelCalls.{stop_on}
use Rattle.ctl.proofs.ServedVerbs.{channel_low}
use Rattle.actor_calls.specs.Known.{AreKnown, AreSameCallers}
use Rattle.actor_calls.specs.Served.{ServesCall}
use Rattle.actor_calls.proofs.EachChannel.{known_callers, same_callers, seen_at, seen_set}
use Rattle.actor_calls.proofs.ServedOnOne.{serves_on_one}
use Rattle.actor_calls.proofs.serving.serve_on_one.Goals as goal

-- the call's channel is known
pub call_on-requires-clause-known : goal.call_on-requires-clause-known
call_on-requires-clause-known g c κs within =
    let see : Shared g.row.R.Denot g.row.D.Denot g.row.P.Denot g.row.J.Denot → CallerView =
    λ shared. view_of_shared shared.turns.now shared.pass g.J.Contents.contents in
    let channels = c.args.channels.now in
    let k = c.channel_of-at.result in
    let low : k < length channels =
    channel_low c.args.worker.now.shape (length channels) k c.args.call.now.verb c.requires.low c.channel_of-at.ensures
    c.requires.fits in
    let other = c.index-channels-at.result in
    let one = slice_index_or channels k other in
    c.requires.known k (see one) (seen_at see channels k low other)

pub returns-in-Ok-clause-callers : goal.returns-in-Ok-clause-callers
returns-in-Ok-clause-callers g c =
    let see : Shared g.row.R.Denot g.row.D.Denot g.row.P.Denot g.row.J.Denot → CallerView =
    λ shared. view_of_shared shared.turns.now shared.pass g.J.Contents.contents in
    let channels = c.args.channels.now in
    let k = c.channel_of-at.result in
    let low : k < length channels =
    channel_low c.args.worker.now.shape (length channels) k c.args.call.now.verb c.requires.low c.channel_of-at.ensures
    c.requires.fits in
    let other = c.index-channels-at.result in
    let one = slice_index_or channels k other in
    subst (AreSameCallers (map see channels)) (seen_set see channels k low other c.call_on.new.channel)
    (same_callers (map see channels) k (see one) (seen_at see channels k low other) (see c.call_on.new.channel) c.in-Ok.ensures.caller)

pub returns-in-Ok-clause-known : goal.returns-in-Ok-clause-known
returns-in-Ok-clause-known g c =
    let see : Shared g.row.R.Denot g.row.D.Denot g.row.P.Denot g.row.J.Denot → CallerView =
    λ shared. view_of_shared shared.turns.now shared.pass g.J.Contents.contents in
    let channels = c.args.channels.now in
    let k = c.channel_of-at.result in
    let low : k < length channels =
    channel_low c.args.worker.now.shape (length channels) k c.args.call.now.verb c.requires.low c.channel_of-at.ensures
    c.requires.fits in
    let other = c.index-channels-at.result in
    let one = slice_index_or channels k other in
    subst (AreKnown (settings c.args.worker.now) c.args.call.now.tag.actor) (seen_set see channels k low other c.call_on.new.channel)
    (known_callers (map see channels) k (see one) (seen_at see channels k low other) (see c.call_on.new.channel)
    (settings c.args.worker.now) c.args.call.now.tag.actor c.requires.known c.in-Ok.ensures.known)

pub returns-in-Err-clause-callers : goal.returns-in-Err-clause-callers
returns-in-Err-clause-callers g c =
    let see : Shared g.row.R.Denot g.row.D.Denot g.row.P.Denot g.row.J.Denot → CallerView =
    λ shared. view_of_shared shared.turns.now shared.pass g.J.Contents.contents in
    let channels = c.args.channels.now in
    let k = c.channel_of-at.result in
    let low : k < length channels =
    channel_low c.args.worker.now.shape (length channels) k c.args.call.now.verb c.requires.low c.channel_of-at.ensures
    c.requires.fits in
    let other = c.index-channels-at.result in
    let one = slice_index_or channels k other in
    subst (AreSameCallers (map see channels)) (seen_set see channels k low other c.call_on.new.channel)
    (same_callers (map see channels) k (see one) (seen_at see channels k low other) (see c.call_on.new.channel) c.in-Err.ensures.caller)

pub returns-in-Err-clause-known : goal.returns-in-Err-clause-known
returns-in-Err-clause-known g c =
    let see : Shared g.row.R.Denot g.row.D.Denot g.row.P.Denot g.row.J.Denot → CallerView =
    λ shared. view_of_shared shared.turns.now shared.pass g.J.Contents.contents in
    let channels = c.args.channels.now in
    let k = c.channel_of-at.result in
    let low : k < length channels =
    channel_low c.args.worker.now.shape (length channels) k c.args.call.now.verb c.requires.low c.channel_of-at.ensures
    c.requires.fits in
    let other = c.index-channels-at.result in
    let one = slice_index_or channels k other in
    subst (AreKnown (settings c.args.worker.now) c.args.call.now.tag.actor) (seen_set see channels k low other c.call_on.new.channel)
    (known_callers (map see channels) k (see one) (seen_at see channels k low other) (see c.call_on.new.channel)
    (settings c.args.worker.now) c.args.call.now.tag.actor c.requires.known c.in-Err.ensures.known)

-- what it came to there it came to on all
pub returns-in-Ok-clause-serves : goal.returns-in-Ok-clause-serves
returns-in-Ok-clause-serves g c =
    let see : Shared g.row.R.Denot g.row.D.Denot g.row.P.Denot g.row.J.Denot → CallerView =
    λ shared. view_of_shared shared.turns.now shared.pass g.J.Contents.contents in
    let channels = c.args.channels.now in
    let k = c.channel_of-at.result in
    let low : k < length channels =
    channel_low c.args.worker.now.shape (length channels) k c.args.call.now.verb c.requires.low c.channel_of-at.ensures
    c.requires.fits in
    let other = c.index-channels-at.result in
    let one = slice_index_or channels k other in
    subst
    (λ (news : List CallerView). ServesCall (map see channels) news c.args.call.now.tag c.args.call.now.verb
    (Ok c.in-Ok.reply)) (seen_set see channels k low other c.call_on.new.channel)
    (serves_on_one see channels k low other c.call_on.new.channel one.turns.now.start g.J.Contents.contents refl
    c.args.call.now.tag c.args.call.now.verb c.requires.verb c.channel_of-at.ensures (Ok c.in-Ok.reply) c.in-Ok.ensures.ends)

pub returns-in-Err-clause-serves : goal.returns-in-Err-clause-serves
returns-in-Err-clause-serves g c =
    let see : Shared g.row.R.Denot g.row.D.Denot g.row.P.Denot g.row.J.Denot → CallerView =
    λ shared. view_of_shared shared.turns.now shared.pass g.J.Contents.contents in
    let channels = c.args.channels.now in
    let k = c.channel_of-at.result in
    let low : k < length channels =
    channel_low c.args.worker.now.shape (length channels) k c.args.call.now.verb c.requires.low c.channel_of-at.ensures
    c.requires.fits in
    let other = c.index-channels-at.result in
    let one = slice_index_or channels k other in
    subst
    (λ (stop : ServeStop). ServesCall (map see channels) (map see (slice_set channels k c.call_on.new.channel))
    c.args.call.now.tag c.args.call.now.verb (Err stop)) (sym c.stop_on.ensures)
    (subst
    (λ (news : List CallerView). ServesCall (map see channels) news c.args.call.now.tag c.args.call.now.verb
    (Err (stop_on k c.in-Err.stop))) (seen_set see channels k low other c.call_on.new.channel)
    (serves_on_one see channels k low other c.call_on.new.channel one.turns.now.start g.J.Contents.contents refl
    c.args.call.now.tag c.args.call.now.verb c.requires.verb c.channel_of-at.ensures (Err c.in-Err.stop)
    c.in-Err.ensures.ends))
