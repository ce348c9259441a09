use Rattle.std.proofs.Common.{◌<◌, ◌/◌, ◌%◌, length, map, refl, rules, subst, sym}
use Rattle.std.specs.Prelude.{Err, List, Ok, ℕ, slice_index_or, slice_set}
use Rattle.chan_calls.specs.Caller.{CallerView}
use Rattle.shared_steps.specs.Sharing.{view_of_shared}
use Rattle.shared_steps.specs.declared.shared.Shared.{Shared}
use Rattle.ssd_geo.specs.declared.stop.ServeStop.{ServeStop}
use Rattle.ctl.specs.Asked.{settings}
use Rattle.ctl.specs.ChannelCalls.{stop_on}
use Rattle.actor_calls.specs.Known.{AreKnown, AreSameCallers}
use Rattle.chan_calls.specs.Caller.{HasLookRoom}
use Rattle.chan_calls.specs.Stepping.{MakesLook}
use Rattle.refresh.specs.Refreshes.{MakesRefreshFor}
use Rattle.actor_calls.specs.Served.{RefreshesPage}
use Rattle.actor_calls.proofs.EachChannel.{known_callers, same_callers, seen_at, seen_set}
use Rattle.actor_calls.proofs.KnownChannels.{known_after, may_call, works}
use Rattle.actor_calls.proofs.RefusedSteps.{refused_came}
use Rattle.actor_calls.proofs.ServedOnOne.{refresh_stops, refreshes_there}
use Rattle.actor_calls.proofs.ToldLengths.{refresh_tells}
use Rattle.actor_calls.proofs.draining.refresh_page.Goals as goal

-- the page's channel is known
pub refresh-requires-clause-actor : goal.refresh-requires-clause-actor
refresh-requires-clause-actor g c κs within =
    let see : Shared g.row.R.Denot g.row.D.Denot g.row.P.Denot g.row.J.Denot → CallerView =
    λ shared. view_of_shared shared.turns.now shared.pass g.J.Contents.contents in
    let channels = c.args.channels.now in
    let k = c.args.page % length c.args.channels.now in
    let low : k < length channels = search rules in
    let one = slice_index_or channels k c.index-channels-channel.result in
    let known = c.requires.known k (see one) (seen_at see channels k low c.index-channels-channel.result) in
    known.serves

pub refresh-requires-clause-may : goal.refresh-requires-clause-may
refresh-requires-clause-may g c κs within =
    let see : Shared g.row.R.Denot g.row.D.Denot g.row.P.Denot g.row.J.Denot → CallerView =
    λ shared. view_of_shared shared.turns.now shared.pass g.J.Contents.contents in
    let channels = c.args.channels.now in
    let k = c.args.page % length c.args.channels.now in
    let low : k < length channels = search rules in
    let one = slice_index_or channels k c.index-channels-channel.result in
    let known = c.requires.known k (see one) (seen_at see channels k low c.index-channels-channel.result) in
    may_call c.args.worker.now c.args.tag.actor one.turns.now one.pass g.J.Contents.contents known

pub returns-in-Ok-clause-callers : goal.returns-in-Ok-clause-callers
returns-in-Ok-clause-callers g c =
    let see : Shared g.row.R.Denot g.row.D.Denot g.row.P.Denot g.row.J.Denot → CallerView =
    λ shared. view_of_shared shared.turns.now shared.pass g.J.Contents.contents in
    let channels = c.args.channels.now in
    let k = c.args.page % length c.args.channels.now in
    let low : k < length channels = search rules in
    let one = slice_index_or channels k c.index-channels-channel.result in
    let known = c.requires.known k (see one) (seen_at see channels k low c.index-channels-channel.result) in
    subst (AreSameCallers (map see channels)) (seen_set see channels k low c.index-channels-channel.result c.refresh.new.steps)
    (same_callers (map see channels) k (see one) (seen_at see channels k low c.index-channels-channel.result) (see c.refresh.new.steps) c.in-Ok.ensures.caller)

pub returns-in-Ok-clause-known : goal.returns-in-Ok-clause-known
returns-in-Ok-clause-known g c =
    let see : Shared g.row.R.Denot g.row.D.Denot g.row.P.Denot g.row.J.Denot → CallerView =
    λ shared. view_of_shared shared.turns.now shared.pass g.J.Contents.contents in
    let channels = c.args.channels.now in
    let k = c.args.page % length c.args.channels.now in
    let low : k < length channels = search rules in
    let one = slice_index_or channels k c.index-channels-channel.result in
    let known = c.requires.known k (see one) (seen_at see channels k low c.index-channels-channel.result) in
    subst (AreKnown (settings c.args.worker.now) c.args.tag.actor) (seen_set see channels k low c.index-channels-channel.result c.refresh.new.steps)
    (known_callers (map see channels) k (see one) (seen_at see channels k low c.index-channels-channel.result) (see c.refresh.new.steps)
    (settings c.args.worker.now) c.args.tag.actor c.requires.known
    (known_after c.args.worker.now c.args.tag.actor one.turns.now one.pass g.J.Contents.contents known c.refresh.new.steps.turns.now
    c.refresh.new.steps.pass c.in-Ok.ensures.caller
    (c.in-Ok.ensures.goes_on one.turns.now.start g.J.Contents.contents
    (works c.args.worker.now c.args.tag.actor one.turns.now one.pass g.J.Contents.contents known) known.is_of (refl, refl)).0))

pub returns-in-Ok-clause-refreshes : goal.returns-in-Ok-clause-refreshes
returns-in-Ok-clause-refreshes g c =
    let see : Shared g.row.R.Denot g.row.D.Denot g.row.P.Denot g.row.J.Denot → CallerView =
    λ shared. view_of_shared shared.turns.now shared.pass g.J.Contents.contents in
    let channels = c.args.channels.now in
    let k = c.args.page % length c.args.channels.now in
    let low : k < length channels = search rules in
    let one = slice_index_or channels k c.index-channels-channel.result in
    let known = c.requires.known k (see one) (seen_at see channels k low c.index-channels-channel.result) in
    let start = one.turns.now.start in
    let contents = g.J.Contents.contents in
    let made =
    c.in-Ok.ensures.made start contents
    (works c.args.worker.now c.args.tag.actor one.turns.now one.pass contents known) known.is_of (refl, refl) in
    subst (λ (news : List CallerView). RefreshesPage (map see channels) news c.args.tag c.args.page (Ok c.in-Ok.reply))
    (seen_set see channels k low c.index-channels-channel.result c.refresh.new.steps)
    (refreshes_there see channels k low c.index-channels-channel.result c.refresh.new.steps start contents refl c.args.tag
    c.args.page refl c.in-Ok.reply
    (c.refreshes_among_are_refreshes.ensures start contents (see one) c.args.tag (c.args.page / length channels)
    (see c.refresh.new.steps).seen c.in-Ok.reply
    (subst (λ (row : ℕ). MakesRefreshFor start contents (see one) c.args.tag row (see c.refresh.new.steps).seen (Ok c.in-Ok.reply))
    c.row_of.ensures made)))

pub returns-in-Err-clause-callers : goal.returns-in-Err-clause-callers
returns-in-Err-clause-callers g c =
    let see : Shared g.row.R.Denot g.row.D.Denot g.row.P.Denot g.row.J.Denot → CallerView =
    λ shared. view_of_shared shared.turns.now shared.pass g.J.Contents.contents in
    let channels = c.args.channels.now in
    let k = c.args.page % length c.args.channels.now in
    let low : k < length channels = search rules in
    let one = slice_index_or channels k c.index-channels-channel.result in
    let known = c.requires.known k (see one) (seen_at see channels k low c.index-channels-channel.result) in
    subst (AreSameCallers (map see channels)) (seen_set see channels k low c.index-channels-channel.result c.refresh.new.steps)
    (same_callers (map see channels) k (see one) (seen_at see channels k low c.index-channels-channel.result) (see c.refresh.new.steps) c.in-Err.ensures.caller)

pub returns-in-Err-clause-known : goal.returns-in-Err-clause-known
returns-in-Err-clause-known g c =
    let see : Shared g.row.R.Denot g.row.D.Denot g.row.P.Denot g.row.J.Denot → CallerView =
    λ shared. view_of_shared shared.turns.now shared.pass g.J.Contents.contents in
    let channels = c.args.channels.now in
    let k = c.args.page % length c.args.channels.now in
    let low : k < length channels = search rules in
    let one = slice_index_or channels k c.index-channels-channel.result in
    let known = c.requires.known k (see one) (seen_at see channels k low c.index-channels-channel.result) in
    subst (AreKnown (settings c.args.worker.now) c.args.tag.actor) (seen_set see channels k low c.index-channels-channel.result c.refresh.new.steps)
    (known_callers (map see channels) k (see one) (seen_at see channels k low c.index-channels-channel.result) (see c.refresh.new.steps)
    (settings c.args.worker.now) c.args.tag.actor c.requires.known
    (known_after c.args.worker.now c.args.tag.actor one.turns.now one.pass g.J.Contents.contents known c.refresh.new.steps.turns.now
    c.refresh.new.steps.pass c.in-Err.ensures.caller
    (c.in-Err.ensures.goes_on one.turns.now.start g.J.Contents.contents
    (works c.args.worker.now c.args.tag.actor one.turns.now one.pass g.J.Contents.contents known) known.is_of (refl, refl)).0))

pub returns-in-Err-clause-refreshes : goal.returns-in-Err-clause-refreshes
returns-in-Err-clause-refreshes g c =
    let see : Shared g.row.R.Denot g.row.D.Denot g.row.P.Denot g.row.J.Denot → CallerView =
    λ shared. view_of_shared shared.turns.now shared.pass g.J.Contents.contents in
    let channels = c.args.channels.now in
    let k = c.args.page % length c.args.channels.now in
    let low : k < length channels = search rules in
    let one = slice_index_or channels k c.index-channels-channel.result in
    let known = c.requires.known k (see one) (seen_at see channels k low c.index-channels-channel.result) in
    let start = one.turns.now.start in
    let contents = g.J.Contents.contents in
    let made =
    c.in-Err.ensures.made start contents
    (works c.args.worker.now c.args.tag.actor one.turns.now one.pass contents known) known.is_of (refl, refl) in
    subst
    (λ (stop : ServeStop). RefreshesPage (map see channels) (map see (slice_set channels k c.refresh.new.steps)) c.args.tag c.args.page
    (Err stop)) (sym c.stop_on.ensures)
    (subst
    (λ (news : List CallerView). RefreshesPage (map see channels) news c.args.tag c.args.page (Err (stop_on k c.in-Err.stop)))
    (seen_set see channels k low c.index-channels-channel.result c.refresh.new.steps)
    (refresh_stops see channels k low c.index-channels-channel.result c.refresh.new.steps start contents refl c.args.tag
    c.args.page refl c.in-Err.stop
    (refused_came HasLookRoom (MakesLook (see one).shape c.args.tag c.row_of.result) c.args.tag (see one)
    (record (see one) { seen = (see c.refresh.new.steps).seen }) c.in-Err.stop made)
    (refresh_tells start contents (see one) c.args.tag c.row_of.result (see c.refresh.new.steps).seen c.in-Err.stop made)))
