use Rattle.std.proofs.Common.{Err, ◌%◌, length, map, refl, subst, sym}
use Rattle.std.specs.Prelude.{Ok, slice_set}
use Rattle.ctl.proofs.SeenChannels.{may_refresh_on, refreshes_page, seen_by}
use Rattle.ctl.specs.Asked.{settings}
use Rattle.ctl.specs.Draining.{Refreshes}
use Rattle.ssd_geo.specs.declared.stop.ServeStop.{ServeStop}
use Rattle.ctl.proofs.draining.refresh_page.Goals as goal

-- it may be refreshed on its channel
pub refresh_on-requires-clause-may : goal.refresh_on-requires-clause-may
refresh_on-requires-clause-may g c =
    may_refresh_on (seen_by g.P.Policy.told) c.args.channels.now (settings c.args.worker.now) c.requires.may
    (c.args.page % length c.args.channels.now) c.args.page refl c.index-channels-channel.result

-- and so it was
pub returns-in-Ok-clause-refreshes : goal.returns-in-Ok-clause-refreshes
returns-in-Ok-clause-refreshes g c =
    refreshes_page (seen_by g.P.Policy.told) c.args.channels.now (settings c.args.worker.now) c.requires.may
    (c.args.page % length c.args.channels.now) c.args.page refl c.index-channels-channel.result c.args.tag
    c.refresh_on.new.channel c.row_of.result c.row_of.ensures (Ok c.in-Ok.reply) c.in-Ok.ensures.ends

-- or its look found no room
pub returns-in-Err-clause-refreshes : goal.returns-in-Err-clause-refreshes
returns-in-Err-clause-refreshes g c =
    subst (λ (stop : ServeStop). Refreshes (settings c.args.worker.now) (map (seen_by g.P.Policy.told) c.args.channels.now)
    (map (seen_by g.P.Policy.told)
    (slice_set c.args.channels.now (c.args.page % length c.args.channels.now) c.refresh_on.new.channel)) c.args.tag c.args.page
    (Err stop)) (sym c.stop_on.ensures)
    (refreshes_page (seen_by g.P.Policy.told) c.args.channels.now (settings c.args.worker.now) c.requires.may
    (c.args.page % length c.args.channels.now) c.args.page refl c.index-channels-channel.result c.args.tag
    c.refresh_on.new.channel c.row_of.result c.row_of.ensures (Err c.in-Err.stop) c.in-Err.ensures.ends)
