use borrow.Author.Rules.{rules, scaled_fits≤}
use Rattle.std.proofs.Common.{◌<◌, ◌≤◌, [], Err, arith, length, map, subst, sym}
use Rattle.std.specs.Prelude.{Ok, slice_set}
use Rattle.ctl.proofs.SeenChannels.{few_channels, fits, low, may_serve_on, seen_by, serves_on_one}
use Rattle.ctl.specs.Asked.{settings}
use Rattle.ctl.specs.OnOne.{ServesOnOne}
use Rattle.ssd_geo.specs.declared.stop.ServeStop.{ServeStop}
use Rattle.ctl.proofs.serving.serve_on_one.Goals as goal

-- the call's channel is one of the drive's
pub bounds-channels-channel : goal.bounds-channels-channel
bounds-channels-channel g c =
    low (seen_by g.P.Policy.told) c.args.channels.now (settings c.args.worker.now) [] c.args.call.now c.requires.may
    c.channel_of-channel.result c.channel_of-channel.ensures

pub offset_bounds-channels-channel : goal.offset_bounds-channels-channel
offset_bounds-channels-channel g c =
    let within : c.channel_of-channel.result < length c.args.channels.now =
    low (seen_by g.P.Policy.told) c.args.channels.now (settings c.args.worker.now) [] c.args.call.now c.requires.may
    c.channel_of-channel.result c.channel_of-channel.ensures in
    search (rules, scaled_fits≤)

pub stop_on-requires : goal.stop_on-requires
stop_on-requires g c =
    let within : c.channel_of-channel.result < length c.args.channels.now =
    low (seen_by g.P.Policy.told) c.args.channels.now (settings c.args.worker.now) [] c.args.call.now c.requires.may
    c.channel_of-channel.result c.channel_of-channel.ensures in
    let few : length c.args.channels.now ≤ 8 =
    few_channels (seen_by g.P.Policy.told) c.args.channels.now (settings c.args.worker.now) [] c.args.call.now c.requires.may in
    omega (arith, within, few)

-- it may be served there, and fits the drive
pub call_on-requires-clause-may : goal.call_on-requires-clause-may
call_on-requires-clause-may g c =
    may_serve_on (seen_by g.P.Policy.told) c.args.channels.now (settings c.args.worker.now) [] c.args.call.now c.requires.may
    c.channel_of-channel.result c.channel_of-channel.ensures c.index-channels-channel.result

pub call_on-requires-clause-fits : goal.call_on-requires-clause-fits
call_on-requires-clause-fits g c =
    fits (seen_by g.P.Policy.told) c.args.channels.now (settings c.args.worker.now) [] c.args.call.now c.requires.may

-- and so it was served, or stopped
pub returns-in-Ok-clause-serves : goal.returns-in-Ok-clause-serves
returns-in-Ok-clause-serves g c =
    serves_on_one (seen_by g.P.Policy.told) c.args.channels.now (settings c.args.worker.now) [] c.args.call.now c.requires.may
    c.channel_of-channel.result c.channel_of-channel.ensures c.index-channels-channel.result c.call_on.new.channel
    (Ok c.in-Ok.reply) c.in-Ok.ensures.ends

pub returns-in-Err-clause-serves : goal.returns-in-Err-clause-serves
returns-in-Err-clause-serves g c =
    subst (λ (stop : ServeStop). ServesOnOne (settings c.args.worker.now) (map (seen_by g.P.Policy.told) c.args.channels.now)
    (map (seen_by g.P.Policy.told)
    (slice_set c.args.channels.now c.channel_of-channel.result c.call_on.new.channel)) c.args.call.now (Err stop))
    (sym c.stop_on.ensures)
    (serves_on_one (seen_by g.P.Policy.told) c.args.channels.now (settings c.args.worker.now) [] c.args.call.now c.requires.may
    c.channel_of-channel.result c.channel_of-channel.ensures c.index-channels-channel.result c.call_on.new.channel
    (Err c.in-Err.stop) c.in-Err.ensures.ends)
