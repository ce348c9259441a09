use Rattle.std.proofs.Common.{◌≡◌, ◌<◌, ◌≤◌, ◌∷◌, ◌∙◌, [], Err, ℕ, ap, arith, length, map, refl, subst, sym, length-append}
use Rattle.chan_calls.specs.Workers.{WorkerState}
use Rattle.ctl.proofs.DrainSteps.{DrainsSoFar, drain_begins, drain_faults, drain_goes_on, drain_is_not_begun, drain_is_refused, has_all, may_go_on, none_waits, page_here}
use Rattle.ctl.proofs.SeenChannels.{seen_by}
use Rattle.ctl.proofs.ServedCalls.{is_that_stop}
use Rattle.ctl.specs.Asked.{settings}
use Rattle.ctl.specs.Draining.{Drains, HasDrained, IsRefreshed, MayRefresh, Refreshes}
use Rattle.ssd_geo.specs.declared.reply.RefreshReply.{RefreshReply}
use Rattle.ssd_geo.specs.declared.reply.Reply.{Reply}
use Rattle.ctl.proofs.draining.drain.Goals as goal

-- no page was refreshed as it begins
pub loop-init : goal.loop-init
loop-init g c = record {
  same = refl;
  so_far =
      subst
      (DrainsSoFar (settings c.args.worker.now) (map (seen_by g.P.Policy.told) c.args.channels.now)
      (map (seen_by g.P.Policy.told) c.args.channels.now) c.args.hints.now c.args.hints.now c.args.tag) (sym c.in-Ok.ensures.items)
      (drain_begins (settings c.args.worker.now) (map (seen_by g.P.Policy.told) c.args.channels.now) c.args.hints.now c.args.tag);
  count = ap (length {A = ℕ × RefreshReply}) c.in-Ok.ensures.items;
  len = c.in-Ok.ensures.len;
  room = c.in-Ok.ensures.capacity;
}

-- memory for its reply was refused before it
pub returns-in_default-clause-drains : goal.returns-in_default-clause-drains
returns-in_default-clause-drains g c =
    drain_is_not_begun (settings c.args.worker.now) (map (seen_by g.P.Policy.told) c.args.channels.now) c.args.hints.now c.args.tag
    c.args.count

-- no hint waits
pub returns-in_default-take_front-clause-drains : goal.returns-in_default-take_front-clause-drains
returns-in_default-take_front-clause-drains g c =
    let so_far = c.loop.invariant in
    let low : length c.loop.pages.items ≤ c.args.count = omega (arith, so_far.count, c.loop-test.true) in
    subst
    (HasDrained (settings c.args.worker.now) (map (seen_by g.P.Policy.told) c.args.channels.now)
    (map (seen_by g.P.Policy.told) c.loop.channels) c.args.hints.now c.take_front.new.self c.args.tag c.args.count)
    (sym c.drained.ensures)
    (none_waits (settings c.args.worker.now) (map (seen_by g.P.Policy.told) c.args.channels.now)
    (map (seen_by g.P.Policy.told) c.loop.channels) c.args.hints.now c.loop.hints c.args.tag c.loop.pages.items so_far.so_far
    c.take_front.new.self c.args.count low c.in_default-take_front.ensures.front.0 c.in_default-take_front.ensures.front.1)

-- the page of the next hint may be refreshed
pub refresh_page-requires-clause-may : goal.refresh_page-requires-clause-may
refresh_page-requires-clause-may g c =
    let so_far = c.loop.invariant in
    subst (λ (worker : WorkerState). MayRefresh worker (map (seen_by g.P.Policy.told) c.loop.channels)) (sym so_far.same)
    (may_go_on (settings c.args.worker.now) (map (seen_by g.P.Policy.told) c.args.channels.now)
    (map (seen_by g.P.Policy.told) c.loop.channels) c.args.hints.now c.loop.hints c.args.tag c.loop.pages.items so_far.so_far
    c.requires.may)

pub refresh_page-requires-clause-page : goal.refresh_page-requires-clause-page
refresh_page-requires-clause-page g c =
    let so_far = c.loop.invariant in
    page_here (seen_by g.P.Policy.told) c.args.channels.now (settings c.args.worker.now) c.loop.channels
    (settings c.loop.worker) so_far.same c.args.hints.now c.loop.hints c.args.tag c.loop.pages.items so_far.so_far c.requires.fit
    c.in-Some.page c.take_front.new.self c.in-Some.ensures.front

-- its refresh was refused
pub returns-in_err-reply-clause-drains : goal.returns-in_err-reply-clause-drains
returns-in_err-reply-clause-drains g c =
    let so_far = c.loop.invariant in
    let low : length c.loop.pages.items < c.args.count = omega (arith, so_far.count, c.loop-test.true) in
    let olds = map (seen_by g.P.Policy.told) c.args.channels.now in
    let nexts = map (seen_by g.P.Policy.told) c.refresh_page.new.channels in
    subst
    (Drains (settings c.args.worker.now) olds nexts c.args.hints.now c.take_front.new.self c.args.tag c.args.count)
    (sym (is_that_stop c.from_residual.result c.in_err-reply.field-0.0 c.from_residual.ensures.1))
    (drain_is_refused (settings c.args.worker.now) olds (map (seen_by g.P.Policy.told) c.loop.channels) c.args.hints.now
    c.loop.hints c.args.tag c.loop.pages.items so_far.so_far c.in-Some.page c.take_front.new.self c.in-Some.ensures.front nexts
    c.args.count low c.in_err-reply.field-0.0
    (subst (λ (worker : WorkerState). Refreshes worker (map (seen_by g.P.Policy.told) c.loop.channels) nexts c.args.tag
    c.in-Some.page (Err c.in_err-reply.field-0.0)) so_far.same c.in_err-reply.ensures.refreshes))

-- a die's call failed in it
pub returns-then-is_die_fault-clause-drains : goal.returns-then-is_die_fault-clause-drains
returns-then-is_die_fault-clause-drains g c =
    let so_far = c.loop.invariant in
    let low : length c.loop.pages.items < c.args.count = omega (arith, so_far.count, c.loop-test.true) in
    let olds = map (seen_by g.P.Policy.told) c.args.channels.now in
    let news = map (seen_by g.P.Policy.told) c.loop.channels in
    let nexts = map (seen_by g.P.Policy.told) c.refresh_page.new.channels in
    subst
    (HasDrained (settings c.args.worker.now) olds nexts c.args.hints.now c.take_front.new.self c.args.tag c.args.count)
    (sym (c.drained-then-is_die_fault.ensures ∙ ap Reply.Drained c.push_reserved.ensures.items))
    (drain_faults (settings c.args.worker.now) olds news c.args.hints.now
    c.loop.hints c.args.tag c.loop.pages.items so_far.so_far c.in-Some.page c.take_front.new.self c.in-Some.ensures.front nexts
    c.in_ok-reply.reply
    (subst (λ (worker : WorkerState). IsRefreshed worker news nexts c.args.tag c.in-Some.page c.in_ok-reply.reply) so_far.same
    c.in_ok-reply.ensures.refreshes) c.args.count low (sym c.is_die_fault.ensures ∙ c.if-is_die_fault.true))

-- the drain goes on
pub loop-preserved : goal.loop-preserved
loop-preserved g c =
    let so_far = c.loop.invariant in
    let olds = map (seen_by g.P.Policy.told) c.args.channels.now in
    let news = map (seen_by g.P.Policy.told) c.loop.channels in
    let nexts = map (seen_by g.P.Policy.told) c.refresh_page.new.channels in
    record {
      same = c.in_ok-reply.ensures.same ∙ so_far.same;
      so_far =
          subst (DrainsSoFar (settings c.args.worker.now) olds nexts c.args.hints.now c.take_front.new.self c.args.tag)
          (sym c.push_reserved.ensures.items)
          (drain_goes_on (settings c.args.worker.now) olds news c.args.hints.now
          c.loop.hints c.args.tag c.loop.pages.items so_far.so_far c.in-Some.page c.take_front.new.self c.in-Some.ensures.front
          nexts c.in_ok-reply.reply
          (subst (λ (worker : WorkerState). IsRefreshed worker news nexts c.args.tag c.in-Some.page c.in_ok-reply.reply)
          so_far.same c.in_ok-reply.ensures.refreshes) (sym c.is_die_fault.ensures ∙ c.if-is_die_fault.false));
      count =
          let long = ap (length {A = ℕ × RefreshReply}) c.push_reserved.ensures.items in
          let more = length-append c.loop.pages.items ((c.in-Some.page, c.in_ok-reply.reply) ∷ []) in
          omega (arith, long, more, so_far.count);
      len = omega arith;
      room = omega arith;
    }

-- it has as many pages as it was asked for
pub returns-clause-drains : goal.returns-clause-drains
returns-clause-drains g c =
    let so_far = c.loop.invariant in
    let all : length c.loop.pages.items ≡ c.args.count = omega (arith, so_far.count, c.loop-test.false) in
    subst
    (HasDrained (settings c.args.worker.now) (map (seen_by g.P.Policy.told) c.args.channels.now)
    (map (seen_by g.P.Policy.told) c.loop.channels) c.args.hints.now c.loop.hints c.args.tag c.args.count)
    (sym c.drained-2.ensures)
    (has_all (settings c.args.worker.now) (map (seen_by g.P.Policy.told) c.args.channels.now)
    (map (seen_by g.P.Policy.told) c.loop.channels) c.args.hints.now c.loop.hints c.args.tag c.loop.pages.items so_far.so_far
    c.args.count all)
