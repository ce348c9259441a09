use Rattle.std.proofs.Common.{◌≡◌, ◌<◌, ◌≤◌, ◌*◌, ◌/◌, ◌∷◌, ◌++◌, ◌∙◌, [], ap, arith, length, length-append, map, refl, subst, sym}
use Rattle.std.specs.Prelude.{List, Ok, ℕ}
use Rattle.std.proofs.Math.Nat.{div-lt_iff_lt-mul}
use Rattle.std.proofs.lemmas.List.{length-map}
use Rattle.chan_calls.specs.Caller.{CallerView}
use Rattle.chan_calls.specs.Workers.{WorkerState}
use Rattle.hint_queue.specs.Orders.{HintPassState, having_taken}
use Rattle.shared_steps.specs.Sharing.{view_of_shared}
use Rattle.shared_steps.specs.declared.shared.Shared.{Shared}
use Rattle.ssd_geo.specs.declared.reply.RefreshReply.{RefreshReply}
use Rattle.ssd_geo.specs.declared.reply.Reply.{Reply}
use Rattle.ssd_geo.specs.declared.shape.Shape.{Shape}
use Rattle.ssd_geo.specs.declared.trace.Verb.{Verb}
use Rattle.actor_calls.specs.Hinted.{DrainsPass}
use Rattle.actor_calls.specs.Known.{AreKnown}
use Rattle.actor_calls.specs.Served.{ServesCall}
use Rattle.actor_calls.proofs.DrainSteps.{DrainsSoFar, drain_begins, drain_ends, drain_faults, drain_more, drain_refused, drain_stops, fault_takes}
use Rattle.actor_calls.proofs.DrainedChannels.{same_then}
use Rattle.actor_calls.proofs.EachChannel.{all_same}
use Rattle.actor_calls.proofs.draining.drain.Goals as goal

-- no page was refreshed as it begins
pub loop-init : goal.loop-init
loop-init g c =
    let see : Shared g.row.R.Denot g.row.D.Denot g.row.P.Denot g.row.J.Denot → CallerView =
    λ shared. view_of_shared shared.turns.now shared.pass g.J.Contents.contents in
    let olds = map see c.args.channels.now in
    record {
      same = refl;
      callers = all_same olds;
      known = c.requires.known;
      so_far =
          subst (λ (pages : List (ℕ × RefreshReply)). DrainsSoFar olds olds c.args.tag pages c.args.pass c.args.pass)
          (sym c.in-Ok.ensures.items) (drain_begins olds c.args.tag c.args.pass);
      queue = c.requires.queue;
      count = ap (length {A = ℕ × RefreshReply}) c.in-Ok.ensures.items;
      len = c.in-Ok.ensures.len;
      room = c.in-Ok.ensures.capacity;
    }

-- memory for its reply was refused before it
pub returns-in_default-clause-serves : goal.returns-in_default-clause-serves
returns-in_default-clause-serves g c =
    let see : Shared g.row.R.Denot g.row.D.Denot g.row.P.Denot g.row.J.Denot → CallerView =
    λ shared. view_of_shared shared.turns.now shared.pass g.J.Contents.contents in
    let olds = map see c.args.channels.now in
    drain_refused c.drains_among_are_drains.ensures c.drains_stop_begun.ensures olds c.args.tag c.args.count c.args.pass

-- no hint waits
pub returns-in_default-found-clause-serves : goal.returns-in_default-found-clause-serves
returns-in_default-found-clause-serves g c =
    let see : Shared g.row.R.Denot g.row.D.Denot g.row.P.Denot g.row.J.Denot → CallerView =
    λ shared. view_of_shared shared.turns.now shared.pass g.J.Contents.contents in
    let olds = map see c.args.channels.now in
    let mids = map see c.loop.channels in
    let so_far = c.loop.invariant in
    let pages = c.loop.pages.items in
    let few : length pages ≤ c.args.count = omega (arith, so_far.count, c.loop-test.true) in
    subst (λ (reply : Reply). ServesCall olds mids c.args.tag (Verb.Drain c.args.count) (Ok reply)) (sym c.drained.ensures)
    (drain_ends c.drains_among_are_drains.ensures c.drains_stop_begun.ensures olds c.args.tag c.args.count c.args.pass mids pages c.loop.pass so_far.so_far few)

-- the page of the next hint is one of the drive's
pub refresh_page-requires-clause-row : goal.refresh_page-requires-clause-row
refresh_page-requires-clause-row g c κs within =
    let see : Shared g.row.R.Denot g.row.D.Denot g.row.P.Denot g.row.J.Denot → CallerView =
    λ shared. view_of_shared shared.turns.now shared.pass g.J.Contents.contents in
    let olds = map see c.args.channels.now in
    let n = length c.args.channels.now in
    let page = c.in-Some.page in
    let rows = c.args.worker.now.shape.rows in
    let low : page < c.args.hints.now.pages = rw c.in-Some.is at c.pop-next.ensures.page in
    let below : page < rows * n = subst (λ (m : ℕ). page < m) c.requires.pages low in
    let fits : page / n < rows = (div-lt_iff_lt-mul {k = n} {x = page} {y = rows} c.requires.low).1 below in
    let many : length c.loop.channels ≡ n =
    sym (length-map c.loop.channels see) ∙ c.loop.invariant.callers.as_many ∙ length-map c.args.channels.now see in
    let same : c.loop.worker.shape ≡ c.args.worker.now.shape =
    ap (λ (worker : WorkerState). worker.shape) c.loop.invariant.same in
    subst (λ (count : ℕ). page / count < c.loop.worker.shape.rows) (sym many)
    (subst (λ (shape : Shape). page / n < shape.rows) (sym same) fits)

pub refresh_page-requires-clause-known : goal.refresh_page-requires-clause-known
refresh_page-requires-clause-known g c κs within =
    let see : Shared g.row.R.Denot g.row.D.Denot g.row.P.Denot g.row.J.Denot → CallerView =
    λ shared. view_of_shared shared.turns.now shared.pass g.J.Contents.contents in
    let olds = map see c.args.channels.now in
    let mids = map see c.loop.channels in
    let so_far = c.loop.invariant in
    let pages = c.loop.pages.items in
    subst (λ (worker : WorkerState). AreKnown worker c.args.tag.actor mids) (sym so_far.same) so_far.known

-- the drain goes on
pub loop-preserved : goal.loop-preserved
loop-preserved g c =
    let see : Shared g.row.R.Denot g.row.D.Denot g.row.P.Denot g.row.J.Denot → CallerView =
    λ shared. view_of_shared shared.turns.now shared.pass g.J.Contents.contents in
    let olds = map see c.args.channels.now in
    let mids = map see c.loop.channels in
    let so_far = c.loop.invariant in
    let pages = c.loop.pages.items in
    let news = map see c.refresh_page.new.channels in
    let taken = c.pop-next.result.0 in
    let takes : taken ≡ having_taken c.loop.pass c.in-Some.page = rw c.in-Some.is at c.pop-next.ensures.pass in
    record {
      same = c.in-Ok-refresh_page.ensures.settings ∙ so_far.same;
      callers = same_then olds mids news so_far.callers c.in-Ok-refresh_page.ensures.callers;
      known =
          subst (λ (worker : WorkerState). AreKnown worker c.args.tag.actor news) so_far.same
          c.in-Ok-refresh_page.ensures.known;
      so_far =
          subst (λ (all : List (ℕ × RefreshReply)). DrainsSoFar olds news c.args.tag all c.args.pass taken)
          (sym c.push_reserved.ensures.items)
          (drain_more c.drains_among_are_drains.ensures c.drains_stop_begun.ensures olds c.args.tag c.args.count c.args.pass mids pages c.loop.pass so_far.so_far so_far.callers c.in-Some.page taken takes news
          c.in-Ok-refresh_page.reply c.in-Ok-refresh_page.ensures.refreshes (sym c.is_die_fault.ensures ∙ c.if-is_die_fault.false));
      queue = ap (λ (pass : HintPassState). pass.queue) takes ∙ so_far.queue;
      count =
          let long = ap (length {A = ℕ × RefreshReply}) c.push_reserved.ensures.items in
          let more = length-append pages ((c.in-Some.page, c.in-Ok-refresh_page.reply) ∷ []) in
          omega (arith, long, more, so_far.count);
      len = omega arith;
      room = omega arith;
    }

-- a die's call failed in it
pub returns-then-is_die_fault-clause-callers : goal.returns-then-is_die_fault-clause-callers
returns-then-is_die_fault-clause-callers g c =
    let see : Shared g.row.R.Denot g.row.D.Denot g.row.P.Denot g.row.J.Denot → CallerView =
    λ shared. view_of_shared shared.turns.now shared.pass g.J.Contents.contents in
    let olds = map see c.args.channels.now in
    let mids = map see c.loop.channels in
    let so_far = c.loop.invariant in
    let pages = c.loop.pages.items in
    let news = map see c.refresh_page.new.channels in
    same_then olds mids news so_far.callers c.in-Ok-refresh_page.ensures.callers

pub returns-then-is_die_fault-clause-serves : goal.returns-then-is_die_fault-clause-serves
returns-then-is_die_fault-clause-serves g c =
    let see : Shared g.row.R.Denot g.row.D.Denot g.row.P.Denot g.row.J.Denot → CallerView =
    λ shared. view_of_shared shared.turns.now shared.pass g.J.Contents.contents in
    let olds = map see c.args.channels.now in
    let mids = map see c.loop.channels in
    let so_far = c.loop.invariant in
    let pages = c.loop.pages.items in
    let news = map see c.refresh_page.new.channels in
    let taken = c.pop-next.result.0 in
    let takes : taken ≡ having_taken c.loop.pass c.in-Some.page = rw c.in-Some.is at c.pop-next.ensures.pass in
    let more = length-append pages ((c.in-Some.page, c.in-Ok-refresh_page.reply) ∷ []) in
    let few : length (pages ++ (c.in-Some.page, c.in-Ok-refresh_page.reply) ∷ []) ≤ c.args.count =
    omega (arith, more, so_far.count, c.loop-test.true) in
    subst (λ (reply : Reply). ServesCall olds news c.args.tag (Verb.Drain c.args.count) (Ok reply))
    (sym (c.drained-then-is_die_fault.ensures ∙ ap Reply.Drained c.push_reserved.ensures.items))
    (drain_faults c.drains_among_are_drains.ensures c.drains_stop_begun.ensures olds c.args.tag c.args.count c.args.pass mids pages c.loop.pass so_far.so_far so_far.callers c.in-Some.page taken takes news
    c.in-Ok-refresh_page.reply c.in-Ok-refresh_page.ensures.refreshes few)

pub returns-then-is_die_fault-clause-hints : goal.returns-then-is_die_fault-clause-hints
returns-then-is_die_fault-clause-hints g c =
    let see : Shared g.row.R.Denot g.row.D.Denot g.row.P.Denot g.row.J.Denot → CallerView =
    λ shared. view_of_shared shared.turns.now shared.pass g.J.Contents.contents in
    let olds = map see c.args.channels.now in
    let mids = map see c.loop.channels in
    let so_far = c.loop.invariant in
    let pages = c.loop.pages.items in
    let news = map see c.refresh_page.new.channels in
    let taken = c.pop-next.result.0 in
    let takes : taken ≡ having_taken c.loop.pass c.in-Some.page = rw c.in-Some.is at c.pop-next.ensures.pass in
    subst (λ (reply : Reply). DrainsPass c.args.count (Ok reply) c.args.pass taken)
    (sym (c.drained-then-is_die_fault.ensures ∙ ap Reply.Drained c.push_reserved.ensures.items))
    (fault_takes c.drains_among_are_drains.ensures c.drains_stop_begun.ensures olds c.args.tag c.args.count c.args.pass mids pages c.loop.pass so_far.so_far so_far.callers c.in-Some.page taken takes news
    c.in-Ok-refresh_page.reply c.in-Ok-refresh_page.ensures.refreshes (sym c.is_die_fault.ensures ∙ c.if-is_die_fault.true))

-- it stopped
pub returns-in-Err-clause-callers : goal.returns-in-Err-clause-callers
returns-in-Err-clause-callers g c =
    let see : Shared g.row.R.Denot g.row.D.Denot g.row.P.Denot g.row.J.Denot → CallerView =
    λ shared. view_of_shared shared.turns.now shared.pass g.J.Contents.contents in
    let olds = map see c.args.channels.now in
    let mids = map see c.loop.channels in
    let so_far = c.loop.invariant in
    let pages = c.loop.pages.items in
    let news = map see c.refresh_page.new.channels in
    same_then olds mids news so_far.callers c.in-Err.ensures.callers

pub returns-in-Err-clause-serves : goal.returns-in-Err-clause-serves
returns-in-Err-clause-serves g c =
    let see : Shared g.row.R.Denot g.row.D.Denot g.row.P.Denot g.row.J.Denot → CallerView =
    λ shared. view_of_shared shared.turns.now shared.pass g.J.Contents.contents in
    let olds = map see c.args.channels.now in
    let mids = map see c.loop.channels in
    let so_far = c.loop.invariant in
    let pages = c.loop.pages.items in
    let news = map see c.refresh_page.new.channels in
    let taken = c.pop-next.result.0 in
    let takes : taken ≡ having_taken c.loop.pass c.in-Some.page = rw c.in-Some.is at c.pop-next.ensures.pass in
    let low : length pages < c.args.count = omega (arith, so_far.count, c.loop-test.true) in
    drain_stops c.drains_among_are_drains.ensures c.drains_stop_begun.ensures olds c.args.tag c.args.count c.args.pass mids pages c.loop.pass so_far.so_far so_far.callers c.in-Some.page taken takes news
    c.in-Err.stop c.in-Err.ensures.refreshes low

-- it has as many pages as it was asked for
pub returns-clause-serves : goal.returns-clause-serves
returns-clause-serves g c =
    let see : Shared g.row.R.Denot g.row.D.Denot g.row.P.Denot g.row.J.Denot → CallerView =
    λ shared. view_of_shared shared.turns.now shared.pass g.J.Contents.contents in
    let olds = map see c.args.channels.now in
    let mids = map see c.loop.channels in
    let so_far = c.loop.invariant in
    let pages = c.loop.pages.items in
    let few : length pages ≤ c.args.count = omega (arith, so_far.count, c.loop-test.false) in
    subst (λ (reply : Reply). ServesCall olds mids c.args.tag (Verb.Drain c.args.count) (Ok reply)) (sym c.drained-2.ensures)
    (drain_ends c.drains_among_are_drains.ensures c.drains_stop_begun.ensures olds c.args.tag c.args.count c.args.pass mids pages c.loop.pass so_far.so_far few)
