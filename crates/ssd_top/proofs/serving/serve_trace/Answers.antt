use Rattle.std.proofs.Common.{◌≡◌, ◌<◌, ◌+◌, ◌∙◌, Global, List, Vec, ap, arith, length, map, subst, sym, take}
use Rattle.std.specs.Prelude.{ℕ}
use Rattle.std.proofs.lemmas.List.{length-map}
use Rattle.ctl.proofs.SeenChannels.{seen_by}
use Rattle.ctl.specs.Asked.{settings}
use Rattle.run_laws.specs.SerialRuns.{with_reply}
use Rattle.run_laws.specs.ServedRuns.{dropped_after}
use Rattle.ssd_geo.specs.declared.reply.Reply.{Reply}
use Rattle.ssd_top.specs.Running.{HasStopped, RunsTo, waiting_after}
use Rattle.ssd_top.proofs.TraceRuns.{actor_is_low, as_long, dropped_at_most, hints_wait, may_serve, one_more_call, runs_stop, runs_whole}
use Rattle.ssd_top.proofs.serving.serve_trace.Goals as goal

-- the lists of replies
abbrev list_of : Vec Reply Global → List Reply
list_of list = list.items

abbrev lists_of : List (Vec Reply Global) → List (List Reply)
lists_of lists = map list_of lists

-- a fact of two numbers is one of their equals
moved : (P : ℕ → ℕ → Type 0) {a b c d : ℕ} → a ≡ b → c ≡ d → P a c → P b d
moved P {a} {b} {c} {d} first second holds =
    subst (λ (n : ℕ). P n d) first (subst (λ (n : ℕ). P a n) second holds)

-- the next call may be served
pub serve_one-requires-clause-may : goal.serve_one-requires-clause-may
serve_one-requires-clause-may g c =
    let so_far = c.loop-call.invariant in
    may_serve (settings c.args.worker.now) (map (seen_by g.P.Policy.told) c.args.channels.now) c.args.trace.now
    (settings c.loop-call.worker) so_far.same (map (seen_by g.P.Policy.told) c.loop-call.channels)
    (lists_of c.loop-call.replies.items) c.loop-call.hints c.loop-call.dropped
    c.loop-call.call-index c.as_slice-call-items.result.now so_far.items c.call-item.result
    so_far.runs c.loop-call-test.true c.call-item.is c.requires.begins

-- where the call finds no room, the run stops
pub returns-in-Err-HistoryFull-clause-ok : goal.returns-in-Err-HistoryFull-clause-ok
returns-in-Err-HistoryFull-clause-ok g c job is_trace began =
    let so_far = c.loop-call.invariant in
    let told = rw c.in-Err-HistoryFull.field-0-is at c.in-Err-HistoryFull.ensures.serves in
    moved (λ channel entries. HasStopped job (settings c.args.worker.now)
    (map (seen_by g.P.Policy.told) c.serve_one.new.channels) (lists_of c.loop-call.replies.items) c.loop-call.dropped channel
    entries)
    (sym c.in-Err-HistoryFull.channel-is) (sym c.in-Err-HistoryFull.length-is)
    (runs_stop (settings c.args.worker.now) (map (seen_by g.P.Policy.told) c.args.channels.now) c.args.trace.now
    (settings c.loop-call.worker) so_far.same (map (seen_by g.P.Policy.told) c.loop-call.channels)
    (lists_of c.loop-call.replies.items) c.loop-call.hints c.loop-call.dropped
    c.loop-call.call-index c.as_slice-call-items.result.now so_far.items c.call-item.result
    so_far.runs c.loop-call-test.true c.call-item.is
    (map (seen_by g.P.Policy.told) c.serve_one.new.channels) c.serve_one.new.hints c.in-Err-HistoryFull.channel
    c.in-Err-HistoryFull.length told job is_trace began)

-- after the last call the run is whole
pub returns-clause-ok : goal.returns-clause-ok
returns-clause-ok g c job is_trace began =
    let so_far = c.loop-call.invariant in (
      c.loop-call.hints,
      runs_whole (settings c.args.worker.now) (map (seen_by g.P.Policy.told) c.args.channels.now) c.args.trace.now
          (map (seen_by g.P.Policy.told) c.loop-call.channels) (lists_of c.loop-call.replies.items) c.loop-call.hints
          c.loop-call.dropped c.loop-call.call-index
          c.as_slice-call-items.result.now so_far.items c.loop-call-test.false so_far.runs
          job is_trace began,
    )

-- the reply took no more hints than waited
pub waiting_after-waiting-requires : goal.waiting_after-waiting-requires
waiting_after-waiting-requires g c =
    let so_far = c.loop-call.invariant in
    let waits =
    hints_wait (settings c.args.worker.now) (map (seen_by g.P.Policy.told) c.args.channels.now) c.args.trace.now
    (settings c.loop-call.worker) so_far.same (map (seen_by g.P.Policy.told) c.loop-call.channels)
    (lists_of c.loop-call.replies.items) c.loop-call.hints c.loop-call.dropped
    c.loop-call.call-index c.as_slice-call-items.result.now so_far.items c.call-item.result
    so_far.runs c.loop-call-test.true c.call-item.is c.requires.begins
    (map (seen_by g.P.Policy.told) c.serve_one.new.channels) c.serve_one.new.hints c.in-Ok.reply c.in-Ok.ensures.serves in
    record { taken = omega (arith, waits.taken, so_far.waiting_is) }

-- there is a list for the call's actor
pub add_reply-requires : goal.add_reply-requires
add_reply-requires g c =
    let so_far = c.loop-call.invariant in
    subst (λ n. c.call-item.result.tag.actor < n) (length-map c.loop-call.replies.items list_of)
    (actor_is_low (settings c.args.worker.now) (map (seen_by g.P.Policy.told) c.args.channels.now) c.args.trace.now
    (settings c.loop-call.worker) so_far.same (map (seen_by g.P.Policy.told) c.loop-call.channels)
    (lists_of c.loop-call.replies.items) c.loop-call.hints c.loop-call.dropped
    c.loop-call.call-index c.as_slice-call-items.result.now so_far.items c.call-item.result
    so_far.runs c.loop-call-test.true c.call-item.is c.requires.begins)

-- served, the call leads each run on, and its hints are counted
pub loop-call-preserved : goal.loop-call-preserved
loop-call-preserved g c =
    let so_far = c.loop-call.invariant in
    let reply = c.in-Ok.reply in
    let waits =
    hints_wait (settings c.args.worker.now) (map (seen_by g.P.Policy.told) c.args.channels.now) c.args.trace.now
    (settings c.loop-call.worker) so_far.same (map (seen_by g.P.Policy.told) c.loop-call.channels)
    (lists_of c.loop-call.replies.items) c.loop-call.hints c.loop-call.dropped
    c.loop-call.call-index c.as_slice-call-items.result.now so_far.items c.call-item.result
    so_far.runs c.loop-call-test.true c.call-item.is c.requires.begins
    (map (seen_by g.P.Policy.told) c.serve_one.new.channels) c.serve_one.new.hints reply c.in-Ok.ensures.serves in
    let dropped_is : dropped_after reply (length c.loop-call.hints) c.loop-call.dropped ≡ c.dropped_after-dropped.result =
    sym (c.dropped_after-dropped.ensures
    ∙ ap (λ (waiting : ℕ). dropped_after reply waiting c.loop-call.dropped) so_far.waiting_is) in
    record {
      same = c.in-Ok.ensures.same ∙ so_far.same;
      same_trace = so_far.same_trace;
      items = so_far.items;
      runs =
          subst
          (λ replies. RunsTo (settings c.args.worker.now) (map (seen_by g.P.Policy.told) c.args.channels.now)
          (map (seen_by g.P.Policy.told) c.serve_one.new.channels) c.args.trace.now
          (take (c.loop-call.call-index + 1) c.args.trace.now.calls) replies c.serve_one.new.hints c.dropped_after-dropped.result)
          (sym c.in_ok-add_reply.ensures)
          (subst
          (λ dropped. RunsTo (settings c.args.worker.now) (map (seen_by g.P.Policy.told) c.args.channels.now)
          (map (seen_by g.P.Policy.told) c.serve_one.new.channels) c.args.trace.now
          (take (c.loop-call.call-index + 1) c.args.trace.now.calls)
          (with_reply (lists_of c.loop-call.replies.items) c.call-item.result.tag.actor reply) c.serve_one.new.hints dropped)
          dropped_is
          (one_more_call (settings c.args.worker.now) (map (seen_by g.P.Policy.told) c.args.channels.now) c.args.trace.now
          (settings c.loop-call.worker) so_far.same (map (seen_by g.P.Policy.told) c.loop-call.channels)
          (lists_of c.loop-call.replies.items) c.loop-call.hints c.loop-call.dropped
          c.loop-call.call-index c.as_slice-call-items.result.now so_far.items c.call-item.result
          so_far.runs c.loop-call-test.true c.call-item.is
          (map (seen_by g.P.Policy.told) c.serve_one.new.channels) c.serve_one.new.hints reply c.in-Ok.ensures.serves));
      waiting_is =
          c.waiting_after-waiting.ensures ∙ ap (λ (waiting : ℕ). waiting_after reply waiting) so_far.waiting_is
          ∙ sym waits.left_is;
      few_dropped =
          let one = dropped_at_most reply c.loop-call.waiting c.loop-call.dropped in
          omega (arith, one, so_far.few_dropped, c.dropped_after-dropped.ensures);
      page_room =
          as_long c.loop-call.bytes.len c.args.worker.now.shape.bytes c.serve_one.new.bytes
          c.loop-call.bytes.items c.loop-call.bytes.ok.0
          (c.in-Ok.ensures.bytes ∙ ap length c.deref_mut.ensures.value) so_far.page_room;
    }
