use Rattle.std.proofs.Common.{ℕ, suc, ◌≡◌, ◌==◌, ◌∷◌, ◌++◌, ◌∙◌, List, [], ap, arith, drop, eqb-true, false, length, map, refl, subst, sym, take, true}
use Rattle.std.specs.Prelude.{None, Some, slice_get}
use Rattle.std.proofs.lemmas.Bool.{false_from_ne_true}
use Rattle.std.proofs.lemmas.List.{length-map, take-append-drop, take_all}
use Rattle.shared_lemmas.proofs.Tests.{same_number}
use Rattle.chan_calls.specs.Caller.{CallerView}
use Rattle.chan_calls.specs.Workers.{WorkerState}
use Rattle.shared_steps.specs.Sharing.{view_of_shared}
use Rattle.shared_steps.specs.declared.shared.Shared.{Shared}
use Rattle.ssd_geo.specs.declared.reply.Reply.{Reply}
use Rattle.ssd_geo.specs.declared.shape.Shape.{Shape}
use Rattle.ssd_geo.specs.declared.stop.ServeStop.{ServeStop}
use Rattle.ssd_geo.specs.declared.trace.TraceCall.{TraceCall}
use Rattle.ctl.specs.Asked.{FitsDrive, HasOwnData, settings}
use Rattle.race_laws.specs.Races.{calls_of}
use Rattle.actor_calls.specs.Actors.{AreNumbered, HasServed, IsServable}
use Rattle.actor_calls.specs.Known.{AreKnown}
use Rattle.actor_calls.proofs.ActorSteps.{ActsSoFar, acts_all, acts_begin, acts_more, acts_refused, acts_skip, acts_stop, there}
use Rattle.actor_calls.proofs.DrainedChannels.{same_then}
use Rattle.actor_calls.proofs.EachChannel.{all_same}
use Rattle.actor_calls.proofs.NextCalls.{split_at, take_more}
use Rattle.actor_calls.proofs.UsedPasses.{uses_queue}
use Rattle.actor_calls.proofs.acting.serve_actor.Goals.{then-call-actor+in-Ok+in-Ok-result, else-call-actor}
use Rattle.actor_calls.proofs.acting.serve_actor.Goals as goal

-- no call was served as it begins
pub loop-call-init : goal.loop-call-init
loop-call-init g c =
    let see : Shared g.row.R.Denot g.row.D.Denot g.row.P.Denot g.row.J.Denot → CallerView =
    λ shared. view_of_shared shared.turns.now shared.pass g.J.Contents.contents in
    let olds = map see c.args.channels.now in
    record {
      same = refl;
      bytes = refl;
      callers = all_same olds;
      known = c.requires.known;
      so_far =
          subst (λ (replies : List Reply). ActsSoFar olds olds c.args.actor [] replies c.args.pass c.args.pass)
          (sym c.new-replies.ensures.items) (acts_begin olds c.args.actor c.args.pass);
      queue = c.requires.queue;
    }

-- memory for a reply was refused
pub returns-in_default-clause-served : goal.returns-in_default-clause-served
returns-in_default-clause-served g c =
    let see : Shared g.row.R.Denot g.row.D.Denot g.row.P.Denot g.row.J.Denot → CallerView =
    λ shared. view_of_shared shared.turns.now shared.pass g.J.Contents.contents in
    let olds = map see c.args.channels.now in
    let mids = map see c.loop-call.channels in
    let actor = c.args.actor in
    let calls = c.args.calls.now in
    let i = c.loop-call.call-index in
    let inv = c.loop-call.invariant in
    subst (λ (replies : List Reply). HasServed olds mids actor calls replies (Some ServeStop.Memory) c.args.pass c.loop-call.pass)
    (sym c.reserve.ensures.items)
    (subst
    (λ (all : List TraceCall). HasServed olds mids actor all c.loop-call.replies.items (Some ServeStop.Memory) c.args.pass
    c.loop-call.pass) (take-append-drop i calls)
    (acts_refused olds mids actor (take i calls) c.loop-call.replies.items c.args.pass c.loop-call.pass inv.so_far
    c.requires.new (drop i calls)))

-- the call fits the drive, and the contents have its data
pub serve_call-next-requires-clause-fits : goal.serve_call-next-requires-clause-fits
serve_call-next-requires-clause-fits g c κs within =
    let see : Shared g.row.R.Denot g.row.D.Denot g.row.P.Denot g.row.J.Denot → CallerView =
    λ shared. view_of_shared shared.turns.now shared.pass g.J.Contents.contents in
    let olds = map see c.args.channels.now in
    let mids = map see c.loop-call.channels in
    let actor = c.args.actor in
    let calls = c.args.calls.now in
    let i = c.loop-call.call-index in
    let inv = c.loop-call.invariant in
    let call = c.call-item.result in
    let split = split_at calls i call c.loop-call-test.true c.call-item.is in
    let rest = drop (suc i) calls in
    let own : (call.tag.actor == actor) ≡ true =
    subst (λ (n : ℕ). (call.tag.actor == n) ≡ true) c.if-call-actor.true (same_number call.tag.actor) in
    let numbered : AreNumbered actor (calls_of actor (take i calls ++ call ∷ rest)) =
    subst (λ (all : List TraceCall). AreNumbered actor (calls_of actor all)) (sym split) c.requires.numbered in
    let servable : IsServable c.args.worker.now.shape (length c.args.channels.now) g.J.Contents.contents call =
    c.requires.servable (length inv.so_far.answered) call
    (ap (λ (all : List TraceCall). slice_get (calls_of actor all) (length inv.so_far.answered)) (sym split)
    ∙ there olds mids actor (take i calls) c.loop-call.replies.items c.args.pass c.loop-call.pass inv.so_far
    inv.callers call own rest numbered) in
    let same : c.loop-call.worker.shape ≡ c.args.worker.now.shape =
    ap (λ (worker : WorkerState). worker.shape) inv.same in
    let many : length c.loop-call.channels ≡ length c.args.channels.now =
    sym (length-map c.loop-call.channels see) ∙ inv.callers.as_many ∙ length-map c.args.channels.now see in
    subst (λ (shape : Shape). FitsDrive shape (length c.loop-call.channels) call.verb) (sym same)
    (subst (λ (count : ℕ). FitsDrive c.args.worker.now.shape count call.verb) (sym many) servable.fits)

pub serve_call-next-requires-clause-own_data : goal.serve_call-next-requires-clause-own_data
serve_call-next-requires-clause-own_data g c κs within =
    let see : Shared g.row.R.Denot g.row.D.Denot g.row.P.Denot g.row.J.Denot → CallerView =
    λ shared. view_of_shared shared.turns.now shared.pass g.J.Contents.contents in
    let olds = map see c.args.channels.now in
    let mids = map see c.loop-call.channels in
    let actor = c.args.actor in
    let calls = c.args.calls.now in
    let i = c.loop-call.call-index in
    let inv = c.loop-call.invariant in
    let call = c.call-item.result in
    let split = split_at calls i call c.loop-call-test.true c.call-item.is in
    let rest = drop (suc i) calls in
    let own : (call.tag.actor == actor) ≡ true =
    subst (λ (n : ℕ). (call.tag.actor == n) ≡ true) c.if-call-actor.true (same_number call.tag.actor) in
    let numbered : AreNumbered actor (calls_of actor (take i calls ++ call ∷ rest)) =
    subst (λ (all : List TraceCall). AreNumbered actor (calls_of actor all)) (sym split) c.requires.numbered in
    let servable : IsServable c.args.worker.now.shape (length c.args.channels.now) g.J.Contents.contents call =
    c.requires.servable (length inv.so_far.answered) call
    (ap (λ (all : List TraceCall). slice_get (calls_of actor all) (length inv.so_far.answered)) (sym split)
    ∙ there olds mids actor (take i calls) c.loop-call.replies.items c.args.pass c.loop-call.pass inv.so_far
    inv.callers call own rest numbered) in
    let same : c.loop-call.worker.shape ≡ c.args.worker.now.shape =
    ap (λ (worker : WorkerState). worker.shape) inv.same in
    subst (λ (shape : Shape). HasOwnData shape.bytes call.tag call.verb g.J.Contents.contents) (sym same) servable.own_data

-- it stopped in the call
pub returns-in-Err-clause-callers : goal.returns-in-Err-clause-callers
returns-in-Err-clause-callers g c =
    let see : Shared g.row.R.Denot g.row.D.Denot g.row.P.Denot g.row.J.Denot → CallerView =
    λ shared. view_of_shared shared.turns.now shared.pass g.J.Contents.contents in
    let olds = map see c.args.channels.now in
    let mids = map see c.loop-call.channels in
    let actor = c.args.actor in
    let calls = c.args.calls.now in
    let i = c.loop-call.call-index in
    let inv = c.loop-call.invariant in
    same_then olds mids (map see c.serve_call-next.new.channels) inv.callers c.serve_call-next.ensures.callers

pub returns-in-Err-clause-served : goal.returns-in-Err-clause-served
returns-in-Err-clause-served g c =
    let see : Shared g.row.R.Denot g.row.D.Denot g.row.P.Denot g.row.J.Denot → CallerView =
    λ shared. view_of_shared shared.turns.now shared.pass g.J.Contents.contents in
    let olds = map see c.args.channels.now in
    let mids = map see c.loop-call.channels in
    let actor = c.args.actor in
    let calls = c.args.calls.now in
    let i = c.loop-call.call-index in
    let inv = c.loop-call.invariant in
    let call = c.call-item.result in
    let split = split_at calls i call c.loop-call-test.true c.call-item.is in
    let rest = drop (suc i) calls in
    let own : (call.tag.actor == actor) ≡ true =
    subst (λ (n : ℕ). (call.tag.actor == n) ≡ true) c.if-call-actor.true (same_number call.tag.actor) in
    let numbered : AreNumbered actor (calls_of actor (take i calls ++ call ∷ rest)) =
    subst (λ (all : List TraceCall). AreNumbered actor (calls_of actor all)) (sym split) c.requires.numbered in
    let news = map see c.serve_call-next.new.channels in
    subst
    (λ (replies : List Reply). HasServed olds news actor calls replies (Some c.in-Err.stop) c.args.pass
    c.serve_call-next.result.0) (sym c.reserve.ensures.items)
    (subst
    (λ (all : List TraceCall). HasServed olds news actor all c.loop-call.replies.items (Some c.in-Err.stop) c.args.pass
    c.serve_call-next.result.0) split
    (acts_stop olds mids actor (take i calls) c.loop-call.replies.items c.args.pass c.loop-call.pass inv.so_far
    c.requires.new inv.callers call own rest numbered news c.in-Err.stop c.serve_call-next.result.0
    (rw c.in-Err.is at c.serve_call-next.ensures.serves) (rw c.in-Err.is at c.serve_call-next.ensures.hints)))

-- the next one follows
pub loop-call-preserved : goal.loop-call-preserved
loop-call-preserved g c =
    let see : Shared g.row.R.Denot g.row.D.Denot g.row.P.Denot g.row.J.Denot → CallerView =
    λ shared. view_of_shared shared.turns.now shared.pass g.J.Contents.contents in
    let olds = map see c.args.channels.now in
    let mids = map see c.loop-call.channels in
    let actor = c.args.actor in
    let calls = c.args.calls.now in
    let i = c.loop-call.call-index in
    let inv = c.loop-call.invariant in
    let call = c.call-item.result in
    let split = split_at calls i call c.loop-call-test.true c.call-item.is in
    let rest = drop (suc i) calls in
    elim c.if-call-actor.branch [
      | then-call-actor+in-Ok+in-Ok-result w ↦
          let own : (call.tag.actor == actor) ≡ true =
          subst (λ (n : ℕ). (call.tag.actor == n) ≡ true) w.if-call-actor.true (same_number call.tag.actor) in
          let numbered : AreNumbered actor (calls_of actor (take i calls ++ call ∷ rest)) =
          subst (λ (all : List TraceCall). AreNumbered actor (calls_of actor all)) (sym split) c.requires.numbered in
          let news = map see w.serve_call-next.new.channels in
          rw w.channels-is (rw w.worker-is (rw w.pass-is (rw w.bytes-is (rw w.replies-is (record {
            same = w.serve_call-next.ensures.settings ∙ inv.same;
            bytes = w.serve_call-next.ensures.bytes ∙ inv.bytes;
            callers = same_then olds mids news inv.callers w.serve_call-next.ensures.callers;
            known =
                subst (λ (worker : WorkerState). AreKnown worker actor news) inv.same
                (subst (λ (n : ℕ). AreKnown (settings c.loop-call.worker) n news) w.if-call-actor.true
                w.serve_call-next.ensures.known);
            so_far =
                subst (λ (done : List TraceCall). ActsSoFar olds news actor done w.push_reserved.new.self.items c.args.pass
                w.serve_call-next.result.0) (sym (take_more calls i call c.loop-call-test.true c.call-item.is))
                (subst (λ (replies : List Reply). ActsSoFar olds news actor (take i calls ++ call ∷ []) replies c.args.pass
                w.serve_call-next.result.0)
                (sym (w.push_reserved.ensures.items
                ∙ ap (λ (replies : List Reply). replies ++ w.in-Ok-result.reply ∷ []) w.reserve.ensures.items))
                (acts_more olds mids actor (take i calls) c.loop-call.replies.items c.args.pass c.loop-call.pass inv.so_far
                inv.callers call own rest numbered news w.serve_call-next.result.0 w.in-Ok-result.reply
                (rw w.in-Ok-result.is at w.serve_call-next.ensures.serves)
                (rw w.in-Ok-result.is at w.serve_call-next.ensures.hints)));
            queue =
                uses_queue call.verb w.serve_call-next.result.1 c.loop-call.pass w.serve_call-next.result.0
                w.serve_call-next.ensures.hints ∙ inv.queue;
          })))))
      | else-call-actor w ↦
          let other : (call.tag.actor == actor) ≡ false =
          false_from_ne_true (call.tag.actor == actor)
          (λ same. w.if-call-actor.false (eqb-true call.tag.actor actor same)) in
          rw w.channels-is (rw w.worker-is (rw w.pass-is (rw w.bytes-is (rw w.replies-is (record {
            same = inv.same;
            bytes = inv.bytes;
            callers = inv.callers;
            known = inv.known;
            so_far =
                subst (λ (done : List TraceCall). ActsSoFar olds mids actor done c.loop-call.replies.items c.args.pass
                c.loop-call.pass) (sym (take_more calls i call c.loop-call-test.true c.call-item.is))
                (acts_skip olds mids actor (take i calls) c.loop-call.replies.items c.args.pass c.loop-call.pass inv.so_far
                call other);
            queue = inv.queue;
          })))))
    ]

-- all were served
pub returns-clause-served : goal.returns-clause-served
returns-clause-served g c =
    let see : Shared g.row.R.Denot g.row.D.Denot g.row.P.Denot g.row.J.Denot → CallerView =
    λ shared. view_of_shared shared.turns.now shared.pass g.J.Contents.contents in
    let olds = map see c.args.channels.now in
    let mids = map see c.loop-call.channels in
    let actor = c.args.actor in
    let calls = c.args.calls.now in
    let i = c.loop-call.call-index in
    let inv = c.loop-call.invariant in
    subst
    (λ (all : List TraceCall). HasServed olds mids actor all c.loop-call.replies.items None c.args.pass c.loop-call.pass)
    (take_all i calls (omega (arith, c.loop-call-test.false)))
    (acts_all olds mids actor (take i calls) c.loop-call.replies.items c.args.pass c.loop-call.pass inv.so_far
    c.requires.new)
