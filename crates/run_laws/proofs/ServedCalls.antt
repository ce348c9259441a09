-- A run goes on after one more call of any verb: the call was served alone, its reply is that of its own entries, and the queue
-- goes on with its hint, or without those that it took.
use Rattle.std.proofs.Common.{ℕ, ◌≡◌, ◌<◌, ◌≤◌, ◌+◌, List, [], ◌∷◌, ◌++◌, length, map, replicate, Some, refl, sym, ap, subst, ◌∙◌, arith, length-set}
use Rattle.std.specs.Prelude.{All, count_by, slice_get, slice_set, sum_by}
use Rattle.std.proofs.lemmas.List.{length-map}
use Rattle.std.proofs.lemmas.List.Elements.{All-replicate, All-set}
use Rattle.std.proofs.lemmas.Option.{slice_get_within}
use Rattle.serial_laws.proofs.Lists.{sum_of_none}
use Rattle.serial_laws.proofs.MadeCalls.{HasNoSteps}
use Rattle.ssd_formats.specs.RunText.{is_hinted, taken_by}
use Rattle.ssd_geo.specs.declared.entry.Entry.{Entry}
use Rattle.ssd_geo.specs.declared.reply.Reply.{Reply}
use Rattle.ssd_geo.specs.declared.tag.Tag.{Tag}
use Rattle.ssd_geo.specs.declared.trace.TraceCall.{TraceCall}
use Rattle.ssd_geo.specs.declared.trace.Verb.{Verb}
use Rattle.ssd_histories.specs.CallsInOrder.{AreNumberedAfter, ChannelRun, IsReplyOf, steps_on}
use Rattle.ssd_histories.specs.Lawful.{IsLawful}
use Rattle.ssd_histories.specs.SerialHistory.{SerialCall, SerialState, most_hints}
use Rattle.ssd_histories.specs.Start.{Start}
use Rattle.run_laws.specs.Runs.{runs_with}
use Rattle.run_laws.specs.SerialRuns.{HasServed, ServesNext, with_reply}
use Rattle.run_laws.specs.ServedRuns.{HasLedTo, IsServedAs, IsServedDrain, IsServedOnOne, LeadsOn, ServedCallsGoOn, dropped_after, hints_after, hints_in, served_with, taken_in}
use Rattle.run_laws.proofs.ChangedRuns.{get_set, run_at, runs_as_many, runs_changed}
use Rattle.run_laws.proofs.DrainedCalls.{drain_as_many, drain_is_counted, drain_is_lawful, drain_is_serial, drain_reply_is}
use Rattle.run_laws.proofs.MadeCalls.{IsMade, pushed, run_of}
use Rattle.run_laws.proofs.QueuedHints.{IsQueueCounted, hints_with_more, one_hint, queue_after, queue_is_counted, taken_with_more}
use Rattle.run_laws.proofs.ServedFronts.{none_before, number, serves_one_more, serving_begins}
use Rattle.run_laws.proofs.RepliedVerbs.{call_is_made}
use Rattle.shared_lemmas.proofs.Lists.{all_at}

module _ (contents : List (Tag × List ℕ)) (starts : List Start) (actors : ℕ) (done rest : List TraceCall) (call : TraceCall)
    (reply : Reply) (replies : List (List Reply)) (pasts : List (List Entry)) (hints : List ℕ) (dropped : ℕ)
    (numbered : AreNumberedAfter actors [] (done ++ call ∷ rest))
    (led : HasLedTo contents starts actors done replies pasts hints dropped) where
  abbrev before : SerialState
  before = served_with starts pasts hints dropped

  low : call.tag.actor < length replies
  low =
      let is_actor = (number contents starts actors done rest call replies before numbered led.has_served).is_actor in
      let many = led.has_served.as_many_actors in
      omega (arith, is_actor, many)

  none : HasNoSteps call.tag (runs_with starts pasts)
  none = none_before contents starts actors done rest call replies before numbered led.has_served

  -- with what the call made of the channels and of the queue
  module _ (after : List (List Entry)) (left : List ℕ) where
    abbrev HasGoneOn : Type 0
    HasGoneOn =
        HasLedTo contents starts actors (done ++ call ∷ []) (with_reply replies call.tag.actor reply) after left
        (dropped_after reply (length hints) dropped)

    goes_on : length after ≡ length starts → length left ≤ most_hints →
        length left + dropped_after reply (length hints) dropped + taken_by reply ≡ length hints + dropped + one_hint reply →
        ServesNext contents (length starts) call reply before
        (served_with starts after left (dropped_after reply (length hints) dropped)) → HasGoneOn
    goes_on many few counted serves =
        let given = hints_with_more replies call.tag.actor reply low in
        let taken = taken_with_more replies call.tag.actor reply low in
        let older = led.hints_counted in
        record {
          as_many = many;
          has_served =
              serves_one_more contents starts actors done rest call reply replies before
              (served_with starts after left (dropped_after reply (length hints) dropped)) numbered led.has_served serves;
          few_hints = few;
          hints_counted = omega (arith, given, taken, older, counted);
        }

    -- a call on one channel
    module _ (served : IsServedOnOne contents starts call reply pasts hints after left) where
      abbrev on : LeadsOn contents starts pasts call reply served.channel served.now
      on = served.leads_on

      is_run : slice_get (runs_with starts pasts) served.channel ≡ Some (run_of on.start on.past)
      is_run = run_at starts pasts served.channel on.start on.past on.has_start on.has_past

      changed : runs_with starts after ≡ slice_set (runs_with starts pasts) served.channel (run_of on.start served.now)
      changed = ap (runs_with starts) served.after_is ∙ runs_changed starts pasts served.channel on.start served.now on.has_start

      made : IsMade on.start contents (length starts) served.channel call.tag call.verb reply on.past served.now
      made =
          call_is_made on.start contents (length starts) served.channel call.tag call.verb reply on.past served.now on.is_channel
          (all_at (λ (run : ChannelRun). steps_on call.tag run ≡ []) (runs_with starts pasts) served.channel
          (run_of on.start on.past) none is_run)
          on.is_replied on.is_lawful

      state_is :
          record {
            channels = slice_set (runs_with starts pasts) served.channel (run_of on.start served.now);
            hints = hints_after call.verb reply hints;
            dropped = dropped_after reply (length hints) dropped;
          }
          ≡ served_with starts after left (dropped_after reply (length hints) dropped)
      state_is = λ i. record {
        channels = sym changed i;
        hints = sym served.left_is i;
        dropped = dropped_after reply (length hints) dropped;
      }

      serves : ServesNext contents (length starts) call reply before
          (served_with starts after left (dropped_after reply (length hints) dropped))
      serves = record {
        is_serial =
            subst (SerialCall contents (length starts) call.tag reply call.verb before)
            (queue_after (slice_set (runs_with starts pasts) served.channel (run_of on.start served.now)) hints dropped made.hint
            reply
            ∙ (λ i. record {
              channels = slice_set (runs_with starts pasts) served.channel (run_of on.start served.now);
              hints = made.hints_are hints i;
              dropped = dropped_after reply (length hints) dropped;
            })
            ∙ state_is) (made.serves before is_run);
        is_reply =
            subst (λ (runs : List ChannelRun). IsReplyOf contents runs call reply) (sym changed)
            (made.is_reply (slice_set (runs_with starts pasts) served.channel (run_of on.start served.now))
            (length-set (runs_with starts pasts) served.channel (run_of on.start served.now)
            ∙ runs_as_many starts pasts led.as_many)
            (get_set (runs_with starts pasts) served.channel (run_of on.start served.now)
            (slice_get_within (runs_with starts pasts) served.channel (run_of on.start on.past) is_run)));
        are_lawful =
            subst (All (λ (run : ChannelRun). IsLawful run.start contents run.past)) (sym changed)
            (All-set (λ (run : ChannelRun). IsLawful run.start contents run.past) (runs_with starts pasts) served.channel
            (run_of on.start served.now) on.is_lawful led.has_served.is_serial.are_lawful);
      }

      one_goes_on : HasGoneOn
      one_goes_on =
          let queue : IsQueueCounted hints dropped made.hint reply = queue_is_counted hints dropped made.hint led.few_hints reply in
          let longer : length left ≡ length (hints_after call.verb reply hints) = ap (λ (list : List ℕ). length list) served.left_is in
          let same : length (pushed made.hint reply hints) ≡ length (hints_after call.verb reply hints) =
          ap (λ (list : List ℕ). length list) (made.hints_are hints) in
          let few = queue.few in
          let counted = queue.counted in
          let taken = made.takes_none in
          goes_on
          (ap (λ (list : List (List Entry)). length list) served.after_is ∙ length-set pasts served.channel served.now ∙ led.as_many)
          (omega (arith, few, longer, same)) (omega (arith, counted, longer, same, taken)) serves

-- a drain
module _ (contents : List (Tag × List ℕ)) (starts : List Start) (actors : ℕ) (done rest : List TraceCall) (tag : Tag) (count : ℕ)
    (replies : List (List Reply)) (pasts : List (List Entry)) (hints : List ℕ) (dropped : ℕ)
    (numbered : AreNumberedAfter actors [] (done ++ record { tag = tag; verb = Verb.Drain count } ∷ rest))
    (led : HasLedTo contents starts actors done replies pasts hints dropped) (after : List (List Entry)) (left : List ℕ) where
  abbrev drain : TraceCall
  drain = record { tag = tag; verb = Verb.Drain count }

  drained_goes_on : (reply : Reply) → IsServedDrain contents starts tag count reply pasts hints after left →
      HasLedTo contents starts actors (done ++ drain ∷ []) (with_reply replies tag.actor reply) after left
      (dropped_after reply (length hints) dropped)
  drained_goes_on reply served =
      subst (λ (told : Reply). HasLedTo contents starts actors (done ++ drain ∷ []) (with_reply replies tag.actor told) after left
      (dropped_after told (length hints) dropped)) (sym served.reply_is) drained_so
    where
      drained_so : HasLedTo contents starts actors (done ++ drain ∷ [])
          (with_reply replies tag.actor (Reply.Drained served.drained)) after left dropped
      drained_so =
          let own : HasNoSteps tag (runs_with starts pasts) =
          none contents starts actors done rest drain (Reply.Drained served.drained) replies pasts hints dropped numbered led in
          let many : length after ≡ length starts = drain_as_many contents starts tag served.drains ∙ led.as_many in
          let counted = drain_is_counted contents starts tag served.drains in
          let few = led.few_hints in
          goes_on contents starts actors done rest drain (Reply.Drained served.drained) replies pasts hints dropped numbered led
          after left many (omega (arith, counted, few)) (omega (arith, counted))
          (record {
            is_serial = drain_is_serial contents starts tag dropped served.drains;
            is_reply =
                drain_reply_is contents starts tag count served.drained pasts after hints left led.as_many own served.drains;
            are_lawful =
                drain_is_lawful contents starts tag served.drains led.has_served.is_serial.are_lawful;
          })

-- by the verb
module _ (contents : List (Tag × List ℕ)) (starts : List Start) (actors : ℕ) (done rest : List TraceCall) (tag : Tag)
    (reply : Reply) (replies : List (List Reply)) (pasts : List (List Entry)) (hints : List ℕ) (dropped : ℕ)
    (after : List (List Entry)) (left : List ℕ) (led : HasLedTo contents starts actors done replies pasts hints dropped) where
  abbrev GoesOn : Verb → Type 0
  GoesOn verb =
      AreNumberedAfter actors [] (done ++ record { tag = tag; verb = verb } ∷ rest) →
      IsServedAs verb contents starts (record { tag = tag; verb = verb }) reply pasts hints after left →
      HasLedTo contents starts actors (done ++ record { tag = tag; verb = verb } ∷ []) (with_reply replies tag.actor reply) after
      left (dropped_after reply (length hints) dropped)

  on_one : (verb : Verb) → AreNumberedAfter actors [] (done ++ record { tag = tag; verb = verb } ∷ rest) →
      IsServedOnOne contents starts (record { tag = tag; verb = verb }) reply pasts hints after left →
      HasLedTo contents starts actors (done ++ record { tag = tag; verb = verb } ∷ []) (with_reply replies tag.actor reply) after
      left (dropped_after reply (length hints) dropped)
  on_one verb numbered served =
      one_goes_on contents starts actors done rest (record { tag = tag; verb = verb }) reply replies pasts hints dropped numbered
      led after left served

  by_verb : (verb : Verb) → GoesOn verb
  by_verb (Verb.Write page content) numbered served = on_one (Verb.Write page content) numbered served
  by_verb (Verb.Read page) numbered served = on_one (Verb.Read page) numbered served
  by_verb (Verb.Trim page) numbered served = on_one (Verb.Trim page) numbered served
  by_verb (Verb.Refresh page) numbered served = on_one (Verb.Refresh page) numbered served
  by_verb (Verb.Collect channel) numbered served = on_one (Verb.Collect channel) numbered served
  by_verb (Verb.Age channel die sb amount) numbered served = on_one (Verb.Age channel die sb amount) numbered served
  by_verb (Verb.Drain count) numbered served =
      drained_goes_on contents starts actors done rest tag count replies pasts hints dropped numbered led after left reply served

pub served_calls_go_on : ServedCallsGoOn
served_calls_go_on contents starts actors done rest call reply replies pasts hints dropped after left numbered led served =
    by_verb contents starts actors done rest call.tag reply replies pasts hints dropped after left led call.verb numbered served

-- before the first call
abbrev no_past : Start → List Entry
no_past start = []

abbrev begun_run : Start → ChannelRun
begun_run start = record { start = start; past = [] }

begun_runs : (starts : List Start) → map begun_run starts ≡ runs_with starts (map no_past starts)
begun_runs [] = refl
begun_runs (start ∷ starts) = ap {B = List ChannelRun} (λ (runs : List ChannelRun). begun_run start ∷ runs) (begun_runs starts)

no_hint : (actors : ℕ) → hints_in (replicate actors []) ≡ 0
no_hint actors =
    sum_of_none (count_by is_hinted) (replicate actors [])
    (All-replicate (λ (list : List Reply). count_by is_hinted list ≡ 0) actors [] refl)

none_taken : (actors : ℕ) → taken_in (replicate actors []) ≡ 0
none_taken actors =
    sum_of_none (sum_by taken_by) (replicate actors [])
    (All-replicate (λ (list : List Reply). sum_by taken_by list ≡ 0) actors [] refl)

pub served_runs_begin : (contents : List (Tag × List ℕ)) (starts : List Start) (actors : ℕ) →
    HasLedTo contents starts actors [] (replicate actors []) (map no_past starts) [] 0
served_runs_begin contents starts actors =
    let given = no_hint actors in
    let taken = none_taken actors in
    record {
      as_many = length-map starts no_past;
      has_served =
          subst (λ (runs : List ChannelRun). HasServed contents starts actors [] (replicate actors [])
          (record { channels = runs; hints = []; dropped = 0 })) (begun_runs starts) (serving_begins contents starts actors);
      few_hints = omega arith;
      hints_counted = omega (arith, given, taken);
    }
