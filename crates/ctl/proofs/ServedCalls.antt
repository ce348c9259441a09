-- How a call ended by how its part did: the drain of it, its refresh, or its serving on one channel, behind which a read may
-- put its page.
use Rattle.std.proofs.Common.{ℕ, ◌≡◌, ◌%◌, ◌<◌, ◌&&◌, Bool, true, false, List, [], ◌∷◌, ◌++◌, length, Option, Some, refl, sym, ap, subst, ◌∙◌}
use Rattle.std.specs.Prelude.{IsErrAnd, IsFalse, Result, Ok, Err, nat_lt, if◌then◌else◌, option_map, slice_get, slice_set}
use Rattle.std.proofs.lemmas.List.{set-get_or}
use Rattle.std.proofs.lemmas.List.Elements.{All-append, All-cons, All-nil}
use Rattle.std.proofs.lemmas.Option.{get_or_from_slice_get, slice_get-map, slice_get_within, same_Some}
use Rattle.chan_calls.specs.Workers.{WorkerState}
use Rattle.ctl.specs.Asked.{FitsDrive, HintsFit, IsPageOf, refreshes}
use Rattle.ctl.specs.BrokenOff.{IsBrokenOffAs, IsBrokenOffOnOne}
use Rattle.ctl.specs.Draining.{Drains, IsLeftOut, IsRefreshed, MayRefresh, Refreshes}
use Rattle.ctl.specs.OnOne.{HasServedOnOne, ServesOnOne}
use Rattle.ctl.specs.Seen.{SeenChannel, pasts_of}
use Rattle.ctl.specs.Served.{AreStanding, HasBrokenOff, IsServed, IsStopped, MayServe, Serves}
use Rattle.run_laws.specs.ServedRuns.{IsServedAs, IsServedOnOne, hints_after}
use Rattle.run_laws.specs.StoppedRuns.{IsStoppedAs, IsStoppedOnOne}
use Rattle.serial_laws.proofs.Lists.{IsItemAt, item_at}
use Rattle.ssd_formats.specs.RunText.{is_hinted}
use Rattle.ssd_geo.specs.declared.entry.Entry.{Entry}
use Rattle.ssd_geo.specs.declared.reply.RefreshReply.{RefreshReply}
use Rattle.ssd_geo.specs.declared.reply.Reply.{Reply}
use Rattle.ssd_geo.specs.declared.shape.Shape.{Shape}
use Rattle.ssd_geo.specs.declared.stop.ServeStop.{ServeStop}
use Rattle.ssd_geo.specs.declared.tag.Tag.{Tag}
use Rattle.ssd_geo.specs.declared.trace.TraceCall.{TraceCall}
use Rattle.ssd_geo.specs.declared.trace.Verb.{Verb}
use Rattle.ssd_histories.specs.Lawful.{IsLawful}
use Rattle.ssd_histories.specs.Replies.{reply_of_refresh}
use Rattle.ssd_histories.specs.SerialHistory.{most_hints}
use Rattle.ssd_histories.specs.Start.{Start}

-- a result that is no more than a stop
pub is_that_stop : {A : Type 0} (result : Result A ServeStop) (stop : ServeStop) → IsErrAnd result (λ given. given ≡ stop) →
    result ≡ Err stop
is_that_stop (Ok answer) stop is = absurd is
is_that_stop {A = A} (Err given) stop is = ap {B = Result A ServeStop} (λ (e : ServeStop). Err e) is

-- a call that may be served may be served where no hint waits, and its pages may be refreshed
module _ (worker : WorkerState) (channels : List SeenChannel) (hints : List ℕ) (call : TraceCall)
    (may : MayServe worker channels hints call) where
  pub without_hints : MayServe worker channels [] call
  without_hints = record {
    starts = may.starts;
    contents = may.contents;
    standing = may.standing;
    own_data = may.own_data;
    none_open = may.none_open;
    some_channel = may.some_channel;
    few_channels = may.few_channels;
    fits = may.fits;
    hints_fit = All-nil (IsPageOf worker.shape (length channels));
  }

  pub may_refresh : MayRefresh worker channels
  may_refresh = record {
    starts = may.starts;
    contents = may.contents;
    standing = may.standing;
    some_channel = may.some_channel;
    few_channels = may.few_channels;
  }

  -- the page that a verb names is one of the drive's
  pub read_fits : (page : ℕ) → call.verb ≡ Verb.Read page → IsPageOf worker.shape (length channels) page
  read_fits page is = subst (FitsDrive worker.shape (length channels)) is may.fits

  pub refresh_fits : (page : ℕ) → call.verb ≡ Verb.Refresh page → IsPageOf worker.shape (length channels) page
  refresh_fits page is = subst (FitsDrive worker.shape (length channels)) is may.fits

-- a verb that refreshes no page is served on one channel
module _ (contents : List (Tag × List ℕ)) (starts : List Start) (call : TraceCall) (pasts : List (List Entry)) (hints : List ℕ)
    (after : List (List Entry)) (left : List ℕ) where
  as_one : (verb : Verb) (reply : Reply) → IsFalse (refreshes verb) →
      IsServedOnOne contents starts call reply pasts hints after left →
      IsServedAs verb contents starts call reply pasts hints after left
  as_one (Verb.Write page content) reply plain served = served
  as_one (Verb.Read page) reply plain served = served
  as_one (Verb.Trim page) reply plain served = served
  as_one (Verb.Refresh page) reply plain served = absurd (cc)
  as_one (Verb.Collect channel) reply plain served = served
  as_one (Verb.Drain count) reply plain served = absurd (cc)
  as_one (Verb.Age channel die sb amount) reply plain served = served

  as_one_stop : (verb : Verb) (channel entries : ℕ) → IsFalse (refreshes verb) →
      IsStoppedOnOne contents starts call channel entries pasts hints after left →
      IsStoppedAs verb contents starts call channel entries pasts hints after left
  as_one_stop (Verb.Write page content) channel entries plain stopped = stopped
  as_one_stop (Verb.Read page) channel entries plain stopped = stopped
  as_one_stop (Verb.Trim page) channel entries plain stopped = stopped
  as_one_stop (Verb.Refresh page) channel entries plain stopped = absurd (cc)
  as_one_stop (Verb.Collect named) channel entries plain stopped = stopped
  as_one_stop (Verb.Drain count) channel entries plain stopped = absurd (cc)
  as_one_stop (Verb.Age named die sb amount) channel entries plain stopped = stopped

  as_one_broken : (verb : Verb) → IsFalse (refreshes verb) →
      IsBrokenOffOnOne contents starts call pasts hints after left →
      IsBrokenOffAs verb contents starts call pasts hints after left
  as_one_broken (Verb.Write page content) plain broken = broken
  as_one_broken (Verb.Read page) plain broken = broken
  as_one_broken (Verb.Trim page) plain broken = broken
  as_one_broken (Verb.Refresh page) plain broken = absurd (cc)
  as_one_broken (Verb.Collect named) plain broken = broken
  as_one_broken (Verb.Drain count) plain broken = absurd (cc)
  as_one_broken (Verb.Age named die sb amount) plain broken = broken

-- the hints with one page more fit the drive
pub put_fits : (shape : Shape) (channels page : ℕ) (hints : List ℕ) → IsPageOf shape channels page →
    HintsFit shape channels hints → HintsFit shape channels (hints ++ page ∷ [])
put_fits shape channels page hints fits all =
    All-append (IsPageOf shape channels) hints (page ∷ []) all
    (All-cons (IsPageOf shape channels) page [] fits (All-nil (IsPageOf shape channels)))

-- what waits behind a read whose reply is a hint, by whether there was room for it
pub put_is : (page : ℕ) (reply : Reply) (hints left : List ℕ) (has_room : Bool) → is_hinted reply ≡ true →
    has_room ≡ nat_lt (length hints) most_hints → left ≡ (if has_room then hints ++ page ∷ [] else hints) →
    left ≡ hints_after (Verb.Read page) reply hints
put_is page reply hints left has_room hinted room is =
    is ∙ ap {B = List ℕ} (λ (b : Bool). if b then hints ++ page ∷ [] else hints) room
    ∙ by_room (nat_lt (length hints) most_hints)
    ∙ ap {B = List ℕ}
    (λ (b : Bool). elim (b && nat_lt (length hints) most_hints) [ true ↦ hints ++ page ∷ [] | false ↦ hints ]) (sym hinted)
  where
    by_room : (b : Bool) →
        (if b then hints ++ page ∷ [] else hints) ≡ elim (true && b) [ true ↦ hints ++ page ∷ [] | false ↦ hints ]
    by_room true = refl
    by_room false = refl

pub no_put_is : (page : ℕ) (reply : Reply) (hints : List ℕ) → is_hinted reply ≡ false →
    hints ≡ hints_after (Verb.Read page) reply hints
no_put_is page reply hints none =
    ap {B = List ℕ}
    (λ (b : Bool). elim (b && nat_lt (length hints) most_hints) [ true ↦ hints ++ page ∷ [] | false ↦ hints ]) (sym none)

-- behind a read the hints fit the drive
read_keeps_fit : (shape : Shape) (channels page : ℕ) (reply : Reply) (hints : List ℕ) → IsPageOf shape channels page →
    HintsFit shape channels hints → HintsFit shape channels (hints_after (Verb.Read page) reply hints)
read_keeps_fit shape channels page reply hints fits all =
    by_test (is_hinted reply && nat_lt (length hints) most_hints)
  where
    by_test : (b : Bool) → HintsFit shape channels (elim b [ true ↦ hints ++ page ∷ [] | false ↦ hints ])
    by_test true = put_fits shape channels page hints fits all
    by_test false = all

keeps_fit : (shape : Shape) (channels : ℕ) (verb : Verb) (reply : Reply) (hints : List ℕ) → FitsDrive shape channels verb →
    HintsFit shape channels hints → HintsFit shape channels (hints_after verb reply hints)
keeps_fit shape channels (Verb.Write page content) reply hints fits all = all
keeps_fit shape channels (Verb.Read page) reply hints fits all = read_keeps_fit shape channels page reply hints fits all
keeps_fit shape channels (Verb.Trim page) reply hints fits all = all
keeps_fit shape channels (Verb.Refresh page) reply hints fits all = all
keeps_fit shape channels (Verb.Collect channel) reply hints fits all = all
keeps_fit shape channels (Verb.Drain count) reply hints fits all = all
keeps_fit shape channels (Verb.Age channel die sb amount) reply hints fits all = all

-- the past of a channel that stands for its start is lawful
abbrev past_in : SeenChannel → List Entry
past_in channel = channel.kept.past

past_is_lawful : (worker : WorkerState) (channels : List SeenChannel) (starts : List Start) (contents : List (Tag × List ℕ)) →
    AreStanding worker channels starts contents → (k : ℕ) (start : Start) (past : List Entry) → slice_get starts k ≡ Some start →
    slice_get (pasts_of channels) k ≡ Some past → IsLawful start contents past
past_is_lawful worker channels starts contents standing k start past has_start has_past =
    let there : IsItemAt channels k =
    item_at channels k (subst (λ (n : ℕ). k < n) (sym standing.as_many) (slice_get_within starts k start has_start)) in
    let own : there.item.kept.past ≡ past =
    same_Some there.item.kept.past past
    (sym (slice_get-map past_in channels k ∙ ap (option_map past_in) there.is_there) ∙ has_past) in
    subst (IsLawful start contents) own (standing.stand k start there.item has_start there.is_there).is_past.is_lawful

-- a list with an item set as it is
set_itself : (pasts : List (List Entry)) (k : ℕ) (past : List Entry) → slice_get pasts k ≡ Some past → pasts ≡ slice_set pasts k past
set_itself pasts k past is =
    sym (set-get_or pasts k past)
    ∙ ap {B = List (List Entry)} (slice_set pasts k) (get_or_from_slice_get pasts k past past is)

module _ (worker : WorkerState) (olds news : List SeenChannel) (hints : List ℕ) where
  -- a call that refreshes no page
  module _ (call : TraceCall) (plain : IsFalse (refreshes call.verb)) where
    pub on_one_served : (left : List ℕ) (reply : Reply) → FitsDrive worker.shape (length olds) call.verb →
        left ≡ hints_after call.verb reply hints → HasServedOnOne worker olds news call reply →
        IsServed worker olds news hints left call reply
    on_one_served left reply fits left_is serves =
        subst (λ (waiting : List ℕ). IsServed worker olds news hints waiting call reply) (sym left_is) (record {
          rooms = serves.rooms;
          hints_fit = keeps_fit worker.shape (length olds) call.verb reply hints fits;
          served = λ starts contents standing own.
              let made = serves.served starts contents standing own in (
                made.0,
                as_one contents starts call (pasts_of olds) hints (pasts_of news) (hints_after call.verb reply hints) call.verb
                    reply plain (made.1 hints),
              );
        })

    pub on_one_stopped : (stop : ServeStop) → ServesOnOne worker olds news call (Err stop) →
        Serves worker olds news hints hints call (Err stop)
    on_one_stopped (ServeStop.HistoryFull channel entries) stops = record {
      rooms = stops.rooms;
      stopped = λ starts contents standing own.
          let made = stops.stopped starts contents standing own in (
            made.0,
            as_one_stop contents starts call (pasts_of olds) hints (pasts_of news) hints call.verb channel entries plain
                (made.1 hints),
          );
    }
    on_one_stopped ServeStop.Memory breaks = λ starts contents standing own.
        let made = breaks starts contents standing own in (
          made.0,
          as_one_broken contents starts call (pasts_of olds) hints (pasts_of news) hints call.verb plain (made.1 hints),
        )

    -- so it is however it ended, where it puts no page
    pub on_one_ends : FitsDrive worker.shape (length olds) call.verb → ((reply : Reply) → hints ≡ hints_after call.verb reply hints) →
        (result : Result Reply ServeStop) → ServesOnOne worker olds news call result →
        Serves worker olds news hints hints call result
    on_one_ends fits stays (Ok reply) serves = on_one_served hints reply fits (stays reply) serves
    on_one_ends fits stays (Err stop) stops = on_one_stopped stop stops

  -- a call of a verb that refreshes no page and puts none
  pub other_ends : (call : TraceCall) (verb : Verb) → call.verb ≡ verb → IsFalse (refreshes verb) →
      ((reply : Reply) → hints ≡ hints_after verb reply hints) → FitsDrive worker.shape (length olds) call.verb →
      (result : Result Reply ServeStop) → ServesOnOne worker olds news call result →
      Serves worker olds news hints hints call result
  other_ends call verb is plain stays fits result serves =
      on_one_ends call (subst (λ (v : Verb). IsFalse (refreshes v)) (sym is) plain) fits
      (λ reply. subst (λ (v : Verb). hints ≡ hints_after v reply hints) (sym is) (stays reply)) result serves

  -- a drain
  pub drain_served : (left : List ℕ) (call : TraceCall) (count : ℕ) → call.verb ≡ Verb.Drain count →
      (result : Result Reply ServeStop) → Drains worker olds news hints left call.tag count result →
      Serves worker olds news hints left call result
  drain_served left call count is (Ok reply) drains = record {
    rooms = drains.rooms;
    hints_fit = drains.hints_fit;
    served = λ starts contents standing own.
        let made = drains.drained starts contents standing in (
          made.0,
          subst (λ (verb : Verb).
              IsServedAs verb contents starts call reply (pasts_of olds) hints (pasts_of news) left) (sym is) made.1,
        );
  }
  drain_served left call count is (Err (ServeStop.HistoryFull channel entries)) drains = record {
    rooms = drains.rooms;
    stopped = λ starts contents standing own.
        let made = drains.stopped starts contents standing in (
          made.0,
          subst (λ (verb : Verb).
              IsStoppedAs verb contents starts call channel entries (pasts_of olds) hints (pasts_of news) left) (sym is) made.1,
        );
  }
  drain_served left call count is (Err ServeStop.Memory) drains = λ starts contents standing own.
      let made = drains starts contents standing in (
        made.0,
        subst (λ (verb : Verb). IsBrokenOffAs verb contents starts call (pasts_of olds) hints (pasts_of news) left) (sym is) made.1,
      )

  -- a refresh of a page
  module _ (tag : Tag) (page : ℕ) where
    abbrev asked : TraceCall
    asked = record { tag = tag; verb = Verb.Refresh page }

    served_here : (told : RefreshReply) → IsRefreshed worker olds news tag page told →
        IsServed worker olds news hints hints asked (reply_of_refresh told)
    served_here told refreshed = record {
      rooms = refreshed.rooms;
      hints_fit = λ fit. fit;
      served = λ starts contents standing own.
          let made = refreshed.refreshed starts contents standing in (
            made.0,
            record {
              channel = page % length starts;
              now = made.1.now;
              leads_on = record {
                start = made.1.start;
                past = made.1.past;
                is_channel = refl;
                has_start = made.1.has_start;
                has_past = made.1.has_past;
                is_replied = record { told = told; was_refreshed = made.1.was_refreshed; reply_is = refl };
                is_lawful = made.1.is_lawful;
              };
              after_is = made.1.after_is;
              left_is = refl;
            },
          );
    }

    stopped_here : (channel entries : ℕ) → IsLeftOut worker olds news page channel entries →
        IsStopped worker olds news hints hints asked channel entries
    stopped_here channel entries left_out = record {
      rooms = left_out.rooms;
      stopped = λ starts contents standing own.
          let made = left_out.no_room starts contents standing in
          let on : page % length starts ≡ channel =
          sym (left_out.channel_is ∙ ap (λ (n : ℕ). page % n) standing.as_many) in (
            made.0,
            record {
              past_now = made.1.past;
              stops = record {
                is_channel = ap {B = Option ℕ} (λ (n : ℕ). Some n) on;
                start = made.1.start;
                past = made.1.past;
                has_start = made.1.has_start;
                has_past = made.1.has_past;
                is_stopped = record { is_same = refl; no_room = made.1.no_room };
                is_lawful =
                    past_is_lawful worker olds starts contents standing channel made.1.start made.1.past made.1.has_start
                    made.1.has_past;
                has_length = made.1.has_length;
              };
              now_is = left_out.pasts_stay ∙ set_itself (pasts_of olds) channel made.1.past made.1.has_past;
              left_is = refl;
            },
          );
    }

  module _ (call : TraceCall) (page : ℕ) (is : call.verb ≡ Verb.Refresh page) where
    this : ◌≡◌ {A = TraceCall} (asked call.tag page) call
    this = λ i. record { tag = call.tag; verb = sym is i }

    pub refresh_served : (told : RefreshReply) → IsRefreshed worker olds news call.tag page told →
        IsServed worker olds news hints hints call (reply_of_refresh told)
    refresh_served told refreshed =
        subst (λ (other : TraceCall). IsServed worker olds news hints hints other (reply_of_refresh told)) this
        (served_here call.tag page told refreshed)

    pub refresh_stopped : (stop : ServeStop) → Refreshes worker olds news call.tag page (Err stop) →
        Serves worker olds news hints hints call (Err stop)
    refresh_stopped (ServeStop.HistoryFull channel entries) left_out =
        subst (λ (other : TraceCall). IsStopped worker olds news hints hints other channel entries) this
        (stopped_here call.tag page channel entries left_out)
    refresh_stopped ServeStop.Memory refused =
        subst (λ (other : TraceCall). HasBrokenOff worker olds news hints hints other) this
        (λ starts contents standing own.
        ((refused.stands starts contents standing).0, (refused.pasts_stay, refl)))
