-- What a call came to that was served on one channel, or the refresh of one page, on each channel of the drive.
use Rattle.std.proofs.Common.{ℕ, ◌≡◌, ◌%◌, ◌/◌, ◌<◌, false, List, [], ◌∷◌, length, map, Some, sym, subst, ◌∙◌}
use Rattle.std.specs.Prelude.{Err, IfSome, Ok, Option, Result, slice_index_or, slice_set}
use Rattle.std.proofs.lemmas.Bool.{false≢true}
use Rattle.std.proofs.lemmas.List.{length-map}
use Rattle.run_laws.proofs.ChangedRuns.{get_set}
use Rattle.run_laws.specs.ServedRuns.{channel_of}
use Rattle.chan_calls.specs.Caller.{CallerView}
use Rattle.ctl.specs.ChannelCalls.{stop_on}
use Rattle.ssd_geo.specs.declared.reply.RefreshReply.{RefreshReply}
use Rattle.ssd_geo.specs.declared.reply.Reply.{Reply}
use Rattle.ssd_geo.specs.declared.stop.StepStop.{StepStop}
use Rattle.ssd_geo.specs.declared.tag.Tag.{Tag}
use Rattle.ssd_geo.specs.declared.trace.Verb.{Verb}
use Rattle.ssd_histories.specs.Start.{Start}
use Rattle.calls_among_others.specs.Parts.{IsRefreshAmong}
use Rattle.calls_among_others.specs.StepsAmong.{HasCome}
use Rattle.calls_among_others.proofs.AmongSteps.{none_came}
use Rattle.race_laws.specs.RaceReplies.{IsDrainAnswered}
use Rattle.actor_calls.specs.Ended.{EndsAmong, TellsLength}
use Rattle.actor_calls.specs.Known.{ChannelFact, OfChannel}
use Rattle.actor_calls.specs.Served.{NamesStop, RefreshesPage, ServesCall, WhereDrainStops, is_begun_on, is_call_on, is_drain, refreshes_pages}
use Rattle.actor_calls.proofs.DrainedChannels.{page_elsewhere, page_here}
use Rattle.actor_calls.proofs.EachChannel.{each_channel, seen_at}
use Rattle.actor_calls.proofs.Elsewhere.{begun_elsewhere, call_elsewhere}

-- what is asked of drains alone
no_drain_answered : (verb : Verb) (reply : Reply) → is_drain verb ≡ false → IsDrainAnswered verb reply
no_drain_answered (Verb.Write page content) reply e = tt
no_drain_answered (Verb.Read page) reply e = tt
no_drain_answered (Verb.Trim page) reply e = tt
no_drain_answered (Verb.Refresh page) reply e = tt
no_drain_answered (Verb.Collect named) reply e = tt
no_drain_answered (Verb.Age named die sb amount) reply e = tt
no_drain_answered (Verb.Drain count) reply e = absurd (false≢true (sym e))

no_drain_stops : (verb : Verb) (olds news : List CallerView) (tag : Tag) → is_drain verb ≡ false →
    WhereDrainStops verb olds news tag
no_drain_stops (Verb.Write page content) olds news tag e = tt
no_drain_stops (Verb.Read page) olds news tag e = tt
no_drain_stops (Verb.Trim page) olds news tag e = tt
no_drain_stops (Verb.Refresh page) olds news tag e = tt
no_drain_stops (Verb.Collect named) olds news tag e = tt
no_drain_stops (Verb.Age named die sb amount) olds news tag e = tt
no_drain_stops (Verb.Drain count) olds news tag e = absurd (false≢true (sym e))

module _ {X : Type 0} (see : X → CallerView) (channels : List X) (k : ℕ) (low : k < length channels) (other new : X)
    (start : Start) (contents : List (Tag × List ℕ))
    (is_bound : (see (slice_index_or channels k other)).bound ≡ Some (start, contents)) where
  abbrev old : CallerView
  old = see (slice_index_or channels k other)

  abbrev olds : List CallerView
  olds = map see channels

  abbrev news : List CallerView
  news = slice_set olds k (see new)

  as_many : length olds ≡ length channels
  as_many = length-map channels see

  here : (fact : ChannelFact) → fact k start contents old.seen (see new).seen → OfChannel fact k old (see new)
  here fact holds =
      subst
      (λ (bound : Option (Start × List (Tag × List ℕ))).
      IfSome bound (λ bound. fact k bound.0 bound.1 old.seen (see new).seen)) (sym is_bound) holds

  -- the stop names the channel
  names : (stop : StepStop) → TellsLength stop (see new).seen → NamesStop (stop_on k stop) news
  names (StepStop.HistoryFull told) tells = record {
    caller = see new;
    is_there = get_set olds k (see new) (subst (λ (count : ℕ). k < count) (sym as_many) low);
    told_is = tells;
  }
  names StepStop.Memory tells = tt

  module _ (tag : Tag) where
    module _ (verb : Verb) (no_drain : is_drain verb ≡ false) where
      serves_here : channel_of (length olds) verb ≡ Some k → (result : Result Reply StepStop) →
          EndsAmong start contents (length olds) k tag verb old.seen (see new).seen result →
          ServesCall olds news tag verb (elim result [ Ok reply ↦ Ok reply | Err stop ↦ Err (stop_on k stop) ])
      serves_here on (Ok reply) call = record {
        on_channels =
            each_channel olds k old (seen_at see channels k low other) (see new) (is_call_on (length olds) tag verb reply)
            (here (is_call_on (length olds) tag verb reply) call)
            (λ n differs start contents seen.
            call_elsewhere start contents (length olds) k n differs tag verb on seen reply);
        drained = no_drain_answered verb reply no_drain;
      }
      serves_here on (Err stop) stopped = record {
        on_channels =
            each_channel olds k old (seen_at see channels k low other) (see new) (is_begun_on (length olds) tag verb)
            (here (is_begun_on (length olds) tag verb) stopped.begun)
            (λ n differs start contents seen. begun_elsewhere start contents (length olds) k n differs tag verb on seen);
        names = names stop stopped.tells;
        in_drain = no_drain_stops verb olds news tag no_drain;
      }

      -- how it ended there is how it ended
      pub serves_on_one : channel_of (length channels) verb ≡ Some k → (result : Result Reply StepStop) →
          EndsAmong start contents (length channels) k tag verb old.seen (see new).seen result →
          ServesCall olds news tag verb (elim result [ Ok reply ↦ Ok reply | Err stop ↦ Err (stop_on k stop) ])
      serves_on_one on result ended =
          serves_here (subst (λ (count : ℕ). channel_of count verb ≡ Some k) (sym as_many) on) result
          (subst (λ (count : ℕ). EndsAmong start contents count k tag verb old.seen (see new).seen result) (sym as_many) ended)

    -- the refresh of a page of this channel
    module _ (page : ℕ) (is_page : k ≡ page % length channels) where
      own : k ≡ page % length olds
      own = subst (λ (count : ℕ). k ≡ page % count) (sym as_many) is_page

      pub refreshes_there : (reply : RefreshReply) →
          IsRefreshAmong start contents tag (page / length channels) old.seen (see new).seen reply →
          RefreshesPage olds news tag page (Ok reply)
      refreshes_there reply made =
          each_channel olds k old (seen_at see channels k low other) (see new)
          (refreshes_pages (length olds) tag ((page, reply) ∷ []))
          (here (refreshes_pages (length olds) tag ((page, reply) ∷ []))
          (page_here start contents (length olds) tag k page reply old.seen (see new).seen own
          (subst (λ (count : ℕ). IsRefreshAmong start contents tag (page / count) old.seen (see new).seen reply) (sym as_many)
          made)))
          (λ n differs start contents seen.
          page_elsewhere start contents (length olds) tag n page reply seen (λ same. differs (same ∙ sym own)))

      pub refresh_stops : (stop : StepStop) → HasCome tag.actor old.seen (see new).seen → TellsLength stop (see new).seen →
          RefreshesPage olds news tag page (Err (stop_on k stop))
      refresh_stops stop came tells = left stop came (names stop tells)
        where
          left : (stop : StepStop) → HasCome tag.actor old.seen (see new).seen → NamesStop (stop_on k stop) news →
              RefreshesPage olds news tag page (Err (stop_on k stop))
          left stop came named = record {
            on_channels =
                each_channel olds k old (seen_at see channels k low other) (see new) (refreshes_pages (length olds) tag [])
                (here (refreshes_pages (length olds) tag []) came)
                (λ n differs start contents seen. none_came tag.actor seen);
            names = named;
          }
