-- What is seen of channels by what they keep and what their policies tell, where one of them makes a call or a refresh.
use Rattle.std.proofs.Common.{ℕ, ◌≡◌, ◌%◌, ◌/◌, ◌<◌, ◌≤◌, List, length, map, Some, sym, ap, subst, ◌∙◌, arith}
use Rattle.std.specs.Prelude.{Option, option_map, slice_get, slice_index_or, slice_set, Result, Ok, Err}
use Rattle.std.proofs.lemmas.List.{length-map, map-set}
use Rattle.std.proofs.lemmas.Option.{slice_get-get_or, slice_get-map}
use Rattle.chan_calls.specs.Workers.{WorkerState}
use Rattle.chan_state.specs.declared.channel.Channel.{Channel}
use Rattle.ctl.proofs.ServedVerbs.{channel_low}
use Rattle.ctl.proofs.StandingChannels as Standing
use Rattle.ctl.specs.Asked.{FitsDrive}
use Rattle.ctl.specs.ChannelCalls.{EndsOn, MayRefreshOn, MayServeOn, RefreshEndsOn, stop_on}
use Rattle.ctl.specs.Draining.{MayRefresh, Refreshes}
use Rattle.ctl.specs.OnOne.{ServesOnOne}
use Rattle.ctl.specs.Seen.{SeenChannel, seen}
use Rattle.ctl.specs.Served.{MayServe}
use Rattle.run_laws.specs.ServedRuns.{channel_of}
use Rattle.ssd_geo.specs.declared.policy_view.PolicyView.{PolicyView}
use Rattle.ssd_geo.specs.declared.reply.RefreshReply.{RefreshReply}
use Rattle.ssd_geo.specs.declared.reply.Reply.{Reply}
use Rattle.ssd_geo.specs.declared.stop.StepStop.{StepStop}
use Rattle.ssd_geo.specs.declared.tag.Tag.{Tag}
use Rattle.ssd_geo.specs.declared.trace.TraceCall.{TraceCall}

-- what is seen of a channel whose policy tells so
abbrev pub seen_by : {D P : Type 0} → (P → Option PolicyView) → Channel D P → SeenChannel
seen_by told channel = seen channel.kept (told channel.policy)

module _ {X : Type 0} (see : X → SeenChannel) (channels : List X) (worker : WorkerState) where
  as_many : length (map see channels) ≡ length channels
  as_many = length-map channels see

  -- a channel among them, and the channels with it changed
  module _ (k : ℕ) (low : k < length channels) (other : X) where
    abbrev old : SeenChannel
    old = see (slice_index_or channels k other)

    is : slice_get (map see channels) k ≡ Some old
    is = slice_get-map see channels k ∙ ap (option_map see) (slice_get-get_or channels k other low)

    set : (new : X) → slice_set (map see channels) k (see new) ≡ map see (slice_set channels k new)
    set new = sym (map-set see channels k new)

  -- a call that may be served
  module _ (hints : List ℕ) (call : TraceCall) (may : MayServe worker (map see channels) hints call) where
    pub some_channel : 1 ≤ length channels
    some_channel = subst (λ (n : ℕ). 1 ≤ n) as_many may.some_channel

    pub few_channels : length channels ≤ 8
    few_channels = subst (λ (n : ℕ). n ≤ 8) as_many may.few_channels

    pub fits : FitsDrive worker.shape (length channels) call.verb
    fits = subst (λ (n : ℕ). FitsDrive worker.shape n call.verb) as_many may.fits

    -- its channel is one of the drive's
    module _ (k : ℕ) (on : channel_of (length channels) call.verb ≡ Some k) where
      pub low : k < length channels
      low = channel_low worker.shape (length channels) k call.verb some_channel on fits

      module _ (other : X) where
        was : slice_get (map see channels) k ≡ Some (old k low other)
        was = is k low other

        -- it may be served there
        pub may_serve_on : MayServeOn worker (old k low other) call.tag call.verb
        may_serve_on =
            let start = Standing.start worker (map see channels) k (old k low other) was may.starts may.contents may.standing in
            record {
              start = start;
              contents = may.contents;
              works = Standing.works worker (map see channels) k (old k low other) was may.starts may.contents may.standing;
              stands = Standing.stood worker (map see channels) k (old k low other) was may.starts may.contents may.standing;
              own_data = may.own_data;
              none_open = may.none_open k (old k low other) was;
            }

        on_seen : channel_of (length (map see channels)) call.verb ≡ Some k
        on_seen = subst (λ (n : ℕ). channel_of n call.verb ≡ Some k) (sym as_many) on

        module _ (new : X) where
          ends : (result : Result Reply StepStop) →
              EndsOn worker (length (map see channels)) (old k low other) (see new) call.tag call.verb result →
              ServesOnOne worker (map see channels) (slice_set (map see channels) k (see new)) call
              (elim result [ Ok reply ↦ Ok reply | Err stop ↦ Err (stop_on k stop) ])
          ends (Ok reply) serves = record {
            rooms =
                Standing.rooms_kept worker (map see channels) k (old k low other) was (see new)
                (Standing.serves_keep worker (map see channels) k (old k low other) was may.starts may.contents may.standing
                call may.own_data (see new) reply serves);
            served = λ starts contents standing own.
                Standing.serves_on worker (map see channels) k (old k low other) was starts contents standing call own on_seen
                (see new) reply serves;
          }
          ends (Err (StepStop.HistoryFull told)) full = record {
            rooms =
                Standing.rooms_kept worker (map see channels) k (old k low other) was (see new)
                (Standing.stops_keep worker (map see channels) k (old k low other) was may.starts may.contents may.standing
                call may.own_data (see new) told full);
            stopped = λ starts contents standing own.
                Standing.stops_on worker (map see channels) k (old k low other) was starts contents standing call own on_seen
                (see new) told full;
          }
          ends (Err StepStop.Memory) broken = λ starts contents standing own.
              Standing.breaks_off_on worker (map see channels) k (old k low other) was starts contents standing call own on_seen
              (see new) broken

          -- how it ended there is how it ended
          pub serves_on_one : (result : Result Reply StepStop) →
              EndsOn worker (length channels) (old k low other) (see new) call.tag call.verb result →
              ServesOnOne worker (map see channels) (map see (slice_set channels k new)) call
              (elim result [ Ok reply ↦ Ok reply | Err stop ↦ Err (stop_on k stop) ])
          serves_on_one result ended =
              subst (λ (news : List SeenChannel). ServesOnOne worker (map see channels) news call
              (elim result [ Ok reply ↦ Ok reply | Err stop ↦ Err (stop_on k stop) ])) (set k low other new)
              (ends result
              (subst (λ (n : ℕ). EndsOn worker n (old k low other) (see new) call.tag call.verb result) (sym as_many) ended))

  -- a page that may be refreshed
  module _ (may : MayRefresh worker (map see channels)) where
    pub some_to_refresh : 1 ≤ length channels
    some_to_refresh = subst (λ (n : ℕ). 1 ≤ n) as_many may.some_channel

    pub few_to_refresh : length channels ≤ 8
    few_to_refresh = subst (λ (n : ℕ). n ≤ 8) as_many may.few_channels

    module _ (k page : ℕ) (on : k ≡ page % length channels) where
      pub page_low : k < length channels
      page_low = let some = some_to_refresh in omega (arith, on, some)

      module _ (other : X) where
        page_was : slice_get (map see channels) k ≡ Some (old k page_low other)
        page_was = is k page_low other

        -- it may be refreshed there
        pub may_refresh_on : MayRefreshOn worker (old k page_low other)
        may_refresh_on = record {
          start = Standing.start worker (map see channels) k (old k page_low other) page_was may.starts may.contents may.standing;
          contents = may.contents;
          works = Standing.works worker (map see channels) k (old k page_low other) page_was may.starts may.contents may.standing;
          stands = Standing.stood worker (map see channels) k (old k page_low other) page_was may.starts may.contents may.standing;
        }

        on_page : k ≡ page % length (map see channels)
        on_page = subst (λ (n : ℕ). k ≡ page % n) (sym as_many) on

        module _ (tag : Tag) (new : X) where
          page_ends : (result : Result RefreshReply StepStop) →
              RefreshEndsOn worker (old k page_low other) (see new) tag (page / length (map see channels)) result →
              Refreshes worker (map see channels) (slice_set (map see channels) k (see new)) tag page
              (elim result [ Ok reply ↦ Ok reply | Err stop ↦ Err (stop_on k stop) ])
          page_ends (Ok reply) refreshes = record {
            rooms =
                Standing.rooms_kept worker (map see channels) k (old k page_low other) page_was (see new)
                (Standing.refreshes_keep worker (map see channels) k (old k page_low other) page_was may.starts may.contents
                may.standing tag page (see new) reply refreshes);
            refreshed = λ starts contents standing.
                Standing.refreshes_on worker (map see channels) k (old k page_low other) page_was starts contents standing tag page
                on_page (see new) reply refreshes;
          }
          page_ends (Err (StepStop.HistoryFull told)) left_out = record {
            rooms =
                Standing.rooms_kept worker (map see channels) k (old k page_low other) page_was (see new)
                (Standing.left_out_keeps worker (map see channels) k (old k page_low other) page_was may.starts may.contents
                may.standing (see new) told left_out);
            channel_is = on_page;
            pasts_stay = Standing.pasts_stay worker (map see channels) k (old k page_low other) page_was (see new) left_out.past_stays;
            no_room = λ starts contents standing.
                Standing.left_out_on worker (map see channels) k (old k page_low other) page_was starts contents standing (see new)
                told left_out;
          }
          page_ends (Err StepStop.Memory) refused = record {
            pasts_stay = Standing.pasts_stay worker (map see channels) k (old k page_low other) page_was (see new) refused.past_stays;
            stands = λ starts contents standing. (
              Standing.refused_on worker (map see channels) k (old k page_low other) page_was starts contents standing (see new)
                  refused,
              tt,
            );
          }

          -- how its refresh ended there is how it ended
          pub refreshes_page : (row : ℕ) → row ≡ page / length channels → (result : Result RefreshReply StepStop) →
              RefreshEndsOn worker (old k page_low other) (see new) tag row result →
              Refreshes worker (map see channels) (map see (slice_set channels k new)) tag page
              (elim result [ Ok reply ↦ Ok reply | Err stop ↦ Err (stop_on k stop) ])
          refreshes_page row row_is result ended =
              subst (λ (news : List SeenChannel). Refreshes worker (map see channels) news tag page
              (elim result [ Ok reply ↦ Ok reply | Err stop ↦ Err (stop_on k stop) ])) (set k page_low other new)
              (page_ends result
              (subst (λ (n : ℕ). RefreshEndsOn worker (old k page_low other) (see new) tag (page / n) result) (sym as_many)
              (subst (λ (n : ℕ). RefreshEndsOn worker (old k page_low other) (see new) tag n result) row_is ended)))
