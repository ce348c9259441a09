-- What one call makes of the queue of hints: a drain takes pages from its front, and a read that is a hint pushes its page.
use Rattle.std.proofs.Common.{ℕ, ◌≡◌, ◌≤◌, ◌<◌, ◌+◌, ◌%◌, ◌/◌, Bool, true, false, List, [], ◌∷◌, ◌++◌, length, Option, Some, None, refl, sym, ap, subst, ◌∙◌, append-nil, arith, length-append, ltb-true}
use Rattle.std.specs.Prelude.{IsSomeAnd, IsTrue, nat_lt, slice_get}
use Rattle.ssd_histories.specs.CallSteps.{steps_of}
use Rattle.ssd_histories.specs.CallsInOrder.{ChannelRun, IsReplyBy, is_age_of, is_trim_of, ladder_in}
use Rattle.ssd_histories.specs.Copies.{IsRead, IsRefresh}
use Rattle.ssd_histories.specs.Replies.{read_reply}
use Rattle.ssd_histories.specs.Rounds.{is_one}
use Rattle.ssd_histories.specs.SerialCalls.{SerialCollect, SerialWrite}
use Rattle.ssd_histories.specs.SerialHistory.{HasForm, OnChannel, SerialCall, SerialDrain, SerialState, faults, finds_none, has_taken_all, is_hint, most_hints, pages_drained, takes, with_hint}
use Rattle.ssd_geo.specs.declared.entry.Entry.{Entry}
use Rattle.ssd_geo.specs.declared.reply.Reply.{Reply}
use Rattle.ssd_geo.specs.declared.tag.Tag.{Tag}
use Rattle.ssd_geo.specs.declared.trace.Verb.{Verb}
use Rattle.serial_laws.proofs.ServedVerbs.{read_keeps}
use Rattle.serial_output.specs.ExactHints.{dropped_of, hint_by, kept_of, pages_by}

-- a queue to which some pages were pushed, while some hints were dropped
record IsPushed (state : SerialState) (kept : List ℕ) (count : ℕ) (after : SerialState) : Type 0 where
  hints : after.hints ≡ state.hints ++ kept
  dropped : after.dropped ≡ state.dropped + count
  few : length after.hints ≤ most_hints

module _ (page : ℕ) (state : SerialState) (few : length state.hints ≤ most_hints) where
  nothing_pushed : IsPushed state [] 0 state
  nothing_pushed = record { hints = sym (append-nil state.hints); dropped = omega arith; few = few }

  by_room : (room : Bool) → nat_lt (length state.hints) most_hints ≡ room →
      IsPushed state (elim room [ true ↦ page ∷ [] | false ↦ [] ]) (elim room [ true ↦ 0 | false ↦ 1 ])
      (elim room [
        | true ↦ record state { hints = state.hints ++ page ∷ [] }
        | false ↦ record state { dropped = state.dropped + 1 }
      ])
  by_room true e =
      let low : length state.hints < 256 = ltb-true (length state.hints) most_hints e in
      let longer = length-append state.hints (page ∷ []) in
      record { hints = refl; dropped = omega arith; few = omega (arith, low, longer) }
  by_room false e = record { hints = sym (append-nil state.hints); dropped = refl; few = few }

  -- a page is pushed where the reply is a hint
  by_hint : (hint : Bool) →
      IsPushed state (kept_of (length state.hints) (elim hint [ true ↦ Some page | false ↦ None ]))
      (dropped_of (length state.hints) (elim hint [ true ↦ Some page | false ↦ None ]))
      (elim hint [ true ↦ with_hint page state | false ↦ state ])
  by_hint true = by_room (nat_lt (length state.hints) most_hints) refl
  by_hint false = nothing_pushed

  pushed_by : (found : Option Reply) (reply : Reply) → found ≡ Some reply →
      IsPushed state (kept_of (length state.hints) (hint_by (Some reply) (Verb.Read page)))
      (dropped_of (length state.hints) (hint_by (Some reply) (Verb.Read page)))
      (elim (is_hint found) [ true ↦ with_hint page state | false ↦ state ])
  pushed_by found reply is =
      subst (λ (told : Option Reply).
      IsPushed state (kept_of (length state.hints) (hint_by (Some reply) (Verb.Read page)))
      (dropped_of (length state.hints) (hint_by (Some reply) (Verb.Read page)))
      (elim (is_hint told) [ true ↦ with_hint page state | false ↦ state ])) (sym is) (by_hint (is_hint (Some reply)))

-- what one call makes of the queue: the pages it took come first, and the hint that it keeps is the last
pub record MovesQueue (reply : Option Reply) (verb : Verb) (before after : SerialState) : Type 0 where
  pub in_order : pages_by reply verb ++ after.hints ≡ before.hints ++ kept_of (length before.hints) (hint_by reply verb)
  pub dropped : after.dropped ≡ before.dropped + dropped_of (length before.hints) (hint_by reply verb)
  pub few : length after.hints ≤ most_hints

-- a call on one channel leaves the queue as it is
record LeavesQueue (before after : SerialState) : Type 0 where
  hints : after.hints ≡ before.hints
  dropped : after.dropped ≡ before.dropped

on_channel_leaves : (channel : ℕ) (fact : ChannelRun → List Entry → List Entry → Type 0) (before after : SerialState) →
    OnChannel channel fact before after → LeavesQueue before after
on_channel_leaves channel fact before after on = record {
  hints = ap (λ (state : SerialState). state.hints) on.after_is;
  dropped = ap (λ (state : SerialState). state.dropped) on.after_is;
}

module _ (contents : List (Tag × List ℕ)) (channels : ℕ) (tag : Tag) where
  -- a drain takes its pages from the front
  record TakesFront (pages : List ℕ) (before after : SerialState) : Type 0 where
    hints : before.hints ≡ pages ++ after.hints
    dropped : after.dropped ≡ before.dropped

  drain_takes : {count : ℕ} {pages : List ℕ} {before after : SerialState} →
      SerialDrain contents channels tag count pages before after → TakesFront pages before after
  drain_takes has_taken_all = record { hints = refl; dropped = refl }
  drain_takes (finds_none none) = record { hints = refl; dropped = refl }
  drain_takes {before = before} {after = after}
      (takes {page = page} {rest = rest} {pages = pages} {between = between} is one more) =
      let later : TakesFront pages between after = drain_takes more in
      record {
        hints =
            is
            ∙ ap (λ (list : List ℕ). page ∷ list) (sym (ap (λ (state : SerialState). state.hints) one.after_is) ∙ later.hints);
        dropped = later.dropped ∙ ap (λ (state : SerialState). state.dropped) one.after_is;
      }
  drain_takes {before = before} {after = after} (faults {page = page} {rest = rest} is one) = record {
    hints = is ∙ ap (λ (list : List ℕ). page ∷ list) (sym (ap (λ (state : SerialState). state.hints) one.after_is));
    dropped = ap (λ (state : SerialState). state.dropped) one.after_is;
  }

  -- the reply of a read, by the steps on its channel
  by_run : (reply : Reply) (found : Option ChannelRun) →
      IsSomeAnd found
      (λ run. read_reply run.start.base.shape.bytes (ladder_in contents run) (steps_of tag run.past) ≡ Some reply) →
      ◌≡◌ {A = Option Reply}
      (elim found [
        | Some run ↦ read_reply run.start.base.shape.bytes (ladder_in contents run) (steps_of tag run.past)
        | None ↦ None
      ]) (Some reply)
  by_run reply (Some run) is = is
  by_run reply None is = absurd is

  module _ (reply : Reply) (before after : SerialState) (few : length before.hints ≤ most_hints)
      (many : length after.channels ≡ channels) where
    leaves : (verb : Verb) → pages_by (Some reply) verb ≡ [] → hint_by (Some reply) verb ≡ None →
        LeavesQueue before after → MovesQueue (Some reply) verb before after
    leaves verb no_page no_hint left = record {
      in_order = rw (no_page, no_hint) (left.hints ∙ sym (append-nil before.hints));
      dropped = rw no_hint (let same = left.dropped in omega (arith, same));
      few = let same = ap (λ (list : List ℕ). length list) left.hints in omega (arith, same, few);
    }

    pub call_moves : (verb : Verb) → SerialCall contents channels tag reply verb before after →
        IsReplyBy contents after.channels tag reply verb → MovesQueue (Some reply) verb before after
    call_moves (Verb.Write page content) on is =
        leaves (Verb.Write page content) refl refl
        (on_channel_leaves (page % channels)
        (λ run. SerialWrite (ladder_in contents run) run.start.base tag (page / channels)) before after on)
    call_moves (Verb.Read page) on is =
        let left : LeavesQueue before on.between =
        on_channel_leaves (page % channels)
        (λ run. HasForm (IsRead (ladder_in contents run) (page / channels)) tag) before on.between on.reads in
        let same_channels : after.channels ≡ on.between.channels =
        ap (λ (state : SerialState). state.channels) on.after_is ∙ read_keeps contents channels tag page on.between in
        let fact : ChannelRun → Type 0 =
        λ run. read_reply run.start.base.shape.bytes (ladder_in contents run) (steps_of tag run.past) ≡ Some reply in
        let own : IsSomeAnd (slice_get after.channels (page % channels)) fact =
        subst (λ (n : ℕ). IsSomeAnd (slice_get after.channels (page % n)) fact) many is in
        let here : IsSomeAnd (slice_get on.between.channels (page % channels)) fact =
        subst (λ (runs : List ChannelRun). IsSomeAnd (slice_get runs (page % channels)) fact) same_channels own in
        let short : length on.between.hints ≤ most_hints =
        let same = ap (λ (list : List ℕ). length list) left.hints in omega (arith, same, few) in
        let pushed = pushed_by page on.between short
        (elim (slice_get on.between.channels (page % channels)) [
          | Some run ↦ read_reply run.start.base.shape.bytes (ladder_in contents run) (steps_of tag run.past)
          | None ↦ None
        ]) reply (by_run reply (slice_get on.between.channels (page % channels)) here) in
        let moved : MovesQueue (Some reply) (Verb.Read page) on.between after = record {
          in_order = ap (λ (state : SerialState). state.hints) on.after_is ∙ pushed.hints;
          dropped = ap (λ (state : SerialState). state.dropped) on.after_is ∙ pushed.dropped;
          few =
              let same = ap (λ (state : SerialState). length state.hints) on.after_is in
              let short = pushed.few in omega (arith, same, short);
        } in
        record {
          in_order =
              moved.in_order
              ∙ ap (λ (list : List ℕ). list ++ kept_of (length list) (hint_by (Some reply) (Verb.Read page))) left.hints;
          dropped =
              moved.dropped
              ∙ ap (λ (n : ℕ). n + dropped_of (length on.between.hints) (hint_by (Some reply) (Verb.Read page))) left.dropped
              ∙ ap (λ (list : List ℕ). before.dropped + dropped_of (length list)
              (hint_by (Some reply) (Verb.Read page))) left.hints;
          few = moved.few;
        }
    call_moves (Verb.Trim page) on is =
        leaves (Verb.Trim page) refl refl
        (on_channel_leaves (page % channels)
        (λ run. HasForm (λ steps. IsTrue (is_one (is_trim_of (page / channels)) steps)) tag) before after on)
    call_moves (Verb.Refresh page) on is =
        leaves (Verb.Refresh page) refl refl
        (on_channel_leaves (page % channels)
        (λ run. HasForm (IsRefresh (ladder_in contents run) (page / channels)) tag) before after on)
    call_moves (Verb.Collect channel) on is =
        leaves (Verb.Collect channel) refl refl
        (on_channel_leaves channel (λ run. SerialCollect (ladder_in contents run) run.start.base tag) before after on)
    call_moves (Verb.Drain count) drain is =
        let front : TakesFront (pages_drained reply) before after = drain_takes drain in
        record {
          in_order = sym front.hints ∙ sym (append-nil before.hints);
          dropped = let same = front.dropped in omega (arith, same);
          few =
              let same = ap (λ (list : List ℕ). length list) front.hints in
              let parts = length-append (pages_drained reply) after.hints in omega (arith, same, parts, few);
        }
    call_moves (Verb.Age channel die sb amount) on is =
        leaves (Verb.Age channel die sb amount) refl refl
        (on_channel_leaves channel
        (λ run. HasForm (λ steps. IsTrue (is_one (is_age_of die sb amount) steps)) tag) before after on)
