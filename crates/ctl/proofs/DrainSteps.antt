-- A drain page by page: what it has refreshed so far, and that it comes to its end, goes on or stops with one page more.
use Rattle.std.proofs.Common.{ℕ, suc, ◌≡◌, ◌+◌, ◌-◌, ◌%◌, ◌<◌, ◌≤◌, false, true, List, [], ◌∷◌, ◌++◌, length, map, refl, sym, ap, subst, ◌∙◌, append_assoc, arith, length-append}
use Rattle.std.specs.Prelude.{Err}
use Rattle.std.proofs.lemmas.List.{append-nil, length-map}
use Rattle.std.proofs.lemmas.List.Elements.{All-head, All-tail}
use Rattle.std.proofs.lemmas.Option.{slice_get_within, same_Some}
use Rattle.chan_calls.specs.Workers.{WorkerState}
use Rattle.ctl.proofs.StandingChannels.{keeps_itself}
use Rattle.ctl.specs.Asked.{HintsFit, IsPageOf}
use Rattle.ctl.specs.BrokenOff.{BreaksOffInDrain, is_refused, is_taken}
use Rattle.ctl.specs.BrokenOff as broken
use Rattle.ctl.specs.Draining.{Drains, HasDrained, HasStoppedInDrain, IsLeftOut, IsRefreshed, MayRefresh, OfEachStart, Refreshes}
use Rattle.ctl.specs.Seen.{SeenChannel, pasts_of}
use Rattle.ctl.specs.Served.{AreStanding, KeepRooms, KeepsRoom}
use Rattle.run_laws.specs.ServedRuns.{DrainsTo, RefreshesOn, faults, finds_none, has_taken_all, takes}
use Rattle.run_laws.specs.StoppedRuns.{StopsInDrain, goes_on, stops}
use Rattle.serial_laws.proofs.Lists.{IsItemAt, item_at}
use Rattle.ssd_geo.specs.declared.entry.Entry.{Entry}
use Rattle.ssd_geo.specs.declared.reply.RefreshReply.{RefreshReply}
use Rattle.ssd_geo.specs.declared.reply.Reply.{Reply}
use Rattle.ssd_geo.specs.declared.stop.ServeStop.{ServeStop}
use Rattle.ssd_geo.specs.declared.tag.Tag.{Tag}
use Rattle.ssd_histories.specs.HistoryRoom.{found_room}
use Rattle.ssd_histories.specs.Replies.{is_die_fault}
use Rattle.ssd_histories.specs.Start.{Start}

-- a drain has refreshed these pages so far, with these replies, and no die's call failed; it led from some pasts and hints to
-- others
pub data HasTaken (contents : List (Tag × List ℕ)) (starts : List Start) (tag : Tag) : List (ℕ × RefreshReply) →
    List (List Entry) → List ℕ → List (List Entry) → List ℕ → Type 0 where
  has_begun : {pasts : List (List Entry)} {hints : List ℕ} → HasTaken contents starts tag [] pasts hints pasts hints
  one_more : {page : ℕ} {reply : RefreshReply} {drained : List (ℕ × RefreshReply)} {hints rest : List ℕ}
      {pasts between after : List (List Entry)} → HasTaken contents starts tag drained pasts hints between (page ∷ rest)
      → RefreshesOn contents starts tag page reply between after → is_die_fault reply ≡ false
      → HasTaken contents starts tag (drained ++ (page, reply) ∷ []) pasts hints after rest

-- with one page more there is one more to count
longer : (drained : List (ℕ × RefreshReply)) (one : ℕ × RefreshReply) (count : ℕ) →
    length drained + suc count ≡ length (drained ++ one ∷ []) + count
longer drained one count = let long = length-append drained (one ∷ []) in omega (arith, long)

-- what follows a drain so far
module _ (contents : List (Tag × List ℕ)) (starts : List Start) (tag : Tag) where
  then_drains : {drained : List (ℕ × RefreshReply)} {pasts now : List (List Entry)} {hints rest : List ℕ}
      (more : List (ℕ × RefreshReply)) (count : ℕ) (after : List (List Entry)) (left : List ℕ) →
      HasTaken contents starts tag drained pasts hints now rest →
      DrainsTo contents starts tag count more now rest after left →
      DrainsTo contents starts tag (length drained + count) (drained ++ more) pasts hints after left
  then_drains more count after left (has_begun {pasts = pasts} {hints = hints}) drains =
      let same : count ≡ 0 + count = omega arith in
      subst (λ (n : ℕ). DrainsTo contents starts tag n more pasts hints after left) same drains
  then_drains more count after left
      (one_more {page = page} {reply = reply} {drained = before} {hints = hints} {pasts = pasts} front refreshes none) drains =
      subst (λ (n : ℕ). DrainsTo contents starts tag n ((before ++ (page, reply) ∷ []) ++ more) pasts hints after left)
      (longer before (page, reply) count)
      (subst (λ (pages : List (ℕ × RefreshReply)).
      DrainsTo contents starts tag (length before + suc count) pages pasts hints after left)
      (sym (append_assoc before ((page, reply) ∷ []) more))
      (then_drains ((page, reply) ∷ more) (suc count) after left front (takes refreshes none drains)))

  then_stops : {drained : List (ℕ × RefreshReply)} {pasts now : List (List Entry)} {hints rest : List ℕ}
      (channel entries count : ℕ) (after : List (List Entry)) (left : List ℕ) →
      HasTaken contents starts tag drained pasts hints now rest →
      StopsInDrain contents starts tag channel entries count now rest after left →
      StopsInDrain contents starts tag channel entries (length drained + count) pasts hints after left
  then_stops channel entries count after left (has_begun {pasts = pasts} {hints = hints}) stopped =
      let same : count ≡ 0 + count = omega arith in
      subst (λ (n : ℕ). StopsInDrain contents starts tag channel entries n pasts hints after left) same stopped
  then_stops channel entries count after left
      (one_more {page = page} {reply = reply} {drained = before} {hints = hints} {pasts = pasts} front refreshes none) stopped =
      subst (λ (n : ℕ). StopsInDrain contents starts tag channel entries n pasts hints after left)
      (longer before (page, reply) count)
      (then_stops channel entries (suc count) after left front (goes_on refreshes none stopped))

  then_breaks_off : {drained : List (ℕ × RefreshReply)} {pasts now : List (List Entry)} {hints rest : List ℕ}
      (count : ℕ) (after : List (List Entry)) (left : List ℕ) → HasTaken contents starts tag drained pasts hints now rest →
      BreaksOffInDrain contents starts tag count now rest after left →
      BreaksOffInDrain contents starts tag (length drained + count) pasts hints after left
  then_breaks_off count after left (has_begun {pasts = pasts} {hints = hints}) breaks =
      let same : count ≡ 0 + count = omega arith in
      subst (λ (n : ℕ). BreaksOffInDrain contents starts tag n pasts hints after left) same breaks
  then_breaks_off count after left
      (one_more {page = page} {reply = reply} {drained = before} {hints = hints} {pasts = pasts} front refreshes none) breaks =
      subst (λ (n : ℕ). BreaksOffInDrain contents starts tag n pasts hints after left)
      (longer before (page, reply) count)
      (then_breaks_off (suc count) after left front (broken.goes_on refreshes none breaks))

-- the rooms of histories that two calls keep one after the other are kept
keeps_both : (old between new : SeenChannel) → KeepsRoom old between → KeepsRoom between new → KeepsRoom old new
keeps_both old between new first second = record {
  limit_stays = second.limit_stays ∙ first.limit_stays;
  has_room = λ found short.
      let then = first.has_room found short in
      let here : between.kept.limit ≡ old.kept.limit = first.limit_stays in
      let last = second.has_room
      (subst (λ (limit : ℕ). found_room limit between.kept.past ≡ true) (sym here) then.0)
      (subst (λ (limit : ℕ). length between.kept.past ≤ limit) (sym here) then.1) in (
        subst (λ (limit : ℕ). found_room limit new.kept.past ≡ true) here last.0,
        subst (λ (limit : ℕ). length new.kept.past ≤ limit) here last.1,
      );
}

pub rooms_stay : (channels : List SeenChannel) → KeepRooms channels channels
rooms_stay channels = record {
  as_many = refl;
  each = λ n before after was now.
      subst (λ (channel : SeenChannel). KeepsRoom before channel) (same_Some before after (sym was ∙ now)) (keeps_itself before);
}

pub rooms_join : (olds between news : List SeenChannel) → KeepRooms olds between → KeepRooms between news → KeepRooms olds news
rooms_join olds between news first second = record {
  as_many = second.as_many ∙ first.as_many;
  each = λ n before after was now.
      let low = slice_get_within olds n before was in
      let middle : IsItemAt between n = item_at between n (subst (λ (count : ℕ). n < count) (sym first.as_many) low) in
      keeps_both before middle.item after (first.each n before middle.item was middle.is_there)
      (second.each n middle.item after middle.is_there now);
}

-- a drain of channels so far: what they stood for they stand for, and these pages were refreshed
pub record DrainsSoFar (worker : WorkerState) (olds news : List SeenChannel) (hints waiting : List ℕ) (tag : Tag)
    (drained : List (ℕ × RefreshReply)) : Type 0 where
  pub rooms : KeepRooms olds news
  pub hints_fit : HintsFit worker.shape (length olds) hints → HintsFit worker.shape (length olds) waiting
  pub taken :
      OfEachStart worker olds news
      (λ starts contents. HasTaken contents starts tag drained (pasts_of olds) hints (pasts_of news) waiting)

pub drain_begins : (worker : WorkerState) (channels : List SeenChannel) (hints : List ℕ) (tag : Tag) →
    DrainsSoFar worker channels channels hints hints tag []
drain_begins worker channels hints tag = record {
  rooms = rooms_stay channels;
  hints_fit = λ fit. fit;
  taken = λ starts contents standing. (standing, has_begun);
}

-- no memory for the reply of a drain: no hint was taken
pub drain_is_not_begun : (worker : WorkerState) (channels : List SeenChannel) (hints : List ℕ) (tag : Tag) (count : ℕ) →
    Drains worker channels channels hints hints tag count (Err ServeStop.Memory)
drain_is_not_begun worker channels hints tag count = λ starts contents standing. (standing, is_refused)

module _ (worker : WorkerState) (olds news : List SeenChannel) (hints waiting : List ℕ) (tag : Tag)
    (drained : List (ℕ × RefreshReply)) (so_far : DrainsSoFar worker olds news hints waiting tag drained) where
  -- its channels may be refreshed on
  pub may_go_on : MayRefresh worker olds → MayRefresh worker news
  may_go_on may = record {
    starts = may.starts;
    contents = may.contents;
    standing = (so_far.taken may.starts may.contents may.standing).0;
    some_channel = subst (λ (n : ℕ). 1 ≤ n) (sym so_far.rooms.as_many) may.some_channel;
    few_channels = subst (λ (n : ℕ). n ≤ 8) (sym so_far.rooms.as_many) may.few_channels;
  }

  -- it came to its end, with all its pages, or since no hint waits
  pub has_all : (count : ℕ) → length drained ≡ count → HasDrained worker olds news hints waiting tag count (Reply.Drained drained)
  has_all count all = record {
    rooms = so_far.rooms;
    hints_fit = so_far.hints_fit;
    drained = λ starts contents standing.
        let taken = so_far.taken starts contents standing in
        let whole : length drained + 0 ≡ count = omega (arith, all) in (
          taken.0,
          record {
            drained = drained;
            reply_is = refl;
            drains =
                subst (λ (n : ℕ). DrainsTo contents starts tag n drained (pasts_of olds) hints (pasts_of news) waiting) whole
                (subst (λ (pages : List (ℕ × RefreshReply)).
                DrainsTo contents starts tag (length drained + 0) pages (pasts_of olds) hints (pasts_of news) waiting)
                (append-nil drained)
                (then_drains contents starts tag [] 0 (pasts_of news) waiting taken.1 has_taken_all));
          },
        );
  }

  pub none_waits : (left : List ℕ) (count : ℕ) → length drained ≤ count → waiting ≡ [] → left ≡ [] →
      HasDrained worker olds news hints left tag count (Reply.Drained drained)
  none_waits left count low none are_none =
      subst (λ (hints_left : List ℕ). HasDrained worker olds news hints hints_left tag count (Reply.Drained drained))
      (sym are_none) (record {
        rooms = so_far.rooms;
        hints_fit = λ fit. subst (HintsFit worker.shape (length olds)) none (so_far.hints_fit fit);
        drained = λ starts contents standing.
            let taken = so_far.taken starts contents standing in
            let whole : length drained + (count - length drained) ≡ count = omega (arith, low) in (
              taken.0,
              record {
                drained = drained;
                reply_is = refl;
                drains =
                    subst (λ (n : ℕ). DrainsTo contents starts tag n drained (pasts_of olds) hints (pasts_of news) []) whole
                    (subst (λ (pages : List (ℕ × RefreshReply)).
                    DrainsTo contents starts tag (length drained + (count - length drained)) pages (pasts_of olds) hints
                    (pasts_of news) []) (append-nil drained)
                    (then_drains contents starts tag [] (count - length drained) (pasts_of news) []
                    (subst (HasTaken contents starts tag drained (pasts_of olds) hints (pasts_of news)) none taken.1)
                    finds_none));
              },
            );
      })

  -- a hint waits, in front of others
  module _ (page : ℕ) (rest : List ℕ) (front : waiting ≡ page ∷ rest) where
    waits : HintsFit worker.shape (length olds) hints → HintsFit worker.shape (length olds) (page ∷ rest)
    waits fit = subst (HintsFit worker.shape (length olds)) front (so_far.hints_fit fit)

    pub page_fits : HintsFit worker.shape (length olds) hints → IsPageOf worker.shape (length news) page
    page_fits fit =
        subst (λ (n : ℕ). IsPageOf worker.shape n page) (sym so_far.rooms.as_many)
        (All-head (IsPageOf worker.shape (length olds)) page rest (waits fit))

    rest_fits : HintsFit worker.shape (length olds) hints → HintsFit worker.shape (length olds) rest
    rest_fits fit = All-tail (IsPageOf worker.shape (length olds)) page rest (waits fit)

    taken_here : (starts : List Start) (contents : List (Tag × List ℕ)) → AreStanding worker olds starts contents →
        HasTaken contents starts tag drained (pasts_of olds) hints (pasts_of news) (page ∷ rest)
    taken_here starts contents standing =
        subst (HasTaken contents starts tag drained (pasts_of olds) hints (pasts_of news)) front
        (so_far.taken starts contents standing).1

    -- its page was refreshed
    module _ (nexts : List SeenChannel) (reply : RefreshReply) (refreshed : IsRefreshed worker news nexts tag page reply) where
      pub drain_goes_on : is_die_fault reply ≡ false →
          DrainsSoFar worker olds nexts hints rest tag (drained ++ (page, reply) ∷ [])
      drain_goes_on none = record {
        rooms = rooms_join olds news nexts so_far.rooms refreshed.rooms;
        hints_fit = rest_fits;
        taken = λ starts contents standing.
            let one = refreshed.refreshed starts contents (so_far.taken starts contents standing).0 in
            (one.0, one_more (taken_here starts contents standing) one.1 none);
      }

      -- and a die's call failed in that
      pub drain_faults : (count : ℕ) → length drained < count → is_die_fault reply ≡ true →
          HasDrained worker olds nexts hints rest tag count (Reply.Drained (drained ++ (page, reply) ∷ []))
      drain_faults count low fault = record {
        rooms = rooms_join olds news nexts so_far.rooms refreshed.rooms;
        hints_fit = rest_fits;
        drained = λ starts contents standing.
            let one = refreshed.refreshed starts contents (so_far.taken starts contents standing).0 in
            let whole : length drained + suc (count - length drained - 1) ≡ count = omega (arith, low) in (
              one.0,
              record {
                drained = drained ++ (page, reply) ∷ [];
                reply_is = refl;
                drains =
                    subst (λ (n : ℕ).
                    DrainsTo contents starts tag n (drained ++ (page, reply) ∷ []) (pasts_of olds) hints (pasts_of nexts) rest)
                    whole
                    (then_drains contents starts tag ((page, reply) ∷ []) (suc (count - length drained - 1)) (pasts_of nexts) rest
                    (taken_here starts contents standing) (faults one.1 fault));
              },
            );
      }

    -- or its look found no room
    pub drain_stops : (nexts : List SeenChannel) (channel entries count : ℕ) → length drained < count →
        IsLeftOut worker news nexts page channel entries →
        HasStoppedInDrain worker olds nexts hints rest tag count channel entries
    drain_stops nexts channel entries count low left_out = record {
      rooms = rooms_join olds news nexts so_far.rooms left_out.rooms;
      stopped = λ starts contents standing.
          let stood = (so_far.taken starts contents standing).0 in
          let one = left_out.no_room starts contents stood in
          let whole : length drained + suc (count - length drained - 1) ≡ count = omega (arith, low) in
          let on : channel ≡ page % length starts =
          left_out.channel_is ∙ ap (λ (n : ℕ). page % n) stood.as_many in (
            one.0,
            subst (λ (past : List (List Entry)).
                StopsInDrain contents starts tag channel entries count (pasts_of olds) hints past rest) (sym left_out.pasts_stay)
                (subst (λ (n : ℕ).
                StopsInDrain contents starts tag channel entries n (pasts_of olds) hints (pasts_of news) rest) whole
                (then_stops contents starts tag channel entries (suc (count - length drained - 1)) (pasts_of news) rest
                (taken_here starts contents standing) (stops on one.1))),
          );
    }

    -- so it is however the refresh of its page was refused
    pub drain_is_refused : (nexts : List SeenChannel) (count : ℕ) → length drained < count → (stop : ServeStop) →
        Refreshes worker news nexts tag page (Err stop) → Drains worker olds nexts hints rest tag count (Err stop)
    drain_is_refused nexts count low (ServeStop.HistoryFull channel entries) left_out =
        drain_stops nexts channel entries count low left_out
    drain_is_refused nexts count low ServeStop.Memory refused = λ starts contents standing.
        let stood = (so_far.taken starts contents standing).0 in
        let whole : length drained + suc (count - length drained - 1) ≡ count = omega (arith, low) in (
          (refused.stands starts contents stood).0,
          subst (λ (past : List (List Entry)). BreaksOffInDrain contents starts tag count (pasts_of olds) hints past rest)
              (sym refused.pasts_stay)
              (subst (λ (n : ℕ). BreaksOffInDrain contents starts tag n (pasts_of olds) hints (pasts_of news) rest) whole
              (then_breaks_off contents starts tag (suc (count - length drained - 1)) (pasts_of news) rest
              (taken_here starts contents standing) is_taken)),
        )

-- the page of the next hint is one of the drive's, where channels are seen
pub page_here : {X : Type 0} (see : X → SeenChannel) (channels : List X) (worker : WorkerState) (now : List X)
    (later : WorkerState) (same : later ≡ worker) (hints waiting : List ℕ) (tag : Tag) (drained : List (ℕ × RefreshReply)) →
    DrainsSoFar worker (map see channels) (map see now) hints waiting tag drained →
    HintsFit worker.shape (length channels) hints → (page : ℕ) (rest : List ℕ) → waiting ≡ page ∷ rest →
    IsPageOf later.shape (length now) page
page_here see channels worker now later same hints waiting tag drained so_far fit page rest front =
    subst (λ (n : ℕ). IsPageOf later.shape n page) (length-map now see)
    (subst (λ (other : WorkerState). IsPageOf other.shape (length (map see now)) page) (sym same)
    (page_fits worker (map see channels) (map see now) hints waiting tag drained so_far page rest front
    (subst (λ (n : ℕ). HintsFit worker.shape n hints) (sym (length-map channels see)) fit)))
