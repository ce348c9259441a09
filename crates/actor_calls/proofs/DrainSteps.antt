-- A drain so far: its pages were refreshed one after the other on their channels, in none of which a die's call failed; and one page
-- more, after which it goes on, or ends, or stops.
use Rattle.std.proofs.Common.{ℕ, ◌≡◌, ◌<◌, ◌≤◌, Bool, true, false, not, List, [], ◌∷◌, ◌++◌, length, Some, refl, sym, ap, subst, ◌∙◌, inl, inr, append_assoc, append-nil, length-append, arith}
use Rattle.std.specs.Prelude.{Err, IfSome, None, Ok, Option}
use Rattle.std.specs.List.{list_all, list_any}
use Rattle.std.proofs.lemmas.Bool.{and_parts, false≢true, or_left, or_right}
use Rattle.std.proofs.lemmas.List.{length-map}
use Rattle.std.proofs.lemmas.Option.{slice_get_within}
use Rattle.std.proofs.lemmas.List.{map-append}
use Rattle.chan_calls.specs.Caller.{CallerView}
use Rattle.hint_queue.specs.Orders.{HintPassState, having_taken, knowing_all_taken}
use Rattle.ssd_geo.specs.declared.entry.Entry.{Entry}
use Rattle.ssd_geo.specs.declared.reply.RefreshReply.{RefreshReply}
use Rattle.ssd_geo.specs.declared.reply.Reply.{Reply}
use Rattle.ssd_geo.specs.declared.stop.ServeStop.{ServeStop}
use Rattle.ssd_geo.specs.declared.tag.Tag.{Tag}
use Rattle.ssd_geo.specs.declared.trace.Verb.{Verb}
use Rattle.ssd_histories.specs.Replies.{is_die_fault, is_fault_last}
use Rattle.ssd_histories.specs.Start.{Start}
use Rattle.calls_among_others.proofs.AmongSteps.{none_came}
use Rattle.calls_among_others.specs.StepsAmong.{HasCome}
use Rattle.race_laws.specs.BegunCalls.{DrainsStopBegun}
use Rattle.race_laws.specs.Drains.{DrainsAmongAreDrains}
use Rattle.actor_calls.specs.Hinted.{DrainsPass, TakesHints, by_itself, having_taken_all, none_waits, pages_of}
use Rattle.actor_calls.specs.Known.{AreSameCallers, ChannelFact, OfEachChannel}
use Rattle.actor_calls.specs.Served.{NamesStop, RefreshesPage, ServesCall, is_begun_on, is_call_on, refreshes_pages}
use Rattle.actor_calls.proofs.DrainedChannels.{each_then, pages_then}

-- no page tells of a failed call
abbrev pub none_fails : List (ℕ × RefreshReply) → Bool
none_fails pages = list_all (λ drained. not (is_die_fault drained.1)) pages

none_more : (pages : List (ℕ × RefreshReply)) (page : ℕ × RefreshReply) → none_fails pages ≡ true →
    is_die_fault page.1 ≡ false → none_fails (pages ++ page ∷ []) ≡ true
none_more [] page none sound = rw sound refl
none_more (first ∷ pages) page none sound =
    let parts = and_parts (not (is_die_fault first.1)) (none_fails pages) none in
    rw (parts.0) (none_more pages page parts.1 sound)

-- so the last page alone may tell of one
last_alone : (pages : List (ℕ × RefreshReply)) (page : ℕ × RefreshReply) → none_fails pages ≡ true →
    is_fault_last (pages ++ page ∷ []) ≡ true
last_alone [] page none = refl
last_alone (first ∷ []) page none = by_test (is_die_fault first.1) (and_parts (not (is_die_fault first.1)) true none).0
  where
    by_test : (b : Bool) → not b ≡ true →
        ◌≡◌ {A = Bool} (elim b as (λ _. Bool) [ true ↦ false | false ↦ is_fault_last (page ∷ []) ]) true
    by_test true is = absurd (false≢true is)
    by_test false is = refl
last_alone (first ∷ next ∷ pages) page none =
    let parts = and_parts (not (is_die_fault first.1)) (none_fails (next ∷ pages)) none in
    by_test (is_die_fault first.1) parts.0 (last_alone (next ∷ pages) page parts.1)
  where
    by_test : (b : Bool) → not b ≡ true → is_fault_last ((next ∷ pages) ++ page ∷ []) ≡ true →
        ◌≡◌ {A = Bool} (elim b as (λ _. Bool) [ true ↦ false | false ↦ is_fault_last ((next ∷ pages) ++ page ∷ []) ]) true
    by_test true is last = absurd (false≢true is)
    by_test false is last = last

none_is_last : (pages : List (ℕ × RefreshReply)) → none_fails pages ≡ true → is_fault_last pages ≡ true
none_is_last [] none = refl
none_is_last (page ∷ []) none = refl
none_is_last (page ∷ next ∷ pages) none =
    let parts = and_parts (not (is_die_fault page.1)) (none_fails (next ∷ pages)) none in
    by_test (is_die_fault page.1) parts.0 (none_is_last (next ∷ pages) parts.1)
  where
    by_test : (b : Bool) → not b ≡ true → is_fault_last (next ∷ pages) ≡ true →
        ◌≡◌ {A = Bool} (elim b as (λ _. Bool) [ true ↦ false | false ↦ is_fault_last (next ∷ pages) ]) true
    by_test true is last = absurd (false≢true is)
    by_test false is last = last

some_failed : (pages : List (ℕ × RefreshReply)) (page : ℕ × RefreshReply) → is_die_fault page.1 ≡ true →
    list_any (λ (drained : ℕ × RefreshReply). is_die_fault drained.1) (pages ++ page ∷ []) ≡ true
some_failed [] page failed = or_left (is_die_fault page.1) false failed
some_failed (first ∷ pages) page failed =
    or_right (is_die_fault first.1) (list_any (λ (drained : ℕ × RefreshReply). is_die_fault drained.1) (pages ++ page ∷ []))
    (some_failed pages page failed)

-- a pass that took pages, and one page more
taken_one : (old pass : HintPassState) (pages : List ℕ) (page : ℕ) → pass ≡ having_taken_all old pages →
    having_taken pass page ≡ having_taken_all old (pages ++ page ∷ [])
taken_one old pass pages page is =
    ap (λ (p : HintPassState). having_taken p page) is
    ∙ ap (λ (taken : List ℕ). let p : HintPassState = record old { taken = taken } in p)
    (append_assoc old.taken pages (page ∷ []))

taken_none : (pass : HintPassState) → pass ≡ having_taken_all pass []
taken_none pass =
    ap (λ (taken : List ℕ). let p : HintPassState = record pass { taken = taken } in p) (sym (append-nil pass.taken))

pages_more : (pages : List (ℕ × RefreshReply)) (page : ℕ) (reply : RefreshReply) →
    pages_of (pages ++ (page, reply) ∷ []) ≡ pages_of pages ++ page ∷ []
pages_more pages page reply = map-append (λ (drained : ℕ × RefreshReply). drained.0) pages ((page, reply) ∷ [])

-- what holds of a channel gives more there
bound_so : (first second : ChannelFact) (n : ℕ) (before after : List Entry) →
    ((start : Start) (contents : List (Tag × List ℕ)) → first n start contents before after →
    second n start contents before after) →
    (bound : Option (Start × List (Tag × List ℕ))) → IfSome bound (λ bound. first n bound.0 bound.1 before after) →
    IfSome bound (λ bound. second n bound.0 bound.1 before after)
bound_so first second n before after so None holds = tt
bound_so first second n before after so (Some bound) holds = so bound.0 bound.1 holds

each_so : (first second : ChannelFact) (olds news : List CallerView) →
    ((n : ℕ) → n < length olds → (start : Start) (contents : List (Tag × List ℕ)) (before after : List Entry) →
    first n start contents before after → second n start contents before after) →
    OfEachChannel first olds news → OfEachChannel second olds news
each_so first second olds news so each n old new was now =
    bound_so first second n old.seen new.seen
    (λ start contents. so n (slice_get_within olds n old was) start contents old.seen new.seen) old.bound
    (each n old new was now)

-- the pages so far
pub record DrainsSoFar (olds news : List CallerView) (tag : Tag) (pages : List (ℕ × RefreshReply))
    (old_pass pass : HintPassState) : Type 0 where
  pub refreshed : OfEachChannel (refreshes_pages (length olds) tag pages) olds news
  pub none_failed : none_fails pages ≡ true
  pub pass_is : pass ≡ having_taken_all old_pass (pages_of pages)

none_refreshed : (tag : Tag) (olds : List CallerView) → OfEachChannel (refreshes_pages (length olds) tag []) olds olds
none_refreshed tag olds n old new was now =
    let same : old ≡ new = let e : Some old ≡ Some new = sym was ∙ now in cc in
    subst (λ (caller : CallerView). IfSome old.bound (λ bound. HasCome tag.actor old.seen caller.seen)) same
    (none_of old.bound)
  where
    none_of : (bound : Option (Start × List (Tag × List ℕ))) → IfSome bound (λ bound. HasCome tag.actor old.seen old.seen)
    none_of None = tt
    none_of (Some bound) = none_came tag.actor old.seen

pub drain_begins : (olds : List CallerView) (tag : Tag) (pass : HintPassState) → DrainsSoFar olds olds tag [] pass pass
drain_begins olds tag pass = record {
  refreshed = none_refreshed tag olds;
  none_failed = refl;
  pass_is = taken_none pass;
}

-- the two laws of drains
module _ (are_drains : DrainsAmongAreDrains) (stop_begun : DrainsStopBegun) (olds : List CallerView) (tag : Tag) (count : ℕ)
    (old_pass : HintPassState) where
  answered : (news : List CallerView) (pages : List (ℕ × RefreshReply)) → is_fault_last pages ≡ true →
      length pages ≤ count → OfEachChannel (refreshes_pages (length olds) tag pages) olds news →
      ServesCall olds news tag (Verb.Drain count) (Ok (Reply.Drained pages))
  answered news pages last few refreshed = record {
    on_channels =
        each_so (refreshes_pages (length olds) tag pages)
        (is_call_on (length olds) tag (Verb.Drain count) (Reply.Drained pages)) olds news
        (λ n low start contents before after made.
        are_drains start contents (length olds) n tag count pages before after low last made) refreshed;
    drained = (last, few);
  }

  stopped : (news : List CallerView) (pages : List (ℕ × RefreshReply)) (stop : ServeStop) → none_fails pages ≡ true →
      length pages ≤ count → OfEachChannel (refreshes_pages (length olds) tag pages) olds news → NamesStop stop news →
      ServesCall olds news tag (Verb.Drain count) (Err stop)
  stopped news pages stop none few refreshed named = record {
    on_channels =
        each_so (refreshes_pages (length olds) tag pages) (is_begun_on (length olds) tag (Verb.Drain count)) olds news
        (λ n low start contents before after made.
        stop_begun start contents (length olds) n tag count pages before after low none made) refreshed;
    names = named;
    in_drain = record {
      pages = pages;
      none_failed = none;
      few = few;
      refreshed = refreshed;
    };
  }

  -- memory for its reply was refused
  pub drain_refused : ServesCall olds olds tag (Verb.Drain count) (Err ServeStop.Memory)
  drain_refused = stopped olds [] ServeStop.Memory refl (omega arith) (none_refreshed tag olds) tt

  pub refused_pass : DrainsPass count (Err ServeStop.Memory) old_pass old_pass
  refused_pass = record { pages = []; few = omega arith; new_is = taken_none old_pass }

  module _ (mids : List CallerView) (pages : List (ℕ × RefreshReply)) (pass : HintPassState)
      (so_far : DrainsSoFar olds mids tag pages old_pass pass) where
    -- no hint waits, or it has all its pages
    pub drain_ends : length pages ≤ count → ServesCall olds mids tag (Verb.Drain count) (Ok (Reply.Drained pages))
    drain_ends few = answered mids pages (none_is_last pages so_far.none_failed) few so_far.refreshed

    pub none_left : (new_pass : HintPassState) → new_pass ≡ knowing_all_taken pass → TakesHints count pages old_pass new_pass
    none_left new_pass is = none_waits (is ∙ ap knowing_all_taken so_far.pass_is)

    pub has_all : length pages ≡ count → TakesHints count pages old_pass pass
    has_all all = by_itself (inl all) so_far.pass_is

    -- one page more
    module _ (same : AreSameCallers olds mids) (page : ℕ) (taken : HintPassState) (takes : taken ≡ having_taken pass page)
        (news : List CallerView) where
      taken_is : taken ≡ having_taken_all old_pass (pages_of pages ++ page ∷ [])
      taken_is = takes ∙ taken_one old_pass pass (pages_of pages) page so_far.pass_is

      joined : (more : List (ℕ × RefreshReply)) → OfEachChannel (refreshes_pages (length mids) tag more) mids news →
          OfEachChannel (refreshes_pages (length olds) tag (pages ++ more)) olds news
      joined more made =
          each_then olds mids news same (refreshes_pages (length olds) tag pages) (refreshes_pages (length mids) tag more)
          (refreshes_pages (length olds) tag (pages ++ more))
          (λ n start contents before between after first second.
          pages_then start contents (length olds) tag n pages more before between after first
          (subst (λ (channels : ℕ). refreshes_pages channels tag more n start contents between after) same.as_many second))
          so_far.refreshed made

      module _ (reply : RefreshReply) (made : RefreshesPage mids news tag page (Ok reply)) where
        pass_after : taken ≡ having_taken_all old_pass (pages_of (pages ++ (page, reply) ∷ []))
        pass_after = taken_is ∙ ap (having_taken_all old_pass) (sym (pages_more pages page reply))

        -- it goes on
        pub drain_more : is_die_fault reply ≡ false →
            DrainsSoFar olds news tag (pages ++ (page, reply) ∷ []) old_pass taken
        drain_more sound = record {
          refreshed = joined ((page, reply) ∷ []) made;
          none_failed = none_more pages (page, reply) so_far.none_failed sound;
          pass_is = pass_after;
        }

        -- a die's call failed
        pub drain_faults : length (pages ++ (page, reply) ∷ []) ≤ count →
            ServesCall olds news tag (Verb.Drain count) (Ok (Reply.Drained (pages ++ (page, reply) ∷ [])))
        drain_faults few =
            answered news (pages ++ (page, reply) ∷ []) (last_alone pages (page, reply) so_far.none_failed) few
            (joined ((page, reply) ∷ []) made)

        pub fault_takes : is_die_fault reply ≡ true → TakesHints count (pages ++ (page, reply) ∷ []) old_pass taken
        fault_takes failed = by_itself (inr (some_failed pages (page, reply) failed)) pass_after

      -- it stopped
      module _ (stop : ServeStop) (left : RefreshesPage mids news tag page (Err stop)) (low : length pages < count) where
        pub drain_stops : ServesCall olds news tag (Verb.Drain count) (Err stop)
        drain_stops =
            stopped news pages stop so_far.none_failed (omega arith)
            (subst (λ (all : List (ℕ × RefreshReply)). OfEachChannel (refreshes_pages (length olds) tag all) olds news)
            (append-nil pages) (joined [] left.on_channels)) left.names

        pub stop_takes : DrainsPass count (Err stop) old_pass taken
        stop_takes =
            let one = length-append (pages_of pages) (page ∷ []) in
            let many = length-map pages (λ (drained : ℕ × RefreshReply). drained.0) in
            record {
              pages = pages_of pages ++ page ∷ [];
              few = omega (arith, one, many, low);
              new_is = taken_is;
            }
