-- What is told of a caller after some steps is told of the caller before them: it differs in what it has seen alone. So what
-- follows may be said of the first caller of a round, and what a step tells of each base is told of one.
use Rattle.std.proofs.Common.{◌≡◌, ℕ, true, List, refl, sym, ap, subst, ◌∙◌, inl, inr, Option, Some, None}
use Rattle.std.specs.Prelude.{Result, Ok, Err, IfSome, IsErrAnd}
use Rattle.chan_calls.specs.Caller.{CallerView, HasLookRoom, HasStepRoom, IsOf, SameCaller, Serves}
use Rattle.chan_calls.specs.Calls.{GoesOnFor}
use Rattle.chan_calls.specs.Collecting.{MakesErase, MakesLive, MakesPick}
use Rattle.chan_calls.specs.Copied.{CopiesFor, CopiesPage, IsFresh}
use Rattle.chan_calls.specs.Stepping.{GoesOn, IsStepped, MakesLook, OfEachBase, Standing}
use Rattle.chan_calls.specs.Workers.{MayCall, WorkerState, WorksFor}
use Rattle.chan_calls.specs.declared.copy_reply.CopyReply.{CopyReply}
use Rattle.chan_calls.specs.declared.copy_reply.CopyReply.TheVariants as copy
use Rattle.chan_calls.proofs.NewLooks.{new_is_fresh}
use Rattle.chan_state.specs.declared.answers.EraseAnswer.{EraseAnswer}
use Rattle.chan_state.specs.declared.answers.EraseAnswer.TheVariants as erase
use Rattle.chan_state.specs.declared.answers.PickAnswer.{PickAnswer}
use Rattle.chan_state.specs.declared.answers.PickAnswer.TheVariants as pick
use Rattle.chan_tables.specs.declared.answers.LiveAnswer.{LiveAnswer}
use Rattle.chan_tables.specs.declared.answers.LiveAnswer.TheVariants as live
use Rattle.chan_tables.specs.declared.answers.LookAnswer.TheVariants.{Found}
use Rattle.chan_tables.specs.declared.answers.Note.{Note}
use Rattle.ssd_geo.specs.declared.entry.Entry.{Entry}
use Rattle.ssd_geo.specs.declared.look.Look.{Look}
use Rattle.ssd_geo.specs.declared.shape.Shape.{Shape}
use Rattle.ssd_geo.specs.declared.stop.StepStop.{StepStop}
use Rattle.ssd_geo.specs.declared.tag.Tag.{Tag}
use Rattle.ssd_histories.specs.Start.{Start}
use Rattle.collector.specs.Collects.{DecidesCollect, HasNoted, MakesTurnFor, by_note, by_round}
use Rattle.collector.specs.Emptying.{CopiesLive, CopiesPages, EmptiesFor, EndsRound, IsToErase, LooksLive, OfBase, TakesNextFor, by_copy, by_erase, having_seen, next_of_copy, no_victim, none_yet, one_more, stops}
use Rattle.collector.specs.Rounds.{FollowsPick, HasPicked, IsToPick, MakesRoundFor}
use Rattle.collector.specs.declared.replies.CollectReply.{CollectReply}
use Rattle.collector.specs.declared.replies.RoundReply.{RoundReply}
use Rattle.collector.specs.declared.replies.RoundReply.TheVariants.{Left}

-- a caller is the first one that has seen another past
pub as_first : (first now : CallerView) → SameCaller first now → having_seen first now.seen ≡ now
as_first first now same = λ i. record {
  seen = now.seen;
  limit = (sym same.limit_stays) i;
  shape = (sym same.shape_stays) i;
  session = (sym same.session_stays) i;
  number = (sym same.number_stays) i;
  bound = (sym same.bound_stays) i;
  reference = (sym same.reference_stays) i;
}

pub same_itself : (caller : CallerView) → SameCaller caller caller
same_itself caller = record {
  limit_stays = refl;
  shape_stays = refl;
  session_stays = refl;
  number_stays = refl;
  bound_stays = refl;
  reference_stays = refl;
}

-- a result that is no more than a stop
pub is_that_stop : {A : Type 0} (result : Result A StepStop) (stop : StepStop) → IsErrAnd result (λ given. given ≡ stop) →
    result ≡ Err stop
is_that_stop (Ok answer) stop is = absurd is
is_that_stop {A = A} (Err given) stop is = ap {B = Result A StepStop} (λ (e : StepStop). Err e) is

-- it makes the calls of the same actor, and may go on with the same worker
pub serves_still : (first now : CallerView) (actor : ℕ) → SameCaller first now → Serves first actor → Serves now actor
serves_still first now actor same serves =
    subst (λ (number : Option ℕ). IfSome number (λ n. actor ≡ n)) (sym same.number_stays) serves

pub works_still : (worker later : WorkerState) (start : Start) → later ≡ record worker { data_bytes = later.data_bytes } →
    WorksFor worker start → WorksFor later start
works_still worker later start same works =
    subst (λ (w : WorkerState). WorksFor w start) (sym same) (record {
      shape_is = works.shape_is;
      session_is = works.session_is;
      code_is = works.code_is;
      iterations_are = works.iterations_are;
      levels_are = works.levels_are;
      step_is = works.step_is;
    })

pub may_still : (worker later : WorkerState) (first now : CallerView) (stood stands : Standing) →
    later ≡ record worker { data_bytes = later.data_bytes } → SameCaller first now →
    GoesOnFor worker first now stood stands → MayCall worker first stood → MayCall later now stands
may_still worker later first now stood stands is same goes may =
    let there = goes may.start may.contents may.works may.is_of may.stands_for in
    record {
      start = may.start;
      contents = may.contents;
      works = works_still worker later may.start is may.works;
      is_of = there.0;
      stands_for = there.1;
      bound =
          subst (λ (bound : Option (Start × List (Tag × List ℕ))). IfSome bound (λ held. held ≡ (may.start, may.contents)))
          (sym same.bound_stays) may.bound;
    }

pub same_worker_on : (worker later last : WorkerState) → later ≡ record worker { data_bytes = later.data_bytes } →
    last ≡ record later { data_bytes = last.data_bytes } → last ≡ record worker { data_bytes = last.data_bytes }
same_worker_on worker later last first next =
    next ∙ (λ i. record (first i) { data_bytes = last.data_bytes })

-- what stood goes on standing over two calls
pub goes_on_both : (worker later : WorkerState) (a b c : CallerView) (sa sb sc : Standing) →
    later ≡ record worker { data_bytes = later.data_bytes } →
    GoesOnFor worker a b sa sb → GoesOnFor later b c sb sc → GoesOnFor worker a c sa sc
goes_on_both worker later a b c sa sb sc is first next = λ start contents works is_of stood.
    let between = first start contents works is_of stood in
    next start contents (works_still worker later start is works) between.0 between.1

pub goes_on_step : (worker : WorkerState) (a b : CallerView) (sa sb : Standing) → GoesOn a b sa sb → GoesOnFor worker a b sa sb
goes_on_step worker a b sa sb goes = λ start contents works is_of stood. goes start contents is_of stood

-- a worker may go on after a step
pub may_after : (worker : WorkerState) (old new : CallerView) (stood stands : Standing) → SameCaller old new →
    GoesOn old new stood stands → MayCall worker old stood → MayCall worker new stands
may_after worker old new stood stands same goes may =
    may_still worker worker old new stood stands refl same (goes_on_step worker old new stood stands goes) may

-- a step tells of one base what it tells of each
pub of_one_base : {A : Type 0} (has_room : ℕ → List Entry → Type 0) (makes made : List Entry → A → List Entry → Type 0) →
    ((now : List Entry) (answer : A) (seen : List Entry) → makes now answer seen → made now answer seen) →
    (tag : Tag) (old new : CallerView) (result : Result A StepStop) → IsStepped has_room makes tag old new result →
    IsStepped has_room made tag (having_seen old old.seen) (having_seen old new.seen) result
of_one_base has_room makes made turns tag old new (Ok answer) stepped =
    (stepped.0, stepped.1, stepped.2, turns stepped.0 answer new.seen stepped.3)
of_one_base has_room makes made turns tag old new (Err (StepStop.HistoryFull told)) stepped = stepped
of_one_base has_room makes made turns tag old new (Err StepStop.Memory) stepped = stepped

module _ (start : Start) (contents : List (Tag × List ℕ)) (old : CallerView) (stood : Standing) (is_of : IsOf old start
    contents)
    (stands : stood start contents) (tag : Tag) where
  live_of_one : (shape : Shape) (sb : ℕ) (now : List Entry) (answer : LiveAnswer) (seen : List Entry) →
      MakesLive (OfEachBase old stood) shape tag sb now answer seen → MakesLive (OfBase start.base) shape tag sb now answer seen
  live_of_one shape sb now live.NotVictim seen made = (made.0, made.1 start contents is_of stands)
  live_of_one shape sb now live.NoneLive seen made = (made.0, made.1 start contents is_of stands)
  live_of_one shape sb now (live.Found look) seen made = (made.0, made.1 start contents is_of stands)

  erase_of_one : (sb : ℕ) (now : List Entry) (answer : EraseAnswer) (seen : List Entry) →
      MakesErase (OfEachBase old stood) tag sb now answer seen → MakesErase (OfBase start.base) tag sb now answer seen
  erase_of_one sb now erase.NotVictim seen made = (made.0, made.1 start contents is_of stands)
  erase_of_one sb now (erase.Live count) seen made = (made.0, made.1, made.2 start contents is_of stands)
  erase_of_one sb now (erase.Pinned count) seen made = (made.0, made.1, made.2 start contents is_of stands)
  erase_of_one sb now erase.Erased seen made = (made.0, made.1 start contents is_of stands)
  erase_of_one sb now (erase.FailedErase die) seen made = (made.0, made.1 start contents is_of stands)
  erase_of_one sb now (erase.DieFault die) seen made = (made.0, made.1 start contents is_of stands)

  pick_of_one : (now : List Entry) (answer : PickAnswer) (seen : List Entry) →
      MakesPick (OfEachBase old stood) tag now answer seen → MakesPick (OfBase start.base) tag now answer seen
  pick_of_one now (pick.Busy sb) seen made = (made.0, made.1 start contents is_of stands)
  pick_of_one now pick.ReadOnly seen made = (made.0, made.1 start contents is_of stands)
  pick_of_one now pick.NoGarbage seen made = (made.0, made.1 start contents is_of stands)
  pick_of_one now (pick.Picked sb) seen made = (made.0, made.1 start contents is_of stands)

  pub looks_live : (sb : ℕ) (new : CallerView) (result : Result LiveAnswer StepStop) →
      IsStepped HasLookRoom (MakesLive (OfEachBase old stood) old.shape tag sb) tag old new result →
      LooksLive start.base old tag sb old.seen new.seen result
  looks_live sb new result stepped =
      of_one_base HasLookRoom (MakesLive (OfEachBase old stood) old.shape tag sb) (MakesLive (OfBase start.base) old.shape tag
      sb)
      (live_of_one old.shape sb) tag old new result stepped

  pub is_to_erase : (sb : ℕ) (new : CallerView) (result : Result EraseAnswer StepStop) →
      IsStepped HasStepRoom (MakesErase (OfEachBase old stood) tag sb) tag old new result →
      IsToErase start.base old tag sb old.seen new.seen result
  is_to_erase sb new result stepped =
      of_one_base HasStepRoom (MakesErase (OfEachBase old stood) tag sb) (MakesErase (OfBase start.base) tag sb)
      (erase_of_one sb) tag old new result stepped

  pub is_to_pick : (new : CallerView) (result : Result PickAnswer StepStop) →
      IsStepped HasStepRoom (MakesPick (OfEachBase old stood) tag) tag old new result →
      IsToPick start.base old tag old.seen new.seen result
  is_to_pick new result stepped =
      of_one_base HasStepRoom (MakesPick (OfEachBase old stood) tag) (MakesPick (OfBase start.base) tag)
      pick_of_one tag old new result stepped

-- the look of a live page is fresh
pub live_is_fresh : (old looked : CallerView) (stood stands : Standing) (worker : WorkerState) (tag : Tag) (sb : ℕ) (look :
    Look) →
    MayCall worker old stood → SameCaller old looked → GoesOn old looked stood stands →
    IsStepped HasLookRoom (MakesLive (OfEachBase old stood) old.shape tag sb) tag old looked (Ok (live.Found look)) →
    IsFresh looked tag look
live_is_fresh old looked stood stands worker tag sb look may same goes stepped =
    let there = goes may.start may.contents may.is_of may.stands_for in
    new_is_fresh may.start may.contents looked tag look.row look stepped.0 there.0
    (subst (λ (shape : Shape). MakesLook shape tag look.row stepped.0 (Found look) looked.seen) (sym same.shape_stays)
    stepped.3.0)

-- the page of such a look, copied
pub page_is_copied : (start : Start) (contents : List (Tag × List ℕ)) (worker : WorkerState) (old looked : CallerView)
    (stood stands : Standing) (tag : Tag) (sb : ℕ) (look : Look) (new : List Entry) (reply : CopyReply) →
    WorksFor worker start → IsOf old start contents → stood start contents → SameCaller old looked →
    GoesOn old looked stood stands →
    IsStepped HasLookRoom (MakesLive (OfEachBase old stood) old.shape tag sb) tag old looked (Ok (live.Found look)) →
    CopiesPage worker looked stands tag look.at true new reply → CopiesLive start contents old tag sb old.seen new reply
page_is_copied start contents worker old looked stood stands tag sb look new reply works is_of stood_for same goes stepped
    copies =
    let there = goes start contents is_of stood_for in
    record {
      look = look;
      looked = looked.seen;
      finds = looks_live start contents old stood is_of stood_for tag sb looked (Ok (live.Found look)) stepped;
      copies =
          subst (λ (caller : CallerView). CopiesFor start contents caller tag look.at true new reply) (sym (as_first old
          looked same))
          (copies start contents works there.0 there.1);
    }

-- what follows such a copy
pub page_next : (start : Start) (contents : List (Tag × List ℕ)) (caller : CallerView) (tag : Tag) (sb : ℕ)
    (before after : List Entry) (reply : CopyReply) → CopiesLive start contents caller tag sb before after reply →
    TakesNextFor start contents caller tag sb before after (Ok (next_of_copy reply))
page_next start contents caller tag sb before after copy.NoRoom page = by_copy page refl refl
page_next start contents caller tag sb before after copy.ReadOnly page = by_copy page refl refl
page_next start contents caller tag sb before after (copy.DieFault die) page = by_copy page refl refl
page_next start contents caller tag sb before after copy.Moved page = (copy.Moved, page, refl)
page_next start contents caller tag sb before after copy.Changed page = (copy.Changed, page, refl)
page_next start contents caller tag sb before after copy.Condemned page = (copy.Condemned, page, refl)
page_next start contents caller tag sb before after copy.Uncorrectable page = (copy.Uncorrectable, page, refl)
page_next start contents caller tag sb before after copy.Failed page = (copy.Failed, page, refl)

-- what a later caller comes to is told of the first one
module _ (start : Start) (contents : List (Tag × List ℕ)) (first : CallerView) (seen : List Entry) (tag : Tag) where
  module _ (sb : ℕ) where
    page_for : (before after : List Entry) (reply : CopyReply) →
        CopiesLive start contents (having_seen first seen) tag sb before after reply →
        CopiesLive start contents first tag sb before after reply
    page_for before after reply page = record {
      look = page.look;
      looked = page.looked;
      finds = page.finds;
      copies =
          page.copies;
    }

    pages_for : {before after : List Entry} → CopiesPages start contents (having_seen first seen) tag sb before after →
        CopiesPages start contents first tag sb before after
    pages_for none_yet = none_yet
    pages_for {before} {after} (one_more {between = between} {reply = reply} copies page goes) =
        one_more (pages_for copies) (page_for between after reply page) goes

    end_for : (before after : List Entry) (result : Result RoundReply StepStop) →
        EndsRound start contents (having_seen first seen) tag sb before after result →
        EndsRound start contents first tag sb before after result
    end_for before after result (by_copy {reply = reply} page ends is) = by_copy (page_for before after reply page) ends is
    end_for before after result (no_victim looks is) = no_victim looks is
    end_for before after result (by_erase emptied erasing looks erases is) =
        by_erase emptied erasing looks erases is
    end_for before after result (stops stop looks is) = stops stop looks is

    emptying_for : (before after : List Entry) (result : Result RoundReply StepStop) →
        EmptiesFor start contents (having_seen first seen) tag sb before after result →
        EmptiesFor start contents first tag sb before after result
    emptying_for before after result empties = record {
      copied = empties.copied;
      copies = pages_for empties.copies;
      ends = end_for empties.copied after result empties.ends;
    }

  follows_for : (answer : PickAnswer) (before after : List Entry) (result : Result RoundReply StepStop) →
      FollowsPick start contents (having_seen first seen) tag answer before after result →
      FollowsPick start contents first tag answer before after result
  follows_for (pick.Busy sb) before after result follows = emptying_for sb before after result follows
  follows_for pick.ReadOnly before after result follows = follows
  follows_for pick.NoGarbage before after result follows = follows
  follows_for (pick.Picked sb) before after result follows = emptying_for sb before after result follows

  picked_for : (before after : List Entry) (result : Result RoundReply StepStop) →
      HasPicked start contents (having_seen first seen) tag before after result →
      HasPicked start contents first tag before after result
  picked_for before after result picked = record {
    answer = picked.answer;
    picked = picked.picked;
    picks = picked.picks;
    follows = follows_for picked.answer picked.picked after result picked.follows;
  }

  pub round_for : (before after : List Entry) (result : Result RoundReply StepStop) →
      MakesRoundFor start contents (having_seen first seen) tag before after result →
      MakesRoundFor start contents first tag before after result
  round_for before after (Ok reply) made = picked_for before after (Ok reply) made
  round_for before after (Err stop) (inl refused) = inl refused
  round_for before after (Err stop) (inr picked) = inr (picked_for before after (Err stop) picked)

  noted_for : (before after : List Entry) (noting : Result Note StepStop) →
      HasNoted start contents (having_seen first seen) tag before after noting →
      HasNoted start contents first tag before after noting
  noted_for before after noting noted = record {
    left = noted.left;
    round = round_for before noted.left (Ok Left) noted.round;
    notes = noted.notes;
  }

  decided_for : (before after : List Entry) (reply : CollectReply) →
      DecidesCollect start contents (having_seen first seen) tag before after reply →
      DecidesCollect start contents first tag before after reply
  decided_for before after reply (by_round {ended = ended} made is) = by_round (round_for before after (Ok ended) made) is
  decided_for before after reply (by_note {note = note} noted idle is) = by_note (noted_for before after (Ok note) noted) idle
      is

  turn_for : (before after : List Entry) (result : Result (Option CollectReply) StepStop) →
      MakesTurnFor start contents (having_seen first seen) tag before after result →
      MakesTurnFor start contents first tag before after result
  turn_for before after (Ok (Some reply)) made = decided_for before after reply made
  turn_for before after (Ok None) off = record {
    note = off.note;
    noted = noted_for before after (Ok off.note) off.noted;
    not_idle = off.not_idle;
  }
  turn_for before after (Err stop) (inl made) = inl (round_for before after (Err stop) made)
  turn_for before after (Err stop) (inr noted) = inr (noted_for before after (Err stop) noted)

module _ (start : Start) (contents : List (Tag × List ℕ)) (first now : CallerView) (same : SameCaller first now) (tag : Tag)
    (before after : List Entry) where
  pub page_of_first : (sb : ℕ) (reply : CopyReply) → CopiesLive start contents now tag sb before after reply →
      CopiesLive start contents first tag sb before after reply
  page_of_first sb reply page =
      page_for start contents first now.seen tag sb before after reply
      (subst (λ (caller : CallerView). CopiesLive start contents caller tag sb before after reply) (sym (as_first first now
      same)) page)

  pub end_of_first : (sb : ℕ) (result : Result RoundReply StepStop) → EndsRound start contents now tag sb before after result →
      EndsRound start contents first tag sb before after result
  end_of_first sb result ends =
      end_for start contents first now.seen tag sb before after result
      (subst (λ (caller : CallerView). EndsRound start contents caller tag sb before after result) (sym (as_first first now
      same)) ends)

  pub looks_of_first : (sb : ℕ) (result : Result LiveAnswer StepStop) → LooksLive start.base now tag sb before after result →
      LooksLive start.base first tag sb before after result
  looks_of_first sb result looks =
      subst (λ (caller : CallerView). LooksLive start.base caller tag sb before after result) (sym (as_first first now same))
      looks

  pub erasing_of_first : (sb : ℕ) (result : Result EraseAnswer StepStop) → IsToErase start.base now tag sb before after result →
      IsToErase start.base first tag sb before after result
  erasing_of_first sb result erases =
      subst (λ (caller : CallerView). IsToErase start.base caller tag sb before after result) (sym (as_first first now same))
      erases

  pub emptying_of_first : (sb : ℕ) (result : Result RoundReply StepStop) →
      EmptiesFor start contents now tag sb before after result →
      EmptiesFor start contents first tag sb before after result
  emptying_of_first sb result empties =
      emptying_for start contents first now.seen tag sb before after result
      (subst (λ (caller : CallerView). EmptiesFor start contents caller tag sb before after result) (sym (as_first first now
      same)) empties)

  pub turn_of_first : (result : Result (Option CollectReply) StepStop) →
      MakesTurnFor start contents now tag before after result →
      MakesTurnFor start contents first tag before after result
  turn_of_first result made =
      turn_for start contents first now.seen tag before after result
      (subst (λ (caller : CallerView). MakesTurnFor start contents caller tag before after result) (sym (as_first first now
      same)) made)
