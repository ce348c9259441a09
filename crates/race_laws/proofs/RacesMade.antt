-- A race whose calls were made on each channel by each actor: what was made is what is asked of the actor so far.
use Rattle.std.proofs.Common.{ℕ, zero, suc, ◌≡◌, ◌+◌, ◌≤◌, ◌==◌, Bool, true, false, cond, List, [], ◌∷◌, ◌++◌, length, map, Some, refl, sym, ap, subst, ◌∙◌, inl, inr, eqb-true, arith}
use Rattle.std.specs.Prelude.{All, slice_get}
use Rattle.std.proofs.lemmas.List.{length-map}
use Rattle.std.proofs.lemmas.List.Elements.{All-cons, All-nil}
use Rattle.std.proofs.lemmas.List.Sums.{sum_by-append, sum_by-cons}
use Rattle.std.proofs.lemmas.Option.{slice_get_within, same_Some}
use Rattle.ssd_geo.specs.declared.reply.Reply.{Reply}
use Rattle.ssd_geo.specs.declared.tag.Tag.{Tag}
use Rattle.ssd_geo.specs.declared.trace.TraceCall.{TraceCall}
use Rattle.ssd_histories.specs.CallsInOrder.{AreNumberedAfter, ChannelRun}
use Rattle.ssd_histories.specs.Lawful.{IsLawful}
use Rattle.serial_laws.proofs.Lists.{all_numbered}
use Rattle.serial_laws.proofs.NumberedTags.{counts_in}
use Rattle.calls_among_others.proofs.ActorsSteps.{calls_are_asked}
use Rattle.race_laws.specs.Races.{AreAskedSoFar, IsActorAsked, calls_of, first_of}
use Rattle.race_laws.specs.RacesMade.{AreMadeSoFar, IsActorMade, RacesMadeAreInOrder}
use Rattle.race_laws.proofs.BegunActors.{begun_actors}
use Rattle.race_laws.proofs.PlacedCalls.{get_second}
use Rattle.race_laws.proofs.UnbegunActors.{actors_so_far}
use Rattle.race_laws.proofs.WholeRaces.{whole_races_in_order}
use Rattle.shared_lemmas.proofs.Lists.{all_at, numbered_at}

-- a call that stands at a place among its actor's has that place as its number
abbrev IsNumbered : ℕ → ℕ → TraceCall → Type 0
IsNumbered actor number call = (call.tag.actor ≡ actor) × (call.tag.call ≡ number)

one_more_count : (actor : ℕ) (before : List TraceCall) (call : TraceCall) (b : Bool) → (call.tag.actor == actor) ≡ b →
    counts_in (before ++ call ∷ []) actor ≡ counts_in before actor + cond b 1 0
one_more_count actor before call b is =
    let whole = sum_by-append (λ (other : TraceCall). cond (other.tag.actor == actor) 1 0) before (call ∷ []) in
    let one = sum_by-cons (λ (other : TraceCall). cond (other.tag.actor == actor) 1 0) call [] in
    let own : ◌≡◌ {A = ℕ} (cond (call.tag.actor == actor) 1 0) (cond b 1 0) = ap {B = ℕ} (λ (c : Bool). cond c 1 0) is in
    omega (arith, whole, one, own)

numbers_are : (actors actor : ℕ) (before calls : List TraceCall) (k : ℕ) (call : TraceCall) →
    AreNumberedAfter actors before calls → slice_get (calls_of actor calls) k ≡ Some call →
    IsNumbered actor (counts_in before actor + k) call
numbers_are actors actor before [] k call numbered is = absurd (grind arith)
numbers_are actors actor before (first ∷ calls) k call numbered is =
    by_test (λ j. numbers_are actors actor (before ++ first ∷ []) calls j call numbered.1) (first.tag.actor == actor) refl k is
  where
    by_test : ((j : ℕ) → slice_get (calls_of actor calls) j ≡ Some call →
        IsNumbered actor (counts_in (before ++ first ∷ []) actor + j) call) →
        (b : Bool) → (first.tag.actor == actor) ≡ b → (k : ℕ) →
        slice_get (cond b (first ∷ calls_of actor calls) (calls_of actor calls)) k ≡ Some call →
        IsNumbered actor (counts_in before actor + k) call
    by_test later true own zero is =
        let same : first ≡ call = same_Some first call is in
        let actors_same : first.tag.actor ≡ actor = eqb-true first.tag.actor actor own in
        let count : counts_in before first.tag.actor ≡ counts_in before actor = ap (counts_in before) actors_same in
        let at : first.tag.call ≡ counts_in before first.tag.actor = numbered.0.is_number in
        subst (IsNumbered actor (counts_in before actor + 0)) same (actors_same, omega (arith, count, at))
    by_test later true own (suc k) is =
        let found = later k is in
        let more = one_more_count actor before first true own in
        (found.0, omega (arith, found.1, more))
    by_test later false other k is =
        let found = later k is in
        let more = one_more_count actor before first false other in
        (found.0, omega (arith, found.1, more))

-- the first of the calls without a reply comes after the answered ones
abbrev IsNext : ℕ → ℕ → TraceCall → Type 0
IsNext actor many call = (call.tag.actor ≡ actor) × (many ≤ call.tag.call)

module _ (contents : List (Tag × List ℕ)) (actors : ℕ) (calls : List TraceCall) (replies : List (List Reply))
    (runs : List ChannelRun) (numbered : AreNumberedAfter actors [] calls)
    (lawful : All (λ run. IsLawful run.start contents run.past) runs) where
  module _ (actor : ℕ) (made : IsActorMade contents calls replies runs actor) where
    first_is_next : (rest : List TraceCall) → rest ≡ made.are_calls.rest →
        All (IsNext actor (length made.are_calls.answered)) (first_of rest)
    first_is_next [] is = All-nil (IsNext actor (length made.are_calls.answered))
    first_is_next (call ∷ rest) is =
        let firsts : List TraceCall = map (λ one. one.0) made.are_calls.answered in
        let there : slice_get (calls_of actor calls) (length firsts + 0) ≡ Some call =
        ap (λ (list : List TraceCall). slice_get list (length firsts + 0)) (sym made.are_calls.are_calls)
        ∙ get_second firsts made.are_calls.rest 0
        ∙ ap (λ (list : List TraceCall). slice_get list 0) (sym is) in
        let found = numbers_are actors actor [] calls (length firsts + 0) call numbered there in
        let many = length-map made.are_calls.answered (λ one. one.0) in
        let none : counts_in [] actor ≡ 0 = refl in
        All-cons (IsNext actor (length made.are_calls.answered)) call [] (found.0, omega (arith, found.1, many, none))
        (All-nil (IsNext actor (length made.are_calls.answered)))

    asked_on : (i : ℕ) (run : ChannelRun) → slice_get runs i ≡ Some run →
        AreAskedSoFar contents (length runs) i actor run made.are_calls.answered made.are_calls.rest
    asked_on i run is =
        by_end
        (numbered_at
        (λ (item : ℕ × ChannelRun).
        AreMadeSoFar item.1.start contents (length runs) item.0 actor made.are_calls.answered made.are_calls.rest item.1.past)
        runs i run made.on_channels is)
      where
        by_end : AreMadeSoFar run.start contents (length runs) i actor made.are_calls.answered made.are_calls.rest run.past →
            AreAskedSoFar contents (length runs) i actor run made.are_calls.answered made.are_calls.rest
        by_end (inl are) =
            actors_so_far contents (length runs) i actor run made.are_calls.answered made.are_calls.rest
            (slice_get_within runs i run is)
            (calls_are_asked run.start contents (length runs) i actor made.are_calls.answered run.past are)
            (first_is_next made.are_calls.rest refl)
        by_end (inr stopped) =
            subst
            (λ (rest : List TraceCall).
            AreAskedSoFar contents (length runs) i actor run made.are_calls.answered rest) (sym stopped.rest_is)
            (begun_actors run.start contents (length runs) i actor made.are_calls.answered stopped.call stopped.later run.past
            (all_at (λ (one : ChannelRun). IsLawful one.start contents one.past) runs i run lawful is) stopped.are_made)

    is_asked : IsActorAsked contents calls replies runs actor
    is_asked = record {
      are_calls = made.are_calls;
      on_channels =
          all_numbered
          (λ item.
          AreAskedSoFar contents (length runs) item.0 actor item.1 made.are_calls.answered made.are_calls.rest) runs asked_on;
    }

pub races_made : RacesMadeAreInOrder
races_made contents actors calls replies runs numbered lawful made has drains begun =
    whole_races_in_order contents actors calls replies runs numbered
    (λ actor. is_asked contents actors calls replies runs numbered lawful actor (made actor)) has drains begun
