-- A ladder begins with a look that was just made: it stands for no senses, and may ask for some.
use Rattle.std.proofs.Common.{◌≡◌, ℕ, ◌≤◌, List, [], length, Option, Some, None, refl, sym, ap, subst, ◌∙◌}
use Rattle.std.specs.Prelude.{IfSome, ℤ}
use Rattle.retry_ladder.specs.Decoder.{IsCodeOf}
use Rattle.retry_ladder.specs.Running.{at_page, place_start}
use Rattle.retry_ladder.specs.View.{IsLookIn, LadderView}
use Rattle.ssd_geo.specs.BaseMatrix.{BaseMatrix}
use Rattle.ssd_geo.specs.Coding.{coding_of}
use Rattle.ssd_histories.specs.Start.{Start}
use Rattle.ssd_geo.specs.declared.look.Look.{Look}
use Rattle.ssd_geo.specs.declared.shape.Shape.{Shape}
use Rattle.ssd_geo.specs.declared.tag.Tag.{Tag}
use Rattle.chan_calls.specs.Caller.{CallerView, IsOf, SameCaller}
use Rattle.chan_calls.specs.Climbing.{Climbs, GoesBy, MayClimb}
use Rattle.chan_calls.specs.Copied.{IsFresh}
use Rattle.chan_calls.specs.Ready.{IsReady, worker_state}
use Rattle.chan_calls.specs.Stepping.{GoesOn, Standing}
use Rattle.chan_calls.specs.Workers.{MayCall, WorkerState, WorksFor}
use Rattle.chan_calls.specs.declared.worker.Worker.TheInside.{Inside}
use Rattle.chan_calls.proofs.LadderPlaces.{slot_in}
use Rattle.chan_calls.proofs.SensedLooks.{none_given}

-- a ladder and a decoder are those of a worker
record IsOfWorker (worker : WorkerState) (ladder : LadderView) (matrix : BaseMatrix)
    (limit : ℕ) : Type 0 where
  shape_is : ladder.shape ≡ worker.shape
  levels_are : ladder.levels ≡ worker.levels
  step_is : ladder.step ≡ worker.step
  matrix_is : matrix ≡ worker.code
  limit_is : limit ≡ worker.iterations

-- what a worker keeps, after its ladder began with a look
abbrev pub begun_with : Inside → Look → LadderView
begun_with i look = record i.ladder {
  look = look;
  run = at_page (place_start i.ladder.levels i.ladder.shape.words);
}

begun_is : (i : Inside) (first : LadderView) (look : Look) → IsReady i → first ≡ begun_with i look →
    IsOfWorker (worker_state i) first i.decoder.decoder.code i.decoder.decoder.limit
begun_is i first look ready is = record {
  shape_is = ap (λ (l : LadderView). l.shape) is ∙ ready.ladder_shape;
  levels_are = ap (λ (l : LadderView). l.levels) is;
  step_is = ap (λ (l : LadderView). l.step) is;
  matrix_is = refl;
  limit_is = refl;
}

-- so the ladder goes by the coding of a start for which the worker works
goes_by : (worker : WorkerState) (ladder : LadderView) (matrix : BaseMatrix) (limit : ℕ)
    (start : Start) → IsOfWorker worker ladder matrix limit → WorksFor worker start →
    GoesBy ladder matrix limit start
goes_by worker ladder matrix limit start is works = record {
  shape_is = is.shape_is ∙ works.shape_is;
  levels_are = is.levels_are ∙ works.levels_are;
  step_is = is.step_is ∙ works.step_is;
  matrix_is = is.matrix_is ∙ works.code_is;
  limit_is = is.limit_is ∙ works.iterations_are;
}

-- a worker may go on with a call after a step
pub may_call_on : (worker : WorkerState) (old new : CallerView) (stood stands : Standing) →
    MayCall worker old stood → SameCaller old new → GoesOn old new stood stands →
    MayCall worker new stands
may_call_on worker old new stood stands may same goes =
    let went : IsOf new may.start may.contents × stands may.start may.contents =
    goes may.start may.contents may.is_of may.stands_for in
    record {
      start = may.start;
      contents = may.contents;
      works = may.works;
      is_of = went.0;
      stands_for = went.1;
      bound =
          subst (λ (b : Option (Start × List (Tag × List ℕ))). IfSome b
          (λ bound. bound ≡ (may.start, may.contents))) (sym same.bound_stays) may.bound;
    }

-- What is known when a worker's ladder began with a look: the worker's view is of what it keeps, the
-- call may be made, and the look is fresh.
pub record HasBegun (i : Inside) (worker : WorkerState) (caller : CallerView) (stands : Standing)
    (tag : Tag) (look : Look) (first : LadderView) : Type 0 where
  pub view_is : worker_state i ≡ worker
  pub ready : IsReady i
  pub begun : first ≡ begun_with i look
  pub may : MayCall worker caller stands
  pub fresh : IsFresh caller tag look

module _ (i : Inside) (worker : WorkerState) (caller : CallerView) (stands : Standing) (tag : Tag)
    (look : Look) (first : LadderView)
    (page : HasBegun i worker caller stands tag look first) where
  of_worker : IsOfWorker worker first i.decoder.decoder.code i.decoder.decoder.limit
  of_worker = subst (λ (seen : WorkerState). IsOfWorker seen first i.decoder.decoder.code
      i.decoder.decoder.limit) page.view_is (begun_is i first look page.ready page.begun)

  -- the ladder goes by the coding of a start for which the worker works
  pub page_goes_by : (start : Start) → WorksFor worker start →
      GoesBy first i.decoder.decoder.code i.decoder.decoder.limit start
  page_goes_by start works = goes_by worker first i.decoder.decoder.code i.decoder.decoder.limit
      start of_worker works

  -- the ladder stands for no senses
  pub page_begins : Climbs first i.decoder.decoder.code i.decoder.decoder.limit caller caller stands
      stands tag look [] []
  page_begins = record {
    stands_for = record {
      look_is = ap (λ (l : LadderView). l.look) page.begun;
      run_is = ap (λ (l : LadderView). l.run) page.begun ∙ ap
          (λ (l : LadderView). at_page (place_start l.levels l.shape.words)) (sym page.begun);
    };
    is_own = page.fresh.is_own;
    as_many = page.fresh.none_had;
    no_fault = page.fresh.none_failed;
    not_recovered = page.fresh.not_recovered;
    not_uncorrectable = page.fresh.not_uncorrectable;
    are_senses = refl;
    goes_on = λ start contents by is_of stands_for. record {
      is_of = is_of;
      stands_still = stands_for;
      look_is = page.fresh.is_look;
      senses_are = none_given (coding_of start.base) start contents caller.seen look.at
          page.fresh.none_had;
    };
  }

  -- the caller's shape is the ladder's
  pub page_shape : caller.shape ≡ first.shape
  page_shape = page.may.is_of.shape_is ∙ sym page.may.works.shape_is ∙ sym of_worker.shape_is

  few : length first.levels ≤ 16
  few =
      subst (λ (levels : List ℤ). length levels ≤ 16) (sym of_worker.levels_are)
      (subst (λ (seen : WorkerState). length seen.levels ≤ 16) page.view_is page.ready.few_levels)

  code_of : IsCodeOf first.shape i.decoder.decoder.code
  code_of =
      subst (λ (shape : Shape). IsCodeOf shape i.decoder.decoder.code) (sym of_worker.shape_is)
      (subst (λ (seen : WorkerState). IsCodeOf seen.shape i.decoder.decoder.code) page.view_is
      page.ready.code_of)

  -- and may climb
  pub page_may_climb : MayClimb first i.decoder.decoder.code i.decoder.decoder.limit caller stands
      look
  page_may_climb = record {
    few_levels = few;
    look_in = subst (λ (shape : Shape). IsLookIn shape look) page_shape
        (slot_in caller.shape look page.fresh.in_range);
    code_of = code_of;
    same_shape = page_shape;
    bound = by_bound caller.bound page.may.bound;
  }
    where
      by_bound : (b : Option (Start × List (Tag × List ℕ))) →
          IfSome b (λ bound. bound ≡ (page.may.start, page.may.contents)) →
          IfSome b (λ bound. GoesBy first i.decoder.decoder.code i.decoder.decoder.limit bound.0
          × IsOf caller bound.0 bound.1 × stands bound.0 bound.1)
      by_bound None h = h
      by_bound (Some bound) h =
          subst (λ (b : Start × List (Tag × List ℕ)). GoesBy first i.decoder.decoder.code
          i.decoder.decoder.limit b.0 × IsOf caller b.0 b.1 × stands b.0 b.1) (sym h)
          (page_goes_by page.may.start page.may.works, page.may.is_of, page.may.stands_for)
