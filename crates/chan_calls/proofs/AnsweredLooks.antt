-- When the ladder of a look has its answer, what the look's ladder has come to is what a worker's
-- ladder has, and so it stays up to the look's leave.
use Rattle.std.proofs.Common.{◌≡◌, ℕ, ◌||◌, Bool, true, false, List, Option, Some, None, refl, sym, subst, ◌∙◌}
use Rattle.std.specs.Prelude.{IfSome, IsTrue, is_some}
use Rattle.retry_ladder.specs.View.{LadderView, coding_with, state_in}
use Rattle.retry_ladder.proofs.Standing.{ladders_tell_their_state}
use Rattle.ssd_geo.specs.BaseMatrix.{BaseMatrix}
use Rattle.ssd_geo.specs.Coding.{coding_of, data_in}
use Rattle.ssd_geo.specs.Ladder.{LadderState, has_answer, recovered}
use Rattle.ssd_histories.specs.Lawful.{has_fault_sense}
use Rattle.ssd_histories.specs.PastPages.{ladder_of}
use Rattle.ssd_histories.specs.Start.{Start}
use Rattle.ssd_geo.specs.declared.look.Look.{Look}
use Rattle.ssd_geo.specs.declared.tag.Tag.{Tag}
use Rattle.chan_calls.specs.Caller.{CallerView, IfBound, IsOf, LookStays, MayLeave, SameCaller}
use Rattle.chan_calls.specs.Calls.{HasSenses, IsLeft}
use Rattle.chan_calls.specs.Climbing.{Climbs, GoesBy, HasClimbed, HasSensed, IsLadderOf, MayClimb}
use Rattle.chan_calls.specs.Moving.{MayMove}
use Rattle.chan_calls.specs.Sensing.{Leaves}
use Rattle.chan_calls.specs.Stepping.{Standing}
use Rattle.chan_calls.specs.Workers.{WorkerState, WorksFor}
use Rattle.chan_calls.specs.declared.worker.Worker.TheInside.{Inside}
use Rattle.chan_calls.proofs.AcceptedPages.{word_accepted}
use Rattle.chan_calls.proofs.AddedKinds.{comes_by}
use Rattle.chan_calls.proofs.BegunLadders.{HasBegun, page_goes_by, page_may_climb, page_shape}
use Rattle.chan_calls.proofs.ClimbingLooks.{climb_bound, climb_is_own, climb_state, goes_by_too, may_climb_too}

pub or_left : (a b : Bool) → IsTrue a → IsTrue (a || b)
or_left true b h = refl
or_left false b h = absurd (cc)

pub or_right : (a b : Bool) → IsTrue b → IsTrue (a || b)
or_right true b h = refl
or_right false b h = h

-- a look whose ladder has its answer may be left
pub answered_may_leave : (caller : CallerView) (at : ℕ) →
    IfBound caller at (λ state. IsTrue (has_answer state)) → MayLeave caller at
answered_may_leave caller at answered = by_bound caller.bound answered
  where
    by_bound : (b : Option (Start × List (Tag × List ℕ))) →
        IfSome b (λ bound. IsTrue (has_answer (ladder_of (coding_of bound.0.base) bound.0 bound.1
        caller.seen at))) →
        IfSome b (λ bound. IsTrue (has_answer (ladder_of (coding_of bound.0.base) bound.0 bound.1
        caller.seen at) || has_fault_sense caller.seen at))
    by_bound None h = h
    by_bound (Some bound) h =
        or_left (has_answer (ladder_of (coding_of bound.0.base) bound.0 bound.1 caller.seen at))
        (has_fault_sense caller.seen at) h

-- and one of which a sense failed
pub failed_may_leave : (caller : CallerView) (at : ℕ) → IsTrue (has_fault_sense caller.seen at) →
    MayLeave caller at
failed_may_leave caller at failed = by_bound caller.bound
  where
    by_bound : (b : Option (Start × List (Tag × List ℕ))) →
        IfSome b (λ bound. IsTrue (has_answer (ladder_of (coding_of bound.0.base) bound.0 bound.1
        caller.seen at) || has_fault_sense caller.seen at))
    by_bound None = tt
    by_bound (Some bound) =
        or_right (has_answer (ladder_of (coding_of bound.0.base) bound.0 bound.1 caller.seen at))
        (has_fault_sense caller.seen at) failed

-- a leave, told for another caller that is as much alone
pub is_left : (before new caller : CallerView) (stood stands : Standing) (tag : Tag) (at : ℕ) →
    before.number ≡ caller.number → Leaves before new stood stands tag at →
    IsLeft caller tag at before.seen new.seen
is_left before new caller stood stands tag at number_is leaves = record {
  at_leave = leaves.now;
  comes =
      comes_by before (record caller { seen = before.seen }) tag leaves.now refl (sym number_is)
      leaves.comes;
  new_is = leaves.seen_is;
}

-- where a look may be left, a leave goes on for a start and contents
pub leave_goes_on : (before new : CallerView) (stood stands : Standing) (tag : Tag) (at : ℕ)
    (start : Start) (contents : List (Tag × List ℕ)) (state : LadderState) →
    IsOf before start contents → stood start contents →
    ladder_of (coding_of start.base) start contents before.seen at ≡ state →
    IsTrue (has_answer state) → (leaves : Leaves before new stood stands tag at) →
    LookStays start contents before.seen leaves.now at × IsOf new start contents × stands start
    contents
leave_goes_on before new stood stands tag at start contents state is_of stood_for state_is answered
    leaves =
    leaves.goes_on start contents is_of stood_for
    (or_left (has_answer (ladder_of (coding_of start.base) start contents before.seen at))
    (has_fault_sense before.seen at)
    (subst (λ (s : LadderState). IsTrue (has_answer s)) (sym state_is) answered))

-- What is known when the ladder has its answer, after the senses that it asked for.
pub record HasAnswered (first ladder : LadderView) (matrix : BaseMatrix) (limit : ℕ)
    (caller after : CallerView) (stands climbed : Standing) (tag : Tag) (look : Look)
    : Type 0 where
  pub ladder_stays : IsLadderOf first ladder
  pub same : SameCaller caller after
  pub answered : IsTrue (has_answer (state_in ladder))
  pub climbed_is : HasClimbed ladder matrix limit caller after stands climbed tag look

module _ (i : Inside) (worker : WorkerState) (caller after : CallerView)
    (stands climbed : Standing) (tag : Tag) (look : Look) (first ladder : LadderView)
    (page : HasBegun i worker caller stands tag look first)
    (ended : HasAnswered first ladder i.decoder.decoder.code i.decoder.decoder.limit caller after
    stands climbed tag look) where
  climbs : Climbs ladder i.decoder.decoder.code i.decoder.decoder.limit caller after stands climbed
      tag look ended.climbed_is.0 ended.climbed_is.1
  climbs = ended.climbed_is.2

  may : MayClimb ladder i.decoder.decoder.code i.decoder.decoder.limit caller stands look
  may =
      may_climb_too first ladder i.decoder.decoder.code i.decoder.decoder.limit caller stands look
      ended.ladder_stays (page_may_climb i worker caller stands tag look first page)

  -- a fact of what the ladder has come to, where the channel is bound
  pub answered_bound : (fact : LadderState → Type 0) → fact (state_in ladder) →
      IfBound after look.at fact
  answered_bound fact holds =
      climb_bound ladder i.decoder.decoder.code i.decoder.decoder.limit caller after stands climbed
      tag look ended.climbed_is.0 ended.climbed_is.1 may climbs fact ended.same holds

  -- the page may be copied
  pub answered_may_move : MayMove after tag look.at
  answered_may_move = record {
    is_open = climb_is_own ladder i.decoder.decoder.code i.decoder.decoder.limit caller after stands
        climbed tag look ended.climbed_is.0 ended.climbed_is.1 may climbs;
    not_recovered = climbs.not_recovered;
    not_uncorrectable = climbs.not_uncorrectable;
  }

  -- the ladder's shape is the caller's
  pub answered_shape : ladder.shape ≡ after.shape
  answered_shape =
      ended.ladder_stays.shape_stays
      ∙ sym (page_shape i worker caller stands tag look first page)
      ∙ sym ended.same.shape_stays

  -- a page that it recovered has the head of the look
  pub has_head : (rung : ℕ) (word : List ℕ) → state_in ladder ≡ recovered rung word →
      IsTrue (is_some (data_in ladder.shape ladder.look.serial ladder.look.row word))
  has_head rung word recovers =
      subst (λ (l : Look). IsTrue (is_some (data_in ladder.shape l.serial l.row word)))
      (sym climbs.stands_for.look_is)
      (word_accepted (coding_with ladder i.decoder.decoder.code i.decoder.decoder.limit)
      ladder.shape.dies look ended.climbed_is.0 rung word
      (sym (ladders_tell_their_state ladder i.decoder.decoder.code i.decoder.decoder.limit look
      ended.climbed_is.0 climbs.stands_for) ∙ recovers))

  -- the senses that were made
  abbrev pub answered_senses : HasSenses caller tag look.at caller.seen
  answered_senses = record {
    senses = ended.climbed_is.1;
    after = after.seen;
    are_senses = ended.climbed_is.2.are_senses;
  }

  -- for a start and contents for which the channel stood
  module _ (start : Start) (contents : List (Tag × List ℕ)) (works : WorksFor worker start)
      (is_of : IsOf caller start contents) (stands_for : stands start contents) where
    pub by_start : GoesBy ladder i.decoder.decoder.code i.decoder.decoder.limit start
    by_start =
        goes_by_too first ladder i.decoder.decoder.code i.decoder.decoder.limit start
        ended.ladder_stays (page_goes_by i worker caller stands tag look first page start works)

    pub answered_sensed : HasSensed start contents after climbed look ended.climbed_is.0
    answered_sensed = climbs.goes_on start contents by_start is_of stands_for

    pub answered_state : ladder_of (coding_of start.base) start contents after.seen look.at
        ≡ state_in ladder
    answered_state =
        climb_state ladder i.decoder.decoder.code i.decoder.decoder.limit caller after stands
        climbed tag look ended.climbed_is.0 ended.climbed_is.1 may climbs start contents by_start
        is_of stands_for
