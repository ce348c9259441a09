-- A ladder climbs: it has begun with its look, each sense that it asks for is one more, and there
-- are at most 167 before it asks for one.
use Rattle.std.proofs.Common.{◌≡◌, ℕ, suc, ◌+◌, ◌-◌, ◌*◌, ◌<◌, ◌≤◌, List, [], ◌∷◌, ◌++◌, length, Option, Some, None, refl, sym, ap, subst, ◌∙◌, arith}
use Rattle.std.specs.Prelude.{IfSome, IsSome, IsTrue, ℤ}
use Rattle.std.proofs.lemmas.List.{length-append, map-append}
use Rattle.std.proofs.Math.Nat.{mul-le-mul_left}
use Rattle.chan_tables.specs.TablesState.{ends_recovered, ends_uncorrectable, senses_had}
use Rattle.ldpc_decode.specs.View.{DecoderView}
use Rattle.retry_ladder.specs.Decoder.{IsCodeOf}
use Rattle.retry_ladder.specs.View.{IsAskOf, IsLookIn, LadderView, StandsFor, coding_with, state_in, with_sense}
use Rattle.retry_ladder.proofs.Standing.{fed_ladders_stand, ladders_tell_their_state}
use Rattle.retry_ladder.specs.declared.ask.Ask.{Ask}
use Rattle.ssd_geo.specs.BaseMatrix.{BaseMatrix}
use Rattle.ssd_geo.specs.Coding.{Coding, coding_in, coding_of, matrix_of}
use Rattle.ssd_histories.specs.History.{look_of}
use Rattle.ssd_geo.specs.LadderLaws.{AsksBelow}
use Rattle.ssd_geo.specs.Ladder.{LadderState, asks, has_answer, recovered, uncorrectable, ladder_over}
use Rattle.ssd_histories.specs.Lawful.{has_fault_sense}
use Rattle.ssd_histories.specs.PastPages.{ladder_of, sense_of, senses_of}
use Rattle.ssd_histories.specs.Ranges.{has_place}
use Rattle.ssd_histories.specs.Start.{Start}
use Rattle.ssd_geo.specs.Stripe.{place_of_slot}
use Rattle.ssd_geo.specs.StripeLaws.{IsPlace}
use Rattle.ssd_geo.specs.declared.entry.Entry.{Entry}
use Rattle.ssd_geo.specs.declared.kind.Kind.{Kind}
use Rattle.ssd_geo.specs.declared.look.Look.{Look}
use Rattle.ssd_geo.specs.declared.place.Place.{Place}
use Rattle.ssd_geo.specs.declared.shape.Shape.{Shape}
use Rattle.ssd_geo.specs.declared.tag.Tag.{Tag}
use Rattle.ssd_geo.proofs.LadderBound.{ladders_end}
use Rattle.chan_calls.specs.Caller.{AddsKinds, CallerView, Comes, IfBound, IsOf, SameCaller, own_look}
use Rattle.chan_calls.specs.Calls.{sense_kinds}
use Rattle.chan_calls.specs.Climbing.{Climbs, FailsToClimb, GoesBy, HasSensed, IsLadderOf, MayClimb}
use Rattle.chan_calls.specs.Sensing.{MaySense, Senses}
use Rattle.chan_calls.specs.Stepping.{Standing}
use Rattle.chan_state.specs.declared.answers.SenseAnswer.TheVariants.{DieFault, Sensed}
use Rattle.chan_calls.proofs.AddedKinds.{adds_one, comes_by}
use Rattle.chan_calls.proofs.LadderPlaces.{asked_place, look_has_place}
use Rattle.chan_calls.proofs.SensedLooks.{had_after_sense, look_after, own_began, senses_after_sense}

-- a ladder's coding is that of the start by which it goes
pub coding_is : (ladder : LadderView) (matrix : BaseMatrix) (limit : ℕ) (start : Start) →
    GoesBy ladder matrix limit start → coding_with ladder matrix limit ≡ coding_of start.base
coding_is ladder matrix limit start by =
    ap (λ (shape : Shape). coding_in shape ladder.levels ladder.step matrix limit) by.shape_is
    ∙ ap (λ (levels : List ℤ). coding_in start.base.shape levels ladder.step matrix limit)
    by.levels_are
    ∙ ap (λ (step : ℕ). coding_in start.base.shape start.base.read_levels step matrix limit)
    by.step_is
    ∙ ap (λ (matrix : BaseMatrix). coding_in start.base.shape start.base.read_levels start.base.step
    matrix limit) by.matrix_is
    ∙ ap (λ (limit : ℕ). coding_in start.base.shape start.base.read_levels start.base.step
    (matrix_of start.base) limit) by.limit_is

-- what the ladder of a look has come to is what the ladder that stands for its senses has come to
pub state_is : (ladder : LadderView) (matrix : BaseMatrix) (limit : ℕ) (start : Start)
    (contents : List (Tag × List ℕ)) (past : List Entry) (look : Look) (senses : List (List ℕ)) →
    GoesBy ladder matrix limit start → StandsFor ladder matrix limit look senses →
    look_of past look.at ≡ Some look → senses_of (coding_of start.base) start contents past
    look.at ≡ senses →
    ladder_of (coding_of start.base) start contents past look.at ≡ state_in ladder
state_is ladder matrix limit start contents past look senses by stands look_is senses_are =
    let coding : Coding = coding_of start.base in
    let dies : ℕ = start.base.shape.dies in
    ap (λ (found : Option Look). ladder_over coding dies found
    (senses_of coding start contents past look.at)) look_is
    ∙ ap (ladder_over coding dies (Some look)) senses_are
    ∙ ap (λ (coding : Coding). ladder_over coding dies (Some look) senses)
    (sym (coding_is ladder matrix limit start by))
    ∙ ap (λ (shape : Shape). ladder_over (coding_with ladder matrix limit) shape.dies
    (Some look) senses) (sym by.shape_is)
    ∙ sym (ladders_tell_their_state ladder matrix limit look senses stands)

-- a ladder that asks for a sense was given fewer than 168
few_product : (levels dies had : ℕ) → levels ≤ 16 → dies ≤ 8 → had < (levels + 5) * dies → had < 168
few_product levels dies had l d h =
    let most : (levels + 5) * dies ≤ (levels + 5) * 8 = mul-le-mul_left (levels + 5) d in
    omega arith

pub few_senses : (ladder : LadderView) (matrix : BaseMatrix) (limit : ℕ) (look : Look)
    (senses : List (List ℕ)) (place : Place) (level : ℤ) → length ladder.levels ≤ 16 →
    IsLookIn ladder.shape look →
    StandsFor ladder matrix limit look senses → state_in ladder ≡ asks place level →
    length senses < 168
few_senses ladder matrix limit look senses place level few is stands asked =
    let coding : Coding = coding_with ladder matrix limit in
    let dies : ℕ = ladder.shape.dies in
    let own : Place = place_of_slot dies look.slot in
    let there : IsPlace dies ladder.shape.superblocks ladder.shape.pages own =
    look_has_place ladder.shape look is in
    few_product (length ladder.levels) dies (length senses) few ladder.shape.within.dies_high
    (subst (AsksBelow ((length ladder.levels + 5) * dies) (length senses))
    (sym (ladders_tell_their_state ladder matrix limit look senses stands) ∙ asked)
    (ladders_end coding (coding.has_head look.serial look.row) dies own look.closed senses
    there.die))

-- what it asks for is a place of its shape
pub place_asked : (ladder : LadderView) (matrix : BaseMatrix) (limit : ℕ) (look : Look)
    (senses : List (List ℕ)) (place : Place) (level : ℤ) → IsLookIn ladder.shape look →
    StandsFor ladder matrix limit look senses → state_in ladder ≡ asks place level →
    IsTrue (has_place ladder.shape place)
place_asked ladder matrix limit look senses place level is stands asked =
    asked_place ladder.shape (coding_with ladder matrix limit) look senses place level is
    (sym (ladders_tell_their_state ladder matrix limit look senses stands) ∙ asked)

-- a look of a call is open
is_open : (found : Option Look) (look : Look) → found ≡ Some look → IsSome found
is_open found look is = rw is refl

-- a ladder goes by what one of the same shape, levels and step goes by
pub goes_by_too : (first ladder : LadderView) (matrix : BaseMatrix) (limit : ℕ) (start : Start) →
    IsLadderOf first ladder → GoesBy first matrix limit start → GoesBy ladder matrix limit start
goes_by_too first ladder matrix limit start is by = record {
  shape_is = is.shape_stays ∙ by.shape_is;
  levels_are = is.levels_stay ∙ by.levels_are;
  step_is = is.step_stays ∙ by.step_is;
  matrix_is = by.matrix_is;
  limit_is = by.limit_is;
}

-- and may climb where that may
pub may_climb_too : (first ladder : LadderView) (matrix : BaseMatrix) (limit : ℕ)
    (caller : CallerView) (stands : Standing) (look : Look) → IsLadderOf first ladder →
    MayClimb first matrix limit caller stands look → MayClimb ladder matrix limit caller stands look
may_climb_too first ladder matrix limit caller stands look is may = record {
  few_levels = subst (λ (levels : List ℤ). length levels ≤ 16) (sym is.levels_stay) may.few_levels;
  look_in = subst (λ (shape : Shape). IsLookIn shape look) (sym is.shape_stays) may.look_in;
  code_of = subst (λ (shape : Shape). IsCodeOf shape matrix) (sym is.shape_stays) may.code_of;
  same_shape = may.same_shape ∙ sym is.shape_stays;
  bound = by_bound caller.bound may.bound;
}
  where
    by_bound : (b : Option (Start × List (Tag × List ℕ))) →
        IfSome b (λ bound. GoesBy first matrix limit bound.0 × IsOf caller bound.0 bound.1 × stands
        bound.0 bound.1) →
        IfSome b (λ bound. GoesBy ladder matrix limit bound.0 × IsOf caller bound.0 bound.1 × stands
        bound.0 bound.1)
    by_bound None h = h
    by_bound (Some bound) h = (goes_by_too first ladder matrix limit bound.0 is h.0, h.1, h.2)

-- an ask is for what the ladder has come to
pub asks_at : (state : LadderState) (place : Place) (level : ℤ) →
    IsAskOf state (Ask.At place level) → state ≡ asks place level
asks_at (asks other at) place level is = cc
asks_at (recovered rung word) place level is = absurd (cc)
asks_at uncorrectable place level is = absurd (cc)

pub answered_at : (state : LadderState) → IsAskOf state Ask.Done → IsTrue (has_answer state)
answered_at (asks other at) is = absurd (cc)
answered_at (recovered rung word) is = refl
answered_at uncorrectable is = refl

-- what a climb keeps
module _ (ladder : LadderView) (matrix : BaseMatrix) (limit : ℕ) (old new : CallerView)
    (stood stands : Standing) (tag : Tag) (look : Look) (senses : List (List ℕ))
    (asked : List (Place × ℤ)) (may : MayClimb ladder matrix limit old stood look)
    (climbs : Climbs ladder matrix limit old new stood stands tag look senses asked) where
  climb_few : (place : Place) (level : ℤ) → state_in ladder ≡ asks place level → length senses < 168
  climb_few place level asking = few_senses ladder matrix limit look senses place level
      may.few_levels may.look_in climbs.stands_for asking

  -- what it asks for is a place of the caller's shape
  pub climb_has_place : (place : Place) (level : ℤ) → SameCaller old new →
      state_in ladder ≡ asks place level → IsTrue (has_place new.shape place)
  climb_has_place place level same asking =
      subst (λ (shape : Shape). IsTrue (has_place shape place))
      (sym (same.shape_stays ∙ may.same_shape))
      (place_asked ladder matrix limit look senses place level may.look_in climbs.stands_for asking)

  -- it may sense
  pub climb_may_sense : (place : Place) (level : ℤ) → state_in ladder ≡ asks place level →
      MaySense new tag look.at
  climb_may_sense place level asking =
      record {
        is_open = is_open (own_look tag new.seen look.at) look climbs.is_own;
        few = subst (λ (n : ℕ). n < 168) (sym climbs.as_many) (climb_few place level asking);
        no_fault = climbs.no_fault;
      }

  -- the look is the call's own
  pub climb_is_own : IsSome (own_look tag new.seen look.at)
  climb_is_own = is_open (own_look tag new.seen look.at) look climbs.is_own

  -- the channel has sensed for each start that the ladder goes by, and the look's ladder has come
  -- to what the ladder has
  pub climb_state : (start : Start) (contents : List (Tag × List ℕ)) →
      GoesBy ladder matrix limit start → IsOf old start contents → stood start contents →
      ladder_of (coding_of start.base) start contents new.seen look.at ≡ state_in ladder
  climb_state start contents by is_of stood_for =
      let sensed : HasSensed start contents new stands look senses =
      climbs.goes_on start contents by is_of stood_for in
      state_is ladder matrix limit start contents new.seen look senses by climbs.stands_for
      sensed.look_is sensed.senses_are

  -- so a fact of the state is one where the channel is bound
  pub climb_bound : (fact : LadderState → Type 0) → SameCaller old new → fact (state_in ladder) →
      IfBound new look.at fact
  climb_bound fact same holds =
      subst (λ (b : Option (Start × List (Tag × List ℕ))). IfSome b
      (λ bound. fact (ladder_of (coding_of bound.0.base) bound.0 bound.1 new.seen look.at)))
      (sym same.bound_stays) (by_bound old.bound may.bound)
    where
      by_bound : (b : Option (Start × List (Tag × List ℕ))) →
          IfSome b (λ bound. GoesBy ladder matrix limit bound.0 × IsOf old bound.0 bound.1 × stood
          bound.0 bound.1) →
          IfSome b (λ bound. fact (ladder_of (coding_of bound.0.base) bound.0 bound.1 new.seen
          look.at))
      by_bound None h = h
      by_bound (Some bound) h = subst fact (sym (climb_state bound.0 bound.1 h.0 h.1 h.2)) holds

  -- it still is in the past that a step finds
  now_is_own : (now : List Entry) → Comes new tag now → IsSome (own_look tag now look.at)
  now_is_own now comes =
      is_open (own_look tag now look.at) look (comes.looks_stay look.at ∙ climbs.is_own)

  -- a sense that failed
  module _ (next : CallerView) (after : Standing) (place : Place) (level : ℤ) (before bits : List ℕ)
      (die : ℕ) (first : LadderView) (is : IsLadderOf first ladder)
      (asking : state_in ladder ≡ asks place level) (same : SameCaller old new)
      (made : Senses new next stands after tag look.at place level before bits (DieFault die)) where
    pub climb_fails : FailsToClimb matrix limit first old next stood after tag look die
    climb_fails = record {
      asked = asked;
      after = new.seen;
      are_senses = climbs.are_senses;
      place = place;
      level = level;
      now = made.now;
      comes = comes_by new (record old { seen = new.seen }) tag made.now refl
          (sym same.number_stays) made.comes;
      die_is = made.fails.0;
      seen_is = made.seen_is;
      is_own =
          is_open (own_look tag next.seen look.at) look
          (ap (λ (past : List Entry). own_look tag past look.at) made.seen_is
          ∙ made.comes.looks_stay look.at ∙ climbs.is_own);
      goes_on = λ start contents by is_of stood_for.
          let goes_by : GoesBy ladder matrix limit start =
          goes_by_too first ladder matrix limit start is by in
          let sensed : HasSensed start contents new stands look senses =
          climbs.goes_on start contents goes_by is_of stood_for in
          let step = made.goes_on start contents sensed.is_of sensed.stands_still
          (climb_state start contents goes_by is_of stood_for ∙ asking) in
          (step.2, step.3);
    }

  -- one more sense
  module _ (next : CallerView) (after : Standing) (place : Place) (level : ℤ) (before bits : List ℕ)
      (asking : state_in ladder ≡ asks place level) (same : SameCaller old new)
      (made : Senses new next stands after tag look.at place level before bits Sensed) where
    private_own : IsSome (own_look tag new.seen look.at)
    private_own = climb_is_own

    kinds_are : sense_kinds look.at (asked ++ (place, level) ∷ []) ≡ sense_kinds look.at asked
        ++ Kind.Sense look.at place level ∷ []
    kinds_are = map-append (λ (sensed : Place × ℤ). Kind.Sense look.at sensed.0 sensed.1) asked
        ((place, level) ∷ [])

    are_senses : AddsKinds old tag (sense_kinds look.at (asked ++ (place, level) ∷ [])) old.seen
        next.seen
    are_senses =
        subst (λ (kinds : List Kind). AddsKinds old tag kinds old.seen next.seen) (sym kinds_are)
        (subst (AddsKinds old tag (sense_kinds look.at asked ++ Kind.Sense look.at place level ∷ [])
        old.seen) (sym made.seen_is)
        (adds_one old tag (sense_kinds look.at asked) (Kind.Sense look.at place level) old.seen
        new.seen made.now climbs.are_senses
        (comes_by new (record old { seen = new.seen }) tag made.now refl
        (sym same.number_stays) made.comes)))

    goes_on : (start : Start) (contents : List (Tag × List ℕ)) →
        GoesBy (with_sense ladder matrix limit bits) matrix limit start → IsOf old start contents →
        stood start contents →
        HasSensed start contents next after look (senses ++ bits ∷ [])
    goes_on start contents by is_of stood_for =
        let coding : Coding = coding_of start.base in
        let goes_by : GoesBy ladder matrix limit start =
        record {
          shape_is = by.shape_is;
          levels_are = by.levels_are;
          step_is =
              by.step_is;
          matrix_is = by.matrix_is;
          limit_is = by.limit_is;
        } in
        let sensed : HasSensed start contents new stands look senses =
        climbs.goes_on start contents goes_by is_of stood_for in
        let step = made.goes_on start contents sensed.is_of sensed.stands_still
        (climb_state start contents goes_by is_of stood_for ∙ asking) in
        record {
          is_of = step.2;
          stands_still = step.3;
          look_is =
              ap (λ (past : List Entry). look_of past look.at) made.seen_is
              ∙ look_after made.now tag (Kind.Sense look.at place level) look.at
              (own_began made.now tag look.at (now_is_own made.now made.comes))
              ∙ step.0.look_stays ∙ sensed.look_is;
          senses_are =
              ap (λ (past : List Entry). senses_of coding start contents past look.at) made.seen_is
              ∙ senses_after_sense coding start contents made.now tag look.at place level
              ∙ ap (λ (before : List (List ℕ)). before ++ sense_of coding start contents made.now
              place level ∷ []) (step.0.sensed_stays ∙ sensed.senses_are)
              ∙ ap (λ (sense : List ℕ). senses ++ sense ∷ []) (sym step.1);
        }

    had_more : senses_had next.seen look.at ≡ suc (senses_had new.seen look.at)
    had_more =
        ap (λ (past : List Entry). senses_had past look.at) made.seen_is
        ∙ had_after_sense made.now tag look.at place level
        ∙ ap suc (made.comes.senses_stay look.at private_own)

    -- so fewer are left
    pub fewer_left : 168 - senses_had next.seen look.at < 168 - senses_had new.seen look.at
    fewer_left = less (senses_had new.seen look.at) (senses_had next.seen look.at) had_more
        (subst (λ (n : ℕ). n < 168) (sym climbs.as_many) (climb_few place level asking))
      where
        less : (n more : ℕ) → more ≡ suc n → n < 168 → 168 - more < 168 - n
        less n more e h = omega arith

    pub climb_on : Climbs (with_sense ladder matrix limit bits) matrix limit old next stood after
        tag look (senses ++ bits ∷ []) (asked ++ (place, level) ∷ [])
    climb_on = record {
      stands_for = fed_ladders_stand ladder matrix limit look senses bits climbs.stands_for;
      is_own = ap (λ (past : List Entry). own_look tag past look.at) made.seen_is
          ∙ made.comes.looks_stay look.at ∙ climbs.is_own;
      as_many = had_more ∙ ap suc climbs.as_many ∙ one_longer senses;
      no_fault = ap (λ (past : List Entry). has_fault_sense past look.at) made.seen_is
          ∙ made.comes.faults_stay look.at private_own ∙ climbs.no_fault;
      not_recovered = ap (λ (past : List Entry). ends_recovered past look.at) made.seen_is
          ∙ made.comes.recovered_stay look.at private_own ∙ climbs.not_recovered;
      not_uncorrectable = ap (λ (past : List Entry). ends_uncorrectable past look.at) made.seen_is
          ∙ made.comes.uncorrectable_stay look.at private_own ∙ climbs.not_uncorrectable;
      are_senses = are_senses;
      goes_on = goes_on;
    }
      where
        one_longer : (senses : List (List ℕ)) → suc (length senses) ≡ length (senses ++ bits ∷ [])
        one_longer senses = omega (arith, length-append senses (bits ∷ []))

-- after one more sense all that a climb keeps is as it was before
pub fed_too : (first ladder : LadderView) (matrix : BaseMatrix) (limit : ℕ) (bits : List ℕ) →
    IsLadderOf first ladder → IsLadderOf first (with_sense ladder matrix limit bits)
fed_too first ladder matrix limit bits is = record {
  shape_stays = is.shape_stays;
  levels_stay =
      is.levels_stay;
  step_stays = is.step_stays;
}

pub same_decoder : (a b : DecoderView) → a.code ≡ b.code → a.limit ≡ b.limit → a ≡ b
same_decoder a b code limit =
    ap (λ (code : BaseMatrix). let d : DecoderView = record { code = code; limit = a.limit } in d)
    code
    ∙ ap (λ (limit : ℕ). let d : DecoderView = record { code = b.code; limit = limit } in d) limit
