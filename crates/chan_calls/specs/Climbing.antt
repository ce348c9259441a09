-- What has a ladder come to while it asks for senses of a look? It stands for the look and the
-- senses that were made for it, and for each start and contents by whose coding it goes, and for
-- which the channel stood, these are the senses of the look.
use Rattle.std.specs.Prelude.{ℕ, ◌≡◌, ◌≤◌, IfSome, IsFalse, IsSome, IsTrue, List, ◌∷◌, length, ℤ, Some}
use Rattle.chan_tables.specs.TablesState.{ends_recovered, ends_uncorrectable, senses_had}
use Rattle.retry_ladder.specs.View.{IsLookIn, LadderView, StandsFor, state_in}
use Rattle.retry_ladder.specs.Decoder.{IsCodeOf}
use Rattle.ssd_geo.specs.BaseMatrix.{BaseMatrix}
use Rattle.ssd_geo.specs.Coding.{coding_of, matrix_of}
use Rattle.ssd_geo.specs.Ladder.{has_answer}
use Rattle.ssd_histories.specs.History.{look_of}
use Rattle.ssd_histories.specs.Lawful.{has_fault_sense}
use Rattle.ssd_histories.specs.PastPages.{senses_of}
use Rattle.ssd_histories.specs.SerialCalls.{entry_of}
use Rattle.ssd_histories.specs.Start.{Start}
use Rattle.ssd_geo.specs.declared.entry.Entry.{Entry}
use Rattle.ssd_geo.specs.declared.kind.Kind.{Kind}
use Rattle.ssd_geo.specs.declared.look.Look.{Look}
use Rattle.ssd_geo.specs.declared.place.Place.{Place}
use Rattle.ssd_geo.specs.declared.tag.Tag.{Tag}
use Rattle.chan_calls.specs.Caller.{AddsKinds, CallerView, Comes, IsOf, own_look}
use Rattle.chan_calls.specs.Calls.{sense_kinds}
use Rattle.chan_calls.specs.Stepping.{Standing}
use Rattle.chan_calls.specs.declared.climb.Climbed.{Climbed}
use Rattle.chan_calls.specs.declared.climb.Climbed.TheVariants.{Answered, Failed}

-- a ladder goes by the coding of a start, with a decoder of this matrix and iteration limit
pub record GoesBy (ladder : LadderView) (matrix : BaseMatrix) (limit : ℕ)
    (start : Start) : Type 0 where
  pub shape_is : ladder.shape ≡ start.base.shape
  pub levels_are : ladder.levels ≡ start.base.read_levels
  pub step_is : ladder.step ≡ start.base.step
  pub matrix_is : matrix ≡ matrix_of start.base
  pub limit_is : limit ≡ start.base.iterations

-- a ladder is of the same shape, levels and distance of soft senses as another
pub record IsLadderOf (old new : LadderView) : Type 0 where
  pub shape_stays : new.shape ≡ old.shape
  pub levels_stay : new.levels ≡ old.levels
  pub step_stays : new.step ≡ old.step

-- a ladder may ask a caller for senses of a look: it has few read levels, the look is one of its
-- shape and the decoder's code too, the sizes of the caller are its own, and where the channel is
-- bound to a start and contents, it stands for them and the ladder goes by their coding
pub record MayClimb (ladder : LadderView) (matrix : BaseMatrix) (limit : ℕ) (caller : CallerView)
    (stands : Standing) (look : Look) : Type 0 where
  pub few_levels : length ladder.levels ≤ 16
  pub look_in : IsLookIn ladder.shape look
  pub code_of : IsCodeOf ladder.shape matrix
  pub same_shape : caller.shape ≡ ladder.shape
  pub bound : IfSome caller.bound (λ bound. GoesBy ladder matrix limit bound.0 × IsOf caller bound.0
      bound.1 × stands bound.0 bound.1)

-- the channel stands for a start and contents, and these are a look and its senses
pub record HasSensed (start : Start) (contents : List (Tag × List ℕ)) (caller : CallerView)
    (stands : Standing) (look : Look) (senses : List (List ℕ)) : Type 0 where
  pub is_of : IsOf caller start contents
  pub stands_still : stands start contents
  pub look_is : look_of caller.seen look.at ≡ Some look
  pub senses_are : senses_of (coding_of start.base) start contents caller.seen look.at ≡ senses

-- a ladder was given these senses, of these places at these levels, since the caller's steps for a
-- look began
pub record Climbs (ladder : LadderView) (matrix : BaseMatrix) (limit : ℕ) (old new : CallerView)
    (stood stands : Standing) (tag : Tag) (look : Look) (senses : List (List ℕ))
    (asked : List (Place × ℤ)) : Type 0 where
  pub stands_for : StandsFor ladder matrix limit look senses
  pub is_own : own_look tag new.seen look.at ≡ Some look
  pub as_many : senses_had new.seen look.at ≡ length senses
  pub no_fault : IsFalse (has_fault_sense new.seen look.at)
  pub not_recovered : IsFalse (ends_recovered new.seen look.at)
  pub not_uncorrectable : IsFalse (ends_uncorrectable new.seen look.at)
  pub are_senses : AddsKinds old tag (sense_kinds look.at asked) old.seen new.seen
  pub goes_on :
      (start : Start) (contents : List (Tag × List ℕ)) → GoesBy ladder matrix limit start →
      IsOf old start contents → stood start contents →
      HasSensed start contents new stands look senses

-- for some senses
abbrev pub HasClimbed : LadderView → BaseMatrix → ℕ → CallerView → CallerView → Standing →
    Standing → Tag → Look → Type 0
HasClimbed ladder matrix limit old new stood stands tag look =
    (senses : List (List ℕ)) × (asked : List (Place × ℤ)) × Climbs ladder matrix limit old new stood
    stands tag look senses asked

-- after some senses one more was asked for, in which a die failed
pub record FailsToClimb (matrix : BaseMatrix) (limit : ℕ) (first : LadderView)
    (old new : CallerView) (stood stands : Standing) (tag : Tag) (look : Look)
    (die : ℕ) : Type 0 where
  pub asked : List (Place × ℤ)
  pub after : List Entry
  pub are_senses : AddsKinds old tag (sense_kinds look.at asked) old.seen after
  pub place : Place
  pub level : ℤ
  pub now : List Entry
  pub comes : Comes (record old { seen = after }) tag now
  pub die_is : die ≡ place.die
  pub seen_is : new.seen ≡ entry_of tag (Kind.FaultSense look.at place level) ∷ now
  pub is_own : IsSome (own_look tag new.seen look.at)
  pub goes_on :
      (start : Start) (contents : List (Tag × List ℕ)) → GoesBy first matrix limit start →
      IsOf old start contents → stood start contents → IsOf new start contents × stands start contents

-- how a ladder ended: with its answer, or in a die that failed
abbrev pub EndsClimb : LadderView → LadderView → BaseMatrix → ℕ → CallerView → CallerView →
    Standing → Standing → Tag → Look → Climbed → Type 0
EndsClimb first ladder matrix limit old new stood stands tag look Answered =
    IsTrue (has_answer (state_in ladder))
    × HasClimbed ladder matrix limit old new stood stands tag look
EndsClimb first ladder matrix limit old new stood stands tag look (Failed die) =
    FailsToClimb matrix limit first old new stood stands tag look die
