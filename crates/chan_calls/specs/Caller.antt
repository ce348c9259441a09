-- What does a caller of a channel's steps know of the channel? It has seen a part of the history:
-- all up to its own latest step. Before a step of its own, other callers may have added entries,
-- unless it is alone; what it had seen begins what stands then.
use Rattle.std.specs.Prelude.{ℕ, ◌≡◌, ◌≢◌, ◌+◌, ◌≤◌, ◌||◌, IsTrue, List, [], ◌∷◌, ◌++◌, length, All, Option, None, IfSome, IsSome}
use Rattle.chan_state.specs.Steps.{IsWordOf}
use Rattle.chan_tables.specs.TablesState.{ends_recovered, ends_uncorrectable, room_of_look, room_of_step, senses_had}
use Rattle.ssd_geo.specs.Coding.{coding_of}
use Rattle.ssd_histories.specs.History.{look_by, look_of, open_looks}
use Rattle.ssd_geo.specs.Ladder.{LadderState, has_answer}
use Rattle.ssd_histories.specs.Lawful.{has_fault_sense}
use Rattle.ssd_histories.specs.OpenLooks.{look_at}
use Rattle.ssd_histories.specs.PastPages.{ladder_of, senses_of}
use Rattle.ssd_histories.specs.SerialCalls.{entry_of}
use Rattle.ssd_histories.specs.Standing.{IsPastOf}
use Rattle.ssd_histories.specs.Start.{Start, data_of}
use Rattle.ssd_geo.specs.declared.entry.Entry.{Entry}
use Rattle.ssd_geo.specs.declared.kind.Kind.{Kind}
use Rattle.ssd_geo.specs.declared.look.Look.{Look}
use Rattle.ssd_geo.specs.declared.shape.Shape.{Shape}
use Rattle.ssd_geo.specs.declared.tag.Tag.{Tag}

-- what a caller knows: the past that it has seen, newest entry first; the limit of the history, the
-- sizes and the session; its number among several callers, and none where it is alone; and the
-- start and contents that the channel is bound to stand for, if it is. Where it was lent a channel,
-- `reference` is the ghost name of that loan, so that the lender knows its channel again.
pub record CallerView : Type 0 where
  pub seen : List Entry
  pub limit : ℕ
  pub shape : Shape
  pub session : ℕ
  pub number : Option ℕ
  pub bound : Option (Start × List (Tag × List ℕ))
  pub reference : ℕ

-- what a step leaves as it is
pub record SameCaller (old new : CallerView) : Type 0 where
  pub limit_stays : new.limit ≡ old.limit
  pub shape_stays : new.shape ≡ old.shape
  pub session_stays : new.session ≡ old.session
  pub number_stays : new.number ≡ old.number
  pub bound_stays : new.bound ≡ old.bound
  pub reference_stays : new.reference ≡ old.reference

-- a caller makes the calls of this actor
abbrev pub Serves : CallerView → ℕ → Type 0
Serves caller actor = IfSome caller.number (λ number. actor ≡ number)

-- a caller may write these data under a tag: those of the contents that the channel is bound to
abbrev pub TakesData : CallerView → Tag → List ℕ → Type 0
TakesData caller tag data_bytes = IfSome caller.bound (λ bound. data_of bound.1 tag ≡ data_bytes)

-- the open look of a call that began at a position
abbrev pub own_look : Tag → List Entry → ℕ → Option Look
own_look tag past at = look_by tag (look_at (open_looks past) at)

-- the past that a caller's step of a call finds: other callers may have added entries to what the
-- caller has seen, none of which is of the call's actor, or senses for its looks, or ends them or
-- their copies
pub record Comes (caller : CallerView) (tag : Tag) (now : List Entry) : Type 0 where
  pub others : List Entry
  pub now_is : now ≡ others ++ caller.seen
  pub of_others : All (λ entry. entry.tag.actor ≢ tag.actor) others
  pub none_alone : caller.number ≡ None → others ≡ []
  pub looks_stay : (at : ℕ) → own_look tag now at ≡ own_look tag caller.seen at
  pub senses_stay : (at : ℕ) → IsSome (own_look tag caller.seen at) →
      senses_had now at ≡ senses_had caller.seen at
  pub faults_stay : (at : ℕ) → IsSome (own_look tag caller.seen at) →
      has_fault_sense now at ≡ has_fault_sense caller.seen at
  pub recovered_stay : (at : ℕ) → IsSome (own_look tag caller.seen at) →
      ends_recovered now at ≡ ends_recovered caller.seen at
  pub uncorrectable_stay : (at : ℕ) → IsSome (own_look tag caller.seen at) →
      ends_uncorrectable now at ≡ ends_uncorrectable caller.seen at

-- a caller made entries of these kinds for a call, one after the other, each upon the past that it
-- found
abbrev pub AddsKinds : CallerView → Tag → List Kind → List Entry → List Entry → Type 0
AddsKinds caller tag [] seen new = new ≡ seen
AddsKinds caller tag (kind ∷ kinds) seen new =
    (now : List Entry) × Comes (record caller { seen = seen }) tag now
    × AddsKinds caller tag kinds (entry_of tag kind ∷ now) new

-- the past has room for a look, and for a step outside a look, with this limit
abbrev pub HasLookRoom : ℕ → List Entry → Type 0
HasLookRoom limit past = length past + room_of_look (open_looks past) ≤ limit

abbrev pub HasStepRoom : ℕ → List Entry → Type 0
HasStepRoom limit past = length past + room_of_step (open_looks past) ≤ limit

-- what a caller has seen is a past of a start and contents, whose limit, sizes and session it knows
pub record IsOf (caller : CallerView) (start : Start) (contents : List (Tag × List ℕ))
    : Type 0 where
  pub is_past : IsPastOf start contents caller.seen
  pub limit_is : caller.limit ≡ start.limit
  pub shape_is : caller.shape ≡ start.base.shape
  pub session_is : caller.session ≡ start.base.session

-- a look and what it has sensed are the same in the past that a step finds as in what the caller
-- had seen
pub record LookStays (start : Start) (contents : List (Tag × List ℕ)) (seen now : List Entry)
    (at : ℕ) : Type 0 where
  pub look_stays : look_of now at ≡ look_of seen at
  pub sensed_stays :
      senses_of (coding_of start.base) start contents now at
      ≡ senses_of (coding_of start.base) start contents seen at

-- a fact of what the ladder of a look has come to, where the channel is bound to a start and
-- contents
abbrev pub IfBound : CallerView → ℕ → (LadderState → Type 0) → Type 0
IfBound caller at fact =
    IfSome caller.bound
    (λ bound. fact (ladder_of (coding_of bound.0.base) bound.0 bound.1 caller.seen at))

-- the look of a call that began at a position is open
abbrev pub IsOwn : CallerView → Tag → ℕ → Type 0
IsOwn caller tag at = IsSome (own_look tag caller.seen at)

-- the look that began at a position may be left: a sense of it failed, or its ladder has an answer,
-- where the channel is bound to a start and contents
abbrev pub MayLeave : CallerView → ℕ → Type 0
MayLeave caller at =
    IfBound caller at (λ state. IsTrue (has_answer state || has_fault_sense caller.seen at))

-- the word is that of a call's write of a row, where the channel is bound to a start and contents
abbrev pub IsBoundWord : CallerView → Tag → ℕ → List ℕ → Type 0
IsBoundWord caller tag row word =
    IfSome caller.bound (λ bound. IsWordOf bound.0 bound.1 tag row word)
