-- The senses of a look that a caller makes alone are steps that stand together. None of them decides
-- a reply or ends a round.
use Rattle.std.proofs.Common.{◌≡◌, ℕ, ◌==◌, ◌&&◌, ◌||◌, Bool, true, false, List, [], ◌∷◌, ◌++◌, Option, Some, None, refl, ap, ◌∙◌, arith}
use Rattle.std.specs.Prelude.{IsTrue, ℤ}
use Rattle.std.specs.List.{list_all, list_any}
use Rattle.std.proofs.lemmas.Bool.Decides.{nat_tests}
use Rattle.ssd_histories.specs.CallSteps.{CallStep, is_sense_of}
use Rattle.ssd_histories.specs.Replies.{first_reply}
use Rattle.ssd_histories.specs.SerialCalls.{AreStepsFrom, entry_of}
use Rattle.ssd_histories.specs.ServedCalls.{after_senses}
use Rattle.ssd_geo.specs.declared.entry.Entry.{Entry}
use Rattle.ssd_geo.specs.declared.kind.Kind.{Kind}
use Rattle.ssd_geo.specs.declared.place.Place.{Place}
use Rattle.ssd_geo.specs.declared.tag.Tag.{Tag}
use Rattle.chan_calls.specs.Caller.{AddsKinds, CallerView, Comes}
use Rattle.chan_calls.specs.Calls.{sense_kinds}
use Rattle.shared_lemmas.proofs.Tests.{same_number}

pub both : (a b : Bool) → IsTrue a → IsTrue b → IsTrue (a && b)
both true b h k = k
both false b h k = absurd (cc)

-- a step of a call
abbrev pub step_with : Tag → Kind → List Entry → CallStep
step_with tag kind past = record { past = past; entry = entry_of tag kind }

-- the steps of senses, each upon the one before it
abbrev pub sense_steps : Tag → ℕ → List (Place × ℤ) → List Entry → List CallStep
sense_steps tag at [] past = []
sense_steps tag at (sensed ∷ senses) past =
    step_with tag (Kind.Sense at sensed.0 sensed.1) past
    ∷ sense_steps tag at senses (entry_of tag (Kind.Sense at sensed.0 sensed.1) ∷ past)

pub senses_from : (tag : Tag) (at : ℕ) (senses : List (Place × ℤ)) (past : List Entry)
    (ending leave : List CallStep) (after : List Entry) →
    AreStepsFrom tag (after_senses tag at senses past) (ending ++ leave) after →
    AreStepsFrom tag past ((sense_steps tag at senses past ++ ending) ++ leave) after
senses_from tag at [] past ending leave after from = from
senses_from tag at (sensed ∷ senses) past ending leave after from = (
  refl,
  refl,
  senses_from tag at senses (entry_of tag (Kind.Sense at sensed.0 sensed.1) ∷ past) ending leave
      after from,
)

pub are_sense_steps : (tag : Tag) (at : ℕ) (senses : List (Place × ℤ)) (past : List Entry) →
    IsTrue (list_all (λ step. is_sense_of at step.entry.kind) (sense_steps tag at senses past))
are_sense_steps tag at [] past = refl
are_sense_steps tag at (sensed ∷ senses) past =
    let next : List Entry = entry_of tag (Kind.Sense at sensed.0 sensed.1) ∷ past in
    both (at == at)
    (list_all (λ step. is_sense_of at step.entry.kind) (sense_steps tag at senses next)) (same_number at)
    (are_sense_steps tag at senses next)

-- where no sense decides, the reply is that of the steps after them
pub first_after : (R : Type 0) (decided : CallStep → Option R) (tag : Tag) (at : ℕ)
    (senses : List (Place × ℤ)) (past : List Entry) (ending leave : List CallStep) →
    ((now : List Entry) (place : Place) (level : ℤ) →
    decided (step_with tag (Kind.Sense at place level) now) ≡ None) →
    first_reply decided ((sense_steps tag at senses past ++ ending) ++ leave)
    ≡ first_reply decided (ending ++ leave)
first_after R decided tag at [] past ending leave none = refl
first_after R decided tag at (sensed ∷ senses) past ending leave none =
    let next : List Entry = entry_of tag (Kind.Sense at sensed.0 sensed.1) ∷ past in
    ap (λ (o : Option R). elim o as (λ (o : Option R). Option R) [
      | Some reply ↦ Some reply
      | None ↦ first_reply decided ((sense_steps tag at senses next ++ ending) ++ leave)
    ]) (none past sensed.0 sensed.1)
    ∙ first_after R decided tag at senses next ending leave none

-- and where none passes a test, the steps after them do
pub any_after : (test : Kind → Bool) (tag : Tag) (at : ℕ) (senses : List (Place × ℤ))
    (past : List Entry) (ending leave : List CallStep) →
    ((place : Place) (level : ℤ) → test (Kind.Sense at place level) ≡ false) →
    list_any (λ step. test step.entry.kind) ((sense_steps tag at senses past ++ ending) ++ leave)
    ≡ list_any (λ step. test step.entry.kind) (ending ++ leave)
any_after test tag at [] past ending leave none = refl
any_after test tag at (sensed ∷ senses) past ending leave none =
    let next : List Entry = entry_of tag (Kind.Sense at sensed.0 sensed.1) ∷ past in
    ap (λ (b : Bool). b || list_any (λ step. test step.entry.kind)
    ((sense_steps tag at senses next ++ ending) ++ leave)) (none sensed.0 sensed.1)
    ∙ any_after test tag at senses next ending leave none

module _ (caller : CallerView) (tag : Tag) (alone : caller.number ≡ None) where
  -- what comes to a caller that is alone is what it has seen
  pub is_seen : (seen now : List Entry) → Comes (record caller { seen = seen }) tag now →
      now ≡ seen
  is_seen seen now comes =
      comes.now_is
      ∙ ap {B = List Entry} (λ (others : List Entry). others ++ seen) (comes.none_alone alone)

  -- the entries of senses that it makes come one after the other
  pub are_after : (at : ℕ) (senses : List (Place × ℤ)) (seen new : List Entry) →
      AddsKinds caller tag (sense_kinds at senses) seen new → new ≡ after_senses tag at senses seen
  are_after at [] seen new is = is
  are_after at (sensed ∷ senses) seen new adds =
      let entry : Entry = entry_of tag (Kind.Sense at sensed.0 sensed.1) in
      are_after at senses (entry ∷ adds.0) new adds.2
      ∙ ap {B = List Entry} (λ (now : List Entry). after_senses tag at senses (entry ∷ now))
      (is_seen seen adds.0 adds.1)
