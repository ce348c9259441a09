-- The steps of a look that found a page: its senses decide nothing and pass no test of what ends a copy, so that the step
-- between them and the leave does, or the leave.
use Rattle.std.proofs.Common.{ℕ, ◌≡◌, ◌&&◌, ◌||◌, not, Bool, true, false, List, [], ◌∷◌, ◌++◌, Option, Some, None, refl, sym, ap, ◌∙◌}
use Rattle.std.specs.Prelude.{ℤ}
use Rattle.std.specs.List.{list_all, list_any}
use Rattle.std.proofs.lemmas.Bool.{and_parts, false≢true}
use Rattle.std.proofs.lemmas.Option.{none-some}
use Rattle.ssd_histories.specs.CallSteps.{CallStep, is_pick, is_sense_of, is_stay}
use Rattle.ssd_histories.specs.Replies.{first_reply}
use Rattle.ssd_histories.specs.Rounds.{ends_in_stay}
use Rattle.ssd_histories.specs.SerialCalls.{entry_of}
use Rattle.ssd_geo.specs.declared.entry.Entry.{Entry}
use Rattle.ssd_geo.specs.declared.kind.Kind.{Kind}
use Rattle.ssd_geo.specs.declared.place.Place.{Place}
use Rattle.ssd_geo.specs.declared.row.Row.{Row}
use Rattle.ssd_geo.specs.declared.slot.Slot.{Slot}
use Rattle.ssd_geo.specs.declared.tag.Tag.{Tag}
use Rattle.shared_lemmas.proofs.Tests.{or_false}

-- a step of a call
abbrev pub made_step : Tag → Kind → List Entry → CallStep
made_step tag kind past = record { past = past; entry = entry_of tag kind }

-- a reply that a step decides, or else those after it
abbrev pub decided_first : {R : Type 0} → Option R → Option R → Option R
decided_first {R} decided rest = elim decided as (λ (o : Option R). Option R) [ Some reply ↦ Some reply | None ↦ rest ]

pub decided_last : {R : Type 0} (decided : Option R) → decided_first decided None ≡ decided
decided_last (Some reply) = refl
decided_last None = refl

-- steps that decide nothing, and more steps
pub none_first : {R : Type 0} (decides : CallStep → Option R) (steps more : List CallStep) → first_reply decides steps ≡ None →
    first_reply decides (steps ++ more) ≡ first_reply decides more
none_first decides [] more none = refl
none_first {R} decides (step ∷ steps) more none = by_option (decides step) (none_first decides steps more) none
  where
    by_option : (option : Option R) →
        (first_reply decides steps ≡ None → first_reply decides (steps ++ more) ≡ first_reply decides more) →
        decided_first option (first_reply decides steps) ≡ None →
        decided_first option (first_reply decides (steps ++ more)) ≡ first_reply decides more
    by_option (Some reply) rest is = absurd (none-some reply (sym is))
    by_option None rest is = rest is

-- the senses pass no test that no sense passes, and decide nothing that none decides
by_sense : (test : Kind → Bool) → ((at : ℕ) (place : Place) (level : ℤ) → test (Kind.Sense at place level) ≡ false) →
    (at : ℕ) (kind : Kind) → is_sense_of at kind ≡ true → test kind ≡ false
by_sense test none at (Kind.Sense named place level) is = none named place level
by_sense test none at kind is = absurd (false≢true is)

pub any_over : (test : Kind → Bool) → ((at : ℕ) (place : Place) (level : ℤ) → test (Kind.Sense at place level) ≡ false) →
    (at : ℕ) (senses ending leave : List CallStep) → list_all (λ step. is_sense_of at step.entry.kind) senses ≡ true →
    list_any (λ step. test step.entry.kind) ((senses ++ ending) ++ leave)
    ≡ list_any (λ step. test step.entry.kind) (ending ++ leave)
any_over test none at [] ending leave are = refl
any_over test none at (step ∷ senses) ending leave are =
    let parts = and_parts (is_sense_of at step.entry.kind) (list_all (λ step. is_sense_of at step.entry.kind) senses) are in
    ap (λ (b : Bool). b || list_any (λ step. test step.entry.kind) ((senses ++ ending) ++ leave))
    (by_sense test none at step.entry.kind parts.0)
    ∙ any_over test none at senses ending leave parts.1

deciding_sense : {R : Type 0} (decides : List Entry → Kind → Option R) →
    ((past : List Entry) (at : ℕ) (place : Place) (level : ℤ) → decides past (Kind.Sense at place level) ≡ None) →
    (past : List Entry) (at : ℕ) (kind : Kind) → is_sense_of at kind ≡ true → decides past kind ≡ None
deciding_sense decides none past at (Kind.Sense named place level) is = none past named place level
deciding_sense decides none past at kind is = absurd (false≢true is)

pub first_over : {R : Type 0} (decides : List Entry → Kind → Option R) →
    ((past : List Entry) (at : ℕ) (place : Place) (level : ℤ) → decides past (Kind.Sense at place level) ≡ None) →
    (at : ℕ) (senses ending leave : List CallStep) → list_all (λ step. is_sense_of at step.entry.kind) senses ≡ true →
    first_reply (λ step. decides step.past step.entry.kind) ((senses ++ ending) ++ leave)
    ≡ first_reply (λ step. decides step.past step.entry.kind) (ending ++ leave)
first_over decides none at [] ending leave are = refl
first_over {R} decides none at (step ∷ senses) ending leave are =
    let parts = and_parts (is_sense_of at step.entry.kind) (list_all (λ step. is_sense_of at step.entry.kind) senses) are in
    ap (λ (o : Option R). decided_first o
    (first_reply (λ step. decides step.past step.entry.kind) ((senses ++ ending) ++ leave)))
    (deciding_sense decides none step.past at step.entry.kind parts.0)
    ∙ first_over decides none at senses ending leave parts.1

-- a test that only what ends a copy may pass
pub record TestsEnd (test : Kind → Bool) : Type 0 where
  pub of_look : (row : ℕ) (slot : Slot) (serial : ℕ) (closed : Bool) →
      test (Kind.Look row (Row.Page slot serial) closed) ≡ false
  pub of_sense : (at : ℕ) (place : Place) (level : ℤ) → test (Kind.Sense at place level) ≡ false
  pub of_leave : (at : ℕ) → test (Kind.Leave at) ≡ false

-- a reply that only what ends a copy, or its leave, may decide
pub record DecidesEnd {R : Type 0} (decides : List Entry → Kind → Option R) : Type 0 where
  pub of_look : (past : List Entry) (row : ℕ) (slot : Slot) (serial : ℕ) (closed : Bool) →
      decides past (Kind.Look row (Row.Page slot serial) closed) ≡ None
  pub of_sense : (past : List Entry) (at : ℕ) (place : Place) (level : ℤ) → decides past (Kind.Sense at place level) ≡ None

module _ (tag : Tag) (row : ℕ) (slot : Slot) (serial : ℕ) (closed : Bool) (before at_leave : List Entry) (at : ℕ)
    (senses : List CallStep) (are_senses : list_all (λ step. is_sense_of at step.entry.kind) senses ≡ true) where
  -- the steps of a look, with some between its senses and its leave
  abbrev pub look_steps : List CallStep → List CallStep
  look_steps ending =
      made_step tag (Kind.Look row (Row.Page slot serial) closed) before
      ∷ senses ++ ending ++ made_step tag (Kind.Leave at) at_leave ∷ []

  pub ended_any : (test : Kind → Bool) → TestsEnd test → (kind : Kind) (past : List Entry) →
      list_any (λ step. test step.entry.kind) (look_steps (made_step tag kind past ∷ [])) ≡ test kind
  ended_any test tests kind past =
      ap (λ (b : Bool). b || list_any (λ step. test step.entry.kind)
      ((senses ++ made_step tag kind past ∷ []) ++ made_step tag (Kind.Leave at) at_leave ∷ []))
      (tests.of_look row slot serial closed)
      ∙ any_over test tests.of_sense at senses (made_step tag kind past ∷ []) (made_step tag (Kind.Leave at) at_leave ∷ [])
      are_senses
      ∙ ap (λ (b : Bool). test kind || (b || false)) (tests.of_leave at)
      ∙ or_false (test kind)

  pub left_any : (test : Kind → Bool) → TestsEnd test →
      list_any (λ step. test step.entry.kind) (look_steps []) ≡ false
  left_any test tests =
      ap (λ (b : Bool). b || list_any (λ step. test step.entry.kind)
      ((senses ++ []) ++ made_step tag (Kind.Leave at) at_leave ∷ []))
      (tests.of_look row slot serial closed)
      ∙ any_over test tests.of_sense at senses [] (made_step tag (Kind.Leave at) at_leave ∷ []) are_senses
      ∙ ap (λ (b : Bool). b || false) (tests.of_leave at)

  pub ended_reply : {R : Type 0} (decides : List Entry → Kind → Option R) → DecidesEnd decides → (kind : Kind)
      (past : List Entry) →
      first_reply (λ step. decides step.past step.entry.kind) (look_steps (made_step tag kind past ∷ []))
      ≡ decided_first (decides past kind) (decided_first (decides at_leave (Kind.Leave at)) None)
  ended_reply {R} decides ends kind past =
      ap (λ (o : Option R). decided_first o (first_reply (λ step. decides step.past step.entry.kind)
      ((senses ++ made_step tag kind past ∷ []) ++ made_step tag (Kind.Leave at) at_leave ∷ [])))
      (ends.of_look before row slot serial closed)
      ∙ first_over decides ends.of_sense at senses (made_step tag kind past ∷ []) (made_step tag (Kind.Leave at) at_leave ∷ [])
      are_senses

  pub left_reply : {R : Type 0} (decides : List Entry → Kind → Option R) → DecidesEnd decides →
      first_reply (λ step. decides step.past step.entry.kind) (look_steps [])
      ≡ decided_first (decides at_leave (Kind.Leave at)) None
  left_reply {R} decides ends =
      ap (λ (o : Option R). decided_first o (first_reply (λ step. decides step.past step.entry.kind)
      ((senses ++ []) ++ made_step tag (Kind.Leave at) at_leave ∷ [])))
      (ends.of_look before row slot serial closed)
      ∙ first_over decides ends.of_sense at senses [] (made_step tag (Kind.Leave at) at_leave ∷ []) are_senses

-- steps end in a stay where their last but one is one
two_last : (steps : List CallStep) (step leave : CallStep) → ends_in_stay (steps ++ step ∷ leave ∷ []) ≡ is_stay step.entry.kind
two_last [] step leave = refl
two_last (a ∷ []) step leave = refl
two_last (a ∷ b ∷ []) step leave = refl
two_last (a ∷ b ∷ c ∷ steps) step leave = two_last (b ∷ c ∷ steps) step leave

pub stays_last : (steps senses : List CallStep) (step leave : CallStep) →
    ends_in_stay (steps ++ (senses ++ step ∷ []) ++ leave ∷ []) ≡ is_stay step.entry.kind
stays_last steps senses step leave =
    ap ends_in_stay (regroup steps senses step leave) ∙ two_last (steps ++ senses) step leave
  where
    regroup : (steps senses : List CallStep) (step leave : CallStep) →
        steps ++ (senses ++ step ∷ []) ++ leave ∷ [] ≡ (steps ++ senses) ++ step ∷ leave ∷ []
    regroup [] senses step leave = inner senses
      where
        inner : (senses : List CallStep) → (senses ++ step ∷ []) ++ leave ∷ [] ≡ senses ++ step ∷ leave ∷ []
        inner [] = refl
        inner (sense ∷ senses) = ap (λ (xs : List CallStep). sense ∷ xs) (inner senses)
    regroup (first ∷ steps) senses step leave = ap (λ (xs : List CallStep). first ∷ xs) (regroup steps senses step leave)

-- steps of which none is a pick need no cause to pick
pub no_pick_all : (cause : CallStep → Bool) (steps : List CallStep) → list_any (λ step. is_pick step.entry.kind) steps ≡ false →
    list_all (λ step. not (is_pick step.entry.kind) || cause step) steps ≡ true
no_pick_all cause [] none = refl
no_pick_all cause (step ∷ steps) none = by_test (is_pick step.entry.kind) none (no_pick_all cause steps)
  where
    by_test : (b : Bool) → (b || list_any (λ step. is_pick step.entry.kind) steps) ≡ false →
        (list_any (λ step. is_pick step.entry.kind) steps ≡ false →
        list_all (λ step. not (is_pick step.entry.kind) || cause step) steps ≡ true) →
        ((not b || cause step) && list_all (λ step. not (is_pick step.entry.kind) || cause step) steps) ≡ true
    by_test true is rest = absurd (false≢true (sym is))
    by_test false is rest = rest is
