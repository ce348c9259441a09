-- Steps that a call made one after the other: they are the call's last steps in the past after them, joined they stay so,
-- and they leave the steps of other calls as they were.
use Rattle.std.proofs.Common.{ℕ, ◌≡◌, Bool, true, false, List, [], ◌∷◌, ◌++◌, refl, sym, ap, subst, ◌∙◌, append_assoc, append-nil}
use Rattle.std.proofs.lemmas.Bool.{and_parts}
use Rattle.std.specs.Prelude.{count_by}
use Rattle.std.specs.List.{list_all}
use Rattle.ssd_histories.specs.CallSteps.{CallStep, is_fault, steps_of}
use Rattle.ssd_histories.specs.History.{is_same_tag}
use Rattle.ssd_histories.specs.SerialCalls.{AreStepsFrom}
use Rattle.ssd_geo.specs.declared.entry.Entry.{Entry}
use Rattle.ssd_geo.specs.declared.tag.Tag.{Tag}
use Rattle.ssd_histories.proofs.SameTags.{same_tag}

-- how many die calls failed in some steps
abbrev pub faults_in : List CallStep → ℕ
faults_in steps = count_by (λ step. is_fault step.entry.kind) steps

-- steps after steps
pub steps_join : (tag : Tag) (before between after : List Entry) (xs ys : List CallStep) → AreStepsFrom tag before xs between →
    AreStepsFrom tag between ys after → AreStepsFrom tag before (xs ++ ys) after
steps_join tag before between after [] ys first second = subst (λ past. AreStepsFrom tag past ys after) (sym first) second
steps_join tag before between after (step ∷ xs) ys first second =
    (first.0, first.1, steps_join tag (step.entry ∷ before) between after xs ys first.2 second)

-- one step with its own past and tag
pub one_step_is : (tag : Tag) (entry : Entry) (before : List Entry) → entry.tag ≡ tag →
    AreStepsFrom tag before (record { past = before; entry = entry } ∷ []) (entry ∷ before)
one_step_is tag entry before own = (refl, own, refl)

-- an entry of a call is one more step of it, and none of another
pub one_more : (tag : Tag) (entry : Entry) (past : List Entry) → is_same_tag tag entry.tag ≡ true →
    steps_of tag (entry ∷ past) ≡ steps_of tag past ++ record { past = past; entry = entry } ∷ []
one_more tag entry past same = rw (same, steps_of) refl

pub none_more : (tag : Tag) (entry : Entry) (past : List Entry) → is_same_tag tag entry.tag ≡ false →
    steps_of tag (entry ∷ past) ≡ steps_of tag past
none_more tag entry past differs = rw (differs, steps_of) refl

-- steps that a call made are its last ones in the past after them
pub made_steps : (tag : Tag) (before after : List Entry) (steps : List CallStep) → AreStepsFrom tag before steps after →
    steps_of tag after ≡ steps_of tag before ++ steps
made_steps tag before after [] made = ap (steps_of tag) (sym made) ∙ sym (append-nil (steps_of tag before))
made_steps tag before after (step ∷ steps) made =
    let itself : is_same_tag tag step.entry.tag ≡ true =
    subst (λ (t : Tag). is_same_tag tag t ≡ true) (sym made.1) (same_tag tag) in
    let is_step : ◌≡◌ {A = CallStep} (record { past = before; entry = step.entry }) step =
    λ i. record { past = sym made.0 i; entry = step.entry } in
    made_steps tag (step.entry ∷ before) after steps made.2
    ∙ ap (λ (xs : List CallStep). xs ++ steps)
    (one_more tag step.entry before itself ∙ ap (λ (x : CallStep). steps_of tag before ++ x ∷ []) is_step)
    ∙ append_assoc (steps_of tag before) (step ∷ []) steps

-- a past with more entries of one call, the newest first
pub record IsGrownPast (tag : Tag) (before after : List Entry) : Type 0 where
  pub made : List Entry
  pub after_is : after ≡ made ++ before
  pub own : list_all (λ entry. is_same_tag tag entry.tag) made ≡ true

pub grown_itself : (tag : Tag) (past : List Entry) → IsGrownPast tag past past
grown_itself tag past = record { made = []; after_is = refl; own = refl }

all_joined : (test : Entry → Bool) (xs ys : List Entry) → list_all test xs ≡ true → list_all test ys ≡ true →
    list_all test (xs ++ ys) ≡ true
all_joined test [] ys first second = second
all_joined test (x ∷ xs) ys first second =
    let parts = and_parts (test x) (list_all test xs) first in
    rw parts.0 (all_joined test xs ys parts.1 second)

pub grown_join : (tag : Tag) (before between after : List Entry) → IsGrownPast tag before between →
    IsGrownPast tag between after → IsGrownPast tag before after
grown_join tag before between after first second = record {
  made = second.made ++ first.made;
  after_is = second.after_is ∙ ap (λ (past : List Entry). second.made ++ past) first.after_is
      ∙ sym (append_assoc second.made first.made before);
  own = all_joined (λ entry. is_same_tag tag entry.tag) second.made first.made second.own first.own;
}

pub steps_grow : (tag : Tag) (before after : List Entry) (steps : List CallStep) → AreStepsFrom tag before steps after →
    IsGrownPast tag before after
steps_grow tag before after [] made = subst (IsGrownPast tag before) made (grown_itself tag before)
steps_grow tag before after (step ∷ steps) made =
    let itself : is_same_tag tag step.entry.tag ≡ true =
    subst (λ (t : Tag). is_same_tag tag t ≡ true) (sym made.1) (same_tag tag) in
    grown_join tag before (step.entry ∷ before) after
    (record { made = step.entry ∷ []; after_is = refl; own = rw itself refl })
    (steps_grow tag (step.entry ∷ before) after steps made.2)

-- what holds of a past, and goes on with each entry of the call, holds after the call's entries
grows : (tag : Tag) (P : List Entry → Type 0) →
    ((entry : Entry) (past : List Entry) → is_same_tag tag entry.tag ≡ true → P past → P (entry ∷ past)) →
    (made before : List Entry) → list_all (λ entry. is_same_tag tag entry.tag) made ≡ true → P before → P (made ++ before)
grows tag P goes_on [] before own holds = holds
grows tag P goes_on (entry ∷ made) before own holds =
    let parts = and_parts (is_same_tag tag entry.tag) (list_all (λ entry. is_same_tag tag entry.tag) made) own in
    goes_on entry (made ++ before) parts.0 (grows tag P goes_on made before parts.1 holds)

pub grown_holds : (tag : Tag) (P : List Entry → Type 0) →
    ((entry : Entry) (past : List Entry) → is_same_tag tag entry.tag ≡ true → P past → P (entry ∷ past)) →
    (before after : List Entry) → IsGrownPast tag before after → P before → P after
grown_holds tag P goes_on before after grown holds =
    subst P (sym grown.after_is) (grows tag P goes_on grown.made before grown.own holds)
