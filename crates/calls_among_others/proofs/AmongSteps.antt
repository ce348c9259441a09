-- Steps that a call made among those of others: joined they stay so, they are the call's last steps in the past after them, and
-- the pasts since the step before are late.
use Rattle.std.proofs.Common.{ℕ, ◌≡◌, ◌≢◌, ◌==◌, ◌||◌, Bool, true, false, List, [], ◌∷◌, ◌++◌, refl, sym, ap, subst, ◌∙◌, append_assoc, append-nil, eqb-true}
use Rattle.std.specs.Prelude.{All}
use Rattle.std.specs.List.{list_any}
use Rattle.std.proofs.lemmas.List.Elements.{All-append, All-head, All-nil, All-tail}
use Rattle.ssd_histories.specs.CallSteps.{CallStep, late_pasts, steps_of}
use Rattle.ssd_histories.specs.History.{is_same_tag}
use Rattle.ssd_histories.specs.Lawful.{IsLawfulBy}
use Rattle.ssd_geo.specs.Ladder.{LadderState}
use Rattle.ssd_geo.specs.declared.base.ChannelBase.{ChannelBase}
use Rattle.ssd_geo.specs.declared.entry.Entry.{Entry}
use Rattle.ssd_geo.specs.declared.tag.Tag.{Tag}
use Rattle.serial_laws.proofs.MadeSteps.{none_more, one_more}
use Rattle.calls_among_others.specs.StepsAmong.{AreStepsAmong, HasCome, PastsAreLate, StepsAmongAreAll, StepsAmongJoin, StepsTogetherAreAmong}
use Rattle.std.proofs.lemmas.Bool.{false_from_ne_true, or_left, or_right}
use Rattle.ssd_histories.proofs.SameTags.{same_parts, same_tag}

-- an entry is of another actor
abbrev pub IsOfOther : ℕ → Entry → Type 0
IsOfOther actor entry = entry.tag.actor ≢ actor

-- no one came, or some did, and then some more
pub none_came : (actor : ℕ) (past : List Entry) → HasCome actor past past
none_came actor past = record { others = []; after_is = refl; of_others = All-nil (IsOfOther actor) }

pub came_same : (actor : ℕ) (before after : List Entry) → after ≡ before → HasCome actor before after
came_same actor before after same = record { others = []; after_is = same; of_others = All-nil (IsOfOther actor) }

pub came_then : (actor : ℕ) (a b c : List Entry) → HasCome actor a b → HasCome actor b c → HasCome actor a c
came_then actor a b c first second = record {
  others = second.others ++ first.others;
  after_is =
      second.after_is ∙ ap {B = List Entry} (λ (past : List Entry). second.others ++ past) first.after_is
      ∙ sym (append_assoc second.others first.others a);
  of_others = All-append (IsOfOther actor) second.others first.others second.of_others first.of_others;
}

-- steps after steps
pub steps_later : (tag : Tag) (before between after : List Entry) (more : List CallStep) → HasCome tag.actor before between →
    AreStepsAmong tag between more after → AreStepsAmong tag before more after
steps_later tag before between after [] came last = came_then tag.actor before between after came last
steps_later tag before between after (step ∷ more) came made =
    (came_then tag.actor before between step.past came made.0, made.1, made.2)

pub among_join : StepsAmongJoin
among_join tag before between after [] more first second = steps_later tag before between after more first second
among_join tag before between after (step ∷ steps) more first second =
    (first.0, first.1, among_join tag (step.entry ∷ step.past) between after steps more first.2 second)

pub together_among : StepsTogetherAreAmong
together_among tag before after [] made = came_same tag.actor before after (sym made)
together_among tag before after (step ∷ steps) made = (
  came_same tag.actor before step.past made.0,
  made.1,
  subst (λ (past : List Entry). AreStepsAmong tag (step.entry ∷ past) steps after) (sym made.0)
      (together_among tag (step.entry ∷ before) after steps made.2),
)

-- the entries of others are no steps of an actor's call
differs : (tag : Tag) (entry : Entry) → IsOfOther tag.actor entry → is_same_tag tag entry.tag ≡ false
differs tag entry other =
    false_from_ne_true (is_same_tag tag entry.tag) (λ same. other (sym (same_parts tag entry.tag same).0))

others_add_none : (tag : Tag) (others before : List Entry) → All (IsOfOther tag.actor) others →
    steps_of tag (others ++ before) ≡ steps_of tag before
others_add_none tag [] before all = refl
others_add_none tag (entry ∷ others) before all =
    none_more tag entry (others ++ before) (differs tag entry (All-head (IsOfOther tag.actor) entry others all))
    ∙ others_add_none tag others before (All-tail (IsOfOther tag.actor) entry others all)

pub came_none : (tag : Tag) (before after : List Entry) → HasCome tag.actor before after →
    steps_of tag after ≡ steps_of tag before
came_none tag before after came =
    ap (steps_of tag) came.after_is ∙ others_add_none tag came.others before came.of_others

are_all : (tag : Tag) (before after : List Entry) (steps : List CallStep) → AreStepsAmong tag before steps after →
    steps_of tag after ≡ steps_of tag before ++ steps
are_all tag before after [] came = came_none tag before after came ∙ sym (append-nil (steps_of tag before))
are_all tag before after (step ∷ steps) made =
    let itself : is_same_tag tag step.entry.tag ≡ true =
    subst (λ (t : Tag). is_same_tag tag t ≡ true) (sym made.1) (same_tag tag) in
    are_all tag (step.entry ∷ step.past) after steps made.2
    ∙ ap (λ (xs : List CallStep). xs ++ steps)
    (one_more tag step.entry step.past itself
    ∙ ap (λ (xs : List CallStep). xs ++ step ∷ []) (came_none tag before step.past made.0))
    ∙ append_assoc (steps_of tag before) (step ∷ []) steps

-- nor are the call's entries steps of another
no_other : (tag other : Tag) → other.actor ≡ tag.actor → is_same_tag other tag ≡ false → (before after : List Entry)
    (steps : List CallStep) → AreStepsAmong tag before steps after → steps_of other after ≡ steps_of other before
no_other tag other same apart before after [] came =
    came_none other before after (subst (λ (actor : ℕ). HasCome actor before after) (sym same) came)
no_other tag other same apart before after (step ∷ steps) made =
    let differs : is_same_tag other step.entry.tag ≡ false =
    subst (λ (t : Tag). is_same_tag other t ≡ false) (sym made.1) apart in
    no_other tag other same apart (step.entry ∷ step.past) after steps made.2
    ∙ none_more other step.entry step.past differs
    ∙ came_none other before step.past (subst (λ (actor : ℕ). HasCome actor before step.past) (sym same) made.0)

pub steps_are_all : StepsAmongAreAll
steps_are_all tag before after steps made = record {
  are_all = are_all tag before after steps made;
  no_other_call = λ other same apart. no_other tag other same apart before after steps made;
}

-- late pasts
pub late_here : (actor : ℕ) (test : List Entry → Bool) (past : List Entry) → test past ≡ true →
    list_any test (late_pasts actor past) ≡ true
late_here actor test [] holds = or_left (test []) false holds
late_here actor test (entry ∷ past) holds =
    or_left (test (entry ∷ past))
    (list_any test (elim (entry.tag.actor == actor) as (λ (b : Bool). List (List Entry))
    [ true ↦ [] | false ↦ late_pasts actor past ])) holds

late_over : (actor : ℕ) (test : List Entry → Bool) (others before : List Entry) → All (IsOfOther actor) others →
    list_any test (late_pasts actor before) ≡ true → list_any test (late_pasts actor (others ++ before)) ≡ true
late_over actor test [] before all holds = holds
late_over actor test (entry ∷ others) before all holds =
    let other : (entry.tag.actor == actor) ≡ false =
    false_from_ne_true (entry.tag.actor == actor)
    (λ same. All-head (IsOfOther actor) entry others all (eqb-true entry.tag.actor actor same)) in
    or_right (test (entry ∷ others ++ before))
    (list_any test (elim (entry.tag.actor == actor) as (λ (b : Bool). List (List Entry))
    [ true ↦ [] | false ↦ late_pasts actor (others ++ before) ]))
    (ap (λ (b : Bool). list_any test (elim b as (λ (b : Bool). List (List Entry))
    [ true ↦ [] | false ↦ late_pasts actor (others ++ before) ])) other
    ∙ late_over actor test others before (All-tail (IsOfOther actor) entry others all) holds)

-- what was so lately is so lately where others came
pub late_more : (actor : ℕ) (test : List Entry → Bool) (before after : List Entry) → HasCome actor before after →
    list_any test (late_pasts actor before) ≡ true → list_any test (late_pasts actor after) ≡ true
late_more actor test before after came holds =
    subst (λ (past : List Entry). list_any test (late_pasts actor past) ≡ true) (sym came.after_is)
    (late_over actor test came.others before came.of_others holds)

pub late_has : PastsAreLate
late_has actor test before after came holds =
    late_more actor test before after came (late_here actor test before holds)

-- what stands before a lawful past is lawful
lawful_over : (ladder : List Entry → ℕ → LadderState) (base : ChannelBase) (others before : List Entry) →
    IsLawfulBy ladder base (others ++ before) → IsLawfulBy ladder base before
lawful_over ladder base [] before lawful = lawful
lawful_over ladder base (entry ∷ others) before lawful = lawful_over ladder base others before lawful.0

pub lawful_came : (ladder : List Entry → ℕ → LadderState) (base : ChannelBase) (actor : ℕ) (before after : List Entry) →
    HasCome actor before after → IsLawfulBy ladder base after → IsLawfulBy ladder base before
lawful_came ladder base actor before after came lawful =
    lawful_over ladder base came.others before (subst (IsLawfulBy ladder base) came.after_is lawful)

pub lawful_among : (ladder : List Entry → ℕ → LadderState) (base : ChannelBase) (tag : Tag) (before after : List Entry)
    (steps : List CallStep) → AreStepsAmong tag before steps after → IsLawfulBy ladder base after →
    IsLawfulBy ladder base before
lawful_among ladder base tag before after [] found lawful = lawful_came ladder base tag.actor before after found lawful
lawful_among ladder base tag before after (step ∷ steps) made lawful =
    lawful_came ladder base tag.actor before step.past made.0
    (lawful_among ladder base tag (step.entry ∷ step.past) after steps made.2 lawful).0
