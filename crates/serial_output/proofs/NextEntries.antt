-- Pasts that come to later ones: each entry on the way is lawful, and two entries that may come next after one past make the
-- same choice. What then is the same: the slot of a program, and the die that answered FAIL.
use Rattle.std.proofs.Common.{ℕ, ◌≡◌, ◌==◌, Bool, true, false, ◌&&◌, ◌||◌, not, List, [], ◌∷◌, ◌++◌, Option, Some, None, refl, sym, ap, subst, ◌∙◌, append_assoc, eqb-true}
use Rattle.std.specs.Prelude.{if◌then◌else◌}
use Rattle.std.specs.List.{list_any}
use Rattle.std.proofs.lemmas.Bool.{false≢true}
use Rattle.std.proofs.lemmas.List.{append_cancel_left}
use Rattle.ssd_histories.specs.CallSteps.{CallStep, failed_die, steps_of}
use Rattle.ssd_geo.specs.Ladder.{LadderState}
use Rattle.ssd_histories.specs.Lawful.{IsFailedProgram, IsLawfulBy, IsLawfulKind, IsProgrammed}
use Rattle.ssd_histories.specs.SerialCalls.{AreStepsFrom, entry_of}
use Rattle.ssd_histories.specs.WeakDies.{dies_of_program, is_none_weak, is_weak, may_fail_on}
use Rattle.ssd_histories.proofs.Histories.{lawful_before_last}
use Rattle.ssd_geo.specs.declared.base.ChannelBase.{ChannelBase}
use Rattle.ssd_geo.specs.declared.entry.Entry.{Entry}
use Rattle.ssd_geo.specs.declared.kind.Kind.{Kind}
use Rattle.ssd_geo.specs.declared.slot.Slot.{Slot}
use Rattle.ssd_geo.specs.declared.tag.Tag.{Tag}
use Rattle.serial_laws.proofs.MadeSteps.{IsGrownPast, made_steps, steps_grow}
use Rattle.serial_output.specs.SameChoices.{ChooseAlike, ComesTo, IsSameChoice}
use Rattle.std.proofs.lemmas.Option.{same_Some}

-- a past comes to itself, and on the way to a later one it comes to those between
pub comes_to_itself : (past : List Entry) → ComesTo past past
comes_to_itself past = record { newer = []; is = refl }

pub comes_on : (past between now : List Entry) → ComesTo past between → ComesTo between now → ComesTo past now
comes_on past between now first second = record {
  newer = second.newer ++ first.newer;
  is =
      second.is ∙ ap (λ (list : List Entry). second.newer ++ list) first.is
      ∙ sym (append_assoc second.newer first.newer past);
}

pub comes_before : (entry : Entry) (past now : List Entry) → ComesTo (entry ∷ past) now → ComesTo past now
comes_before entry past now comes = comes_on past (entry ∷ past) now (record { newer = entry ∷ []; is = refl }) comes

pub grown_comes : (tag : Tag) (past now : List Entry) → IsGrownPast tag past now → ComesTo past now
grown_comes tag past now grown = record { newer = grown.made; is = grown.after_is }

pub steps_come : (tag : Tag) (past now : List Entry) (steps : List CallStep) → AreStepsFrom tag past steps now →
    ComesTo past now
steps_come tag past now steps made = grown_comes tag past now (steps_grow tag past now steps made)

-- the steps between two pasts are one list
pub steps_are_one : (tag : Tag) (past now : List Entry) (steps others : List CallStep) → AreStepsFrom tag past steps now →
    AreStepsFrom tag past others now → steps ≡ others
steps_are_one tag past now steps others made too =
    append_cancel_left (steps_of tag past) steps others
    (sym (made_steps tag past now steps made) ∙ made_steps tag past now others too)

-- the first of some steps is an entry of the call over the past
pub first_step : (tag : Tag) (past : List Entry) (step : CallStep) (steps : List CallStep) (now : List Entry) →
    AreStepsFrom tag past (step ∷ steps) now → AreStepsFrom tag (entry_of tag step.entry.kind ∷ past) steps now
first_step tag past step steps now made =
    let is : ◌≡◌ {A = Entry} step.entry (entry_of tag step.entry.kind) =
    λ i. record { tag = made.1 i; kind = step.entry.kind } in
    subst (λ (entry : Entry). AreStepsFrom tag (entry ∷ past) steps now) is made.2

-- an entry on the way is lawful
pub law_on_the_way : (ladder : List Entry → ℕ → LadderState) (base : ChannelBase) (tag : Tag) (kind : Kind)
    (past now : List Entry) →
    IsLawfulBy ladder base now → ComesTo (entry_of tag kind ∷ past) now → IsLawfulKind (ladder past) base past tag kind
law_on_the_way ladder base tag kind past now law comes =
    (lawful_before_last ladder base comes.newer (entry_of tag kind ∷ past)
    (subst (IsLawfulBy ladder base) comes.is law)).1.meets

-- two entries of a call that may come next after a past: both are lawful there, and they make the same choice
pub record AreRivals (state : ℕ → LadderState) (base : ChannelBase) (past : List Entry) (tag : Tag)
    (first second : Kind) : Type 0 where
  pub first_meets : IsLawfulKind state base past tag first
  pub second_meets : IsLawfulKind state base past tag second
  pub same_choice : IsSameChoice first second

pub choice_back : (first second : Kind) → IsSameChoice first second → IsSameChoice second first
choice_back first second same = record {
  same_pick = λ sb named is is_too. sym (same.same_pick named sb is_too is);
  same_die = sym same.same_die;
}

pub same_failed : (first second : Kind) → IsSameChoice first second → failed_die first ≡ failed_die second
same_failed first second same = same.same_die

-- a die is told just where its call failed
abbrev pub told_die : ℕ → Bool → Option ℕ
told_die die true = Some die
told_die die false = None

-- two failures of one operation are the same
pub record IsSameFailure (die other : ℕ) (fault too : Bool) : Type 0 where
  pub same_die : die ≡ other
  pub same_fault : fault ≡ too

or_weak : (weak rest : Bool) → (not weak && rest) ≡ true → weak ≡ false
or_weak true rest e = absurd (false≢true e)
or_weak false rest e = refl

module _ (base : ChannelBase) (past : List Entry) (sb : ℕ) where
  -- an operation that answered FAIL met a weak die
  weak_by : (die failed : ℕ) (dies : List ℕ) (same weak rest : Bool) → is_weak base past sb die ≡ weak →
      (if same then false || weak else not weak && rest) ≡ true → (rest ≡ true → list_any (is_weak base past sb) dies ≡ true) →
      (weak || list_any (is_weak base past sb) dies) ≡ true
  weak_by die failed dies same true rest is may later = refl
  weak_by die failed dies true false rest is may later = absurd (false≢true may)
  weak_by die failed dies false false rest is may later = later may

  pub failed_is_weak : (dies : List ℕ) (failed : ℕ) → may_fail_on base past sb dies failed false ≡ true →
      list_any (is_weak base past sb) dies ≡ true
  failed_is_weak [] failed may = absurd (false≢true may)
  failed_is_weak (die ∷ dies) failed may =
      weak_by die failed dies (die == failed) (is_weak base past sb die) (may_fail_on base past sb dies failed false) refl may
      (failed_is_weak dies failed)

  pub none_weak_or_failed : (dies : List ℕ) (failed : ℕ) → is_none_weak base past sb dies ≡ true →
      may_fail_on base past sb dies failed false ≡ true → ⊥
  none_weak_or_failed dies failed none may =
      by_any (list_any (is_weak base past sb) dies) none (failed_is_weak dies failed may)
    where
      by_any : (any : Bool) → not any ≡ true → any ≡ true → ⊥
      by_any true none some = false≢true none
      by_any false none some = false≢true some

  -- it failed on the first weak one
  first_by : (die failed other : ℕ) (here there weak rest more : Bool) → (die == failed) ≡ here → (die == other) ≡ there →
      (if here then false || weak else not weak && rest) ≡ true →
      (if there then false || weak else not weak && more) ≡ true → (rest ≡ true → more ≡ true → failed ≡ other) →
      failed ≡ other
  first_by die failed other true true weak rest more e f p q later = sym (eqb-true die failed e) ∙ eqb-true die other f
  first_by die failed other true false true rest more e f p q later = absurd (false≢true q)
  first_by die failed other true false false rest more e f p q later = absurd (false≢true p)
  first_by die failed other false true true rest more e f p q later = absurd (false≢true p)
  first_by die failed other false true false rest more e f p q later = absurd (false≢true q)
  first_by die failed other false false true rest more e f p q later = absurd (false≢true p)
  first_by die failed other false false false rest more e f p q later = later p q

  first_weak : (dies : List ℕ) (failed other : ℕ) → may_fail_on base past sb dies failed false ≡ true →
      may_fail_on base past sb dies other false ≡ true → failed ≡ other
  first_weak [] failed other may might = absurd (false≢true may)
  first_weak (die ∷ dies) failed other may might =
      first_by die failed other (die == failed) (die == other) (is_weak base past sb die)
      (may_fail_on base past sb dies failed false) (may_fail_on base past sb dies other false) refl refl may might
      (first_weak dies failed other)

  pub same_failure : (dies : List ℕ) (failed other : ℕ) (fault too : Bool) → told_die failed fault ≡ told_die other too →
      may_fail_on base past sb dies failed fault ≡ true → may_fail_on base past sb dies other too ≡ true →
      IsSameFailure failed other fault too
  same_failure dies failed other true true told may might =
      record { same_die = same_Some failed other told; same_fault = refl }
  same_failure dies failed other true false told may might = absurd (cc)
  same_failure dies failed other false true told may might = absurd (cc)
  same_failure dies failed other false false told may might =
      record { same_die = first_weak dies failed other may might; same_fault = refl }

-- two programs go to the next slot; they don't both succeed and answer FAIL, and fail on the same die
module _ (base : ChannelBase) (past : List Entry) where
  pub programmed_once : (slot other : Slot) → IsProgrammed base past slot → IsProgrammed base past other → slot ≡ other
  programmed_once slot other first second = same_Some slot other (sym first.is_next ∙ second.is_next)

  pub programmed_or_failed : (slot other : Slot) (die : ℕ) → IsProgrammed base past slot →
      IsFailedProgram base past other die false → ⊥
  programmed_or_failed slot other die first second =
      let same : slot ≡ other = same_Some slot other (sym first.is_next ∙ second.is_next) in
      none_weak_or_failed base past other.sb (dies_of_program base.shape.dies other) die
      (subst (λ (named : Slot). is_none_weak base past named.sb (dies_of_program base.shape.dies named) ≡ true) same
      first.none_weak) second.may_fail

  pub record IsSameProgram (slot other : Slot) (die failed : ℕ) (fault too : Bool) : Type 0 where
    pub same_slot : slot ≡ other
    pub same : IsSameFailure die failed fault too

  pub failed_once : (slot other : Slot) (die failed : ℕ) (fault too : Bool) → told_die die fault ≡ told_die failed too →
      IsFailedProgram base past slot die fault → IsFailedProgram base past other failed too →
      IsSameProgram slot other die failed fault too
  failed_once slot other die failed fault too told first second =
      let same : slot ≡ other = same_Some slot other (sym first.is_next ∙ second.is_next) in
      record {
        same_slot = same;
        same =
            same_failure base past other.sb (dies_of_program base.shape.dies other) die failed fault too told
            (subst (λ (named : Slot). may_fail_on base past named.sb (dies_of_program base.shape.dies named) die fault
            ≡ true) same
            first.may_fail) second.may_fail;
      }

-- two lawful histories that choose alike
pub record AreAlike (ladder : List Entry → ℕ → LadderState) (base : ChannelBase) (one other : List Entry) : Type 0 where
  pub law : IsLawfulBy ladder base one
  pub too : IsLawfulBy ladder base other
  pub alike : ChooseAlike one other

pub alike_back : (ladder : List Entry → ℕ → LadderState) (base : ChannelBase) (one other : List Entry) →
    AreAlike ladder base one other → AreAlike ladder base other one
alike_back ladder base one other both = record {
  law = both.too;
  too = both.law;
  alike = λ past first second comes goes. choice_back second.kind first.kind (both.alike past second first goes comes);
}

module _ (ladder : List Entry → ℕ → LadderState) (base : ChannelBase) (tag : Tag) (one other : List Entry)
    (both : AreAlike ladder base one other) where
  pub rivals : (past : List Entry) (first second : Kind) → ComesTo (entry_of tag first ∷ past) one →
      ComesTo (entry_of tag second ∷ past) other → AreRivals (ladder past) base past tag first second
  rivals past first second comes goes = record {
    first_meets = law_on_the_way ladder base tag first past one both.law comes;
    second_meets = law_on_the_way ladder base tag second past other both.too goes;
    same_choice = both.alike past (entry_of tag first) (entry_of tag second) comes goes;
  }

-- the first of some steps is on the way
pub first_comes : (tag : Tag) (past : List Entry) (step : CallStep) (steps : List CallStep) (now later : List Entry) →
    AreStepsFrom tag past (step ∷ steps) now → ComesTo now later → ComesTo (entry_of tag step.entry.kind ∷ past) later
first_comes tag past step steps now later made comes =
    comes_on (entry_of tag step.entry.kind ∷ past) now later
    (steps_come tag (entry_of tag step.entry.kind ∷ past) now steps (first_step tag past step steps now made)) comes
