-- A drain that stopped among the entries of others: the refreshes that it made, in none of which a die's call failed; and
-- what it made on a channel is drained, where it had made no step before.
use Rattle.std.proofs.Common.{ℕ, ◌≡◌, ◌+◌, ◌≤◌, ◌||◌, not, cond, Bool, true, false, List, [], ◌∷◌, ◌++◌, refl, ap, ◌∙◌, append-nil, arith}
use Rattle.std.specs.List.{list_all}
use Rattle.std.proofs.lemmas.Bool.{and_parts, false≢true}
use Rattle.std.proofs.lemmas.List.Sums.{sum_by-cons}
use Rattle.ssd_geo.specs.declared.reply.RefreshReply.{RefreshReply}
use Rattle.ssd_histories.specs.CallSteps.{CallStep, is_fault, steps_of}
use Rattle.ssd_histories.specs.Replies.{drained_on, is_die_fault, is_fault_last, pages_on}
use Rattle.ssd_histories.specs.Rounds.{has_fault}
use Rattle.serial_laws.proofs.MadeSteps.{faults_in}
use Rattle.calls_among_others.specs.CallsAmong.{ladders}
use Rattle.calls_among_others.proofs.AmongSteps.{steps_are_all}
use Rattle.race_laws.specs.BegunCalls.{DrainsStopBegun}
use Rattle.race_laws.specs.Drains.{RefreshedPagesAreDrained}
use Rattle.race_laws.proofs.AmongDrains.{IsDrainedAmong, all_steps, drained_among}
use Rattle.race_laws.proofs.AmongStops.{all_left}
use Rattle.race_laws.proofs.BalancedLooks.{refreshes_balanced}
use Rattle.race_laws.proofs.DrainCounts.{faults_are_told, none_told}

-- where no page tells of a failed call, the last alone does
none_is_last : (pages : List (ℕ × RefreshReply)) → list_all (λ drained. not (is_die_fault drained.1)) pages ≡ true →
    is_fault_last pages ≡ true
none_is_last [] none = refl
none_is_last (page ∷ []) none = refl
none_is_last (page ∷ next ∷ pages) none =
    let parts = and_parts (not (is_die_fault page.1))
    (list_all (λ (drained : ℕ × RefreshReply). not (is_die_fault drained.1)) (next ∷ pages)) none in
    by_test (is_die_fault page.1) parts.0 (none_is_last (next ∷ pages) parts.1)
  where
    by_test : (b : Bool) → not b ≡ true → is_fault_last (next ∷ pages) ≡ true →
        ◌≡◌ {A = Bool} (elim b as (λ _. Bool) [ true ↦ false | false ↦ is_fault_last (next ∷ pages) ]) true
    by_test true is last = absurd (false≢true is)
    by_test false is last = last

no_fault_of : (steps : List CallStep) → faults_in steps ≤ 0 → has_fault steps ≡ false
no_fault_of [] few = refl
no_fault_of (step ∷ steps) few = by_test (is_fault step.entry.kind) refl (no_fault_of steps)
  where
    whole : faults_in (step ∷ steps) ≡ cond (is_fault step.entry.kind) 1 0 + faults_in steps
    whole = sum_by-cons (λ (s : CallStep). cond (is_fault s.entry.kind) 1 0) step steps

    by_test : (b : Bool) → is_fault step.entry.kind ≡ b → (faults_in steps ≤ 0 → has_fault steps ≡ false) →
        (b || has_fault steps) ≡ false
    by_test true is later =
        let one : ◌≡◌ {A = ℕ} (cond (is_fault step.entry.kind) 1 0) 1 = ap {B = ℕ} (λ (b : Bool). cond b 1 0) is in
        absurd (omega (arith, whole, one, few))
    by_test false is later =
        let none : ◌≡◌ {A = ℕ} (cond (is_fault step.entry.kind) 1 0) 0 = ap {B = ℕ} (λ (b : Bool). cond b 1 0) is in
        later (omega (arith, whole, none, few))

pub drains_stop : DrainsStopBegun
drains_stop start contents channels channel tag count pages before after low none are =
    let made : IsDrainedAmong start contents channels channel tag low pages before after =
    drained_among start contents channels channel tag low pages before after (none_is_last pages none) are in
    let told = faults_are_told (ladders start contents) channels channel made.refreshes (pages_on channels channel pages)
    made.each
    made.drained in
    let zero_told = none_told channels channel pages none in
    record {
      steps = all_steps made.refreshes;
      rest = [];
      are_steps = made.are_steps;
      of_verb = record {
        refreshes = made.refreshes;
        are_steps = append-nil (all_steps made.refreshes);
        each = made.each;
        faultless = made.faultless;
      };
      no_fault = no_fault_of (all_steps made.refreshes) (omega (arith, told, zero_told));
      leaves_all =
          all_left start contents tag before after (all_steps made.refreshes) made.are_steps
          (refreshes_balanced (ladders start contents) made.refreshes made.each);
    }

pub pages_drained : RefreshedPagesAreDrained
pages_drained start contents channels channel tag pages before after low last none are =
    let made : IsDrainedAmong start contents channels channel tag low pages before after =
    drained_among start contents channels channel tag low pages before after last are in
    let steps : steps_of tag after ≡ all_steps made.refreshes =
    (steps_are_all tag before after (all_steps made.refreshes) made.are_steps).are_all
    ∙ ap (λ (older : List CallStep). older ++ all_steps made.refreshes) none in
    record {
      are_refreshes = record {
        refreshes = made.refreshes;
        are_steps = steps;
        each = made.each;
        faultless = made.faultless;
      };
      are_drained =
          ap (λ (all : List CallStep). drained_on (ladders start contents) channels channel all) steps ∙ made.drained;
    }
