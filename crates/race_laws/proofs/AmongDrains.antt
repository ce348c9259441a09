-- Drains among the entries of others: the refreshes of a channel's pages, put together.
use Rattle.std.proofs.Common.{ℕ, ◌≡◌, ◌+◌, ◌*◌, ◌/◌, ◌%◌, ◌<◌, ◌≤◌, ◌==◌, Bool, true, false, cond, List, [], ◌∷◌, ◌++◌, Some, refl, ◌∙◌, eqb-true, arith}
use Rattle.std.specs.Prelude.{All, flat_map}
use Rattle.std.proofs.lemmas.Bool.{false≢true}
use Rattle.std.proofs.lemmas.List.Elements.{All-cons, All-nil}
use Rattle.std.proofs.lemmas.List.Sums.{sum_by-append}
use Rattle.ssd_geo.specs.declared.entry.Entry.{Entry}
use Rattle.ssd_geo.specs.declared.reply.RefreshReply.{RefreshReply}
use Rattle.ssd_geo.specs.declared.tag.Tag.{Tag}
use Rattle.ssd_histories.specs.CallSteps.{CallStep, is_fault}
use Rattle.ssd_histories.specs.CallsInOrder.{IsSomeRefresh, is_faultless_before_last}
use Rattle.ssd_histories.specs.Replies.{decided_pages, drained_on, is_die_fault, is_fault_last, pages_on}
use Rattle.ssd_histories.specs.Rounds.{has_fault}
use Rattle.ssd_histories.specs.Start.{Start}
use Rattle.serial_laws.proofs.DrainedPages.{one_drained}
use Rattle.serial_laws.proofs.LookLists.{by_kind, no_more_than_any, refresh_has_one_fault}
use Rattle.serial_laws.proofs.MadeSteps.{faults_in}
use Rattle.calls_among_others.specs.CallsAmong.{ladders}
use Rattle.calls_among_others.specs.Parts.{IsRefreshAmong}
use Rattle.calls_among_others.specs.StepsAmong.{AreStepsAmong}
use Rattle.calls_among_others.proofs.AmongSteps.{among_join}
use Rattle.race_laws.specs.Drains.{AreRefreshedAmong, DrainsAmongAreDrains}
use Rattle.serial_laws.proofs.MadeDrains.{faultless_front}

-- the steps of some refreshes, one after the other
abbrev pub all_steps : List (List CallStep) → List CallStep
all_steps refreshes = flat_map (λ refresh. refresh) refreshes

-- only the last of more pages may tell of a failed call
first_is_none : (first next : ℕ × RefreshReply) (pages : List (ℕ × RefreshReply)) →
    is_fault_last (first ∷ next ∷ pages) ≡ true → (is_die_fault first.1 ≡ false) × (is_fault_last (next ∷ pages) ≡ true)
first_is_none first next pages last = by_test (is_die_fault first.1) refl last
  where
    by_test : (b : Bool) → is_die_fault first.1 ≡ b →
        ◌≡◌ {A = Bool} (elim b as (λ _. Bool) [ true ↦ false | false ↦ is_fault_last (next ∷ pages) ]) true →
        (is_die_fault first.1 ≡ false) × (is_fault_last (next ∷ pages) ≡ true)
    by_test true is e = absurd (false≢true e)
    by_test false is e = (is, e)

module _ (start : Start) (contents : List (Tag × List ℕ)) (channels channel : ℕ) (tag : Tag) (low : channel < channels) where
  -- what a drain of some pages made on the channel
  pub record IsDrainedAmong (pages : List (ℕ × RefreshReply)) (before after : List Entry) : Type 0 where
    pub refreshes : List (List CallStep)
    pub are_steps : AreStepsAmong tag before (all_steps refreshes) after
    pub each : All (IsSomeRefresh (ladders start contents)) refreshes
    pub faultless : is_faultless_before_last refreshes ≡ true
    pub drained : drained_on (ladders start contents) channels channel (all_steps refreshes) ≡
        decided_pages (pages_on channels channel pages)
    pub few : faults_in (all_steps refreshes) ≤ 1

  -- none of the pages is of the channel, or none is left
  none_here : (before after : List Entry) → AreRefreshedAmong start contents channels tag [] before after →
      IsDrainedAmong [] before after
  none_here before after came = record {
    refreshes = [];
    are_steps = came;
    each = All-nil (IsSomeRefresh (ladders start contents));
    faultless = refl;
    drained = refl;
    few = omega arith;
  }

  elsewhere : (page : ℕ × RefreshReply) (pages : List (ℕ × RefreshReply)) (before after : List Entry) →
      (page.0 % channels == channel) ≡ false → IsDrainedAmong pages before after →
      IsDrainedAmong (page ∷ pages) before after
  elsewhere page pages before after other rest = record {
    refreshes = rest.refreshes;
    are_steps = rest.are_steps;
    each = rest.each;
    faultless = rest.faultless;
    drained = rest.drained ∙ rw other refl;
    few = rest.few;
  }

  -- the refresh of a page of the channel, with what was drained after it
  module _ (page : ℕ × RefreshReply) (pages : List (ℕ × RefreshReply)) (before between after : List Entry)
      (here : (page.0 % channels == channel) ≡ true)
      (first : IsRefreshAmong start contents tag (page.0 / channels) before between page.1)
      (rest : IsDrainedAmong pages between after) where
    page_is : page.0 / channels * channels + channel ≡ page.0
    page_is =
        let same : page.0 % channels ≡ channel = eqb-true (page.0 % channels) channel here in
        let positive : 0 < channels = omega (arith, low) in
        omega (arith, same, positive)

    drained_then : drained_on (ladders start contents) channels channel (first.steps ++ all_steps rest.refreshes) ≡
        decided_pages (pages_on channels channel (page ∷ pages))
    drained_then =
        one_drained (ladders start contents) channels channel (page.0 / channels) first.steps (all_steps rest.refreshes) page.1
        first.is_refresh first.reply_is
        ∙ (λ i. (page_is i, Some page.1) ∷ rest.drained i)
        ∙ rw here refl

    one_more : is_faultless_before_last (first.steps ∷ rest.refreshes) ≡ true →
        faults_in (first.steps ++ all_steps rest.refreshes) ≤ 1 → IsDrainedAmong (page ∷ pages) before after
    one_more faultless few = record {
      refreshes = first.steps ∷ rest.refreshes;
      are_steps = among_join tag before between after first.steps (all_steps rest.refreshes) first.are_steps rest.are_steps;
      each =
          All-cons (IsSomeRefresh (ladders start contents)) first.steps rest.refreshes
          (record { row = page.0 / channels; is_refresh = first.is_refresh }) rest.each;
      faultless = faultless;
      drained = drained_then;
      few = few;
    }

    then_more : is_die_fault page.1 ≡ false → IsDrainedAmong (page ∷ pages) before after
    then_more none =
        let no_fault : has_fault first.steps ≡ false = first.fault_is ∙ none in
        let zero_first = no_more_than_any (by_kind is_fault) first.steps no_fault in
        let joined = sum_by-append (λ (step : CallStep). cond (is_fault step.entry.kind) 1 0) first.steps
        (all_steps rest.refreshes) in
        let later = rest.few in
        one_more (faultless_front first.steps rest.refreshes no_fault rest.faultless)
        (omega (arith, zero_first, joined, later))

  last_here : (page : ℕ × RefreshReply) (before between after : List Entry) → (page.0 % channels == channel) ≡ true →
      IsRefreshAmong start contents tag (page.0 / channels) before between page.1 →
      AreRefreshedAmong start contents channels tag [] between after → IsDrainedAmong (page ∷ []) before after
  unfolding none_here
  last_here page before between after here first came =
      let few = refresh_has_one_fault (ladders start contents) (page.0 / channels) first.steps first.is_refresh in
      let joined = sum_by-append (λ (step : CallStep). cond (is_fault step.entry.kind) 1 0) first.steps [] in
      one_more page [] before between after here first (none_here between after came) refl (omega (arith, few, joined))

  pub drained_among : (pages : List (ℕ × RefreshReply)) (before after : List Entry) → is_fault_last pages ≡ true →
      AreRefreshedAmong start contents channels tag (pages_on channels channel pages) before after →
      IsDrainedAmong pages before after
  drained_among [] before after last are = none_here before after are
  drained_among (page ∷ []) before after last are = by_test (page.0 % channels == channel) refl are
    where
      by_test : (b : Bool) → (page.0 % channels == channel) ≡ b →
          AreRefreshedAmong start contents channels tag (cond b (page ∷ []) []) before after →
          IsDrainedAmong (page ∷ []) before after
      by_test true here are = last_here page before are.0 after here are.1 are.2
      by_test false other are = elsewhere page [] before after other (none_here before after are)
  drained_among (page ∷ next ∷ pages) before after last are =
      let parts = first_is_none page next pages last in
      by_test (λ older. drained_among (next ∷ pages) older after parts.1) parts.0 (page.0 % channels == channel) refl are
    where
      by_test : ((older : List Entry) → AreRefreshedAmong start contents channels tag (pages_on channels channel (next ∷ pages))
          older after → IsDrainedAmong (next ∷ pages) older after) → is_die_fault page.1 ≡ false →
          (b : Bool) → (page.0 % channels == channel) ≡ b →
          AreRefreshedAmong start contents channels tag
          (cond b (page ∷ pages_on channels channel (next ∷ pages)) (pages_on channels channel (next ∷ pages))) before after →
          IsDrainedAmong (page ∷ next ∷ pages) before after
      by_test later none true here are =
          then_more page (next ∷ pages) before are.0 after here are.1 (later are.0 are.2) none
      by_test later none false other are = elsewhere page (next ∷ pages) before after other (later before are)

pub drains_among : DrainsAmongAreDrains
drains_among start contents channels channel tag count pages before after low last are =
    let drained = drained_among start contents channels channel tag low pages before after last are in
    record {
      steps = all_steps drained.refreshes;
      are_steps = drained.are_steps;
      of_verb = record {
        refreshes = drained.refreshes;
        are_steps = refl;
        each = drained.each;
        faultless = drained.faultless;
      };
      decide = drained.drained;
      one_fault = drained.few;
    }
