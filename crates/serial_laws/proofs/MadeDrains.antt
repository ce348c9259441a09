-- A drain that is served alone makes refreshes, one after the other, each on its page's channel, and takes at most as many
-- hints as it asks for.
use Rattle.std.proofs.Common.{ℕ, suc, ◌≡◌, ◌+◌, ◌≤◌, ◌/◌, ◌%◌, Bool, true, false, cond, List, [], ◌∷◌, ◌++◌, length, Some, refl, sym, ap, subst, ◌∙◌, inl, inr, append-nil, arith}
use Rattle.std.specs.Prelude.{◌⊎◌, All, IsTrue, flat_map, is_some, slice_get, slice_set, sum_by}
use Rattle.std.specs.List.{list_all}
use Rattle.std.proofs.lemmas.List.Elements.{All-cons, All-nil, All-weaker}
use Rattle.std.proofs.lemmas.List.Sums.{sum_by-append}
use Rattle.ssd_histories.specs.CallSteps.{CallStep, is_fault, steps_of}
use Rattle.ssd_histories.specs.CallsInOrder.{AreCallSteps, AreRefreshes, ChannelRun, IsBegun, IsBegunOn, IsSomeRefresh, IsWhole, count_of_faults, hints_taken, is_faultless_before_last, is_left, ladder_in, looks_in_steps, steps_on}
use Rattle.ssd_geo.specs.Coding.{coding_of}
use Rattle.ssd_histories.specs.PastPages.{ladder_of}
use Rattle.ssd_histories.specs.Replies.{row_looked_at}
use Rattle.ssd_histories.specs.Rounds.{has_fault}
use Rattle.ssd_histories.specs.SerialCalls.{AreStepsFrom}
use Rattle.ssd_histories.specs.SerialHistory.{DrainedRefresh, SerialDrain, SerialState, faults, finds_none, has_taken_all, takes, without_hint}
use Rattle.ssd_histories.specs.SerialStop.{SerialDrainCut, stops, takes as takes_whole}
use Rattle.ssd_histories.specs.Start.{Start}
use Rattle.ssd_geo.specs.declared.tag.Tag.{Tag}
use Rattle.ssd_geo.specs.declared.trace.Verb.{Verb}
use Rattle.serial_laws.proofs.Lists.{IsPairedAt, Pairwise, all_numbered, paired_at, pairs_join, pairs_same, pairs_set, pairs_weaker, sum_of_none, sum_set}
use Rattle.serial_laws.proofs.LookLists.{by_kind, no_more_than_any, refresh_has_one_fault, refresh_has_one_look}
use Rattle.serial_laws.proofs.MadeCalls.{HasNoSteps, IsGrownRun, own_steps}
use Rattle.serial_laws.proofs.MadeSteps.{faults_in, made_steps, steps_grow, steps_join}
use Rattle.shared_lemmas.proofs.Lists.{all_at}

-- refreshes that a drain made on a channel
pub record IsDrainedRun (contents : List (Tag × List ℕ)) (tag : Tag) (run next : ChannelRun) : Type 0 where
  pub same_start : next.start ≡ run.start
  pub refreshes : List (List CallStep)
  pub are_steps : AreStepsFrom tag run.past (flat_map (λ refresh. refresh) refreshes) next.past
  pub each : All (IsSomeRefresh (ladder_in contents run)) refreshes
  pub faultless : IsTrue (is_faultless_before_last refreshes)

-- one of them, in which no die's call failed
record IsRefreshedRun (contents : List (Tag × List ℕ)) (tag : Tag) (run next : ChannelRun) : Type 0 where
  same_start : next.start ≡ run.start
  steps : List CallStep
  are_steps : AreStepsFrom tag run.past steps next.past
  is_refresh : IsSomeRefresh (ladder_in contents run) steps
  no_fault : has_fault steps ≡ false

-- a drain of so many hints, or its front
pub record IsDrainMade (contents : List (Tag × List ℕ)) (tag : Tag) (count : ℕ) (before after : List ChannelRun) : Type 0 where
  pub runs : Pairwise (IsDrainedRun contents tag) before after
  pub few_looks : hints_taken after tag ≤ hints_taken before tag + count
  pub few_faults : count_of_faults after tag ≤ count_of_faults before tag + 1

pub faultless_front : (part : List CallStep) (parts : List (List CallStep)) → has_fault part ≡ false →
    is_faultless_before_last parts ≡ true → is_faultless_before_last (part ∷ parts) ≡ true
faultless_front part [] none rest = refl
faultless_front part (next ∷ parts) none rest = rw none rest

module _ (contents : List (Tag × List ℕ)) (channels : ℕ) (tag : Tag) where
  abbrev IsKept : ChannelRun → ChannelRun → Type 0
  IsKept run next = (run ≡ next) ⊎ IsRefreshedRun contents tag run next

  drained_itself : (run : ChannelRun) → IsDrainedRun contents tag run run
  drained_itself run = record {
    same_start = refl;
    refreshes = [];
    are_steps = refl;
    each = All-nil (IsSomeRefresh (ladder_in contents run));
    faultless = refl;
  }

  drained_more : (run between next : ChannelRun) → IsKept run between → IsDrainedRun contents tag between next →
      IsDrainedRun contents tag run next
  drained_more run between next (inl same) later =
      subst (λ (older : ChannelRun). IsDrainedRun contents tag older next) (sym same) later
  drained_more run between next (inr first) later = record {
    same_start = later.same_start ∙ first.same_start;
    refreshes = first.steps ∷ later.refreshes;
    are_steps =
        steps_join tag run.past between.past next.past first.steps
        (flat_map (λ refresh. refresh) later.refreshes) first.are_steps
        later.are_steps;
    each =
        All-cons (IsSomeRefresh (ladder_in contents run)) first.steps later.refreshes first.is_refresh
        (subst (λ (start : Start). All (IsSomeRefresh (ladder_of (coding_of start.base) start contents)) later.refreshes)
        first.same_start later.each);
    faultless = faultless_front first.steps later.refreshes first.no_fault later.faultless;
  }

  -- the looks and the faults of a refresh are those more that there are
  module _ (page : ℕ) (before after : SerialState) (fault : Bool)
      (one : DrainedRefresh contents channels tag page before after fault) where
    after_is : after.channels ≡ slice_set before.channels (page % channels) (record { start = one.run.start; past = one.past })
    after_is = ap (λ (state : SerialState). state.channels) one.after_is

    grow : steps_of tag one.past ≡ steps_of tag one.run.past ++ one.steps
    grow = made_steps tag one.run.past one.past one.steps one.are_steps

    one_look : hints_taken after.channels tag ≤ hints_taken before.channels tag + 1
    one_look =
        let looks : ChannelRun → ℕ = λ run. looks_in_steps (steps_on tag run) in
        let set : sum_by looks after.channels ≡ sum_by looks
        (slice_set before.channels (page % channels) (record { start = one.run.start; past = one.past })) =
        ap (sum_by looks) after_is in
        let sums = sum_set looks before.channels (page % channels) one.run
        (record { start = one.run.start; past = one.past }) one.is_there in
        let more : looks_in_steps (steps_of tag one.past) ≡ looks_in_steps (steps_of tag one.run.past ++ one.steps) =
        ap looks_in_steps grow in
        let joined = sum_by-append (λ (step : CallStep). cond (is_some (row_looked_at step.entry.kind)) 1 0)
        (steps_of tag one.run.past) one.steps in
        let few = refresh_has_one_look (ladder_in contents one.run) (page / channels) one.steps one.is_refresh in
        omega (arith, set, sums, more, joined, few)

    faults_more : count_of_faults after.channels tag ≡ count_of_faults before.channels tag + faults_in one.steps
    faults_more =
        let counted : ChannelRun → ℕ = λ run. faults_in (steps_on tag run) in
        let set : sum_by counted after.channels ≡ sum_by counted
        (slice_set before.channels (page % channels) (record { start = one.run.start; past = one.past })) =
        ap (sum_by counted) after_is in
        let sums = sum_set counted before.channels (page % channels) one.run
        (record { start = one.run.start; past = one.past }) one.is_there in
        let more : faults_in (steps_of tag one.past) ≡ faults_in (steps_of tag one.run.past ++ one.steps) = ap faults_in grow in
        let joined = sum_by-append (λ (step : CallStep). cond (is_fault step.entry.kind) 1 0)
        (steps_of tag one.run.past) one.steps in
        omega (arith, set, sums, more, joined)

  -- nothing more, a last refresh in which a die's call failed, and one more refresh before others
  none_drained : (count : ℕ) (before : SerialState) → IsDrainMade contents tag count before.channels before.channels
  none_drained count before = record {
    runs = pairs_same (IsDrainedRun contents tag) drained_itself before.channels;
    few_looks = omega arith;
    few_faults = omega arith;
  }

  last_drained : (count page : ℕ) (before after : SerialState) → DrainedRefresh contents channels tag page before after true →
      IsDrainMade contents tag (suc count) before.channels after.channels
  last_drained count page before after one =
      let look = one_look page before after true one in
      let more = faults_more page before after true one in
      let few = refresh_has_one_fault (ladder_in contents one.run) (page / channels) one.steps one.is_refresh in
      record {
        runs =
            subst (Pairwise (IsDrainedRun contents tag) before.channels)
            (sym (ap (λ (state : SerialState). state.channels) one.after_is))
            (pairs_set (IsDrainedRun contents tag) drained_itself before.channels (page % channels) one.run
            (record { start = one.run.start; past = one.past }) one.is_there
            (record {
              same_start = refl;
              refreshes = one.steps ∷ [];
              are_steps = subst (λ (steps : List CallStep). AreStepsFrom tag one.run.past steps one.past)
                  (sym (append-nil one.steps)) one.are_steps;
              each =
                  All-cons (IsSomeRefresh (ladder_in contents one.run)) one.steps []
                  (record { row = page / channels; is_refresh = one.is_refresh })
                  (All-nil (IsSomeRefresh (ladder_in contents one.run)));
              faultless = refl;
            }));
        few_looks = omega (arith, look);
        few_faults = omega (arith, more, few);
      }

  more_drained : (count page : ℕ) (before between after : SerialState) →
      DrainedRefresh contents channels tag page before between false →
      IsDrainMade contents tag count between.channels after.channels →
      IsDrainMade contents tag (suc count) before.channels after.channels
  more_drained count page before between after one rest =
      let look = one_look page before between false one in
      let more = faults_more page before between false one in
      let none = no_more_than_any (by_kind is_fault) one.steps one.fault_is in
      let looks = rest.few_looks in
      let failed = rest.few_faults in
      record {
        runs =
            pairs_join IsKept (IsDrainedRun contents tag)
            (IsDrainedRun contents tag) drained_more before.channels between.channels after.channels
            (subst (Pairwise IsKept before.channels) (sym (ap (λ (state : SerialState). state.channels) one.after_is))
            (pairs_set IsKept (λ run. inl refl) before.channels (page % channels) one.run
            (record { start = one.run.start; past = one.past }) one.is_there
            (inr (record {
              same_start = refl;
              steps = one.steps;
              are_steps = one.are_steps;
              is_refresh = record { row = page / channels; is_refresh = one.is_refresh };
              no_fault = one.fault_is;
            }))))
            rest.runs;
        few_looks = omega (arith, look, looks);
        few_faults = omega (arith, more, none, failed);
      }

  pub drain_is_made : {count : ℕ} {pages : List ℕ} {before after : SerialState} →
      SerialDrain contents channels tag count pages before after → IsDrainMade contents tag count before.channels after.channels
  drain_is_made {count} {pages} {before} has_taken_all = none_drained count before
  drain_is_made {count} {pages} {before} (finds_none none) = none_drained count before
  drain_is_made {pages = pages} {before = before} {after = after}
      (takes {count = count} {page = page} {rest = rest} {between = between} is first later) =
      more_drained count page (without_hint rest before) between after first (drain_is_made later)
  drain_is_made {pages = pages} {before = before} {after = after} (faults {count = count} {page = page} {rest = rest} is last) =
      last_drained count page (without_hint rest before) after last

  pub drain_is_cut : {named entries count : ℕ} {before after : SerialState}
      → SerialDrainCut contents channels tag named entries count before after →
      IsDrainMade contents tag count before.channels after.channels
  drain_is_cut {before = before} (stops {count = count} is same full) = none_drained (suc count) before
  drain_is_cut {before = before} {after = after}
      (takes_whole {count = count} {page = page} {rest = rest} {between = between} is first later) =
      more_drained count page (without_hint rest before) between after first (drain_is_cut later)

-- a drain whose call had no step before is whole, and begun
module _ (contents : List (Tag × List ℕ)) (tag : Tag) (count : ℕ) (before after : List ChannelRun)
    (none : HasNoSteps tag before) (made : IsDrainMade contents tag count before after) where
  pub drained_grow : Pairwise (IsGrownRun tag) before after
  drained_grow =
      pairs_weaker (IsDrainedRun contents tag) (IsGrownRun tag)
      (λ run next drained. record {
        same_start = drained.same_start;
        grown = steps_grow tag run.past next.past (flat_map (λ refresh. refresh) drained.refreshes) drained.are_steps;
      }) before after made.runs

  are_refreshes : (i : ℕ) (next : ChannelRun) → slice_get after i ≡ Some next →
      AreRefreshes (ladder_in contents next) (steps_on tag next)
  are_refreshes i next is =
      let found : IsPairedAt (IsDrainedRun contents tag) before i next =
      paired_at (IsDrainedRun contents tag) before after i next made.runs is in
      let run : ChannelRun = found.item in
      let drained : IsDrainedRun contents tag run next = found.goes in
      let no_step : steps_on tag run ≡ [] = all_at
      (λ (named : ChannelRun). steps_on tag named ≡ []) before i run none found.is_there in
      record {
        refreshes = drained.refreshes;
        are_steps = own_steps tag run.past next.past
            (flat_map (λ refresh. refresh) drained.refreshes) no_step drained.are_steps;
        each =
            subst (λ (start : Start). All (IsSomeRefresh (ladder_of (coding_of start.base) start contents)) drained.refreshes)
            (sym drained.same_start) drained.each;
        faultless = drained.faultless;
      }

  no_looks : hints_taken before tag ≡ 0
  no_looks =
      sum_of_none (λ (run : ChannelRun). looks_in_steps (steps_on tag run)) before
      (All-weaker (λ (run : ChannelRun). steps_on tag run ≡ []) (λ (run : ChannelRun). looks_in_steps (steps_on tag run) ≡ 0)
      (λ run no_step. ap looks_in_steps no_step) before none)

  no_faults : count_of_faults before tag ≡ 0
  no_faults =
      sum_of_none (λ (run : ChannelRun). faults_in (steps_on tag run)) before
      (All-weaker (λ (run : ChannelRun). steps_on tag run ≡ []) (λ (run : ChannelRun). faults_in (steps_on tag run) ≡ 0)
      (λ run no_step. ap faults_in no_step) before none)

  took_few : hints_taken after tag ≤ count
  took_few = let few = made.few_looks in omega (arith, few, no_looks)

  one_fault : count_of_faults after tag ≤ 1
  one_fault = let few = made.few_faults in omega (arith, few, no_faults)

  pub drain_is_whole : IsWhole contents after (record { tag = tag; verb = Verb.Drain count })
  drain_is_whole = record {
    on_channels =
        all_numbered (λ item. AreCallSteps contents (length after) (record { tag = tag; verb = Verb.Drain count }) item
        (steps_on tag item.1)) after
        are_refreshes;
    few = took_few;
    one_fault = one_fault;
  }

  pub drain_is_begun : IsTrue (list_all (is_left tag) after) →
      IsBegun contents after (record { tag = tag; verb = Verb.Drain count })
  drain_is_begun left = record {
    on_channels =
        all_numbered (IsBegunOn contents (length after) (record { tag = tag; verb = Verb.Drain count })) after
        (λ i next is. record {
          rest = [];
          begins =
              subst (λ (steps : List CallStep). AreRefreshes (ladder_in contents next) steps)
              (sym (append-nil (steps_on tag next)))
              (are_refreshes i next is);
        });
    few = took_few;
    one_fault = one_fault;
    are_left = left;
  }
