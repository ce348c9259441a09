-- The worked drains: those that are one call by call, and why the others are none.
use Rattle.std.proofs.Common.{ℕ, suc, ◌≡◌, ◌/◌, ◌%◌, ◌==◌, Bool, true, false, List, [], ◌∷◌, ◌++◌, map, reverse, take, drop, get_or, Some, refl, sym, ap, subst, ◌∙◌, inl, inr}
use Rattle.std.specs.Prelude.{◌⊎◌, Option, slice_get, unwrap_or}
use Rattle.std.proofs.lemmas.Bool.{false≢true}
use Rattle.ssd_histories.specs.CallSteps.{CallStep}
use Rattle.ssd_histories.specs.CallsInOrder.{ChannelRun, ladder_in}
use Rattle.ssd_histories.specs.Copies.{IsRefresh}
use Rattle.ssd_histories.specs.History.{past_of}
use Rattle.ssd_histories.specs.HistoryExamples.{AreWithinLimits, page, step, tag_of}
use Rattle.ssd_histories.specs.Rounds.{has_fault}
use Rattle.ssd_histories.specs.SerialCalls.{AreStepsFrom}
use Rattle.ssd_histories.specs.SerialHistory.{DrainedRefresh, SerialState, faults, finds_none, has_taken_all, takes, with_past, without_hint}
use Rattle.ssd_geo.specs.declared.entry.Entry.{Entry}
use Rattle.ssd_geo.specs.declared.kind.Kind.{Kind}
use Rattle.ssd_geo.specs.declared.row.Row.{Row}
use Rattle.ssd_geo.specs.declared.tag.Tag.{Tag}
use Rattle.past_examples.specs.DrainExamples.{IsDrain, IsNoDrain, empty_rows, failed_refresh, goes_on_after_fault, history_run, stops_at_fault, stops_early, takes_both, takes_newest, takes_one}
use Rattle.past_examples.specs.WorkedRuns.{channel_to, state_of, steps_in}
use Rattle.past_examples.proofs.Copying.{step_at}
use Rattle.past_examples.proofs.RefreshTests.{passes, refresh_passes}
use Rattle.past_examples.proofs.TakenHints.{GoesOn, IsTaken, entries_made, has_drained, steps_follow}

-- the channel of a history after its first entries
abbrev channel_at : List Entry → ℕ → AreWithinLimits → ChannelRun
channel_at history entries within = channel_to entries (history_run history) within

-- the refreshes of two empty rows
first_row : (within : AreWithinLimits) → DrainedRefresh [] 1 (tag_of 0 0) 1 (state_of (channel_at empty_rows 0 within) (2 ∷ [])) (state_of (channel_at empty_rows 1 within) (2 ∷ [])) false
first_row within = record {
  run = channel_at empty_rows 0 within;
  past = past_of (take 1 empty_rows);
  steps = take 1 (steps_in 0 (history_run empty_rows));
  is_there = refl;
  are_steps = (refl, refl, refl);
  is_refresh = inl refl;
  fault_is = refl;
  after_is = refl;
}

second_row : (within : AreWithinLimits) → DrainedRefresh [] 1 (tag_of 0 0) 2 (state_of (channel_at empty_rows 1 within) []) (state_of (channel_at empty_rows 2 within) []) false
second_row within = record {
  run = channel_at empty_rows 1 within;
  past = past_of empty_rows;
  steps = drop 1 (steps_in 0 (history_run empty_rows));
  is_there = refl;
  are_steps = (refl, refl, refl);
  is_refresh = inl refl;
  fault_is = refl;
  after_is = refl;
}

pub both_are_taken : IsDrain takes_both
both_are_taken within =
    takes {count = 3} {page = 1} {rest = 2 ∷ []} {between = state_of (channel_at empty_rows 1 within) (2 ∷ [])} refl (first_row within)
    (takes {count = 2} {page = 2} {rest = []} {between = state_of (channel_at empty_rows 2 within) []} refl (second_row within) (finds_none refl))

pub one_is_taken : IsDrain takes_one
one_is_taken within =
    takes {count = 0} {page = 1} {rest = 2 ∷ []} {between = state_of (channel_at empty_rows 1 within) (2 ∷ [])} refl (first_row within) has_taken_all

pub fault_stops : IsDrain stops_at_fault
fault_stops within =
    faults {count = 1} {page = 0} {rest = 1 ∷ []} refl
    (record {
      run = channel_at failed_refresh 1 within;
      past = past_of (take 4 failed_refresh);
      steps = take 3 (steps_in 1 (history_run failed_refresh));
      is_there = refl;
      are_steps = (refl, refl, (refl, refl, (refl, refl, refl)));
      is_refresh =
          inr
          (record {
            look = step_at 1 (history_run failed_refresh) 0;
            ending = step_at 1 (history_run failed_refresh) 1 ∷ [];
            leave = step_at 1 (history_run failed_refresh) 2;
            is_list = record { senses = []; are_steps = refl; finds_page = refl; are_senses = refl; is_left = refl };
            of_row = refl;
            ends = refl;
          });
      fault_is = refl;
      after_is = refl;
    })

-- a refresh on the one channel of a run
record IsRefreshedAlone (tag : Tag) (page : ℕ) (channel : ChannelRun) (rest : List ℕ) (between : SerialState) (fault : Bool) : Type 0 where
  past : List Entry
  steps : List CallStep
  are_steps : AreStepsFrom tag channel.past steps past
  is_refresh : IsRefresh (ladder_in [] channel) (page / 1) steps
  fault_is : has_fault steps ≡ fault
  after_is : between ≡ state_of (record { start = channel.start; past = past }) rest

refreshed_alone : (tag : Tag) (page : ℕ) (channel : ChannelRun) (rest : List ℕ) (between : SerialState) (fault : Bool) →
    page % 1 ≡ 0 → DrainedRefresh [] 1 tag page (state_of channel rest) between fault → IsRefreshedAlone tag page channel rest between fault
refreshed_alone tag page channel rest between fault at made =
    let there : slice_get (channel ∷ []) 0 ≡ Some made.run =
    subst (λ (n : ℕ). slice_get (channel ∷ []) n ≡ Some made.run) at made.is_there in
    let same : made.run ≡ channel = sym (ap (λ (run : Option ChannelRun). unwrap_or run channel) there) in record {
      past = made.past;
      steps = made.steps;
      are_steps = subst (λ (run : ChannelRun). AreStepsFrom tag run.past made.steps made.past) same made.are_steps;
      is_refresh = subst (λ (run : ChannelRun). IsRefresh (ladder_in [] run) (page / 1) made.steps) same made.is_refresh;
      fault_is = made.fault_is;
      after_is = made.after_is ∙ placed made.run same (page % 1) at made.past;
    }
  where
    placed : (run : ChannelRun) → run ≡ channel → (n : ℕ) → n ≡ 0 → (past : List Entry) →
        with_past n past run (state_of channel rest) ≡ state_of (record { start = channel.start; past = past }) rest
    placed run same n at past =
        ap (λ (n : ℕ). with_past n past run (state_of channel rest)) at
        ∙ ap (λ (run : ChannelRun). state_of (record { start = run.start; past = past }) rest) same

-- the past of a run's first channel
abbrev first_past : SerialState → List Entry
first_past state = elim state.channels [ [] ↦ [] | channel ∷ channels ↦ channel.past ]

-- whether a list has two items or more
abbrev is_long : List Entry → Bool
is_long [] = false
is_long (entry ∷ []) = false
is_long (entry ∷ next ∷ entries) = true

abbrev has_some : List ℕ → Bool
has_some [] = false
has_some (n ∷ ns) = true

-- the newest page isn't the first
pub newest_is_none : IsNoDrain takes_newest
newest_is_none within drain =
    let taken = has_drained [] 1 (tag_of 0 0) drain in
    false≢true (sym (ap (λ (pages : List ℕ). get_or pages 0 0 == 1) taken.hints_are))

-- steps that are just the look of an empty row have no fault
no_fault_in_look : (steps : List CallStep) → step 0 0 (Kind.Look 1 Row.Empty false) ∷ [] ≡ map (λ step. step.entry) steps →
    has_fault steps ≡ true → ⊥
no_fault_in_look [] e fault = false≢true fault
no_fault_in_look (s ∷ []) e fault =
    let entry : step 0 0 (Kind.Look 1 Row.Empty false) ≡ s.entry = ap (λ (entries : List Entry). get_or entries 0 (step 0 0 (Kind.Trim 0))) e in
    false≢true (subst (λ (entry : Entry). has_fault (record { past = s.past; entry = entry } ∷ []) ≡ true) (sym entry) fault)
no_fault_in_look (s ∷ t ∷ steps) e fault = false≢true (ap is_long e)

-- a drain stops before it has what it asked for only where no page waits or a call failed
pub early_is_none : IsNoDrain stops_early
early_is_none within drain =
    let taken = has_drained [] 1 (tag_of 0 0) drain in
    stopped taken.fault taken taken.is_refreshed taken.goes_on
  where
    stopped : (fault : Bool) → (taken : IsTaken [] 1 (tag_of 0 0) 2 1 [] (state_of (channel_at empty_rows 0 within) (1 ∷ 2 ∷ [])) (state_of (channel_at empty_rows 1 within) (2 ∷ [])))
        → DrainedRefresh [] 1 (tag_of 0 0) 1 (state_of (channel_at empty_rows 0 within) taken.rest) taken.between fault
        → GoesOn [] 1 (tag_of 0 0) fault taken.left [] taken.between (state_of (channel_at empty_rows 1 within) (2 ∷ [])) → ⊥
    stopped true taken refreshed goes =
        let alone = refreshed_alone (tag_of 0 0) 1 (channel_at empty_rows 0 within) taken.rest taken.between true refl refreshed in
        let past : past_of (take 1 empty_rows) ≡ alone.past = ap first_past (sym goes.1 ∙ alone.after_is) in
        no_fault_in_look alone.steps (ap reverse past ∙ entries_made (tag_of 0 0) [] alone.past alone.steps alone.are_steps) alone.fault_is
    stopped false taken refreshed goes =
        let alone = refreshed_alone (tag_of 0 0) 1 (channel_at empty_rows 0 within) taken.rest taken.between false refl refreshed in
        waiting (has_drained [] 1 (tag_of 0 0) goes).1
      where
        waiting : (taken.left ≡ 0) ⊎ (taken.between.hints ≡ []) → ⊥
        waiting (inl none) = false≢true (ap (λ (n : ℕ). n == 2) (ap suc (sym none) ∙ sym taken.count_is))
        waiting (inr none) =
            let rest : taken.rest ≡ [] = sym (ap (λ (state : SerialState). state.hints) (refreshed_alone (tag_of 0 0) 1 (channel_at empty_rows 0 within) taken.rest taken.between false refl refreshed).after_is) ∙ none in
            false≢true (ap has_some (sym (ap (drop 1) taken.hints_are ∙ rest)))

-- the steps of a refresh of row 0 without a fault don't begin with a look of a page and a failed sense
abbrev fault_entry : ℕ → Entry
fault_entry i = get_or failed_refresh i (step 0 0 (Kind.Trim 0))

no_refresh_before_fault : (channel : ChannelRun) (steps : List CallStep) (later : List Entry) →
    failed_refresh ≡ (fault_entry 0 ∷ map (λ step. step.entry) steps) ++ later →
    IsRefresh (ladder_in [] channel) 0 steps → has_fault steps ≡ false → ⊥
no_refresh_before_fault channel [] later e refresh fault = false≢true (refresh_passes (ladder_in [] channel) 0 [] refresh)
no_refresh_before_fault channel (s ∷ []) later e refresh fault =
    let entry : fault_entry 1 ≡ s.entry = ap (λ (entries : List Entry). get_or entries 1 (step 0 0 (Kind.Trim 0))) e in
    false≢true
    (subst (λ (entry : Entry). passes (ladder_in [] channel) 0 (record { past = s.past; entry = entry } ∷ []) ≡ true) (sym entry)
    (refresh_passes (ladder_in [] channel) 0 (s ∷ []) refresh))
no_refresh_before_fault channel (s ∷ t ∷ steps) later e refresh fault =
    let first : fault_entry 1 ≡ s.entry = ap (λ (entries : List Entry). get_or entries 1 (step 0 0 (Kind.Trim 0))) e in
    let second : fault_entry 2 ≡ t.entry = ap (λ (entries : List Entry). get_or entries 2 (step 0 0 (Kind.Trim 0))) e in
    let one : has_fault (record { past = s.past; entry = fault_entry 1 } ∷ t ∷ steps) ≡ false =
    subst (λ (entry : Entry). has_fault (record { past = s.past; entry = entry } ∷ t ∷ steps) ≡ false) (sym first) fault in
    false≢true
    (sym (subst (λ (entry : Entry). has_fault (record { past = s.past; entry = fault_entry 1 } ∷ record { past = t.past; entry = entry } ∷ steps) ≡ false) (sym second) one))

-- after a fault no page is taken
pub fault_is_last : IsNoDrain goes_on_after_fault
fault_is_last within drain =
    let taken = has_drained [] 1 (tag_of 0 1) drain in
    went_on taken.fault taken taken.is_refreshed taken.goes_on
  where
    ends : (fault : Bool) (left : ℕ) (between : SerialState) → GoesOn [] 1 (tag_of 0 1) fault left [] between (state_of (channel_at failed_refresh 5 within) [])
        → between ≡ state_of (channel_at failed_refresh 5 within) []
    ends true left between goes = goes.1
    ends false left between goes = (has_drained [] 1 (tag_of 0 1) goes).0

    went_on : (fault : Bool) → (taken : IsTaken [] 1 (tag_of 0 1) 2 0 (1 ∷ []) (state_of (channel_at failed_refresh 1 within) (0 ∷ 1 ∷ [])) (state_of (channel_at failed_refresh 5 within) []))
        → DrainedRefresh [] 1 (tag_of 0 1) 0 (state_of (channel_at failed_refresh 1 within) taken.rest) taken.between fault
        → GoesOn [] 1 (tag_of 0 1) fault taken.left (1 ∷ []) taken.between (state_of (channel_at failed_refresh 5 within) []) → ⊥
    went_on true taken refreshed goes = false≢true (ap has_some (sym goes.0))
    went_on false taken refreshed goes =
        let first = refreshed_alone (tag_of 0 1) 0 (channel_at failed_refresh 1 within) taken.rest taken.between false refl refreshed in
        let again = has_drained [] 1 (tag_of 0 1) goes in
        let channel : ChannelRun = record { start = (channel_at failed_refresh 1 within).start; past = first.past } in
        let moved : DrainedRefresh [] 1 (tag_of 0 1) 1 (state_of channel again.rest) again.between again.fault =
        subst (λ (state : SerialState). DrainedRefresh [] 1 (tag_of 0 1) 1 (without_hint again.rest state) again.between again.fault) first.after_is again.is_refreshed in
        let second = refreshed_alone (tag_of 0 1) 1 channel again.rest again.between again.fault refl moved in
        let past : past_of failed_refresh ≡ second.past =
        ap first_past (sym (ends again.fault again.left again.between again.goes_on) ∙ second.after_is) in
        no_refresh_before_fault (channel_at failed_refresh 1 within) first.steps (map (λ (s : CallStep). s.entry) second.steps)
        (ap reverse past ∙ steps_follow (tag_of 0 1) (past_of (take 1 failed_refresh)) first.past second.past first.steps second.steps first.are_steps second.are_steps)
        first.is_refresh first.fault_is
