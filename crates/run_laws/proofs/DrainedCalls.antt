-- A drain of a run is a serial drain, which takes its pages from the front of the queue; and what its steps tell on each channel
-- is what its reply tells there.
use Rattle.std.proofs.Common.{ℕ, ◌≡◌, ◌≢◌, ◌+◌, ◌*◌, ◌/◌, ◌%◌, ◌<◌, ◌==◌, Bool, true, false, List, [], ◌∷◌, ◌++◌, length, map, Some, refl, sym, ap, subst, ◌∙◌, inl, inr, arith, eqb-true, length-set}
use Rattle.std.specs.Prelude.{All, slice_get, slice_set, slice_index_or}
use Rattle.std.specs.List.{enumerate_from}
use Rattle.std.proofs.lemmas.Bool.{cases_eq, false_from_ne_true}
use Rattle.std.proofs.lemmas.List.Elements.{All-set}
use Rattle.std.proofs.lemmas.Option.{slice_get-get_or, slice_get_within, same_Some}
use Rattle.serial_laws.proofs.DrainedPages.{fault_is_last, one_drained}
use Rattle.serial_laws.proofs.Lists.{all_numbered, get_set_other, get_set_there}
use Rattle.serial_laws.proofs.MadeCalls.{HasNoSteps, own_steps}
use Rattle.serial_laws.proofs.MadeSteps.{steps_join}
use Rattle.ssd_geo.specs.Coding.{coding_of}
use Rattle.ssd_geo.specs.declared.entry.Entry.{Entry}
use Rattle.ssd_geo.specs.declared.reply.RefreshReply.{RefreshReply}
use Rattle.ssd_geo.specs.declared.reply.Reply.{Reply}
use Rattle.ssd_geo.specs.declared.tag.Tag.{Tag}
use Rattle.ssd_histories.specs.CallSteps.{CallStep, steps_of}
use Rattle.ssd_histories.specs.CallsInOrder.{ChannelRun, IsDrainReply, ladder_in, steps_on}
use Rattle.ssd_histories.specs.History.{open_looks}
use Rattle.ssd_histories.specs.Lawful.{IsLawful}
use Rattle.ssd_histories.specs.PastPages.{ladder_of}
use Rattle.ssd_histories.specs.Replies.{decided_pages, drained_on, is_die_fault, is_fault_last, pages_on}
use Rattle.ssd_histories.specs.SerialCalls.{AreStepsFrom}
use Rattle.ssd_histories.specs.SerialHistory.{DrainedRefresh, SerialDrain, faults as faults_last, finds_none as finds_no_hint, has_taken_all as took_all, takes as takes_one}
use Rattle.ssd_histories.specs.Start.{Start}
use Rattle.run_laws.specs.Runs.{runs_with}
use Rattle.run_laws.specs.ServedRuns.{DrainsTo, RefreshesOn, faults, finds_none, has_taken_all, served_with, takes}
use Rattle.run_laws.proofs.ChangedRuns.{run_at, run_parts, runs_as_many, runs_changed}
use Rattle.run_laws.proofs.MadeCalls.{run_of}
use Rattle.run_laws.proofs.RefreshedPasts.{refreshed_leaves_looks}
use Rattle.shared_lemmas.proofs.Lists.{all_at}
use Rattle.shared_lemmas.proofs.Tests.{same_number}

module _ (contents : List (Tag × List ℕ)) (starts : List Start) (tag : Tag) where
  -- one refresh of a drain
  module _ (page : ℕ) (reply : RefreshReply) (pasts after : List (List Entry))
      (one : RefreshesOn contents starts tag page reply pasts after) where
    runs_are : runs_with starts after ≡ slice_set (runs_with starts pasts) (page % length starts) (run_of one.start one.now)
    runs_are =
        ap (runs_with starts) one.after_is
        ∙ runs_changed starts pasts (page % length starts) one.start one.now one.has_start

    pub refresh_is_drained : (hints : List ℕ) (dropped : ℕ) (fault : Bool) → is_die_fault reply ≡ fault →
        DrainedRefresh contents (length starts) tag page (served_with starts pasts hints dropped)
        (served_with starts after hints dropped) fault
    refresh_is_drained hints dropped fault is = record {
      run = run_of one.start one.past;
      past = one.now;
      steps = one.was_refreshed.steps;
      is_there = run_at starts pasts (page % length starts) one.start one.past one.has_start one.has_past;
      are_steps = one.was_refreshed.are_steps;
      is_refresh = one.was_refreshed.is_refresh;
      fault_is = one.was_refreshed.fault_is ∙ is;
      after_is = λ i. record { channels = runs_are i; hints = hints; dropped = dropped };
    }

    -- what it keeps of one channel it keeps of all
    pub refresh_keeps : (P : ChannelRun → Type 0) →
        (P (run_of one.start one.past) → P (run_of one.start one.now)) → All P (runs_with starts pasts) →
        All P (runs_with starts after)
    refresh_keeps P keeps all =
        subst (All P) (sym runs_are)
        (All-set P (runs_with starts pasts) (page % length starts) (run_of one.start one.now)
        (keeps
        (all_at P (runs_with starts pasts) (page % length starts) (run_of one.start one.past) all
        (run_at starts pasts (page % length starts) one.start one.past one.has_start one.has_past))) all)

    pub refresh_is_lawful : All (λ (run : ChannelRun). IsLawful run.start contents run.past) (runs_with starts pasts) →
        All (λ (run : ChannelRun). IsLawful run.start contents run.past) (runs_with starts after)
    refresh_is_lawful = refresh_keeps (λ (run : ChannelRun). IsLawful run.start contents run.past) (λ held. one.is_lawful)

    pub refresh_leaves_looks : All (λ (run : ChannelRun). open_looks run.past ≡ []) (runs_with starts pasts) →
        All (λ (run : ChannelRun). open_looks run.past ≡ []) (runs_with starts after)
    refresh_leaves_looks =
        refresh_keeps (λ (run : ChannelRun). open_looks run.past ≡ [])
        (refreshed_leaves_looks one.start contents tag (page / length starts) one.past one.now reply one.was_refreshed)

    pub refresh_as_many : length after ≡ length pasts
    refresh_as_many =
        ap (λ (list : List (List Entry)). length list) one.after_is ∙ length-set pasts (page % length starts) one.now

  pub drain_is_serial : (dropped : ℕ) {count : ℕ} {drained : List (ℕ × RefreshReply)} {pasts after : List (List Entry)}
      {hints left : List ℕ} → DrainsTo contents starts tag count drained pasts hints after left →
      SerialDrain contents (length starts) tag count (map (λ (one : ℕ × RefreshReply). one.0) drained)
      (served_with starts pasts hints dropped) (served_with starts after left dropped)
  drain_is_serial dropped has_taken_all = took_all
  drain_is_serial dropped finds_none = finds_no_hint refl
  drain_is_serial dropped
      (takes {page = page} {reply = reply} {rest = rest} {pasts = pasts} {between = between} one none more) =
      takes_one refl (refresh_is_drained page reply pasts between one rest dropped false none) (drain_is_serial dropped more)
  drain_is_serial dropped (faults {page = page} {reply = reply} {rest = rest} {pasts = pasts} {after = after} one is) =
      faults_last refl (refresh_is_drained page reply pasts after one rest dropped true is)

  pub drain_is_lawful : {count : ℕ} {drained : List (ℕ × RefreshReply)} {pasts after : List (List Entry)}
      {hints left : List ℕ} → DrainsTo contents starts tag count drained pasts hints after left →
      All (λ (run : ChannelRun). IsLawful run.start contents run.past) (runs_with starts pasts) →
      All (λ (run : ChannelRun). IsLawful run.start contents run.past) (runs_with starts after)
  drain_is_lawful has_taken_all lawful = lawful
  drain_is_lawful finds_none lawful = lawful
  drain_is_lawful (takes {page = page} {reply = reply} {pasts = pasts} {between = between} one none more) lawful =
      drain_is_lawful more (refresh_is_lawful page reply pasts between one lawful)
  drain_is_lawful (faults {page = page} {reply = reply} {pasts = pasts} {after = after} one is) lawful =
      refresh_is_lawful page reply pasts after one lawful

  pub drain_as_many : {count : ℕ} {drained : List (ℕ × RefreshReply)} {pasts after : List (List Entry)} {hints left : List ℕ} →
      DrainsTo contents starts tag count drained pasts hints after left → length after ≡ length pasts
  drain_as_many has_taken_all = refl
  drain_as_many finds_none = refl
  drain_as_many (takes {page = page} {reply = reply} {pasts = pasts} {between = between} one none more) =
      drain_as_many more ∙ refresh_as_many page reply pasts between one
  drain_as_many (faults {page = page} {reply = reply} {pasts = pasts} {after = after} one is) =
      refresh_as_many page reply pasts after one

  pub drain_is_counted : {count : ℕ} {drained : List (ℕ × RefreshReply)} {pasts after : List (List Entry)}
      {hints left : List ℕ} → DrainsTo contents starts tag count drained pasts hints after left →
      length left + length drained ≡ length hints
  drain_is_counted has_taken_all = omega arith
  drain_is_counted finds_none = omega arith
  drain_is_counted (takes one none more) = let rest = drain_is_counted more in omega (arith, rest)
  drain_is_counted (faults one is) = omega arith

  faults_at_last : {count : ℕ} {drained : List (ℕ × RefreshReply)} {pasts after : List (List Entry)} {hints left : List ℕ} →
      DrainsTo contents starts tag count drained pasts hints after left → is_fault_last drained ≡ true
  faults_at_last has_taken_all = refl
  faults_at_last finds_none = refl
  faults_at_last (takes {page = page} {reply = reply} {drained = drained} one none more) =
      fault_is_last page reply drained none (faults_at_last more)
  faults_at_last (faults one is) = refl

  -- what the steps of a drain on one channel tell of these pages
  record IsDrainedOn (drained : List (ℕ × RefreshReply)) (channel : ℕ) (start : Start) (past now : List Entry) : Type 0 where
    steps : List CallStep
    are_steps : AreStepsFrom tag past steps now
    are_drained :
        drained_on (ladder_of (coding_of start.base) start contents) (length starts) channel steps
        ≡ decided_pages (pages_on (length starts) channel drained)

  abbrev AreDrainedOn : List (ℕ × RefreshReply) → List (List Entry) → List (List Entry) → Type 0
  AreDrainedOn drained pasts after =
      (channel : ℕ) (start : Start) (past now : List Entry) → slice_get starts channel ≡ Some start →
      slice_get pasts channel ≡ Some past → slice_get after channel ≡ Some now → IsDrainedOn drained channel start past now

  none_drained : (pasts : List (List Entry)) → AreDrainedOn [] pasts pasts
  none_drained pasts channel start past now begins had has = record {
    steps = [];
    are_steps = same_Some past now (sym had ∙ has);
    are_drained = refl;
  }

  module _ (page : ℕ) (reply : RefreshReply) (drained : List (ℕ × RefreshReply)) (pasts between after : List (List Entry))
      (one : RefreshesOn contents starts tag page reply pasts between) (rest : AreDrainedOn drained between after) where
    abbrev own_channel : ℕ
    own_channel = page % length starts

    page_is : page / length starts * length starts + own_channel ≡ page
    page_is =
        let within = slice_get_within starts own_channel one.start one.has_start in
        let positive : 0 < length starts = omega (arith, within) in
        omega arith

    on_own : (now : List Entry) → slice_get after own_channel ≡ Some now →
        IsDrainedOn ((page, reply) ∷ drained) own_channel one.start one.past now
    on_own now has =
        let there : slice_get between own_channel ≡ Some one.now =
        ap (λ (list : List (List Entry)). slice_get list own_channel) one.after_is
        ∙ get_set_there pasts own_channel one.past one.now one.has_past in
        let later : IsDrainedOn drained own_channel one.start one.now now =
        rest own_channel one.start one.now now one.has_start there has in
        let made = one.was_refreshed in
        record {
          steps = made.steps ++ later.steps;
          are_steps = steps_join tag one.past one.now now made.steps later.steps made.are_steps later.are_steps;
          are_drained =
              one_drained (ladder_of (coding_of one.start.base) one.start contents) (length starts) own_channel
              (page / length starts) made.steps later.steps reply made.is_refresh made.reply_is
              ∙ (λ i. (page_is i, Some reply) ∷ later.are_drained i)
              ∙ rw (same_number own_channel) refl;
        }

    elsewhere : (channel : ℕ) (start : Start) (past now : List Entry) → channel ≢ own_channel →
        slice_get starts channel ≡ Some start → slice_get pasts channel ≡ Some past → slice_get after channel ≡ Some now →
        IsDrainedOn ((page, reply) ∷ drained) channel start past now
    elsewhere channel start past now other begins had has =
        let there : slice_get between channel ≡ Some past =
        ap (λ (list : List (List Entry)). slice_get list channel) one.after_is
        ∙ get_set_other pasts channel own_channel one.now other ∙ had in
        let later : IsDrainedOn drained channel start past now = rest channel start past now begins there has in
        let differs : (own_channel == channel) ≡ false =
        false_from_ne_true (own_channel == channel) (λ e. other (sym (eqb-true own_channel channel e))) in
        record {
          steps = later.steps;
          are_steps = later.are_steps;
          are_drained = later.are_drained ∙ rw differs refl;
        }

    one_more_drained : AreDrainedOn ((page, reply) ∷ drained) pasts after
    one_more_drained channel start past now begins had has =
        elim (cases_eq channel own_channel) [
          | inl same ↦
              let starts_same : one.start ≡ start = same_Some one.start start
              (sym one.has_start ∙ ap (slice_get starts) (sym same) ∙ begins) in
              let pasts_same : one.past ≡ past = same_Some one.past past
              (sym one.has_past ∙ ap (slice_get pasts) (sym same) ∙ had) in
              let there : slice_get after own_channel ≡ Some now = ap (slice_get after) (sym same) ∙ has in
              subst (λ (number : ℕ). IsDrainedOn ((page, reply) ∷ drained) number start past now) (sym same)
              (subst (λ (begun : Start). IsDrainedOn ((page, reply) ∷ drained) own_channel begun past now) starts_same
              (subst (λ (older : List Entry). IsDrainedOn ((page, reply) ∷ drained) own_channel one.start older now) pasts_same
              (on_own now there)))
          | inr other ↦ elsewhere channel start past now other begins had has
        ]

  are_drained_on : {count : ℕ} {drained : List (ℕ × RefreshReply)} {pasts after : List (List Entry)} {hints left : List ℕ} →
      DrainsTo contents starts tag count drained pasts hints after left → AreDrainedOn drained pasts after
  are_drained_on (has_taken_all {pasts = pasts}) = none_drained pasts
  are_drained_on (finds_none {pasts = pasts}) = none_drained pasts
  are_drained_on (takes {page = page} {reply = reply} {drained = drained} {pasts = pasts} {between = between} {after = after}
      one none more) =
      one_more_drained page reply drained pasts between after one (are_drained_on more)
  are_drained_on (faults {page = page} {reply = reply} {pasts = pasts} {after = after} one is) =
      one_more_drained page reply [] pasts after after one (none_drained after)

  -- so the reply is that of the drain's entries, where it had none before
  module _ (count : ℕ) (drained : List (ℕ × RefreshReply)) (pasts after : List (List Entry)) (hints left : List ℕ)
      (many : length pasts ≡ length starts) (none : HasNoSteps tag (runs_with starts pasts))
      (drains : DrainsTo contents starts tag count drained pasts hints after left) where
    tells : (channel : ℕ) (run : ChannelRun) → slice_get (runs_with starts after) channel ≡ Some run →
        drained_on (ladder_in contents run) (length starts) channel (steps_on tag run)
        ≡ decided_pages (pages_on (length starts) channel drained)
    tells channel run is =
        let parts = run_parts starts after channel run is in
        let low : channel < length pasts =
        let within = slice_get_within starts channel run.start parts.0 in omega (arith, within, many) in
        let past : List Entry = slice_index_or pasts channel [] in
        let had : slice_get pasts channel ≡ Some past = slice_get-get_or pasts channel [] low in
        let one : IsDrainedOn drained channel run.start past run.past =
        are_drained_on drains channel run.start past run.past parts.0 had parts.1 in
        let no_step : steps_of tag past ≡ [] =
        all_at (λ (named : ChannelRun). steps_on tag named ≡ []) (runs_with starts pasts) channel (run_of run.start past) none
        (run_at starts pasts channel run.start past parts.0 had) in
        let are : steps_of tag run.past ≡ one.steps = own_steps tag past run.past one.steps no_step one.are_steps in
        ap (drained_on (ladder_in contents run) (length starts) channel) are ∙ one.are_drained

    pub drain_reply_is : IsDrainReply contents (runs_with starts after) tag (Reply.Drained drained)
    drain_reply_is =
        let as_many : length (runs_with starts after) ≡ length starts =
        runs_as_many starts after (drain_as_many drains ∙ many) in (
          subst (λ (channels : ℕ). All (λ item. drained_on (ladder_in contents item.1) channels item.0 (steps_on tag item.1)
              ≡ decided_pages (pages_on channels item.0 drained)) (enumerate_from 0 (runs_with starts after))) (sym as_many)
              (all_numbered (λ item. drained_on (ladder_in contents item.1) (length starts) item.0 (steps_on tag item.1)
              ≡ decided_pages (pages_on (length starts) item.0 drained)) (runs_with starts after) tells),
          faults_at_last drains,
        )
