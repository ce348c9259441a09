-- Two calls of one verb that are served alone over the same state, and choose alike, leave the same state; of drains the pages
-- that they took are the same too.
use Rattle.std.proofs.Common.{ℕ, suc, ◌≡◌, ◌%◌, ◌/◌, ◌==◌, Bool, true, false, ◌&&◌, List, [], ◌∷◌, Some, None, refl, sym, ap, subst, ◌∙◌, arith, eqb-true}
use Rattle.std.specs.Prelude.{All, IsTrue, slice_get}
use Rattle.std.proofs.lemmas.Bool.{and_parts, false≢true}
use Rattle.ssd_geo.specs.Coding.{coding_of}
use Rattle.ssd_geo.specs.Ladder.{LadderState}
use Rattle.ssd_histories.specs.CallSteps.{CallStep, failed_die}
use Rattle.ssd_histories.specs.CallsInOrder.{ChannelRun, is_age_of, is_trim_of, ladder_in}
use Rattle.ssd_histories.specs.Copies.{IsRead, IsRefresh}
use Rattle.ssd_histories.specs.Lawful.{IsLawful}
use Rattle.ssd_histories.specs.PastPages.{ladder_of}
use Rattle.ssd_histories.specs.Rounds.{has_fault, is_one}
use Rattle.ssd_histories.specs.SerialCalls.{AreStepsFrom, SerialCollect, SerialWrite, entry_of}
use Rattle.ssd_histories.specs.SerialHistory.{DrainedRefresh, HasForm, OnChannel, SerialCall, SerialDrain, SerialState, after_read, faults, finds_none, has_taken_all, pages_drained, takes, with_past, without_hint}
use Rattle.ssd_histories.specs.Standing.{IsStart}
use Rattle.ssd_histories.specs.Start.{Start}
use Rattle.ssd_histories.proofs.Histories.{lawful_before_last}
use Rattle.ssd_geo.specs.declared.base.ChannelBase.{ChannelBase}
use Rattle.ssd_geo.specs.declared.entry.Entry.{Entry}
use Rattle.ssd_geo.specs.declared.kind.Kind.{Kind}
use Rattle.ssd_geo.specs.declared.reply.Reply.{Reply}
use Rattle.ssd_geo.specs.declared.tag.Tag.{Tag}
use Rattle.ssd_geo.specs.declared.trace.Verb.{Verb}
use Rattle.recovery_laws.proofs.StartPages.{starts_have_named_pages}
use Rattle.serial_laws.specs.SerialReplies.{NamesPages}
use Rattle.serial_laws.proofs.Lists.{IsPairedAt, Pairwise, get_set_there, paired_at, pairs_flip, pairs_join, pairs_same, pairs_set}
use Rattle.serial_laws.proofs.ServedVerbs.{read_keeps}
use Rattle.serial_output.specs.OneOutput.{RunsChooseAlike}
use Rattle.serial_output.specs.SameChoices.{ComesTo}
use Rattle.serial_output.proofs.NextEntries.{AreAlike, AreRivals, comes_on, comes_to_itself, first_comes, first_step, rivals, same_failed, steps_are_one, steps_come}
use Rattle.serial_output.proofs.RowsApart.{RowsApart, rows_apart}
use Rattle.serial_output.proofs.SameLooks.{reads_same, refreshes_same}
use Rattle.serial_output.proofs.SameWrites.{collect_comes, collects_once, write_comes, writes_once}
use Rattle.std.proofs.lemmas.Option.{same_Some}
use Rattle.shared_lemmas.proofs.Lists.{all_at}

-- a channel came to a later past of the same start
pub record RunComesTo (run next : ChannelRun) : Type 0 where
  pub same_start : next.start ≡ run.start
  pub comes : ComesTo run.past next.past

pub run_itself : (run : ChannelRun) → RunComesTo run run
run_itself run = record { same_start = refl; comes = comes_to_itself run.past }

pub runs_come_on : (run between next : ChannelRun) → RunComesTo run between → RunComesTo between next → RunComesTo run next
runs_come_on run between next first second = record {
  same_start = second.same_start ∙ first.same_start;
  comes = comes_on run.past between.past next.past first.comes second.comes;
}

abbrev pub ChannelsCome : List ChannelRun → List ChannelRun → Type 0
ChannelsCome runs nexts = Pairwise RunComesTo runs nexts

pub channels_come_on : (runs betweens nexts : List ChannelRun) → ChannelsCome runs betweens → ChannelsCome betweens nexts →
    ChannelsCome runs nexts
channels_come_on runs betweens nexts first second =
    pairs_join RunComesTo RunComesTo RunComesTo runs_come_on runs betweens nexts first second

pub on_channel_comes : (channel : ℕ) (fact : ChannelRun → List Entry → List Entry → Type 0) (before after : SerialState) →
    (on : OnChannel channel fact before after) → ComesTo on.run.past on.past → ChannelsCome before.channels after.channels
on_channel_comes channel fact before after on comes =
    subst (ChannelsCome before.channels) (sym (ap (λ (state : SerialState). state.channels) on.after_is))
    (pairs_set RunComesTo run_itself before.channels channel on.run
    (record { start = on.run.start; past = on.past }) on.is_there
    (record { same_start = refl; comes = comes }))

-- each call comes on
module _ (contents : List (Tag × List ℕ)) (channels : ℕ) (tag : Tag) where
  form_comes : (form : ChannelRun → List CallStep → Type 0) (channel : ℕ) (before after : SerialState) →
      OnChannel channel (λ run. HasForm (form run) tag) before after → ChannelsCome before.channels after.channels
  form_comes form channel before after on =
      on_channel_comes channel (λ run. HasForm (form run) tag) before after on
      (steps_come tag on.run.past on.past on.holds.steps on.holds.are_steps)

  abbrev pub drained_on_channel : (page : ℕ) (before after : SerialState) (fault : Bool) →
      DrainedRefresh contents channels tag page before after fault →
      OnChannel (page % channels) (λ run. HasForm (IsRefresh (ladder_in contents run) (page / channels)) tag) before after
  drained_on_channel page before after fault one = record {
    run = one.run;
    past = one.past;
    is_there = one.is_there;
    holds = record { steps = one.steps; are_steps = one.are_steps; has_form = one.is_refresh };
    after_is = one.after_is;
  }

  pub drained_comes : (page : ℕ) (before after : SerialState) (fault : Bool) →
      DrainedRefresh contents channels tag page before after fault → ChannelsCome before.channels after.channels
  drained_comes page before after fault one =
      form_comes (λ run. IsRefresh (ladder_in contents run) (page / channels)) (page % channels) before after
      (drained_on_channel page before after fault one)

  pub drain_comes : {count : ℕ} {pages : List ℕ} {before after : SerialState} →
      SerialDrain contents channels tag count pages before after → ChannelsCome before.channels after.channels
  drain_comes {before = before} has_taken_all = pairs_same RunComesTo run_itself before.channels
  drain_comes {before = before} (finds_none none) = pairs_same RunComesTo run_itself before.channels
  drain_comes {before = before} {after = after} (takes {page = page} {rest = rest} {between = between} is one more) =
      channels_come_on before.channels between.channels after.channels
      (drained_comes page (without_hint rest before) between false one) (drain_comes more)
  drain_comes {before = before} {after = after} (faults {page = page} {rest = rest} is one) =
      drained_comes page (without_hint rest before) after true one

  -- how a drain goes on, with what is known of what comes after a refresh
  pub data DrainForm (ends : List ChannelRun) (count : ℕ) (pages : List ℕ) (before after : SerialState)
      (Rest : ℕ → List ℕ → SerialState → Type 0) : Type 0 where
    took_all : count ≡ 0 → pages ≡ [] → after ≡ before → DrainForm ends count pages before after Rest
    found_none : before.hints ≡ [] → pages ≡ [] → after ≡ before → DrainForm ends count pages before after Rest
    took : (less page : ℕ) (rest more : List ℕ) (between : SerialState) → count ≡ suc less → before.hints ≡ page ∷ rest →
        pages ≡ page ∷ more → DrainedRefresh contents channels tag page (without_hint rest before) between false →
        ChannelsCome between.channels ends → Rest less more between → DrainForm ends count pages before after Rest
    stopped : (less page : ℕ) (rest : List ℕ) → count ≡ suc less → before.hints ≡ page ∷ rest → pages ≡ page ∷ [] →
        DrainedRefresh contents channels tag page (without_hint rest before) after true →
        DrainForm ends count pages before after Rest

  pub drain_form : (ends : List ChannelRun) (count : ℕ) (pages : List ℕ) (before after : SerialState) →
      SerialDrain contents channels tag count pages before after → ChannelsCome after.channels ends →
      DrainForm ends count pages before after
      (λ less more between. SerialDrain contents channels tag less more between after)
  drain_form ends count pages before after has_taken_all comes = took_all refl refl refl
  drain_form ends count pages before after (finds_none none) comes = found_none none refl refl
  drain_form ends count pages before after
      (takes {count = less} {page = page} {rest = rest} {pages = more} {between = between} is one later) comes =
      took less page rest more between refl is refl one
      (channels_come_on between.channels after.channels ends (drain_comes later) comes) later
  drain_form ends count pages before after (faults {count = less} {page = page} {rest = rest} is one) comes =
      stopped less page rest refl is refl one

  pub call_comes : (reply : Reply) (verb : Verb) (before after : SerialState) →
      SerialCall contents channels tag reply verb before after → ChannelsCome before.channels after.channels
  call_comes reply (Verb.Write page content) before after on =
      on_channel_comes (page % channels)
      (λ run. SerialWrite (ladder_in contents run) run.start.base tag (page / channels)) before after on
      (write_comes (ladder_in contents on.run) on.run.start.base tag (page / channels) on.holds)
  call_comes reply (Verb.Read page) before after read =
      subst (ChannelsCome before.channels)
      (sym (ap (λ (state : SerialState). state.channels) read.after_is ∙ read_keeps contents channels tag page read.between))
      (form_comes (λ run. IsRead (ladder_in contents run) (page / channels)) (page % channels) before read.between read.reads)
  call_comes reply (Verb.Trim page) before after on =
      form_comes (λ run steps. IsTrue (is_one (is_trim_of (page / channels)) steps)) (page % channels) before after on
  call_comes reply (Verb.Refresh page) before after on =
      form_comes (λ run. IsRefresh (ladder_in contents run) (page / channels)) (page % channels) before after on
  call_comes reply (Verb.Collect channel) before after on =
      on_channel_comes channel (λ run. SerialCollect (ladder_in contents run) run.start.base tag) before after on
      (collect_comes (ladder_in contents on.run) on.run.start.base tag on.holds)
  call_comes reply (Verb.Drain count) before after drain = drain_comes drain
  call_comes reply (Verb.Age channel die sb amount) before after on =
      form_comes (λ run steps. IsTrue (is_one (is_age_of die sb amount) steps)) channel before after on

-- the one step of a list that passes a test
record IsOneStep (test : Kind → Bool) (steps : List CallStep) : Type 0 where
  step : CallStep
  are : steps ≡ step ∷ []
  passes : test step.entry.kind ≡ true

one_step_form : (test : Kind → Bool) (steps : List CallStep) → is_one test steps ≡ true → IsOneStep test steps
one_step_form test [] e = absurd (false≢true e)
one_step_form test (step ∷ []) e = record { step = step; are = refl; passes = e }
one_step_form test (step ∷ next ∷ steps) e = absurd (false≢true e)

trim_form : (row : ℕ) (kind : Kind) → is_trim_of row kind ≡ true → kind ≡ Kind.Trim row
trim_form row (Kind.Trim named) e = ap (λ (n : ℕ). Kind.Trim n) (eqb-true named row e)
trim_form row kind e = absurd (false≢true e)

-- the ageing of a block, done or failed
data IsAgeing (die sb amount : ℕ) (kind : Kind) : Type 0 where
  aged : kind ≡ Kind.Age die sb amount → IsAgeing die sb amount kind
  not_aged : kind ≡ Kind.FaultAge die sb amount → IsAgeing die sb amount kind

age_form : (die sb amount : ℕ) (kind : Kind) → is_age_of die sb amount kind ≡ true → IsAgeing die sb amount kind
age_form die sb amount (Kind.Age named block by) e =
    let two = and_parts (named == die && block == sb) (by == amount) e in
    let one = and_parts (named == die) (block == sb) two.0 in
    aged (λ i. Kind.Age (eqb-true named die one.0 i) (eqb-true block sb one.1 i) (eqb-true by amount two.1 i))
age_form die sb amount (Kind.FaultAge named block by) e =
    let two = and_parts (named == die && block == sb) (by == amount) e in
    let one = and_parts (named == die) (block == sb) two.0 in
    not_aged (λ i. Kind.FaultAge (eqb-true named die one.0 i) (eqb-true block sb one.1 i) (eqb-true by amount two.1 i))
age_form die sb amount kind e = absurd (false≢true e)

ages_once : (die sb amount : ℕ) (first second : Kind) → IsAgeing die sb amount first → IsAgeing die sb amount second →
    failed_die first ≡ failed_die second → first ≡ second
ages_once die sb amount first second (aged is) (aged is_too) same = is ∙ sym is_too
ages_once die sb amount first second (aged is) (not_aged is_too) same =
    let none : failed_die first ≡ None = ap failed_die is in
    let some : failed_die second ≡ Some die = ap failed_die is_too in
    absurd (cc)
ages_once die sb amount first second (not_aged is) (aged is_too) same =
    let some : failed_die first ≡ Some die = ap failed_die is in
    let none : failed_die second ≡ None = ap failed_die is_too in
    absurd (cc)
ages_once die sb amount first second (not_aged is) (not_aged is_too) same = is ∙ sym is_too

-- two calls of one step
module _ (ladder : List Entry → ℕ → LadderState) (base : ChannelBase) (tag : Tag) (one other : List Entry)
    (both : AreAlike ladder base one other) (test : Kind → Bool)
    (once : (first second : Kind) → test first ≡ true → test second ≡ true → failed_die first ≡ failed_die second →
    first ≡ second)
  where
    single_once : (before now then : List Entry) (steps others : List CallStep) → AreStepsFrom tag before steps now →
        AreStepsFrom tag before others then → is_one test steps ≡ true → is_one test others ≡ true → ComesTo now one →
        ComesTo then other → now ≡ then
    single_once before now then steps others made too is is_too comes goes =
        let f : IsOneStep test steps = one_step_form test steps is in
        let s : IsOneStep test others = one_step_form test others is_too in
        let first : AreStepsFrom tag before (f.step ∷ []) now = subst (λ xs. AreStepsFrom tag before xs now) f.are made in
        let second : AreStepsFrom tag before (s.step ∷ []) then = subst (λ xs. AreStepsFrom tag before xs then) s.are too in
        let meets : AreRivals (ladder before) base before tag f.step.entry.kind s.step.entry.kind =
        rivals ladder base tag one other both before f.step.entry.kind s.step.entry.kind
        (first_comes tag before f.step [] now one first comes) (first_comes tag before s.step [] then other second goes) in
        sym (first_step tag before f.step [] now first)
        ∙ ap (λ (kind : Kind). entry_of tag kind ∷ before)
        (once f.step.entry.kind s.step.entry.kind f.passes s.passes
        (same_failed f.step.entry.kind s.step.entry.kind meets.same_choice))
        ∙ first_step tag before s.step [] then second

-- a past of a channel is on the way to the one at the end
pub record IsOnTheWay (finals : List ChannelRun) (channel : ℕ) (start : Start) (past : List Entry) : Type 0 where
  pub final : List Entry
  pub is_there : slice_get finals channel ≡ Some (record { start = start; past = final })
  pub comes : ComesTo past final

pub on_the_way : (runs finals : List ChannelRun) (channel : ℕ) (run : ChannelRun) → ChannelsCome runs finals →
    slice_get runs channel ≡ Some run → IsOnTheWay finals channel run.start run.past
on_the_way runs finals channel run comes is =
    let found : IsPairedAt (λ (next older : ChannelRun). RunComesTo older next) finals channel run =
    paired_at (λ (next older : ChannelRun). RunComesTo older next) finals runs channel run
    (pairs_flip RunComesTo (λ (next older : ChannelRun). RunComesTo older next) (λ x y held. held) runs finals comes) is in
    record {
      final = found.item.past;
      is_there = found.is_there ∙ (λ i. Some (record { start = found.goes.same_start i; past = found.item.past }));
      comes = found.goes.comes;
    }

-- two calls on one channel left the same
pub record IsSameOn (run next : ChannelRun) (past then : List Entry) (after other : SerialState) : Type 0 where
  pub same_run : run ≡ next
  pub same_past : past ≡ then
  pub same_state : after ≡ other

-- two calls left the same state, and if they are drains they took the same pages
pub record IsSameCall (verb : Verb) (reply told : Reply) (after other : SerialState) : Type 0 where
  pub same_state : after ≡ other
  pub names : NamesPages verb reply told

pub cons_first : (x y : ℕ) (xs ys : List ℕ) → ◌≡◌ {A = List ℕ} (x ∷ xs) (y ∷ ys) → x ≡ y
cons_first x y xs ys e = cc

pub cons_rest : (x y : ℕ) (xs ys : List ℕ) → ◌≡◌ {A = List ℕ} (x ∷ xs) (y ∷ ys) → xs ≡ ys
cons_rest x y xs ys e = cc

pub nothing_or_hint : (page : ℕ) (hints rest : List ℕ) → hints ≡ [] → hints ≡ page ∷ rest → ⊥
nothing_or_hint page hints rest none some = absurd (cc)

module _ (contents : List (Tag × List ℕ)) (channels : ℕ) (finals others : List ChannelRun)
    (lawful : All (λ run. IsLawful run.start contents run.past) finals)
    (lawful_too : All (λ run. IsLawful run.start contents run.past) others)
    (starts : All (λ run. IsStart run.start) finals) (alike : RunsChooseAlike finals others) where
  abbrev pub ladder_at : Start → List Entry → ℕ → LadderState
  ladder_at start = ladder_of (coding_of start.base) start contents

  -- what is known of one channel
  module _ (channel : ℕ) (start : Start) (past then : List Entry) (first : IsOnTheWay finals channel start past)
      (second : IsOnTheWay others channel start then) where
    pub are_alike : AreAlike (ladder_at start) start.base first.final second.final
    are_alike = record {
      law = all_at (λ (run : ChannelRun). IsLawful run.start contents run.past) finals channel
          (record { start = start; past = first.final }) lawful first.is_there;
      too = all_at (λ (run : ChannelRun). IsLawful run.start contents run.past) others channel
          (record { start = start; past = second.final }) lawful_too second.is_there;
      alike = alike channel (record { start = start; past = first.final }) (record { start = start; past = second.final })
          first.is_there second.is_there;
    }

    is_start : IsStart start
    is_start =
        all_at (λ (run : ChannelRun). IsStart run.start) finals channel (record { start = start; past = first.final }) starts
        first.is_there

    apart_before : (final older : List Entry) → IsLawful start contents final → ComesTo older final → RowsApart start.base older
    apart_before final older law comes =
        let named = starts_have_named_pages start is_start in
        rows_apart (ladder_at start) start.base older is_start.rows_apart named.rows_name_used
        (lawful_before_last (ladder_at start) start.base comes.newer older
        (subst (λ (xs : List Entry). IsLawful start contents xs) comes.is law))

    pub are_apart : (older : List Entry) → ComesTo older first.final → RowsApart start.base older
    are_apart older comes = apart_before first.final older are_alike.law comes

    pub apart_too : (older : List Entry) → ComesTo older second.final → RowsApart start.base older
    apart_too older comes = apart_before second.final older are_alike.too comes

  -- a fact that holds between one past and just one other
  abbrev pub IsOnce : ℕ → (ChannelRun → List Entry → List Entry → Type 0) → Type 0
  IsOnce channel fact =
      (run : ChannelRun) (past then : List Entry) → fact run run.past past → fact run run.past then →
      IsOnTheWay finals channel run.start past → IsOnTheWay others channel run.start then → past ≡ then

  -- two facts of one channel, each between the past before and a past on the way
  pub record AreMet (channel : ℕ) (F G : ChannelRun → List Entry → List Entry → Type 0) (before after other : SerialState)
      (on : OnChannel channel F before after) (next : OnChannel channel G before other) : Type 0 where
    pub same_run : next.run ≡ on.run
    pub held : G on.run on.run.past next.past
    pub first : IsOnTheWay finals channel on.run.start on.past
    pub second : IsOnTheWay others channel on.run.start next.past

  pub meet : (channel : ℕ) (F G : ChannelRun → List Entry → List Entry → Type 0) (before after other : SerialState)
      (on : OnChannel channel F before after) (next : OnChannel channel G before other) → ChannelsCome after.channels finals →
      ChannelsCome other.channels others → AreMet channel F G before after other on next
  meet channel F G before after other on next comes goes =
      let runs : next.run ≡ on.run = same_Some next.run on.run (sym next.is_there ∙ on.is_there) in
      let here : slice_get after.channels channel ≡ Some (record { start = on.run.start; past = on.past }) =
      ap (λ (state : SerialState). slice_get state.channels channel) on.after_is
      ∙ get_set_there before.channels channel on.run (record { start = on.run.start; past = on.past }) on.is_there in
      let there : slice_get other.channels channel ≡ Some (record { start = next.run.start; past = next.past }) =
      ap (λ (state : SerialState). slice_get state.channels channel) next.after_is
      ∙ get_set_there before.channels channel next.run (record { start = next.run.start; past = next.past }) next.is_there in
      let second : IsOnTheWay others channel next.run.start next.past =
      on_the_way other.channels others channel (record { start = next.run.start; past = next.past }) goes there in
      record {
        same_run = runs;
        held = subst (λ (run : ChannelRun). G run run.past next.past) runs next.holds;
        first = on_the_way after.channels finals channel (record { start = on.run.start; past = on.past }) comes here;
        second = subst (λ (run : ChannelRun). IsOnTheWay others channel run.start next.past) runs second;
      }

  pub on_channel_once : (channel : ℕ) (fact : ChannelRun → List Entry → List Entry → Type 0) → IsOnce channel fact →
      (before after other : SerialState) (on : OnChannel channel fact before after)
      (next : OnChannel channel fact before other) →
      ChannelsCome after.channels finals → ChannelsCome other.channels others →
      IsSameOn on.run next.run on.past next.past after other
  on_channel_once channel fact once before after other on next comes goes =
      let met : AreMet channel fact fact before after other on next =
      meet channel fact fact before after other on next comes goes in
      let pasts : on.past ≡ next.past = once on.run on.past next.past on.holds met.held met.first met.second in
      record {
        same_run = sym met.same_run;
        same_past = pasts;
        same_state =
            on.after_is ∙ (λ i. with_past channel (pasts i) (sym met.same_run i) before) ∙ sym next.after_is;
      }

  module _ (tag : Tag) where
    reads_once : (page channel : ℕ) → IsOnce channel (λ run. HasForm (IsRead (ladder_in contents run) (page / channels)) tag)
    reads_once page channel run past then form form_too first second =
        reads_same (ladder_at run.start) run.start.base tag first.final second.final
        (are_alike channel run.start past then first second) run.past past then form.steps form_too.steps form.are_steps
        form_too.are_steps first.comes second.comes (page / channels) form.has_form form_too.has_form

    refreshes_once : (page channel : ℕ) →
        IsOnce channel (λ run. HasForm (IsRefresh (ladder_in contents run) (page / channels)) tag)
    refreshes_once page channel run past then form form_too first second =
        refreshes_same (ladder_at run.start) run.start.base tag first.final second.final
        (are_alike channel run.start past then first second) run.past past then form.steps form_too.steps form.are_steps
        form_too.are_steps first.comes second.comes (page / channels) form.has_form form_too.has_form

    singles_once : (channel : ℕ) (test : Kind → Bool) → ((first second : Kind) → test first ≡ true → test second ≡ true →
        failed_die first ≡ failed_die second → first ≡ second) →
        IsOnce channel (λ run. HasForm (λ steps. IsTrue (is_one test steps)) tag)
    singles_once channel test once run past then form form_too first second =
        single_once (ladder_at run.start) run.start.base tag first.final second.final
        (are_alike channel run.start past then first second) test once run.past past then form.steps form_too.steps
        form.are_steps form_too.are_steps form.has_form form_too.has_form first.comes second.comes

    channel_writes_once : (page channel : ℕ) →
        IsOnce channel (λ run. SerialWrite (ladder_in contents run) run.start.base tag (page / channels))
    channel_writes_once page channel run past then write write_too first second =
        writes_once (ladder_at run.start) run.start.base tag first.final second.final
        (are_alike channel run.start past then first second) (are_apart channel run.start past then first second)
        (page / channels) write then write_too first.comes second.comes

    channel_collects_once : (channel : ℕ) → IsOnce channel (λ run. SerialCollect (ladder_in contents run) run.start.base tag)
    channel_collects_once channel run past then collect collect_too first second =
        collects_once (ladder_at run.start) run.start.base tag first.final second.final
        (are_alike channel run.start past then first second) (are_apart channel run.start past then first second)
        collect then collect_too first.comes second.comes

    -- a refresh of a drain
    pub record IsSameRefresh (after other : SerialState) (fault fault_too : Bool) : Type 0 where
      pub same_state : after ≡ other
      pub same_fault : fault ≡ fault_too

    refresh_once : (page : ℕ) (before after other : SerialState) (fault fault_too : Bool) →
        DrainedRefresh contents channels tag page before after fault →
        DrainedRefresh contents channels tag page before other fault_too → ChannelsCome after.channels finals →
        ChannelsCome other.channels others → IsSameRefresh after other fault fault_too
    refresh_once page before after other fault fault_too one next comes goes =
        let same : IsSameOn one.run next.run one.past next.past after other =
        on_channel_once (page % channels) (λ run. HasForm (IsRefresh (ladder_in contents run) (page / channels)) tag)
        (refreshes_once page (page % channels)) before after other
        (drained_on_channel contents channels tag page before after fault one)
        (drained_on_channel contents channels tag page before other fault_too next) comes goes in
        let begun : one.run.past ≡ next.run.past = ap (λ (run : ChannelRun). run.past) same.same_run in
        let steps : one.steps ≡ next.steps =
        steps_are_one tag next.run.past next.past one.steps next.steps
        (subst (λ (past : List Entry). AreStepsFrom tag next.run.past one.steps past) same.same_past
        (subst (λ (past : List Entry). AreStepsFrom tag past one.steps one.past) begun one.are_steps)) next.are_steps in
        record {
          same_state = same.same_state;
          same_fault = sym one.fault_is ∙ ap has_fault steps ∙ next.fault_is;
        }

    -- both take the same page first
    pub same_taken : (before : SerialState) (page named : ℕ) (rest left_over : List ℕ) (between then : SerialState)
        (fault fault_too : Bool) →
        before.hints ≡ page ∷ rest → before.hints ≡ named ∷ left_over →
        DrainedRefresh contents channels tag page (without_hint rest before) between fault →
        DrainedRefresh contents channels tag named (without_hint left_over before) then fault_too →
        ChannelsCome between.channels finals → ChannelsCome then.channels others → IsSameRefresh between then fault fault_too
    same_taken before page named rest left_over between then fault fault_too is is_too one next came went =
        let e : ◌≡◌ {A = List ℕ} (named ∷ left_over) (page ∷ rest) = sym is_too ∙ is in
        let firsts : named ≡ page = cons_first named page left_over rest e in
        let rests : left_over ≡ rest = cons_rest named page left_over rest e in
        refresh_once page (without_hint rest before) between then fault fault_too one
        (subst (λ (n : ℕ). DrainedRefresh contents channels tag n (without_hint rest before) then fault_too) firsts
        (subst (λ (xs : List ℕ). DrainedRefresh contents channels tag named
        (without_hint xs before) then fault_too) rests next))
        came went

    -- two drains left the same state and took the same pages
    record IsSameDrain (pages told : List ℕ) (after other : SerialState) : Type 0 where
      same_state : after ≡ other
      same_pages : pages ≡ told

    module _ (count : ℕ) (pages told : List ℕ) (before after other : SerialState) (comes : ChannelsCome after.channels finals)
        (goes : ChannelsCome other.channels others) where
      abbrev Later : ℕ → List ℕ → SerialState → Type 0
      Later less more between =
          (named : List ℕ) (then : SerialState) → SerialDrain contents channels tag less named between then →
          ChannelsCome then.channels others → IsSameDrain more named after then

      abbrev Second : Type 0
      Second =
          DrainForm contents channels tag others count told before other
          (λ less more between. SerialDrain contents channels tag less more between other)

      unmoved : pages ≡ [] → told ≡ [] → after ≡ before → other ≡ before → IsSameDrain pages told after other
      unmoved none none_too is is_too = record { same_state = is ∙ sym is_too; same_pages = none ∙ sym none_too }

      zero_or_more : (less : ℕ) → count ≡ 0 → count ≡ suc less → ⊥
      zero_or_more less none some = absurd (omega (arith, none, some))

      drain_forms_same : DrainForm contents channels tag finals count pages before after Later → Second →
          IsSameDrain pages told after other
      drain_forms_same (took_all none no_page is) (took_all none_too no_page_too is_too) = unmoved no_page no_page_too is is_too
      drain_forms_same (took_all none no_page is) (found_none empty no_page_too is_too) = unmoved no_page no_page_too is is_too
      drain_forms_same (took_all none no_page is) (took less page rest more between some hint are one went later) =
          absurd (zero_or_more less none some)
      drain_forms_same (took_all none no_page is) (stopped less page rest some hint are one) =
          absurd (zero_or_more less none some)
      drain_forms_same (found_none empty no_page is) (took_all none no_page_too is_too) = unmoved no_page no_page_too is is_too
      drain_forms_same (found_none empty no_page is) (found_none empty_too no_page_too is_too) =
          unmoved no_page no_page_too is is_too
      drain_forms_same (found_none empty no_page is) (took less page rest more between some hint are one went later) =
          absurd (nothing_or_hint page before.hints rest empty hint)
      drain_forms_same (found_none empty no_page is) (stopped less page rest some hint are one) =
          absurd (nothing_or_hint page before.hints rest empty hint)
      drain_forms_same (took less page rest more between some hint are one came later) (took_all none no_page is) =
          absurd (zero_or_more less none some)
      drain_forms_same (took less page rest more between some hint are one came later) (found_none empty no_page is) =
          absurd (nothing_or_hint page before.hints rest empty hint)
      drain_forms_same (took less page rest more between some hint are one came later)
          (took fewer named left_over named_more then some_too hint_too are_too next went rest_too) =
          let same : IsSameRefresh between then false false =
          same_taken before page named rest left_over between then false false hint hint_too one next came went in
          let counts : fewer ≡ less = omega (arith, some, some_too) in
          let firsts : page ≡ named = cons_first page named rest left_over (sym hint ∙ hint_too) in
          let moved : SerialDrain contents channels tag less named_more between other =
          subst (λ (state : SerialState). SerialDrain contents channels tag less named_more state other) (sym same.same_state)
          (subst (λ (n : ℕ). SerialDrain contents channels tag n named_more then other) counts rest_too) in
          let last : IsSameDrain more named_more after other = later named_more other moved goes in
          record {
            same_state = last.same_state;
            same_pages = are ∙ (λ i. firsts i ∷ last.same_pages i) ∙ sym are_too;
          }
      drain_forms_same (took less page rest more between some hint are one came later)
          (stopped fewer named left_over some_too hint_too are_too next) =
          absurd (false≢true
          (same_taken before page named rest left_over between other false true hint hint_too one next came goes).same_fault)
      drain_forms_same (stopped less page rest some hint are one) (took_all none no_page is) =
          absurd (zero_or_more less none some)
      drain_forms_same (stopped less page rest some hint are one) (found_none empty no_page is) =
          absurd (nothing_or_hint page before.hints rest empty hint)
      drain_forms_same (stopped less page rest some hint are one)
          (took fewer named left_over named_more then some_too hint_too are_too next went rest_too) =
          absurd (false≢true
          (sym
          (same_taken before page named rest left_over after then true false hint hint_too one next comes went).same_fault))
      drain_forms_same (stopped less page rest some hint are one)
          (stopped fewer named left_over some_too hint_too are_too next) =
          let same : IsSameRefresh after other true true =
          same_taken before page named rest left_over after other true true hint hint_too one next comes goes in
          let firsts : page ≡ named = cons_first page named rest left_over (sym hint ∙ hint_too) in
          record { same_state = same.same_state; same_pages = are ∙ ap (λ (n : ℕ). n ∷ []) firsts ∙ sym are_too }

    drains_once : {count : ℕ} {pages : List ℕ} {before after : SerialState} →
        SerialDrain contents channels tag count pages before after → (told : List ℕ) (other : SerialState) →
        SerialDrain contents channels tag count told before other → ChannelsCome after.channels finals →
        ChannelsCome other.channels others → IsSameDrain pages told after other
    drains_once {count} {pages} {before} {after} has_taken_all told other second comes goes =
        drain_forms_same count pages told before after other comes goes (took_all refl refl refl)
        (drain_form contents channels tag others count told before other second goes)
    drains_once {count} {pages} {before} {after} (finds_none none) told other second comes goes =
        drain_forms_same count pages told before after other comes goes (found_none none refl refl)
        (drain_form contents channels tag others count told before other second goes)
    drains_once {count} {pages} {before} {after}
        (takes {count = less} {page = page} {rest = rest} {pages = more} {between = between} is one later) told other second
        comes goes =
        drain_forms_same count pages told before after other comes goes
        (took less page rest more between refl is refl one
        (channels_come_on between.channels after.channels finals (drain_comes contents channels tag later) comes)
        (λ named then rest_too went. drains_once later named then rest_too comes went))
        (drain_form contents channels tag others count told before other second goes)
    drains_once {count} {pages} {before} {after} (faults {count = less} {page = page} {rest = rest} is one) told other second
        comes goes =
        drain_forms_same count pages told before after other comes goes (stopped less page rest refl is refl one)
        (drain_form contents channels tag others count told before other second goes)

    -- a call of any verb
    pub calls_once : (reply told : Reply) (verb : Verb) (before after other : SerialState) →
        SerialCall contents channels tag reply verb before after → SerialCall contents channels tag told verb before other →
        ChannelsCome after.channels finals → ChannelsCome other.channels others → IsSameCall verb reply told after other
    calls_once reply told (Verb.Write page content) before after other on next comes goes = record {
      same_state = (on_channel_once (page % channels)
          (λ run. SerialWrite (ladder_in contents run) run.start.base tag (page / channels))
          (channel_writes_once page (page % channels)) before after other on next comes goes).same_state;
      names = tt;
    }
    calls_once reply told (Verb.Read page) before after other on next comes goes =
        let here : after.channels ≡ on.between.channels =
        ap (λ (state : SerialState). state.channels) on.after_is ∙ read_keeps contents channels tag page on.between in
        let there : other.channels ≡ next.between.channels =
        ap (λ (state : SerialState). state.channels) next.after_is ∙ read_keeps contents channels tag page next.between in
        let same : IsSameOn on.reads.run next.reads.run on.reads.past next.reads.past on.between next.between =
        on_channel_once (page % channels) (λ run. HasForm (IsRead (ladder_in contents run) (page / channels)) tag)
        (reads_once page (page % channels)) before on.between next.between on.reads next.reads
        (subst (λ (runs : List ChannelRun). ChannelsCome runs finals) here comes)
        (subst (λ (runs : List ChannelRun). ChannelsCome runs others) there goes) in
        record {
          same_state =
              on.after_is ∙ ap (after_read contents channels tag page) same.same_state ∙ sym next.after_is;
          names = tt;
        }
    calls_once reply told (Verb.Trim page) before after other on next comes goes = record {
      same_state = (on_channel_once (page % channels)
          (λ run. HasForm (λ steps. IsTrue (is_one (is_trim_of (page / channels)) steps)) tag)
          (singles_once (page % channels) (is_trim_of (page / channels))
          (λ first second one two same. trim_form (page / channels) first one ∙ sym (trim_form (page / channels) second two)))
          before after other on next comes goes).same_state;
      names = tt;
    }
    calls_once reply told (Verb.Refresh page) before after other on next comes goes = record {
      same_state = (on_channel_once (page % channels)
          (λ run. HasForm (IsRefresh (ladder_in contents run) (page / channels)) tag)
          (refreshes_once page (page % channels)) before after other on next comes goes).same_state;
      names = tt;
    }
    calls_once reply told (Verb.Collect channel) before after other on next comes goes = record {
      same_state = (on_channel_once channel (λ run. SerialCollect (ladder_in contents run) run.start.base tag)
          (channel_collects_once channel) before after other on next comes goes).same_state;
      names = tt;
    }
    calls_once reply told (Verb.Drain count) before after other on next comes goes =
        let same : IsSameDrain (pages_drained reply) (pages_drained told) after other =
        drains_once on (pages_drained told) other next comes goes in
        record { same_state = same.same_state; names = sym same.same_pages }
    calls_once reply told (Verb.Age channel die sb amount) before after other on next comes goes = record {
      same_state = (on_channel_once channel (λ run. HasForm (λ steps. IsTrue (is_one (is_age_of die sb amount) steps)) tag)
          (singles_once channel (is_age_of die sb amount)
          (λ first second one two same.
          ages_once die sb amount first second (age_form die sb amount first one) (age_form die sb amount second two) same))
          before after other on next comes goes).same_state;
      names = tt;
    }
