-- While calls are served one after the other, each page holds what those so far left in it, and each read found it so.
use Rattle.std.proofs.Common.{ℕ, ◌≡◌, ◌≤◌, ◌/◌, ◌%◌, true, false, List, [], ◌∷◌, ◌++◌, length, Some, refl, sym, ap, subst, ◌∙◌, append_assoc, append-nil, arith, All}
use Rattle.std.specs.Prelude.{slice_get, ⊤}
use Rattle.std.specs.List.{list_all}
use Rattle.std.proofs.lemmas.Bool.{and_parts}
use Rattle.std.proofs.lemmas.List.Elements.{All-head, All-tail, All-weaker}
use Rattle.ssd_formats.specs.TraceText.{content_bytes, contents_of}
use Rattle.ssd_geo.specs.declared.entry.Entry.{Entry}
use Rattle.ssd_geo.specs.declared.reply.Reply.{Reply}
use Rattle.ssd_geo.specs.declared.tag.Tag.{Tag}
use Rattle.ssd_geo.specs.declared.trace.Content.{Content}
use Rattle.ssd_geo.specs.declared.trace.TraceCall.{TraceCall}
use Rattle.ssd_geo.specs.declared.trace.Verb.{Verb}
use Rattle.ssd_histories.specs.CallSteps.{CallStep, steps_of}
use Rattle.ssd_histories.specs.CallsInOrder.{AreCallSteps, AreNumberedAfter, ChannelRun, IsWhole, ladder_in, steps_on}
use Rattle.ssd_histories.specs.History.{is_same_tag}
use Rattle.ssd_histories.specs.PlainMap.{PlainRow, nothing, plain_of}
use Rattle.ssd_histories.specs.SerialHistory.{AreServed, SerialState, none_left, serves}
use Rattle.ssd_histories.specs.Start.{Start, data_of}
use Rattle.serial_laws.proofs.GrownPasts.{steps_stay}
use Rattle.serial_laws.proofs.Lists.{IsPairedAt, Pairwise, not_empty, paired_at, pairs_all, pairs_flip, same_first}
use Rattle.serial_laws.proofs.MadeCalls.{HasNoSteps, IsGrownRun}
use Rattle.serial_laws.proofs.MadeSteps.{IsGrownPast, one_more}
use Rattle.serial_laws.proofs.NumberedTags.{IsBelow, counts_in, later_tag, numbered_back, numbered_front, numbers_are_below, other_way}
use Rattle.serial_laws.proofs.ServedChains.{HoldsSoFar, none_so_far, serves_next}
use Rattle.serial_laws.proofs.ServedVerbs.{IsCallMade, call_is_made}
use Rattle.run_laws.proofs.TaggedData.{tags_give_data}
use Rattle.complete_runs.specs.TraceAnswers.{held_after, held_by, held_from}
use Rattle.complete_runs.proofs.FirstSteps.{steps_have}
use Rattle.complete_runs.proofs.PlainSteps.{call_leaves, plain_by, plain_grown}
use Rattle.complete_runs.proofs.ReadAnswers.{all_behind}
use Rattle.complete_runs.proofs.TakenWrites.{IsTaken, TakesAll}
use Rattle.shared_lemmas.proofs.Lists.{all_at, numbered_at}

-- what a page holds after one more call
held_more : (count page : ℕ) (held : PlainRow) (calls : List TraceCall) (call : TraceCall) →
    held_from count page held (calls ++ call ∷ []) ≡ held_after count page (held_from count page held calls) call.verb
held_more count page held [] call = refl
held_more count page held (first ∷ calls) call = held_more count page (held_after count page held first.verb) calls call

-- the first step that a call made since it had none has the past before them
push_isnt_empty : (steps : List CallStep) (step : CallStep) → steps ++ step ∷ [] ≡ [] → ⊥
push_isnt_empty [] step is = not_empty step [] is
push_isnt_empty (first ∷ steps) step is = not_empty first (steps ++ step ∷ []) is

module _ (tag : Tag) (before : List Entry) (none : steps_of tag before ≡ []) where
  first_step : (made : List Entry) → list_all (λ entry. is_same_tag tag entry.tag) made ≡ true → (look : CallStep) (rest : List CallStep) →
      steps_of tag (made ++ before) ≡ look ∷ rest → look.past ≡ before
  first_step [] own look rest is = absurd (not_empty look rest (sym is ∙ none))
  first_step (entry ∷ []) own look rest is =
      let parts = and_parts (is_same_tag tag entry.tag) true own in
      ap {B = List Entry} (λ (step : CallStep). step.past)
      (sym (same_first (record { past = before; entry = entry }) look [] rest
      (sym
      (one_more tag entry before parts.0 ∙ ap (λ (older : List CallStep). older ++ record { past = before; entry = entry } ∷ []) none)
      ∙ is)).0)
  first_step (entry ∷ next ∷ made) own look rest is =
      let parts = and_parts (is_same_tag tag entry.tag) (list_all (λ (other : Entry). is_same_tag tag other.tag) (next ∷ made)) own in
      let older = and_parts (is_same_tag tag next.tag) (list_all (λ (other : Entry). is_same_tag tag other.tag) made) parts.1 in
      by_older older.0 (steps_of tag (next ∷ made ++ before)) refl (first_step (next ∷ made) parts.1)
      (sym (one_more tag entry (next ∷ made ++ before) parts.0) ∙ is)
    where
      by_older : is_same_tag tag next.tag ≡ true → (older : List CallStep) → steps_of tag (next ∷ made ++ before) ≡ older →
          ((first : CallStep) (others : List CallStep) → steps_of tag (next ∷ made ++ before) ≡ first ∷ others → first.past ≡ before) →
          older ++ record { past = next ∷ made ++ before; entry = entry } ∷ [] ≡ look ∷ rest → look.past ≡ before
      by_older same [] are of_older whole =
          absurd (push_isnt_empty (steps_of tag (made ++ before)) (record { past = made ++ before; entry = next })
          (sym (one_more tag next (made ++ before) same) ∙ are))
      by_older same (first ∷ others) are of_older whole =
          ap {B = List Entry} (λ (step : CallStep). step.past)
          (sym (same_first first look (others ++ record { past = next ∷ made ++ before; entry = entry } ∷ []) rest whole).0)
          ∙ of_older first others are

  first_grown : (after : List Entry) → IsGrownPast tag before after → (look : CallStep) (rest : List CallStep) →
      steps_of tag after ≡ look ∷ rest → look.past ≡ before
  first_grown after grown look rest is =
      first_step grown.made grown.own look rest (ap (steps_of tag) (sym grown.after_is) ∙ is)

-- the entries that a channel takes it took before, too
pub taken_before : (tag : Tag) (before after : List ChannelRun) → Pairwise (IsGrownRun tag) before after → All TakesAll after → All TakesAll before
taken_before tag before after grown taken =
    pairs_all (λ (newer older : ChannelRun). IsGrownRun tag older newer) TakesAll TakesAll
    (λ newer older grew all.
    all_behind (λ (entry : Entry). IsTaken entry.kind) grew.grown.made older.past
    (subst (λ (past : List Entry). All (λ entry. IsTaken entry.kind) past) grew.grown.after_is all)) after before
    (pairs_flip (IsGrownRun tag) (λ (newer older : ChannelRun). IsGrownRun tag older newer) (λ older newer grew. grew) before after grown)
    taken

module _ (contents : List (Tag × List ℕ)) (count channels : ℕ) where
  -- each page of the channels holds what some calls left in it
  abbrev pub HoldPages : List TraceCall → List ChannelRun → Type 0
  HoldPages done runs =
      (page : ℕ) (run : ChannelRun) → slice_get runs (page % channels) ≡ Some run →
      plain_of run.start.base contents run.past (page / channels) ≡ held_by count done page

  -- a read found its page as the calls before it left it
  abbrev pub FoundHeld : List ChannelRun → List TraceCall → Tag → Verb → Type 0
  FoundHeld runs earlier tag (Verb.Read page) =
      (run : ChannelRun) (look : CallStep) (rest : List CallStep) → slice_get runs (page % channels) ≡ Some run →
      steps_on tag run ≡ look ∷ rest → plain_of run.start.base contents look.past (page / channels) ≡ held_by count earlier page
  FoundHeld runs earlier tag verb = ⊤

  abbrev pub AreFoundHeld : List ChannelRun → List TraceCall → List TraceCall → Type 0
  AreFoundHeld runs earlier [] = ⊤
  AreFoundHeld runs earlier (call ∷ calls) =
      FoundHeld runs earlier call.tag call.verb × AreFoundHeld runs (earlier ++ call ∷ []) calls

  found_more : (runs : List ChannelRun) (earlier calls : List TraceCall) (call : TraceCall) → AreFoundHeld runs earlier calls →
      FoundHeld runs (earlier ++ calls) call.tag call.verb → AreFoundHeld runs earlier (calls ++ call ∷ [])
  found_more runs earlier [] call all own =
      (subst (λ (list : List TraceCall). FoundHeld runs list call.tag call.verb) (append-nil earlier) own, tt)
  found_more runs earlier (first ∷ calls) call all own = (
    all.0,
    found_more runs (earlier ++ first ∷ []) calls call all.1
        (subst (λ (list : List TraceCall). FoundHeld runs list call.tag call.verb) (sym (append_assoc earlier (first ∷ []) calls)) own),
  )

  -- a call added its entries
  module _ (before after : List ChannelRun) (call : TraceCall) (grown : Pairwise (IsGrownRun call.tag) before after) where
    abbrev Paired : ℕ → ChannelRun → Type 0
    Paired i run = IsPairedAt (IsGrownRun call.tag) before i run

    pair : (i : ℕ) (run : ChannelRun) → slice_get after i ≡ Some run → Paired i run
    pair i run is = paired_at (IsGrownRun call.tag) before after i run grown is

    same_plain : (i : ℕ) (run : ChannelRun) (found : Paired i run) (past : List Entry) (row : ℕ) →
        plain_of run.start.base contents past row ≡ plain_of found.item.start.base contents past row
    same_plain i run found past row =
        ap {B = PlainRow} (λ (start : Start). plain_of start.base contents past row) found.goes.same_start

    -- what a call before it found stays so
    found_stays : (earlier : List TraceCall) (tag : Tag) (verb : Verb) → is_same_tag tag call.tag ≡ false → FoundHeld before earlier tag verb →
        FoundHeld after earlier tag verb
    found_stays earlier tag (Verb.Read page) differs held = λ run look rest is steps.
        let found : Paired (page % channels) run = pair (page % channels) run is in
        same_plain (page % channels) run found look.past (page / channels)
        ∙ held found.item look rest found.is_there (sym (steps_stay tag call.tag found.item.past run.past differs found.goes.grown) ∙ steps)
    found_stays earlier tag verb differs held = tt

    pub all_stay : (earlier calls : List TraceCall) → All (λ other. is_same_tag other.tag call.tag ≡ false) calls →
        AreFoundHeld before earlier calls → AreFoundHeld after earlier calls
    all_stay earlier [] differ held = tt
    all_stay earlier (first ∷ calls) differ held = (
      found_stays earlier first.tag first.verb (All-head (λ (other : TraceCall). is_same_tag other.tag call.tag ≡ false) first calls differ) held.0,
      all_stay (earlier ++ first ∷ []) calls (All-tail (λ (other : TraceCall). is_same_tag other.tag call.tag ≡ false) first calls differ) held.1,
    )

    -- and it is the next of some calls
    module _ (done : List TraceCall) (none : HasNoSteps call.tag before) (holds : HoldPages done before) where
      no_step : (i : ℕ) (run : ChannelRun) (found : Paired i run) → steps_of call.tag found.item.past ≡ []
      no_step i run found = all_at (λ (other : ChannelRun). steps_on call.tag other ≡ []) before i found.item none found.is_there

      pub pages_next : IsWhole contents after call → length after ≡ channels → All TakesAll after →
          ((named : ℕ) (content : Content) → call.verb ≡ Verb.Write named content → data_of contents call.tag ≡ content_bytes count content) →
          HoldPages (done ++ call ∷ []) after
      pages_next whole many taken gives page run is =
          let found : Paired (page % channels) run = pair (page % channels) run is in
          let of_verb : AreCallSteps contents channels call (page % channels, run) (steps_on call.tag run) =
          subst (λ (n : ℕ). AreCallSteps contents n call (page % channels, run) (steps_on call.tag run)) many
          (numbered_at (λ (item : ℕ × ChannelRun). AreCallSteps contents (length after) call item (steps_on call.tag item.1)) after
          (page % channels) run whole.on_channels is) in
          same_plain (page % channels) run found run.past (page / channels)
          ∙ plain_grown contents call.tag (page / channels) found.item.start.base found.item.past run.past found.goes.grown
          (no_step (page % channels) run found)
          ∙ ap {B = PlainRow} (λ (held : PlainRow). plain_by contents call.tag (page / channels) held (steps_on call.tag run))
          (holds page found.item found.is_there)
          ∙ call_leaves contents call.tag count (ladder_in contents run) run.start.base channels page (steps_on call.tag run)
          (held_by count done page) call.verb of_verb
          (steps_have IsTaken call.tag run.past (all_at TakesAll after (page % channels) run taken is)) gives
          ∙ sym (held_more count page nothing done call)

      own_found : (verb : Verb) → FoundHeld after done call.tag verb
      own_found (Verb.Read page) = λ run look rest is steps.
          let found : Paired (page % channels) run = pair (page % channels) run is in
          same_plain (page % channels) run found look.past (page / channels)
          ∙ ap {B = PlainRow} (λ (past : List Entry). plain_of found.item.start.base contents past (page / channels))
          (first_grown call.tag found.item.past (no_step (page % channels) run found) run.past found.goes.grown look rest steps)
          ∙ holds page found.item found.is_there
      own_found verb = tt

      pub found_next : All (λ other. is_same_tag other.tag call.tag ≡ false) done → AreFoundHeld before [] done →
          AreFoundHeld after [] (done ++ call ∷ [])
      found_next differ held = found_more after [] done call (all_stay [] done differ held) (own_found call.verb)

-- the data of a write of a trace
write_data : (actors count : ℕ) (done rest : List TraceCall) (call : TraceCall) → AreNumberedAfter actors [] (done ++ call ∷ rest) →
    (named : ℕ) (content : Content) → call.verb ≡ Verb.Write named content →
    data_of (contents_of count (done ++ call ∷ rest)) call.tag ≡ content_bytes count content
write_data actors count done rest call numbered named content is =
    let same : call ≡ record { tag = call.tag; verb = Verb.Write named content } = λ i. record { tag = call.tag; verb = is i } in
    ap (λ (one : TraceCall). data_of (contents_of count (done ++ one ∷ rest)) call.tag) same
    ∙ tags_give_data actors count done rest call.tag named content
    (subst (λ (one : TraceCall). AreNumberedAfter actors [] (done ++ one ∷ rest)) same numbered)

module _ (count actors channels : ℕ) (trace : List TraceCall) (whole_numbered : AreNumberedAfter actors [] trace) (replies : List (List Reply)) where
  -- the calls before a call have other tags, and it has no step yet
  below : (done rest : List TraceCall) (call : TraceCall) → AreNumberedAfter actors [] (done ++ call ∷ rest) →
      All (λ other. IsBelow (counts_in done) other.tag) done
  below done rest call numbered = numbers_are_below actors [] done (numbered_front actors [] done (call ∷ rest) numbered)

  late : (done rest : List TraceCall) (call : TraceCall) → AreNumberedAfter actors [] (done ++ call ∷ rest) →
      counts_in done call.tag.actor ≤ call.tag.call
  late done rest call numbered =
      let number = (numbered_back actors [] done (call ∷ rest) numbered).0.is_number in omega (arith, number)

  no_steps_yet : (done rest : List TraceCall) (before : SerialState) (call : TraceCall) → AreNumberedAfter actors [] (done ++ call ∷ rest) →
      HoldsSoFar (contents_of count trace) channels done before.channels → HasNoSteps call.tag before.channels
  no_steps_yet done rest before call numbered so_far =
      none_so_far done before.channels call.tag (below done rest call numbered) so_far.known (late done rest call numbered)

  pub others_differ : (done rest : List TraceCall) (call : TraceCall) → AreNumberedAfter actors [] (done ++ call ∷ rest) →
      All (λ other. is_same_tag other.tag call.tag ≡ false) done
  others_differ done rest call numbered =
      All-weaker (λ (other : TraceCall). IsBelow (counts_in done) other.tag) (λ (other : TraceCall). is_same_tag other.tag call.tag ≡ false)
      (λ other low. other_way call.tag other.tag (later_tag (counts_in done) call.tag other.tag (late done rest call numbered) low)) done
      (below done rest call numbered)

  -- what the channels took at the end they took before
  taken_back : (done : List TraceCall) {calls : List TraceCall} {before after : SerialState} →
      AreServed (contents_of count trace) replies channels calls before after → AreNumberedAfter actors [] (done ++ calls) →
      HoldsSoFar (contents_of count trace) channels done before.channels → All TakesAll after.channels → All TakesAll before.channels
  taken_back done none_left numbered so_far taken = taken
  taken_back done {before = before} {after = after} (serves {call = call} {calls = calls} {reply = reply} {between = between} is made rest) numbered so_far taken =
      let whole : IsCallMade (contents_of count trace) call before.channels between.channels =
      call_is_made (contents_of count trace) channels call.tag before so_far.as_many
      (no_steps_yet done calls before call numbered so_far) reply call.verb between made in
      taken_before call.tag before.channels between.channels whole.runs
      (taken_back (done ++ call ∷ []) rest
      (subst (λ list. AreNumberedAfter actors [] list) (sym (append_assoc done (call ∷ []) calls)) numbered)
      (serves_next (contents_of count trace) replies channels actors done calls before between call numbered so_far (λ none. whole)) taken)

  -- the calls that were served, with others left over after them
  pub all_found : (left done : List TraceCall) {calls : List TraceCall} {before after : SerialState} → trace ≡ (done ++ calls) ++ left →
      AreServed (contents_of count trace) replies channels calls before after → AreNumberedAfter actors [] (done ++ calls) →
      HoldsSoFar (contents_of count trace) channels done before.channels → HoldPages (contents_of count trace) count channels done before.channels →
      AreFoundHeld (contents_of count trace) count channels before.channels [] done → All TakesAll after.channels →
      AreFoundHeld (contents_of count trace) count channels after.channels [] (done ++ calls)
  all_found left done {before = before} are none_left numbered so_far holds found taken =
      subst (λ list. AreFoundHeld (contents_of count trace) count channels before.channels [] list) (sym (append-nil done)) found
  all_found left done {before = before} {after = after} are
      (serves {call = call} {calls = calls} {reply = reply} {between = between} is made rest) numbered so_far holds found taken =
      let none : HasNoSteps call.tag before.channels = no_steps_yet done calls before call numbered so_far in
      let whole : IsCallMade (contents_of count trace) call before.channels between.channels =
      call_is_made (contents_of count trace) channels call.tag before so_far.as_many none reply call.verb between made in
      let joined : (done ++ call ∷ []) ++ calls ≡ done ++ call ∷ calls = append_assoc done (call ∷ []) calls in
      let numbered_next : AreNumberedAfter actors [] ((done ++ call ∷ []) ++ calls) =
      subst (λ list. AreNumberedAfter actors [] list) (sym joined) numbered in
      let next : HoldsSoFar (contents_of count trace) channels (done ++ call ∷ []) between.channels =
      serves_next (contents_of count trace) replies channels actors done calls before between call numbered so_far (λ nothing_yet. whole) in
      let taken_here : All TakesAll between.channels = taken_back (done ++ call ∷ []) rest numbered_next next taken in
      let gives : (named : ℕ) (content : Content) → call.verb ≡ Verb.Write named content →
      data_of (contents_of count trace) call.tag ≡ content_bytes count content =
      λ named content verb.
      ap (λ (list : List TraceCall). data_of (contents_of count list) call.tag) (are ∙ append_assoc done (call ∷ calls) left)
      ∙ write_data actors count done (calls ++ left) call
      (subst (λ list. AreNumberedAfter actors [] list) (are ∙ append_assoc done (call ∷ calls) left) whole_numbered) named content verb in
      subst (λ list. AreFoundHeld (contents_of count trace) count channels after.channels [] list) joined
      (all_found left (done ++ call ∷ []) (are ∙ ap (λ (list : List TraceCall). list ++ left) (sym joined)) rest numbered_next next
      (pages_next (contents_of count trace) count channels before.channels between.channels call whole.runs done none holds whole.is_whole
      next.as_many taken_here gives)
      (found_next (contents_of count trace) count channels before.channels between.channels call whole.runs done none holds
      (others_differ done calls call numbered) found) taken)
