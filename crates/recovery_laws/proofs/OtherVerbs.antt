-- Calls of other verbs than a write have no entry of kind Write.
use Rattle.std.proofs.Common.{◌≡◌, ℕ, ◌&&◌, ◌||◌, ◌==◌, ◌/◌, ◌%◌, Bool, true, false, List, [], ◌∷◌, ◌++◌, refl, sym, subst, inl, inr, arith, All}
use Rattle.std.specs.Prelude.{◌⊎◌, IsTrue, flat_map, ⊤}
use Rattle.std.proofs.lemmas.Bool.{and_parts}
use Rattle.std.proofs.lemmas.List.Concat.{flat_map-cons}
use Rattle.std.proofs.lemmas.List.Elements.{All-append, All-cons, All-head, All-nil, All-tail}
use Rattle.ssd_geo.specs.Ladder.{LadderState, is_recovered, is_uncorrectable}
use Rattle.ssd_geo.specs.declared.base.ChannelBase.{ChannelBase}
use Rattle.ssd_geo.specs.declared.entry.Entry.{Entry}
use Rattle.ssd_geo.specs.declared.kind.Kind.{Kind}
use Rattle.ssd_geo.specs.declared.trace.Verb.{Verb}
use Rattle.ssd_histories.specs.CallSteps.{CallStep, is_erase_or_bad_erase, is_leave_of, is_look_at_row, is_look_of_none, is_look_of_page, is_pick, is_sense_of, position_of}
use Rattle.ssd_histories.specs.CallsInOrder.{AreRefreshes, AreStepsOf, IsSomeRefresh, OnOwnChannel, is_age_of, is_trim_of}
use Rattle.ssd_histories.specs.Copies.{IsCopy, IsPageList, IsRead, IsRefresh, is_copy_end, is_lone_look, is_read_end, is_refresh_end, is_refreshed}
use Rattle.ssd_histories.specs.Lawful.{is_fault_sense_of}
use Rattle.ssd_histories.specs.Rounds.{IsCollect, IsDoneRound, IsIdleRound, IsLeftRound, IsRound, IsVictimCopy, is_at_most_one, is_idle_note, is_note, is_one}
use Rattle.recovery_laws.proofs.LookLists.{each_of_end, each_of_look}

abbrev pub is_write : Kind → Bool
is_write (Kind.Write row slot) = true
is_write kind = false

abbrev pub WritesNone : CallStep → Type 0
WritesNone step = is_write step.entry.kind ≡ false

-- what a step of a call may be, by the call's verb
abbrev pub MayWrite : Verb → CallStep → Type 0
MayWrite (Verb.Write page content) step = ⊤
MayWrite verb step = WritesNone step

-- kinds that are none
look_isnt : (kind : Kind) → is_look_of_page kind ≡ true → is_write kind ≡ false
look_isnt (Kind.Write row slot) is = absurd (cc)
look_isnt kind is = refl

none_isnt : (kind : Kind) → is_look_of_none kind ≡ true → is_write kind ≡ false
none_isnt (Kind.Write row slot) is = absurd (cc)
none_isnt kind is = refl

sense_isnt : (at : ℕ) (kind : Kind) → is_sense_of at kind ≡ true → is_write kind ≡ false
sense_isnt at (Kind.Write row slot) is = absurd (cc)
sense_isnt at kind is = refl

fault_isnt : (at : ℕ) (kind : Kind) → is_fault_sense_of at kind ≡ true → is_write kind ≡ false
fault_isnt at (Kind.Write row slot) is = absurd (cc)
fault_isnt at kind is = refl

leave_isnt : (at : ℕ) (kind : Kind) → is_leave_of at kind ≡ true → is_write kind ≡ false
leave_isnt at (Kind.Write row slot) is = absurd (cc)
leave_isnt at kind is = refl

pick_isnt : (kind : Kind) → is_pick kind ≡ true → is_write kind ≡ false
pick_isnt (Kind.Write row slot) is = absurd (cc)
pick_isnt kind is = refl

erase_isnt : (kind : Kind) → is_erase_or_bad_erase kind ≡ true → is_write kind ≡ false
erase_isnt (Kind.Write row slot) is = absurd (cc)
erase_isnt kind is = refl

note_isnt : (kind : Kind) → is_note kind ≡ true → is_write kind ≡ false
note_isnt (Kind.Write row slot) is = absurd (cc)
note_isnt kind is = refl

idle_isnt : (kind : Kind) → is_idle_note kind ≡ true → is_write kind ≡ false
idle_isnt (Kind.Write row slot) is = absurd (cc)
idle_isnt kind is = refl

trim_isnt : (row : ℕ) (kind : Kind) → is_trim_of row kind ≡ true → is_write kind ≡ false
trim_isnt row (Kind.Write named slot) is = absurd (cc)
trim_isnt row kind is = refl

age_isnt : (die sb amount : ℕ) (kind : Kind) → is_age_of die sb amount kind ≡ true → is_write kind ≡ false
age_isnt die sb amount (Kind.Write named slot) is = absurd (cc)
age_isnt die sb amount kind is = refl

neither : (a b : Bool) → ((a && false) || (b && false)) ≡ true → ⊥
neither true true e = grind arith
neither true false e = grind arith
neither false true e = grind arith
neither false false e = grind arith

one_isnt : (a : Bool) → (a && false) ≡ true → ⊥
one_isnt true e = grind arith
one_isnt false e = grind arith

module _ (ladder : List Entry → ℕ → LadderState) where
  copy_end_isnt : (at : ℕ) (past : List Entry) (entry : Entry) → is_copy_end ladder at (record { past = past; entry = entry }) ≡ true → is_write entry.kind ≡ false
  copy_end_isnt at past entry is = by_kind entry.kind is
    where
      by_kind : (kind : Kind) → is_copy_end ladder at (record { past = past; entry = record { tag = entry.tag; kind = kind } }) ≡ true → is_write kind ≡ false
      by_kind (Kind.Write row slot) e = absurd (neither (is_recovered (ladder past at)) (is_uncorrectable (ladder past at)) e)
      by_kind kind e = refl

  refresh_end_isnt : (at : ℕ) (past : List Entry) (entry : Entry) → is_refresh_end ladder at (record { past = past; entry = entry }) ≡ true → is_write entry.kind ≡ false
  refresh_end_isnt at past entry is = by_kind entry.kind is
    where
      by_kind : (kind : Kind) → is_refresh_end ladder at (record { past = past; entry = record { tag = entry.tag; kind = kind } }) ≡ true → is_write kind ≡ false
      by_kind (Kind.Write row slot) e = absurd (one_isnt (is_recovered (ladder past at)) e)
      by_kind kind e = refl

  -- the parts of calls
  copy_writes_none : (steps : List CallStep) (look : CallStep) → IsCopy ladder steps look → All WritesNone steps
  copy_writes_none steps look copy =
      each_of_look WritesNone steps look (copy.ending ∷ []) copy.leave copy.is_list (look_isnt look.entry.kind copy.is_list.finds_page)
      (λ step is. sense_isnt (position_of look) step.entry.kind is)
      (All-cons WritesNone copy.ending [] (copy_end_isnt (position_of look) copy.ending.past copy.ending.entry copy.ends) (All-nil WritesNone))
      (leave_isnt (position_of look) copy.leave.entry.kind copy.is_list.is_left)

  page_writes_none : (row : ℕ) (is_end : ℕ → List CallStep → CallStep → Bool) (steps : List CallStep) →
      ((at : ℕ) (ending : List CallStep) (leave : CallStep) → is_end at ending leave ≡ true → All WritesNone ending) → IsPageList row is_end steps → All WritesNone steps
  page_writes_none row is_end steps of_ending list =
      each_of_look WritesNone steps list.look list.ending list.leave list.is_list (look_isnt list.look.entry.kind list.is_list.finds_page)
      (λ step is. sense_isnt (position_of list.look) step.entry.kind is)
      (of_ending (position_of list.look) list.ending list.leave list.ends)
      (leave_isnt (position_of list.look) list.leave.entry.kind list.is_list.is_left)

  lone_writes_none : (row : ℕ) (steps : List CallStep) → is_lone_look row steps ≡ true → All WritesNone steps
  lone_writes_none row [] lone = All-nil WritesNone
  lone_writes_none row (step ∷ []) lone =
      All-cons WritesNone step []
      (none_isnt step.entry.kind (and_parts (is_look_of_none step.entry.kind) (is_look_at_row row step.entry.kind) lone).0) (All-nil WritesNone)
  lone_writes_none row (step ∷ next ∷ steps) lone = absurd (grind arith)

  read_writes_none : (row : ℕ) (steps : List CallStep) → IsRead ladder row steps → All WritesNone steps
  read_writes_none row steps (inl lone) = lone_writes_none row steps lone
  read_writes_none row steps (inr list) =
      page_writes_none row (is_read_end ladder) steps
      (λ at ending leave ends. each_of_end WritesNone ladder at ending leave (λ step is. fault_isnt at step.entry.kind is) ends) list

  refreshed_writes_none : (at : ℕ) (ending : List CallStep) (leave : CallStep) → is_refreshed ladder at ending leave ≡ true → All WritesNone ending
  refreshed_writes_none at [] leave ends = All-nil WritesNone
  refreshed_writes_none at (step ∷ []) leave ends = All-cons WritesNone step [] (refresh_end_isnt at step.past step.entry ends) (All-nil WritesNone)
  refreshed_writes_none at (step ∷ next ∷ steps) leave ends = absurd (grind arith)

  refresh_writes_none : (row : ℕ) (steps : List CallStep) → IsRefresh ladder row steps → All WritesNone steps
  refresh_writes_none row steps (inl lone) = lone_writes_none row steps lone
  refresh_writes_none row steps (inr list) = page_writes_none row (is_refreshed ladder) steps refreshed_writes_none list

  one_writes_none : (test : Kind → Bool) (steps : List CallStep) → ((kind : Kind) → test kind ≡ true → is_write kind ≡ false) → is_one test steps ≡ true → All WritesNone steps
  one_writes_none test [] of_test one = All-nil WritesNone
  one_writes_none test (step ∷ []) of_test one = All-cons WritesNone step [] (of_test step.entry.kind one) (All-nil WritesNone)
  one_writes_none test (step ∷ next ∷ steps) of_test one = absurd (grind arith)

  most_writes_none : (test : Kind → Bool) (steps : List CallStep) → ((kind : Kind) → test kind ≡ true → is_write kind ≡ false) → is_at_most_one test steps ≡ true → All WritesNone steps
  most_writes_none test [] of_test one = All-nil WritesNone
  most_writes_none test (step ∷ []) of_test one = All-cons WritesNone step [] (of_test step.entry.kind one) (All-nil WritesNone)
  most_writes_none test (step ∷ next ∷ steps) of_test one = absurd (grind arith)

  parts_write_none : (Part : List CallStep → Type 0) → ((steps : List CallStep) → Part steps → All WritesNone steps) → (parts : List (List CallStep)) → All Part parts →
      All WritesNone (flat_map (λ part. part) parts)
  parts_write_none Part of_part [] all = All-nil WritesNone
  parts_write_none Part of_part (part ∷ parts) all =
      subst (All WritesNone) (sym (flat_map-cons (λ part. part) part parts))
      (All-append WritesNone part (flat_map (λ part. part) parts) (of_part part (All-head Part part parts all))
      (parts_write_none Part of_part parts (All-tail Part part parts all)))

  module _ (base : ChannelBase) where
    round_writes_none : (steps : List CallStep) → IsRound ladder base steps → All WritesNone steps
    round_writes_none steps round =
        subst (All WritesNone) (sym round.are_steps)
        (All-append WritesNone (round.picks ++ flat_map (λ copy. copy) round.copies) round.erases
        (All-append WritesNone round.picks (flat_map (λ copy. copy) round.copies) (most_writes_none is_pick round.picks pick_isnt round.one_pick)
        (parts_write_none (IsVictimCopy ladder base) (λ copied copy. copy_writes_none copied copy.look copy.is_copy) round.copies round.are_copies))
        (most_writes_none is_erase_or_bad_erase round.erases erase_isnt round.one_erase))

    noted_writes_none : (steps round : List CallStep) (note : CallStep) → steps ≡ round ++ note ∷ [] → IsRound ladder base round → WritesNone note → All WritesNone steps
    noted_writes_none steps round note are is_round none =
        subst (All WritesNone) (sym are)
        (All-append WritesNone round (note ∷ []) (round_writes_none round is_round) (All-cons WritesNone note [] none (All-nil WritesNone)))

    left_writes_none : (steps : List CallStep) → IsLeftRound ladder base steps → All WritesNone steps
    left_writes_none steps left = noted_writes_none steps left.round left.note left.are_steps left.is_round.is_round (note_isnt left.note.entry.kind left.is_note)

    last_writes_none : (steps : List CallStep) → IsDoneRound ladder base steps ⊎ IsIdleRound ladder base steps → All WritesNone steps
    last_writes_none steps (inl done) = round_writes_none steps done.is_round
    last_writes_none steps (inr idle) =
        noted_writes_none steps idle.round idle.note idle.are_steps idle.is_round.is_round
        (idle_isnt idle.note.entry.kind (and_parts (is_idle_note idle.note.entry.kind) _ idle.may_end).0)

    collect_writes_none : (steps : List CallStep) → IsCollect ladder base steps → All WritesNone steps
    collect_writes_none steps collect =
        subst (All WritesNone) (sym collect.are_steps)
        (All-append WritesNone (flat_map (λ part. part) collect.parts) collect.last
        (parts_write_none (IsLeftRound ladder base) left_writes_none collect.parts collect.are_parts)
        (last_writes_none collect.last collect.ends))

    refreshes_write_none : (steps : List CallStep) → AreRefreshes ladder steps → All WritesNone steps
    refreshes_write_none steps refreshes =
        subst (All WritesNone) (sym refreshes.are_steps)
        (parts_write_none (IsSomeRefresh ladder) (λ part refresh. refresh_writes_none refresh.row part refresh.is_refresh) refreshes.refreshes refreshes.each)

    own_writes_none : (own : Bool) (Fact : Type 0) (steps : List CallStep) → (Fact → All WritesNone steps) → OnOwnChannel own Fact steps → All WritesNone steps
    own_writes_none true Fact steps of_fact fact = of_fact fact
    own_writes_none false Fact steps of_fact none = subst (All WritesNone) (sym none) (All-nil WritesNone)

    pub verb_may_write : (channels channel : ℕ) (verb : Verb) (steps : List CallStep) → AreStepsOf ladder base channels channel verb steps → All (MayWrite verb) steps
    verb_may_write channels channel (Verb.Write page content) steps are = λ k d within. tt
    verb_may_write channels channel (Verb.Read page) steps are =
        own_writes_none (page % channels == channel) (IsRead ladder (page / channels) steps) steps (read_writes_none (page / channels) steps) are
    verb_may_write channels channel (Verb.Trim page) steps are =
        own_writes_none (page % channels == channel) (IsTrue (is_one (is_trim_of (page / channels)) steps)) steps
        (one_writes_none (is_trim_of (page / channels)) steps (trim_isnt (page / channels))) are
    verb_may_write channels channel (Verb.Refresh page) steps are =
        own_writes_none (page % channels == channel) (IsRefresh ladder (page / channels) steps) steps (refresh_writes_none (page / channels) steps) are
    verb_may_write channels channel (Verb.Collect named) steps are =
        own_writes_none (named == channel) (IsCollect ladder base steps) steps (collect_writes_none steps) are
    verb_may_write channels channel (Verb.Drain count) steps are = refreshes_write_none steps are
    verb_may_write channels channel (Verb.Age named die sb amount) steps are =
        own_writes_none (named == channel) (IsTrue (is_one (is_age_of die sb amount) steps)) steps (one_writes_none (is_age_of die sb amount) steps (age_isnt die sb amount)) are
