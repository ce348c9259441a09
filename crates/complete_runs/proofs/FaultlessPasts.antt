-- Where no die counted a fault, no entry tells of one: each entry that does names a die of its channel.
use Rattle.std.proofs.Common.{ℕ, ◌≡◌, ◌<◌, ◌==◌, ◌&&◌, nat_lt, true, false, List, [], ◌∷◌, All, refl, sym, ◌∙◌, ltb-true}
use Rattle.std.specs.Prelude.{slice_index_or}
use Rattle.std.proofs.lemmas.Bool.{and_parts, true≢false}
use Rattle.std.proofs.lemmas.List.Elements.{All-cons, All-nil}
use Rattle.ssd_geo.specs.Ladder.{LadderState}
use Rattle.ssd_geo.specs.declared.base.ChannelBase.{ChannelBase}
use Rattle.ssd_geo.specs.declared.entry.Entry.{Entry}
use Rattle.ssd_geo.specs.declared.kind.Kind.{Kind}
use Rattle.ssd_geo.specs.declared.shape.Shape.{Shape}
use Rattle.ssd_geo.specs.declared.tag.Tag.{Tag}
use Rattle.ssd_histories.specs.CallSteps.{is_fault}
use Rattle.ssd_histories.specs.CallsInOrder.{ChannelRun}
use Rattle.ssd_histories.specs.Lawful.{IsLawfulBy}
use Rattle.ssd_histories.specs.Ranges.{has_slot, is_in_range}
use Rattle.ssd_histories.specs.Standing.{IsPastOf, faults_of, is_fault_of}
use Rattle.ssd_histories.proofs.UsedSlots.{made}
use Rattle.history_laws.proofs.Counting.{none_pass}
use Rattle.serial_laws.proofs.Lists.{all_both}
use Rattle.run_laws.specs.Headline.{AreCounted}
use Rattle.run_laws.specs.Runs.{FaultCounts, channels_of, data_in}
use Rattle.run_laws.proofs.CountedFaults.{uncounted_faults_are_none}
use Rattle.complete_runs.specs.UncountedRuns.{CountNone, IsFaultless, UncountedRunsAreFaultless}
use Rattle.shared_lemmas.proofs.Tests.{same_number}

-- what an entry names is the channel's
abbrev IsInRange : Shape → Entry → Type 0
IsInRange shape entry = is_in_range shape entry.kind ≡ true

all_in_range : (ladder : List Entry → ℕ → LadderState) (base : ChannelBase) (past : List Entry) → IsLawfulBy ladder base past →
    All (IsInRange base.shape) past
all_in_range ladder base [] lawful = All-nil (IsInRange base.shape)
all_in_range ladder base (entry ∷ past) lawful =
    All-cons (IsInRange base.shape) entry past lawful.1.in_range (all_in_range ladder base past lawful.0)

-- no die of a channel is told to have failed in an entry
abbrev NamesNone : Shape → Entry → Type 0
NamesNone shape entry = (die : ℕ) → die < shape.dies → is_fault_of die entry ≡ false

named : (shape : Shape) (die : ℕ) → nat_lt die shape.dies ≡ true → ((other : ℕ) → other < shape.dies → (die == other) ≡ false) → ⊥
named shape die low none = true≢false (sym (same_number die) ∙ none die (ltb-true die shape.dies low))

-- so no call of a die failed in it
none_failed : (shape : Shape) (tag : Tag) (kind : Kind) → is_in_range shape kind ≡ true → NamesNone shape (made tag kind) →
    is_fault kind ≡ false
none_failed shape tag (Kind.FaultSense at place level) range none =
    let first = and_parts (nat_lt place.die shape.dies && nat_lt place.sb shape.superblocks) (nat_lt place.page shape.pages) range in
    absurd (named shape place.die (and_parts (nat_lt place.die shape.dies) (nat_lt place.sb shape.superblocks) first.0).0 none)
none_failed shape tag (Kind.FaultAge die sb amount) range none =
    absurd (named shape die (and_parts (nat_lt die shape.dies) (nat_lt sb shape.superblocks) range).0 none)
none_failed shape tag (Kind.BadWrite row slot die true) range none =
    absurd (named shape die (and_parts (nat_lt row shape.rows && has_slot shape slot) (nat_lt die shape.dies) range).1 none)
none_failed shape tag (Kind.BadCopy at slot die true) range none =
    absurd (named shape die (and_parts (has_slot shape slot) (nat_lt die shape.dies) range).1 none)
none_failed shape tag (Kind.BadErase sb die true) range none =
    absurd (named shape die (and_parts (nat_lt sb shape.superblocks) (nat_lt die shape.dies) range).1 none)
none_failed shape tag (Kind.BadWrite row slot die false) range none = refl
none_failed shape tag (Kind.BadCopy at slot die false) range none = refl
none_failed shape tag (Kind.BadErase sb die false) range none = refl
none_failed shape tag kind range none = refl

-- a past in which no die of the channel is told to have failed
is_faultless : (shape : Shape) (past : List Entry) → All (IsInRange shape) past →
    ((die : ℕ) → die < shape.dies → faults_of die past ≡ 0) → All (λ entry. is_fault entry.kind ≡ false) past
is_faultless shape past range none = λ k other within.
    let entry : Entry = slice_index_or past k other in
    none_failed shape entry.tag entry.kind (range k other within)
    (λ die low. none_pass (is_fault_of die) past k other (none die low) within)

-- channels whose dies counted none
abbrev HasNone : ChannelRun → Type 0
HasNone channel = (die : ℕ) → die < channel.start.base.shape.dies → faults_of die channel.past ≡ 0

all_have_none : (channels : List ChannelRun) (faults : List FaultCounts) → AreCounted channels faults → CountNone channels faults →
    All HasNone channels
all_have_none [] faults counted none = All-nil HasNone
all_have_none (channel ∷ more) [] counted none = absurd none
all_have_none (channel ∷ more) (counts ∷ others) counted none =
    All-cons HasNone channel more
    (λ die low.
    uncounted_faults_are_none channel counts die counted.0 low (none.0 die low).is_same (none.0 die low).is_below)
    (all_have_none more others counted.1 none.1)

pub uncounted_runs_are_faultless : UncountedRunsAreFaultless
uncounted_runs_are_faultless head run ordered none =
    all_both (λ (channel : ChannelRun). IsPastOf channel.start (data_in head run) channel.past) HasNone IsFaultless
    (λ channel is_past has_none.
    is_faultless channel.start.base.shape channel.past
    (all_in_range _ channel.start.base channel.past is_past.is_lawful) has_none) (channels_of run) ordered.are_pasts
    (all_have_none (channels_of run) run.faults ordered.are_counted none)
