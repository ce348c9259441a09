-- A step that only tells: it leaves the dies and the policy's view as they are.
use Rattle.std.proofs.Common.{◌≡◌, ℕ, Option, List, [], refl}
use Rattle.chan_dies.specs.DiesState.{DiesState}
use Rattle.chan_tables.specs.TablesState.{TablesState, tables_after}
use Rattle.ssd_geo.specs.Coding.{coding_of}
use Rattle.ssd_histories.specs.Lawful.{IsLawfulEntry}
use Rattle.ssd_histories.specs.PastPages.{ladder_of, senses_of, word_programmed}
use Rattle.ssd_histories.specs.SerialCalls.{entry_of}
use Rattle.ssd_histories.specs.Start.{Start}
use Rattle.ssd_geo.specs.declared.entry.Entry.{Entry}
use Rattle.ssd_geo.specs.declared.kind.Kind.{Kind}
use Rattle.ssd_geo.specs.declared.policy_view.PolicyView.{PolicyView}
use Rattle.ssd_geo.specs.declared.tag.Tag.{Tag}
use Rattle.chan_state.specs.ChannelState.{StandsFor}
use Rattle.chan_state.specs.Kept.{AreFitting, channel_of}
use Rattle.chan_state.specs.Steps.{AddsEntry}
use Rattle.chan_state.proofs.Standing.{LeavesView, stands_after}
use Rattle.chan_state.proofs.Taken.{Taken, adds, fitting}

-- an entry only tells
abbrev pub IsTold : Kind → Type 0
IsTold (Kind.Look row found closed) = Unit {0}
IsTold (Kind.Leave at) = Unit {0}
IsTold (Kind.Trim row) = Unit {0}
IsTold (Kind.Changed at found) = Unit {0}
IsTold (Kind.Condemn at) = Unit {0}
IsTold (Kind.Stay at worn) = Unit {0}
IsTold (Kind.Refused row worn) = Unit {0}
IsTold (Kind.Note free victim live pins garbage) = Unit {0}
IsTold _ = ⊥

pub told_taken : (old : TablesState) (dies : DiesState) (new : TablesState) (tag : Tag) (kind : Kind) → IsTold kind → new ≡ tables_after (record old { room = new.room }) tag kind
    → Taken old dies new dies tag kind []
told_taken old dies new tag (Kind.Look row found closed) told e = record { tables_are = e; shape_stays = refl; change = record { dies = refl; sum_is = refl }; allows = tt }
told_taken old dies new tag (Kind.Leave at) told e = record { tables_are = e; shape_stays = refl; change = record { dies = refl; sum_is = refl }; allows = tt }
told_taken old dies new tag (Kind.Trim row) told e = record { tables_are = e; shape_stays = refl; change = record { dies = refl; sum_is = refl }; allows = tt }
told_taken old dies new tag (Kind.Changed at found) told e = record { tables_are = e; shape_stays = refl; change = record { dies = refl; sum_is = refl }; allows = tt }
told_taken old dies new tag (Kind.Condemn at) told e = record { tables_are = e; shape_stays = refl; change = record { dies = refl; sum_is = refl }; allows = tt }
told_taken old dies new tag (Kind.Stay at worn) told e = record { tables_are = e; shape_stays = refl; change = record { dies = refl; sum_is = refl }; allows = tt }
told_taken old dies new tag (Kind.Refused row worn) told e = record { tables_are = e; shape_stays = refl; change = record { dies = refl; sum_is = refl }; allows = tt }
told_taken old dies new tag (Kind.Note free victim live pins garbage) told e = record { tables_are = e; shape_stays = refl; change = record { dies = refl; sum_is = refl }; allows = tt }
told_taken old dies new tag _ told e = absurd told

told_leaves : (kind : Kind) → IsTold kind → LeavesView kind
told_leaves (Kind.Look row found closed) told = tt
told_leaves (Kind.Leave at) told = tt
told_leaves (Kind.Trim row) told = tt
told_leaves (Kind.Changed at found) told = tt
told_leaves (Kind.Condemn at) told = tt
told_leaves (Kind.Stay at worn) told = tt
told_leaves (Kind.Refused row worn) told = tt
told_leaves (Kind.Note free victim live pins garbage) told = tt
told_leaves _ told = absurd told

no_word : (start : Start) (contents : List (Tag × List ℕ)) (past : List Entry) (tag : Tag) (kind : Kind) → IsTold kind
    → ◌≡◌ {A = List ℕ} [] (word_programmed (coding_of start.base) start contents (senses_of (coding_of start.base) start contents past) past tag kind)
no_word start contents past tag (Kind.Look row found closed) told = refl
no_word start contents past tag (Kind.Leave at) told = refl
no_word start contents past tag (Kind.Trim row) told = refl
no_word start contents past tag (Kind.Changed at found) told = refl
no_word start contents past tag (Kind.Condemn at) told = refl
no_word start contents past tag (Kind.Stay at worn) told = refl
no_word start contents past tag (Kind.Refused row worn) told = refl
no_word start contents past tag (Kind.Note free victim live pins garbage) told = refl
no_word start contents past tag _ told = absurd told

pub told_adds : (old : TablesState) (dies : DiesState) (new : TablesState) (tag : Tag) (kind : Kind) → IsTold kind → new ≡ tables_after (record old { room = new.room }) tag kind
    → AddsEntry (channel_of old dies) (channel_of new dies) tag kind
told_adds old dies new tag kind told e = adds old dies new dies tag kind [] (told_taken old dies new tag kind told e)

pub told_fitting : (old : TablesState) (dies : DiesState) (new : TablesState) (tag : Tag) (kind : Kind) (items : ℕ) → AreFitting old dies items → IsTold kind
    → new ≡ tables_after (record old { room = new.room }) tag kind → AreFitting new dies items
told_fitting old dies new tag kind items fit told e = fitting old dies new dies tag kind [] items fit (told_taken old dies new tag kind told e)

pub told_stands : (old : TablesState) (dies : DiesState) (new : TablesState) (tag : Tag) (kind : Kind) (items : ℕ) (view : Option PolicyView) (start : Start) (contents : List (Tag × List ℕ))
    → AreFitting old dies items → IsTold kind → new ≡ tables_after (record old { room = new.room }) tag kind → StandsFor (channel_of old dies) view start contents
    → IsLawfulEntry (ladder_of (coding_of start.base) start contents old.past) start.base old.past (entry_of tag kind)
    → StandsFor (channel_of new dies) view start contents
told_stands old dies new tag kind items view start contents fit told e stands lawful =
    stands_after old dies new dies tag kind [] items view start contents fit (told_taken old dies new tag kind told e) (told_leaves kind told) stands
    (record { lawful = lawful; word_is = no_word start contents old.past tag kind told })
