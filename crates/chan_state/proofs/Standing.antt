-- What a channel stood for, it stands for after a step that was taken, where its entry is lawful and the policy's view moved on
-- as it is to.
use Rattle.std.proofs.Common.{◌≡◌, ℕ, List, ◌∷◌, length, sym, ◌∙◌, ap, subst, Option, Some, None, refl}
use Rattle.chan_dies.specs.DiesState.{DiesState}
use Rattle.chan_fits.specs.DiesFit.{AreDue}
use Rattle.chan_fits.specs.FitLaws.{DiesChange}
use Rattle.chan_fits.proofs.EntryFits.{dies_fit_after_entry}
use Rattle.chan_tables.specs.TablesState.{TablesState}
use Rattle.ssd_histories.specs.BlockLaws.{blocks_after}
use Rattle.ssd_geo.specs.Coding.{coding_of}
use Rattle.ssd_histories.specs.FollowedViews.{FollowsTold, IsAnsweredBy, view_of}
use Rattle.ssd_histories.specs.History.{looks_after}
use Rattle.ssd_histories.specs.HistoryLaws.{rows_after}
use Rattle.ssd_histories.specs.Lawful.{IsLawful, IsLawfulEntry}
use Rattle.ssd_histories.specs.PastBlocks.{blocks_of}
use Rattle.ssd_histories.specs.PastPages.{ladder_of, senses_of, word_programmed}
use Rattle.ssd_histories.specs.PastRows.{row_change, rows_of}
use Rattle.ssd_histories.specs.SerialCalls.{entry_of}
use Rattle.ssd_histories.specs.Standing.{view_told}
use Rattle.ssd_histories.specs.Start.{Start}
use Rattle.ssd_geo.specs.Superblock.{slots_of}
use Rattle.ssd_geo.specs.declared.base.BlockBase.{BlockBase}
use Rattle.ssd_geo.specs.declared.base.ChannelBase.{ChannelBase}
use Rattle.ssd_geo.specs.declared.entry.Entry.{Entry}
use Rattle.ssd_geo.specs.declared.kind.Kind.{Kind}
use Rattle.ssd_geo.specs.declared.policy_view.PolicyView.{PolicyView}
use Rattle.ssd_geo.specs.declared.shape.Shape.{Shape}
use Rattle.ssd_geo.specs.declared.tag.Tag.{Tag}
use Rattle.ssd_histories.proofs.BlockSteps.{blocks_after_entry}
use Rattle.ssd_histories.proofs.MapRows.{rows_after_entry}
use Rattle.chan_state.specs.ChannelState.{StandsFor}
use Rattle.chan_state.specs.Kept.{AreFitting, channel_of}
use Rattle.chan_state.proofs.Taken.{Taken}

-- what an entry asks of a start and contents: it is lawful, and the word that it programs is the one that the past gives
pub record IsDueEntry (start : Start) (contents : List (Tag × List ℕ)) (past : List Entry) (tag : Tag) (kind : Kind) (word : List ℕ) : Type 0 where
  pub lawful : IsLawfulEntry (ladder_of (coding_of start.base) start contents past) start.base past (entry_of tag kind)
  pub word_is : word ≡ word_programmed (coding_of start.base) start contents (senses_of (coding_of start.base) start contents past) past tag kind

pub stands_with : (old : TablesState) (dies : DiesState) (new : TablesState) (after : DiesState) (tag : Tag) (kind : Kind) (word : List ℕ) (items : ℕ) (was now : Option PolicyView) (start : Start) (contents : List (Tag × List ℕ))
    → AreFitting old dies items → Taken old dies new after tag kind word → StandsFor (channel_of old dies) was start contents
    → IsDueEntry start contents old.past tag kind word
    → FollowsTold start.base start.view (entry_of tag kind ∷ old.past) → now ≡ view_told start (entry_of tag kind ∷ old.past)
    → StandsFor (channel_of new after) now start contents
stands_with old dies new after tag kind word items was now start contents fit taken stands due follows view =
    let past : List Entry = old.past in
    let entry : Entry = entry_of tag kind in
    let all : IsLawful start contents (entry ∷ past) = (stands.is_past.is_lawful, due.lawful) in
    let rows : rows_after (row_change old.session past tag kind) old.rows ≡ rows_after (row_change start.base.session past tag kind) (rows_of start.base past) =
    λ i. rows_after (row_change (stands.session_is i) past tag kind) (stands.rows_are i) in
    let blocks : blocks_after (slots_of old.shape.pages old.shape.dies) kind old.blocks ≡ blocks_after (slots_of start.base.shape.pages start.base.shape.dies) kind (blocks_of start.base past) =
    λ i. blocks_after (slots_of (stands.shape_is i).pages (stands.shape_is i).dies) kind (stands.blocks_are i) in
    let change : DiesChange start.base.shape kind word dies.dies after.dies dies.sum after.sum =
    subst (λ (shape : Shape). DiesChange shape kind word dies.dies after.dies dies.sum after.sum) stands.shape_is taken.change in
    let owed : AreDue start.base.shape (blocks_of start.base past) dies.dies =
    subst (λ (list : List BlockBase). AreDue start.base.shape list dies.dies) stands.blocks_are
    (subst (λ (shape : Shape). AreDue shape old.blocks dies.dies) stands.shape_is fit.due) in
    subst (λ (t : TablesState). StandsFor (channel_of t after) now start contents) (sym taken.tables_are) (record {
      is_past = record { is_start = stands.is_past.is_start; is_lawful = all; follows = follows };
      shape_is = stands.shape_is;
      session_is = stands.session_is;
      limit_is = stands.limit_is;
      rows_are = rows ∙ sym (rows_after_entry start.base entry past);
      blocks_are = blocks ∙ sym (blocks_after_entry (ladder_of (coding_of start.base) start contents) start.base entry past all);
      looks_are = ap (looks_after (length past) tag kind) stands.looks_are;
      dies_fit =
          dies_fit_after_entry (ladder_of (coding_of start.base) start contents) start contents past tag kind word dies.dies after.dies dies.sum after.sum
          stands.is_past.is_start all due.word_is change owed stands.dies_fit;
      view_is = view;
    })

-- ---- entries that leave the view

-- an entry is neither a pick nor an erase
abbrev pub LeavesView : Kind → Type 0
LeavesView (Kind.Pick sb) = ⊥
LeavesView (Kind.Erase sb) = ⊥
LeavesView _ = Unit {0}

answered : (base : ChannelBase) (view : PolicyView) (past : List Entry) (kind : Kind) → LeavesView kind → IsAnsweredBy base view past kind
answered base view past (Kind.Pick sb) leaves = absurd leaves
answered base view past kind leaves = tt

follows_more : (base : ChannelBase) (view : Option PolicyView) (past : List Entry) (entry : Entry) → LeavesView entry.kind
    → FollowsTold base view past → FollowsTold base view (entry ∷ past)
follows_more base None past entry leaves h = tt
follows_more base (Some view) past entry leaves h = (h, answered base (view_of base view past) past entry.kind leaves)

same_view : (start : Start) (past : List Entry) (tag : Tag) (kind : Kind) → LeavesView kind → view_told start (entry_of tag kind ∷ past) ≡ view_told start past
same_view start past tag (Kind.Pick sb) leaves = absurd leaves
same_view start past tag (Kind.Erase sb) leaves = absurd leaves
same_view start past tag kind leaves = refl

pub stands_after : (old : TablesState) (dies : DiesState) (new : TablesState) (after : DiesState) (tag : Tag) (kind : Kind) (word : List ℕ) (items : ℕ) (view : Option PolicyView) (start : Start) (contents : List (Tag × List ℕ))
    → AreFitting old dies items → Taken old dies new after tag kind word → LeavesView kind → StandsFor (channel_of old dies) view start contents
    → IsDueEntry start contents old.past tag kind word
    → StandsFor (channel_of new after) view start contents
stands_after old dies new after tag kind word items view start contents fit taken leaves stands due =
    stands_with old dies new after tag kind word items view view start contents fit taken stands due
    (follows_more start.base start.view old.past (entry_of tag kind) leaves stands.is_past.follows)
    (stands.view_is ∙ sym (same_view start old.past tag kind leaves))

-- where the tables only took memory, the channel is as it was
pub same_channel : (old : TablesState) (dies : DiesState) (new : TablesState) → new ≡ record old { room = new.room } → channel_of new dies ≡ channel_of old dies
same_channel old dies new e = ap (λ (t : TablesState). channel_of t dies) e
