-- A refresh leaves no look open, and where its look found room, each of its entries did: those behind the look have their room
-- set aside.
use Rattle.std.proofs.Common.{ℕ, ◌≡◌, true, List, [], ◌∷◌, ◌++◌, refl, subst, ◌∙◌, inl, inr}
use Rattle.std.specs.List.{list_all}
use Rattle.std.proofs.lemmas.Bool.{and_from, and_parts, false≢true}
use Rattle.serial_laws.proofs.CutCalls.{AreInner, end_is_inner, inner_has_room, inner_join, is_inner, leave_is_inner, senses_are_inner}
use Rattle.serial_laws.proofs.LeftLooks.{refresh_closes}
use Rattle.serial_laws.proofs.LookLists.{refresh_ends}
use Rattle.ssd_geo.specs.Coding.{coding_of}
use Rattle.ssd_geo.specs.Ladder.{LadderState}
use Rattle.ssd_geo.specs.declared.entry.Entry.{Entry}
use Rattle.ssd_geo.specs.declared.kind.Kind.{Kind}
use Rattle.ssd_geo.specs.declared.reply.RefreshReply.{RefreshReply}
use Rattle.ssd_geo.specs.declared.tag.Tag.{Tag}
use Rattle.ssd_histories.specs.CallSteps.{CallStep, is_look_at_row, is_look_of_none, position_of}
use Rattle.ssd_histories.specs.Copies.{IsPageList, IsRefresh, is_lone_look, is_refreshed}
use Rattle.ssd_histories.specs.History.{open_looks}
use Rattle.ssd_histories.specs.HistoryRoom.{found_room, has_look_room, has_room_for}
use Rattle.ssd_histories.specs.PastPages.{ladder_of}
use Rattle.ssd_histories.specs.SerialCalls.{AreStepsFrom}
use Rattle.ssd_histories.specs.Start.{Start}
use Rattle.run_laws.specs.RepliedCalls.{WasRefreshed}

-- the first entry of a refresh is a look of its row, and those behind it have their room set aside
pub record HasInnerSteps (tag : Tag) (row : ℕ) (before after : List Entry) : Type 0 where
  pub look : CallStep
  pub behind : List CallStep
  pub of_row : is_look_at_row row look.entry.kind ≡ true
  pub are_steps : AreStepsFrom tag (look.entry ∷ before) behind after
  pub inner : AreInner behind

pub look_asks_room : (row limit : ℕ) (past : List Entry) (kind : Kind) → is_look_at_row row kind ≡ true →
    has_room_for limit past kind ≡ has_look_room limit past
look_asks_room row limit past (Kind.Look named found closed) is = refl
look_asks_room row limit past kind is = absurd (false≢true is)

endings_are_inner : (ladder : List Entry → ℕ → LadderState) (at : ℕ) (ending : List CallStep) (leave : CallStep) →
    is_refreshed ladder at ending leave ≡ true → AreInner ending
endings_are_inner ladder at [] leave ends = refl
endings_are_inner ladder at (step ∷ []) leave ends = rw (end_is_inner step.entry.kind (refresh_ends ladder at step ends)) refl
endings_are_inner ladder at (step ∷ next ∷ steps) leave ends = absurd (false≢true ends)

module _ (ladder : List Entry → ℕ → LadderState) (tag : Tag) (row : ℕ) (before after : List Entry) where
  of_lone : (steps : List CallStep) → is_lone_look row steps ≡ true → AreStepsFrom tag before steps after →
      HasInnerSteps tag row before after
  of_lone [] lone are = absurd (false≢true lone)
  of_lone (step ∷ []) lone are = record {
    look = step;
    behind = [];
    of_row = (and_parts (is_look_of_none step.entry.kind) (is_look_at_row row step.entry.kind) lone).1;
    are_steps = are.2;
    inner = refl;
  }
  of_lone (step ∷ next ∷ steps) lone are = absurd (false≢true lone)

  of_page : (steps : List CallStep) → IsPageList row (is_refreshed ladder) steps → AreStepsFrom tag before steps after →
      HasInnerSteps tag row before after
  of_page steps page are =
      let senses : List CallStep = page.is_list.senses in
      let whole : AreStepsFrom tag before (((page.look ∷ senses) ++ page.ending) ++ page.leave ∷ []) after =
      subst (λ all. AreStepsFrom tag before all after) page.is_list.are_steps are in
      record {
        look = page.look;
        behind = (senses ++ page.ending) ++ page.leave ∷ [];
        of_row = page.of_row;
        are_steps = whole.2;
        inner =
            inner_join (senses ++ page.ending) (page.leave ∷ [])
            (inner_join senses page.ending (senses_are_inner (position_of page.look) senses page.is_list.are_senses)
            (endings_are_inner ladder (position_of page.look) page.ending page.leave page.ends))
            (rw (leave_is_inner (position_of page.look) page.leave.entry.kind page.is_list.is_left) refl);
      }

  pub inner_steps : (steps : List CallStep) → IsRefresh ladder row steps → AreStepsFrom tag before steps after →
      HasInnerSteps tag row before after
  inner_steps steps (inl lone) are = of_lone steps lone are
  inner_steps steps (inr page) are = of_page steps page are

-- entries that have their room set aside find it
inner_find_room : (limit : ℕ) (tag : Tag) (steps : List CallStep) (before after : List Entry) →
    AreStepsFrom tag before steps after → AreInner steps → found_room limit before ≡ true → found_room limit after ≡ true
inner_find_room limit tag [] before after are inner found =
    subst (λ (past : List Entry). found_room limit past ≡ true) are found
inner_find_room limit tag (step ∷ steps) before after are inner found =
    let parts = and_parts (is_inner step.entry.kind) (list_all (λ one. is_inner one.entry.kind) steps) inner in
    inner_find_room limit tag steps (step.entry ∷ before) after are.2 parts.1
    (and_from (found_room limit before) (has_room_for limit before step.entry.kind) found
    (inner_has_room limit before step.entry.kind parts.0))

module _ (start : Start) (contents : List (Tag × List ℕ)) (tag : Tag) (row : ℕ) (before after : List Entry)
    (reply : RefreshReply) (refreshed : WasRefreshed start contents tag row before after reply) where
  pub refreshed_finds_room : (limit : ℕ) → found_room limit before ≡ true → has_look_room limit before ≡ true →
      found_room limit after ≡ true
  refreshed_finds_room limit found room =
      let made : HasInnerSteps tag row before after =
      inner_steps (ladder_of (coding_of start.base) start contents) tag row before after refreshed.steps refreshed.is_refresh
      refreshed.are_steps in
      inner_find_room limit tag made.behind (made.look.entry ∷ before) after made.are_steps made.inner
      (and_from (found_room limit before) (has_room_for limit before made.look.entry.kind) found
      (look_asks_room row limit before made.look.entry.kind made.of_row ∙ room))

  pub refreshed_leaves_looks : open_looks before ≡ [] → open_looks after ≡ []
  refreshed_leaves_looks none =
      refresh_closes (ladder_of (coding_of start.base) start contents) tag row before after refreshed.steps refreshed.is_refresh
      refreshed.are_steps none
