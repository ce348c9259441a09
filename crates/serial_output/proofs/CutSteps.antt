-- The steps of a call that begins with a look, or has one entry: the first asks for room, and those behind it have theirs set
-- aside. So where an entry of such a call found no room, the call has none.
use Rattle.std.proofs.Common.{ℕ, ◌≡◌, Bool, true, false, List, [], ◌∷◌, ◌++◌, refl, sym, subst, ◌∙◌, inl, inr}
use Rattle.std.specs.List.{list_all}
use Rattle.std.proofs.lemmas.Bool.{and_parts, false≢true}
use Rattle.ssd_geo.specs.Ladder.{LadderState}
use Rattle.ssd_histories.specs.CallSteps.{CallStep, is_look_at_row, is_look_of_none, is_look_of_page, position_of}
use Rattle.ssd_histories.specs.CallsInOrder.{is_age_of, is_trim_of}
use Rattle.ssd_histories.specs.Copies.{IsLookList, IsRead, IsRefresh, is_lone_look, is_read_end, is_refreshed}
use Rattle.ssd_histories.specs.HistoryRoom.{found_room, has_look_room, has_room_for, has_step_room}
use Rattle.ssd_histories.specs.Lawful.{is_fault_sense_of}
use Rattle.ssd_histories.specs.Rounds.{is_note, is_one}
use Rattle.ssd_histories.specs.SerialCalls.{AreStepsFrom, IsSerialCopy, entry_of}
use Rattle.ssd_geo.specs.declared.base.ChannelBase.{ChannelBase}
use Rattle.ssd_geo.specs.declared.entry.Entry.{Entry}
use Rattle.ssd_geo.specs.declared.kind.Kind.{Kind}
use Rattle.ssd_geo.specs.declared.tag.Tag.{Tag}
use Rattle.serial_laws.proofs.CutCalls.{AreInner, end_is_inner, inner_has_room, inner_join, is_inner, leave_is_inner, senses_are_inner}
use Rattle.serial_laws.proofs.LookLists.{copy_ends, refresh_ends}
use Rattle.serial_output.specs.SameChoices.{ComesTo}
use Rattle.serial_output.proofs.NextEntries.{first_comes, steps_come}
use Rattle.serial_output.proofs.NextOnTheWay.{IsNextOrOn, comes_later, is_next, never_back, next_or_on, room_on_the_way}

-- the first of some steps asks for this room, and those behind it have theirs set aside
pub record IsOpening (room : List Entry → Bool) (limit : ℕ) (steps : List CallStep) : Type 0 where
  pub first : CallStep
  pub tail : List CallStep
  pub are : steps ≡ first ∷ tail
  pub asks : (past : List Entry) → has_room_for limit past first.entry.kind ≡ room past
  pub inner : AreInner tail

-- an entry that stands behind the past before such steps has its room set aside
inner_on : (tag : Tag) (steps : List CallStep) (past after : List Entry) → AreStepsFrom tag past steps after → AreInner steps →
    (next : Entry) (now : List Entry) → ComesTo past now → ComesTo (next ∷ now) after → is_inner next.kind ≡ true
inner_on tag [] past after made inner next now begins goes =
    absurd (never_back next past now begins (subst (ComesTo (next ∷ now)) (sym made) goes))
inner_on tag (step ∷ steps) past after made inner next now begins goes =
    by_next (inner_on tag steps (step.entry ∷ past) after made.2 parts.1 next now)
    (next_or_on step.entry next past now after begins (steps_come tag (step.entry ∷ past) after steps made.2) goes)
  where
    parts : (is_inner step.entry.kind ≡ true) × AreInner steps
    parts = and_parts (is_inner step.entry.kind) (list_all (λ one. is_inner one.entry.kind) steps) inner

    by_next : (ComesTo (step.entry ∷ past) now → ComesTo (next ∷ now) after → is_inner next.kind ≡ true) →
        IsNextOrOn step.entry next past now → is_inner next.kind ≡ true
    by_next rest (is_next same is) = subst (λ (entry : Entry). is_inner entry.kind ≡ true) (sym is) parts.0
    by_next rest (comes_later later) = rest later goes

-- a call that was cut has no entry, and there is no room for its first
pub record IsUnopened (room : List Entry → Bool) (before now : List Entry) : Type 0 where
  pub same_past : now ≡ before
  pub no_room : room before ≡ false

pub no_room_at : (limit : ℕ) (before now : List Entry) (entry next : Entry) → now ≡ before → next ≡ entry →
    has_room_for limit now next.kind ≡ false → has_room_for limit before entry.kind ≡ false
no_room_at limit before now entry next same is none =
    (λ i. has_room_for limit (sym same i) (sym is i).kind) ∙ none

module _ (tag : Tag) (room : List Entry → Bool) (limit : ℕ) (steps : List CallStep) (before after : List Entry)
    (made : AreStepsFrom tag before steps after) (opens : IsOpening room limit steps) where
  opened : AreStepsFrom tag before (opens.first ∷ opens.tail) after
  opened = subst (λ xs. AreStepsFrom tag before xs after) opens.are made

  pub opening_cut : (next : Entry) (now : List Entry) → ComesTo before now → ComesTo (next ∷ now) after →
      has_room_for limit now next.kind ≡ false → IsUnopened room before now
  opening_cut next now begins goes none =
      by_next
      (next_or_on opens.first.entry next before now after begins
      (steps_come tag (opens.first.entry ∷ before) after opens.tail opened.2) goes)
    where
      by_next : IsNextOrOn opens.first.entry next before now → IsUnopened room before now
      by_next (is_next same is) = record {
        same_past = same;
        no_room = sym (opens.asks before) ∙ no_room_at limit before now opens.first.entry next same is none;
      }
      by_next (comes_later later) =
          absurd (false≢true (sym none
          ∙ inner_has_room limit now next.kind
          (inner_on tag opens.tail (opens.first.entry ∷ before) after opened.2 opens.inner next now later goes)))

  -- where such steps stand on the way to a past each entry of which found room, the first did
  pub opening_has_room : (other : List Entry) → ComesTo after other → found_room limit other ≡ true → room before ≡ true
  opening_has_room other comes found =
      sym (opens.asks before)
      ∙ room_on_the_way limit (entry_of tag opens.first.entry.kind) before other found
      (first_comes tag before opens.first opens.tail after other opened comes)

-- which room the entries ask for that begin a call, or stand alone in one
page_asks : (limit : ℕ) (past : List Entry) (kind : Kind) → is_look_of_page kind ≡ true →
    has_room_for limit past kind ≡ has_look_room limit past
page_asks limit past (Kind.Look row found closed) e = refl
page_asks limit past kind e = absurd (false≢true e)

look_asks : (limit row : ℕ) (past : List Entry) (kind : Kind) → is_look_at_row row kind ≡ true →
    has_room_for limit past kind ≡ has_look_room limit past
look_asks limit row past (Kind.Look named found closed) e = refl
look_asks limit row past kind e = absurd (false≢true e)

pub trim_asks : (limit row : ℕ) (past : List Entry) (kind : Kind) → is_trim_of row kind ≡ true →
    has_room_for limit past kind ≡ has_step_room limit past
trim_asks limit row past (Kind.Trim named) e = refl
trim_asks limit row past kind e = absurd (false≢true e)

pub age_asks : (limit die sb amount : ℕ) (past : List Entry) (kind : Kind) → is_age_of die sb amount kind ≡ true →
    has_room_for limit past kind ≡ has_step_room limit past
age_asks limit die sb amount past (Kind.Age named block by) e = refl
age_asks limit die sb amount past (Kind.FaultAge named block by) e = refl
age_asks limit die sb amount past kind e = absurd (false≢true e)

pub note_asks : (limit : ℕ) (past : List Entry) (kind : Kind) → is_note kind ≡ true →
    has_room_for limit past kind ≡ has_step_room limit past
note_asks limit past (Kind.Note free victim live pins garbage) e = refl
note_asks limit past kind e = absurd (false≢true e)

fault_is_inner : (at : ℕ) (kind : Kind) → is_fault_sense_of at kind ≡ true → is_inner kind ≡ true
fault_is_inner at (Kind.FaultSense named place level) e = refl
fault_is_inner at kind e = absurd (false≢true e)

module _ (limit : ℕ) where
  list_opens : (steps : List CallStep) (look : CallStep) (ending : List CallStep) (leave : CallStep)
      (list : IsLookList steps look ending leave) → AreInner ending → IsOpening (has_look_room limit) limit steps
  list_opens steps look ending leave list inner = record {
    first = look;
    tail = list.senses ++ ending ++ leave ∷ [];
    are = list.are_steps;
    asks = λ past. page_asks limit past look.entry.kind list.finds_page;
    inner =
        inner_join (list.senses ++ ending) (leave ∷ [])
        (inner_join list.senses ending (senses_are_inner (position_of look) list.senses list.are_senses) inner)
        (rw (leave_is_inner (position_of look) leave.entry.kind list.is_left) refl);
  }

  lone_opens : (row : ℕ) (steps : List CallStep) → is_lone_look row steps ≡ true → IsOpening (has_look_room limit) limit steps
  lone_opens row [] e = absurd (false≢true e)
  lone_opens row (step ∷ []) e = record {
    first = step;
    tail = [];
    are = refl;
    asks = λ past.
        look_asks limit row past step.entry.kind
        (and_parts (is_look_of_none step.entry.kind) (is_look_at_row row step.entry.kind) e).1;
    inner = refl;
  }
  lone_opens row (step ∷ next ∷ steps) e = absurd (false≢true e)

  pub one_opens : (test : Kind → Bool) →
      ((past : List Entry) (kind : Kind) → test kind ≡ true → has_room_for limit past kind ≡ has_step_room limit past) →
      (steps : List CallStep) → is_one test steps ≡ true → IsOpening (has_step_room limit) limit steps
  one_opens test asks [] e = absurd (false≢true e)
  one_opens test asks (step ∷ []) e =
      record { first = step; tail = []; are = refl; asks = λ past. asks past step.entry.kind e; inner = refl }
  one_opens test asks (step ∷ next ∷ steps) e = absurd (false≢true e)

  module _ (ladder : List Entry → ℕ → LadderState) where
    read_end_is_inner : (at : ℕ) (ending : List CallStep) (leave : CallStep) → is_read_end ladder at ending leave ≡ true →
        AreInner ending
    read_end_is_inner at [] leave e = refl
    read_end_is_inner at (step ∷ []) leave e = rw (fault_is_inner at step.entry.kind e) refl
    read_end_is_inner at (step ∷ next ∷ steps) leave e = absurd (false≢true e)

    refresh_end_is_inner : (at : ℕ) (ending : List CallStep) (leave : CallStep) → is_refreshed ladder at ending leave ≡ true →
        AreInner ending
    refresh_end_is_inner at [] leave e = refl
    refresh_end_is_inner at (step ∷ []) leave e = rw (end_is_inner step.entry.kind (refresh_ends ladder at step e)) refl
    refresh_end_is_inner at (step ∷ next ∷ steps) leave e = absurd (false≢true e)

    pub read_opens : (row : ℕ) (steps : List CallStep) → IsRead ladder row steps → IsOpening (has_look_room limit) limit steps
    read_opens row steps (inl lone) = lone_opens row steps lone
    read_opens row steps (inr list) =
        list_opens steps list.look list.ending list.leave list.is_list
        (read_end_is_inner (position_of list.look) list.ending list.leave list.ends)

    pub refresh_opens : (row : ℕ) (steps : List CallStep) → IsRefresh ladder row steps →
        IsOpening (has_look_room limit) limit steps
    refresh_opens row steps (inl lone) = lone_opens row steps lone
    refresh_opens row steps (inr list) =
        list_opens steps list.look list.ending list.leave list.is_list
        (refresh_end_is_inner (position_of list.look) list.ending list.leave list.ends)

    pub copy_opens : (base : ChannelBase) (tag : Tag) (before after : List Entry) (ends fault : Bool)
        (copy : IsSerialCopy ladder base tag before after ends fault) → IsOpening (has_look_room limit) limit copy.steps
    copy_opens base tag before after ends fault copy =
        let one = copy.is_copy.is_copy in
        list_opens copy.steps copy.is_copy.look (one.ending ∷ []) one.leave one.is_list
        (rw (end_is_inner one.ending.entry.kind (copy_ends ladder (position_of copy.is_copy.look) one.ending one.ends)) refl)
