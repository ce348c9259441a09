-- A call with rounds makes entries outside looks, and looks with their leaves: so where an entry of it finds no room, none of
-- its looks is open.
use Rattle.std.proofs.Common.{ℕ, suc, ◌≡◌, ◌+◌, ◌<◌, ◌≤◌, ◌&&◌, nat_le, Bool, true, false, List, [], ◌∷◌, ◌++◌, length, length-append, refl, sym, ap, subst, ◌∙◌, append_assoc, arith}
use Rattle.std.specs.List.{list_all}
use Rattle.std.proofs.lemmas.Bool.{and_parts, false≢true}
use Rattle.std.proofs.lemmas.Bool.Decides.{nat_tests}
use Rattle.std.proofs.lemmas.List.Folds.{list_all-append}
use Rattle.ssd_geo.specs.Ladder.{LadderState}
use Rattle.ssd_geo.specs.declared.base.ChannelBase.{ChannelBase}
use Rattle.ssd_geo.specs.declared.entry.Entry.{Entry}
use Rattle.ssd_geo.specs.declared.kind.Kind.{Kind}
use Rattle.ssd_geo.specs.declared.row.Row.{Row}
use Rattle.ssd_geo.specs.declared.tag.Tag.{Tag}
use Rattle.ssd_histories.specs.CallSteps.{CallStep, is_leave_of, is_sense_of, position_of}
use Rattle.ssd_histories.specs.Copies.{IsLookList}
use Rattle.ssd_histories.specs.HistoryRoom.{has_room_for}
use Rattle.ssd_histories.specs.Rounds.{is_idle_note, is_note}
use Rattle.ssd_histories.specs.SerialCalls.{AreStepsFrom, IsSerialCopy, RoundEnd, SerialCollect, SerialCopies, SerialRound, SerialWrite, collects_again, copy_faults, decides, entry_of, erase_faults, erases, finds_none, goes_on, is_idle, is_refused, makes_room, picks, retires, round_faults, stays, takes, write_faults, writes, writes_again}
use Rattle.ssd_histories.specs.SerialStop.{IsCut}
use Rattle.serial_laws.proofs.LeftLooks.{HasNoLook, end_is_quiet, is_quiet, list_closes, quiet_keeps}
use Rattle.serial_laws.proofs.Lists.{same_first}
use Rattle.serial_laws.proofs.LookLists.{copy_ends, is_end_kind}
use Rattle.serial_laws.proofs.MadeSteps.{steps_grow}

-- a past upon another
pub record IsUpon (older newer : List Entry) : Type 0 where
  pub more : List Entry
  pub newer_is : newer ≡ more ++ older

long : (more older newer : List Entry) → newer ≡ more ++ older → length newer ≡ length more + length older
long more older newer is = ap (λ (past : List Entry). length past) is ∙ length-append more older

-- of two pasts upon which one stands, the longer stands upon the other
suffixes : (a b x y : List Entry) → a ++ x ≡ b ++ y → length y ≤ length x → IsUpon y x
suffixes [] b x y e low = record { more = b; newer_is = e }
suffixes (head ∷ a) [] x y e low =
    let more : length y ≡ length (head ∷ a) + length x = long (head ∷ a) x y (sym e) in absurd (omega (arith, more, low))
suffixes (head ∷ a) (other ∷ b) x y e low = suffixes a b x y (same_first head other (a ++ x) (b ++ y) e).1 low

same_past : (older newer : List Entry) → IsUpon older newer → length newer ≤ length older → newer ≡ older
same_past older newer upon low = by_more upon.more upon.newer_is
  where
    by_more : (more : List Entry) → newer ≡ more ++ older → newer ≡ older
    by_more [] e = e
    by_more (entry ∷ more) e = let is = long (entry ∷ more) older newer e in absurd (omega (arith, is, low))

-- whether an entry is one of a look, behind its first: it has its room set aside
abbrev pub is_inner : Kind → Bool
is_inner (Kind.Sense at place level) = true
is_inner (Kind.Leave at) = true
is_inner (Kind.Move at slot) = true
is_inner (Kind.Changed at found) = true
is_inner (Kind.Condemn at) = true
is_inner (Kind.Stay at worn) = true
is_inner (Kind.BadCopy at slot die fault) = true
is_inner (Kind.FaultSense at place level) = true
is_inner _ = false

pub inner_has_room : (limit : ℕ) (past : List Entry) (kind : Kind) → is_inner kind ≡ true → has_room_for limit past kind ≡ true
inner_has_room limit past (Kind.Sense at place level) e = refl
inner_has_room limit past (Kind.Leave at) e = refl
inner_has_room limit past (Kind.Move at slot) e = refl
inner_has_room limit past (Kind.Changed at found) e = refl
inner_has_room limit past (Kind.Condemn at) e = refl
inner_has_room limit past (Kind.Stay at worn) e = refl
inner_has_room limit past (Kind.BadCopy at slot die fault) e = refl
inner_has_room limit past (Kind.FaultSense at place level) e = refl
inner_has_room limit past kind e = absurd (false≢true e)

sense_is_inner : (at : ℕ) (kind : Kind) → is_sense_of at kind ≡ true → is_inner kind ≡ true
sense_is_inner at (Kind.Sense named place level) e = refl
sense_is_inner at kind e = absurd (false≢true e)

pub leave_is_inner : (at : ℕ) (kind : Kind) → is_leave_of at kind ≡ true → is_inner kind ≡ true
leave_is_inner at (Kind.Leave named) e = refl
leave_is_inner at kind e = absurd (false≢true e)

pub end_is_inner : (kind : Kind) → is_end_kind kind ≡ true → is_inner kind ≡ true
end_is_inner (Kind.FaultSense at place level) e = refl
end_is_inner (Kind.Move at slot) e = refl
end_is_inner (Kind.Changed at found) e = refl
end_is_inner (Kind.Stay at worn) e = refl
end_is_inner (Kind.BadCopy at slot die fault) e = refl
end_is_inner (Kind.Condemn at) e = refl
end_is_inner kind e = absurd (false≢true e)

abbrev pub AreInner : List CallStep → Type 0
AreInner steps = list_all (λ step. is_inner step.entry.kind) steps ≡ true

pub senses_are_inner : (at : ℕ) (senses : List CallStep) → list_all (λ step. is_sense_of at step.entry.kind) senses ≡ true → AreInner senses
senses_are_inner at [] are = refl
senses_are_inner at (step ∷ senses) are =
    let parts = and_parts (is_sense_of at step.entry.kind) (list_all (λ step. is_sense_of at step.entry.kind) senses) are in
    rw (sense_is_inner at step.entry.kind parts.0) (senses_are_inner at senses parts.1)

pub inner_join : (xs ys : List CallStep) → AreInner xs → AreInner ys → AreInner (xs ++ ys)
inner_join xs ys first second = list_all-append (λ step. is_inner step.entry.kind) xs ys ∙ rw first second

-- the entry behind a past that stands among such steps is one of them
inner_next : (tag : Tag) (steps : List CallStep) (past after : List Entry) → AreStepsFrom tag past steps after → AreInner steps →
    (later : List Entry) (next : Entry) (now : List Entry) → after ≡ later ++ next ∷ now → length past ≤ length now →
    is_inner next.kind ≡ true
inner_next tag [] past after are inner later next now is low =
    let more = long later (next ∷ now) after is in
    let same : length past ≡ length after = ap (λ (held : List Entry). length held) are in
    absurd (omega (arith, more, same, low))
inner_next tag (step ∷ steps) past after are inner later next now is low =
    by_test (nat_le (suc (length past)) (length now)) refl
    (inner_next tag steps (step.entry ∷ past) after are.2 parts.1 later next now is)
  where
    parts : (is_inner step.entry.kind ≡ true) × AreInner steps
    parts = and_parts (is_inner step.entry.kind) (list_all (λ one. is_inner one.entry.kind) steps) inner

    here : length now ≤ length past → is_inner next.kind ≡ true
    here high =
        let grown = steps_grow tag (step.entry ∷ past) after steps are.2 in
        let upon : IsUpon (next ∷ now) (step.entry ∷ past) =
        suffixes grown.made later (step.entry ∷ past) (next ∷ now) (sym grown.after_is ∙ is) (omega (arith, high)) in
        let same : ◌≡◌ {A = List Entry} (step.entry ∷ past) (next ∷ now) =
        same_past (next ∷ now) (step.entry ∷ past) upon (omega (arith, low)) in
        subst (λ (entry : Entry). is_inner entry.kind ≡ true) (same_first step.entry next past now same).0 parts.0

    by_test : (b : Bool) → nat_le (suc (length past)) (length now) ≡ b →
        (length (step.entry ∷ past) ≤ length now → is_inner next.kind ≡ true) → is_inner next.kind ≡ true
    by_test true e rest = rest (grind (arith, nat_tests))
    by_test false e rest = here (grind (arith, nat_tests))

-- whether an entry is one outside looks that a call with rounds makes
abbrev pub is_outer : Kind → Bool
is_outer (Kind.Write row slot) = true
is_outer (Kind.BadWrite row slot die fault) = true
is_outer (Kind.Refused row worn) = true
is_outer (Kind.Pick sb) = true
is_outer (Kind.Erase sb) = true
is_outer (Kind.BadErase sb die fault) = true
is_outer (Kind.Note free victim live pins garbage) = true
is_outer _ = false

outer_is_quiet : (kind : Kind) → is_outer kind ≡ true → is_quiet kind ≡ true
outer_is_quiet (Kind.Look row (Row.Page slot serial) closed) e = absurd (false≢true e)
outer_is_quiet (Kind.Look row Row.Empty closed) e = refl
outer_is_quiet (Kind.Look row Row.Lost closed) e = refl
outer_is_quiet (Kind.Leave at) e = absurd (false≢true e)
outer_is_quiet kind e = refl

note_is_outer : (kind : Kind) → is_note kind ≡ true → is_outer kind ≡ true
note_is_outer (Kind.Note free victim live pins garbage) e = refl
note_is_outer kind e = absurd (false≢true e)

idle_is_outer : (kind : Kind) → is_idle_note kind ≡ true → is_outer kind ≡ true
idle_is_outer (Kind.Note free victim live pins garbage) e = refl
idle_is_outer kind e = absurd (false≢true e)

-- a look with what became of it, and its leave
pub record IsLookMade (tag : Tag) (before after : List Entry) : Type 0 where
  pub steps : List CallStep
  pub are_steps : AreStepsFrom tag before steps after
  pub look : CallStep
  pub ending : CallStep
  pub leave : CallStep
  pub is_list : IsLookList steps look (ending ∷ []) leave
  pub is_end : is_end_kind ending.entry.kind ≡ true

-- its entries behind the first have their room set aside
pub record IsBehindLook (tag : Tag) (before after : List Entry) (look : IsLookMade tag before after) : Type 0 where
  pub are_steps :
      AreStepsFrom tag (look.look.entry ∷ before) ((look.is_list.senses ++ look.ending ∷ []) ++ look.leave ∷ []) after
  pub inner : AreInner ((look.is_list.senses ++ look.ending ∷ []) ++ look.leave ∷ [])

pub inner_behind : (tag : Tag) (before after : List Entry) (look : IsLookMade tag before after) → IsBehindLook tag before after look
inner_behind tag before after look =
    let whole : AreStepsFrom tag before (((look.look ∷ look.is_list.senses) ++ look.ending ∷ []) ++ look.leave ∷ []) after =
    subst (λ all. AreStepsFrom tag before all after) look.is_list.are_steps look.are_steps in
    record {
      are_steps = whole.2;
      inner =
          inner_join (look.is_list.senses ++ look.ending ∷ []) (look.leave ∷ [])
          (inner_join look.is_list.senses (look.ending ∷ [])
          (senses_are_inner (position_of look.look) look.is_list.senses look.is_list.are_senses)
          (rw (end_is_inner look.ending.entry.kind look.is_end) refl))
          (rw (leave_is_inner (position_of look.look) look.leave.entry.kind look.is_list.is_left) refl);
    }

-- the entries of a call with rounds, in pieces
pub data Pieces (tag : Tag) : List Entry → List Entry → Type 0 where
  no_more : {before : List Entry} → Pieces tag before before
  outer : {before after : List Entry} {kind : Kind} → is_outer kind ≡ true → Pieces tag (entry_of tag kind ∷ before) after
      → Pieces tag before after
  looks : {before between after : List Entry} → IsLookMade tag before between → Pieces tag between after → Pieces tag before after

joined : {tag : Tag} {a b c : List Entry} → Pieces tag a b → Pieces tag b c → Pieces tag a c
joined no_more ys = ys
joined (outer is xs) ys = outer is (joined xs ys)
joined (looks look xs) ys = looks look (joined xs ys)

module _ (ladder : List Entry → ℕ → LadderState) (base : ChannelBase) (tag : Tag) where
  pub of_copy : {before after : List Entry} {ends fault : Bool} → IsSerialCopy ladder base tag before after ends fault →
      IsLookMade tag before after
  of_copy copy = record {
    steps = copy.steps;
    are_steps = copy.are_steps;
    look = copy.is_copy.look;
    ending = copy.is_copy.is_copy.ending;
    leave = copy.is_copy.is_copy.leave;
    is_list = copy.is_copy.is_copy.is_list;
    is_end = copy_ends ladder (position_of copy.is_copy.look) copy.is_copy.is_copy.ending copy.is_copy.is_copy.ends;
  }

  of_copies : {before after : List Entry} {end : RoundEnd} → SerialCopies ladder base tag before after end → Pieces tag before after
  of_copies (goes_on copy rest) = looks (of_copy copy) (of_copies rest)
  of_copies (stays copy) = looks (of_copy copy) no_more
  of_copies (copy_faults copy) = looks (of_copy copy) no_more
  of_copies (erases victim live) = outer refl no_more
  of_copies (retires victim live) = outer refl no_more
  of_copies (erase_faults victim live) = outer refl no_more
  of_copies (finds_none victim) = no_more

  of_round : {before after : List Entry} {end : RoundEnd} → SerialRound ladder base tag before after end → Pieces tag before after
  of_round (picks may copying) = outer refl (of_copies copying)
  of_round (takes may_not copying) = of_copies copying

  pub of_write : {row : ℕ} {before after : List Entry} → SerialWrite ladder base tag row before after → Pieces tag before after
  of_write (writes room) = outer refl no_more
  of_write (write_faults room) = outer refl no_more
  of_write (writes_again room rest) = outer refl (of_write rest)
  of_write (is_refused room cause) = outer refl no_more
  of_write (makes_room needs round goes rest) = joined (of_round round) (of_write rest)
  of_write (round_faults needs round) = of_round round

  pub of_collect : {before after : List Entry} → SerialCollect ladder base tag before after → Pieces tag before after
  of_collect (decides round is) = of_round round
  of_collect (is_idle {note = note} round is) = joined (of_round round) (outer (idle_is_outer note is) no_more)
  of_collect (collects_again {note = note} round is not_idle rest) =
      joined (of_round round) (outer (note_is_outer note is) (of_collect rest))

-- the pieces stand upon the past before them
look_upon : (tag : Tag) (before after : List Entry) → IsLookMade tag before after → IsUpon before after
look_upon tag before after look =
    let grown = steps_grow tag before after look.steps look.are_steps in record { more = grown.made; newer_is = grown.after_is }

pieces_upon : (tag : Tag) {before after : List Entry} → Pieces tag before after → IsUpon before after
pieces_upon tag no_more = record { more = []; newer_is = refl }
pieces_upon tag {before} {after} (outer {kind = kind} is rest) =
    let later = pieces_upon tag rest in record {
      more = later.more ++ entry_of tag kind ∷ [];
      newer_is = later.newer_is ∙ sym (append_assoc later.more (entry_of tag kind ∷ []) before);
    }
pieces_upon tag {before} {after} (looks {between = between} look rest) =
    let first = look_upon tag before between look in
    let later = pieces_upon tag rest in record {
      more = later.more ++ first.more;
      newer_is =
          later.newer_is ∙ ap (λ (past : List Entry). later.more ++ past) first.newer_is
          ∙ sym (append_assoc later.more first.more before);
    }

-- what holds before such a call, and goes on with each of its pieces, holds after it, and where it was cut
module _ (tag : Tag) (P : List Entry → Type 0)
    (on_outer : (kind : Kind) (past : List Entry) → is_outer kind ≡ true → P past → P (entry_of tag kind ∷ past))
    (on_look : (before after : List Entry) → IsLookMade tag before after → P before → P after) where
  pub pieces_keep : {before after : List Entry} → Pieces tag before after → P before → P after
  pieces_keep no_more held = held
  pieces_keep {before} (outer {kind = kind} is rest) held = pieces_keep rest (on_outer kind before is held)
  pieces_keep {before} (looks {between = between} look rest) held = pieces_keep rest (on_look before between look held)

  module _ (limit : ℕ) (later : List Entry) (next : Entry) (now : List Entry)
      (full : has_room_for limit now next.kind ≡ false) where
    -- none of a look's entries behind the first is the one that finds no room
    not_within : (before between after : List Entry) → IsLookMade tag before between → IsUpon between after →
        after ≡ later ++ next ∷ now → length before < length now → length now < length between → P now
    not_within before between after look upon is low high =
        let behind : IsBehindLook tag before between look = inner_behind tag before between look in
        let part : IsUpon (next ∷ now) between =
        suffixes upon.more later between (next ∷ now) (sym upon.newer_is ∙ is) (omega (arith, high)) in
        let is_one : is_inner next.kind ≡ true =
        inner_next tag ((look.is_list.senses ++ look.ending ∷ []) ++ look.leave ∷ []) (look.look.entry ∷ before) between behind.are_steps behind.inner
        part.more next now part.newer_is (omega (arith, low)) in
        absurd (false≢true (sym full ∙ inner_has_room limit now next.kind is_one))

    there : (before : List Entry) → IsUpon before now → length now ≤ length before → P before → P now
    there before upon low held = subst P (sym (same_past before now upon low)) held

    upon_there : (past after : List Entry) → IsUpon past after → after ≡ later ++ next ∷ now → length past ≤ length now → IsUpon past now
    upon_there past after upon is low =
        suffixes (later ++ next ∷ []) upon.more now past
        (append_assoc later (next ∷ []) now ∙ sym is ∙ upon.newer_is) low

    pub cut_keeps : {before after : List Entry} → Pieces tag before after → after ≡ later ++ next ∷ now → IsUpon before now →
        P before → P now
    cut_keeps {before} no_more is upon held =
        let more = long later (next ∷ now) before is in
        let longer = long upon.more before now upon.newer_is in
        absurd (omega (arith, more, longer))
    cut_keeps {before} {after} (outer {kind = kind} is_out rest) is upon held =
        by_test (nat_le (length now) (length before)) refl
        (λ low. cut_keeps rest is (upon_there (entry_of tag kind ∷ before) after (pieces_upon tag rest) is low)
        (on_outer kind before is_out held))
      where
        by_test : (b : Bool) → nat_le (length now) (length before) ≡ b → (length (entry_of tag kind ∷ before) ≤ length now → P now) → P now
        by_test true e more = there before upon (grind (arith, nat_tests)) held
        by_test false e more = more (grind (arith, nat_tests))
    cut_keeps {before} {after} (looks {between = between} look rest) is upon held =
        by_first (nat_le (length now) (length before)) refl
        (λ low. cut_keeps rest is (upon_there between after (pieces_upon tag rest) is low) (on_look before between look held))
      where
        by_second : (b : Bool) → nat_le (length between) (length now) ≡ b → length before < length now →
            (length between ≤ length now → P now) → P now
        by_second true e low more = more (grind (arith, nat_tests))
        by_second false e low more =
            not_within before between after look (pieces_upon tag rest) is low (grind (arith, nat_tests))

        by_first : (b : Bool) → nat_le (length now) (length before) ≡ b → (length between ≤ length now → P now) → P now
        by_first true e more = there before upon (grind (arith, nat_tests)) held
        by_first false e more = by_second (nat_le (length between) (length now)) refl (grind (arith, nat_tests)) more

-- no look is open where such a call was cut
none_on_outer : (tag : Tag) (kind : Kind) (past : List Entry) → is_outer kind ≡ true → HasNoLook past → HasNoLook (entry_of tag kind ∷ past)
none_on_outer tag kind past is none = quiet_keeps (length past) tag kind _ (outer_is_quiet kind is) ∙ none

none_on_look : (tag : Tag) (before after : List Entry) → IsLookMade tag before after → HasNoLook before → HasNoLook after
none_on_look tag before after look none =
    list_closes tag before after look.steps look.look (look.ending ∷ []) look.leave look.is_list
    (rw (end_is_quiet look.ending.entry.kind look.is_end) refl) look.are_steps none

pub cut_opens_none : (tag : Tag) (fact : List Entry → List Entry → Type 0) →
    ((older newer : List Entry) → fact older newer → Pieces tag older newer) → (limit : ℕ) (before now : List Entry) →
    IsCut fact limit (length now) before now → HasNoLook before → HasNoLook now
cut_opens_none tag fact pieces limit before now cut none =
    cut_keeps tag HasNoLook (none_on_outer tag) (none_on_look tag) limit cut.later cut.next now cut.no_room
    (pieces before (cut.later ++ cut.next ∷ now) cut.whole) refl
    (record { more = cut.made; newer_is = cut.begins }) none
