-- Where does a call with rounds stop for want of room? Its form over the past tells which room the next entry asks for: a round
-- that takes a victim asks for a look's, whether a copy or an erase comes next; a pick, a note, and a write that needs no round
-- ask for one entry's. So a call that was cut stopped at one of these places.
use Rattle.std.proofs.Common.{ℕ, ◌≡◌, Bool, true, false, List, ◌∷◌, Option, Some, None, refl, sym, subst, ◌∙◌, inl, inr, arith}
use Rattle.ssd_geo.specs.Ladder.{LadderState}
use Rattle.ssd_histories.specs.HistoryRoom.{has_look_room, has_room_for, has_step_room}
use Rattle.ssd_histories.specs.Room.{has_host_room, is_full, is_worn, victim_of}
use Rattle.ssd_histories.specs.Rounds.{is_idle_note, is_note, needs_room}
use Rattle.ssd_histories.specs.SerialCalls.{IsSerialCopy, RoundEnd, SerialCollect, SerialCopies, SerialRound, SerialWrite, collects_again, copy_faults, decides, entry_of, erase_faults, erases, finds_none, goes_on, is_faultless, is_idle, is_refused, left, makes_room, may_pick, picks, retires, round_faults, stays, takes, write_faults, writes, writes_again}
use Rattle.ssd_geo.specs.declared.base.ChannelBase.{ChannelBase}
use Rattle.ssd_geo.specs.declared.entry.Entry.{Entry}
use Rattle.ssd_geo.specs.declared.kind.Kind.{Kind}
use Rattle.ssd_geo.specs.declared.slot.Slot.{Slot}
use Rattle.ssd_geo.specs.declared.tag.Tag.{Tag}
use Rattle.serial_laws.proofs.LeftLooks.{idle_is_note}
use Rattle.serial_output.specs.SameChoices.{ComesTo}
use Rattle.serial_output.proofs.CutSteps.{IsUnopened, copy_opens, no_room_at, note_asks, opening_cut}
use Rattle.serial_output.proofs.NextEntries.{comes_before, comes_to_itself}
use Rattle.serial_output.proofs.NextOnTheWay.{IsLastEntry, IsNextOrOn, comes_later, is_next, last_entry, never_back, next_or_on, within_or_on}
use Rattle.serial_output.proofs.SameRounds.{copies_come, no_live}
use Rattle.serial_output.proofs.SameWrites.{collect_comes, refused_or_needs, room_or_needs, write_comes}

-- the part of a round after its pick, cut before a copy, or before the erase: some copies are whole, and there is a victim
pub data CutCopies (ladder : List Entry → ℕ → LadderState) (base : ChannelBase) (tag : Tag) (limit : ℕ) : List Entry →
    List Entry → Type 0 where
  at_victim : {before now : List Entry} {sb : ℕ} → now ≡ before → victim_of base before ≡ Some sb
      → has_look_room limit before ≡ false → CutCopies ladder base tag limit before now
  copied : {before between now : List Entry} → IsSerialCopy ladder base tag before between false false
      → CutCopies ladder base tag limit between now → CutCopies ladder base tag limit before now

-- a round, cut before its pick, or after it
pub data CutRound (ladder : List Entry → ℕ → LadderState) (base : ChannelBase) (tag : Tag) (limit : ℕ) : List Entry →
    List Entry → Type 0 where
  at_pick : {before now : List Entry} → now ≡ before → may_pick base before ≡ true → has_step_room limit before ≡ false
      → CutRound ladder base tag limit before now
  picked : {before now : List Entry} {sb : ℕ} → may_pick base before ≡ true
      → CutCopies ladder base tag limit (entry_of tag (Kind.Pick sb) ∷ before) now → CutRound ladder base tag limit before now
  took : {before now : List Entry} → may_pick base before ≡ false → CutCopies ladder base tag limit before now
      → CutRound ladder base tag limit before now

-- a write, cut before an entry of its own, or in a round
pub data CutWrite (ladder : List Entry → ℕ → LadderState) (base : ChannelBase) (tag : Tag) (limit row : ℕ) : List Entry →
    List Entry → Type 0 where
  at_write : {before now : List Entry} → now ≡ before → (needs_room base before ≡ true → ⊥)
      → has_step_room limit before ≡ false → CutWrite ladder base tag limit row before now
  wrote_again : {before now : List Entry} {slot : Slot} {die : ℕ} → has_host_room base before ≡ true
      → CutWrite ladder base tag limit row (entry_of tag (Kind.BadWrite row slot die false) ∷ before) now
      → CutWrite ladder base tag limit row before now
  in_round : {before now : List Entry} → needs_room base before ≡ true → CutRound ladder base tag limit before now
      → CutWrite ladder base tag limit row before now
  made_room : {before between now : List Entry} {end : RoundEnd} → needs_room base before ≡ true
      → SerialRound ladder base tag before between end → is_faultless end ≡ true →
      CutWrite ladder base tag limit row between now
      → CutWrite ladder base tag limit row before now

-- a collect, cut in a round, or before its note
pub data CutCollect (ladder : List Entry → ℕ → LadderState) (base : ChannelBase) (tag : Tag) (limit : ℕ) : List Entry →
    List Entry → Type 0 where
  in_turn : {before now : List Entry} → CutRound ladder base tag limit before now → CutCollect ladder base tag limit before now
  at_note : {before now : List Entry} → SerialRound ladder base tag before now left → has_step_room limit now ≡ false
      → CutCollect ladder base tag limit before now
  noted : {before between now : List Entry} {note : Kind} → SerialRound ladder base tag before between left
      → is_note note ≡ true → is_idle_note note ≡ false → CutCollect ladder base tag limit (entry_of tag note ∷ between) now
      → CutCollect ladder base tag limit before now

module _ (ladder : List Entry → ℕ → LadderState) (base : ChannelBase) (tag : Tag) (limit : ℕ) where
  -- a copy is cut only before its look
  copy_cut : (before between : List Entry) (ends fault : Bool) → IsSerialCopy ladder base tag before between ends fault →
      (next : Entry) (now : List Entry) → ComesTo before now → ComesTo (next ∷ now) between →
      has_room_for limit now next.kind ≡ false → CutCopies ladder base tag limit before now
  copy_cut before between ends fault copy next now begins goes none = by_victim (victim_of base before) refl
    where
      unopened : IsUnopened (has_look_room limit) before now
      unopened =
          opening_cut tag (has_look_room limit) limit copy.steps before between copy.are_steps
          (copy_opens limit ladder base tag before between ends fault copy) next now begins goes none

      by_victim : (victim : Option ℕ) → victim_of base before ≡ victim → CutCopies ladder base tag limit before now
      by_victim None is =
          let live = copy.has_live in let zero_live = no_live base before is in absurd (omega (arith, live, zero_live))
      by_victim (Some sb) is = at_victim unopened.same_past is unopened.no_room

  -- an erase too
  erase_cut : (before : List Entry) (kind : Kind) (sb : ℕ) → victim_of base before ≡ Some sb →
      ((past : List Entry) → has_room_for limit past kind ≡ has_look_room limit past) → (next : Entry) (now : List Entry) →
      ComesTo before now → ComesTo (next ∷ now) (entry_of tag kind ∷ before) → has_room_for limit now next.kind ≡ false →
      CutCopies ladder base tag limit before now
  erase_cut before kind sb victim asks next now begins goes none =
      let last : IsLastEntry (entry_of tag kind) next before now = last_entry (entry_of tag kind) next before now begins goes in
      at_victim last.same_past victim
      (sym (asks before)
      ∙ no_room_at limit before now (entry_of tag kind) next last.same_past last.same_entry none)

  pub copies_cut : {before after : List Entry} {end : RoundEnd} → SerialCopies ladder base tag before after end →
      (next : Entry) (now : List Entry) → ComesTo before now → ComesTo (next ∷ now) after →
      has_room_for limit now next.kind ≡ false → CutCopies ladder base tag limit before now
  copies_cut {before} {after} (goes_on {between = between} copy rest) next now begins goes none =
      elim (within_or_on between now after next (copies_come ladder base tag rest) goes) [
        | inl first ↦ copy_cut before between false false copy next now begins first none
        | inr later ↦ copied copy (copies_cut rest next now later goes none)
      ]
  copies_cut {before} {after} (stays copy) next now begins goes none =
      copy_cut before after true false copy next now begins goes none
  copies_cut {before} {after} (copy_faults copy) next now begins goes none =
      copy_cut before after true true copy next now begins goes none
  copies_cut {before} (erases {sb = sb} victim live) next now begins goes none =
      erase_cut before (Kind.Erase sb) sb victim (λ past. refl) next now begins goes none
  copies_cut {before} (retires {sb = sb} {die = die} victim live) next now begins goes none =
      erase_cut before (Kind.BadErase sb die false) sb victim (λ past. refl) next now begins goes none
  copies_cut {before} (erase_faults {sb = sb} {die = die} victim live) next now begins goes none =
      erase_cut before (Kind.BadErase sb die true) sb victim (λ past. refl) next now begins goes none
  copies_cut {before} (finds_none nobody) next now begins goes none = absurd (never_back next before now begins goes)

  pub round_cut : {before after : List Entry} {end : RoundEnd} → SerialRound ladder base tag before after end →
      (next : Entry) (now : List Entry) → ComesTo before now → ComesTo (next ∷ now) after →
      has_room_for limit now next.kind ≡ false → CutRound ladder base tag limit before now
  round_cut {before} {after} (picks {sb = sb} may copies) next now begins goes none =
      by_next
      (next_or_on (entry_of tag (Kind.Pick sb)) next before now after begins (copies_come ladder base tag copies) goes)
    where
      by_next : IsNextOrOn (entry_of tag (Kind.Pick sb)) next before now → CutRound ladder base tag limit before now
      by_next (is_next same is) =
          at_pick same may (no_room_at limit before now (entry_of tag (Kind.Pick sb)) next same is none)
      by_next (comes_later later) = picked may (copies_cut copies next now later goes none)
  round_cut (takes may_not copies) next now begins goes none = took may_not (copies_cut copies next now begins goes none)

  has_room_already : (before : List Entry) → has_host_room base before ≡ true → needs_room base before ≡ true → ⊥
  has_room_already before = room_or_needs (has_host_room base before) (is_worn base before) (is_full base before)

  module _ (row : ℕ) where
    -- before an entry of a write's own
    entry_cut : (before : List Entry) (kind : Kind) → (needs_room base before ≡ true → ⊥) →
        ((past : List Entry) → has_room_for limit past kind ≡ has_step_room limit past) → (next : Entry) (now : List Entry) →
        now ≡ before → next ≡ entry_of tag kind → has_room_for limit now next.kind ≡ false →
        CutWrite ladder base tag limit row before now
    entry_cut before kind needs_none asks next now same is none =
        at_write same needs_none
        (sym (asks before) ∙ no_room_at limit before now (entry_of tag kind) next same is none)

    last_cut : (before : List Entry) (kind : Kind) → (needs_room base before ≡ true → ⊥) →
        ((past : List Entry) → has_room_for limit past kind ≡ has_step_room limit past) → (next : Entry) (now : List Entry) →
        ComesTo before now → ComesTo (next ∷ now) (entry_of tag kind ∷ before) → has_room_for limit now next.kind ≡ false →
        CutWrite ladder base tag limit row before now
    last_cut before kind needs_none asks next now begins goes none =
        let last : IsLastEntry (entry_of tag kind) next before now = last_entry (entry_of tag kind) next before now begins goes
        in
        entry_cut before kind needs_none asks next now last.same_past last.same_entry none

    pub write_cut : {before after : List Entry} → SerialWrite ladder base tag row before after →
        (next : Entry) (now : List Entry) →
        ComesTo before now → ComesTo (next ∷ now) after → has_room_for limit now next.kind ≡ false →
        CutWrite ladder base tag limit row before now
    write_cut {before} (writes {slot = slot} room) next now begins goes none =
        last_cut before (Kind.Write row slot) (has_room_already before room) (λ past. refl) next now begins goes none
    write_cut {before} (write_faults {slot = slot} {die = die} room) next now begins goes none =
        last_cut before (Kind.BadWrite row slot die true) (has_room_already before room) (λ past. refl) next now begins goes
        none
    write_cut {before} {after} (writes_again {slot = slot} {die = die} room rest) next now begins goes none =
        by_next
        (next_or_on (entry_of tag (Kind.BadWrite row slot die false)) next before now after begins
        (write_comes ladder base tag row rest) goes) (λ later. write_cut rest next now later goes none)
      where
        by_next : IsNextOrOn (entry_of tag (Kind.BadWrite row slot die false)) next before now →
            (ComesTo (entry_of tag (Kind.BadWrite row slot die false) ∷ before) now →
            CutWrite ladder base tag limit row (entry_of tag (Kind.BadWrite row slot die false) ∷ before) now) →
            CutWrite ladder base tag limit row before now
        by_next (is_next same is) more =
            entry_cut before (Kind.BadWrite row slot die false) (has_room_already before room) (λ past. refl) next now same is
            none
        by_next (comes_later later) more = wrote_again room (more later)
    write_cut {before} (is_refused {worn = worn} room cause) next now begins goes none =
        last_cut before (Kind.Refused row worn)
        (refused_or_needs (has_host_room base before) (is_worn base before) (is_full base before) cause) (λ past. refl) next now
        begins goes none
    write_cut {before} {after} (makes_room {between = between} {end = end} needs round faultless rest) next now begins goes
        none =
        elim (within_or_on between now after next (write_comes ladder base tag row rest) goes) [
          | inl first ↦ in_round needs (round_cut round next now begins first none)
          | inr later ↦ made_room needs round faultless (write_cut rest next now later goes none)
        ]
    write_cut (round_faults needs round) next now begins goes none = in_round needs (round_cut round next now begins goes none)

  -- before a note
  note_cut : (before between : List Entry) (note : Kind) → SerialRound ladder base tag before between left →
      is_note note ≡ true →
      (next : Entry) (now : List Entry) → now ≡ between → next ≡ entry_of tag note → has_room_for limit now next.kind ≡ false →
      CutCollect ladder base tag limit before now
  note_cut before between note round is_one next now same is none =
      at_note (subst (λ (past : List Entry). SerialRound ladder base tag before past left) (sym same) round)
      (subst (λ (past : List Entry). has_step_room limit past ≡ false) (sym same)
      (sym (note_asks limit between note is_one) ∙ no_room_at limit between now (entry_of tag note) next same is none))

  pub collect_cut : {before after : List Entry} → SerialCollect ladder base tag before after →
      (next : Entry) (now : List Entry) →
      ComesTo before now → ComesTo (next ∷ now) after → has_room_for limit now next.kind ≡ false →
      CutCollect ladder base tag limit before now
  collect_cut (decides round is) next now begins goes none = in_turn (round_cut round next now begins goes none)
  collect_cut {before} {after} (is_idle {between = between} {note = note} round idle) next now begins goes none =
      elim (within_or_on between now after next (comes_before (entry_of tag note) between after (comes_to_itself after)) goes) [
        | inl first ↦ in_turn (round_cut round next now begins first none)
        | inr later ↦
            let last : IsLastEntry (entry_of tag note) next between now =
            last_entry (entry_of tag note) next between now later goes in
            note_cut before between note round (idle_is_note note idle) next now last.same_past last.same_entry none
      ]
  collect_cut {before} {after} (collects_again {between = between} {note = note} round is busy rest) next now begins goes none =
      elim (within_or_on between now after next
      (comes_before (entry_of tag note) between after (collect_comes ladder base tag rest)) goes) [
        | inl first ↦ in_turn (round_cut round next now begins first none)
        | inr later ↦
            by_next (next_or_on (entry_of tag note) next between now after later (collect_comes ladder base tag rest) goes)
            (λ on. collect_cut rest next now on goes none)
      ]
    where
      by_next : IsNextOrOn (entry_of tag note) next between now →
          (ComesTo (entry_of tag note ∷ between) now → CutCollect ladder base tag limit (entry_of tag note ∷ between) now) →
          CutCollect ladder base tag limit before now
      by_next (is_next same is_it) more = note_cut before between note round is next now same is_it none
      by_next (comes_later on) more = noted round is busy (more on)
