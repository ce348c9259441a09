-- What a round comes to that a write goes on after: it was due, or a superblock turned bad in it.
use Rattle.std.proofs.Common.{◌≡◌, ℕ, ◌+◌, ◌≤◌, ◌==◌, ◌||◌, Bool, true, false, List, ◌∷◌, refl, ap, sym, subst, ◌∙◌, Option, Some, None, arith, ◌⊎◌, inl, inr}
use Rattle.std.specs.Prelude.{count_by, is_none, is_some}
use Rattle.std.proofs.lemmas.Bool.{false≢true}
use Rattle.ssd_geo.specs.Ladder.{LadderState}
use Rattle.ssd_geo.specs.declared.base.BlockBase.{BlockBase}
use Rattle.ssd_geo.specs.declared.base.ChannelBase.{ChannelBase}
use Rattle.ssd_geo.specs.declared.entry.Entry.{Entry}
use Rattle.ssd_geo.specs.declared.kind.Kind.{Kind}
use Rattle.ssd_geo.specs.declared.row.Row.{Row}
use Rattle.ssd_geo.specs.declared.slot.Slot.{Slot}
use Rattle.ssd_geo.specs.declared.tag.Tag.{Tag}
use Rattle.ssd_histories.specs.Blocks as Blocks
use Rattle.ssd_histories.specs.CallSteps.{is_fault, is_stay}
use Rattle.ssd_histories.specs.Lawful.{IsLawfulBy}
use Rattle.ssd_histories.specs.PastBlocks.{blocks_of, slots_in}
use Rattle.ssd_histories.specs.PastRows.{rows_of}
use Rattle.ssd_histories.specs.Reserve.{is_bad_kind}
use Rattle.ssd_histories.specs.Room.{count_of_free, has_host_room, is_full, is_worn, victim_of}
use Rattle.ssd_histories.specs.Rounds.{needs_room}
use Rattle.ssd_histories.specs.SerialCalls.{IsSerialCopy, RoundEnd, SerialCopies, SerialRound, copy_faults, entry_of, erase_faults, erases, finds_none, goes_on, is_faultless, picks, retires, stays, takes}
use Rattle.ssd_histories.proofs.BlockSteps.{blocks_after_entry}
use Rattle.ssd_histories.proofs.UsedSlots.{made}
use Rattle.serial_laws.proofs.LookLists.{is_end_kind}
use Rattle.history_laws.specs.NeverFull.{count_of_bad, is_bad_block}
use Rattle.history_laws.proofs.Counting.{one}
use Rattle.round_bounds.specs.RoundBounds.{is_round_end, round_ends_in}
use Rattle.round_bounds.proofs.BadBlocks.{bad_is_more, good_is_same}
use Rattle.round_bounds.proofs.CopyParts.{CopyParts, IsStill, copy_parts, ends_after}
use Rattle.round_bounds.proofs.SpareSlots.{HasSpare, erase_leaves_room, spare_from_pick, spare_stays}
use Rattle.round_bounds.proofs.VictimSteps.{leaves_victim, pick_makes_victim, victim_goes, victim_is_left}
use Rattle.round_bounds.proofs.WornByStay.{worn_after_stay}
use Rattle.round_bounds.proofs.DueRounds.{IsOver, due_at_most, due_of_room, due_where_worn, due_with_room, due_with_victim, due_without_victim, has_due, has_victim, later_worn, room_isnt_worn, rounds_due}
use Rattle.round_bounds.proofs.EarlierPasts.{before_copies}
use Rattle.round_bounds.proofs.RoundEnds.{ends_after_copy, ends_as_many}

end_leaves : (kind : Kind) → is_end_kind kind ≡ true → leaves_victim kind ≡ true
end_leaves (Kind.Pick sb) is = absurd (false≢true is)
end_leaves (Kind.Erase sb) is = absurd (false≢true is)
end_leaves (Kind.BadErase sb die fault) is = absurd (false≢true is)
end_leaves kind is = refl

-- the stay of a copy that ended its round without a fault
record IsAStay (kind : Kind) : Type 0 where
  at : ℕ
  worn : Bool
  is_stay : kind ≡ Kind.Stay at worn

only_stay : (kind : Kind) → (is_stay kind || is_fault kind) ≡ true → is_fault kind ≡ false → IsAStay kind
only_stay (Kind.Stay at worn) ends none = record { at = at; worn = worn; is_stay = refl }
only_stay kind ends none = absurd (false≢true (sym none ∙ ends))

module _ (ladder : List Entry → ℕ → LadderState) (base : ChannelBase) (sound : Blocks.AreSound (slots_in base) base.blocks)
    (tag : Tag) where
  -- a past in a round: there is a victim, and so many superblocks are bad, or one fewer and there are spare slots
  record StandsIn (bad : ℕ) (past : List Entry) : Type 0 where
    sb : ℕ
    is_victim : victim_of base past ≡ Some sb
    low : bad ≤ count_of_bad base past + 1
    spare : (bad ≤ count_of_bad base past)
        ⊎ HasSpare (slots_in base) (blocks_of base past) (rows_of base past)

  -- a round that came to its end: so many more rounds are due at most, and it ended once
  record IsDone (bad : ℕ) (before after : List Entry) : Type 0 where
    due : rounds_due base after + bad ≤ count_of_bad base after + 1
    ends : round_ends_in after ≡ round_ends_in before + 1
    over : IsOver base after

  -- a past stands as another with the same superblocks and rows does
  stands_still : (bad : ℕ) (before after : List Entry) → IsStill base before after → StandsIn bad before →
      StandsIn bad after
  stands_still bad before after still stands = record {
    sb = stands.sb;
    is_victim = ap {B = Option ℕ} Blocks.victim_in still.same_blocks ∙ stands.is_victim;
    low = subst (λ (n : ℕ). bad ≤ n + 1) same stands.low;
    spare = elim stands.spare [
      | inl enough ↦ inl (subst (λ (n : ℕ). bad ≤ n) same enough)
      | inr spare ↦ inr (subst (λ (rows : List Row). HasSpare (slots_in base) (blocks_of base after) rows)
          (sym still.same_rows)
          (subst (λ (blocks : List BlockBase). HasSpare (slots_in base) blocks (rows_of base before))
          (sym still.same_blocks) spare))
    ];
  }
    where
      same : count_of_bad base before ≡ count_of_bad base after
      same = sym (ap {B = ℕ} (λ (blocks : List BlockBase). count_by is_bad_block blocks) still.same_blocks)

  -- so it does after an entry of a copy
  stands_after_end : (bad : ℕ) (past : List Entry) (by : Tag) (kind : Kind) →
      IsLawfulBy ladder base (made by kind ∷ past) → is_end_kind kind ≡ true → StandsIn bad past →
      StandsIn bad (made by kind ∷ past)
  stands_after_end bad past by kind lawful is stands = by_kind (is_bad_kind kind) refl
    where
      victim : victim_of base (made by kind ∷ past) ≡ Some stands.sb
      victim = victim_is_left ladder base past by kind lawful (end_leaves kind is) ∙ stands.is_victim

      by_kind : (b : Bool) → is_bad_kind kind ≡ b → StandsIn bad (made by kind ∷ past)
      by_kind true e =
          let more = bad_is_more ladder base past by kind lawful e in
          record {
            sb = stands.sb;
            is_victim = victim;
            low = omega (arith, more, stands.low);
            spare = inl (omega (arith, more, stands.low));
          }
      by_kind false e =
          let same = good_is_same base (made by kind) past e in
          record {
            sb = stands.sb;
            is_victim = victim;
            low = omega (arith, same, stands.low);
            spare = elim stands.spare [
              | inl enough ↦ inl (omega (arith, same, enough))
              | inr spare ↦ inr (spare_stays ladder base past by kind lawful is e spare)
            ];
          }

  -- and after a copy
  stands_after_copy : (bad : ℕ) {before after : List Entry} {ends fault : Bool} →
      (parts : CopyParts ladder base before after ends fault) → IsLawfulBy ladder base after →
      StandsIn bad before → StandsIn bad after
  stands_after_copy bad {before} {after} {ends} {fault} parts lawful stands =
      stands_still bad (made parts.tag parts.kind ∷ parts.sensed) after parts.last
      (stands_after_end bad parts.sensed parts.tag parts.kind (lawful_end parts lawful) parts.is_end
      (stands_still bad before parts.sensed parts.first stands))
    where
      lawful_end : (parts : CopyParts ladder base before after ends fault) → IsLawfulBy ladder base after →
          IsLawfulBy ladder base (made parts.tag parts.kind ∷ parts.sensed)
      lawful_end parts lawful = (subst (IsLawfulBy ladder base) (sym parts.after_is) lawful).0

  -- an erase: one more round is due at most, and none where there were spare slots
  done_by_erase : (bad : ℕ) (past : List Entry) (sb : ℕ) → IsLawfulBy ladder base (entry_of tag (Kind.Erase sb) ∷ past) →
      StandsIn bad past → IsDone bad past (entry_of tag (Kind.Erase sb) ∷ past)
  done_by_erase bad past sb lawful stands = record {
    due = by_spare stands.spare;
    ends = ends_after entry past;
    over = inl none;
  }
    where
      entry : Entry
      entry = entry_of tag (Kind.Erase sb)

      none : victim_of base (entry ∷ past) ≡ None
      none =
          victim_goes ladder base entry past sb (Blocks.erased_block (Blocks.block_at (blocks_of base past) sb)) sound
          lawful lawful.1.meets.may_erase.is_victim (blocks_after_entry ladder base entry past lawful) refl

      same : count_of_bad base (entry ∷ past) ≡ count_of_bad base past
      same = good_is_same base entry past refl

      by_spare : (bad ≤ count_of_bad base past)
          ⊎ HasSpare (slots_in base) (blocks_of base past) (rows_of base past) →
          rounds_due base (entry ∷ past) + bad ≤ count_of_bad base (entry ∷ past) + 1
      by_spare (inl enough) =
          omega (
            arith,
            same,
            enough,
            due_without_victim (is_worn base (entry ∷ past)) (victim_of base (entry ∷ past))
                (has_host_room base (entry ∷ past)) none,
          )
      by_spare (inr spare) =
          omega (
            arith,
            same,
            stands.low,
            due_with_room (is_worn base (entry ∷ past)) (victim_of base (entry ∷ past))
                (has_host_room base (entry ∷ past)) none (erase_leaves_room ladder base past tag sb lawful spare),
          )

  -- a failed erase: the victim is bad
  done_by_failed_erase : (bad : ℕ) (past : List Entry) (sb die : ℕ) →
      IsLawfulBy ladder base (entry_of tag (Kind.BadErase sb die false) ∷ past) →
      StandsIn bad past → IsDone bad past (entry_of tag (Kind.BadErase sb die false) ∷ past)
  done_by_failed_erase bad past sb die lawful stands = record {
    due =
        omega (
          arith,
          stands.low,
          bad_is_more ladder base past tag (Kind.BadErase sb die false) lawful refl,
          due_without_victim (is_worn base (entry ∷ past)) (victim_of base (entry ∷ past))
              (has_host_room base (entry ∷ past)) none,
        );
    ends = ends_after entry past;
    over = inl none;
  }
    where
      entry : Entry
      entry = entry_of tag (Kind.BadErase sb die false)

      none : victim_of base (entry ∷ past) ≡ None
      none =
          victim_goes ladder base entry past sb (Blocks.retired_block (Blocks.block_at (blocks_of base past) sb)) sound
          lawful lawful.1.meets.may_erase.is_victim (blocks_after_entry ladder base entry past lawful) refl

  -- a stay: the channel is worn
  done_by_stay : (bad : ℕ) {before after : List Entry} → IsSerialCopy ladder base tag before after true false →
      IsLawfulBy ladder base after → StandsIn bad before → IsDone bad before after
  done_by_stay bad {before} {after} copy lawful stands = record {
    due = omega (arith, (stands_after_copy bad parts lawful stands).low, due_where_worn base after worn);
    ends = omega (
      arith,
      ends_after_copy ladder base tag parts,
      ap {B = ℕ} (λ (kind : Kind). one (is_round_end kind)) stay.is_stay,
    );
    over = inr worn;
  }
    where
      parts : CopyParts ladder base before after true false
      parts = copy_parts ladder base tag before after true false copy

      stay : IsAStay parts.kind
      stay = only_stay parts.kind parts.ends_is parts.fault_is

      worn : is_worn base after ≡ true
      worn =
          worn_after_stay ladder base before after parts stay.at stay.worn stay.is_stay
          (subst (IsLawfulBy ladder base) (sym parts.after_is) lawful).0 copy.has_live

  -- copies up to the end of a round
  copies_done : (bad : ℕ) {before after : List Entry} {end : RoundEnd} →
      SerialCopies ladder base tag before after end → is_faultless end ≡ true → IsLawfulBy ladder base after →
      StandsIn bad before → IsDone bad before after
  copies_done bad {before} (goes_on {between = between} copy rest) goes lawful stands =
      let here = (before_copies ladder base tag rest lawful).is_lawful in
      let parts = copy_parts ladder base tag before between false false copy in
      let done = copies_done bad rest goes lawful (stands_after_copy bad parts here stands) in
      record { due = done.due; ends = omega (arith, done.ends, ends_as_many ladder base tag copy); over = done.over }
  copies_done bad (stays copy) goes lawful stands = done_by_stay bad copy lawful stands
  copies_done bad (copy_faults copy) goes lawful stands = absurd (false≢true goes)
  copies_done bad {before} (erases {sb = sb} victim live) goes lawful stands = done_by_erase bad before sb lawful stands
  copies_done bad {before} (retires {sb = sb} {die = die} victim live) goes lawful stands =
      done_by_failed_erase bad before sb die lawful stands
  copies_done bad (erase_faults victim live) goes lawful stands = absurd (false≢true goes)
  copies_done bad (finds_none none) goes lawful stands = absurd (no_victim (sym none ∙ stands.is_victim))
    where
      no_victim : {sb : ℕ} → ◌≡◌ {A = Option ℕ} None (Some sb) → ⊥
      no_victim e = cc

  -- ---- rounds and writes

  -- a round that a write made and went on after: it was due, or a superblock turned bad in it
  pub record IsWorth (before after : List Entry) : Type 0 where
    pub due : rounds_due base after + count_of_bad base before + 1
        ≤ rounds_due base before + count_of_bad base after
    pub ends : round_ends_in after ≡ round_ends_in before + 1
    pub over : IsOver base after

  stands_at_victim : (past : List Entry) (o : Option ℕ) → victim_of base past ≡ o → is_some o ≡ true →
      StandsIn (count_of_bad base past) past
  stands_at_victim past None is some = absurd (false≢true some)
  stands_at_victim past (Some sb) is some =
      record { sb = sb; is_victim = is; low = omega arith; spare = inl (omega arith) }

  pub round_is_worth : {before after : List Entry} {end : RoundEnd} → needs_room base before ≡ true →
      SerialRound ladder base tag before after end → is_faultless end ≡ true → IsLawfulBy ladder base after →
      IsWorth before after
  round_is_worth {before} {after} needs (picks {sb = sb} may copying) goes lawful =
      record {
        due = omega (arith, has_due base before needs, done.due);
        ends = omega (arith, done.ends, ends_after (entry_of tag (Kind.Pick sb)) before);
        over = done.over;
      }
    where
      picked : List Entry
      picked = entry_of tag (Kind.Pick sb) ∷ before

      lawful_pick : IsLawfulBy ladder base picked
      lawful_pick = (before_copies ladder base tag copying lawful).is_lawful

      done : IsDone (count_of_bad base before + 1) picked after
      done =
          copies_done (count_of_bad base before + 1) copying goes lawful
          (record {
            sb = sb;
            is_victim = pick_makes_victim ladder base before tag sb lawful_pick;
            low = omega (arith, good_is_same base (entry_of tag (Kind.Pick sb)) before refl);
            spare = inr (spare_from_pick ladder base before tag sb lawful_pick);
          })
  round_is_worth {before} {after} needs (takes may_not copying) goes lawful =
      let some = has_victim base before needs may_not in
      let done = copies_done (count_of_bad base before) copying goes lawful
      (stands_at_victim before (victim_of base before) refl some) in
      record {
        due =
            omega (
              arith,
              done.due,
              due_with_victim (is_worn base before) (victim_of base before) (has_host_room base before)
                  (is_full base before) needs some,
            );
        ends = done.ends;
        over = done.over;
      }

  -- a write whose program failed made one superblock bad, and may have one more round due
  pub failed_write : (row : ℕ) (slot : Slot) (die : ℕ) (fault : Bool) (past : List Entry) → has_host_room base past ≡ true →
      IsLawfulBy ladder base (entry_of tag (Kind.BadWrite row slot die fault) ∷ past) →
      rounds_due base (entry_of tag (Kind.BadWrite row slot die fault) ∷ past) ≤ rounds_due base past + 1
  failed_write row slot die fault past room lawful = by_victim (victim_of base past) refl
    where
      entry : Entry
      entry = entry_of tag (Kind.BadWrite row slot die fault)

      same : victim_of base (entry ∷ past) ≡ victim_of base past
      same = victim_is_left ladder base past tag (Kind.BadWrite row slot die fault) lawful refl

      by_victim : (o : Option ℕ) → victim_of base past ≡ o →
          rounds_due base (entry ∷ past) ≤ rounds_due base past + 1
      by_victim None is =
          omega (
            arith,
            due_without_victim (is_worn base (entry ∷ past)) (victim_of base (entry ∷ past))
                (has_host_room base (entry ∷ past)) (same ∙ is),
          )
      by_victim (Some sb) is =
          omega (
            arith,
            due_at_most (is_worn base (entry ∷ past)) (victim_of base (entry ∷ past))
                (has_host_room base (entry ∷ past)),
            due_of_room (victim_of base past) (count_of_free base past == 0)
                (is_none (victim_of base past) || later_worn base past) (has_host_room base past)
                (room_isnt_worn (is_some (Blocks.frontier_of (blocks_of base past))) (count_of_free base past) room)
                (ap {B = Bool} is_some is),
          )
