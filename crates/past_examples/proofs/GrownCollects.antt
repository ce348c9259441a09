-- A collect that finds a victim with a live page copies it: so it adds three entries or more.
use Rattle.std.proofs.Common.{ℕ, ◌+◌, ◌≡◌, ◌≤◌, Bool, true, false, List, [], ◌∷◌, ◌++◌, length, sym, ap, ◌∙◌, arith, length-append}
use Rattle.std.specs.Prelude.{None}
use Rattle.std.proofs.lemmas.Bool.{false≢true}
use Rattle.ssd_geo.specs.Ladder.{LadderState}
use Rattle.ssd_histories.specs.CallSteps.{CallStep}
use Rattle.ssd_histories.specs.Room.{live_of_victim, victim_of}
use Rattle.ssd_histories.specs.SerialCalls.{AreStepsFrom, IsSerialCopy, RoundEnd, SerialCollect, SerialCopies, SerialRound, collects_again, copy_faults, decides, erase_faults, erases, finds_none, goes_on, is_idle, may_pick, picks, retires, stays, takes}
use Rattle.ssd_geo.specs.declared.base.ChannelBase.{ChannelBase}
use Rattle.ssd_geo.specs.declared.entry.Entry.{Entry}
use Rattle.ssd_geo.specs.declared.tag.Tag.{Tag}
use Rattle.ssd_histories.proofs.CountedSteps.{steps_long}

module _ (ladder : List Entry → ℕ → LadderState) (base : ChannelBase) (tag : Tag) where
  copy_adds : (before after : List Entry) (ends fault : Bool) → IsSerialCopy ladder base tag before after ends fault →
      length before + 3 ≤ length after
  copy_adds before after ends fault copy =
      let made = copy.is_copy.is_copy in
      let list = made.is_list in
      let added = steps_long tag before after copy.steps copy.are_steps in
      let same = ap length list.are_steps in
      let outer = length-append ((copy.is_copy.look ∷ list.senses) ++ made.ending ∷ []) (made.leave ∷ []) in
      let inner = length-append (copy.is_copy.look ∷ list.senses) (made.ending ∷ []) in
      omega arith

  copies_add : {before after : List Entry} {end : RoundEnd} → SerialCopies ladder base tag before after end →
      length before ≤ length after
  copies_add {before} (goes_on {between = between} copy rest) =
      let first = copy_adds before between false false copy in
      let more = copies_add rest in
      omega arith
  copies_add {before} {after} (stays copy) = let first = copy_adds before after true false copy in omega arith
  copies_add {before} {after} (copy_faults copy) = let first = copy_adds before after true true copy in omega arith
  copies_add (erases victim live) = omega arith
  copies_add (retires victim live) = omega arith
  copies_add (erase_faults victim live) = omega arith
  copies_add (finds_none victim) = omega arith

  round_adds : {before after : List Entry} {end : RoundEnd} → SerialRound ladder base tag before after end →
      length before ≤ length after
  round_adds (picks may copying) = let more = copies_add copying in omega arith
  round_adds (takes may_not copying) = copies_add copying

  collect_adds : {before after : List Entry} → SerialCollect ladder base tag before after → length before ≤ length after
  collect_adds (decides round done) = round_adds round
  collect_adds (is_idle round idle) = let more = round_adds round in omega arith
  collect_adds (collects_again round is_note not_idle rest) =
      let first = round_adds round in
      let more = collect_adds rest in
      omega arith

  -- a victim with a live page, and no lawful pick
  pub record HasLiveVictim (past : List Entry) : Type 0 where
    pub no_pick : may_pick base past ≡ false
    pub is_victim : victim_of base past ≡ None → ⊥
    pub has_live : live_of_victim base past ≡ 0 → ⊥

  copies_make : {before after : List Entry} {end : RoundEnd} → HasLiveVictim before → SerialCopies ladder base tag before after end →
      length before + 3 ≤ length after
  copies_make {before} has (goes_on {between = between} copy rest) =
      let first = copy_adds before between false false copy in
      let more = copies_add rest in
      omega arith
  copies_make {before} {after} has (stays copy) = copy_adds before after true false copy
  copies_make {before} {after} has (copy_faults copy) = copy_adds before after true true copy
  copies_make has (erases victim live) = absurd (has.has_live live)
  copies_make has (retires victim live) = absurd (has.has_live live)
  copies_make has (erase_faults victim live) = absurd (has.has_live live)
  copies_make has (finds_none victim) = absurd (has.is_victim victim)

  round_makes : {before after : List Entry} {end : RoundEnd} → HasLiveVictim before → SerialRound ladder base tag before after end →
      length before + 3 ≤ length after
  round_makes has (picks may copying) = absurd (false≢true (sym has.no_pick ∙ may))
  round_makes has (takes may_not copying) = copies_make has copying

  pub collect_copies : {before after : List Entry} → HasLiveVictim before → SerialCollect ladder base tag before after →
      length before + 3 ≤ length after
  collect_copies has (decides round done) = round_makes has round
  collect_copies has (is_idle round idle) = let more = round_makes has round in omega arith
  collect_copies has (collects_again round is_note not_idle rest) =
      let first = round_makes has round in
      let more = collect_adds rest in
      omega arith
