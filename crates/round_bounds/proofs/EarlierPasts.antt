-- What stands before a lawful past is lawful, and has no more bad superblocks: before copies, a round and a write.
use Rattle.std.proofs.Common.{ℕ, ◌≤◌, true, false, List, [], ◌∷◌, sym, subst, arith}
use Rattle.ssd_geo.specs.Ladder.{LadderState}
use Rattle.ssd_geo.specs.declared.base.ChannelBase.{ChannelBase}
use Rattle.ssd_geo.specs.declared.entry.Entry.{Entry}
use Rattle.ssd_geo.specs.declared.kind.Kind.{Kind}
use Rattle.ssd_geo.specs.declared.tag.Tag.{Tag}
use Rattle.ssd_histories.specs.CallSteps.{CallStep}
use Rattle.ssd_histories.specs.Lawful.{IsLawfulBy}
use Rattle.ssd_histories.specs.SerialCalls.{AreStepsFrom, RoundEnd, SerialCopies, SerialRound, SerialWrite, copy_faults, entry_of, erase_faults, erases, finds_none, goes_on, is_refused, makes_room, picks, retires, round_faults, stays, takes, write_faults, writes, writes_again}
use Rattle.history_laws.specs.NeverFull.{count_of_bad}
use Rattle.round_bounds.proofs.BadBlocks.{bad_stays_bad}

module _ (ladder : List Entry → ℕ → LadderState) (base : ChannelBase) (tag : Tag) where
  -- a past stands before a lawful one: it is lawful, and has no more bad superblocks
  pub record StandsBefore (before after : List Entry) : Type 0 where
    pub is_lawful : IsLawfulBy ladder base before
    pub no_more_bad : count_of_bad base before ≤ count_of_bad base after

  pub before_one : (entry : Entry) (past : List Entry) → IsLawfulBy ladder base (entry ∷ past) →
      StandsBefore past (entry ∷ past)
  before_one entry past lawful = record
      { is_lawful = lawful.0; no_more_bad = bad_stays_bad ladder base entry past lawful }

  pub before_joins : (before between after : List Entry) → StandsBefore before between → StandsBefore between after →
      StandsBefore before after
  before_joins before between after first second = record
      { is_lawful = first.is_lawful; no_more_bad = omega (arith, first.no_more_bad, second.no_more_bad) }

  pub before_steps : (before after : List Entry) (steps : List CallStep) → AreStepsFrom tag before steps after →
      IsLawfulBy ladder base after → StandsBefore before after
  before_steps before after [] are lawful =
      subst (StandsBefore before) are
      (record { is_lawful = subst (IsLawfulBy ladder base) (sym are) lawful; no_more_bad = omega arith })
  before_steps before after (step ∷ steps) are lawful =
      let rest = before_steps (step.entry ∷ before) after steps are.2 lawful in
      before_joins before (step.entry ∷ before) after (before_one step.entry before rest.is_lawful) rest

  pub before_copies : {before after : List Entry} {end : RoundEnd} → SerialCopies ladder base tag before after end →
      IsLawfulBy ladder base after → StandsBefore before after
  before_copies {before} {after} (goes_on {between = between} copy rest) lawful =
      let later = before_copies rest lawful in
      before_joins before between after (before_steps before between copy.steps copy.are_steps later.is_lawful) later
  before_copies {before} {after} (stays copy) lawful = before_steps before after copy.steps copy.are_steps lawful
  before_copies {before} {after} (copy_faults copy) lawful = before_steps before after copy.steps copy.are_steps lawful
  before_copies {before} (erases {sb = sb} victim live) lawful = before_one (entry_of tag (Kind.Erase sb)) before lawful
  before_copies {before} (retires {sb = sb} {die = die} victim live) lawful =
      before_one (entry_of tag (Kind.BadErase sb die false)) before lawful
  before_copies {before} (erase_faults {sb = sb} {die = die} victim live) lawful =
      before_one (entry_of tag (Kind.BadErase sb die true)) before lawful
  before_copies (finds_none victim) lawful = record { is_lawful = lawful; no_more_bad = omega arith }

  pub before_round : {before after : List Entry} {end : RoundEnd} → SerialRound ladder base tag before after end →
      IsLawfulBy ladder base after → StandsBefore before after
  before_round {before} {after} (picks {sb = sb} may copying) lawful =
      let picked = before_copies copying lawful in
      before_joins before (entry_of tag (Kind.Pick sb) ∷ before) after
      (before_one (entry_of tag (Kind.Pick sb)) before picked.is_lawful) picked
  before_round (takes may_not copying) lawful = before_copies copying lawful

  pub lawful_before : {row : ℕ} {before after : List Entry} → SerialWrite ladder base tag row before after →
      IsLawfulBy ladder base after → IsLawfulBy ladder base before
  lawful_before (writes room) lawful = lawful.0
  lawful_before (write_faults room) lawful = lawful.0
  lawful_before (writes_again room rest) lawful = (lawful_before rest lawful).0
  lawful_before (is_refused room cause) lawful = lawful.0
  lawful_before (makes_room needs round goes rest) lawful = (before_round round (lawful_before rest lawful)).is_lawful
  lawful_before (round_faults needs round) lawful = (before_round round lawful).is_lawful
