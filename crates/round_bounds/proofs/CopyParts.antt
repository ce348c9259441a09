-- A copy, taken apart: its look and senses leave the room as it is, then stands one entry of its own kind, and its leave leaves
-- all as it is again.
use Rattle.std.proofs.Common.{◌≡◌, ℕ, ◌+◌, ◌<◌, ◌||◌, Bool, true, false, cond, List, [], ◌∷◌, ◌++◌, length, refl, ap, sym, subst, ◌∙◌, Option, arith}
use Rattle.std.specs.List.{list_all}
use Rattle.std.proofs.lemmas.Bool.{and_parts, false≢true}
use Rattle.std.proofs.lemmas.List.Sums.{sum_by-cons}
use Rattle.ssd_geo.specs.Ladder.{LadderState}
use Rattle.ssd_geo.specs.declared.base.ChannelBase.{ChannelBase}
use Rattle.ssd_geo.specs.declared.entry.Entry.{Entry}
use Rattle.ssd_geo.specs.declared.kind.Kind.{Kind}
use Rattle.ssd_geo.specs.declared.look.Look.{Look}
use Rattle.ssd_geo.specs.declared.row.Row.{Row}
use Rattle.ssd_geo.specs.declared.tag.Tag.{Tag}
use Rattle.ssd_histories.specs.CallSteps.{CallStep, is_fault, is_leave_of, is_look_of_page, is_sense_of, is_stay, position_of}
use Rattle.ssd_histories.specs.Copies.{IsLookList, is_copy_end}
use Rattle.ssd_histories.specs.History.{look_made, look_of}
use Rattle.ssd_histories.specs.PastBlocks.{blocks_of}
use Rattle.ssd_histories.specs.PastRows.{rows_of}
use Rattle.ssd_histories.specs.Rounds.{is_first_live}
use Rattle.ssd_histories.specs.SerialCalls.{AreStepsFrom, IsSerialCopy}
use Rattle.ssd_histories.proofs.UsedSlots.{made}
use Rattle.serial_laws.proofs.LeftLooks.{AreStepsApart, steps_apart}
use Rattle.serial_laws.proofs.LookLists.{IsOfEndings, any_is_of_ending, copy_ends, is_end_kind}
use Rattle.recovery_laws.proofs.Pasts.{newest_look, older_look}
use Rattle.history_laws.proofs.Counting.{one}
use Rattle.round_bounds.specs.RoundBounds.{is_round_end, round_ends_in}

-- ---- entries that leave all as it is

-- one more entry ends a round, or doesn't
pub ends_after : (entry : Entry) (past : List Entry) →
    round_ends_in (entry ∷ past) ≡ round_ends_in past + one (is_round_end entry.kind)
ends_after entry past = omega (arith, sum_by-cons (λ (e : Entry). cond (is_round_end e.kind) 1 0) entry past)

-- the superblocks, the rows and the ends of rounds are as before
pub record IsStill (base : ChannelBase) (before after : List Entry) : Type 0 where
  pub same_blocks : blocks_of base after ≡ blocks_of base before
  pub same_rows : rows_of base after ≡ rows_of base before
  pub same_ends : round_ends_in after ≡ round_ends_in before

still_joins : (base : ChannelBase) (before between after : List Entry) → IsStill base before between →
    IsStill base between after → IsStill base before after
still_joins base before between after first second = record {
  same_blocks = second.same_blocks ∙ first.same_blocks;
  same_rows = second.same_rows ∙ first.same_rows;
  same_ends = second.same_ends ∙ first.same_ends;
}

-- so they are after a look, a sense and a leave
still_kind : (base : ChannelBase) (past : List Entry) (tag : Tag) (kind : Kind) → is_round_end kind ≡ false →
    blocks_of base (made tag kind ∷ past) ≡ blocks_of base past → rows_of base (made tag kind ∷ past) ≡ rows_of base past →
    IsStill base past (made tag kind ∷ past)
still_kind base past tag kind none blocks rows = record {
  same_blocks = blocks;
  same_rows = rows;
  same_ends = omega (arith, ends_after (made tag kind) past, ap {B = ℕ} one none);
}

still_look : (base : ChannelBase) (past : List Entry) (tag : Tag) (kind : Kind) → is_look_of_page kind ≡ true →
    IsStill base past (made tag kind ∷ past)
still_look base past tag (Kind.Look row found closed) is =
    still_kind base past tag (Kind.Look row found closed) refl refl refl
still_look base past tag kind is = absurd (false≢true is)

still_sense : (base : ChannelBase) (past : List Entry) (tag : Tag) (at : ℕ) (kind : Kind) → is_sense_of at kind ≡ true →
    IsStill base past (made tag kind ∷ past)
still_sense base past tag at (Kind.Sense named place level) is =
    still_kind base past tag (Kind.Sense named place level) refl refl refl
still_sense base past tag at kind is = absurd (false≢true is)

still_leave : (base : ChannelBase) (past : List Entry) (tag : Tag) (at : ℕ) (kind : Kind) → is_leave_of at kind ≡ true →
    IsStill base past (made tag kind ∷ past)
still_leave base past tag at (Kind.Leave named) is = still_kind base past tag (Kind.Leave named) refl refl refl
still_leave base past tag at kind is = absurd (false≢true is)

still_senses : (base : ChannelBase) (tag : Tag) (at : ℕ) (before after : List Entry) (senses : List CallStep) →
    list_all (λ step. is_sense_of at step.entry.kind) senses ≡ true → AreStepsFrom tag before senses after →
    IsStill base before after
still_senses base tag at before after [] are made_them =
    subst (IsStill base before) made_them (record { same_blocks = refl; same_rows = refl; same_ends = refl })
still_senses base tag at before after (step ∷ senses) are made_them =
    let parts = and_parts (is_sense_of at step.entry.kind) (list_all (λ step. is_sense_of at step.entry.kind) senses) are in
    still_joins base before (step.entry ∷ before) after (still_sense base before step.entry.tag at step.entry.kind parts.0)
    (still_senses base tag at (step.entry ∷ before) after senses parts.1 made_them.2)

-- the look at an older position stays
look_stays : (tag : Tag) (before after : List Entry) (steps : List CallStep) (at : ℕ) → at < length before →
    AreStepsFrom tag before steps after → look_of after at ≡ look_of before at
look_stays tag before after [] at low are = ap {B = Option Look} (λ (past : List Entry). look_of past at) (sym are)
look_stays tag before after (step ∷ steps) at low are =
    look_stays tag (step.entry ∷ before) after steps at (omega (arith, low)) are.2 ∙ older_look step.entry before at low

-- ---- tests on a copy

-- tests that no look, sense or leave passes
of_endings : (test : Kind → Bool) →
    ((row : ℕ) (found : Row) (closed : Bool) → test (Kind.Look row found closed) ≡ false) →
    ((at : ℕ) (kind : Kind) → is_sense_of at kind ≡ true → test kind ≡ false) →
    ((at : ℕ) → test (Kind.Leave at) ≡ false) → IsOfEndings test
of_endings test on_look on_sense on_leave = record { look = looks; sense = on_sense; leave = leaves }
  where
    looks : (kind : Kind) → is_look_of_page kind ≡ true → test kind ≡ false
    looks (Kind.Look row found closed) e = on_look row found closed
    looks kind e = absurd (false≢true e)

    leaves : (at : ℕ) (kind : Kind) → is_leave_of at kind ≡ true → test kind ≡ false
    leaves at (Kind.Leave named) e = on_leave named
    leaves at kind e = absurd (false≢true e)

fault_of_endings : IsOfEndings is_fault
fault_of_endings = of_endings is_fault (λ row found closed. refl) senses (λ at. refl)
  where
    senses : (at : ℕ) (kind : Kind) → is_sense_of at kind ≡ true → is_fault kind ≡ false
    senses at (Kind.Sense named place level) e = refl
    senses at kind e = absurd (false≢true e)

end_of_endings : IsOfEndings (λ kind. is_stay kind || is_fault kind)
end_of_endings = of_endings (λ kind. is_stay kind || is_fault kind) (λ row found closed. refl) senses (λ at. refl)
  where
    senses : (at : ℕ) (kind : Kind) → is_sense_of at kind ≡ true → (is_stay kind || is_fault kind) ≡ false
    senses at (Kind.Sense named place level) e = refl
    senses at kind e = absurd (false≢true e)

-- ---- a copy

-- a copy with what its own entry is, and the past before that
pub record CopyParts (ladder : List Entry → ℕ → LadderState) (base : ChannelBase) (before after : List Entry)
    (ends fault : Bool) : Type 0 where
  pub look : Kind
  pub is_first : is_first_live base before look ≡ true
  pub sensed : List Entry
  pub looked : look_of sensed (length before) ≡ look_made (length before) look
  pub tag : Tag
  pub kind : Kind
  pub is_end : is_end_kind kind ≡ true
  pub of_look : is_copy_end ladder (length before) (record { past = sensed; entry = made tag kind }) ≡ true
  pub first : IsStill base before sensed
  pub leave : Entry
  pub after_is : leave ∷ made tag kind ∷ sensed ≡ after
  pub last : IsStill base (made tag kind ∷ sensed) after
  pub ends_is : (is_stay kind || is_fault kind) ≡ ends
  pub fault_is : is_fault kind ≡ fault

pub copy_parts : (ladder : List Entry → ℕ → LadderState) (base : ChannelBase) (tag : Tag) (before after : List Entry)
    (ends fault : Bool) → IsSerialCopy ladder base tag before after ends fault → CopyParts ladder base before after ends fault
copy_parts ladder base tag before after ends fault copy =
    record {
      look = look.entry.kind;
      is_first = subst (λ (past : List Entry). is_first_live base past look.entry.kind ≡ true) look_past
          copy.is_copy.is_first;
      sensed = sensed;
      looked =
          look_stays tag (look.entry ∷ before) sensed list.senses (length before) (omega arith) middle.first.2
          ∙ newest_look look.entry before;
      tag = ending.entry.tag;
      kind = ending.entry.kind;
      is_end = copy_ends ladder (position_of look) ending copy.is_copy.is_copy.ends;
      of_look =
          subst
          (λ (past : List Entry). is_copy_end ladder (length before) (record { past = past; entry = ending.entry }) ≡ true)
          middle.second.0
          (subst (λ (n : ℕ). is_copy_end ladder n ending ≡ true) at copy.is_copy.is_copy.ends);
      first =
          still_joins base before (look.entry ∷ before) sensed
          (still_look base before look.entry.tag look.entry.kind list.finds_page)
          (still_senses base tag (position_of look) (look.entry ∷ before) sensed list.senses list.are_senses middle.first.2);
      leave = leave.entry;
      after_is = whole_after;
      last = subst (IsStill base (ending.entry ∷ sensed)) whole_after
          (still_leave base (ending.entry ∷ sensed) leave.entry.tag (position_of look) leave.entry.kind list.is_left);
      ends_is =
          sym (or_none (is_stay ending.entry.kind || is_fault ending.entry.kind))
          ∙ sym (any_is_of_ending (λ kind. is_stay kind || is_fault kind) end_of_endings copy.steps look (ending ∷ []) leave
          list)
          ∙ copy.ends_is;
      fault_is =
          sym (or_none (is_fault ending.entry.kind))
          ∙ sym (any_is_of_ending is_fault fault_of_endings copy.steps look (ending ∷ []) leave list)
          ∙ copy.fault_is;
    }
  where
    look : CallStep
    look = copy.is_copy.look

    ending : CallStep
    ending = copy.is_copy.is_copy.ending

    leave : CallStep
    leave = copy.is_copy.is_copy.leave

    list : IsLookList copy.steps look (ending ∷ []) leave
    list = copy.is_copy.is_copy.is_list

    whole : AreStepsFrom tag before (((look ∷ list.senses) ++ ending ∷ []) ++ leave ∷ []) after
    whole = subst (λ all. AreStepsFrom tag before all after) list.are_steps copy.are_steps

    last : AreStepsApart tag before after ((look ∷ list.senses) ++ ending ∷ []) (leave ∷ [])
    last = steps_apart tag before after ((look ∷ list.senses) ++ ending ∷ []) (leave ∷ []) whole

    middle : AreStepsApart tag before last.between (look ∷ list.senses) (ending ∷ [])
    middle = steps_apart tag before last.between (look ∷ list.senses) (ending ∷ []) last.first

    sensed : List Entry
    sensed = middle.between

    look_past : look.past ≡ before
    look_past = middle.first.0

    at : position_of look ≡ length before
    at = ap {B = ℕ} (λ (past : List Entry). length past) look_past

    whole_after : leave.entry ∷ ending.entry ∷ sensed ≡ after
    whole_after = ap {B = List Entry} (λ (past : List Entry). leave.entry ∷ past) middle.second.2 ∙ last.second.2

    or_none : (b : Bool) → (b || false) ≡ b
    or_none true = refl
    or_none false = refl
