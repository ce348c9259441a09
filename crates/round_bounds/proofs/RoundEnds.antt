-- How many entries of a round end one? At most one, and none in a copy that it goes on after.
use Rattle.std.proofs.Common.{◌≡◌, ℕ, ◌+◌, ◌≤◌, ◌||◌, Bool, true, false, List, refl, sym, arith}
use Rattle.std.proofs.lemmas.Bool.{false≢true}
use Rattle.ssd_geo.specs.Ladder.{LadderState}
use Rattle.ssd_geo.specs.declared.base.ChannelBase.{ChannelBase}
use Rattle.ssd_geo.specs.declared.entry.Entry.{Entry}
use Rattle.ssd_geo.specs.declared.kind.Kind.{Kind}
use Rattle.ssd_geo.specs.declared.tag.Tag.{Tag}
use Rattle.ssd_histories.specs.CallSteps.{is_fault, is_stay}
use Rattle.ssd_histories.specs.SerialCalls.{IsSerialCopy, RoundEnd, SerialCopies, SerialRound, copy_faults, entry_of, erase_faults, erases, finds_none, goes_on, picks, retires, stays, takes}
use Rattle.ssd_histories.proofs.UsedSlots.{made}
use Rattle.serial_laws.proofs.LookLists.{is_end_kind}
use Rattle.history_laws.proofs.Counting.{one, one_false}
use Rattle.round_bounds.specs.RoundBounds.{is_round_end, round_ends_in}
use Rattle.round_bounds.proofs.CopyParts.{CopyParts, copy_parts, ends_after}

pub end_of_none : (kind : Kind) → is_end_kind kind ≡ true → (is_stay kind || is_fault kind) ≡ false → is_round_end kind ≡ false
end_of_none (Kind.Stay at worn) is none = absurd (false≢true (sym none))
end_of_none (Kind.Erase sb) is none = absurd (false≢true is)
end_of_none (Kind.BadErase sb die fault) is none = absurd (false≢true is)
end_of_none kind is none = refl

pub one_at_most : (b : Bool) → one b ≤ 1
one_at_most true = omega arith
one_at_most false = omega arith

module _ (ladder : List Entry → ℕ → LadderState) (base : ChannelBase) (tag : Tag) where
  pub ends_after_copy : {before after : List Entry} {ends fault : Bool}
      (parts : CopyParts ladder base before after ends fault) →
      round_ends_in after ≡ round_ends_in before + one (is_round_end parts.kind)
  ends_after_copy parts =
      omega (arith, parts.last.same_ends, ends_after (made parts.tag parts.kind) parts.sensed, parts.first.same_ends)

  pub ends_at_most : {before after : List Entry} (ends fault : Bool) → IsSerialCopy ladder base tag before after ends fault →
      round_ends_in after ≤ round_ends_in before + 1
  ends_at_most {before} {after} ends fault copy =
      let parts = copy_parts ladder base tag before after ends fault copy in
      omega (arith, ends_after_copy parts, one_at_most (is_round_end parts.kind))

  pub ends_as_many : {before after : List Entry} → IsSerialCopy ladder base tag before after false false →
      round_ends_in after ≡ round_ends_in before
  ends_as_many {before} {after} copy =
      let parts = copy_parts ladder base tag before after false false copy in
      omega (
        arith,
        ends_after_copy parts,
        one_false (is_round_end parts.kind)
            (end_of_none parts.kind parts.is_end parts.ends_is),
      )

  -- a round has one at most
  pub copies_end : {before after : List Entry} {end : RoundEnd} → SerialCopies ladder base tag before after end →
      round_ends_in after ≤ round_ends_in before + 1
  copies_end (goes_on copy rest) = omega (arith, ends_as_many copy, copies_end rest)
  copies_end (stays copy) = ends_at_most true false copy
  copies_end (copy_faults copy) = ends_at_most true true copy
  copies_end {before} (erases {sb = sb} victim live) = omega (arith, ends_after (entry_of tag (Kind.Erase sb)) before)
  copies_end {before} (retires {sb = sb} {die = die} victim live) =
      omega (arith, ends_after (entry_of tag (Kind.BadErase sb die false)) before)
  copies_end {before} (erase_faults {sb = sb} {die = die} victim live) =
      omega (arith, ends_after (entry_of tag (Kind.BadErase sb die true)) before)
  copies_end (finds_none victim) = omega arith

  pub round_ends : {before after : List Entry} {end : RoundEnd} → SerialRound ladder base tag before after end →
      round_ends_in after ≤ round_ends_in before + 1
  round_ends {before} (picks {sb = sb} may copying) =
      omega (arith, copies_end copying, ends_after (entry_of tag (Kind.Pick sb)) before)
  round_ends (takes may_not copying) = copies_end copying
