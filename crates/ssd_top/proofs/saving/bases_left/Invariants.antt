-- The bases so far have the parts of their numbers, and these are gone from the list.
use Rattle.std.proofs.Common.{◌≡◌, drop}
use Rattle.ssd_top.proofs.SavedParts.{HavePartsBelow}
use Rattle.ssd_top.proofs.saving.bases_left.Given as goal

abbrev pub invariant-loop-channel : goal.invariant-loop-channel
invariant-loop-channel l = record {
  parts : l.parts.items ≡ drop l.channel l.initial.parts.items;
  bases : HavePartsBelow l.head.shape l.channel l.initial.parts.items l.bases.items;
}
