use Rattle.allocator.proofs.Next.{may_be_any}
use Rattle.allocator.proofs.blocks.Blocks.take_slot.Goals as goal

pub replace-requires-clause-one_frontier : goal.replace-requires-clause-one_frontier
replace-requires-clause-one_frontier c =
    may_be_any _ _ _ (rw c.unwrap-sb.ensures at c.next_superblock.ensures.one_frontier)
