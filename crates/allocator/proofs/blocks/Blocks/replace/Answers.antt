use Rattle.std.proofs.lemmas.List.{get_or_read}
use Rattle.ssd_histories.specs.Blocks.{blank_block}
use Rattle.allocator.proofs.Kept.{free_in_range, kept-set}
use Rattle.allocator.proofs.blocks.Blocks.replace.Goals as goal

pub invariant_of-self : goal.invariant_of-self
invariant_of-self c =
    let lt = rw (← c.self.view_is) at c.requires.in_range in
    let due = rw (← c.self.view_is) at c.requires.due in
    let one_frontier = rw (← c.self.view_is) at c.requires.one_frontier in
    let one_victim = rw (← c.self.view_is) at c.requires.one_victim in
    let old_is = get_or_read _ _ _ lt c.index.ensures blank_block in
    rw (c.followed-self-inside.ensures, c.followed-self-inside-2.ensures, c.is_frontier.ensures, c.is_frontier-2.ensures, c.is_victim.ensures, c.is_victim-2.ensures, old_is)
    (kept-set _ _ _ _ _ _ _ _ c.self.invariant lt due one_frontier one_victim
    (rw (c.is_free.ensures, c.is_free-2.ensures, old_is) at c.recounted-self-inside.ensures))

pub recounted-self-inside-requires-clause-some : goal.recounted-self-inside-requires-clause-some
recounted-self-inside-requires-clause-some c =
    let lt = rw (← c.self.view_is) at c.requires.in_range in
    let old_is = get_or_read _ _ _ lt c.index.ensures blank_block in
    rw (c.is_free.ensures, old_is) (free_in_range _ _ _ _ _ _ c.self.invariant lt).0

pub recounted-self-inside-requires-clause-few : goal.recounted-self-inside-requires-clause-few
recounted-self-inside-requires-clause-few c =
    let lt = rw (← c.self.view_is) at c.requires.in_range in
    (free_in_range _ _ _ _ _ _ c.self.invariant lt).1
