use Rattle.std.proofs.Common.{◌≡◌, ◌≤◌, map, vec_len}
use Rattle.std.specs.List.{range_with_len}
use Rattle.std.specs.Vec.{vec_capacity}
use Rattle.ssd_formats.specs.ImageHead.{head_of}
use Rattle.channel_base.proofs.BlankChannels.{blank_block_of}
use Rattle.channel_base.proofs.blank.blank_blocks.Given as goal

-- the superblocks so far, and room for all
abbrev pub invariant-loop-sb : goal.invariant-loop-sb
invariant-loop-sb l = record {
  made : l.blocks.items ≡ map (blank_block_of (head_of l.head) l.channel) (range_with_len 0 l.sb);
  len : vec_len l.blocks ≡ l.sb;
  room : l.count ≤ vec_capacity l.blocks;
}
