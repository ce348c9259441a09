use Rattle.std.proofs.Common.{◌≡◌, ◌∙◌, ℕ, map, ap, sym, arith}
use Rattle.std.specs.List.{range_with_len}
use Rattle.ssd_formats.specs.ImageHead.{head_of}
use Rattle.channel_base.proofs.BlankChannels.{blank_block_of, blocks_are, one_more_block}
use Rattle.channel_base.proofs.blank.blank_blocks.Goals as goal

pub loop-sb-preserved : goal.loop-sb-preserved
loop-sb-preserved c = record {
  made =
      one_more_block (head_of c.args.head.now) c.args.channel c.loop-sb.sb c.loop-sb.blocks.items
      c.push_reserved.new.self.items c.blank_block.result c.push_reserved.ensures.items c.loop-sb.invariant.made
      c.blank_block.ensures;
  len = omega arith;
  room = omega arith;
}

pub returns : goal.returns
returns c =
    let all : c.loop-sb.sb ≡ c.args.head.now.shape.superblocks = omega arith in
    c.new.ensures ∙ c.loop-sb.invariant.made
    ∙ ap (λ (n : ℕ). map (blank_block_of (head_of c.args.head.now) c.args.channel) (range_with_len 0 n)) all
    ∙ sym (blocks_are (head_of c.args.head.now) c.args.channel)
