use Rattle.std.proofs.Common.{◌+◌, ◌<◌, length, refl, arith}
use Rattle.blank_drive.proofs.BegunChannels.{gone}
use Rattle.saved_drive.proofs.MoreChannels.{next_of}
use Rattle.ssd_top.proofs.SavedParts.{none_have, one_more_has}
use Rattle.ssd_top.proofs.saving.bases_left.Goals as goal

pub loop-channel-init : goal.loop-channel-init
loop-channel-init c = record {
  parts = refl;
  bases = none_have c.args.head.now.shape c.args.parts.items _ c.new-bases.ensures.items;
}

pub loop-channel-preserved : goal.loop-channel-preserved
loop-channel-preserved c =
    let below : c.loop-channel.channel < length c.args.parts.items = omega (arith, c.requires, c.loop-channel-test.true) in
    record {
      parts =
          gone c.args.parts.items c.remove-own.new.self.items c.loop-channel.parts.items c.loop-channel.channel 1
          (c.loop-channel.channel + 1) c.loop-channel.invariant.parts c.remove-own.ensures.items refl;
      bases =
          one_more_has c.args.head.now.shape c.loop-channel.channel c.args.parts.items c.remove-own.result c.loop-channel.bases.items
          c.push.new.self.items c.in_ok-base.base c.loop-channel.invariant.bases
          (next_of c.args.parts.items c.loop-channel.parts.items c.loop-channel.channel c.remove-own.result
          c.loop-channel.invariant.parts below c.remove-own.ensures.value)
          (record {
            shape_is = c.in_ok-base.ensures.shape;
            number_is = c.in_ok-base.ensures.number;
            blocks_are = c.in_ok-base.ensures.blocks;
            rows_are = c.in_ok-base.ensures.rows;
            sum_is = c.in_ok-base.ensures.sum;
          })
          c.in-Ok.ensures.items;
    }
