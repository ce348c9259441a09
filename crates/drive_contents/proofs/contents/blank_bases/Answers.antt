use Rattle.ssd_formats.specs.ImageHead.{head_of}
use Rattle.drive_contents.proofs.BlankDrives.{next_blank, none_blank}
use Rattle.drive_contents.proofs.contents.blank_bases.Goals as goal

pub loop-channel-init : goal.loop-channel-init
loop-channel-init c = record { blank = none_blank (head_of c.args.head.now) _ c.new-bases.ensures.items }

pub loop-channel-preserved : goal.loop-channel-preserved
loop-channel-preserved c = record {
  blank =
      next_blank (head_of c.args.head.now) c.loop-channel.channel c.loop-channel.bases.items c.in_ok-base.base c.push.new.self.items
      c.loop-channel.invariant.blank c.in_ok-base.ensures.base c.in-Ok.ensures.items;
}
