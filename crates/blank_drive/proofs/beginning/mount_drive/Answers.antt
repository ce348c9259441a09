use Rattle.std.proofs.Common.{arith}
use Rattle.ssd_formats.specs.ImageHead.{head_of}
use Rattle.blank_drive.proofs.HeadLaws.{law_of_head}
use Rattle.blank_drive.proofs.MountedDrives.{counts_after, others_after, ready_after}
use Rattle.blank_drive.proofs.beginning.mount_drive.Goals as goal

pub mount_dies-requires-clause-law : goal.mount_dies-requires-clause-law
mount_dies-requires-clause-law g c = law_of_head (head_of c.args.head.now) c.requires.head

pub returns-clause-ready : goal.returns-clause-ready
returns-clause-ready g c =
    ready_after g.D.Die.state c.args.head.now c.args.dies.now.items c.deref_mut.result.now c.mount_dies.new.dies
    c.args.dies.now.len
    (omega arith) c.deref_mut.ensures.value c.mount_dies.result c.requires.tell c.mount_dies.ensures.ready

pub returns-clause-counts : goal.returns-clause-counts
returns-clause-counts g c =
    counts_after g.D.Die.state c.args.head.now c.args.dies.now.items c.deref_mut.result.now c.mount_dies.new.dies
    c.args.dies.now.len
    (omega arith) c.deref_mut.ensures.value c.mount_dies.result c.mount_dies.ensures.counts

pub returns-clause-others : goal.returns-clause-others
returns-clause-others g c =
    others_after g.D.Die.state c.args.head.now c.args.dies.now.items c.deref_mut.result.now c.mount_dies.new.dies
    c.args.dies.now.len
    (omega arith) c.deref_mut.ensures.value c.mount_dies.result c.mount_dies.ensures.dies
