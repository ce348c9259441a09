use Rattle.std.proofs.Common.{map, sym, subst}
use Rattle.drive_image.specs.WholeImage.{AreBasesOf, ChannelsTellPages}
use Rattle.ssd_geo.specs.declared.shape.Shape.{Shape}
use Rattle.ssd_top.proofs.SavedParts.{are_bases, channels_tell}
use Rattle.ssd_top.specs.LeftDrives.{CanBeSaved}
use Rattle.ssd_top.proofs.saving.save_left.Goals as goal

pub write_drive-requires-clause-bases : goal.write_drive-requires-clause-bases
write_drive-requires-clause-bases g c =
    subst (AreBasesOf c.with_next_session-head.result.shape) (sym c.deref.ensures.value)
    (are_bases c.with_next_session-head.result.shape c.args.parts.items (map g.D.Die.state c.args.dies.now) c.in-Ok.bases.items
    (subst (λ (shape : Shape). CanBeSaved shape c.args.parts.items (map g.D.Die.state c.args.dies.now))
    (sym c.with_next_session-head.ensures.shape) c.requires.left)
    c.in-Ok.ensures)

pub write_drive-requires-clause-dies : goal.write_drive-requires-clause-dies
write_drive-requires-clause-dies g c =
    subst (λ (shape : Shape). ChannelsTellPages shape (map g.D.Die.state c.args.dies.now)) (sym c.with_next_session-head.ensures.shape)
    (channels_tell c.args.head.shape c.args.parts.items (map g.D.Die.state c.args.dies.now) c.requires.left)
