use Rattle.std.proofs.Common.{List, map, sym, subst}
use Rattle.onfi_cmd.specs.DieState.{DieState}
use Rattle.saved_drive.specs.Contents.{AreMounted}
use Rattle.ssd_geo.specs.declared.head.ImageHead.{ImageHead}
use Rattle.drive_contents.proofs.LoadSteps.{mounted_anywhere}
use Rattle.contents_tests.proofs.images.read_image.Goals as goal

pub returns-clause-mounted : goal.returns-clause-mounted
returns-clause-mounted g c =
    let dies : List DieState = map g.D.Die.state c.load_contents.new.dies.items in
    subst (λ (head : ImageHead). AreMounted head dies) (sym c.load_contents.ensures.head)
    (mounted_anywhere c.in_ok-head.head c.load_contents.new.head.place dies c.in_ok-bases.ensures.mounted)
