use Rattle.std.proofs.Common.{◌≡◌, [], OnOk, drop, map, sym, subst, arith}
use Rattle.drive_dies.specs.Mounting.{AreReady, die_count}
use Rattle.image_contents.specs.DiesLoaded.{BecomeLoaded}
use Rattle.image_contents.specs.Loads.{Loads}
use Rattle.saved_drive.specs.Contents.{AreMounted, AreOfImage}
use Rattle.ssd_formats.specs.ImageContents.{read_channels}
use Rattle.ssd_formats.specs.ImageHead.{head_of}
use Rattle.ssd_geo.specs.declared.head.ImageHead.{ImageHead}
use Rattle.drive_contents.proofs.LentPart.{of_list}
use Rattle.drive_contents.proofs.loading.load_full.Goals as goal

pub load_channels-requires-clause-dies : goal.load_channels-requires-clause-dies
load_channels-requires-clause-dies g c =
    subst (λ dies. AreReady c.args.head.now (map g.D.Die.state dies)) (sym c.deref_mut.ensures.value) c.requires.dies

pub returns-clause-read : goal.returns-clause-read
returns-clause-read g c =
    let head : ImageHead = c.args.head.now in
    of_list g.D.Die.state c.args.dies.now.items c.deref_mut.result.now c.load_channels.new.dies c.args.dies.now.len (omega arith)
    c.deref_mut.ensures.value
    (λ olds news. Loads (λ bases saved. AreOfImage (head_of head) saved bases.items news) (g.S.Source.left c.args.input.now)
    (g.S.Source.left c.load_channels.new.input) (g.S.Source.faults c.args.input.now) (g.S.Source.faults c.load_channels.new.input)
    head.place c.load_channels.new.head.place c.load_channels.result (read_channels (head_of head) head.shape.channels []))
    c.load_channels.ensures.read

pub returns-clause-mounted : goal.returns-clause-mounted
returns-clause-mounted g c =
    of_list g.D.Die.state c.args.dies.now.items c.deref_mut.result.now c.load_channels.new.dies c.args.dies.now.len (omega arith)
    c.deref_mut.ensures.value (λ olds news. OnOk c.load_channels.result (AreMounted c.args.head.now news))
    c.load_channels.ensures.mounted

pub returns-clause-loaded : goal.returns-clause-loaded
returns-clause-loaded g c =
    of_list g.D.Die.state c.args.dies.now.items c.deref_mut.result.now c.load_channels.new.dies c.args.dies.now.len (omega arith)
    c.deref_mut.ensures.value (λ olds news. BecomeLoaded 0 olds news c.load_channels.result) c.load_channels.ensures.loaded

pub returns-clause-others : goal.returns-clause-others
returns-clause-others g c =
    of_list g.D.Die.state c.args.dies.now.items c.deref_mut.result.now c.load_channels.new.dies c.args.dies.now.len (omega arith)
    c.deref_mut.ensures.value (λ olds news. drop (die_count c.args.head.now) news ≡ drop (die_count c.args.head.now) olds)
    c.load_channels.ensures.others
