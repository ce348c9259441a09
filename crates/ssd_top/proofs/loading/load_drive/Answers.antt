use Rattle.std.proofs.Common.{map, sym, subst}
use Rattle.image_file.specs.Gives.{rest_at}
use Rattle.ssd_formats.specs.ImageHead.{head_of}
use Rattle.ssd_top.proofs.MountedInputs.{loaded_none, mount_hands_back, stop_hands_back}
use Rattle.ssd_top.proofs.ReadInputs.{load_is_stop, load_no_trace, load_stops, mount_is_stop, mount_no_trace, mount_stops}
use Rattle.ssd_top.specs.HandedBack.{AreHandedBack}
use Rattle.ssd_top.specs.Loading.{StopsContents, StopsNoTrace}
use Rattle.ssd_top.specs.Serving.{IsStop}
use Rattle.ssd_top.specs.declared.status.Status.{Status}
use Rattle.ssd_top.proofs.loading.load_drive.Goals as goal

pub returns-in-Err-clause-caused : goal.returns-in-Err-clause-caused
returns-in-Err-clause-caused g c = λ told.
    subst
    (λ (status : Status). StopsContents (head_of c.args.head.now) (rest_at c.args.head.now.place (g.S.Source.left c.args.input.now))
    status)
    (sym c.mount_status.ensures)
    (mount_stops (head_of c.args.head.now) (rest_at c.args.head.now.place (g.S.Source.left c.args.input.now)) c.in-Err.stop)

pub returns-in-Err-clause-no_trace : goal.returns-in-Err-clause-no_trace
returns-in-Err-clause-no_trace g c =
    subst (λ (status : Status). StopsNoTrace status) (sym c.mount_status.ensures) (mount_no_trace c.in-Err.stop)

pub returns-in-Err-load_contents-clause-no_trace : goal.returns-in-Err-load_contents-clause-no_trace
returns-in-Err-load_contents-clause-no_trace g c =
    subst (λ (status : Status). StopsNoTrace status) (sym c.image_status.ensures) (load_no_trace c.in-Err-load_contents.stop)

pub returns-in-Err-clause-dies : goal.returns-in-Err-clause-dies
returns-in-Err-clause-dies g c =
    let olds = map g.D.Die.state c.args.dies.now.items in
    let news = map g.D.Die.state c.mount_drive.new.dies.items in
    subst (λ (status : Status). AreHandedBack status olds news) (sym c.mount_status.ensures)
    (mount_hands_back olds news c.in-Err.stop c.in-Err.ensures.counts)

pub returns-in-Err-clause-stop : goal.returns-in-Err-clause-stop
returns-in-Err-clause-stop g c =
    let before = g.S.Source.faults c.args.input.now in
    subst (λ (status : Status). IsStop before before status) (sym c.mount_status.ensures) (mount_is_stop before c.in-Err.stop)

pub returns-in-Err-load_contents-clause-caused : goal.returns-in-Err-load_contents-clause-caused
returns-in-Err-load_contents-clause-caused g c = λ told.
    let rest = rest_at c.args.head.now.place (g.S.Source.left c.args.input.now) in
    subst (λ (status : Status). StopsContents (head_of c.args.head.now) rest status) (sym c.image_status.ensures)
    (load_stops (head_of c.args.head.now) rest c.in-Err-load_contents.stop
    (c.in-Err-load_contents.ensures.read.given told))

pub returns-in-Err-load_contents-clause-dies : goal.returns-in-Err-load_contents-clause-dies
returns-in-Err-load_contents-clause-dies g c =
    let olds = map g.D.Die.state c.args.dies.now.items in
    let mounted = map g.D.Die.state c.mount_drive.new.dies.items in
    let loaded = map g.D.Die.state c.load_contents.new.dies.items in
    subst (λ (status : Status). AreHandedBack status olds loaded) (sym c.image_status.ensures)
    (stop_hands_back olds mounted loaded c.in-Err-load_contents.stop c.in-Ok.ensures.counts
    c.in-Err-load_contents.ensures.loaded)

pub returns-in-Err-load_contents-clause-stop : goal.returns-in-Err-load_contents-clause-stop
returns-in-Err-load_contents-clause-stop g c =
    let before = g.S.Source.faults c.args.input.now in
    let now = g.S.Source.faults c.load_contents.new.input in
    subst (λ (status : Status). IsStop before now status) (sym c.image_status.ensures)
    (load_is_stop before now c.in-Err-load_contents.stop c.in-Err-load_contents.ensures.read.cause)

pub returns-in-Ok-load_contents-clause-counts : goal.returns-in-Ok-load_contents-clause-counts
returns-in-Ok-load_contents-clause-counts g c =
    loaded_none (map g.D.Die.state c.args.dies.now.items) (map g.D.Die.state c.mount_drive.new.dies.items)
    (map g.D.Die.state c.load_contents.new.dies.items) c.in-Ok-load_contents.bases c.in-Ok.ensures.counts
    c.in-Ok-load_contents.ensures.loaded
