use Rattle.std.proofs.Common.{◌∙◌, ap, map, sym, subst}
use Rattle.command_words.specs.Commands.{told_settings}
use Rattle.blank_drive.proofs.RunStarts.{same_counts}
use Rattle.drive_contents.specs.LoadedDrive.{AreOfDrive}
use Rattle.ssd_formats.specs.ImageHead.{Head, head_of}
use Rattle.ssd_formats.specs.Input.{Input}
use Rattle.ssd_geo.specs.declared.head.ImageHead.{ImageHead}
use Rattle.ssd_top.proofs.MountedInputs.{are_given_back, behind_stays, has_served, is_caused, is_stop, mounted_on, trace_hands_back}
use Rattle.ssd_top.proofs.ReadInputs.{contents_caused, image_caused, read_to_end, trace_caused}
use Rattle.ssd_top.specs.HandedBack.{AreHandedBack}
use Rattle.ssd_top.specs.Serving.{IsCausedByTold}
use Rattle.ssd_top.specs.declared.status.Status.{Status}
use Rattle.ssd_top.proofs.serve.serve_input.Goals as goal

pub returns-in-Err-clause-caused : goal.returns-in-Err-clause-caused
returns-in-Err-clause-caused g c =
    subst (λ (status : Status). IsCausedByTold (g.S.Source.left c.args.input.now) status)
    (sym c.image_status.ensures)
    (image_caused (g.S.Source.left c.args.input.now) (g.S.Source.left c.read_head.new.input) c.in-Err.stop
    c.in-Err.ensures.read)

pub returns-in-Err-load_drive-clause-caused : goal.returns-in-Err-load_drive-clause-caused
returns-in-Err-load_drive-clause-caused g c =
    contents_caused (g.S.Source.left c.args.input.now) (g.S.Source.left c.read_head.new.input) c.in-Ok.head
    c.in-Err-load_drive.status c.in-Ok.ensures.read c.in-Err-load_drive.ensures.caused

pub returns-in-Err-read_trace-clause-caused : goal.returns-in-Err-read_trace-clause-caused
returns-in-Err-read_trace-clause-caused g c =
    let loaded = c.in-Ok-load_drive.ensures.loaded in
    subst (λ (status : Status). IsCausedByTold (g.S.Source.left c.args.input.now) status)
    (sym c.trace_status.ensures)
    (trace_caused c.in-Ok.head c.load_drive.new.head c.in-Ok-load_drive.ensures.head (g.S.Source.left c.args.input.now)
    (g.S.Source.left c.read_head.new.input) (g.S.Source.left c.load_drive.new.input)
    (g.S.Source.left c.read_trace.new.input) loaded.saved c.in-Err-read_trace.stop c.in-Ok.ensures.read
    loaded.are_read c.in-Err-read_trace.ensures.read)

pub returns-in-Err-read_trace-clause-dies : goal.returns-in-Err-read_trace-clause-dies
returns-in-Err-read_trace-clause-dies g c =
    let olds = map g.D.Die.state c.args.dies.items in
    let loaded = map g.D.Die.state c.load_drive.new.dies.items in
    subst (λ (status : Status). AreHandedBack status olds loaded) (sym c.trace_status.ensures)
    (trace_hands_back olds loaded c.in-Err-read_trace.stop _ _ c.in-Err-read_trace.ensures.cause.cause
    c.in-Ok-load_drive.ensures.counts)

pub serve-requires-clause-dies : goal.serve-requires-clause-dies
serve-requires-clause-dies g c =
    mounted_on c.in-Ok.head c.load_drive.new.head (map g.D.Die.state c.load_drive.new.dies.items)
    c.in-Ok-load_drive.ensures.head c.in-Ok-load_drive.ensures.mounted

pub serve-requires-clause-image : goal.serve-requires-clause-image
serve-requires-clause-image g c =
    let loaded = c.in-Ok-load_drive.ensures.loaded in
    let dies = map g.D.Die.state c.load_drive.new.dies.items in
    let of : AreOfDrive (head_of c.load_drive.new.head) loaded.saved c.in-Ok-load_drive.bases.items dies =
    subst (λ (head : Head). AreOfDrive head loaded.saved c.in-Ok-load_drive.bases.items dies)
    (sym (ap (λ (head : ImageHead). head_of head) c.in-Ok-load_drive.ensures.head)) loaded.of_drive in
    (loaded.saved, of.of_image)

pub returns-clause-ok : goal.returns-clause-ok
returns-clause-ok g c =
    let olds = map g.D.Die.state c.args.dies.items in
    let dies = map g.D.Die.state c.load_drive.new.dies.items in
    let views = map (λ policy. g.P.Policy.told policy) c.args.policies.items in
    let next : ImageHead = c.load_drive.new.head in
    let loaded = c.in-Ok-load_drive.ensures.loaded in
    let of : AreOfDrive (head_of next) loaded.saved c.in-Ok-load_drive.bases.items dies =
    subst (λ (head : Head). AreOfDrive head loaded.saved c.in-Ok-load_drive.bases.items dies)
    (sym (ap (λ (head : ImageHead). head_of head) c.in-Ok-load_drive.ensures.head)) loaded.of_drive in
    let asked : Input = record { head = head_of next; channels = loaded.saved; calls = c.in-Ok-read_trace.trace } in
    let read =
    read_to_end c.in-Ok.head next c.in-Ok-load_drive.ensures.head (g.S.Source.left c.args.input.now)
    (g.S.Source.left c.read_head.new.input) (g.S.Source.left c.load_drive.new.input)
    (g.S.Source.left c.read_trace.new.input) loaded.saved c.in-Ok-read_trace.trace c.in-Ok.ensures.read
    loaded.are_read c.in-Ok-read_trace.ensures.read in
    has_served asked (told_settings c.args.settings) olds dies views
    (map g.D.Die.state c.serve.result.dies.items) (g.S.Source.left c.args.input.now) (g.S.Source.left c.read_trace.new.input)
    c.serve.result.outcome
    (record { is_input = read.is_input; at_end = read.at_end })
    (same_counts olds dies c.in-Ok-load_drive.ensures.counts)
    (behind_stays c.in-Ok.head next olds dies c.in-Ok-load_drive.ensures.head c.in-Ok-load_drive.ensures.others)
    (c.serve.ensures loaded.saved of)

pub returns-clause-stop : goal.returns-clause-stop
returns-clause-stop g c =
    let olds = map g.D.Die.state c.args.dies.items in
    let dies = map g.D.Die.state c.load_drive.new.dies.items in
    let views = map (λ policy. g.P.Policy.told policy) c.args.policies.items in
    let next : ImageHead = c.load_drive.new.head in
    let loaded = c.in-Ok-load_drive.ensures.loaded in
    let of : AreOfDrive (head_of next) loaded.saved c.in-Ok-load_drive.bases.items dies =
    subst (λ (head : Head). AreOfDrive head loaded.saved c.in-Ok-load_drive.bases.items dies)
    (sym (ap (λ (head : ImageHead). head_of head) c.in-Ok-load_drive.ensures.head)) loaded.of_drive in
    let asked : Input = record { head = head_of next; channels = loaded.saved; calls = c.in-Ok-read_trace.trace } in
    is_stop asked (told_settings c.args.settings) olds dies views
    (map g.D.Die.state c.serve.result.dies.items) (g.S.Source.faults c.args.input.now) (g.S.Source.faults c.read_trace.new.input)
    c.serve.result.outcome
    (c.in-Ok-read_trace.ensures.cause.cause ∙ c.in-Ok-load_drive.ensures.stays ∙ c.in-Ok.ensures.cause.cause)
    (c.serve.ensures loaded.saved of)

pub returns-clause-caused : goal.returns-clause-caused
returns-clause-caused g c =
    let olds = map g.D.Die.state c.args.dies.items in
    let dies = map g.D.Die.state c.load_drive.new.dies.items in
    let views = map (λ policy. g.P.Policy.told policy) c.args.policies.items in
    let next : ImageHead = c.load_drive.new.head in
    let loaded = c.in-Ok-load_drive.ensures.loaded in
    let of : AreOfDrive (head_of next) loaded.saved c.in-Ok-load_drive.bases.items dies =
    subst (λ (head : Head). AreOfDrive head loaded.saved c.in-Ok-load_drive.bases.items dies)
    (sym (ap (λ (head : ImageHead). head_of head) c.in-Ok-load_drive.ensures.head)) loaded.of_drive in
    let asked : Input = record { head = head_of next; channels = loaded.saved; calls = c.in-Ok-read_trace.trace } in
    is_caused asked (told_settings c.args.settings) olds dies views
    (map g.D.Die.state c.serve.result.dies.items) (g.S.Source.left c.args.input.now) c.serve.result.outcome
    (c.serve.ensures loaded.saved of)

pub returns-clause-dies : goal.returns-clause-dies
returns-clause-dies g c =
    let olds = map g.D.Die.state c.args.dies.items in
    let dies = map g.D.Die.state c.load_drive.new.dies.items in
    let views = map (λ policy. g.P.Policy.told policy) c.args.policies.items in
    let next : ImageHead = c.load_drive.new.head in
    let loaded = c.in-Ok-load_drive.ensures.loaded in
    let of : AreOfDrive (head_of next) loaded.saved c.in-Ok-load_drive.bases.items dies =
    subst (λ (head : Head). AreOfDrive head loaded.saved c.in-Ok-load_drive.bases.items dies)
    (sym (ap (λ (head : ImageHead). head_of head) c.in-Ok-load_drive.ensures.head)) loaded.of_drive in
    let asked : Input = record { head = head_of next; channels = loaded.saved; calls = c.in-Ok-read_trace.trace } in
    are_given_back asked (told_settings c.args.settings) olds dies views (map g.D.Die.state c.serve.result.dies.items)
    c.serve.result.outcome c.in-Ok-load_drive.ensures.counts (c.serve.ensures loaded.saved of)
