use Rattle.std.proofs.Common.{◌≡◌, ◌∙◌, false, map, sym, subst, refl, arith, rules, ℕ, List, Option}
use Rattle.ssd_formats.specs.ImageHead.{head_of}
use Rattle.ssd_geo.specs.Faults.{NeverFell}
use Rattle.ssd_geo.specs.declared.head.ImageHead.{ImageHead}
use Rattle.ssd_top.proofs.ReadInputs.{contents_caused, image_caused}
use Rattle.ssd_top.proofs.TopCommands.{blank_image, full_image, image_formatted, image_loaded, image_read_fault, image_reads_stay, image_writes_nothing, is_formatted}
use Rattle.ssd_top.proofs.TopCommands.{stop_formatted, stop_loaded, stop_read_fault, stop_reads_stay, stop_writes_nothing}
use Rattle.ssd_top.specs.Commands.{AreLoadedBack, IsFormatted}
use Rattle.ssd_top.specs.Serving.{IsCausedByTold, IsStop, status_of_image}
use Rattle.ssd_top.specs.declared.status.Status.{Status}
use Rattle.ssd_top.proofs.format.format.Goals as goal

pub returns-in-Err : goal.returns-in-Err
returns-in-Err g c =
    let before : Option (List ℕ) = g.S.Source.left c.args.input.now in
    let stop = c.in-Err.stop in
    let dies = map g.D.Die.state c.args.dies.now.items in
    let is : c.image_status.result ≡ status_of_image stop = c.image_status.ensures in
    let cause = c.in-Err.ensures.cause in
    record {
      formatted =
          subst
          (λ (status : Status). IsFormatted status before (g.S.Source.left c.read_head.new.input)
          (g.O.Sink.written c.args.output.now) (g.O.Sink.written c.args.output.now))
          (sym is) (image_formatted _ _ stop cause.cause _ _ _ _);
      dies = subst (λ (status : Status). AreLoadedBack status dies dies) (sym is) (image_loaded _ _ stop cause.cause dies);
      caused =
          subst (λ (status : Status). IsCausedByTold before status) (sym is)
          (image_caused before (g.S.Source.left c.read_head.new.input) stop c.in-Err.ensures.read);
      read_fault = λ same. image_read_fault _ _ stop cause.cause (sym is ∙ same);
      write_fault = λ same. absurd (image_writes_nothing stop (sym is ∙ same));
      reads_stay = λ other. image_reads_stay _ _ stop cause.cause (λ same. other (is ∙ same));
      writes_stay = λ other. refl;
      reads = cause.never_fell;
      writes = omega arith;
      nothing = λ silent. refl;
    }

pub returns-then-not-head-clause-formatted : goal.returns-then-not-head-clause-formatted
returns-then-not-head-clause-formatted g c =
    let before : Option (List ℕ) = g.S.Source.left c.args.input.now in
    let left : Option (List ℕ) = g.S.Source.left c.read_head.new.input in
    let blank : c.in-Ok.head.full ≡ false = search rules in
    is_formatted c.write_again.result before left _ _ (head_of c.in-Ok.head)
    (blank_image before left c.in-Ok.head c.in-Ok.ensures.read blank) c.write_again.ensures.written

pub returns-in-Ok-load_drive-clause-formatted : goal.returns-in-Ok-load_drive-clause-formatted
returns-in-Ok-load_drive-clause-formatted g c =
    let before : Option (List ℕ) = g.S.Source.left c.args.input.now in
    let left : Option (List ℕ) = g.S.Source.left c.read_head.new.input in
    let after : Option (List ℕ) = g.S.Source.left c.load_drive.new.input in
    let next : ImageHead = c.load_drive.new.head in
    let loaded = c.in-Ok-load_drive.ensures.loaded in
    is_formatted c.write_again-in-Ok-load_drive.result before after _ _ (head_of next)
    (full_image before left after c.in-Ok.head next c.in-Ok-load_drive.ensures.head c.in-Ok.ensures.read loaded.saved
    loaded.are_read)
    c.write_again-in-Ok-load_drive.ensures.written

pub returns-in-Err-load_drive : goal.returns-in-Err-load_drive
returns-in-Err-load_drive g c =
    let before : Option (List ℕ) = g.S.Source.left c.args.input.now in
    let left : Option (List ℕ) = g.S.Source.left c.read_head.new.input in
    let faults = g.S.Source.faults c.args.input.now in
    let now = g.S.Source.faults c.load_drive.new.input in
    let status = c.in-Err-load_drive.status in
    let same : g.S.Source.faults c.read_head.new.input ≡ faults = c.in-Ok.ensures.cause.cause in
    let stop : IsStop faults now status =
    subst (λ (n : ℕ). IsStop n now status) same c.in-Err-load_drive.ensures.stop in
    record {
      formatted = stop_formatted status faults now stop c.in-Err-load_drive.ensures.no_trace _ _ _ _;
      dies = stop_loaded status faults now _ _ stop c.in-Err-load_drive.ensures.dies;
      caused = contents_caused before left c.in-Ok.head status c.in-Ok.ensures.read c.in-Err-load_drive.ensures.caused;
      read_fault = stop_read_fault status faults now stop;
      write_fault = λ is. absurd (stop_writes_nothing status faults now stop is);
      reads_stay = stop_reads_stay status faults now stop;
      writes_stay = λ other. refl;
      reads = subst (λ (n : ℕ). NeverFell n now) same c.in-Err-load_drive.ensures.reads;
      writes = omega arith;
      nothing = λ silent. refl;
    }
