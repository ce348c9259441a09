use Rattle.std.proofs.Common.{map, sym, subst, ◌∙◌}
use Rattle.std.specs.Io.KnownBytes.{Appends}
use Rattle.ssd_io.specs.Pieces.{AppendsFront}
use Rattle.ssd_top.proofs.PrintedRuns.{has_stopped, is_no_refusal, prints_some, prints_stopped, prints_whole, run_hands_back, run_is_caused, run_isnt_silent, was_whole, write_fault_is_caused}
use Rattle.ssd_top.specs.HandedBack.{AreHandedBack}
use Rattle.ssd_top.specs.Serving.{IsCausedByTold, IsSilent, IsStop}
use Rattle.ssd_top.specs.declared.status.Status.{Status}
use Rattle.ssd_top.proofs.top.serve_run.Goals as goal

pub returns-in-Ok-print-clause-headline : goal.returns-in-Ok-print-clause-headline
returns-in-Ok-print-clause-headline g c =
    let has = rw c.in-Ok.is at c.serve_input-outcome.ensures.ok in
    λ is_done. prints_whole _ _ _ _ _ _ c.in-Ok.served has
    (Appends (g.O.Sink.written c.args.output.now) (g.O.Sink.written c.print.new.output)) c.in-Ok-print.ensures.all
    (was_whole c.in-Ok.served.printed.full (sym c.status-status.ensures ∙ is_done))

pub returns-in-Ok-print-clause-headline_at_limit : goal.returns-in-Ok-print-clause-headline_at_limit
returns-in-Ok-print-clause-headline_at_limit g c =
    let has = rw c.in-Ok.is at c.serve_input-outcome.ensures.ok in
    λ channel entries is_limit. prints_stopped _ _ _ _ _ _ c.in-Ok.served has
    (Appends (g.O.Sink.written c.args.output.now) (g.O.Sink.written c.print.new.output)) c.in-Ok-print.ensures.all
    channel entries (has_stopped c.in-Ok.served.printed.full channel entries (sym c.status-status.ensures ∙ is_limit))

pub returns-in-Ok-clause-headline_front : goal.returns-in-Ok-clause-headline_front
returns-in-Ok-clause-headline_front g c =
    let has = rw c.in-Ok.is at c.serve_input-outcome.ensures.ok in
    λ has_failed. prints_some _ _ _ _ _ _ c.in-Ok.served has
    (AppendsFront (g.O.Sink.written c.args.output.now) (g.O.Sink.written c.print.new.output)) c.in-Err-print.ensures.front

pub returns-in-Ok-print-clause-served : goal.returns-in-Ok-print-clause-served
returns-in-Ok-print-clause-served g c = λ is. is_no_refusal c.in-Ok.served.printed.full (sym c.status-status.ensures ∙ is)

pub returns-clause-served : goal.returns-clause-served
returns-clause-served g c =
    let stops = rw c.in-Err.is at c.serve_input-outcome.ensures.stop in
    let before = g.S.Source.faults c.args.input.now in
    let now = g.S.Source.faults c.serve_input-outcome.new.input in
    λ is. subst (λ (status : Status). IsStop before now status) is stops

pub returns-in-Ok-print-clause-dies : goal.returns-in-Ok-print-clause-dies
returns-in-Ok-print-clause-dies g c =
    let olds = map g.D.Die.state c.args.dies.items in
    let news = map g.D.Die.state c.serve_input-outcome.result.dies.items in
    let runs = rw c.in-Ok.is at c.serve_input-outcome.ensures.dies in
    subst (λ (status : Status). AreHandedBack status olds news) (sym c.status-status.ensures)
    (run_hands_back c.in-Ok.served.printed.full olds news runs)

pub returns-in-Ok-print-clause-caused : goal.returns-in-Ok-print-clause-caused
returns-in-Ok-print-clause-caused g c =
    subst (λ (status : Status). IsCausedByTold (g.S.Source.left c.args.input.now) status) (sym c.status-status.ensures)
    (run_is_caused (g.S.Source.left c.args.input.now) c.in-Ok.served.printed.full)

pub returns-in-Ok-clause-caused : goal.returns-in-Ok-clause-caused
returns-in-Ok-clause-caused g c = write_fault_is_caused (g.S.Source.left c.args.input.now)

pub returns-in-Ok-print-clause-nothing : goal.returns-in-Ok-print-clause-nothing
returns-in-Ok-print-clause-nothing g c = λ silent.
    absurd (run_isnt_silent c.in-Ok.served.printed.full (subst IsSilent c.status-status.ensures silent))
