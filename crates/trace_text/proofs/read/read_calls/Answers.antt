use Rattle.std.proofs.Common.{◌≡◌, ◌+◌, Ok, Err, sym, ap, ◌∙◌, rules}
use Rattle.ssd_geo.specs.Shape.{sizes_of}
use Rattle.trace_text.specs.ReadLines.{line_of}
use Rattle.trace_text.proofs.Numbering.{calls_with_one}
use Rattle.trace_text.proofs.TraceSteps.{calls_end, calls_go_on, calls_stop, calls_stop_at}
use Rattle.trace_text.proofs.read.read_calls.Goals as goal

pub returns-in_err-next_due-clause-read : goal.returns-in_err-next_due-clause-read
returns-in_err-next_due-clause-read g c told =
    let i = c.reading.invariant.told told in
    let stops = c.in_err-next_due.ensures.due.told i.0 in
    let is : c.from_residual.result ≡ Err c.in_err-next_due.field-0.0 = search rules in
    rw is (calls_stop c.in_err-next_due.field-0.0 (sizes_of c.args.shape.now) c.args.actors (c.reading.lines.number + 1) c.reading.lines.taken c.reading.calls _ _ i.1 stops)

pub returns-in-Err-clause-read : goal.returns-in-Err-clause-read
returns-in-Err-clause-read g c told =
    let i = c.reading.invariant.told told in
    let reader = c.next_due.new.self in
    let d = rw c.if-branch.true at c.in_ok-next_due.ensures.due in
    let next = d.told i.0 in
    let stops = rw c.text.ensures at c.in-Err.ensures in
    rw (c.stop_at.ensures, c.number.ensures) (calls_stop_at c.in-Err.stop (sizes_of c.args.shape.now) c.args.actors (c.reading.lines.number + 1) c.reading.lines.taken reader.number reader.taken c.reading.calls (line_of reader) _ _ _ i.1 next.1 stops)

pub reading-preserved : goal.reading-preserved
reading-preserved g c =
    let reader = c.next_due.new.self in
    let d = rw c.if-branch.true at c.in_ok-next_due.ensures.due in
    let one = rw c.text.ensures at c.in-Ok.ensures in
    record {
      told = λ told.
          let i = c.reading.invariant.told told in
          let next = d.told i.0 in
          (next.0, calls_go_on (sizes_of c.args.shape.now) c.args.actors (c.reading.lines.number + 1) c.reading.lines.taken reader.number reader.taken c.reading.calls c.add_call.new.calls (line_of reader) _ _ _ i.1 next.1 one);
      numbered = calls_with_one (sizes_of c.args.shape.now) c.args.actors c.reading.calls (line_of reader) c.add_call.new.calls one c.reading.invariant.numbered;
      short = d.on.1;
      stays = search rules;
    }

pub returns-clause-read : goal.returns-clause-read
returns-clause-read g c told =
    let i = c.reading.invariant.told told in
    let d = rw c.if-branch.false at c.in_ok-next_due.ensures.due in
    let next = d.told i.0 in
    (next.0, next.1, calls_end (sizes_of c.args.shape.now) c.args.actors (c.reading.lines.number + 1) c.reading.lines.taken _ c.reading.calls _ _ i.1 next.2 ∙ ap Ok (sym c.into_items.ensures))
