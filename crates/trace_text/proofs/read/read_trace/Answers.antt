use Rattle.std.proofs.Common.{◌≡◌, Err, rules}
use Rattle.ssd_geo.specs.Shape.{sizes_of}
use Rattle.trace_text.specs.ReadLines.{pending}
use Rattle.trace_text.specs.ReadTraces.{begun_reader}
use Rattle.trace_text.proofs.DueSteps.{trace_from}
use Rattle.trace_text.proofs.TraceSteps.{calls_are_all, nothing_left, stops_all, trace_begins, trace_goes_on}
use Rattle.trace_text.proofs.read.read_trace.Goals as goal

pub returns-in_err-actors-clause-read : goal.returns-in_err-actors-clause-read
returns-in_err-actors-clause-read g c told =
    let lines = c.in-Ok.lines in
    let a = c.in-Ok.ensures in
    let stops = c.in_err-actors.ensures.read told in
    let is : c.from_residual.result ≡ Err c.in_err-actors.field-0.0 = search rules in
    let begins = trace_begins (sizes_of c.args.head.now.shape) (pending lines) lines.number lines.taken (g.S.Source.left c.args.input.now) a.pending a.number a.taken in
    rw is (stops_all c.in_err-actors.field-0.0 _ (trace_from (sizes_of c.args.head.now.shape)) _ begins stops)

pub returns-in_err-calls-clause-read : goal.returns-in_err-calls-clause-read
returns-in_err-calls-clause-read g c told =
    let lines = c.in-Ok.lines in
    let a = c.in-Ok.ensures in
    let begins = trace_begins (sizes_of c.args.head.now.shape) (pending lines) lines.number lines.taken (g.S.Source.left c.args.input.now) a.pending a.number a.taken in
    let first = c.in_ok-actors.ensures.read told in
    let begun = begun_reader c.in_ok-actors.actors c.read_actors.new.lines (g.S.Source.left c.read_actors.new.input) in
    let on = trace_goes_on (sizes_of c.args.head.now.shape) begun _ _ begins first.1 in
    let stops = c.in_err-calls.ensures.read first.0 in
    let is : c.from_residual-in_err-calls.result ≡ Err c.in_err-calls.field-0.0 = search rules in
    rw is (stops_all c.in_err-calls.field-0.0 _ _ _ on stops)

pub returns-clause-read : goal.returns-clause-read
returns-clause-read g c told =
    let lines = c.in-Ok.lines in
    let a = c.in-Ok.ensures in
    let begins = trace_begins (sizes_of c.args.head.now.shape) (pending lines) lines.number lines.taken (g.S.Source.left c.args.input.now) a.pending a.number a.taken in
    let first = c.in_ok-actors.ensures.read told in
    let begun = begun_reader c.in_ok-actors.actors c.read_actors.new.lines (g.S.Source.left c.read_actors.new.input) in
    let on = trace_goes_on (sizes_of c.args.head.now.shape) begun _ _ begins first.1 in
    let calls = c.in_ok-calls.ensures.read first.0 in
    (nothing_left _ calls.0 calls.1, calls_are_all (sizes_of c.args.head.now.shape) begun c.in_ok-calls.calls _ on calls.2)
