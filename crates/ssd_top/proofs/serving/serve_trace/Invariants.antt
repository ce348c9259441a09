use Rattle.std.proofs.Common.{◌≡◌, ◌≤◌, length, map, take}
use Rattle.ctl.proofs.SeenChannels.{seen_by}
use Rattle.ctl.specs.Asked.{settings}
use Rattle.ssd_top.specs.Running.{RunsTo}
use Rattle.ssd_top.proofs.serving.serve_trace.Given as goal

-- each run that began with the trace has come to the channels, replies and hints after the calls so far, with so many dropped,
-- and those that wait are counted
abbrev pub invariant-loop-call : goal.invariant-loop-call
invariant-loop-call g l = record {
  same : settings l.worker ≡ settings l.fn.worker;
  same_trace : l.trace ≡ l.fn.trace;
  items : l.call-items ≡ l.trace.calls;
  runs :
      RunsTo (settings l.fn.worker) (map (seen_by g.P.Policy.told) l.fn.channels) (map (seen_by g.P.Policy.told) l.channels)
      l.fn.trace (take l.call-index l.fn.trace.calls) (map (λ list. list.items) l.replies.items) l.hints l.dropped;
  waiting_is : l.waiting ≡ length l.hints;
  few_dropped : l.dropped ≤ l.call-index;
  page_room : length l.bytes.items ≡ l.fn.worker.shape.bytes;
}
