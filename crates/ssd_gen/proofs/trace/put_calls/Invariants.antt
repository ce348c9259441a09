use Rattle.std.proofs.Common.{◌≡◌}
use Rattle.std.specs.List.{range_with_len}
use Rattle.std.specs.Prelude.{flat_map}
use Rattle.ssd_geo.specs.Noise.{state_after}
use Rattle.ssd_gen.specs.TraceParts.{call_text}
use Rattle.ssd_io.specs.Writes.{Wrote}
use Rattle.ssd_gen.proofs.trace.put_calls.Given as goal

abbrev pub invariant-loop-call : goal.invariant-loop-call
invariant-loop-call g l = record {
  noise : l.noise ≡ state_after l.initial.noise l.call;
  wrote : Wrote g.O.Sink.written g.O.Sink.faults l.initial.output l.output (flat_map (call_text l.initial.noise) (range_with_len 0 l.call));
}
