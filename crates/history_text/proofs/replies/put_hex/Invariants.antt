use Rattle.std.proofs.Common.{drop}
use Rattle.history_text.proofs.Chains.{Midway}
use Rattle.history_text.proofs.TextPieces.{hex_from}
use Rattle.history_text.proofs.replies.put_hex.Given as goal

abbrev pub invariant-loop-byte : goal.invariant-loop-byte
invariant-loop-byte g l =
    Midway g.O.Sink.written g.O.Sink.faults l.initial.output l.output l.initial.line l.line (hex_from l.byte-index (drop l.byte-index l.bytes)) (hex_from 0 l.bytes)
