use Rattle.std.proofs.Common.{◌≡◌, ◌<◌, ◌≤◌, ℕ}
use Rattle.ssd_geo.specs.Shape.{sizes_of}
use Rattle.retry_ladder.specs.Kept.{finds_in, found_or_kept, kept_at}
use Rattle.retry_ladder.proofs.found.keep_found.Given as goal

-- the codewords so far were decoded, and the others are as they were
abbrev pub invariant-loop-f : goal.invariant-loop-f
invariant-loop-f g l = record {
  decoded : (j : ℕ) → j < l.f → kept_at (sizes_of l.shape) l.kept l.word j ≡ found_or_kept (finds_in (sizes_of l.shape) (g.C.Decode.matrix l.initial.decoder) (g.C.Decode.limit l.initial.decoder) l.part l.senses) j (kept_at (sizes_of l.shape) l.initial.kept l.initial.word j);
  left : (j : ℕ) → l.f ≤ j → j < l.shape.words → kept_at (sizes_of l.shape) l.kept l.word j ≡ kept_at (sizes_of l.shape) l.initial.kept l.initial.word j;
  matrix : g.C.Decode.matrix l.decoder ≡ g.C.Decode.matrix l.initial.decoder;
  limit : g.C.Decode.limit l.decoder ≡ g.C.Decode.limit l.initial.decoder;
}
