use Rattle.std.proofs.Common.{◌≡◌, ◌≤◌, ◌*◌}
use Rattle.ssd_geo.specs.Shape.{sizes_of}
use Rattle.retry_ladder.proofs.PageCodes.{failed_so_far}
use Rattle.retry_ladder.proofs.codeword.failed_of.Given as goal

-- the checks that the codewords so far fail, each at most one for each check row
abbrev pub invariant-loop-f : goal.invariant-loop-f
invariant-loop-f g l = record {
  counted : l.failed ≡ failed_so_far (sizes_of l.shape) (g.C.Decode.matrix l.decoder) l.sense l.f;
  bound : l.failed ≤ l.f * 16384;
}
