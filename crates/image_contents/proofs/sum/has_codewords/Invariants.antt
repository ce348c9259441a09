use Rattle.std.proofs.Common.{◌≡◌, length, true}
use Rattle.ssd_geo.specs.Limits.{code_bytes_of}
use Rattle.ssd_geo.specs.Shape.{sizes_of}
use Rattle.image_contents.proofs.PageCodes.{are_codewords_below}
use Rattle.image_contents.proofs.sum.has_codewords.Given as goal

-- the codewords so far fail no check
abbrev pub invariant-loop-f : goal.invariant-loop-f
invariant-loop-f l = record {
  so_far : are_codewords_below l.code (sizes_of l.shape) l.word l.f ≡ true;
  length : length l.part ≡ code_bytes_of (sizes_of l.shape);
}
