-- The codewords before the next part are encoded.
use Rattle.std.proofs.Common.{◌≡◌, ℕ, ◌<◌, length}
use Rattle.ssd_geo.specs.Codewords.{code_of}
use Rattle.ssd_geo.specs.Coding.{word_bytes_in}
use Rattle.ssd_geo.specs.Limits.{code_bytes_of}
use Rattle.ssd_geo.specs.PageWord.{code_in, part_in}
use Rattle.ssd_geo.specs.Shape.{sizes_of}
use Rattle.chan_calls.proofs.encoding.encode_parts.Given as goal

abbrev pub invariant-loop-f : goal.invariant-loop-f
invariant-loop-f l = record {
  one : length l.one ≡ code_bytes_of (sizes_of l.shape);
  word : length l.word ≡ word_bytes_in l.shape;
  encoded : (f : ℕ) → f < l.f → code_in (sizes_of l.shape) l.word f
      ≡ code_of l.code (part_in (sizes_of l.shape) l.payload f);
}
