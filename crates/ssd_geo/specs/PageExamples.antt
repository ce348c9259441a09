-- Which pages of several codewords are worked out by hand, to see that the definitions say what is meant?
use Rattle.std.specs.Prelude.{ℕ, false, [], flat_map, None}
use Rattle.ssd_geo.specs.Coding.{Coding}
use Rattle.ssd_geo.specs.Limits.{Sizes}

-- pages of so many codewords of five bytes, of which two are the part
abbrev pub small_pages : ℕ → Sizes
small_pages words = record {
  words = words;
  channels = 1;
  dies = 3;
  superblocks = 4;
  pages = 2;
  z = 8;
  mb = 3;
  nb = 5;
  bytes = 1;
  rows = 1;
}

-- a coding whose pages have two codewords, one after the other, and that finds none
abbrev pub two_codewords : Coding
two_codewords = record {
  encoded = λ serial row bytes. bytes;
  has_head = λ serial row word. false;
  word_bytes = 2;
  words = 2;
  levels = [];
  step = 1;
  hard = λ sense f. None;
  soft = λ five f. None;
  joined = flat_map (λ code. code);
  failed = λ word. 0;
}
