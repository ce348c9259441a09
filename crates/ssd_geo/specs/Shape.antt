-- Which sizes does a shape hold?
use Rattle.std.specs.Prelude.{◌≡◌}
use Rattle.ssd_geo.specs.Limits.{Sizes}
use Rattle.ssd_geo.specs.declared.shape.Shape.{Shape}

-- the sizes that a shape holds
abbrev pub sizes_of : Shape → Sizes
sizes_of shape = record {
  words = shape.words;
  channels = shape.channels;
  dies = shape.dies;
  superblocks = shape.superblocks;
  pages = shape.pages;
  z = shape.z;
  mb = shape.mb;
  nb = shape.nb;
  bytes = shape.bytes;
  rows = shape.rows;
}

-- a shape holds these sizes
pub record HasSizes (shape : Shape) (sizes : Sizes) : Type 0 where
  pub words_are : shape.words ≡ sizes.words
  pub channels_are : shape.channels ≡ sizes.channels
  pub dies_are : shape.dies ≡ sizes.dies
  pub superblocks_are : shape.superblocks ≡ sizes.superblocks
  pub pages_are : shape.pages ≡ sizes.pages
  pub lifting_is : shape.z ≡ sizes.z
  pub base_rows_are : shape.mb ≡ sizes.mb
  pub base_columns_are : shape.nb ≡ sizes.nb
  pub bytes_are : shape.bytes ≡ sizes.bytes
  pub rows_are : shape.rows ≡ sizes.rows
