-- What do the fields up to the rows tell, as plain numbers? The sizes, with two numbers among them. They begin where the
-- number of codewords of a page ends.
use Rattle.std.specs.Prelude.{IsTrue, ℕ, Ok}
use Rattle.std.specs.Int.{w8, w32}
use Rattle.image_file.specs.declared.sizes.FirstSizes.{FirstSizes}
use Rattle.image_file.specs.declared.sizes.SizeFields.{SizeFields}
use Rattle.ssd_formats.specs.Fields.{Rest, Reading, ◌>>=◌, number_field}
use Rattle.ssd_formats.specs.ImageHead.{first_sizes, with_columns}
use Rattle.ssd_geo.specs.Limits.{Sizes, is_column_count, is_within, is_word_count, most_bytes_of, most_rows_of}
use Rattle.ssd_geo.specs.Shape.{sizes_of}

-- the sizes that are read first; the later ones are 0
abbrev pub first_of : FirstSizes → Sizes
first_of first = record {
  words = first.words;
  channels = first.channels;
  dies = first.dies;
  superblocks = first.superblocks;
  pages = first.pages;
  z = first.z;
  mb = first.mb;
  nb = 0;
  bytes = 0;
  rows = 0;
}

-- the sizes, the number of read levels and the greatest number of iterations
pub record SizesRead : Type 0 where
  pub sizes : Sizes
  pub levels : ℕ
  pub iterations : ℕ

-- those that were read
abbrev pub sizes_read_of : SizeFields → SizesRead
sizes_read_of fields = record { sizes = sizes_of fields.shape; levels = fields.levels; iterations = fields.iterations }

-- the fields up to the rows, where a page has so many codewords
unfoldable pub size_fields : ℕ → Rest → Reading SizesRead
size_fields words rest = do
  first ← first_sizes words rest
  nb ← number_field w8 (λ nb. is_column_count (with_columns first.0 nb)) first.1
  levels ← number_field w8 (is_within 1 16) nb.1
  iterations ← number_field w8 (is_within 1 64) levels.1
  bytes ← number_field w32 (is_within 1 (most_bytes_of (with_columns first.0 nb.0))) iterations.1
  rows ← number_field w32 (is_within 1 (most_rows_of first.0 0)) bytes.1
  Ok (
    record {
      sizes = record first.0 { nb = nb.0; bytes = bytes.0; rows = rows.0 };
      levels = levels.0;
      iterations = iterations.0;
    },
    rows.1,
  )

-- the sizes that are read first are in range
pub record AreFirst (sizes : Sizes) : Type 0 where
  pub words : IsTrue (is_word_count sizes.words)
  pub channels : IsTrue (is_within 1 8 sizes.channels)
  pub dies : IsTrue (is_within 3 8 sizes.dies)
  pub superblocks : IsTrue (is_within 4 256 sizes.superblocks)
  pub pages : IsTrue (is_within 2 256 sizes.pages)
  pub lifting : IsTrue (is_within 4 1024 sizes.z)
  pub base_rows : IsTrue (is_within 3 16 sizes.mb)

-- and so are the others
pub record AreSizes (sizes : Sizes) : Type 0 where
  pub first : AreFirst sizes
  pub base_columns : IsTrue (is_column_count sizes)
  pub bytes : IsTrue (is_within 1 (most_bytes_of sizes) sizes.bytes)
  pub rows : IsTrue (is_within 1 (most_rows_of sizes 0) sizes.rows)

-- and the two numbers among them
pub record AreSizesRead (read : SizesRead) : Type 0 where
  pub sizes : AreSizes read.sizes
  pub level_count : IsTrue (is_within 1 16 read.levels)
  pub iterations : IsTrue (is_within 1 64 read.iterations)
