-- In which parts is the head of an image read? The fields of fixed places, the read levels, the base matrix, the two lists
-- of blocks, and whether contents follow.
use Rattle.std.specs.Prelude.{ℕ, List, [], Ok, ◌==◌}
use Rattle.std.specs.Int.{w8, w16}
use Rattle.ssd_formats.specs.Fields.{Rest, Reading, ◌>>=◌, number_field, is_any, level_fields}
use Rattle.ssd_geo.specs.Limits.{Sizes, is_within}
use Rattle.ssd_formats.specs.ImageHead.{Head, fixed_fields, matrix_field, weak_records, bad_records}
use Rattle.ssd_geo.specs.declared.weak.Weak.{Weak}
use Rattle.image_file.specs.declared.blocks.BlockLists.{BlockLists}

-- the weak and the factory bad blocks
pub record Blocks : Type 0 where
  pub weak : List Weak
  pub bad : List (ℕ × ℕ)

-- those that were read
abbrev pub blocks_of : BlockLists → Blocks
blocks_of lists = record { weak = lists.weak.items; bad = lists.bad.items }

-- both lists, each behind its number
unfoldable pub block_fields : Sizes → Rest → Reading Blocks
block_fields sizes rest = do
  weak_count ← number_field w16 is_any rest
  weak ← weak_records sizes weak_count.0 [] weak_count.1
  bad_count ← number_field w16 is_any weak.1
  bad ← bad_records sizes bad_count.0 [] bad_count.1
  Ok (record { weak = weak.0; bad = bad.0 }, bad.1)

-- all parts, one after the other
unfoldable pub head_fields : Rest → Reading Head
head_fields rest = do
  fixed ← fixed_fields rest
  read_levels ← level_fields fixed.0.levels [] fixed.1
  entries ← matrix_field fixed.0.sizes read_levels.1
  blocks ← block_fields fixed.0.sizes entries.1
  contents ← number_field w8 (is_within 0 1) blocks.1
  Ok (
    record {
      sizes = fixed.0.sizes;
      read_levels = read_levels.0;
      iterations = fixed.0.iterations;
      law = fixed.0.law;
      step = fixed.0.step;
      session = fixed.0.session;
      entries = entries.0;
      weak = blocks.0.weak;
      bad = blocks.0.bad;
      full = contents.0 == 1;
    },
    contents.1,
  )
