-- When are the lists of a head that were read in range? Each has as many items as were to be read, and each item passes
-- the tests of its record, after those before it.
use Rattle.std.specs.Prelude.{◌≡◌, ℕ, ℤ, IsTrue, ◌^◌, List, [], length}
use Rattle.std.specs.List.{list_all}
use Rattle.ssd_formats.specs.Fields.{is_below}
use Rattle.ssd_geo.specs.Limits.{Sizes, is_level}
use Rattle.ssd_formats.specs.ImageHead.{are_weak_records, are_bad_records}
use Rattle.ssd_geo.specs.declared.weak.Weak.{Weak}

-- so many read levels
pub record AreLevels (n : ℕ) (levels : List ℤ) : Type 0 where
  pub count : length levels ≡ n
  pub within : IsTrue (list_all is_level levels)

-- so many weak blocks of a drive
pub record AreWeak (sizes : Sizes) (n : ℕ) (weak : List Weak) : Type 0 where
  pub count : length weak ≡ n
  pub from : IsTrue (list_all (λ block. is_below (2 ^ 32) block.from) weak)
  pub records : IsTrue (are_weak_records sizes [] weak)

-- so many factory bad superblocks of a drive
pub record AreBad (sizes : Sizes) (n : ℕ) (bad : List (ℕ × ℕ)) : Type 0 where
  pub count : length bad ≡ n
  pub records : IsTrue (are_bad_records sizes [] bad)

-- both lists of blocks, whose numbers fit their fields
pub record AreBlocks (sizes : Sizes) (weak : List Weak) (bad : List (ℕ × ℕ)) : Type 0 where
  pub weak_count : IsTrue (is_below (2 ^ 16) (length weak))
  pub are_weak : AreWeak sizes (length weak) weak
  pub bad_count : IsTrue (is_below (2 ^ 16) (length bad))
  pub are_bad : AreBad sizes (length bad) bad
