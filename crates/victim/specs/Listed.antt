-- Which superblocks are listed? Beside the list stands a mark for each of the 256 superblocks that there may be.
use Rattle.std.specs.Prelude.{ℕ, ◌==◌, ◌≡◌, ◌≤◌, Bool, false, List, count_by, length, slice_index_or}
use Rattle.std.specs.List.{list_any}

-- the list has this length, at most that of the marks that are set, and each mark says whether its superblock is listed
pub record AreListed (list : List ℕ) (len : ℕ) (marks : List Bool) : Type 0 where
  pub len_is : length list ≡ len
  pub marks_len : length marks ≡ 256
  pub few : len ≤ count_by (λ mark. mark) marks
  pub marked : (sb : ℕ) → slice_index_or marks sb false ≡ list_any (λ other. other == sb) list
