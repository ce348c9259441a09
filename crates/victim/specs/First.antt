-- Which number is the first that passes a test, and which superblock is the best one so far? A loop over a table ends
-- with these.
use Rattle.std.specs.Prelude.{ℕ, ◌+◌, ◌≡◌, ◌<◌, nat_lt, Bool, true, false, cond, ◌&&◌, List, Option, Some, None, slice_index_or}
use Rattle.ssd_histories.specs.Policies.{garbage_in, is_candidate_at, no_info}
use Rattle.ssd_geo.specs.declared.superblock.SbInfo.{SbInfo}

-- among the numbers below n none passes, or this is the first that does
abbrev pub IsFirst : (ℕ → Bool) → ℕ → Option ℕ → Type 0
IsFirst test n None = (k : ℕ) → k < n → test k ≡ false
IsFirst test n (Some first) = (first < n) × (test first ≡ true) × ((k : ℕ) → k < first → test k ≡ false)

-- the garbage of the superblock with this number
abbrev pub garbage_at : List SbInfo → ℕ → ℕ
garbage_at table sb = garbage_in (slice_index_or table sb no_info)

-- whether a superblock has more garbage than the best so far, if there is one
abbrev pub beats : List SbInfo → ℕ → Option ℕ → Bool
beats table sb None = true
beats table sb (Some best) = nat_lt (garbage_at table best) (garbage_at table sb)

-- the best superblock so far, or this one, where it is a candidate with more garbage
abbrev pub best_with : List SbInfo → ℕ → Option ℕ → Option ℕ
best_with table sb best = cond (is_candidate_at table sb && beats table sb best) (Some sb) best

-- the first number after the last answer, or 0 where there was none
abbrev pub start_after : Option ℕ → ℕ
start_after None = 0
start_after (Some last) = last + 1
