-- The free superblock with the least erase count, among those so far and among all.
use Rattle.std.proofs.Common.{◌≡◌, ℕ, zero, suc, ◌+◌, ◌<◌, ◌≤◌, inl, inr, List, length, Option, Some, None, Bool, true, false, ◌&&◌, cond, refl, arith, IfSome, is_some, nat_lt, nat_le}
use Rattle.std.specs.List.{list_all}
use Rattle.std.proofs.lemmas.Bool.{and_from, cases_eq, le-leb, leb-true, lt-leb, ltb-false, ltb-true}
use Rattle.std.proofs.lemmas.List.Folds.{list_all_at}
use Rattle.std.proofs.lemmas.List.Sums.{position_or_len_is}
use Rattle.ssd_histories.specs.Blocks.{blank_block, block_at, free_blocks_in, freshest_of, frontier_of, has_any_room, is_free_block, is_freshest, is_no_fresher}
use Rattle.ssd_geo.specs.declared.base.BlockBase.{BlockBase}
use Rattle.allocator.proofs.Places.{none_counted}
use Rattle.allocator.specs.Superblocks.{beats, best_with}
use Rattle.shared_lemmas.proofs.Positions.{all_from, not_placed, placed}

-- whether the superblock with this number is free, and how often it was erased
abbrev free_at : List BlockBase → ℕ → Bool
free_at blocks sb = is_free_block (block_at blocks sb)

abbrev erases_at : List BlockBase → ℕ → ℕ
erases_at blocks sb = (block_at blocks sb).erases

-- among the first i superblocks, none is free, or this free one has the least erase count and comes first
abbrev pub IsBest : List BlockBase → ℕ → Option ℕ → Type 0
IsBest blocks i None = (k : ℕ) → k < i → free_at blocks k ≡ false
IsBest blocks i (Some b) =
    (b < i) × (free_at blocks b ≡ true) × ((k : ℕ) → k < i → free_at blocks k ≡ true → erases_at blocks b ≤ erases_at blocks k)
    × ((k : ℕ) → k < b → free_at blocks k ≡ true → erases_at blocks b < erases_at blocks k)

-- one more superblock that isn't free changes nothing
best_kept : (blocks : List BlockBase) (i : ℕ) (best : Option ℕ) → IsBest blocks i best → free_at blocks i ≡ false
    → IsBest blocks (i + 1) best
best_kept blocks i None h used = λ k lt. elim (cases_eq k i) [ inl e ↦ rw e used | inr n ↦ h k (omega arith) ]
best_kept blocks i (Some b) h used = (
  omega arith,
  h.1,
  (λ k lt free. elim (cases_eq k i) [
    | inl e ↦ let bad : free_at blocks i ≡ true = rw (← e) free in cc
    | inr n ↦ h.2 k (omega arith) free
  ]),
  h.3,
)

-- a free one that was erased at least as often changes nothing
best_stays : (blocks : List BlockBase) (i b : ℕ) → IsBest blocks i (Some b) → erases_at blocks b ≤ erases_at blocks i
    → IsBest blocks (i + 1) (Some b)
best_stays blocks i b h le =
    (omega arith, h.1, (λ k lt free. elim (cases_eq k i) [ inl e ↦ rw e le | inr n ↦ h.2 k (omega arith) free ]), h.3)

-- a free one that was erased less often is the best
best_first : (blocks : List BlockBase) (i : ℕ) → IsBest blocks i None → free_at blocks i ≡ true
    → IsBest blocks (i + 1) (Some i)
best_first blocks i h free = (
  omega arith,
  free,
  (λ k lt free_k. elim (cases_eq k i) [
    | inl e ↦ rw e (omega arith)
    | inr n ↦ let used : free_at blocks k ≡ false = h k (omega arith) in cc
  ]),
  (λ k lt free_k. let used : free_at blocks k ≡ false = h k lt in cc),
)

best_next : (blocks : List BlockBase) (i b : ℕ) → IsBest blocks i (Some b) → free_at blocks i ≡ true
    → erases_at blocks i < erases_at blocks b → IsBest blocks (i + 1) (Some i)
best_next blocks i b h free less = (
  omega arith,
  free,
  (λ k lt free_k. elim (cases_eq k i) [
    | inl e ↦ rw e (omega arith)
    | inr n ↦ omega (arith, h.2 k (omega arith) free_k)
  ]),
  (λ k lt free_k. omega (arith, h.2 k lt free_k)),
)

best_less : (blocks : List BlockBase) (i b : ℕ) → free_at blocks i ≡ true → IsBest blocks i (Some b) → (less : Bool)
    → nat_lt (erases_at blocks i) (erases_at blocks b) ≡ less → IsBest blocks (i + 1) (cond less (Some i) (Some b))
best_less blocks i b is_free h true is_less = best_next blocks i b h is_free (ltb-true _ _ is_less)
best_less blocks i b is_free h false is_less = best_stays blocks i b h (ltb-false _ _ is_less)

best_by : (blocks : List BlockBase) (i : ℕ) (best : Option ℕ) (free : Bool) → free_at blocks i ≡ free
    → IsBest blocks i best → IsBest blocks (i + 1) (cond (free && beats blocks (erases_at blocks i) best) (Some i) best)
best_by blocks i best false is_free h = best_kept blocks i best h is_free
best_by blocks i None true is_free h = best_first blocks i h is_free
best_by blocks i (Some b) true is_free h = best_less blocks i b is_free h (nat_lt (erases_at blocks i) (erases_at blocks b)) refl

pub best_more : (blocks : List BlockBase) (i : ℕ) (best : Option ℕ) → IsBest blocks i best
    → IsBest blocks (i + 1) (best_with blocks i best)
best_more blocks i best h = best_by blocks i best (free_at blocks i) refl h

-- no free superblock was erased less often than the best of all
no_fresher : (blocks : List BlockBase) (b k : ℕ) (free : Bool) → free_at blocks k ≡ free
    → IsBest blocks (length blocks) (Some b) → k < length blocks
    → is_no_fresher (block_at blocks b) (block_at blocks k) ≡ true
no_fresher blocks b k false is_free h lt = rw is_free refl
no_fresher blocks b k true is_free h lt = rw is_free (le-leb _ _ (h.2 k lt is_free))

-- the best of all was erased less often than each free one before it
not_freshest : (blocks : List BlockBase) (b k : ℕ) (free : Bool) → free_at blocks k ≡ free
    → IsBest blocks (length blocks) (Some b) → k < b → is_freshest blocks (block_at blocks k) ≡ false
not_freshest blocks b k false is_free h lt = rw is_free refl
not_freshest blocks b k true is_free h lt =
    rw is_free
    (list_all_at (is_no_fresher (block_at blocks k)) blocks b blank_block h.0 (rw h.1 (lt-leb _ _ (h.3 k lt is_free))))

-- the best of all is the freshest one
freshest_at : (blocks : List BlockBase) (b : ℕ) → IsBest blocks (length blocks) (Some b)
    → is_freshest blocks (block_at blocks b) ≡ true
freshest_at blocks b h =
    and_from (free_at blocks b) (list_all (is_no_fresher (block_at blocks b)) blocks) h.1
    (all_from (is_no_fresher (block_at blocks b)) blocks blank_block (λ k lt. no_fresher blocks b k (free_at blocks k) refl h lt))

pub freshest_is : (blocks : List BlockBase) (best : Option ℕ) → IsBest blocks (length blocks) best
    → freshest_of blocks ≡ best
freshest_is blocks None h =
    not_placed (is_freshest blocks) blocks
    (position_or_len_is (is_freshest blocks) blocks (length blocks) blank_block (omega arith)
    (λ k lt. rw (h k lt) refl) (λ past. absurd (omega arith)))
freshest_is blocks (Some b) h =
    placed (is_freshest blocks) blocks b
    (position_or_len_is (is_freshest blocks) blocks b blank_block (omega arith)
    (λ k lt. not_freshest blocks b k (free_at blocks k) refl h lt) (λ _. freshest_at blocks b h))
    h.0

-- the best so far is in the list
pub best_in_range : (blocks : List BlockBase) (i : ℕ) (best : Option ℕ) → IsBest blocks i best → i ≤ length blocks
    → IfSome best (λ b. b < length blocks)
best_in_range blocks i None h le = tt
best_in_range blocks i (Some b) h le = omega (arith, h.0)

-- the best among the first i superblocks
abbrev best_among : List BlockBase → ℕ → Option ℕ
best_among blocks zero = None
best_among blocks (suc i) = best_with blocks i (best_among blocks i)

best_is_among : (blocks : List BlockBase) (i : ℕ) → IsBest blocks i (best_among blocks i)
best_is_among blocks zero = λ k lt. absurd (omega arith)
best_is_among blocks (suc i) =
    let e : i + 1 ≡ suc i = omega arith in
    rw e at (best_more blocks i (best_among blocks i) (best_is_among blocks i))

exists_by : (blocks : List BlockBase) (best : Option ℕ) → IsBest blocks (length blocks) best → 1 ≤ free_blocks_in blocks
    → is_some (freshest_of blocks) ≡ true
exists_by blocks None h some = absurd (omega (arith, none_counted is_free_block blocks blank_block h))
exists_by blocks (Some b) h some = rw (freshest_is blocks (Some b) h) refl

any_by : (blocks : List BlockBase) (frontier : Option ℕ) → frontier_of blocks ≡ frontier → 1 ≤ free_blocks_in blocks
    → has_any_room blocks ≡ true
any_by blocks (Some f) is_f some = rw is_f refl
any_by blocks None is_f some =
    rw is_f (exists_by blocks (best_among blocks (length blocks)) (best_is_among blocks (length blocks)) some)

-- where two superblocks are free there is a next slot
pub any_room_of_two : (blocks : List BlockBase) (free : ℕ) → free ≡ free_blocks_in blocks → nat_le 2 free ≡ true
    → has_any_room blocks ≡ true
any_room_of_two blocks free is_free two = any_by blocks (frontier_of blocks) refl (omega (arith, is_free, leb-true 2 free two))
