-- Where there is no next slot, there is no room for a page of the host.
use Rattle.std.proofs.Common.{◌≡◌, ℕ, zero, suc, ◌<◌, nat_le, not, ◌&&◌, ◌||◌, cond, Bool, true, false, List, [], ◌∷◌, length, get_or, refl, sym, ◌∙◌, ap, Option, Some, None, arith}
use Rattle.std.specs.Prelude.{count_by, is_some, position}
use Rattle.std.specs.List.{list_all}
use Rattle.std.proofs.lemmas.Bool.Decides.{nat_tests}
use Rattle.std.proofs.lemmas.List.Sums.{fails_before_first, sum_by-cons}
use Rattle.ssd_histories.specs.Blocks.{blank_block, block_at, free_blocks_in, first_some, freshest_of, frontier_of, blocks_have_room, is_free_block, is_freshest, is_no_fresher, next_slot_of, next_superblock, slot_in}
use Rattle.ssd_geo.specs.declared.base.BlockBase.{BlockBase}
use Rattle.std.proofs.lemmas.Bool.{false_from_ne_true}

-- an item that fails, where not all pass
abbrev pub FailsAt : (BlockBase → Bool) → List BlockBase → ℕ → Type 0
FailsAt p xs k = (k < length xs) × (p (get_or xs k blank_block) ≡ false)

pub fails_later : (p : BlockBase → Bool) (x : BlockBase) (xs : List BlockBase) → (k : ℕ) × FailsAt p xs k → (k : ℕ) × FailsAt p (x ∷ xs) k
fails_later p x xs found = (suc found.0, (omega (arith, found.1.0), found.1.1))

pub one_fails : (p : BlockBase → Bool) (xs : List BlockBase) → list_all p xs ≡ false → (k : ℕ) × FailsAt p xs k
one_fails p [] e = absurd (grind (arith, e))
one_fails p (x ∷ xs) e = by_first (λ rest. one_fails p xs rest) (p x) refl
  where
    by_first : (list_all p xs ≡ false → (k : ℕ) × FailsAt p xs k) → (b : Bool) → p x ≡ b → (k : ℕ) × FailsAt p (x ∷ xs) k
    by_first more false f = (zero, (omega arith, f))
    by_first more true f = fails_later p x xs (more (sym (ap {B = Bool} (λ (b : Bool). b && list_all p xs) f) ∙ e))

-- the free superblock that is fresher than another
pub fresher : (block other : BlockBase) → is_no_fresher block other ≡ false → (is_free_block other ≡ true) × (other.erases < block.erases)
fresher block other e = parts (is_free_block other) (nat_le block.erases other.erases) refl e
  where
    less : (a b : ℕ) → nat_le a b ≡ false → b < a
    less a b e = grind (arith, nat_tests)

    parts : (a b : Bool) → nat_le block.erases other.erases ≡ b → (not a || b) ≡ false → (a ≡ true) × (other.erases < block.erases)
    parts true false f e = (refl, less block.erases other.erases f)
    parts true true f e = absurd (grind (arith, e))
    parts false b f e = absurd (grind (arith, e))

pub second_fails : (a b : Bool) → (a && b) ≡ false → a ≡ true → b ≡ false
second_fails true b e f = e
second_fails false b e f = absurd (grind (arith, f))

-- where none is the freshest, none is free: a free one would have a fresher one, and that a fresher one
pub none_free_below : (blocks : List BlockBase) → ((k : ℕ) → k < length blocks → is_freshest blocks (block_at blocks k) ≡ false)
    → (n k : ℕ) → k < length blocks → is_free_block (block_at blocks k) ≡ true → (block_at blocks k).erases < n → ⊥
none_free_below blocks none zero k lt free less = absurd (omega arith)
none_free_below blocks none (suc n) k lt free less =
    let found : (j : ℕ) × FailsAt (is_no_fresher (block_at blocks k)) blocks j =
    one_fails (is_no_fresher (block_at blocks k)) blocks
    (second_fails (is_free_block (block_at blocks k)) (list_all (is_no_fresher (block_at blocks k)) blocks) (none k lt) free) in
    let more : (is_free_block (block_at blocks found.0) ≡ true) × ((block_at blocks found.0).erases < (block_at blocks k).erases) =
    fresher (block_at blocks k) (block_at blocks found.0) found.1.1 in
    none_free_below blocks none n found.0 found.1.0 more.0 (omega (arith, more.1, less))

pub none_found : (p : BlockBase → Bool) (xs : List BlockBase) → position p xs ≡ None → (k : ℕ) (d : BlockBase) → k < length xs → p (get_or xs k d) ≡ false
none_found p xs e k d lt = fails_before_first p xs k d (grind (arith, e, lt))

pub none_counted : (p : BlockBase → Bool) (xs : List BlockBase) → ((k : ℕ) → k < length xs → p (get_or xs k blank_block) ≡ false) → count_by p xs ≡ 0
none_counted p [] none = refl
none_counted p (x ∷ xs) none =
    let first : ◌≡◌ {A = ℕ} (cond (p x) 1 0) 0 = ap {B = ℕ} (λ (b : Bool). cond b 1 0) (none zero (omega arith)) in
    omega (arith, first, sum_by-cons (λ (y : BlockBase). cond (p y) 1 0) x xs, none_counted p xs (λ k lt. none (suc k) (omega arith)))

pub none_free : (blocks : List BlockBase) → freshest_of blocks ≡ None → free_blocks_in blocks ≡ 0
none_free blocks e =
    none_counted is_free_block blocks
    (λ k lt.
    false_from_ne_true (is_free_block (block_at blocks k))
    (λ free.
    none_free_below blocks (λ j lt_j. none_found (is_freshest blocks) blocks e j blank_block lt_j) (suc (block_at blocks k).erases) k lt free (omega arith)))

-- without a next slot there are no frontier and no free superblock
pub neither : (frontier freshest : Option ℕ) → first_some frontier freshest ≡ None → (frontier ≡ None) × (freshest ≡ None)
neither (Some sb) freshest e = cc
neither None freshest e = (refl, e)

pub none_next : (blocks : List BlockBase) (o : Option ℕ) → slot_in blocks o ≡ None → o ≡ None
none_next blocks (Some sb) e = cc
none_next blocks None e = refl

-- so the host has no room
pub no_next_no_room : (blocks : List BlockBase) → next_slot_of blocks ≡ None → blocks_have_room blocks ≡ false
no_next_no_room blocks e =
    let both : (frontier_of blocks ≡ None) × (freshest_of blocks ≡ None) =
    neither (frontier_of blocks) (freshest_of blocks) (none_next blocks (next_superblock blocks) e) in
    no_room (frontier_of blocks) (free_blocks_in blocks) both.0 (none_free blocks both.1)
  where
    no_room : (frontier : Option ℕ) (free : ℕ) → frontier ≡ None → free ≡ 0 → (is_some frontier && nat_le 1 free || nat_le 2 free) ≡ false
    no_room frontier free closed none = rw (closed, none) refl
