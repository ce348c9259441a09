-- Where a superblock is free, or the frontier has a slot left, there is a next slot.
use Rattle.std.proofs.Common.{◌≡◌, ℕ, zero, suc, ◌<◌, ◌≤◌, nat_le, not, ◌&&◌, ◌||◌, Bool, true, false, List, [], ◌∷◌, length, get_or, refl, ap, sym, ◌∙◌, Option, Some, None, arith, ◌⊎◌, inl, inr}
use Rattle.std.specs.Prelude.{count_by, position}
use Rattle.std.specs.List.{list_all}
use Rattle.std.proofs.lemmas.Bool.Decides.{nat_tests}
use Rattle.std.proofs.lemmas.List.Sums.{fails_before_first, sum_by-cons}
use Rattle.ssd_geo.specs.declared.base.BlockBase.{BlockBase}
use Rattle.ssd_histories.specs.Blocks.{blank_block, block_at, first_some, free_blocks_in, freshest_of, frontier_of, is_free_block, is_freshest, is_no_fresher, left_in, next_superblock, slots_left}
use Rattle.history_laws.proofs.Counting.{one, one_false}
use Rattle.ssd_histories.proofs.FreeBlocks.{none_free_below}

-- an item of a list that passes a test
pub record Passes {X : Type 0} (p : X → Bool) (d : X) (xs : List X) : Type 0 where
  pub index : ℕ
  pub within : index < length xs
  pub passes : p (get_or xs index d) ≡ true

-- it is an item of a longer list too
passes_later : {X : Type 0} (p : X → Bool) (d x : X) (xs : List X) → Passes p d xs → Passes p d (x ∷ xs)
passes_later p d x xs found = record { index = suc found.index; within = omega (arith, found.within); passes = found.passes }

-- where one is counted, one passes
pub some_counted : {X : Type 0} (p : X → Bool) (d : X) (xs : List X) → 1 ≤ count_by p xs → Passes p d xs
some_counted p d [] some = absurd (omega arith)
some_counted p d (x ∷ xs) some = by_first (p x) refl (λ more. some_counted p d xs more)
  where
    by_first : (b : Bool) → p x ≡ b → (1 ≤ count_by p xs → Passes p d xs) → Passes p d (x ∷ xs)
    by_first true e rest = record { index = zero; within = omega arith; passes = e }
    by_first false e rest =
        passes_later p d x xs (rest (omega (arith, some, one_false (p x) e, sum_by-cons (λ y. one (p y)) x xs)))

-- where not all pass, one fails
some_fails : {X : Type 0} (p : X → Bool) (d : X) (xs : List X) → list_all p xs ≡ false → Passes (λ x. not (p x)) d xs
some_fails p d [] e = absurd (grind arith)
some_fails p d (x ∷ xs) e = by_first (p x) refl (λ rest. some_fails p d xs rest)
  where
    by_first : (b : Bool) → p x ≡ b → (list_all p xs ≡ false → Passes (λ y. not (p y)) d xs)
        → Passes (λ y. not (p y)) d (x ∷ xs)
    by_first true f rest = passes_later (λ y. not (p y)) d x xs
        (rest (sym (ap {B = Bool} (λ (b : Bool). b && list_all p xs) f) ∙ e))
    by_first false f rest = record { index = zero; within = omega arith; passes = ap {B = Bool} not f }

-- a free superblock that was erased less often than another
fresher : (block other : BlockBase) → not (is_no_fresher block other) ≡ true
    → (is_free_block other ≡ true) × (other.erases < block.erases)
fresher block other e = parts (is_free_block other) (nat_le block.erases other.erases) refl e
  where
    less : (a b : ℕ) → nat_le a b ≡ false → b < a
    less a b e = grind (arith, nat_tests)

    parts : (a b : Bool) → nat_le block.erases other.erases ≡ b → not (not a || b) ≡ true
        → (a ≡ true) × (other.erases < block.erases)
    parts true false f e = (refl, less block.erases other.erases f)
    parts true true f e = absurd (grind arith)
    parts false b f e = absurd (grind arith)

-- where two tests don't both hold and the first does, the second fails
second_fails : (a b : Bool) → a ≡ true → (a && b) ≡ false → b ≡ false
second_fails true b e f = f
second_fails false b e f = absurd (grind arith)

-- where no item is found, none passes
pub none_found : (p : BlockBase → Bool) (xs : List BlockBase) (k : ℕ) (d : BlockBase) → position p xs ≡ None → k < length xs
    → p (get_or xs k d) ≡ false
none_found p xs k d e lt = fails_before_first p xs k d (grind (arith, e, lt))

-- there is a superblock of the next slot
pub record HasNext (blocks : List BlockBase) : Type 0 where
  pub sb : ℕ
  pub is_next : next_superblock blocks ≡ Some sb

-- the frontier has the next slot, or else the freshest free superblock
pub room_has_next : (slots : ℕ) (blocks : List BlockBase) → (1 ≤ free_blocks_in blocks) ⊎ (1 ≤ slots_left slots blocks)
    → HasNext blocks
room_has_next slots blocks room = by_frontier (frontier_of blocks) refl
  where
    no_left : frontier_of blocks ≡ None → slots_left slots blocks ≡ 0
    no_left e = ap {B = ℕ} (left_in slots blocks) e

    is_free : frontier_of blocks ≡ None → (1 ≤ free_blocks_in blocks) ⊎ (1 ≤ slots_left slots blocks)
        → 1 ≤ free_blocks_in blocks
    is_free e (inl some) = some
    is_free e (inr left) = absurd (omega (arith, left, no_left e))

    by_freshest : (o : Option ℕ) → frontier_of blocks ≡ None → freshest_of blocks ≡ o → HasNext blocks
    by_freshest (Some k) none is =
        record { sb = k; is_next = ap {B = Option ℕ} (λ (f : Option ℕ). first_some f (freshest_of blocks)) none ∙ is }
    by_freshest None none is =
        let found : Passes is_free_block blank_block blocks = some_counted is_free_block blank_block blocks
        (is_free none room) in
        absurd (none_free_below blocks (λ k lt. none_found (is_freshest blocks) blocks k blank_block is lt)
        (suc (block_at blocks found.index).erases)
        found.index found.within found.passes (omega arith))

    by_frontier : (o : Option ℕ) → frontier_of blocks ≡ o → HasNext blocks
    by_frontier (Some k) is = record
        { sb = k; is_next = ap {B = Option ℕ} (λ (f : Option ℕ). first_some f (freshest_of blocks)) is }
    by_frontier None is = by_freshest (freshest_of blocks) is refl
