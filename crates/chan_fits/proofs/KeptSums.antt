-- The running sum stays where another superblock than the frontier is erased, retired or picked.
use Rattle.std.proofs.Common.{◌≡◌, ℕ, zero, suc, ◌+◌, ◌-◌, ◌/◌, ◌%◌, ◌==◌, nat_lt, cond, not, Bool, true, false, List, [], ◌∷◌}
use Rattle.std.proofs.Common.{get_or, set, refl, ap, sym, ◌∙◌, subst, Option, Some, None, length-set}
use Rattle.std.specs.Prelude.{if◌then◌else◌, position}
use Rattle.std.specs.List.{position_or_len, prefix_len}
use Rattle.std.proofs.Common.{arith}
use Rattle.std.proofs.lemmas.Bool.Decides.{nat_tests}
use Rattle.std.proofs.lemmas.List.Quantifiers.{position-Some}
use Rattle.ssd_geo.specs.Bits.{bytes_sum}
use Rattle.ssd_geo.specs.Coding.{coding_of, word_bytes_in}
use Rattle.ssd_geo.specs.StripeSum.{zero_word}
use Rattle.ssd_geo.specs.declared.base.BlockBase.{BlockBase}
use Rattle.ssd_geo.specs.declared.entry.Entry.{Entry}
use Rattle.ssd_geo.specs.declared.kind.Kind.{Kind}
use Rattle.ssd_geo.specs.declared.superblock.SbState.{SbState}
use Rattle.ssd_geo.specs.declared.tag.Tag.{Tag}
use Rattle.ssd_histories.specs.Blocks as Blocks
use Rattle.ssd_histories.specs.PastBlocks.{blocks_of, used_of}
use Rattle.ssd_histories.specs.PastPages.{adds, clears, keeps, running_sum, sum_of, sum_of_open, sum_when}
use Rattle.ssd_histories.specs.Start.{Start}
use Rattle.ssd_histories.specs.States as States
use Rattle.ssd_histories.proofs.UsedSlots.{made}
use Rattle.ssd_histories.proofs.BlockSteps.{victim_no_frontier}

-- the running sum, by the frontier
abbrev sum_by : Start → List (Tag × List ℕ) → List Entry → Option ℕ → List ℕ
sum_by start contents past o = elim o [
  | Some sb ↦ sum_of_open (coding_of start.base) start contents past sb
  | None ↦ zero_word (word_bytes_in start.base.shape)
]

-- the sum stays where the frontier does, and so does the sum of its open stripe
pub sum_stays : (start : Start) (contents : List (Tag × List ℕ)) (past : List Entry) (entry : Entry)
    → Blocks.frontier_of (blocks_of start.base (entry ∷ past)) ≡ Blocks.frontier_of (blocks_of start.base past)
    → ((k : ℕ) → Blocks.frontier_of (blocks_of start.base past) ≡ Some k
    → sum_of_open (coding_of start.base) start contents (entry ∷ past) k ≡ sum_of_open
    (coding_of start.base) start contents past k)
    → running_sum (coding_of start.base) start contents (entry ∷ past) ≡ running_sum (coding_of start.base) start contents past
sum_stays start contents past entry frontier same =
    ap {B = List ℕ} (sum_by start contents (entry ∷ past)) frontier
    ∙ by_frontier (Blocks.frontier_of (blocks_of start.base past)) same
  where
    by_frontier : (o : Option ℕ)
        → ((k : ℕ) → o ≡ Some k → sum_of_open (coding_of start.base) start contents (entry ∷ past) k ≡ sum_of_open
        (coding_of start.base) start contents past k)
        → sum_by start contents (entry ∷ past) o ≡ sum_by start contents past o
    by_frontier None h = refl
    by_frontier (Some k) h = h k refl

-- an item that is put in the place of one that passes as well is found where that was
place_kept : (p : BlockBase → Bool) (xs : List BlockBase) (k : ℕ) (to : BlockBase) → p to ≡ p (get_or xs k Blocks.blank_block)
    → position_or_len p (set xs k to) ≡ position_or_len p xs
place_kept p [] k to e = refl
place_kept p (x ∷ xs) zero to e = ap {B = ℕ} (λ (b : Bool). cond (not b) (1 + prefix_len (λ (y : BlockBase). not (p y)) xs) 0) e
place_kept p (x ∷ xs) (suc k) to e = ap {B = ℕ} (λ (n : ℕ). cond (not (p x)) (1 + n) 0) (place_kept p xs k to e)

position_kept : (p : BlockBase → Bool) (xs : List BlockBase) (k : ℕ) (to : BlockBase)
    → p to ≡ p (get_or xs k Blocks.blank_block) → position p (set xs k to) ≡ position p xs
position_kept p xs k to e =
    λ i. cond (nat_lt (place_kept p xs k to e i) (length-set xs k to i)) (Some (place_kept p xs k to e i)) None

-- the frontier is found where it was after a superblock that isn't it became another that isn't
frontier_kept : (blocks : List BlockBase) (sb : ℕ) (to : BlockBase) → States.is_frontier to.state ≡ false
    → States.is_frontier (Blocks.block_at blocks sb).state ≡ false
    → Blocks.frontier_of (set blocks sb to) ≡ Blocks.frontier_of blocks
frontier_kept blocks sb to after before = position_kept Blocks.is_frontier_block blocks sb to (after ∙ sym before)

sealed_no_frontier : (state : SbState) → States.is_sealed state ≡ true → States.is_frontier state ≡ false
sealed_no_frontier SbState.Sealed e = refl
sealed_no_frontier SbState.Frontier e = cc
sealed_no_frontier SbState.Free e = refl
sealed_no_frontier SbState.Victim e = refl
sealed_no_frontier SbState.Bad e = refl

victim_block_no_frontier : (blocks : List BlockBase) (sb : ℕ) → Blocks.victim_in blocks ≡ Some sb
    → Blocks.is_frontier_block (Blocks.block_at blocks sb) ≡ false
victim_block_no_frontier blocks sb e =
    victim_no_frontier (Blocks.block_at blocks sb).state (position-Some Blocks.is_victim_block blocks sb Blocks.blank_block e).1

-- the frontier is another superblock than the victim
frontier_other : (blocks : List BlockBase) (sb k : ℕ) → Blocks.victim_in blocks ≡ Some sb → Blocks.frontier_of blocks ≡ Some k
    → (sb == k) ≡ false
frontier_other blocks sb k victim frontier = by_test (sb == k) refl
  where
    same : (a b : ℕ) → (a == b) ≡ true → a ≡ b
    same a b e = grind (arith, nat_tests)

    apart : (b : Bool) → b ≡ true → b ≡ false → ⊥
    apart b e f = grind (arith, e, f)

    by_test : (t : Bool) → (sb == k) ≡ t → t ≡ false
    by_test true e =
        absurd (apart (Blocks.is_frontier_block (Blocks.block_at blocks k))
        (position-Some Blocks.is_frontier_block blocks k Blocks.blank_block frontier).1
        (subst (λ (n : ℕ). Blocks.is_frontier_block (Blocks.block_at blocks n) ≡ false) (same sb k e)
        (victim_block_no_frontier blocks sb victim)))
    by_test false e = refl

-- after an erase of the victim, the sum of another superblock's open stripe stays
other_sum : (start : Start) (contents : List (Tag × List ℕ)) (past : List Entry) (tag : Tag) (sb k : ℕ) → (sb == k) ≡ false
    → sum_of_open (coding_of start.base) start contents (made tag (Kind.Erase sb) ∷ past) k ≡ sum_of_open
    (coding_of start.base) start contents past k
other_sum start contents past tag sb k e = ap {B = List ℕ} by_erased e
  where
    by_erased : Bool → List ℕ
    by_erased b =
        let used = if b then 0 else used_of start.base past k in
        elim (used % (start.base.shape.dies - 1) == 0) [
          | true ↦ zero_word (word_bytes_in start.base.shape)
          | false ↦ elim (sum_when b clears) [
            | adds ↦ bytes_sum [] (sum_of (coding_of start.base) start contents past k (used / (start.base.shape.dies - 1)))
            | clears ↦ zero_word (word_bytes_in start.base.shape)
            | keeps ↦ sum_of (coding_of start.base) start contents past k (used / (start.base.shape.dies - 1))
          ]
        ]

pub erase_sum : (start : Start) (contents : List (Tag × List ℕ)) (past : List Entry) (tag : Tag) (sb : ℕ)
    → Blocks.victim_in (blocks_of start.base past) ≡ Some sb
    → blocks_of start.base (made tag (Kind.Erase sb) ∷ past) ≡ Blocks.with_erased (blocks_of start.base past) sb
    → running_sum (coding_of start.base) start contents (made tag (Kind.Erase sb) ∷ past) ≡ running_sum
    (coding_of start.base) start contents past
erase_sum start contents past tag sb victim blocks =
    sum_stays start contents past (made tag (Kind.Erase sb))
    (ap {B = Option ℕ} Blocks.frontier_of blocks
    ∙ frontier_kept (blocks_of start.base past) sb (Blocks.erased_block (Blocks.block_at (blocks_of start.base past) sb)) refl
    (victim_block_no_frontier (blocks_of start.base past) sb victim))
    (λ k e. other_sum start contents past tag sb k (frontier_other (blocks_of start.base past) sb k victim e))

-- after an erase of the victim that failed
unerased_other : (start : Start) (contents : List (Tag × List ℕ)) (past : List Entry) (tag : Tag) (sb die k : ℕ) (fault : Bool)
    → (sb == k) ≡ false
    → sum_of_open (coding_of start.base) start contents (made tag (Kind.BadErase sb die fault) ∷ past) k ≡ sum_of_open
    (coding_of start.base) start contents past k
unerased_other start contents past tag sb die k fault e = ap {B = List ℕ} by_erased e
  where
    by_erased : Bool → List ℕ
    by_erased b =
        let used = if b then 0 else used_of start.base past k in
        elim (used % (start.base.shape.dies - 1) == 0) [
          | true ↦ zero_word (word_bytes_in start.base.shape)
          | false ↦ sum_of (coding_of start.base) start contents past k (used / (start.base.shape.dies - 1))
        ]

pub bad_erase_sum : (start : Start) (contents : List (Tag × List ℕ)) (past : List Entry) (tag : Tag) (sb die : ℕ) (fault : Bool)
    → Blocks.victim_in (blocks_of start.base past) ≡ Some sb
    → blocks_of start.base (made tag (Kind.BadErase sb die fault) ∷ past) ≡ Blocks.with_retired (blocks_of start.base past) sb
    → running_sum (coding_of start.base) start contents (made tag (Kind.BadErase sb die fault) ∷ past) ≡ running_sum
    (coding_of start.base) start contents past
bad_erase_sum start contents past tag sb die fault victim blocks =
    sum_stays start contents past (made tag (Kind.BadErase sb die fault))
    (ap {B = Option ℕ} Blocks.frontier_of blocks
    ∙ frontier_kept (blocks_of start.base past) sb (Blocks.retired_block (Blocks.block_at (blocks_of start.base past) sb)) refl
    (victim_block_no_frontier (blocks_of start.base past) sb victim))
    (λ k e. unerased_other start contents past tag sb die k fault (frontier_other (blocks_of start.base past) sb k victim e))

-- after a pick of a sealed superblock
pub pick_sum : (start : Start) (contents : List (Tag × List ℕ)) (past : List Entry) (tag : Tag) (sb : ℕ)
    → States.is_sealed (Blocks.block_at (blocks_of start.base past) sb).state ≡ true
    → blocks_of start.base (made tag (Kind.Pick sb) ∷ past) ≡ Blocks.with_victim (blocks_of start.base past) sb
    → running_sum (coding_of start.base) start contents (made tag (Kind.Pick sb) ∷ past) ≡ running_sum
    (coding_of start.base) start contents past
pick_sum start contents past tag sb sealed blocks =
    sum_stays start contents past (made tag (Kind.Pick sb))
    (ap {B = Option ℕ} Blocks.frontier_of blocks
    ∙ frontier_kept (blocks_of start.base past) sb (Blocks.victim_block (Blocks.block_at (blocks_of start.base past) sb)) refl
    (sealed_no_frontier (Blocks.block_at (blocks_of start.base past) sb).state sealed))
    (λ k e. refl)
