-- The reserve and what is worn: the proofs of the laws of specs/Reserve.antt.
use Rattle.std.proofs.Common.{◌≡◌, ℕ, ◌<◌, ◌==◌, nat_lt, nat_le, ◌&&◌, ◌||◌, cond, Bool, true, false, List, ◌∷◌, length, refl, ap, ◌∙◌, Option, Some, None, arith}
use Rattle.std.specs.Prelude.{is_none}
use Rattle.std.proofs.lemmas.Bool.Decides.{nat_tests}
use Rattle.std.proofs.lemmas.List.FromFn.{length-map-range_with_len}
use Rattle.std.proofs.lemmas.List.Sums.{sum_by-set}
use Rattle.ssd_geo.specs.declared.base.BlockBase.{BlockBase}
use Rattle.ssd_geo.specs.declared.entry.Entry.{Entry}
use Rattle.ssd_geo.specs.declared.kind.Kind.{Kind}
use Rattle.ssd_geo.specs.declared.superblock.SbState.{SbState}
use Rattle.ssd_histories.specs.Blocks as Blocks
use Rattle.ssd_histories.specs.Lawful.{IsLawfulPick}
use Rattle.ssd_histories.specs.PastBlocks.{block_of, blocks_of, slots_in}
use Rattle.ssd_histories.specs.Reserve.{PicksLeaveReserve, ReserveIsNotWorn, fits_into_frontier}
use Rattle.ssd_histories.specs.Room.{count_of_free, live_of, victim_of}
use Rattle.ssd_histories.specs.States as States
use Rattle.ssd_histories.proofs.BlockSteps.{blocks_after_entry, candidate_sealed}
use Rattle.std.proofs.lemmas.Bool.{ltb-true}

not_worn : (free left : ℕ) (live : ℕ → ℕ) (o : Option ℕ) → (nat_le 1 free || elim o [ Some sb ↦ nat_le (live sb) left | None ↦ false ]) ≡ true
    → (free == 0 && (is_none o || nat_lt left (elim o [ Some sb ↦ live sb | None ↦ 0 ]))) ≡ false
not_worn free left live None e = grind (arith, nat_tests)
not_worn free left live (Some sb) e = fits free (live sb) left e
  where
    fits : (n m l : ℕ) → (nat_le 1 n || nat_le m l) ≡ true → (n == 0 && (false || nat_lt l m)) ≡ false
    fits n m l e = grind (arith, nat_tests)

pub reserve_is_not_worn : ReserveIsNotWorn
reserve_is_not_worn base past e =
    not_worn (count_of_free base past) (Blocks.slots_left (slots_in base) (blocks_of base past)) (live_of base past) (victim_of base past) e

pub sealed_isnt_free : (state : SbState) → States.is_sealed state ≡ true → States.is_free state ≡ false
sealed_isnt_free SbState.Free e = absurd (grind arith)
sealed_isnt_free SbState.Frontier e = refl
sealed_isnt_free SbState.Sealed e = refl
sealed_isnt_free SbState.Bad e = refl
sealed_isnt_free SbState.Victim e = refl

-- a pick leaves as many superblocks free
as_many_free : (blocks : List BlockBase) (sb : ℕ) → sb < length blocks → States.is_sealed (Blocks.block_at blocks sb).state ≡ true
    → Blocks.free_blocks_in (Blocks.with_victim blocks sb) ≡ Blocks.free_blocks_in blocks
as_many_free blocks sb lt sealed =
    let test : BlockBase → ℕ = λ block. cond (Blocks.is_free_block block) 1 0 in
    let old : test (Blocks.block_at blocks sb) ≡ 0 = ap {B = ℕ} (λ (b : Bool). cond b 1 0) (sealed_isnt_free (Blocks.block_at blocks sb).state sealed) in
    omega (arith, old, sum_by-set test blocks sb (Blocks.victim_block (Blocks.block_at blocks sb)) Blocks.blank_block lt)

enough : (n m : ℕ) (other : Bool) → nat_le 1 n ≡ true → m ≡ n → (nat_le 1 m || other) ≡ true
enough n m true h e = grind (arith, nat_tests)
enough n m false h e = grind (arith, nat_tests)

pub picks_leave_reserve : PicksLeaveReserve
picks_leave_reserve ladder base tag sb past lawful =
    let entry : Entry = record { tag = tag; kind = Kind.Pick sb } in
    let c : IsLawfulPick base past sb = lawful.1.meets in
    let lt : sb < base.shape.superblocks = ltb-true sb base.shape.superblocks lawful.1.in_range in
    let sealed : States.is_sealed (Blocks.block_at (blocks_of base past) sb).state ≡ true = candidate_sealed base past sb lt c.is_candidate in
    let after : blocks_of base (entry ∷ past) ≡ Blocks.with_victim (blocks_of base past) sb = blocks_after_entry ladder base entry past lawful in
    let same : count_of_free base (entry ∷ past) ≡ count_of_free base past =
    ap {B = ℕ} Blocks.free_blocks_in after
    ∙ as_many_free (blocks_of base past) sb (omega (arith, length-map-range_with_len (block_of base past) 0 base.shape.superblocks)) sealed in
    enough (count_of_free base past) (count_of_free base (entry ∷ past)) (fits_into_frontier base (entry ∷ past)) c.has_free same
