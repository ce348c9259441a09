-- The running sum before the next slot is programmed, and after that.
use Rattle.std.proofs.Common.{◌≡◌, ℕ, ◌+◌, ◌-◌, ◌*◌, ◌/◌, ◌%◌, ◌<◌, ◌≤◌, ◌==◌, ◌&&◌, ◌||◌, Bool, true, false, List, ◌∷◌, refl}
use Rattle.std.proofs.Common.{ap, sym, ◌∙◌, subst, Option, Some, None, arith}
use Rattle.std.specs.Prelude.{if◌then◌else◌}
use Rattle.std.proofs.lemmas.Bool.Decides.{nat_tests}
use Rattle.std.proofs.lemmas.Nat.{div-add-mod'}
use Rattle.std.proofs.Math.Nat.{mul-mod_left}
use Rattle.ssd_geo.specs.Bits.{bytes_sum}
use Rattle.ssd_histories.specs.BlockLaws.{AtMostOne}
use Rattle.ssd_histories.specs.Blocks as Blocks
use Rattle.ssd_geo.specs.Coding.{coding_of, word_bytes_in}
use Rattle.ssd_geo.specs.Ladder.{LadderState}
use Rattle.ssd_histories.specs.Lawful.{IsLawfulBy}
use Rattle.ssd_histories.specs.PastBlocks.{blocks_of, is_bad_superblock, is_picked, slots_in, state_of, used_of}
use Rattle.ssd_histories.specs.PastPages.{adds, clears, keeps, is_in_stripe, running_sum, sum_of, sum_of_open, sum_when}
use Rattle.ssd_histories.specs.Ranges.{has_slot}
use Rattle.ssd_histories.specs.Room.{next_slot}
use Rattle.ssd_histories.specs.Start.{Start}
use Rattle.ssd_histories.specs.States as States
use Rattle.ssd_histories.specs.States.{is_frontier}
use Rattle.ssd_geo.specs.Stripe.{is_last_of_stripe, stripe_of_index}
use Rattle.ssd_geo.specs.StripeSum.{zero_word}
use Rattle.ssd_geo.specs.declared.entry.Entry.{Entry}
use Rattle.ssd_geo.specs.declared.kind.Kind.{Kind}
use Rattle.ssd_geo.specs.declared.slot.Slot.{Slot}
use Rattle.ssd_geo.specs.declared.tag.Tag.{Tag}
use Rattle.ssd_histories.proofs.FreshPages.{two_dies}
use Rattle.ssd_histories.proofs.OneOfEach.{found_block}
use Rattle.ssd_histories.proofs.PinnedWords.{next_sound, usable_next}
use Rattle.ssd_geo.proofs.Stripes.{one_more_closed}
use Rattle.ssd_histories.proofs.UsedSlots.{made, next_is_used, slot_in_range}
use Rattle.chan_fits.proofs.FreshSums.{HasFreshSums, fresh_sums}
use Rattle.chan_fits.proofs.Frontiers.{free_has_none, frontier_is_found, frontier_is_slots, next_in_frontier, none_is_frontier}
use Rattle.chan_fits.proofs.Frontiers.{one_after_write, one_more_used, slots_is_frontier}

-- the running sum, by the frontier
abbrev sum_by : Start → List (Tag × List ℕ) → List Entry → Option ℕ → List ℕ
sum_by start contents past o = elim o [
  | Some sb ↦ sum_of_open (coding_of start.base) start contents past sb
  | None ↦ zero_word (word_bytes_in start.base.shape)
]

-- the sum of a superblock's open stripe, by whether a stripe is open
abbrev sum_in : Start → List (Tag × List ℕ) → List Entry → ℕ → ℕ → Bool → List ℕ
sum_in start contents past sb stripe whole =
    elim whole [
      | true ↦ zero_word (word_bytes_in start.base.shape)
      | false ↦ sum_of
          (coding_of start.base) start contents past sb stripe
    ]

-- the sum of the data words of the next slot's stripe
abbrev pub sum_at : Start → List (Tag × List ℕ) → List Entry → Slot → List ℕ
sum_at start contents past slot = sum_of (coding_of start.base) start contents past slot.sb
    (stripe_of_index start.base.shape.dies slot.index)

-- ---- before

free_next : (base_frontier free : Bool) → (base_frontier || free) ≡ true → base_frontier ≡ false → free ≡ true
free_next true free e f = absurd (grind arith)
free_next false free e f = e

-- the sum of the next slot's stripe is that of the superblock's open stripe: zeros where a stripe begins
open_is_next : (start : Start) (contents : List (Tag × List ℕ)) (past : List Entry) (slot : Slot)
    → slot.index ≡ used_of start.base past slot.sb
    → HasFreshSums start contents past slot.sb → sum_of_open
    (coding_of start.base) start contents past slot.sb ≡ sum_at start contents past slot
open_is_next start contents past slot index fresh =
    let used : ℕ = used_of start.base past slot.sb in
    let w : ℕ = start.base.shape.dies - 1 in
    by_test (used % w == 0) (λ e. fresh (used / w) (whole_stripes used w e))
    ∙ ap {B = List ℕ} (λ (n : ℕ). sum_of (coding_of start.base) start contents past slot.sb (n / w)) (sym index)
  where
    whole_stripes : (n w : ℕ) → (n % w == 0) ≡ true → n ≤ n / w * w
    whole_stripes n w e = let none : n % w ≡ 0 = grind (arith, nat_tests) in omega (arith, none, div-add-mod' n w)

    by_test : (b : Bool)
        → (b ≡ true → sum_of (coding_of start.base) start contents past slot.sb
        (used_of start.base past slot.sb / (start.base.shape.dies - 1)) ≡ zero_word (word_bytes_in start.base.shape))
        → sum_in start contents past slot.sb (used_of start.base past slot.sb / (start.base.shape.dies - 1)) b
        ≡ sum_of (coding_of start.base) start contents past slot.sb
        (used_of start.base past slot.sb / (start.base.shape.dies - 1))
    by_test true zeros = sym (zeros refl)
    by_test false zeros = refl

-- the running sum is that of the next slot's stripe
pub sum_before : (ladder : List Entry → ℕ → LadderState) (start : Start) (contents : List (Tag × List ℕ)) (past : List Entry)
    (slot : Slot)
    → IsLawfulBy ladder start.base past → next_slot start.base past ≡ Some slot → has_slot start.base.shape slot ≡ true
    → running_sum (coding_of start.base) start contents past ≡ sum_at start contents past slot
sum_before ladder start contents past slot lawful next range =
    by_frontier (Blocks.frontier_of (blocks_of start.base past))
    (λ e. none_is_frontier start.base past slot.sb e (slot_in_range start.base.shape slot range))
    (λ k e. next_in_frontier start.base past slot k next e)
  where
    index : slot.index ≡ used_of start.base past slot.sb
    index = next_is_used start.base past slot next (slot_in_range start.base.shape slot range)

    fresh : HasFreshSums start contents past slot.sb
    fresh = fresh_sums ladder start contents past lawful slot.sb (next_sound start.base past slot next range)

    none_used : is_frontier (state_of start.base past slot.sb) ≡ false → used_of start.base past slot.sb ≡ 0
    none_used e =
        free_has_none (is_bad_superblock start.base past slot.sb) (is_picked start.base past slot.sb) (slots_in start.base)
        (used_of start.base past slot.sb)
        (free_next (is_frontier (state_of start.base past slot.sb)) (States.is_free (state_of start.base past slot.sb))
        (usable_next start.base past slot next range) e)

    by_frontier : (o : Option ℕ) → (o ≡ None → is_frontier (state_of start.base past slot.sb) ≡ false)
        → ((k : ℕ) → o ≡ Some k → k ≡ slot.sb)
        → sum_by start contents past o ≡ sum_at start contents past slot
    by_frontier None none found =
        sym (fresh (stripe_of_index start.base.shape.dies slot.index) (omega (arith, none_used (none refl))))
    by_frontier (Some k) none found =
        ap {B = List ℕ} (λ (n : ℕ). sum_of_open (coding_of start.base) start contents past n) (found k refl)
        ∙ open_is_next start contents past slot index fresh

-- ---- after

-- where the last slot of a stripe is used, whole stripes are
last_is_whole : (n w : ℕ) → 0 < w → (n % w + 1 == w) ≡ true → ((n + 1) % w == 0) ≡ true
last_is_whole n w pos e =
    let full : n % w + 1 ≡ w = grind (arith, nat_tests) in
    let one : ◌≡◌ {A = ℕ} (if n % w + 1 == w then 1 else 0) 1 = ap {B = ℕ} (λ (b : Bool). if b then 1 else 0) e in
    none ((n + 1) / w) (n / w) ((n + 1) % w) (n % w) w n (omega (arith, one_more_closed n w pos, one)) full
    (div-add-mod' (n + 1) w) (div-add-mod' n w)
  where
    none : (p q r s w n : ℕ) → p ≡ q + 1 → s + 1 ≡ w → p * w + r ≡ n + 1 → q * w + s ≡ n → (r == 0) ≡ true
    none p q r s w n e f g h =
        let times : p * w ≡ (q + 1) * w = ap {B = ℕ} (λ (k : ℕ). k * w) e in
        let zero_rest : r ≡ 0 = omega arith in
        grind (arith, nat_tests)

-- and else the stripe goes on
open_goes_on : (n w : ℕ) → 0 < w → (n % w + 1 == w) ≡ false → (n + 1) / w ≡ n / w
open_goes_on n w pos e =
    let none : ◌≡◌ {A = ℕ} (if n % w + 1 == w then 1 else 0) 0 = ap {B = ℕ} (λ (b : Bool). if b then 1 else 0) e in
    omega (arith, one_more_closed n w pos, none)

open_is_not_whole : (n w : ℕ) → 0 < w → (n % w + 1 == w) ≡ false → ((n + 1) % w == 0) ≡ false
open_is_not_whole n w pos e =
    some ((n + 1) / w) (n / w) ((n + 1) % w) (n % w) w n (open_goes_on n w pos e) (div-add-mod' (n + 1) w) (div-add-mod' n w)
  where
    some : (p q r s w n : ℕ) → p ≡ q → p * w + r ≡ n + 1 → q * w + s ≡ n → (r == 0) ≡ false
    some p q r s w n e g h =
        let times : p * w ≡ q * w = ap {B = ℕ} (λ (k : ℕ). k * w) e in
        let more : r ≡ s + 1 = omega arith in
        grind (arith, nat_tests)

-- the last slot of a superblock is the last of its stripe
not_last_slot : (n w pages : ℕ) → 0 < w → (n % w + 1 == w) ≡ false → (n + 1 == pages * w) ≡ false
not_last_slot n w pages pos e = by_test (n + 1 == pages * w) refl
  where
    same : (a b : ℕ) → (a == b) ≡ true → a ≡ b
    same a b e = grind (arith, nat_tests)

    zero_test : (r : ℕ) → r ≡ 0 → (r == 0) ≡ false → ⊥
    zero_test r e f = grind (arith, nat_tests)

    by_test : (b : Bool) → (n + 1 == pages * w) ≡ b → (n + 1 == pages * w) ≡ false
    by_test true f =
        absurd (zero_test ((n + 1) % w) (ap {B = ℕ} (λ (k : ℕ). k % w) (same (n + 1) (pages * w) f) ∙ mul-mod_left pages w)
        (open_is_not_whole n w pos e))
    by_test false f = f

-- the sum of a stripe after the next slot was programmed with a word, by a write or by a copy
abbrev pub sum_with : Start → List (Tag × List ℕ) → List Entry → Slot → List ℕ → ℕ → ℕ → List ℕ
sum_with start contents past slot word sb stripe = elim (sum_when (is_in_stripe start.base.shape.dies sb stripe slot) adds) [
  | adds ↦ bytes_sum word (sum_of (coding_of start.base) start contents past sb stripe)
  | clears ↦ zero_word (word_bytes_in start.base.shape)
  | keeps ↦ sum_of (coding_of start.base) start contents past sb stripe
]

-- that of a superblock's open stripe, by whether a stripe is open, and the running sum: a copy uses as many slots as a write
abbrev pub in_with : Start → List (Tag × List ℕ) → List Entry → Slot → List ℕ → ℕ → ℕ → Bool → List ℕ
in_with start contents past slot word sb stripe whole =
    elim whole [ true ↦ zero_word (word_bytes_in start.base.shape) | false ↦ sum_with start contents past slot word sb stripe ]

abbrev pub open_with : Start → List (Tag × List ℕ) → List Entry → Tag → ℕ → Slot → List ℕ → ℕ → List ℕ
open_with start contents past tag row slot word sb =
    let used = used_of start.base (made tag (Kind.Write row slot) ∷ past) sb in
    in_with start contents past slot word sb (used / (start.base.shape.dies - 1)) (used % (start.base.shape.dies - 1) == 0)

abbrev pub by_with : Start → List (Tag × List ℕ) → List Entry → Tag → ℕ → Slot → List ℕ → Option ℕ → List ℕ
by_with start contents past tag row slot word o = elim o [
  | Some sb ↦ open_with start contents past tag row slot word sb
  | None ↦ zero_word (word_bytes_in start.base.shape)
]

abbrev pub running_with : Start → List (Tag × List ℕ) → List Entry → Tag → ℕ → Slot → List ℕ → List ℕ
running_with start contents past tag row slot word =
    by_with start contents past tag row slot word (Blocks.frontier_of
    (blocks_of start.base (made tag (Kind.Write row slot) ∷ past)))

-- the running sum after the next slot was programmed: its word is added, and with the last slot of a stripe a sum begins anew
abbrev pub sum_after_word : Start → List (Tag × List ℕ) → List Entry → Slot → List ℕ → Bool → List ℕ
sum_after_word start contents past slot word last = elim last [
  | true ↦ zero_word (word_bytes_in start.base.shape)
  | false ↦ bytes_sum word (sum_at start contents past slot)
]

pub sum_after : (start : Start) (contents : List (Tag × List ℕ)) (past : List Entry) (tag : Tag) (row : ℕ) (slot : Slot)
    (word : List ℕ)
    → AtMostOne is_frontier start.base past → next_slot start.base past ≡ Some slot → has_slot start.base.shape slot ≡ true
    → running_with start contents past tag row slot word
    ≡ sum_after_word start contents past slot word (is_last_of_stripe start.base.shape.dies slot.index)
sum_after start contents past tag row slot word one next range =
    by_last (is_last_of_stripe start.base.shape.dies slot.index) refl
  where
    w_pos : 0 < start.base.shape.dies - 1
    w_pos = omega (arith, two_dies start)

    within : slot.sb < start.base.shape.superblocks
    within = slot_in_range start.base.shape slot range

    index : slot.index ≡ used_of start.base past slot.sb
    index = next_is_used start.base past slot next within

    used : used_of start.base (made tag (Kind.Write row slot) ∷ past) slot.sb ≡ slot.index + 1
    used = one_more_used start.base past tag row slot ∙ ap {B = ℕ} (λ (n : ℕ). n + 1) (sym index)

    begins_anew : is_last_of_stripe start.base.shape.dies slot.index ≡ true
        → open_with start contents past tag row slot word slot.sb ≡ zero_word (word_bytes_in start.base.shape)
    begins_anew e =
        ap {B = List ℕ} (in_with start contents past slot word slot.sb
        (used_of start.base (made tag (Kind.Write row slot) ∷ past) slot.sb / (start.base.shape.dies - 1)))
        (ap {B = Bool} (λ (n : ℕ). n % (start.base.shape.dies - 1) == 0) used
        ∙ last_is_whole slot.index (start.base.shape.dies - 1) w_pos e)

    by_frontier : (o : Option ℕ) → ((k : ℕ) → o ≡ Some k → k ≡ slot.sb)
        → is_last_of_stripe start.base.shape.dies slot.index ≡ true
        → by_with start contents past tag row slot word o ≡ zero_word (word_bytes_in start.base.shape)
    by_frontier None found e = refl
    by_frontier (Some k) found e =
        ap {B = List ℕ} (λ (n : ℕ). open_with start contents past tag row slot word n) (found k refl) ∙ begins_anew e

    frontier : is_last_of_stripe start.base.shape.dies slot.index ≡ false
        → Blocks.frontier_of (blocks_of start.base (made tag (Kind.Write row slot) ∷ past)) ≡ Some slot.sb
    frontier e =
        frontier_is_found start.base (made tag (Kind.Write row slot) ∷ past) slot.sb
        (one_after_write start.base past tag row slot one next) within
        (slots_is_frontier start.base past tag row slot next range
        (subst (λ (n : ℕ). (n + 1 == slots_in start.base) ≡ false) index
        (not_last_slot slot.index (start.base.shape.dies - 1) start.base.shape.pages w_pos e)))

    both_same : (a b : ℕ) → (a == a && b == b) ≡ true
    both_same a b = grind (arith, nat_tests)

    added : sum_with start contents past slot word slot.sb (slot.index / (start.base.shape.dies - 1))
        ≡ bytes_sum word (sum_at start contents past slot)
    added =
        ap {B = List ℕ} (λ (b : Bool). elim (sum_when b adds) [
          | adds ↦ bytes_sum word (sum_at start contents past slot)
          | clears ↦ zero_word (word_bytes_in start.base.shape)
          | keeps ↦ sum_at start contents past slot
        ]) (both_same slot.sb (slot.index / (start.base.shape.dies - 1)))

    goes_on : is_last_of_stripe start.base.shape.dies slot.index ≡ false
        → open_with start contents past tag row slot word slot.sb
        ≡ bytes_sum word (sum_at start contents past slot)
    goes_on e =
        ap {B = List ℕ} (in_with start contents past slot word slot.sb
        (used_of start.base (made tag (Kind.Write row slot) ∷ past) slot.sb / (start.base.shape.dies - 1)))
        (ap {B = Bool} (λ (n : ℕ). n % (start.base.shape.dies - 1) == 0) used
        ∙ open_is_not_whole slot.index (start.base.shape.dies - 1) w_pos e)
        ∙ ap {B = List ℕ} (sum_with start contents past slot word slot.sb)
        (ap {B = ℕ} (λ (n : ℕ). n / (start.base.shape.dies - 1)) used
        ∙ open_goes_on slot.index (start.base.shape.dies - 1) w_pos e)
        ∙ added

    by_last : (last : Bool) → is_last_of_stripe start.base.shape.dies slot.index ≡ last
        → running_with start contents past tag row slot word ≡ sum_after_word start contents past slot word last
    by_last true e =
        by_frontier (Blocks.frontier_of (blocks_of start.base (made tag (Kind.Write row slot) ∷ past)))
        (λ k found.
        let there : (k < start.base.shape.superblocks) ×
        (is_frontier (state_of start.base (made tag (Kind.Write row slot) ∷ past) k) ≡ true) =
        found_block start.base (made tag (Kind.Write row slot) ∷ past) Blocks.is_frontier_block k found in
        frontier_is_slots start.base past tag row slot k one next there.0 there.1)
        e
    by_last false e =
        ap {B = List ℕ} (by_with start contents past tag row slot word) (frontier e) ∙ goes_on e
