-- The numbers of pages, the words of programs, and senses of pages that aren't programmed.
use Rattle.std.proofs.Common.{◌≡◌, ℕ, zero, suc, ◌+◌, ◌-◌, ◌*◌, ◌/◌, ◌^◌, ◌<◌, ◌≤◌, Bool, true, false, cond, List, ◌∷◌, map, length, get_or, take, drop, replicate, ℤ, refl, sym, ◌∙◌, ap, arith}
use Rattle.std.proofs.lemmas.List.{length-map, length-replicate, get_or-replicate, length-take-le, length-drop, get_or-take, get_or-drop, take-replicate, drop-replicate}
use Rattle.std.proofs.lemmas.List.FromFn.{fill_by_all}
use Rattle.std.proofs.Math.Nat.{mul-le-mul_left}
use Rattle.std.proofs.lemmas.Grind.{same_number_lists}
use Rattle.std.proofs.Math.ListN.{get_or-map, get_or-eq_default}
use Rattle.std.specs.List.{range_with_len}
use Rattle.ssd_geo.specs.BlockCells.{BlockCells, cells_at}
use Rattle.ssd_geo.specs.Cells.{sensed_bit, sensed}
use Rattle.onfi_cmd.specs.Cycles.{value_of}
use Rattle.onfi_cmd.specs.DieState.{programmed_in, levels_of_page, erased_levels}
use Rattle.onfi_cmd.specs.declared.plan.DiePlan.{DiePlan}
use Rattle.onfi_cmd.specs.declared.cycle.Cycle.{Cycle}
use Rattle.onfi_cmd.specs.declared.cycle.Cycle.TheVariants.{Byte}
use Rattle.ssd_geo.specs.Bits.{number_of, byte_of, bytes_of}

-- the number of a page in the drive is small
pub number_small : (channel die sb page channels dies blocks pages : ℕ) → channel < channels → channels ≤ 8 → die < dies → dies ≤ 8 →
    sb < blocks → blocks ≤ 256 → page < pages → pages ≤ 256 →
    ((channel * dies + die) * blocks + sb) * pages + page < 2 ^ 22
number_small channel die sb page channels dies blocks pages c cs d ds b bs p ps =
    let one = mul-le-mul_left {m = channel + 1} {n = 8} dies (omega arith) in
    let a = channel * dies + die in
    let two = mul-le-mul_left {m = a + 1} {n = 64} blocks (omega arith) in
    let three = mul-le-mul_left {m = a * blocks + sb + 1} {n = 16384} pages (omega arith) in
    omega arith

-- a function of each item of a list that has one item over and over
map_same : {X Y : Type 0} (f : X → Y) (n : ℕ) (x : X) → map f (replicate n x) ≡ replicate n (f x)
map_same f zero x = refl
map_same f (suc n) x = ap (λ (ys : List _). f x ∷ ys) (map_same f n x)

-- eight bits that are all one bit
eight_same : (bit : Bool) → number_of (replicate 8 bit) ≡ cond bit 255 0
eight_same true = refl
eight_same false = refl

-- the bytes of bits that are all one bit
bytes_same : (n : ℕ) (bit : Bool) → bytes_of (replicate (8 * n) bit) ≡ replicate n (cond bit 255 0)
bytes_same n bit =
    let bits = replicate (8 * n) bit in
    let size : (length bits + 7) / 8 ≡ n = let l = length-replicate (8 * n) bit in omega arith in
    ap (λ (m : ℕ). map (byte_of bits) (range_with_len 0 m)) size
    ∙ sym (fill_by_all (byte_of bits) (replicate n (cond bit 255 0)) n 0 (length-replicate n (cond bit 255 0))
    (λ j below. get_or-replicate n j (cond bit 255 0) 0 below
    ∙ sym (ap (λ (xs : List Bool). number_of (take 8 xs)) (drop-replicate (8 * j) (8 * n) bit)
    ∙ ap number_of (take-replicate 8 (8 * n - 8 * j) bit (omega arith)) ∙ eight_same bit)))

-- a sense of cells that all have one level
pub sensed_same : (at level : ℤ) (n : ℕ) → sensed at (replicate (8 * n) level) ≡ replicate n (cond (sensed_bit at level) 255 0)
sensed_same at level n = ap bytes_of (map_same (sensed_bit at) (8 * n) level) ∙ bytes_same n (sensed_bit at level)

-- the data bytes, once all were taken
pub all_taken : (cycles : List Cycle) (word : List ℕ) → length cycles ≡ length word + 7 →
    ((k : ℕ) → k < length word → get_or word k 0 ≡ value_of (get_or cycles (k + 6) (Byte 0))) →
    word ≡ map value_of (take (length cycles - 7) (drop 6 cycles))
all_taken cycles word size each =
    let part = take (length cycles - 7) (drop 6 cycles) in
    let long : length part ≡ length word =
    length-take-le (length cycles - 7) (drop 6 cycles) (let d = length-drop 6 cycles in omega arith) ∙ omega arith in
    same_number_lists word (map value_of part) (sym (length-map part value_of ∙ long))
    (λ k below. each k below
    ∙ sym (get_or-map value_of part k (Byte 0) ∙ ap value_of (get_or-take (length cycles - 7) (drop 6 cycles) k (Byte 0) (omega arith)
    ∙ get_or-drop 6 cycles k (Byte 0) ∙ ap (λ (n : ℕ). get_or cycles n (Byte 0)) (omega arith))))

-- a page that isn't programmed has erased levels
pub levels_of_page-erased : (plan : DiePlan) (blocks : List BlockCells) (sb page : ℕ) → programmed_in blocks sb ≤ page →
    levels_of_page plan blocks sb page ≡ erased_levels plan
levels_of_page-erased plan blocks sb page past = get_or-eq_default (cells_at blocks sb).pages (erased_levels plan) past
