-- What is known of the running sum of contents that have a spelling: it is a page's word of codewords, all 0 where no stripe is
-- open.
use Rattle.std.proofs.Common.{◌≡◌, refl, ap, sym, ◌∙◌, ℕ, zero, suc, ◌+◌, ◌<◌, ◌&&◌, ◌||◌, ◌==◌, cond, Bool, true, false, List, [], ◌∷◌, ◌++◌, length, find, Some, arith}
use Rattle.std.specs.Prelude.{if◌then◌else◌}
use Rattle.std.specs.List.{list_all, list_any, range_with_len}
use Rattle.std.specs.Option.{option_map_or}
use Rattle.std.proofs.lemmas.List.Folds.{list_all-map}
use Rattle.ssd_geo.specs.BaseMatrix.{BaseMatrix}
use Rattle.ssd_geo.specs.Bits.{bits_of}
use Rattle.ssd_geo.specs.Codewords.{IsCodeword, failed_checks, word_bits}
use Rattle.ssd_geo.specs.Limits.{Sizes, word_bytes_of}
use Rattle.ssd_geo.specs.PageWord.{code_in}
use Rattle.ssd_geo.specs.declared.base.BlockBase.{BlockBase}
use Rattle.ssd_geo.proofs.FoundWords.{even_rows}
use Rattle.ssd_formats.specs.ImageContents.{SavedBlock, are_saved_blocks, blocks_of_saved, is_page_word, is_saved_block, is_stripe_open, is_sum}
use Rattle.ssd_formats.specs.ImageHead.{Head, matrix_of_head}
use Rattle.contents_start.proofs.SavedBlocks.{IsPart, part_of}
use Rattle.std.proofs.lemmas.Bool.{and_parts, eqb-true}

-- the sum of the first superblock with an open stripe, or another list
abbrev pub sum_or : Sizes → List ℕ → List SavedBlock → List ℕ
sum_or sizes other blocks =
    option_map_or (λ (saved : SavedBlock). saved.sum) (find (λ (saved : SavedBlock). is_stripe_open sizes saved.block) blocks) other

-- what holds of the sum of each open stripe, and of the other list, holds of it
pub on_sum : (head : Head) (channel : ℕ) (other : List ℕ) (P : List ℕ → Type 0) → P other
    → ((before : List SavedBlock) (saved : SavedBlock) → IsPart head channel before saved
    → is_stripe_open head.sizes saved.block ≡ true → P saved.sum)
    → (blocks before : List SavedBlock) → are_saved_blocks head channel before blocks ≡ true → P (sum_or head.sizes other blocks)
on_sum head channel other P of_other of_open [] before e = of_other
on_sum head channel other P of_other of_open (saved ∷ blocks) before e =
    let both = and_parts (is_saved_block head channel before saved) (are_saved_blocks head channel (before ++ saved ∷ []) blocks) e in
    by_test (is_stripe_open head.sizes saved.block) refl (of_open before saved (part_of head channel before saved both.0))
    (on_sum head channel other P of_other of_open blocks (before ++ saved ∷ []) both.1)
  where
    by_test : (b : Bool) → is_stripe_open head.sizes saved.block ≡ b → (is_stripe_open head.sizes saved.block ≡ true → P saved.sum)
        → P (sum_or head.sizes other blocks)
        → P (option_map_or (λ (one : SavedBlock). one.sum)
        (cond b (Some saved) (find (λ (one : SavedBlock). is_stripe_open head.sizes one.block) blocks)) other)
    by_test true same here rest = here same
    by_test false same here rest = rest

-- the sum of an open stripe has the bytes of a page's word, and each of its codewords is one
sum_passes : (head : Head) (block : BlockBase) (sum : List ℕ) → is_stripe_open head.sizes block ≡ true → is_sum head block sum ≡ true
    → (length sum == word_bytes_of head.sizes && is_page_word head sum) ≡ true
sum_passes head block sum is_open e =
    ap (λ (b : Bool). if b then (length sum == word_bytes_of head.sizes && is_page_word head sum) else (length sum == 0)) (sym is_open)
    ∙ e

pub sum_is_long : (head : Head) (channel : ℕ) (before : List SavedBlock) (saved : SavedBlock) → IsPart head channel before saved
    → is_stripe_open head.sizes saved.block ≡ true → length saved.sum ≡ word_bytes_of head.sizes
sum_is_long head channel before saved part is_open =
    eqb-true (length saved.sum) (word_bytes_of head.sizes)
    (and_parts (length saved.sum == word_bytes_of head.sizes) (is_page_word head saved.sum)
    (sum_passes head saved.block saved.sum is_open part.sum)).0

-- what a test of all numbers of a range says of one
in_range : (test : ℕ → Bool) (n from k : ℕ) → list_all test (range_with_len from n) ≡ true → k < n → test (from + k) ≡ true
in_range test zero from k e below = absurd (omega (arith, below))
in_range test (suc n) from zero e below =
    let here : from + 0 ≡ from = omega arith in
    ap test here ∙ (and_parts (test from) (list_all test (range_with_len (from + 1) n)) e).0
in_range test (suc n) from (suc k) e below =
    let there : from + suc k ≡ from + 1 + k = omega arith in
    ap test there
    ∙ in_range test n (from + 1) k (and_parts (test from) (list_all test (range_with_len (from + 1) n)) e).1 (omega (arith, below))

pub sum_has_codewords : (head : Head) (channel : ℕ) (before : List SavedBlock) (saved : SavedBlock) → IsPart head channel before saved
    → is_stripe_open head.sizes saved.block ≡ true → (f : ℕ) → f < head.sizes.words
    → IsCodeword (matrix_of_head head) (code_in head.sizes saved.sum f)
sum_has_codewords head channel before saved part is_open f below =
    let m : BaseMatrix = matrix_of_head head in
    let passes : List ℕ → Bool = λ code. failed_checks m code == 0 in
    let checked = and_parts (length saved.sum == word_bytes_of head.sizes) (is_page_word head saved.sum)
    (sum_passes head saved.block saved.sum is_open part.sum) in
    let each : list_all (λ (k : ℕ). passes (code_in head.sizes saved.sum k)) (range_with_len 0 head.sizes.words) ≡ true =
    sym (list_all-map passes (code_in head.sizes saved.sum) (range_with_len 0 head.sizes.words)) ∙ checked.1 in
    let here : 0 + f ≡ f = omega arith in
    let code : List ℕ = code_in head.sizes saved.sum f in
    let none : passes code ≡ true =
    ap (λ (k : ℕ). passes (code_in head.sizes saved.sum k)) (sym here)
    ∙ in_range (λ (k : ℕ). passes (code_in head.sizes saved.sum k)) head.sizes.words 0 f each below in
    even_rows m (bits_of (word_bits m) code) none

-- without an open stripe it is the other list
pub no_sum : (sizes : Sizes) (other : List ℕ) (blocks : List SavedBlock)
    → list_any (is_stripe_open sizes) (blocks_of_saved blocks) ≡ false → sum_or sizes other blocks ≡ other
no_sum sizes other [] e = refl
no_sum sizes other (saved ∷ blocks) e =
    let both = neither (is_stripe_open sizes saved.block) (list_any (is_stripe_open sizes) (blocks_of_saved blocks)) e in
    ap (λ (b : Bool). option_map_or (λ (one : SavedBlock). one.sum)
    (cond b (Some saved) (find (λ (one : SavedBlock). is_stripe_open sizes one.block) blocks)) other) both.0
    ∙ no_sum sizes other blocks both.1
  where
    neither : (a b : Bool) → (a || b) ≡ false → (a ≡ false) × (b ≡ false)
    neither true b e = absurd (cc)
    neither false b e = (refl, e)
