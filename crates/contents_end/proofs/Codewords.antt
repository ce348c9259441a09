-- A codeword fails no check, so a word of codewords passes as a page's word.
use Rattle.std.proofs.Common.{ℕ, zero, suc, ◌≡◌, ◌+◌, ◌≤◌, ◌<◌, ◌==◌, Bool, true, false, List, count_by, refl, ap, sym, ◌∙◌, arith, subst, cond, fold}
use Rattle.std.specs.Prelude.{sum_by}
use Rattle.std.specs.List.{range_with_len}
use Rattle.std.proofs.lemmas.List.Folds.{list_all-map}
use Rattle.ssd_geo.specs.BaseMatrix.{BaseMatrix}
use Rattle.ssd_geo.specs.Bits.{bits_of}
use Rattle.ssd_geo.specs.Codewords.{IsCodeword, failed_checks, is_odd_row, word_bits}
use Rattle.ssd_geo.specs.PageWord.{code_in}
use Rattle.ssd_formats.specs.ImageContents.{is_page_word}
use Rattle.ssd_formats.specs.ImageHead.{Head, matrix_of_head}
use Rattle.contents_end.proofs.Tests.{all_of_range, equal_if}
use Rattle.ssd_geo.proofs.CheckedCodewords.{count_none, no_check_fails}

pub word_passes : (head : Head) (word : List ℕ)
    → ((f : ℕ) → f < head.sizes.words → IsCodeword (matrix_of_head head) (code_in head.sizes word f))
    → is_page_word head word ≡ true
word_passes head word each =
    let m : BaseMatrix = matrix_of_head head in
    let passes : List ℕ → Bool = λ code. failed_checks m code == 0 in
    list_all-map passes (code_in head.sizes word) (range_with_len 0 head.sizes.words)
    ∙ all_of_range (λ (f : ℕ). passes (code_in head.sizes word f)) head.sizes.words 0
    (λ f below. let here : 0 + f ≡ f = omega arith in
    ap (λ (k : ℕ). passes (code_in head.sizes word k)) here
    ∙ equal_if (failed_checks m (code_in head.sizes word f)) 0 (no_check_fails m (code_in head.sizes word f) (each f below)))
