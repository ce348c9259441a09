-- Whether each codeword of a page's word fails no check, one after the other.
use Rattle.std.proofs.Common.{◌≡◌, ◌≢◌, ℕ, ◌+◌, ◌<◌, ◌==◌, Bool, true, false, List, [], map, ap, ◌∙◌, arith}
use Rattle.std.specs.List.{list_all, range_with_len}
use Rattle.std.proofs.lemmas.Grind.{common_steps}
use Rattle.std.proofs.lemmas.List.FromFn.{get_or-map-range_with_len, length-map-range_with_len, map-range_with_len_more}
use Rattle.std.proofs.lemmas.List.Folds.{list_all_at}
use Rattle.ssd_geo.specs.BaseMatrix.{BaseMatrix}
use Rattle.ssd_geo.specs.Codewords.{failed_checks}
use Rattle.ssd_geo.specs.Limits.{Sizes}
use Rattle.ssd_geo.specs.PageWord.{code_in}
use Rattle.ssd_formats.proofs.SpelledHeads.{all_snoc}
use Rattle.image_contents.specs.Parts.{is_word_of}

-- whether each of the first codewords fails no check
abbrev pub are_codewords_below : BaseMatrix → Sizes → List ℕ → ℕ → Bool
are_codewords_below m sizes word f = list_all (λ code. failed_checks m code == 0) (map (code_in sizes word) (range_with_len 0 f))

none_fails : (n : ℕ) → n ≡ 0 → (n == 0) ≡ true
none_fails n none = grind (arith, common_steps)

some_fails : (n : ℕ) → n ≢ 0 → (n == 0) ≡ false
some_fails n some = grind (arith, common_steps)

-- one more that fails none
pub codewords_more : (m : BaseMatrix) (sizes : Sizes) (word : List ℕ) (f : ℕ) → are_codewords_below m sizes word f ≡ true
    → failed_checks m (code_in sizes word f) ≡ 0 → are_codewords_below m sizes word (f + 1) ≡ true
codewords_more m sizes word f so_far none =
    let test : List ℕ → Bool = λ (code : List ℕ). failed_checks m code == 0 in
    ap (list_all test) (map-range_with_len_more (code_in sizes word) 0 f f (omega arith))
    ∙ all_snoc test (map (code_in sizes word) (range_with_len 0 f)) (code_in sizes word f) so_far (none_fails (failed_checks m (code_in sizes word f)) none)

-- one that fails some
pub codeword_fails : (m : BaseMatrix) (sizes : Sizes) (word : List ℕ) (f : ℕ) → f < sizes.words → failed_checks m (code_in sizes word f) ≢ 0
    → is_word_of m sizes word ≡ false
codeword_fails m sizes word f below some =
    let test : List ℕ → Bool = λ (code : List ℕ). failed_checks m code == 0 in
    let codes : List (List ℕ) = map (code_in sizes word) (range_with_len 0 sizes.words) in
    list_all_at test codes f [] (omega (arith, length-map-range_with_len (code_in sizes word) 0 sizes.words, below))
    (ap test (get_or-map-range_with_len (code_in sizes word) 0 sizes.words f f [] below (omega arith)) ∙ some_fails (failed_checks m (code_in sizes word f)) some)
