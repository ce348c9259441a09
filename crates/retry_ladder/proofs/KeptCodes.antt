-- What one more decoding of a page comes to: the flags and the page's word say what is kept, and all codewords that are kept
-- are its word.
use Rattle.std.proofs.Common.{◌≡◌, ◌∙◌, ℕ, zero, suc, ◌+◌, ◌<◌, ◌&&◌, Bool, true, false, cond, List, ◌∷◌, length, map, refl, sym, ap, arith, Option, Some, None}
use Rattle.std.specs.Prelude.{get_or, option_map, replicate}
use Rattle.std.specs.List.{list_all, range_with_len}
use Rattle.ssd_geo.proofs.PageWords.{words_are_joined}
use Rattle.ssd_geo.specs.Coding.{Coding}
use Rattle.ssd_geo.specs.Ladder.{PageState, all_kept, kept_with, none_kept, page_accepted, page_decoded, partly, whole}
use Rattle.ssd_geo.specs.Limits.{Sizes, word_bytes_of}
use Rattle.ssd_geo.specs.PageWord.{code_in, codes_in, joined}
use Rattle.page_head.proofs.PutParts.{part_fits}
use Rattle.retry_ladder.specs.Kept.{found_or_kept, kept_at, kept_in}
use Rattle.retry_ladder.proofs.PageCodes.{map_same}
use Rattle.shared_lemmas.proofs.Lists.{no_mark}

-- a decoding goes over the codewords one by one
first_kept :
    (finds : ℕ → Option (List ℕ)) (f : ℕ) (code : Option (List ℕ)) (rest : List (Option (List ℕ))) →
    kept_with finds f (code ∷ rest) ≡ found_or_kept finds f code ∷ kept_with finds (f + 1) rest
first_kept finds f None rest = refl
first_kept finds f (Some code) rest = refl

each_kept :
    (finds : ℕ → Option (List ℕ)) (kept : ℕ → Option (List ℕ)) (a k : ℕ) →
    kept_with finds a (map kept (range_with_len a k)) ≡ map (λ f. found_or_kept finds f (kept f)) (range_with_len a k)
each_kept finds kept a zero = refl
each_kept finds kept a (suc k) =
    first_kept finds a (kept a) (map kept (range_with_len (a + 1) k))
    ∙ ap (λ (rest : List (Option (List ℕ))). found_or_kept finds a (kept a) ∷ rest) (each_kept finds kept (a + 1) k)

pub all_decoded :
    (sizes : Sizes) (finds : ℕ → Option (List ℕ)) (flags now : List Bool) (word after : List ℕ) →
    ((f : ℕ) → f < sizes.words → kept_at sizes now after f ≡ found_or_kept finds f (kept_at sizes flags word f)) →
    kept_in sizes now after ≡ kept_with finds 0 (kept_in sizes flags word)
all_decoded sizes finds flags now word after each =
    map_same (kept_at sizes now after) (λ f. found_or_kept finds f (kept_at sizes flags word f)) 0 sizes.words
    (λ f below. each f (omega arith))
    ∙ sym (each_kept finds (kept_at sizes flags word) 0 sizes.words)

-- all are kept where each has its flag
one_kept :
    (flag all : Bool) (code : List ℕ) (codes : List (List ℕ)) (rest : List (Option (List ℕ))) →
    all_kept rest ≡ cond all (Some codes) None → all_kept (cond flag (Some code) None ∷ rest) ≡ cond (flag && all) (Some (code ∷ codes)) None
one_kept false all code codes rest e = refl
one_kept true true code codes rest e = ap (option_map (λ (others : List (List ℕ)). code ∷ others)) e
one_kept true false code codes rest e = ap (option_map (λ (others : List (List ℕ)). code ∷ others)) e

all_from_flags :
    (sizes : Sizes) (flags : List Bool) (word : List ℕ) (a k : ℕ) →
    all_kept (map (kept_at sizes flags word) (range_with_len a k))
    ≡ cond (list_all (λ f. get_or flags f false) (range_with_len a k)) (Some (map (code_in sizes word) (range_with_len a k))) None
all_from_flags sizes flags word a zero = refl
all_from_flags sizes flags word a (suc k) =
    one_kept (get_or flags a false) (list_all (λ f. get_or flags f false) (range_with_len (a + 1) k)) (code_in sizes word a)
    (map (code_in sizes word) (range_with_len (a + 1) k)) (map (kept_at sizes flags word) (range_with_len (a + 1) k))
    (all_from_flags sizes flags word (a + 1) k)

-- where not all are kept, what is kept goes on
pub page_goes_on :
    (coding : Coding) (accepts : List ℕ → Bool) (finds : ℕ → Option (List ℕ)) (sizes : Sizes) (flags : List Bool)
    (word : List ℕ) (before : List (Option (List ℕ))) → kept_in sizes flags word ≡ kept_with finds 0 before →
    list_all (λ f. get_or flags f false) (range_with_len 0 sizes.words) ≡ false →
    page_decoded coding accepts finds before ≡ partly (kept_in sizes flags word)
page_goes_on coding accepts finds sizes flags word before is some =
    ap (λ (kept : List (Option (List ℕ))). page_accepted coding accepts kept (all_kept kept)) (sym is)
    ∙ ap (page_accepted coding accepts (kept_in sizes flags word))
    (all_from_flags sizes flags word 0 sizes.words
    ∙ ap (λ (b : Bool). cond b (Some (codes_in sizes word)) None) some)

-- where all are kept, their word is tested
pub page_tested :
    (coding : Coding) (accepts : List ℕ → Bool) (finds : ℕ → Option (List ℕ)) (sizes : Sizes) (flags : List Bool)
    (word : List ℕ) (before : List (Option (List ℕ))) (b : Bool) → kept_in sizes flags word ≡ kept_with finds 0 before →
    list_all (λ f. get_or flags f false) (range_with_len 0 sizes.words) ≡ true →
    coding.joined (codes_in sizes word) ≡ joined sizes (codes_in sizes word) → length word ≡ word_bytes_of sizes → accepts word ≡ b →
    page_decoded coding accepts finds before
    ≡ elim b as (λ _. PageState) [ true ↦ whole word | false ↦ partly (none_kept coding) ]
page_tested coding accepts finds sizes flags word before b is all joins as_long e =
    ap (λ (kept : List (Option (List ℕ))). page_accepted coding accepts kept (all_kept kept)) (sym is)
    ∙ ap (page_accepted coding accepts (kept_in sizes flags word))
    (all_from_flags sizes flags word 0 sizes.words
    ∙ ap (λ (b : Bool). cond b (Some (codes_in sizes word)) None) all)
    ∙ ap (λ (w : List ℕ). elim (accepts w) as (λ _. PageState) [ true ↦ whole w | false ↦ partly (none_kept coding) ])
    (joins ∙ (words_are_joined sizes word (part_fits sizes) as_long).1)
    ∙ ap (λ (t : Bool). elim t as (λ _. PageState) [ true ↦ whole word | false ↦ partly (none_kept coding) ]) e

no_flags : (sizes : Sizes) (n : ℕ) (word : List ℕ) (a k : ℕ) → map (kept_at sizes (replicate n false) word) (range_with_len a k) ≡ replicate k None
no_flags sizes n word a zero = refl
no_flags sizes n word a (suc k) =
    ap (λ (flag : Bool). cond flag (Some (code_in sizes word a)) None ∷ map (kept_at sizes (replicate n false) word) (range_with_len (a + 1) k))
    (no_mark n a)
    ∙ ap (λ (rest : List (Option (List ℕ))). None ∷ rest) (no_flags sizes n word (a + 1) k)

pub none_is_kept : (sizes : Sizes) (flags : List Bool) (n : ℕ) (word : List ℕ) → flags ≡ replicate n false → kept_in sizes flags word ≡ replicate sizes.words None
none_is_kept sizes flags n word e =
    ap (λ (fs : List Bool). kept_in sizes fs word) e ∙ no_flags sizes n word 0 sizes.words
