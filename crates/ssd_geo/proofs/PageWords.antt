-- The codewords of a page are found in its word, and the word is that of its codewords: the proofs of the laws of
-- specs/PageWord.antt. Parts and parities are pieces of one length that stand one after the other.
use Rattle.std.proofs.Common.{◌≡◌, ℕ, zero, suc, ◌+◌, ◌-◌, ◌*◌, ◌<◌, ◌≤◌, List, [], ◌∷◌, ◌++◌, length, map, take, drop, refl, ap, sym, ◌∙◌, arith, append_assoc, length-append, length-drop}
use Rattle.std.specs.Prelude.{All, flat_map, get_or, slice_range}
use Rattle.std.proofs.lemmas.List.Elements.{All-cons, All-head, All-nil, All-tail}
use Rattle.std.proofs.lemmas.Nat.{mul-le}
use Rattle.std.specs.List.{range_with_len}
use Rattle.std.proofs.Math.Seq.{drop-append-add, take-add}
use Rattle.std.proofs.lemmas.List.{append-nil, drop-drop, length-take-le, take-append-drop, take_all, take_at}
use Rattle.std.proofs.lemmas.List.FromFn.{length-map-range_with_len}
use Rattle.ssd_geo.specs.Limits.{Sizes, code_bytes_of, parity_bytes_of, part_bytes_of, payload_bytes_of}
use Rattle.ssd_geo.specs.PageWord.{ArePageCodes, CodesAreBack, OneCodeIsTheWord, PartsAreThePayload, WordsAreJoined, code_in, codes_in, joined, parity_in, part_in}

-- piece f of a list that has pieces of n items from a place on
abbrev pub piece_from : ℕ → ℕ → List ℕ → ℕ → List ℕ
piece_from at n xs f = take n (drop (at + f * n) xs)

none_of : (n : ℕ) → 0 * n ≡ 0
none_of n = omega arith

none_at : (n : ℕ) → 0 + 0 * n ≡ 0
none_at n = omega arith

pub next_piece : (f n : ℕ) → (f + 1) * n ≡ f * n + n
next_piece f n = omega arith

-- a range of one piece is the piece
pub range_is_piece : (at n : ℕ) (xs : List ℕ) (f : ℕ) → slice_range xs (at + f * n) (at + (f + 1) * n) ≡ piece_from at n xs f
range_is_piece at n xs f =
    let e : (f + 1) * n ≡ f * n + n = next_piece f n in
    let same : (at + (f + 1) * n) - (at + f * n) ≡ n = omega arith in
    ap (λ (k : ℕ). take k (drop (at + f * n) xs)) same

pub first_is_piece : (n : ℕ) (xs : List ℕ) (f : ℕ) → slice_range xs (f * n) ((f + 1) * n) ≡ piece_from 0 n xs f
first_is_piece n xs f =
    let e : (f + 1) * n ≡ f * n + n = next_piece f n in
    let same : (f + 1) * n - f * n ≡ n = omega arith in
    let from : f * n ≡ 0 + f * n = omega arith in
    ap (λ (k : ℕ). take k (drop (f * n) xs)) same ∙ ap (λ (k : ℕ). take n (drop k xs)) from

-- the same for each number of a range
map_same : (g h : ℕ → List ℕ) (a k : ℕ) → ((f : ℕ) → a ≤ f → f < a + k → g f ≡ h f) → map g (range_with_len a k) ≡ map h (range_with_len a k)
map_same g h a zero same = refl
map_same g h a (suc k) same =
    ap (λ (x : List ℕ). x ∷ map g (range_with_len (a + 1) k)) (same a (omega arith) (omega arith))
    ∙ ap (λ (xs : List (List ℕ)). h a ∷ xs) (map_same g h (a + 1) k (λ f low high. same f (omega arith) (omega arith)))

flat_same : (g h : ℕ → List ℕ) (a k : ℕ) → ((f : ℕ) → a ≤ f → f < a + k → g f ≡ h f) → flat_map g (range_with_len a k) ≡ flat_map h (range_with_len a k)
flat_same g h a zero same = refl
flat_same g h a (suc k) same =
    ap (λ (x : List ℕ). x ++ flat_map g (range_with_len (a + 1) k)) (same a (omega arith) (omega arith))
    ∙ ap (λ (xs : List ℕ). h a ++ xs) (flat_same g h (a + 1) k (λ f low high. same f (omega arith) (omega arith)))

-- what is made of a list has so many items
abbrev HasItems : (List ℕ → List ℕ) → ℕ → List ℕ → Type 0
HasItems g n code = length (g code) ≡ n

abbrev itself : List ℕ → List ℕ
itself code = code

-- pieces of equal length are found where they stand
pieces_back :
    (n : ℕ) (g : List ℕ → List ℕ) (codes : List (List ℕ)) → All (λ code. length (g code) ≡ n) codes →
    (a at : ℕ) (before rest : List ℕ) → length before ≡ at + a * n →
    map (piece_from at n (before ++ (flat_map g codes ++ rest))) (range_with_len a (length codes)) ≡ map g codes
pieces_back n g [] all a at before rest as_long = refl
pieces_back n g (code ∷ codes) all a at before rest as_long =
    let own : length (g code) ≡ n = All-head (HasItems g n) code codes all in
    let whole : List ℕ = before ++ ((g code ++ flat_map g codes) ++ rest) in
    let moved : whole ≡ (before ++ g code) ++ (flat_map g codes ++ rest) =
    ap (λ (xs : List ℕ). before ++ xs) (append_assoc (g code) (flat_map g codes) rest)
    ∙ sym (append_assoc before (g code) (flat_map g codes ++ rest)) in
    let here : drop (at + a * n) whole ≡ (g code ++ flat_map g codes) ++ rest =
    ap (λ (k : ℕ). drop k whole) (omega (arith, as_long))
    ∙ drop-append-add before ((g code ++ flat_map g codes) ++ rest) 0 in
    let first : piece_from at n whole a ≡ g code =
    ap (take n) (here ∙ append_assoc (g code) (flat_map g codes) rest)
    ∙ take_at (g code) (flat_map g codes ++ rest) n own in
    let longer : length (before ++ g code) ≡ at + (a + 1) * n = omega (arith, length-append before (g code), next_piece a n, own, as_long) in
    ap (λ (x : List ℕ). x ∷ map (piece_from at n whole) (range_with_len (a + 1) (length codes))) first
    ∙ ap (λ (xs : List (List ℕ)). g code ∷ xs)
    (ap (λ (xs : List ℕ). map (piece_from at n xs) (range_with_len (a + 1) (length codes))) moved
    ∙ pieces_back n g codes (All-tail (HasItems g n) code codes all) (a + 1) at (before ++ g code) rest longer)

-- pieces that stand one after the other are what they are pieces of
pieces_join : (at n : ℕ) (xs : List ℕ) (a k : ℕ) → flat_map (piece_from at n xs) (range_with_len a k) ≡ take (k * n) (drop (at + a * n) xs)
pieces_join at n xs a zero = ap (λ (m : ℕ). take m (drop (at + a * n) xs)) (sym (none_of n))
pieces_join at n xs a (suc k) =
    let next : at + (a + 1) * n ≡ (at + a * n) + n = omega (arith, next_piece a n) in
    let more : suc k * n ≡ n + k * n = omega arith in
    ap (λ (ys : List ℕ). piece_from at n xs a ++ ys)
    (pieces_join at n xs (a + 1) k ∙ ap (λ (m : ℕ). take (k * n) (drop m xs)) next ∙ ap (take (k * n)) (sym (drop-drop n (at + a * n) xs)))
    ∙ sym (take-add n (k * n) (drop (at + a * n) xs))
    ∙ ap (λ (m : ℕ). take m (drop (at + a * n) xs)) (sym more)

-- a word's codewords fill it
words_split : (n m c : ℕ) → m ≤ c → n * m + n * (c - m) ≡ n * c
words_split zero m c fits = omega arith
words_split (suc n) m c fits = omega (arith, words_split n m c fits)

mul-le-mul_left_of : (f k n : ℕ) → f < k → (f + 1) * n ≤ k * n
mul-le-mul_left_of f k n below = mul-le (f + 1) n k n (omega arith) (omega arith)

drop_at : (xs ys : List ℕ) (n : ℕ) → length xs ≡ n → drop n (xs ++ ys) ≡ ys
drop_at xs ys n e = ap (λ (k : ℕ). drop k (xs ++ ys)) (omega (arith, e)) ∙ drop-append-add xs ys 0

flat_of_map : (g : List ℕ → List ℕ) (h : ℕ → List ℕ) (range : List ℕ) → flat_map g (map h range) ≡ flat_map (λ f. g (h f)) range
flat_of_map g h [] = refl
flat_of_map g h (f ∷ range) = ap (λ (xs : List ℕ). g (h f) ++ xs) (flat_of_map g h range)

all_of_range : (n : ℕ) (g : ℕ → List ℕ) (a k : ℕ) → ((f : ℕ) → a ≤ f → f < a + k → length (g f) ≡ n) → All (λ code. length code ≡ n) (map g (range_with_len a k))
all_of_range n g a zero h = All-nil (HasItems itself n)
all_of_range n g a (suc k) h =
    All-cons (HasItems itself n) (g a) (map g (range_with_len (a + 1) k)) (h a (omega arith) (omega arith))
    (all_of_range n g (a + 1) k (λ f low high. h f (omega arith) (omega arith)))

first_of_one : (sizes : Sizes) (code : List ℕ) → sizes.words ≡ 1 → codes_in sizes code ≡ code ∷ [] → code_in sizes code 0 ≡ code
first_of_one sizes code one e =
    let none : List ℕ = [] in
    ap (λ (codes : List (List ℕ)). get_or codes 0 none)
    (ap (λ (n : ℕ). map (code_in sizes code) (range_with_len 0 n)) (sym one) ∙ e)

-- pieces that lie within a list have their length
piece_length : (at n : ℕ) (xs : List ℕ) (f k : ℕ) → f < k → at + k * n ≤ length xs → length (piece_from at n xs f) ≡ n
piece_length at n xs f k below within =
    let room : at + f * n + n ≤ length xs = omega (arith, next_piece f n, mul-le-mul_left_of f k n below) in
    length-take-le n (drop (at + f * n) xs) (omega (arith, length-drop (at + f * n) xs))

-- two lists of lists, joined item by item
abbrev both : List (List ℕ) → List (List ℕ) → List (List ℕ)
both [] ys = []
both (x ∷ xs) [] = x ∷ both xs []
both (x ∷ xs) (y ∷ ys) = (x ++ y) ∷ both xs ys

both_maps : (g h : ℕ → List ℕ) (range : List ℕ) → map (λ f. g f ++ h f) range ≡ both (map g range) (map h range)
both_maps g h [] = refl
both_maps g h (f ∷ range) = ap (λ (xs : List (List ℕ)). (g f ++ h f) ∷ xs) (both_maps g h range)

both_split : (m : ℕ) (codes : List (List ℕ)) → both (map (take m) codes) (map (drop m) codes) ≡ codes
both_split m [] = refl
both_split m (code ∷ codes) =
    ap (λ (x : List ℕ). x ∷ both (map (take m) codes) (map (drop m) codes)) (take-append-drop m code)
    ∙ ap (λ (xs : List (List ℕ)). code ∷ xs) (both_split m codes)

-- codewords of one length have parts and parities of one length
parts_are : (m n : ℕ) (codes : List (List ℕ)) → m ≤ n → All (λ code. length code ≡ n) codes → All (λ code. length (take m code) ≡ m) codes
parts_are m n [] fits all = All-nil (HasItems (take m) m)
parts_are m n (code ∷ codes) fits all =
    let first : length code ≡ n = All-head (HasItems itself n) code codes all in
    All-cons (HasItems (take m) m) code codes (length-take-le m code (omega arith))
    (parts_are m n codes fits (All-tail (HasItems itself n) code codes all))

parities_are : (m n : ℕ) (codes : List (List ℕ)) → All (λ code. length code ≡ n) codes → All (λ code. length (drop m code) ≡ n - m) codes
parities_are m n [] all = All-nil (HasItems (drop m) (n - m))
parities_are m n (code ∷ codes) all =
    All-cons (HasItems (drop m) (n - m)) code codes
    (length-drop m code ∙ ap (λ (k : ℕ). k - m) (All-head (HasItems itself n) code codes all))
    (parities_are m n codes (All-tail (HasItems itself n) code codes all))

length_flat : (n : ℕ) (g : List ℕ → List ℕ) (codes : List (List ℕ)) → All (λ code. length (g code) ≡ n) codes → length (flat_map g codes) ≡ length codes * n
length_flat n g [] all = sym (none_of n)
length_flat n g (code ∷ codes) all =
    let more : suc (length codes) * n ≡ n + length codes * n = omega arith in
    let first : length (g code) ≡ n = All-head (HasItems g n) code codes all in
    let others : length (flat_map g codes) ≡ length codes * n = length_flat n g codes (All-tail (HasItems g n) code codes all) in
    length-append (g code) (flat_map g codes) ∙ omega arith

pub codes_are_back : CodesAreBack
codes_are_back sizes codes are =
    let m : ℕ = part_bytes_of sizes in
    let k : ℕ = parity_bytes_of sizes in
    let parts : List ℕ = flat_map (take m) codes in
    let parities : List ℕ = flat_map (drop m) codes in
    let word : List ℕ = parts ++ parities in
    let of_part : All (λ code. length (take m code) ≡ m) codes = parts_are m (code_bytes_of sizes) codes are.part_fits are.as_long in
    let of_parity : All (λ code. length (drop m code) ≡ k) codes = parities_are m (code_bytes_of sizes) codes are.as_long in
    let length_parts : length parts ≡ payload_bytes_of sizes =
    length_flat m (take m) codes of_part ∙ ap (λ (n : ℕ). n * m) are.as_many in
    let length_parities : length parities ≡ sizes.words * k =
    length_flat k (drop m) codes of_parity ∙ ap (λ (n : ℕ). n * k) are.as_many in
    let range : List ℕ = range_with_len 0 sizes.words in
    let found_parts : map (part_in sizes word) range ≡ map (take m) codes =
    map_same (part_in sizes word) (piece_from 0 m word) 0 sizes.words (λ f low high. first_is_piece m word f)
    ∙ ap (λ (n : ℕ). map (piece_from 0 m word) (range_with_len 0 n)) (sym are.as_many)
    ∙ pieces_back m (take m) codes of_part 0 0 [] parities (omega arith) in
    let found_parities : map (parity_in sizes word) range ≡ map (drop m) codes =
    map_same (parity_in sizes word) (piece_from (payload_bytes_of sizes) k word) 0 sizes.words
    (λ f low high. range_is_piece (payload_bytes_of sizes) k word f)
    ∙ ap (λ (xs : List ℕ). map (piece_from (payload_bytes_of sizes) k (parts ++ xs)) range) (sym (append-nil parities))
    ∙ ap (λ (n : ℕ). map (piece_from (payload_bytes_of sizes) k (parts ++ (parities ++ []))) (range_with_len 0 n)) (sym are.as_many)
    ∙ pieces_back k (drop m) codes of_parity 0 (payload_bytes_of sizes) parts [] (omega (arith, length_parts)) in
    record {
      as_long =
          length-append parts parities
          ∙ omega (arith, length_parts, length_parities, words_split sizes.words m (code_bytes_of sizes) are.part_fits);
      back =
          both_maps (part_in sizes word) (parity_in sizes word) range
          ∙ ap (λ (xs : List (List ℕ)). both xs (map (parity_in sizes word) range)) found_parts
          ∙ ap (both (map (take m) codes)) found_parities
          ∙ both_split m codes;
      parts_first = take_at parts parities (payload_bytes_of sizes) length_parts;
    }

pub words_are_joined : WordsAreJoined
words_are_joined sizes word fits as_long =
    let m : ℕ = part_bytes_of sizes in
    let k : ℕ = parity_bytes_of sizes in
    let n : ℕ = sizes.words in
    let p : ℕ = payload_bytes_of sizes in
    let split : n * m + n * k ≡ n * code_bytes_of sizes = words_split n m (code_bytes_of sizes) fits in
    let part : (f : ℕ) → f < n → length (part_in sizes word f) ≡ m =
    λ f below. ap length (first_is_piece m word f) ∙ piece_length 0 m word f n below (omega (arith, split, as_long)) in
    let parity : (f : ℕ) → f < n → length (parity_in sizes word f) ≡ k =
    λ f below. ap length (range_is_piece p k word f) ∙ piece_length p k word f n below (omega (arith, split, as_long)) in
    let range : List ℕ = range_with_len 0 n in
    let are : ArePageCodes sizes (codes_in sizes word) = record {
      part_fits = fits;
      as_many = length-map-range_with_len (code_in sizes word) 0 n;
      as_long = all_of_range (code_bytes_of sizes) (code_in sizes word) 0 n
          (λ f low below. length-append (part_in sizes word f) (parity_in sizes word f) ∙ omega (arith, part f (omega arith), parity f (omega arith), fits));
    } in
    let parts : flat_map (take m) (codes_in sizes word) ≡ take (n * m) word =
    flat_of_map (take m) (code_in sizes word) range
    ∙ flat_same (λ f. take m (code_in sizes word f)) (piece_from 0 m word) 0 n
    (λ f low below. take_at (part_in sizes word f) (parity_in sizes word f) m (part f (omega arith)) ∙ first_is_piece m word f)
    ∙ pieces_join 0 m word 0 n ∙ ap (λ (i : ℕ). take (n * m) (drop i word)) (none_at m) in
    let parities : flat_map (drop m) (codes_in sizes word) ≡ take (n * k) (drop p word) =
    flat_of_map (drop m) (code_in sizes word) range
    ∙ flat_same (λ f. drop m (code_in sizes word f)) (piece_from p k word) 0 n
    (λ f low below. drop_at (part_in sizes word f) (parity_in sizes word f) m (part f (omega arith)) ∙ range_is_piece p k word f)
    ∙ pieces_join p k word 0 n
    ∙ ap (λ (i : ℕ). take (n * k) (drop i word)) (omega arith) in
    let rest : take (n * k) (drop p word) ≡ drop p word = take_all (n * k) (drop p word) (omega (arith, split, as_long, length-drop p word)) in (
      are,
      ap (λ (xs : List ℕ). xs ++ flat_map (drop m) (codes_in sizes word)) parts
          ∙ ap (λ (xs : List ℕ). take p word ++ xs) (parities ∙ rest)
          ∙ take-append-drop p word,
    )

pub parts_are_the_payload : PartsAreThePayload
parts_are_the_payload sizes payload as_long =
    let m : ℕ = part_bytes_of sizes in
    flat_same (part_in sizes payload) (piece_from 0 m payload) 0 sizes.words (λ f low high. first_is_piece m payload f)
    ∙ pieces_join 0 m payload 0 sizes.words
    ∙ ap (λ (i : ℕ). take (sizes.words * m) (drop i payload)) (none_at m)
    ∙ take_all (sizes.words * m) payload (omega (arith, as_long))

pub one_code_is_the_word : OneCodeIsTheWord
one_code_is_the_word sizes code one fits as_long =
    let m : ℕ = part_bytes_of sizes in
    let same : joined sizes (code ∷ []) ≡ code =
    ap (λ (xs : List ℕ). xs ++ (drop m code ++ [])) (append-nil (take m code))
    ∙ ap (λ (xs : List ℕ). take m code ++ xs) (append-nil (drop m code))
    ∙ take-append-drop m code in
    let back : codes_in sizes (joined sizes (code ∷ [])) ≡ code ∷ [] =
    (codes_are_back sizes (code ∷ []) (record { part_fits = fits; as_many = sym one; as_long = All-cons (HasItems itself (code_bytes_of sizes)) code [] as_long (All-nil (HasItems itself (code_bytes_of sizes))) })).back in
    let here : codes_in sizes code ≡ code ∷ [] = ap (codes_in sizes) (sym same) ∙ back in
    (same, first_of_one sizes code one here)
