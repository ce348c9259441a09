-- A codeword that is put into its place of a page's word is found there, and leaves the others as they were. Parts and
-- parities are pieces of one length that stand one after the other.
use Rattle.std.proofs.Common.{◌≡◌, ◌≢◌, ℕ, ◌+◌, ◌-◌, ◌*◌, ◌<◌, ◌≤◌, List, ◌++◌, length, take, drop, ap, sym, ◌∙◌, ◌⊎◌, inl, inr, arith, length-append, length-drop, length-take-le, take-append-drop}
use Rattle.std.specs.Prelude.{slice_range}
use Rattle.std.proofs.lemmas.Bool.{cases_lt}
use Rattle.std.proofs.lemmas.Nat.{mul-le}
use Rattle.std.proofs.lemmas.Slice.{between-put_mid, between_is, between_to_end, drop-put_mid, take-put_mid_below}
use Rattle.ssd_geo.specs.Limits.{Sizes, code_bytes_of, parity_bytes_of, part_bytes_of, payload_bytes_of, word_bytes_of}
use Rattle.ssd_geo.specs.PageWord.{code_in, parity_in, part_in}
use borrow.Rule.Slice.PartMut.{put_mid}
use Rattle.ssd_geo.proofs.PageWords.{next_piece}

-- a range of what was put, and one that lies before it or behind it
range_put : (a k i j : ℕ) (xs ys : List ℕ) → a + k ≤ length xs → length ys ≡ k → i ≡ a → j ≡ a + k → slice_range (put_mid a k xs ys) i j ≡ ys
range_put a k i j xs ys within as_long from to =
    ap (λ (start : ℕ). slice_range (put_mid a k xs ys) start j) from
    ∙ between-put_mid a k xs ys j (omega arith) (omega arith)

range_beside :
    (a k i j : ℕ) (xs ys : List ℕ) → a + k ≤ length xs → length ys ≡ k → (j ≤ a) ⊎ (a + k ≤ i) →
    slice_range (put_mid a k xs ys) i j ≡ slice_range xs i j
range_beside a k i j xs ys within as_long (inl before) =
    between_is (put_mid a k xs ys) i j
    ∙ ap (drop i) (take-put_mid_below a k xs ys j before (omega arith))
    ∙ sym (between_is xs i j)
range_beside a k i j xs ys within as_long (inr behind) =
    ap (take (j - i)) (drop-put_mid a k xs ys i behind (omega arith) as_long)

length_put : (a k : ℕ) (xs ys : List ℕ) → a + k ≤ length xs → length ys ≡ k → length (put_mid a k xs ys) ≡ length xs
length_put a k xs ys within as_long =
    let before : length (take a xs) ≡ a = length-take-le a xs (omega arith) in
    omega (
      arith,
      before,
      length-append (take a xs) (ys ++ drop k (drop a xs)),
      length-append ys (drop k (drop a xs)),
      length-drop k (drop a xs),
      length-drop a xs,
    )

-- a piece ends no later than a later one begins
pieces_in_order : (f p n : ℕ) → f < p → f * n + n ≤ p * n
pieces_in_order f p n before = omega (arith, next_piece f n, mul-le (f + 1) n p n (omega arith) (omega arith))

-- another piece ends before it or begins behind it
pieces_apart : (at f p n a k i j : ℕ) → f ≢ p → a ≡ at + p * n → k ≡ n → i ≡ at + f * n → j ≡ at + (f + 1) * n → (j ≤ a) ⊎ (a + k ≤ i)
pieces_apart at f p n a k i j other a_is k_is i_is j_is =
    elim (cases_lt f p) [
      | inl before ↦ inl (omega (arith, next_piece f n, pieces_in_order f p n before))
      | inr after ↦ inr (omega (arith, pieces_in_order p f n (omega arith)))
    ]

-- a page's words are filled by the parts and the parities of its codewords
words_filled : (n m c : ℕ) → m ≤ c → n * c ≡ n * m + n * (c - m)
words_filled n m c fits =
    let whole : c ≡ m + (c - m) = omega arith in
    ap (λ (bytes : ℕ). n * bytes) whole ∙ omega arith

pub part_fits : (sizes : Sizes) → part_bytes_of sizes ≤ code_bytes_of sizes
part_fits sizes = omega (arith, mul-le (sizes.nb - sizes.mb) sizes.z sizes.nb sizes.z (omega arith) (omega arith))

-- a codeword stands within its page's word: its part in the payload, and its parity behind that
pub record StandsWithin (sizes : Sizes) (f : ℕ) : Type 0 where
  pub part : f * part_bytes_of sizes + part_bytes_of sizes ≤ payload_bytes_of sizes
  pub parity : payload_bytes_of sizes + f * parity_bytes_of sizes + parity_bytes_of sizes ≤ word_bytes_of sizes

pub stands_within : (sizes : Sizes) (f : ℕ) → part_bytes_of sizes ≤ code_bytes_of sizes → f < sizes.words → StandsWithin sizes f
stands_within sizes f fits below = record {
  part = pieces_in_order f sizes.words (part_bytes_of sizes) below;
  parity =
      omega (
        arith,
        pieces_in_order f sizes.words (parity_bytes_of sizes) below,
        words_filled sizes.words (part_bytes_of sizes) (code_bytes_of sizes) fits,
      );
}

-- what was put into a page's word: the part of codeword p, k bytes from a on, and its parity, l bytes from b on
pub record IsPut (sizes : Sizes) (p a k b l : ℕ) (word part parity : List ℕ) : Type 0 where
  pub fits : part_bytes_of sizes ≤ code_bytes_of sizes
  pub below : p < sizes.words
  pub word_bytes : length word ≡ word_bytes_of sizes
  pub part_from : a ≡ p * part_bytes_of sizes
  pub part_width : k ≡ part_bytes_of sizes
  pub part_bytes : length part ≡ part_bytes_of sizes
  pub parity_from : b ≡ payload_bytes_of sizes + p * parity_bytes_of sizes
  pub parity_width : l ≡ parity_bytes_of sizes
  pub parity_bytes : length parity ≡ parity_bytes_of sizes

-- both lie within the word
record LieWithin (a k b l payload : ℕ) (word part : List ℕ) : Type 0 where
  in_payload : a + k ≤ payload
  behind_payload : payload ≤ b
  part_within : a + k ≤ length word
  parity_within : b + l ≤ length (put_mid a k word part)

lie_within :
    (sizes : Sizes) (p a k b l : ℕ) (word part parity : List ℕ) → IsPut sizes p a k b l word part parity →
    LieWithin a k b l (payload_bytes_of sizes) word part
lie_within sizes p a k b l word part parity put =
    let at : StandsWithin sizes p = stands_within sizes p put.fits put.below in
    let part_within : a + k ≤ length word = omega (arith, at.part, at.parity, put.word_bytes, put.part_from, put.part_width) in
    record {
      in_payload = omega (arith, at.part, put.part_from, put.part_width);
      behind_payload = omega (arith, put.parity_from);
      part_within = part_within;
      parity_within =
          omega (
            arith,
            at.parity,
            put.word_bytes,
            put.parity_from,
            put.parity_width,
            length_put a k word part part_within (put.part_bytes ∙ sym put.part_width),
          );
    }

pub put_is_there :
    (sizes : Sizes) (p a k b l : ℕ) (word part parity : List ℕ) → IsPut sizes p a k b l word part parity →
    code_in sizes (put_mid b l (put_mid a k word part) parity) p ≡ part ++ parity
put_is_there sizes p a k b l word part parity put =
    let m : ℕ = part_bytes_of sizes in
    let n : ℕ = parity_bytes_of sizes in
    let first : List ℕ = put_mid a k word part in
    let lies : LieWithin a k b l (payload_bytes_of sizes) word part = lie_within sizes p a k b l word part parity put in
    let part_is : part_in sizes (put_mid b l first parity) p ≡ part =
    range_beside b l (p * m) ((p + 1) * m) first parity lies.parity_within (put.parity_bytes ∙ sym put.parity_width)
    (inl (omega (arith, next_piece p m, lies.in_payload, lies.behind_payload, put.part_from, put.part_width)))
    ∙ range_put a k (p * m) ((p + 1) * m) word part lies.part_within (put.part_bytes ∙ sym put.part_width)
    (sym put.part_from) (omega (arith, next_piece p m, put.part_from, put.part_width)) in
    let parity_is : parity_in sizes (put_mid b l first parity) p ≡ parity =
    range_put b l (payload_bytes_of sizes + p * n) (payload_bytes_of sizes + (p + 1) * n) first parity
    lies.parity_within (put.parity_bytes ∙ sym put.parity_width) (sym put.parity_from)
    (omega (arith, next_piece p n, put.parity_from, put.parity_width)) in
    ap (λ (xs : List ℕ). xs ++ parity_in sizes (put_mid b l first parity) p) part_is
    ∙ ap (λ (xs : List ℕ). part ++ xs) parity_is

pub others_stay :
    (sizes : Sizes) (p a k b l : ℕ) (word part parity : List ℕ) → IsPut sizes p a k b l word part parity →
    (f : ℕ) → f < sizes.words → f ≢ p →
    code_in sizes (put_mid b l (put_mid a k word part) parity) f ≡ code_in sizes word f
others_stay sizes p a k b l word part parity put f below other =
    let m : ℕ = part_bytes_of sizes in
    let n : ℕ = parity_bytes_of sizes in
    let payload : ℕ = payload_bytes_of sizes in
    let first : List ℕ = put_mid a k word part in
    let lies : LieWithin a k b l payload word part = lie_within sizes p a k b l word part parity put in
    let its : StandsWithin sizes f = stands_within sizes f put.fits below in
    let part_is : part_in sizes (put_mid b l first parity) f ≡ part_in sizes word f =
    range_beside b l (f * m) ((f + 1) * m) first parity lies.parity_within (put.parity_bytes ∙ sym put.parity_width)
    (inl (omega (arith, next_piece f m, its.part, lies.behind_payload)))
    ∙ range_beside a k (f * m) ((f + 1) * m) word part lies.part_within (put.part_bytes ∙ sym put.part_width)
    (pieces_apart 0 f p m a k (f * m) ((f + 1) * m) other (omega (arith, put.part_from)) put.part_width (omega arith) (omega arith)) in
    let parity_is : parity_in sizes (put_mid b l first parity) f ≡ parity_in sizes word f =
    range_beside b l (payload + f * n) (payload + (f + 1) * n) first parity lies.parity_within
    (put.parity_bytes ∙ sym put.parity_width)
    (pieces_apart payload f p n b l (payload + f * n) (payload + (f + 1) * n) other put.parity_from put.parity_width
    (omega arith) (omega arith))
    ∙ range_beside a k (payload + f * n) (payload + (f + 1) * n) word part lies.part_within
    (put.part_bytes ∙ sym put.part_width) (inr (omega (arith, lies.in_payload))) in
    ap (λ (xs : List ℕ). xs ++ parity_in sizes (put_mid b l first parity) f) part_is
    ∙ ap (λ (xs : List ℕ). part_in sizes word f ++ xs) parity_is

-- the two halves of a codeword, each copied to where it stands
pub record AreHalves (sizes : Sizes) (p a m b n : ℕ) (word code part parity : List ℕ) : Type 0 where
  pub below : p < sizes.words
  pub word_bytes : length word ≡ word_bytes_of sizes
  pub code_bytes : length code ≡ code_bytes_of sizes
  pub part_from : a ≡ p * part_bytes_of sizes
  pub part_width : m ≡ part_bytes_of sizes
  pub parity_from : b ≡ payload_bytes_of sizes + p * parity_bytes_of sizes
  pub parity_width : n ≡ parity_bytes_of sizes
  pub part_is : part ≡ take m code
  pub parity_is : parity ≡ slice_range code m (length code)

pub halves_are_put :
    (sizes : Sizes) (p a m b n : ℕ) (word code part parity : List ℕ) → AreHalves sizes p a m b n word code part parity →
    IsPut sizes p a (a + m - a) b (b + n - b) word part parity × (part ++ parity ≡ code)
halves_are_put sizes p a m b n word code part parity are =
    let fits : part_bytes_of sizes ≤ code_bytes_of sizes = part_fits sizes in
    let parity_is : parity ≡ drop m code = are.parity_is ∙ between_to_end code m (length code) (omega arith) in
    let put : IsPut sizes p a (a + m - a) b (b + n - b) word part parity = record {
      fits = fits;
      below = are.below;
      word_bytes = are.word_bytes;
      part_from = are.part_from;
      part_width = omega (arith, are.part_width);
      part_bytes = ap length are.part_is ∙ length-take-le m code (omega (arith, are.part_width, are.code_bytes)) ∙ are.part_width;
      parity_from = are.parity_from;
      parity_width = omega (arith, are.parity_width);
      parity_bytes = ap length parity_is ∙ omega (arith, length-drop m code, are.part_width, are.code_bytes);
    } in (
      put,
      ap (λ (xs : List ℕ). xs ++ parity) are.part_is
          ∙ ap (λ (xs : List ℕ). take m code ++ xs) parity_is
          ∙ take-append-drop m code,
    )
