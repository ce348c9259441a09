-- The codewords of a page's word, for an accepted code: each is found where it stands, with small bytes, and is a codeword.
use Rattle.std.proofs.Common.{ℕ, zero, suc, ◌≡◌, ◌+◌, ◌*◌, ◌/◌, ◌≤◌, ◌<◌, List, [], ◌∷◌, length, map, take, drop, get_or, replicate, Option, Some, None, refl, ap, sym, subst, ◌∙◌, arith}
use Rattle.std.specs.Prelude.{flat_map, option_map}
use Rattle.std.specs.List.{range_with_len}
use Rattle.std.proofs.lemmas.List.{append-nil, take_all}
use Rattle.std.proofs.lemmas.List.Elements.{All-map}
use Rattle.std.proofs.lemmas.List.FromFn.{get_or-map-range_with_len, length-map-range_with_len}
use Rattle.ssd_geo.specs.BaseMatrix.{BaseMatrix, IsAccepted}
use Rattle.ssd_geo.specs.Bits.{IsOfBits, bit_of, bits_of, byte_of, bytes_of}
use Rattle.ssd_geo.specs.Codewords.{IsOnlyCodewordOf, code_of, word_bits}
use Rattle.ssd_geo.specs.Ladder.{all_kept, kept_with}
use Rattle.ssd_geo.specs.Limits.{Sizes, code_bytes_of, part_bytes_of}
use Rattle.ssd_geo.specs.PageWord.{ArePageCodes, IsJoinedOf, code_in, part_in, word_of}
use Rattle.ssd_geo.proofs.PageWords.{codes_are_back}
use Rattle.ldpc_encode.proofs.Bytes.{bytes_of-small}
use Rattle.ldpc_encode.proofs.TheWord.{only-codeword}
use Rattle.recovery_laws.proofs.WordData.{AreSmall, begins, both_small, each_small, small_front, small_rest}

-- a list of bytes that is that of some bits has as many bytes as these need, and each of them is small
length_of_bits : (n : ℕ) (word : List ℕ) → IsOfBits n word → length word ≡ (n + 7) / 8
length_of_bits n word of_bits =
    ap (length {A = ℕ}) (sym of_bits)
    ∙ length-map-range_with_len (byte_of (bits_of n word)) 0 ((length (bits_of n word) + 7) / 8)
    ∙ ap (λ (k : ℕ). (k + 7) / 8) (length-map-range_with_len (bit_of word) 0 n)

small_of_bits : (n : ℕ) (word : List ℕ) → IsOfBits n word → (i : ℕ) → get_or word i 0 < 256
small_of_bits n word of_bits i =
    subst (λ (bytes : List ℕ). get_or bytes i 0 < 256) of_bits (bytes_of-small (bits_of n word) i)

-- codeword f of a payload, and all of them
abbrev pub code_at : Sizes → BaseMatrix → List ℕ → ℕ → List ℕ
code_at sizes m payload f = code_of m (part_in sizes payload f)

abbrev pub codes_at : Sizes → BaseMatrix → List ℕ → List (List ℕ)
codes_at sizes m payload = map (code_at sizes m payload) (range_with_len 0 sizes.words)

-- a list of bytes each of which is small
all_small : (bytes : List ℕ) → ((i : ℕ) → get_or bytes i 0 < 256) → AreSmall bytes
all_small [] each = tt
all_small (byte ∷ bytes) each = (each 0, all_small bytes (λ i. each (suc i)))

-- small bytes are those of their bits
pub bytes_again : (word : List ℕ) → AreSmall word → bytes_of (bits_of (8 * length word) word) ≡ word
bytes_again word small =
    let n : ℕ = length word in
    let again : List ℕ = bytes_of (bits_of (8 * n) word) in
    let long : length again ≡ n =
    length-map-range_with_len (byte_of (bits_of (8 * n) word)) 0 ((length (bits_of (8 * n) word) + 7) / 8)
    ∙ needed (length (bits_of (8 * n) word)) n (length-map-range_with_len (bit_of word) 0 (8 * n)) in
    sym (take_all n again (omega arith))
    ∙ ap (λ (bits : _). take n (bytes_of bits)) (sym (append-nil (bits_of (8 * n) word)))
    ∙ begins n word [] refl (each_small word small)
  where
    needed : (bits n : ℕ) → bits ≡ 8 * n → (bits + 7) / 8 ≡ n
    needed bits n e = omega arith

-- codewords that are all found at once are all kept
pub all_found : (finds : ℕ → Option (List ℕ)) (codes : ℕ → List ℕ) (a k : ℕ) → ((f : ℕ) → a ≤ f → f < a + k → finds f ≡ Some (codes f)) →
    all_kept (kept_with finds a (replicate k None)) ≡ Some (map codes (range_with_len a k))
all_found finds codes a zero each = refl
all_found finds codes a (suc k) each =
    ap (λ (first : Option (List ℕ)). all_kept (first ∷ kept_with finds (a + 1) (replicate k None))) (each a (omega arith) (omega arith))
    ∙ ap (option_map (λ (others : List (List ℕ)). codes a ∷ others))
    (all_found finds codes (a + 1) k (λ f low high. each f (omega arith) (omega arith)))

-- a code whose codewords and parts have whole bytes
module _ (sizes : Sizes) (m : BaseMatrix) (ok : IsAccepted m) (fits : part_bytes_of sizes ≤ code_bytes_of sizes) (whole : word_bits m ≡ 8 * code_bytes_of sizes) (payload : List ℕ) where
  pub only : (f : ℕ) → IsOnlyCodewordOf m (part_in sizes payload f) (code_at sizes m payload f)
  only f = only-codeword m ok (part_in sizes payload f)

  pub code_long : (f : ℕ) → length (code_at sizes m payload f) ≡ code_bytes_of sizes
  code_long f =
      length_of_bits (word_bits m) (code_at sizes m payload f) (only f).of_bits
      ∙ needed (word_bits m) (code_bytes_of sizes) whole
    where
      needed : (bits bytes : ℕ) → bits ≡ 8 * bytes → (bits + 7) / 8 ≡ bytes
      needed bits bytes e = omega arith

  are_codes : ArePageCodes sizes (codes_at sizes m payload)
  are_codes = record {
    part_fits = fits;
    as_many = length-map-range_with_len (code_at sizes m payload) 0 sizes.words;
    as_long =
        All-map (λ (code : List ℕ). length code ≡ code_bytes_of sizes) (code_at sizes m payload) (range_with_len 0 sizes.words)
        (λ k d below. code_long (get_or (range_with_len 0 sizes.words) k d));
  }

  pub are_joined : IsJoinedOf sizes (codes_at sizes m payload) (word_of sizes m payload)
  are_joined = codes_are_back sizes (codes_at sizes m payload) are_codes

  -- a codeword of the word
  pub code_back : (f : ℕ) → f < sizes.words → code_in sizes (word_of sizes m payload) f ≡ code_at sizes m payload f
  code_back f low =
      let none : List ℕ = [] in
      sym (get_or-map-range_with_len (code_in sizes (word_of sizes m payload)) 0 sizes.words f f none low (omega arith))
      ∙ ap (λ (codes : List (List ℕ)). get_or codes f none) are_joined.back
      ∙ get_or-map-range_with_len (code_at sizes m payload) 0 sizes.words f f none low (omega arith)

  code_small : (f : ℕ) → AreSmall (code_at sizes m payload f)
  code_small f = all_small (code_at sizes m payload f) (small_of_bits (word_bits m) (code_at sizes m payload f) (only f).of_bits)

  flat_small : (g : List ℕ → List ℕ) → ((bytes : List ℕ) → AreSmall bytes → AreSmall (g bytes)) → (a k : ℕ) →
      AreSmall (flat_map g (map (code_at sizes m payload) (range_with_len a k)))
  flat_small g each a zero = tt
  flat_small g each a (suc k) =
      both_small (g (code_at sizes m payload a)) (flat_map g (map (code_at sizes m payload) (range_with_len (a + 1) k)))
      (each (code_at sizes m payload a) (code_small a)) (flat_small g each (a + 1) k)

  -- the bytes of the word
  pub word_small : AreSmall (word_of sizes m payload)
  word_small =
      let n : ℕ = part_bytes_of sizes in
      both_small (flat_map (take n) (codes_at sizes m payload)) (flat_map (drop n) (codes_at sizes m payload))
      (flat_small (take n) (λ bytes small. small_front n bytes small) 0 sizes.words)
      (flat_small (drop n) (λ bytes small. small_rest n bytes small) 0 sizes.words)
