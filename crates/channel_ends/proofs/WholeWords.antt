-- The words that a channel programs have the bytes of a page's word, and their codewords are codewords: those that are encoded,
-- those that a ladder recovers, and sums of them.
use Rattle.std.proofs.Common.{◌≡◌, refl, ap, sym, subst, ◌∙◌, ℕ, zero, suc, ◌+◌, ◌*◌, ◌/◌, ◌<◌, ◌≤◌, List, [], ◌∷◌, length, map, get_or, Option, Some, None, option_map, ℤ, arith}
use Rattle.std.specs.Option.{unwrap_or}
use Rattle.std.proofs.lemmas.List.{length-replicate}
use Rattle.std.proofs.lemmas.List.FromFn.{get_or-map-range_with_len, length-map-range_with_len}
use Rattle.ssd_geo.specs.BaseMatrix.{BaseMatrix}
use Rattle.ssd_geo.specs.Bits.{IsOfBits, bit_of, bits_of, bytes_sum}
use Rattle.ssd_geo.specs.Codewords.{IsCodeword, word_bits}
use Rattle.ssd_geo.specs.Coding.{code_found, coding_of, matrix_of, payload_of}
use Rattle.ssd_geo.specs.Decoding.{decode}
use Rattle.ssd_geo.specs.Limits.{Sizes, code_bytes_of, part_bytes_of, word_bytes_of}
use Rattle.ssd_geo.specs.PageWord.{IsJoinedOf, code_in, codes_in, joined}
use Rattle.ssd_geo.specs.Senses.{hard_value, hard_values, soft_value, soft_values, zeros_at}
use Rattle.ssd_geo.specs.Shape.{sizes_of}
use Rattle.ssd_geo.specs.StripeSum.{zero_word}
use Rattle.ssd_geo.specs.declared.base.ChannelBase.{ChannelBase}
use Rattle.ssd_geo.proofs.FoundWords.{decoded_codeword, decoded_of_bits}
use Rattle.ssd_geo.proofs.PageWords.{codes_are_back, words_are_joined}
use Rattle.ssd_geo.proofs.WordSums.{length-bytes_sum}
use Rattle.ssd_histories.specs.Standing.{HasFields}
use Rattle.channel_base.proofs.ZeroWords.{zero_codewords}
use Rattle.ldpc_encode.proofs.Bytes.{length-bytes_of}
use Rattle.recovery_laws.proofs.WordData.{whole_bytes}
use Rattle.complete_runs.proofs.PageCodes.{are_joined, code_back, only}
use Rattle.complete_runs.proofs.ToldWords.{part_fits}
use Rattle.channel_ends.proofs.Recovered.{Each, Makes}
use Rattle.channel_ends.proofs.SumsOfCodewords.{code_of_sum, sum_is_codeword}

each_at : (P : List ℕ → Type 0) (words : List (List ℕ)) → Each P words → (k : ℕ) (d : List ℕ) → k < length words → P (get_or words k d)
each_at P [] h k d below = absurd (omega (arith, below))
each_at P (word ∷ words) h zero d below = h.0
each_at P (word ∷ words) h (suc k) d below = each_at P words h.1 k d (omega (arith, below))

pub needed : (bits bytes : ℕ) → bits ≡ 8 * bytes → (bits + 7) / 8 ≡ bytes
needed bits bytes e = omega arith

module _ (base : ChannelBase) (fields : HasFields base) where
  abbrev sizes : Sizes
  sizes = sizes_of base.shape

  abbrev m : BaseMatrix
  m = matrix_of base

  -- a page's word, and a codeword, have their bytes
  abbrev pub IsLong : List ℕ → Type 0
  IsLong word = length word ≡ word_bytes_of sizes

  abbrev pub IsLongCode : List ℕ → Type 0
  IsLongCode code = length code ≡ code_bytes_of sizes

  fits : part_bytes_of sizes ≤ code_bytes_of sizes
  fits = part_fits base.shape.nb base.shape.mb base.shape.z

  whole : word_bits m ≡ 8 * code_bytes_of sizes
  whole = whole_bytes (word_bits m) base.shape.within.whole_word_bytes

  -- a codeword that is found is one, and a page's word is of such ones
  pub record IsCode (code : List ℕ) : Type 0 where
    pub long : IsLongCode code
    pub codeword : IsCodeword m code

  pub record IsWhole (word : List ℕ) : Type 0 where
    pub long : IsLong word
    pub codewords : (f : ℕ) → f < sizes.words → IsCodeword m (code_in sizes word f)

  pub encoded_is_whole : (serial row : ℕ) (data_bytes : List ℕ) → IsWhole ((coding_of base).encoded serial row data_bytes)
  encoded_is_whole serial row data_bytes =
      let payload : List ℕ = payload_of base.shape serial row data_bytes in
      record {
        long = (are_joined sizes m fields.matrix fits whole payload).as_long;
        codewords = λ f below.
            subst (λ (code : List ℕ). IsCodeword m code) (sym (code_back sizes m fields.matrix fits whole payload f below))
            (only sizes m fields.matrix fits whole payload f).codeword;
      }

  found_is_code : (values : List ℤ) (code : List ℕ) → length values ≡ word_bits m
      → code_found m base.iterations values ≡ Some code → IsCode code
  found_is_code values code long e = by_decode (decode m base.iterations values) refl e
    where
      by_decode : (out : Option (ℕ × List ℕ)) → decode m base.iterations values ≡ out
          → option_map (λ (outcome : ℕ × List ℕ). outcome.1) out ≡ Some code → IsCode code
      by_decode None made e = absurd (cc)
      by_decode (Some out) made e =
          let of_bits : IsOfBits (word_bits m) out.1 = decoded_of_bits m base.iterations values out.0 out.1 long made in
          let same : out.1 ≡ code = ap (λ (of : Option (List ℕ)). unwrap_or of code) e in
          record {
            long =
                ap (λ (word : List ℕ). length word) (sym same)
                ∙ ap (λ (word : List ℕ). length word) (sym of_bits)
                ∙ length-bytes_of (bits_of (word_bits m) out.1)
                ∙ ap (λ (k : ℕ). (k + 7) / 8) (length-map-range_with_len (bit_of out.1) 0 (word_bits m))
                ∙ needed (word_bits m) (code_bytes_of sizes) whole;
            codeword =
                subst (λ (word : List ℕ). IsCodeword m word) same
                (decoded_codeword m base.iterations values out.0 out.1 long made);
          }

  code_is_long : (sense : List ℕ) (f : ℕ) → IsLong sense → f < sizes.words → IsLongCode (code_in sizes sense f)
  code_is_long sense f long low =
      let none : List ℕ = [] in
      let many : f < length (codes_in sizes sense) =
      omega (arith, low, length-map-range_with_len (code_in sizes sense) 0 sizes.words) in
      ap (λ (word : List ℕ). length word)
      (sym (get_or-map-range_with_len (code_in sizes sense) 0 sizes.words f f none low (omega arith)))
      ∙ (words_are_joined sizes sense fits long).0.as_long f none many

  all_long : (codes : List (List ℕ)) → Each IsCode codes → Each IsLongCode codes
  all_long [] each = tt
  all_long (code ∷ codes) each = (each.0.long, all_long codes each.1)

  joined_is_whole : (codes : List (List ℕ)) → length codes ≡ sizes.words → Each IsCode codes → IsWhole (joined sizes codes)
  joined_is_whole codes many each =
      let none : List ℕ = [] in
      let back : IsJoinedOf sizes codes (joined sizes codes) =
      codes_are_back sizes codes
      (record { part_fits = fits; as_many = many; as_long = each_at IsLongCode codes (all_long codes each) }) in
      record {
        long = back.as_long;
        codewords = λ f below.
            subst (λ (code : List ℕ). IsCodeword m code)
            (ap (λ (found : List (List ℕ)). get_or found f none) (sym back.back)
            ∙ get_or-map-range_with_len (code_in sizes (joined sizes codes)) 0 sizes.words f f none below (omega arith))
            (each_at IsCode codes each f none (omega (arith, below, many))).codeword;
      }

  pub no_sum_is_whole : IsWhole (zero_word (word_bytes_of sizes))
  no_sum_is_whole = record {
    long = length-replicate (word_bytes_of sizes) 0;
    codewords = λ f below. zero_codewords sizes m (word_bytes_of sizes) f;
  }

  pub sum_is_whole : (sum word : List ℕ) → IsWhole sum → IsWhole word → IsWhole (bytes_sum sum word)
  sum_is_whole sum word of_sum of_word =
      let alike : length sum ≡ length word = of_sum.long ∙ sym of_word.long in
      record {
        long = length-bytes_sum sum word (sym alike) ∙ of_sum.long;
        codewords = λ f below.
            subst (λ (code : List ℕ). IsCodeword m code) (sym (code_of_sum sizes sum word f alike))
            (sum_is_codeword m (code_in sizes sum f) (code_in sizes word f)
            (code_is_long sum f of_sum.long below ∙ sym (code_is_long word f of_word.long below))
            (of_sum.codewords f below) (of_word.codewords f below));
      }

  pub makes_whole : Makes (coding_of base) IsLong IsCode IsWhole
  makes_whole = record {
    hard = λ sense f code long low e.
        found_is_code (hard_values (code_in sizes sense f)) code
        (length-map-range_with_len (λ (i : ℕ). hard_value (bit_of (code_in sizes sense f) i)) 0 (8 * length (code_in sizes sense f))
        ∙ ap (λ (k : ℕ). 8 * k) (code_is_long sense f long low) ∙ sym whole) e;
    soft = λ senses f code low e.
        let own : List (List ℕ) = map (λ (sense : List ℕ). code_in sizes sense f) senses in
        found_is_code (soft_values (code_bytes_of sizes) own) code
        (length-map-range_with_len (λ (i : ℕ). soft_value (zeros_at own i)) 0 (8 * code_bytes_of sizes) ∙ sym whole) e;
    joined = joined_is_whole;
    none = no_sum_is_whole;
    sum = sum_is_whole;
  }
