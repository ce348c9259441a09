-- For each accepted matrix the word of a payload is the one codeword that begins with the payload.
use Rattle.std.proofs.Common.{◌≡◌, ℕ, ◌*◌, ◌<◌, ◌≤◌, Bool, false, List, length, get_or, ap, sym, ◌∙◌, arith}
use Rattle.std.proofs.Math.Nat.{mul-le-mul_right}
use Rattle.std.proofs.lemmas.List.{ext_get_or}
use Rattle.std.proofs.lemmas.List.FromFn.{length-map-range_with_len}
use Rattle.ssd_geo.specs.Bits.{bit_of, bits_of, bytes_of}
use Rattle.ssd_geo.specs.BaseMatrix.{BaseMatrix, IsAccepted, message_columns}
use Rattle.ssd_geo.specs.Codewords.{BeginsWith, IsOnlyCodewordOf, code_of, coded_bits, is_odd_row, payload_bits, word_bits}
use Rattle.ldpc_encode.proofs.Bytes.{bits_of-bytes_of, bits_of-fewer}
use Rattle.ldpc_encode.proofs.Solved.{coded-even, coded-message, given-coded, length-coded}

module _ (m : BaseMatrix) (ok : IsAccepted m) (payload : List ℕ) where
  message : List Bool
  message = bits_of (payload_bits m) payload

  whole : length (bits_of (payload_bits m) payload) ≡ message_columns m * m.z
  whole = length-map-range_with_len (bit_of payload) 0 (payload_bits m)

  fewer : payload_bits m ≤ word_bits m
  fewer = mul-le-mul_right m.z (omega arith)

  -- the bits of the word are the coded bits
  pub bits-code_of : bits_of (word_bits m) (code_of m payload) ≡ coded_bits m (bits_of (payload_bits m) payload)
  bits-code_of = bits_of-bytes_of (coded_bits m (bits_of (payload_bits m) payload)) (word_bits m) (length-coded m ok (bits_of (payload_bits m) payload) whole)

  begins : BeginsWith m payload (code_of m payload)
  begins =
      ext_get_or false (bits_of (payload_bits m) (code_of m payload)) (bits_of (payload_bits m) payload)
      (length-map-range_with_len (bit_of (code_of m payload)) 0 (payload_bits m) ∙ sym whole)
      (λ v within.
      let below : v < payload_bits m = omega (arith, length-map-range_with_len (bit_of (code_of m payload)) 0 (payload_bits m)) in
      sym (bits_of-fewer (code_of m payload) (word_bits m) (payload_bits m) v below fewer)
      ∙ ap (λ (bits : List Bool). get_or bits v false) bits-code_of
      ∙ coded-message m ok (bits_of (payload_bits m) payload) whole v below)

  pub only-codeword : IsOnlyCodewordOf m payload (code_of m payload)
  only-codeword = record {
    of_bits = ap bytes_of bits-code_of;
    codeword = λ i r row low.
        ap (λ (bits : List Bool). is_odd_row m bits i r) bits-code_of ∙ coded-even m ok (bits_of (payload_bits m) payload) whole r low i row;
    begins = begins;
    only = λ other of_bits codeword starts.
        sym of_bits
        ∙ ap bytes_of
        (given-coded m ok (bits_of (payload_bits m) payload) whole (bits_of (word_bits m) other)
        (λ v below.
        bits_of-fewer other (word_bits m) (payload_bits m) v below fewer ∙ ap (λ (bits : List Bool). get_or bits v false) starts)
        codeword (length-map-range_with_len (bit_of other) 0 (word_bits m)));
  }
