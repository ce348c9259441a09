-- What does a decoder keep ready? A number for each variable and each edge of its code, memory for a layer, and the bytes of one word.
use Rattle.std.specs.Prelude.{◌≡◌, ◌+◌, ◌/◌, length}
use Rattle.ldpc_decode.specs.declared.decoder.Decoder.TheInside.{Inside}
use Rattle.ldpc_decode.specs.View.{DecoderView, work_size}
use Rattle.ssd_geo.specs.BaseMatrix.{IsAccepted}
use Rattle.ssd_geo.specs.Codewords.{word_bits}
use Rattle.ssd_geo.specs.Decoding.{edge_count, layers_of}

-- the decoder's code and iteration limit
abbrev pub decoder_view : Inside → DecoderView
decoder_view a = record { code = a.code; limit = a.iterations }

-- the lists that a decoding works on are as long as the code asks
pub record IsReady (a : Inside) : Type 0 where
  pub accepted : IsAccepted a.code
  pub variables : length a.p.items ≡ word_bits a.code
  pub edges : length a.r.items ≡ edge_count (layers_of a.code) a.code.z
  pub work : a.work ≡ work_size a.code
  pub decision : length a.decision.items ≡ (word_bits a.code + 7) / 8
