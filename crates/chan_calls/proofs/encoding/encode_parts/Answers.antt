use Rattle.std.proofs.Common.{◌∙◌, arith}
use Rattle.ssd_geo.specs.Shape.{sizes_of}
use Rattle.page_head.proofs.PutParts.{part_fits}
use Rattle.chan_calls.proofs.EncodedPages.{all_encoded, next_encoded}
use Rattle.chan_calls.proofs.encoding.encode_parts.Goals as goal

pub loop-f-preserved : goal.loop-f-preserved
loop-f-preserved c = record {
  one = c.encode_into.auto.out ∙ c.loop-f.invariant.one;
  word = c.put_part.ensures.length ∙ c.loop-f.invariant.word;
  encoded = next_encoded (sizes_of c.args.shape.now) c.args.code.now c.args.payload.now c.loop-f.word c.put_part.new.word c.encode_into.new.out
      c.loop-f.f (omega arith) c.loop-f.invariant.encoded c.put_part.ensures.put c.put_part.ensures.others
      c.encode_into.ensures.word;
}

pub returns : goal.returns
returns c =
    all_encoded (sizes_of c.args.shape.now) c.args.code.now c.args.payload.now c.loop-f.word
    (part_fits (sizes_of c.args.shape.now)) c.loop-f.invariant.word
    (λ f below. c.loop-f.invariant.encoded f (omega arith))
