use Rattle.std.proofs.Common.{◌∙◌, arith}
use Rattle.ssd_geo.specs.RowRule.{is_negative}
use Rattle.ldpc_decode.proofs.decision.decide_words.Goals as goal
use Rattle.shared_lemmas.proofs.WordBits.{one_more_word}

pub loop-w-preserved : goal.loop-w-preserved
loop-w-preserved c =
    one_more_word is_negative c.args.p.now c.loop-w.word _ c.loop-w.w _ (omega arith) c.decided_word-bits.ensures
    (c.copy_from_slice.ensures.after ∙ c.to_le_bytes.ensures) c.loop-w.invariant
