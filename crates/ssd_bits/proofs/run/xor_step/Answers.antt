-- The run's bits of the source's word are moved to their place and added as a word.
use Rattle.ssd_bits.proofs.Words.{AddsRun-step}
use Rattle.ssd_bits.proofs.run.xor_step.Goals as goal

pub returns : goal.returns
returns c =
    AddsRun-step c.args.dst.now c.xor_word.new.bytes c.args.src.now c.args.to.byte c.args.to.bit c.args.from.byte c.args.from.bit c.args.n c.word_at.result
    c.requires.to_bits c.requires.from_bits c.word_at.ensures c.xor_word.ensures
