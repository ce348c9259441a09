use Rattle.std.proofs.Common.{◌∙◌, arith}
use Rattle.ssd_geo.specs.Noise.{start_of_program}
use Rattle.cell_law.proofs.FreshLemmas.{byte_more}
use Rattle.cell_law.proofs.fresh.fresh_into.Goals as goal

pub loop-j-preserved : goal.loop-j-preserved
loop-j-preserved c =
    let more = byte_more c.args.law.now (start_of_program c.args.law.now.seed c.args.place c.args.erases) c.loop-j.j c.args.word.now c.loop-j.out
    c.eight_levels-levels.result _ _ _ _ _ c.requires.law (omega arith) c.loop-j.invariant.drawn c.next_word-first.ensures c.next_word-second.ensures
    c.eight_levels-levels.ensures c.loop-j.invariant.written in
    record { drawn = more.drawn; written = more.written }
