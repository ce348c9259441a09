use Rattle.std.proofs.Common.{◌≡◌, ◌∙◌, ap, sym, subst, length}
use Rattle.ssd_geo.specs.Bits.{bytes_sum}
use Rattle.ssd_geo.specs.Coding.{word_bytes_in}
use Rattle.ssd_geo.specs.declared.shape.Shape.{Shape}
use Rattle.retry_ladder.specs.Ready.{HoldsAt}
use Rattle.retry_ladder.specs.Work.{WorkView}
use Rattle.retry_ladder.proofs.AddedWords.{added_length}
use Rattle.retry_ladder.proofs.LadderStages.{other_finds}
use Rattle.retry_ladder.proofs.ladder.Ladder.feed_other.Goals as goal

pub stage_from-self-inside-requires-clause-sum : goal.stage_from-self-inside-requires-clause-sum
stage_from-self-inside-requires-clause-sum g c =
    let same : c.feed.new.self.shape ≡ c.self.inside.work.shape =
    ap (λ (w : WorkView). w.shape) c.in-Finds.ensures.step.1 in
    added_length (word_bytes_in c.feed.new.self.shape) c.self.inside.sum c.word.result.now
    c.add.new.self c.add.ensures
    (c.self.invariant.sum ∙ sym (ap word_bytes_in same))
    (ap length c.word.ensures.word ∙ c.word.ensures.length)

pub invariant_of-self-in-Finds : goal.invariant_of-self-in-Finds
invariant_of-self-in-Finds g c =
    let same : c.feed.new.self.shape ≡ c.self.inside.work.shape =
    ap (λ (w : WorkView). w.shape) c.in-Finds.ensures.step.1 in
    let after : c.stage_from-self-inside.new.work.shape ≡ c.feed.new.self.shape =
    ap (λ (w : WorkView). w.shape) c.stage_from-self-inside.ensures.same in
    record {
      sum = added_length (word_bytes_in c.feed.new.self.shape) c.self.inside.sum c.word.result.now
          c.add.new.self c.add.ensures
          (c.self.invariant.sum ∙ sym (ap word_bytes_in same))
          (ap length c.word.ensures.word ∙ c.word.ensures.length)
          ∙ sym (ap word_bytes_in after);
      holds = subst (λ (s : Shape). HoldsAt c.stage_from-self-inside.result s c.self.inside.look
          c.stage_from-self-inside.new.work.word)
          (sym after) c.stage_from-self-inside.ensures.holds;
    }

pub returns-in-Finds-clause-fed : goal.returns-in-Finds-clause-fed
returns-in-Finds-clause-fed g c =
    let other = rw (← c.self.view_is) at c.requires.other in
    rw (← c.self.view_is) (other_finds c.self.inside.stage c.stage_from-self-inside.result
    c.self.inside.work c.feed.new.self c.stage_from-self-inside.new.work
    c.self.inside.look c.self.inside.sum c.add.new.self c.args.bits.now c.args.die
    (g.C.Decode.matrix c.args.decoder.now) (g.C.Decode.limit c.args.decoder.now)
    c.in-Finds.rung other c.in-Finds.ensures.step.0 c.in-Finds.ensures.step.1
    (c.add.ensures ∙ ap (bytes_sum c.self.inside.sum) c.word.ensures.word)
    c.stage_from-self-inside.ensures.same c.stage_from-self-inside.ensures.run)
