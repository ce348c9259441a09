use Rattle.std.proofs.Common.{◌≡◌, ◌∙◌, ap, sym, subst, Some, true}
use Rattle.ssd_geo.specs.Coding.{coding_in, word_bytes_in}
use Rattle.ssd_geo.specs.declared.shape.Shape.{Shape}
use Rattle.retry_ladder.specs.Decoder.{is_expected}
use Rattle.retry_ladder.specs.Work.{WorkView}
use Rattle.retry_ladder.proofs.FoundWords.{fed_passes}
use Rattle.retry_ladder.proofs.LadderStages.{page_finds, page_goes_on, page_open, page_rest}
use Rattle.retry_ladder.proofs.ladder.Ladder.feed_page.Goals as goal

pub invariant_of-self-in-Finds : goal.invariant_of-self-in-Finds
invariant_of-self-in-Finds g c =
    let work = c.self.inside.work in
    let look = c.self.inside.look in
    let same : c.feed.new.self.shape ≡ c.self.inside.work.shape =
    ap (λ (w : WorkView). w.shape) c.in-Finds.ensures.step.1 in
    record {
      sum = c.self.invariant.sum ∙ sym (ap word_bytes_in same);
      holds = subst (λ (s : Shape). is_expected s (Some (look.serial, look.row))
          c.feed.new.self.word ≡ true) (sym same)
          (fed_passes (coding_in work.shape work.levels work.step
          (g.C.Decode.matrix c.args.decoder.now) (g.C.Decode.limit c.args.decoder.now))
          (is_expected work.shape (Some (look.serial, look.row))) work.run.left work.run
          c.args.bits.now c.in-Finds.rung c.feed.new.self.word
          c.in-Finds.ensures.step.0);
    }

pub returns-in-GoesOn-clause-fed : goal.returns-in-GoesOn-clause-fed
returns-in-GoesOn-clause-fed g c =
    let page = rw (← c.self.view_is) at c.requires.page in
    rw (← c.self.view_is) (page_goes_on c.self.inside.stage c.self.inside.work c.feed.new.self
    c.self.inside.look c.self.inside.sum c.args.bits.now
    (g.C.Decode.matrix c.args.decoder.now) (g.C.Decode.limit c.args.decoder.now) c.in-GoesOn.ensures.step.0
    page c.in-GoesOn.ensures.step.1 c.in-GoesOn.ensures.step.2)

pub returns-in-Finds-clause-fed : goal.returns-in-Finds-clause-fed
returns-in-Finds-clause-fed g c =
    let page = rw (← c.self.view_is) at c.requires.page in
    rw (← c.self.view_is) (page_finds c.self.inside.stage c.self.inside.work c.feed.new.self
    c.self.inside.look c.self.inside.sum c.args.bits.now
    (g.C.Decode.matrix c.args.decoder.now) (g.C.Decode.limit c.args.decoder.now) c.in-Finds.rung
    page c.in-Finds.ensures.step.0 c.in-Finds.ensures.step.1)

pub returns-then-self-clause-fed : goal.returns-then-self-clause-fed
returns-then-self-clause-fed g c =
    let page = rw (← c.self.view_is) at c.requires.page in
    rw (← c.self.view_is) (page_rest c.self.inside.stage c.stage_from-self-inside.result
    c.self.inside.work c.feed.new.self c.stage_from-self-inside.new.work
    c.self.inside.look c.self.inside.sum _ c.args.bits.now (g.C.Decode.matrix c.args.decoder.now)
    (g.C.Decode.limit c.args.decoder.now)
    page c.in-Misses.ensures.step.0 c.in-Misses.ensures.step.1 c.if-self.true (cc)
    c.stage_from-self-inside.ensures.same c.stage_from-self-inside.ensures.run)

pub returns-else-self-clause-fed : goal.returns-else-self-clause-fed
returns-else-self-clause-fed g c =
    let page = rw (← c.self.view_is) at c.requires.page in
    rw (← c.self.view_is) (page_open c.self.inside.stage c.self.inside.work c.feed.new.self
    c.self.inside.look c.self.inside.sum c.args.bits.now
    (g.C.Decode.matrix c.args.decoder.now) (g.C.Decode.limit c.args.decoder.now) page
    c.in-Misses.ensures.step.0 c.in-Misses.ensures.step.1 c.if-self.false)
