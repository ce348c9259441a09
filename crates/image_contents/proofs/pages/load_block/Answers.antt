use Rattle.std.proofs.Common.{ap, ◌∙◌}
use Rattle.std.proofs.lemmas.Result.{on_ok_weaker}
use Rattle.ssd_geo.specs.BlockCells.{BlockCells}
use Rattle.onfi_cmd.specs.DieState.{DieState}
use Rattle.image_contents.proofs.DieSteps.{changes_both, erases_keep, erases_loaded}
use Rattle.image_contents.proofs.pages.load_block.Goals as goal

pub returns-in-Ok-clause-loads : goal.returns-in-Ok-clause-loads
returns-in-Ok-clause-loads g c =
    let shape = c.args.shape.now in
    let old : DieState = g.D.Die.state c.args.die.now in
    let mid : DieState = g.D.Die.state c.load_block.new.self in
    let new : DieState = g.D.Die.state c.load_pages.new.die in
    let keeps = erases_keep shape c.args.sb c.args.erases old mid _ c.requires.die c.in-Ok.ensures.call c.in-Ok.ensures.ok in
    let first = erases_loaded shape c.args.sb c.args.erases old mid c.requires.die c.requires.sb keeps c.in-Ok.ensures.ok in
    on_ok_weaker c.load_pages.result
    (λ loads. record {
      changes = changes_both c.args.sb old mid new first.0 loads.changes;
      loaded = record {
        erases_are = loads.loaded.erases_are ∙ ap (λ (block : BlockCells). block.erases) first.1;
        count_is = loads.loaded.count_is;
        pages_are = loads.loaded.pages_are;
      };
    })
    c.load_pages.ensures.loads
