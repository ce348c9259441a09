use Rattle.std.proofs.Common.{◌∙◌, ℕ, List, ap, replicate}
use Rattle.ssd_geo.specs.BlockCells.{BlockCells}
use Rattle.die_model.specs.Stored.{Stored, kept_blocks}
use Rattle.die_model.proofs.KeptLemmas.{kept-blank}
use Rattle.die_model.proofs.store.Store.new.Goals as goal

pub returns : goal.returns
returns c =
    let levels = c.in_ok-levels.levels.items in
    ap (λ (blocks : List BlockCells). (let s : Stored = record { pages = c.args.pages; cells = c.args.cells; blocks = blocks } in s))
    (ap (λ (counts : List ℕ). kept_blocks c.args.pages c.args.cells counts c.in_ok-erases.erases.items levels) c.in_ok-programmed.ensures
    ∙ ap (λ (counts : List ℕ). kept_blocks c.args.pages c.args.cells (replicate c.args.blocks 0) counts levels) c.in_ok-erases.ensures
    ∙ kept-blank c.args.pages c.args.cells c.args.blocks levels)
