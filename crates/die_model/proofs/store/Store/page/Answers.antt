use Rattle.std.proofs.Common.{◌∙◌, ℕ, ◌+◌, ◌*◌, List, ap, sym, drop, take, get_or, length, ℤ, arith}
use Rattle.std.proofs.lemmas.List.{length-drop, length-take-le}
use Rattle.std.proofs.lemmas.List.FromFn.{get_or-map-range_with_len}
use Rattle.ssd_geo.specs.BlockCells.{BlockCells, cells_at}
use Rattle.die_model.specs.Stored.{Stored, kept_page}
use Rattle.die_model.proofs.KeptLemmas.{in_store, page_fits, cells_at-kept_blocks}
use Rattle.die_model.proofs.store.Store.page.Goals as goal

pub start_of-requires : goal.start_of-requires
start_of-requires c =
    let here = in_store _ _ _ _ _ c.args.self.now c.args.sb c.self.view_is c.requires.block in
    let most = c.self.invariant.most c.args.sb here.within in
    let count = here.programmed_is in
    let less = c.requires.page in
    let fits = page_fits _ _ _ _ _ c.args.sb c.args.page c.self.invariant here.within (omega arith) in
    let small = c.self.inside.levels.small in
    let ok = c.self.inside.levels.ok in omega arith

pub page_at-requires : goal.page_at-requires
page_at-requires c =
    let here = in_store _ _ _ _ _ c.args.self.now c.args.sb c.self.view_is c.requires.block in
    let most = c.self.invariant.most c.args.sb here.within in
    let count = here.programmed_is in
    let less = c.requires.page in
    let fits = page_fits _ _ _ _ _ c.args.sb c.args.page c.self.invariant here.within (omega arith) in
    let ok = c.self.inside.levels.ok in omega (arith, c.deref.ensures.len, c.start_of.ensures)

pub returns-clause-levels : goal.returns-clause-levels
returns-clause-levels c =
    let i = c.self.inside in
    let here = in_store _ _ _ _ _ c.args.self.now c.args.sb c.self.view_is c.requires.block in
    let count = here.programmed_is in
    let less = c.requires.page in
    let read = c.page_at.ensures ∙ ap (λ (xs : List ℤ). take i.cells (drop c.start_of.result xs)) c.deref.ensures.value
    ∙ ap (λ (n : ℕ). take i.cells (drop n i.levels.items)) c.start_of.ensures in
    let block = cells_at-kept_blocks i.pages i.cells i.programmed.items i.erases.items i.levels.items c.args.sb here.within in
    λ d. read
    ∙ sym (get_or-map-range_with_len (λ (page : ℕ). kept_page i.cells i.levels.items (c.args.sb * i.pages + page)) 0
    (get_or i.programmed.items c.args.sb 0) c.args.page c.args.page d (omega arith) (omega arith))
    ∙ sym (ap (λ (block : BlockCells). get_or block.pages c.args.page d) block)
    ∙ ap (λ (s : Stored). get_or (cells_at s.blocks c.args.sb).pages c.args.page d) c.self.view_is

pub returns-clause-cells : goal.returns-clause-cells
returns-clause-cells c =
    let here = in_store _ _ _ _ _ c.args.self.now c.args.sb c.self.view_is c.requires.block in
    let most = c.self.invariant.most c.args.sb here.within in
    let count = here.programmed_is in
    let less = c.requires.page in
    let fits = page_fits _ _ _ _ _ c.args.sb c.args.page c.self.invariant here.within (omega arith) in
    let ok = c.self.inside.levels.ok in
    let rest = length-drop c.start_of.result c.deref.result.now in
    ap (λ (xs : List ℤ). length xs) c.page_at.ensures
    ∙ length-take-le c.self.inside.cells (drop c.start_of.result c.deref.result.now) (omega (arith, c.deref.ensures.len, c.start_of.ensures))
    ∙ sym here.cells_are
