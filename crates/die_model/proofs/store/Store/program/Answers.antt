use Rattle.std.proofs.Common.{◌∙◌, ℕ, ap, sym, arith, rules}
use Rattle.std.proofs.lemmas.Grind.{get_or_default_zero}
use Rattle.ssd_geo.specs.Cells.{fresh_levels}
use Rattle.onfi_cmd.specs.DieState.{with_page}
use Rattle.die_model.specs.Stored.{Stored}
use Rattle.die_model.proofs.KeptLemmas.{has_room, in_store, pushed, length-fresh_levels}
use Rattle.die_model.proofs.store.Store.program.Goals as goal

pub index-count-requires : goal.index-count-requires
index-count-requires c =
    let here = in_store _ _ _ _ _ c.args.self.now c.args.sb c.self.view_is c.requires.block in
    let within = here.within in search rules

pub start_of-at-requires : goal.start_of-at-requires
start_of-at-requires c =
    let room = has_room _ _ _ _ _ c.args.self.now c.args.sb _ c.self.view_is c.self.invariant c.requires.block c.requires.room c.index-count.ensures in
    let fits = room.fits in
    let small = c.self.inside.levels.small in
    let ok = c.self.inside.levels.ok in omega arith

pub index-requires : goal.index-requires
index-requires c =
    let here = in_store _ _ _ _ _ c.args.self.now c.args.sb c.self.view_is c.requires.block in
    let within = here.within in
    let same = c.self.invariant.same_blocks in
    let ok = c.self.inside.erases.ok in omega arith

pub program_at-requires-clause-cells : goal.program_at-requires-clause-cells
program_at-requires-clause-cells c =
    let here = in_store _ _ _ _ _ c.args.self.now c.args.sb c.self.view_is c.requires.block in
    let room = has_room _ _ _ _ _ c.args.self.now c.args.sb _ c.self.view_is c.self.invariant c.requires.block c.requires.room c.index-count.ensures in
    let fits = room.fits in
    let cells = here.cells_are in
    let ok = c.self.inside.levels.ok in omega (arith, c.deref_mut.ensures.len, c.start_of-at.ensures, c.requires.cells)

pub overflow_add-count : goal.overflow_add-count
overflow_add-count c =
    let room = has_room _ _ _ _ _ c.args.self.now c.args.sb _ c.self.view_is c.self.invariant c.requires.block c.requires.room c.index-count.ensures in
    let less = room.room in search rules

pub index_mut-requires : goal.index_mut-requires
index_mut-requires c =
    let here = in_store _ _ _ _ _ c.args.self.now c.args.sb c.self.view_is c.requires.block in
    let within = here.within in search rules

pub invariant_of-self : goal.invariant_of-self
invariant_of-self c =
    let here = in_store _ _ _ _ _ c.args.self.now c.args.sb c.self.view_is c.requires.block in
    let room = has_room _ _ _ _ _ c.args.self.now c.args.sb _ c.self.view_is c.self.invariant c.requires.block c.requires.room c.index-count.ensures in
    let page = fresh_levels c.args.law.now c.args.place c.index.result.now c.args.word.now in
    (pushed _ _ _ _ _ c.args.self.now c.args.sb _ _ _ page _ _ c.self.view_is c.self.invariant room
    (length-fresh_levels _ _ _ c.args.word.now ∙ c.requires.cells ∙ here.cells_are) c.start_of-at.ensures c.deref_mut.ensures.value c.self.inside.levels.ok.0 c.program_at.ensures).kept

pub returns : goal.returns
returns c =
    let here = in_store _ _ _ _ _ c.args.self.now c.args.sb c.self.view_is c.requires.block in
    let room = has_room _ _ _ _ _ c.args.self.now c.args.sb _ c.self.view_is c.self.invariant c.requires.block c.requires.room c.index-count.ensures in
    let page = fresh_levels c.args.law.now c.args.place c.index.result.now c.args.word.now in
    let same = c.self.invariant.same_blocks in
    let within = here.within in
    let erases = c.index.ensures ∙ get_or_default_zero c.self.inside.erases.items c.args.sb _ (omega arith) ∙ sym here.erases_are in
    (pushed _ _ _ _ _ c.args.self.now c.args.sb _ _ _ page _ _ c.self.view_is c.self.invariant room
    (length-fresh_levels _ _ _ c.args.word.now ∙ c.requires.cells ∙ here.cells_are) c.start_of-at.ensures c.deref_mut.ensures.value c.self.inside.levels.ok.0 c.program_at.ensures).stands_for
    ∙ ap (λ (erases : ℕ). (let s : Stored = record {
      pages = c.args.self.now.pages;
      cells = c.args.self.now.cells;
      blocks = with_page c.args.self.now.blocks c.args.sb (fresh_levels c.args.law.now c.args.place erases c.args.word.now);
    } in s)) erases
