use Rattle.std.proofs.Common.{◌∙◌, arith, rules}
use Rattle.die_model.proofs.KeptLemmas.{has_room, in_store, pushed}
use Rattle.die_model.proofs.store.Store.load.Goals as goal

pub index-count-requires : goal.index-count-requires
index-count-requires c =
    let here = in_store _ _ _ _ _ c.args.self.now c.args.sb c.self.view_is c.requires.block in
    let within = here.within in search rules

pub start_of-at-requires : goal.start_of-at-requires
start_of-at-requires c =
    let room = has_room _ _ _ _ _ c.args.self.now c.args.sb _ c.self.view_is c.self.invariant c.requires.block c.requires.room c.index-count.ensures in
    let fits = room.fits in
    let small = c.self.inside.levels.small in
    let ok = c.self.inside.levels.ok in omega arith

pub load_at-requires : goal.load_at-requires
load_at-requires c =
    let here = in_store _ _ _ _ _ c.args.self.now c.args.sb c.self.view_is c.requires.block in
    let room = has_room _ _ _ _ _ c.args.self.now c.args.sb _ c.self.view_is c.self.invariant c.requires.block c.requires.room c.index-count.ensures in
    let fits = room.fits in
    let cells = here.cells_are in
    let ok = c.self.inside.levels.ok in omega (arith, c.deref_mut.ensures.len, c.start_of-at.ensures, c.requires.cells)

pub overflow_add-count : goal.overflow_add-count
overflow_add-count c =
    let room = has_room _ _ _ _ _ c.args.self.now c.args.sb _ c.self.view_is c.self.invariant c.requires.block c.requires.room c.index-count.ensures in
    let less = room.room in search rules

pub index_mut-requires : goal.index_mut-requires
index_mut-requires c =
    let here = in_store _ _ _ _ _ c.args.self.now c.args.sb c.self.view_is c.requires.block in
    let within = here.within in search rules

pub invariant_of-self : goal.invariant_of-self
invariant_of-self c =
    let here = in_store _ _ _ _ _ c.args.self.now c.args.sb c.self.view_is c.requires.block in
    let room = has_room _ _ _ _ _ c.args.self.now c.args.sb _ c.self.view_is c.self.invariant c.requires.block c.requires.room c.index-count.ensures in
    (pushed _ _ _ _ _ c.args.self.now c.args.sb _ _ _ c.args.levels.now _ _ c.self.view_is c.self.invariant room
    (c.requires.cells ∙ here.cells_are) c.start_of-at.ensures c.deref_mut.ensures.value c.self.inside.levels.ok.0 c.load_at.ensures).kept

pub returns : goal.returns
returns c =
    let here = in_store _ _ _ _ _ c.args.self.now c.args.sb c.self.view_is c.requires.block in
    let room = has_room _ _ _ _ _ c.args.self.now c.args.sb _ c.self.view_is c.self.invariant c.requires.block c.requires.room c.index-count.ensures in
    (pushed _ _ _ _ _ c.args.self.now c.args.sb _ _ _ c.args.levels.now _ _ c.self.view_is c.self.invariant room
    (c.requires.cells ∙ here.cells_are) c.start_of-at.ensures c.deref_mut.ensures.value c.self.inside.levels.ok.0 c.load_at.ensures).stands_for
