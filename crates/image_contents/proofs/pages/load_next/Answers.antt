use Rattle.std.proofs.Common.{◌≡◌, ℕ, ℤ, List, [], ◌∷◌, ◌++◌, Ok, Err, length, true, vec_len, ap, subst, rules}
use Rattle.std.specs.List.{list_all}
use Rattle.ssd_formats.specs.Fields.{level_fields}
use Rattle.ssd_formats.specs.ImageContents.{page_fields}
use Rattle.ssd_geo.specs.Limits.{is_level, page_cells_of}
use Rattle.ssd_geo.specs.Shape.{sizes_of}
use Rattle.image_file.specs.Gives.{rest_at}
use Rattle.ssd_geo.specs.BlockCells.{BlockCells}
use Rattle.onfi_cmd.specs.DieState.{DieState}
use Rattle.image_contents.specs.DiesLoaded.{block_of}
use Rattle.image_contents.proofs.DieSteps.{adds_page, page_keeps, page_loaded}
use Rattle.image_contents.proofs.LevelLists.{is_page_if}
use Rattle.image_contents.proofs.Steps.{page_lacks, page_more}
use Rattle.image_contents.proofs.Stops.{all_read, first_stops}
use Rattle.image_contents.proofs.pages.load_next.Goals as goal

pub returns-in-Err-clause-read : goal.returns-in-Err-clause-read
returns-in-Err-clause-read g c =
    let cells : ℕ = page_cells_of (sizes_of c.args.shape.now) in
    let before : List (List ℤ) = (block_of c.args.sb (g.D.Die.state c.args.die.now)).pages in
    first_stops _ _ (g.S.Source.left c.args.input.now) _ _ _ c.args.place.now _ _ c.in-Err.stop
    (level_fields (vec_len c.args.work.now.levels) []) (page_fields cells 1 before)
    (λ rest fault read. page_lacks cells before rest fault (subst (λ (n : ℕ). level_fields n [] rest ≡ Err fault) c.requires.cells read))
    c.in-Err.ensures.read

pub returns-in-Ok-load_page-clause-read : goal.returns-in-Ok-load_page-clause-read
returns-in-Ok-load_page-clause-read g c =
    let shape = c.args.shape.now in
    let cells : ℕ = page_cells_of (sizes_of shape) in
    let old : DieState = g.D.Die.state c.args.die.now in
    let new : DieState = g.D.Die.state c.load_page.new.self in
    let levels : List ℤ = c.deref.result.now in
    let same : c.read_page.new.work.levels.items ≡ levels = search rules in
    let keeps = page_keeps shape c.args.sb old new _ levels c.requires.die c.in-Ok-load_page.ensures.call c.in-Ok-load_page.ensures.ok in
    let loaded = page_loaded shape c.args.sb old new levels c.requires.die c.requires.sb keeps c.in-Ok-load_page.ensures.ok in
    all_read _ (g.S.Source.left c.args.input.now) (g.S.Source.left c.read_page.new.input) _ _ c.args.place.now c.read_page.new.place _
    ((block_of c.args.sb old).pages ++ levels ∷ []) (page_fields cells 1 (block_of c.args.sb old).pages)
    c.in-Ok.ensures.read.cause (ap (λ (block : BlockCells). block.pages) loaded.1)
    (λ told.
    let read = c.in-Ok.ensures.read.given told in (
      read.0,
      page_more cells (block_of c.args.sb old).pages (rest_at c.args.place.now (g.S.Source.left c.args.input.now)) (rest_at c.read_page.new.place (g.S.Source.left c.read_page.new.input)) levels
          (subst (λ (n : ℕ). level_fields n [] (rest_at c.args.place.now (g.S.Source.left c.args.input.now)) ≡ Ok (levels, rest_at c.read_page.new.place (g.S.Source.left c.read_page.new.input))) c.requires.cells
          (subst (λ (l : List ℤ). level_fields (vec_len c.args.work.now.levels) [] (rest_at c.args.place.now (g.S.Source.left c.args.input.now)) ≡ Ok (l, rest_at c.read_page.new.place (g.S.Source.left c.read_page.new.input))) same read.1)),
    ))

pub returns-in-Ok-load_page-clause-adds : goal.returns-in-Ok-load_page-clause-adds
returns-in-Ok-load_page-clause-adds g c =
    let shape = c.args.shape.now in
    let cells : ℕ = page_cells_of (sizes_of shape) in
    let old : DieState = g.D.Die.state c.args.die.now in
    let new : DieState = g.D.Die.state c.load_page.new.self in
    let levels : List ℤ = c.deref.result.now in
    let keeps = page_keeps shape c.args.sb old new _ levels c.requires.die c.in-Ok-load_page.ensures.call c.in-Ok-load_page.ensures.ok in
    let long : length levels ≡ cells = search rules in
    let each : list_all is_level levels ≡ true = search rules in
    adds_page shape c.args.sb cells old new levels c.requires.die c.requires.sb keeps c.in-Ok-load_page.ensures.ok (is_page_if cells levels long each)
