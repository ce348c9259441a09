use Rattle.std.proofs.Common.{◌≡◌, ℕ, ℤ, ◌+◌, ◌-◌, ◌*◌, ◌^◌, ◌≤◌, List, [], Err, length, sym, ap, subst, ◌∙◌, refl, arith}
use Rattle.ssd_formats.specs.ImageContents.{page_fields}
use Rattle.ssd_geo.specs.Limits.{page_cells_of}
use Rattle.ssd_geo.specs.Shape.{sizes_of}
use Rattle.image_file.specs.Gives.{rest_at}
use Rattle.onfi_cmd.specs.DieState.{DieState}
use Rattle.image_contents.specs.DiesLoaded.{CountsLoad, IsLoadedBlock, block_of}
use Rattle.image_contents.proofs.DieSteps.{changes_both, changes_none, keeps_both}
use Rattle.image_contents.proofs.SizeBounds.{few_cells, few_page_bytes}
use Rattle.image_contents.proofs.Steps.{pages_end, pages_lack, pages_more}
use Rattle.image_contents.proofs.Stops.{all_read, later_load_stops}
use Rattle.image_contents.proofs.pages.load_pages.Goals as goal

pub loop-page-init : goal.loop-page-init
loop-page-init g c =
    let shape = c.args.shape.now in
    let die : DieState = g.D.Die.state c.args.die.now in
    let none : (block_of c.args.sb die).pages ≡ [] = c.requires.blank in
    record {
      told = λ told. told;
      read = λ told.
          let cells : ℕ = page_cells_of (sizes_of shape) in
          let rest = rest_at c.args.place.now (g.S.Source.left c.args.input.now) in
          let all : c.args.count - 0 ≡ c.args.count = omega arith in
          ap (λ (l : List (List ℤ)). page_fields cells (c.args.count - 0) l rest) none ∙ ap (λ (n : ℕ). page_fields cells n [] rest) all;
      stays = refl;
      changes = changes_none shape c.args.sb die c.requires.die;
      loaded = record { erases_are = refl; count_is = ap (λ (l : List (List ℤ)). length l) none; pages_are = rw none refl };
      loads_stay = refl;
      place = omega arith;
      length = c.requires.cells;
    }

pub load_next-requires-clause-place : goal.load_next-requires-clause-place
load_next-requires-clause-place g c =
    let cells : ℕ = page_cells_of (sizes_of c.args.shape.now) in
    let within = c.args.shape.now.within in
    let bytes : c.loop-page.page * (2 * cells) ≤ 256 * 2 ^ 20 =
    few_page_bytes c.loop-page.page cells (omega (arith, within.pages_high, c.requires.count)) (few_cells (sizes_of c.args.shape.now) within) in
    omega (arith, c.loop-page.invariant.place, c.requires.place, bytes)

pub loop-page-preserved : goal.loop-page-preserved
loop-page-preserved g c =
    let shape = c.args.shape.now in
    let cells : ℕ = page_cells_of (sizes_of shape) in
    let page : ℕ = c.loop-page.page in
    let first : DieState = g.D.Die.state c.args.die.now in
    let before : DieState = g.D.Die.state c.loop-page.die in
    let after : DieState = g.D.Die.state c.load_next.new.die in
    let given = c.in-Ok.ensures.read.given in
    let pages : List (List ℤ) = given.0 in
    let so_far = c.loop-page.invariant in
    record {
      told = λ told. (given.2 (so_far.told told)).0;
      read = λ told.
          let rest = rest_at c.loop-page.place (g.S.Source.left c.loop-page.input) in
          let next = rest_at c.load_next.new.place (g.S.Source.left c.load_next.new.input) in
          ap (λ (l : List (List ℤ)). page_fields cells (c.args.count - (page + 1)) l next) given.1
          ∙ pages_more cells (c.args.count - page) (c.args.count - (page + 1)) (block_of c.args.sb before).pages pages rest next (omega arith) (given.2 (so_far.told told)).1
          ∙ so_far.read told;
      stays = c.in-Ok.ensures.read.cause ∙ so_far.stays;
      changes = changes_both c.args.sb first before after so_far.changes c.in-Ok.ensures.adds.changes;
      loaded = record {
        erases_are = c.in-Ok.ensures.adds.erases_stay ∙ so_far.loaded.erases_are;
        count_is = omega (arith, c.in-Ok.ensures.adds.one_more, so_far.loaded.count_is);
        pages_are = c.in-Ok.ensures.adds.pages_are so_far.loaded.pages_are;
      };
      loads_stay = c.in-Ok.ensures.counts ∙ so_far.loads_stay;
      place = omega (arith, c.in-Ok.ensures.place, so_far.place);
      length = c.load_next.ensures.length ∙ so_far.length;
    }

pub returns-in-Err-clause-read : goal.returns-in-Err-clause-read
returns-in-Err-clause-read g c =
    let cells = page_cells_of (sizes_of c.args.shape.now) in
    let before = (block_of c.args.sb (g.D.Die.state c.loop-page.die)).pages in
    let left = g.S.Source.left c.loop-page.input in
    later_load_stops _ _ (g.S.Source.left c.args.input.now) left _ _ _ _ c.args.place.now c.loop-page.place _ _ c.in-Err.stop
    (page_fields cells 1 before) (page_fields cells c.args.count [])
    (λ told. (
      c.loop-page.invariant.told told,
      λ fault read. sym (c.loop-page.invariant.read told)
          ∙ pages_lack cells (c.args.count - c.loop-page.page) (c.args.count - (c.loop-page.page + 1)) before (rest_at c.loop-page.place left) fault (omega arith) read,
    ))
    c.loop-page.invariant.stays c.in-Err.ensures.read

pub returns-in-Err-clause-keeps : goal.returns-in-Err-clause-keeps
returns-in-Err-clause-keeps g c =
    keeps_both (g.D.Die.state c.args.die.now) (g.D.Die.state c.loop-page.die) (g.D.Die.state c.load_next.new.die)
    c.loop-page.invariant.changes.keeps c.in-Err.ensures.keeps

pub returns-in-Err-clause-counts : goal.returns-in-Err-clause-counts
returns-in-Err-clause-counts g c =
    subst (λ (n : ℕ). CountsLoad {X = Unit {0}} c.args.number n (g.D.Die.state c.load_next.new.die).load_count (Err c.in-Err.stop))
    c.loop-page.invariant.loads_stay c.in-Err.ensures.counts

pub returns-clause-read : goal.returns-clause-read
returns-clause-read g c =
    let cells : ℕ = page_cells_of (sizes_of c.args.shape.now) in
    let left = g.S.Source.left c.loop-page.input in
    let pages : List (List ℤ) = (block_of c.args.sb (g.D.Die.state c.loop-page.die)).pages in
    all_read _ (g.S.Source.left c.args.input.now) left _ _ c.args.place.now c.loop-page.place _ pages (page_fields cells c.args.count [])
    c.loop-page.invariant.stays refl
    (λ told. (
      c.loop-page.invariant.told told,
      sym (c.loop-page.invariant.read told)
          ∙ pages_end cells (c.args.count - c.loop-page.page) pages (rest_at c.loop-page.place left) (omega arith),
    ))

pub returns-clause-place : goal.returns-clause-place
returns-clause-place g c =
    let cells : ℕ = page_cells_of (sizes_of c.args.shape.now) in
    let all : c.loop-page.page ≡ c.args.count = omega arith in
    c.loop-page.invariant.place ∙ ap (λ (n : ℕ). c.args.place.now + n * (2 * cells)) all

pub returns-clause-loads : goal.returns-clause-loads
returns-clause-loads g c =
    let sb : ℕ = c.args.sb in
    let cells : ℕ = page_cells_of (sizes_of c.args.shape.now) in
    let first : DieState = g.D.Die.state c.args.die.now in
    let die : DieState = g.D.Die.state c.loop-page.die in
    let all : c.loop-page.page ≡ c.args.count = omega arith in
    record {
      changes = c.loop-page.invariant.changes;
      loaded = subst (λ (n : ℕ). IsLoadedBlock (block_of sb first).erases n cells (block_of sb die)) all c.loop-page.invariant.loaded;
    }
