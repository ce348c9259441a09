use Rattle.std.proofs.Common.{◌≡◌, ℕ, ℤ, ◌+◌, ◌*◌, ◌^◌, ◌<◌, ◌≤◌, List, [], ◌∷◌, ◌++◌, Err, length, map, take, drop, set, get_or, sym, ap, subst, ◌∙◌, arith}
use Rattle.std.proofs.lemmas.List.{length-map, map-set, take_all, drop_all}
use Rattle.ssd_formats.specs.ImageContents.{die_fields, page_fields}
use Rattle.ssd_geo.specs.Limits.{page_cells_of}
use Rattle.ssd_geo.specs.Shape.{sizes_of}
use Rattle.drive_dies.proofs.EachDie.{held_at}
use Rattle.drive_dies.specs.Mounting.{EachBecomes}
use Rattle.onfi_cmd.specs.DieState.{DieState}
use Rattle.image_file.specs.Gives.{rest_at}
use Rattle.image_contents.proofs.DiesLoop.{IsLoadedBelow, all_become, all_loaded, next_count, next_die_stops, not_yet_loaded, one_more_loaded, pages_longer}
use Rattle.image_contents.proofs.SizeBounds.{few_cells, few_page_bytes}
use Rattle.image_contents.proofs.Steps.{dies_end, dies_lack, dies_more}
use Rattle.image_contents.proofs.Stops.{all_read, later_load_stops}
use Rattle.image_contents.specs.DiesLoaded.{BecomeLoaded, IsDieIn, block_of, count_at, pages_in}
use Rattle.image_contents.proofs.pages.load_blocks.Goals as goal

pub load_block-requires-clause-die : goal.load_block-requires-clause-die
load_block-requires-clause-die g c =
    let states : List DieState = map g.D.Die.state c.loop-die.dies in
    let olds : List DieState = map g.D.Die.state c.args.dies.now in
    let cells : ℕ = page_cells_of (sizes_of c.args.shape.now) in
    let before : DieState = g.D.Die.state (get_or c.loop-die.dies c.loop-die.die c.index-dies-die.result) in
    let at : before ≡ get_or states c.loop-die.die before = held_at g.D.Die.state c.loop-die.dies c.loop-die.die c.index-dies-die.result c.index-dies-die.is in
    let below : c.loop-die.die < length states = omega (arith, length-map c.loop-die.dies g.D.Die.state) in
    let was : before ≡ get_or olds c.loop-die.die before =
    not_yet_loaded c.args.sb c.args.erases cells c.args.counts.now olds states c.loop-die.die before c.loop-die.invariant.loaded below at in
    subst (λ (die : DieState). IsDieIn c.args.shape.now die) (sym was)
    (c.requires.dies c.loop-die.die before (omega (arith, c.loop-die.invariant.loaded.count_stays, below)))

pub load_block-requires-clause-blank : goal.load_block-requires-clause-blank
load_block-requires-clause-blank g c =
    let states : List DieState = map g.D.Die.state c.loop-die.dies in
    let olds : List DieState = map g.D.Die.state c.args.dies.now in
    let cells : ℕ = page_cells_of (sizes_of c.args.shape.now) in
    let before : DieState = g.D.Die.state (get_or c.loop-die.dies c.loop-die.die c.index-dies-die.result) in
    let at : before ≡ get_or states c.loop-die.die before = held_at g.D.Die.state c.loop-die.dies c.loop-die.die c.index-dies-die.result c.index-dies-die.is in
    let below : c.loop-die.die < length states = omega (arith, length-map c.loop-die.dies g.D.Die.state) in
    let was : before ≡ get_or olds c.loop-die.die before =
    not_yet_loaded c.args.sb c.args.erases cells c.args.counts.now olds states c.loop-die.die before c.loop-die.invariant.loaded below at in
    subst (λ (die : DieState). (block_of c.args.sb die).pages ≡ []) (sym was)
    (c.requires.blank c.loop-die.die before (omega (arith, c.loop-die.invariant.loaded.count_stays, below)))

pub loop-die-preserved : goal.loop-die-preserved
loop-die-preserved g c =
    let sb : ℕ = c.args.sb in
    let die : ℕ = c.loop-die.die in
    let cells : ℕ = page_cells_of (sizes_of c.args.shape.now) in
    let counts : List ℕ = c.args.counts.now in
    let olds : List DieState = map g.D.Die.state c.args.dies.now in
    let states : List DieState = map g.D.Die.state c.loop-die.dies in
    let before : DieState = g.D.Die.state (get_or c.loop-die.dies die c.index-dies-die.result) in
    let after : DieState = g.D.Die.state c.load_block.new.die in
    let at : before ≡ get_or states die before = held_at g.D.Die.state c.loop-die.dies die c.index-dies-die.result c.index-dies-die.is in
    let below : die < length states = omega (arith, length-map c.loop-die.dies g.D.Die.state) in
    let in_counts : die < length counts = omega arith in
    let now : map g.D.Die.state (set c.loop-die.dies die c.load_block.new.die) ≡ set states die after = map-set g.D.Die.state c.loop-die.dies die c.load_block.new.die in
    let few : count_at counts die ≤ c.args.shape.now.pages = c.requires.few die 0 in_counts in
    let bytes : count_at counts die * (2 * cells) ≤ 256 * 2 ^ 20 =
    few_page_bytes (count_at counts die) cells (omega (arith, few, c.args.shape.now.within.pages_high)) (few_cells (sizes_of c.args.shape.now) c.args.shape.now.within) in
    let given = c.in-Ok.ensures.read.given in
    let so_far = c.loop-die.invariant in
    record {
      told = λ told. (given.2 (so_far.told told)).0;
      read = λ told.
          let rest = rest_at c.loop-die.place (g.S.Source.left c.loop-die.input) in
          let next = rest_at c.load_block.new.place (g.S.Source.left c.load_block.new.input) in
          let pages : pages_in sb (take (die + 1) (map g.D.Die.state (set c.loop-die.dies die c.load_block.new.die))) ≡ pages_in sb (take die states) ++ given.0 ∷ [] =
          ap (λ (l : List DieState). pages_in sb (take (die + 1) l)) now ∙ pages_longer sb die states after below
          ∙ ap (λ (l : List (List ℤ)). pages_in sb (take die states) ++ l ∷ []) given.1 in
          ap (λ (l : List (List (List ℤ))). die_fields cells (drop (die + 1) counts) l next) pages
          ∙ dies_more cells (count_at counts die) (drop die counts) (drop (die + 1) counts) (pages_in sb (take die states)) rest next given.0
          (next_count counts die in_counts) (given.2 (so_far.told told)).1
          ∙ so_far.read told;
      stays = c.in-Ok.ensures.read.cause ∙ so_far.stays;
      loaded =
          subst (λ (news : List DieState). EachBecomes (IsLoadedBelow sb c.args.erases cells counts (die + 1)) olds news) (sym now)
          (one_more_loaded sb c.args.erases cells counts olds states die before after so_far.loaded below at c.in-Ok.ensures.loads c.in-Ok.ensures.counts);
      place_low = omega (arith, so_far.place_low, c.in-Ok.ensures.place);
      place_high = omega (arith, so_far.place_high, c.in-Ok.ensures.place, bytes);
      length = c.load_block.ensures.length ∙ so_far.length;
    }

pub returns-in-Err-clause-read : goal.returns-in-Err-clause-read
returns-in-Err-clause-read g c =
    let sb : ℕ = c.args.sb in
    let die : ℕ = c.loop-die.die in
    let cells : ℕ = page_cells_of (sizes_of c.args.shape.now) in
    let counts : List ℕ = c.args.counts.now in
    let states : List DieState = map g.D.Die.state c.loop-die.dies in
    let left = g.S.Source.left c.loop-die.input in
    let in_counts : die < length counts = omega arith in
    later_load_stops _ _ (g.S.Source.left c.args.input.now) left _ _ _ _ c.args.place.now c.loop-die.place _ _ c.in-Err.stop
    (page_fields cells (count_at counts die) []) (die_fields cells counts [])
    (λ told. (
      c.loop-die.invariant.told told,
      λ fault read. sym (c.loop-die.invariant.read told)
          ∙ dies_lack cells (count_at counts die) (drop die counts) (drop (die + 1) counts) (pages_in sb (take die states)) (rest_at c.loop-die.place left) fault
          (next_count counts die in_counts) read,
    ))
    c.loop-die.invariant.stays c.in-Err.ensures.read

pub returns-in-Err-clause-loaded : goal.returns-in-Err-clause-loaded
returns-in-Err-clause-loaded g c =
    let sb : ℕ = c.args.sb in
    let die : ℕ = c.loop-die.die in
    let cells : ℕ = page_cells_of (sizes_of c.args.shape.now) in
    let counts : List ℕ = c.args.counts.now in
    let olds : List DieState = map g.D.Die.state c.args.dies.now in
    let states : List DieState = map g.D.Die.state c.loop-die.dies in
    let before : DieState = g.D.Die.state (get_or c.loop-die.dies die c.index-dies-die.result) in
    let after : DieState = g.D.Die.state c.load_block.new.die in
    let at : before ≡ get_or states die before = held_at g.D.Die.state c.loop-die.dies die c.index-dies-die.result c.index-dies-die.is in
    let below : die < length states = omega (arith, length-map c.loop-die.dies g.D.Die.state) in
    subst (λ (news : List DieState). BecomeLoaded {X = Unit {0}} c.args.first olds news (Err c.in-Err.stop))
    (sym (map-set g.D.Die.state c.loop-die.dies die c.load_block.new.die))
    (next_die_stops sb c.args.erases cells c.args.first counts olds states die before after c.in-Err.stop c.loop-die.invariant.loaded below at
    c.in-Err.ensures.keeps c.in-Err.ensures.counts)

pub returns-clause-read : goal.returns-clause-read
returns-clause-read g c =
    let sb : ℕ = c.args.sb in
    let cells : ℕ = page_cells_of (sizes_of c.args.shape.now) in
    let counts : List ℕ = c.args.counts.now in
    let states : List DieState = map g.D.Die.state c.loop-die.dies in
    let left = g.S.Source.left c.loop-die.input in
    let none : drop c.loop-die.die counts ≡ [] = drop_all c.loop-die.die counts (omega arith) in
    let all : take c.loop-die.die states ≡ states = take_all c.loop-die.die states (omega (arith, length-map c.loop-die.dies g.D.Die.state)) in
    all_read _ (g.S.Source.left c.args.input.now) left _ _ c.args.place.now c.loop-die.place _ (pages_in sb (take c.loop-die.die states)) (die_fields cells counts [])
    c.loop-die.invariant.stays (ap (λ (l : List DieState). pages_in sb l) (sym all))
    (λ told. (
      c.loop-die.invariant.told told,
      sym (c.loop-die.invariant.read told)
          ∙ dies_end cells (drop c.loop-die.die counts) (pages_in sb (take c.loop-die.die states)) (rest_at c.loop-die.place left) none,
    ))

pub returns-clause-loaded : goal.returns-clause-loaded
returns-clause-loaded g c =
    all_become c.args.sb c.args.erases (page_cells_of (sizes_of c.args.shape.now)) c.args.first c.args.counts.now (map g.D.Die.state c.args.dies.now)
    (map g.D.Die.state c.loop-die.dies) c.loop-die.die _ c.loop-die.invariant.loaded

pub returns-clause-loads : goal.returns-clause-loads
returns-clause-loads g c =
    all_loaded c.args.sb c.args.erases (page_cells_of (sizes_of c.args.shape.now)) c.args.counts.now (map g.D.Die.state c.args.dies.now)
    (map g.D.Die.state c.loop-die.dies) c.loop-die.die (omega (arith, length-map c.args.dies.now g.D.Die.state)) c.loop-die.invariant.loaded
