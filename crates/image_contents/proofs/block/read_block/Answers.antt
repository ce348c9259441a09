use Rattle.std.proofs.Common.{◌≡◌, ℕ, ℤ, ◌+◌, ◌*◌, List, [], Ok, length, map, refl, sym, subst, ◌∙◌, rules}
use Rattle.std.specs.Prelude.{if◌then◌else◌}
use Rattle.std.proofs.lemmas.List.{length-map}
use Rattle.ssd_formats.specs.ImageContents.{die_fields, is_stripe_open, sum_field}
use Rattle.ssd_formats.specs.ImageHead.{Head, head_of}
use Rattle.ssd_geo.specs.Limits.{Sizes, page_cells_of}
use Rattle.ssd_geo.specs.declared.base.BlockBase.{BlockBase}
use Rattle.drive_dies.specs.Mounting.{EachBecomes}
use Rattle.onfi_cmd.specs.DieState.{DieState}
use Rattle.image_file.specs.Gives.{rest_at}
use Rattle.image_contents.proofs.DiesLoop.{become_if_ok, become_on, become_unasked, loads_kept, loads_kept_if_ok}
use Rattle.image_contents.proofs.InParts.{block_read, front_lacks, pages_lack, sum_lacks}
use Rattle.image_contents.proofs.Stops.{all_read, first_stops, later_load_stops, later_stops}
use Rattle.image_contents.proofs.TakenBlock.{loads_at_number, pages_at_number, taken_block, takes_block}
use Rattle.image_contents.specs.DiesLoaded.{LoadsBlock, count_at, pages_in}
use Rattle.image_contents.specs.Parts.{block_after, front_after, front_of}
use Rattle.image_contents.proofs.block.read_block.Goals as goal

pub returns-in-Err-clause-read : goal.returns-in-Err-clause-read
returns-in-Err-clause-read g c =
    let head : Head = head_of c.args.head.now in
    let before : List BlockBase = c.args.before.now in
    first_stops _ _ (g.S.Source.left c.args.input.now) _ _ _ c.args.place.now _ _ c.in-Err.stop
    (front_after head c.args.channel before) (block_after head c.args.channel before)
    (λ rest fault read. front_lacks head c.args.channel before rest fault read) c.in-Err.ensures.read

pub returns-in-Err-clause-loaded : goal.returns-in-Err-clause-loaded
returns-in-Err-clause-loaded g c =
    let dies : List DieState = map g.D.Die.state c.args.dies.now in
    become_unasked _ _ _ dies dies c.in-Err.stop c.in-Err.ensures.read.cause (loads_kept dies)

pub returns-in-Err-load_blocks-clause-read : goal.returns-in-Err-load_blocks-clause-read
returns-in-Err-load_blocks-clause-read g c =
    let head : Head = head_of c.args.head.now in
    let before : List BlockBase = c.args.before.now in
    let counts : List ℕ = c.read_front.new.counts in
    let start = rest_at c.args.place.now (g.S.Source.left c.args.input.now) in
    let left = g.S.Source.left c.read_front.new.input in
    let place : ℕ = c.args.place.now + 9 + 2 * c.args.head.now.shape.dies in
    later_load_stops _ _ (g.S.Source.left c.args.input.now) left _ _ _ _ c.args.place.now place _ _ c.in-Err-load_blocks.stop
    (die_fields (page_cells_of head.sizes) counts []) (block_after head c.args.channel before)
    (λ told.
    let front = c.in-Ok.ensures.read.given told in (
      front.0,
      λ fault read. pages_lack head c.args.channel before start (rest_at place left) (front_of c.in-Ok.block counts) fault front.1 read,
    ))
    c.in-Ok.ensures.read.cause c.in-Err-load_blocks.ensures.read

pub returns-in-Err-load_blocks-clause-loaded : goal.returns-in-Err-load_blocks-clause-loaded
returns-in-Err-load_blocks-clause-loaded g c =
    become_on _ (map g.D.Die.state c.args.dies.now) (map g.D.Die.state c.load_blocks.new.dies) c.in-Err-load_blocks.stop c.in-Err-load_blocks.ensures.loaded

pub returns-in-Err-read_sum-clause-read : goal.returns-in-Err-read_sum-clause-read
returns-in-Err-read_sum-clause-read g c =
    let head : Head = head_of c.args.head.now in
    let before : List BlockBase = c.args.before.now in
    let counts : List ℕ = c.read_front.new.counts in
    let start = rest_at c.args.place.now (g.S.Source.left c.args.input.now) in
    let first = rest_at (c.args.place.now + 9 + 2 * c.args.head.now.shape.dies) (g.S.Source.left c.read_front.new.input) in
    let left = g.S.Source.left c.load_blocks.new.input in
    let given = c.in-Ok-load_blocks.ensures.read.given in
    later_stops _ _ (g.S.Source.left c.args.input.now) left _ _ _ _ c.args.place.now c.load_blocks.new.place _ _ c.in-Err-read_sum.stop
    (sum_field head c.in-Ok.block) (block_after head c.args.channel before)
    (λ told.
    let front = c.in-Ok.ensures.read.given told in
    let pages = given.2 front.0 in (
      pages.0,
      λ fault read. sum_lacks head c.args.channel before start first (rest_at c.load_blocks.new.place left) (front_of c.in-Ok.block counts) given.0 fault front.1 pages.1 read,
    ))
    (c.in-Ok-load_blocks.ensures.read.cause ∙ c.in-Ok.ensures.read.cause) c.in-Err-read_sum.ensures.read

pub returns-in-Err-read_sum-clause-loaded : goal.returns-in-Err-read_sum-clause-loaded
returns-in-Err-read_sum-clause-loaded g c =
    let olds : List DieState = map g.D.Die.state c.args.dies.now in
    let news : List DieState = map g.D.Die.state c.load_blocks.new.dies in
    become_unasked _ _ _ olds news c.in-Err-read_sum.stop c.in-Err-read_sum.ensures.read.cause
    (loads_kept_if_ok _ olds news _ c.in-Ok-load_blocks.ensures.loaded)

pub returns-in-Ok-read_sum-clause-read : goal.returns-in-Ok-read_sum-clause-read
returns-in-Ok-read_sum-clause-read g c =
    let head : Head = head_of c.args.head.now in
    let sizes : Sizes = head.sizes in
    let before : List BlockBase = c.args.before.now in
    let block : BlockBase = c.in-Ok.block in
    let counts : List ℕ = c.read_front.new.counts in
    let olds : List DieState = map g.D.Die.state c.args.dies.now in
    let news : List DieState = map g.D.Die.state c.load_blocks.new.dies in
    let start = rest_at c.args.place.now (g.S.Source.left c.args.input.now) in
    let first = rest_at (c.args.place.now + 9 + 2 * c.args.head.now.shape.dies) (g.S.Source.left c.read_front.new.input) in
    let second = rest_at c.load_blocks.new.place (g.S.Source.left c.load_blocks.new.input) in
    let last = rest_at c.read_sum.new.place (g.S.Source.left c.read_sum.new.input) in
    let sum : List ℕ = if is_stripe_open sizes block then c.read_sum.new.sum else [] in
    let given = c.in-Ok-load_blocks.ensures.read.given in
    let pages : pages_in (length before) news ≡ given.0 = pages_at_number _ (length before) news given.0 given.1 (search rules) in
    let each : EachBecomes (λ die old new. LoadsBlock (length before) block.erases (count_at counts die) (page_cells_of sizes) old new) olds news =
    loads_at_number _ (length before) block.erases (page_cells_of sizes) counts olds news c.in-Ok-load_blocks.ensures.loads (search rules) in
    let counted : length counts ≡ sizes.dies = search rules in
    let many : length olds ≡ sizes.dies = length-map c.args.dies.now g.D.Die.state ∙ c.requires.count in
    all_read _ (g.S.Source.left c.args.input.now) (g.S.Source.left c.read_sum.new.input) _ _ c.args.place.now c.read_sum.new.place block
    (taken_block sizes block (length before) news c.read_sum.new.sum) (block_after head c.args.channel before)
    (c.in-Ok-read_sum.ensures.read.cause ∙ c.in-Ok-load_blocks.ensures.read.cause ∙ c.in-Ok.ensures.read.cause) (
      refl,
      takes_block head c.args.channel before block counts olds news c.args.sum.now c.read_sum.new.sum c.args.head.now.shape.within c.in-Ok.ensures.front
          counted many each c.in-Ok-read_sum.ensures.is_sum c.read_sum.ensures.stays,
    )
    (λ told.
    let read_front = c.in-Ok.ensures.read.given told in
    let read_pages = given.2 read_front.0 in
    let read_sum = c.in-Ok-read_sum.ensures.read.given read_pages.0 in (
      read_sum.0,
      block_read head c.args.channel before start first second last (front_of block counts) (pages_in (length before) news) sum read_front.1
          (subst (λ (l : List (List (List ℤ))). die_fields (page_cells_of sizes) counts [] first ≡ Ok (l, second)) (sym pages) read_pages.1) read_sum.1,
    ))

pub returns-in-Ok-read_sum-clause-loaded : goal.returns-in-Ok-read_sum-clause-loaded
returns-in-Ok-read_sum-clause-loaded g c =
    let olds : List DieState = map g.D.Die.state c.args.dies.now in
    let news : List DieState = map g.D.Die.state c.load_blocks.new.dies in
    become_if_ok _ olds news _ (loads_kept_if_ok _ olds news _ c.in-Ok-load_blocks.ensures.loaded)
