use Rattle.std.proofs.Common.{◌≡◌, ℕ, ◌≤◌, List, [], Ok, Err, length, map, true, refl, sym, ap, subst, ◌∙◌, arith, rules}
use Rattle.std.specs.Prelude.{All}
use Rattle.std.proofs.lemmas.List.{length-map}
use Rattle.ssd_formats.specs.ImageContents.{ChannelImage, IsBaseOf, SavedBlock, are_saved_rows, blocks_fields, blocks_of_saved, channel_fields, row_fields, slots_of_sizes, sum_of_saved}
use Rattle.ssd_formats.specs.ImageHead.{Head, head_of}
use Rattle.ssd_geo.specs.declared.base.BlockBase.{BlockBase}
use Rattle.ssd_geo.specs.declared.row.Row.{Row}
use Rattle.onfi_cmd.specs.DieState.{DieState}
use Rattle.image_file.specs.Gives.{rest_at}
use Rattle.image_contents.proofs.DiesLoop.{become_if_ok, become_on, become_unasked, loads_kept_if_ok}
use Rattle.image_contents.proofs.InParts.{blocks_lack, channel_read, rows_lack}
use Rattle.image_contents.proofs.Stops.{all_read, first_load_stops, later_stops}
use Rattle.image_contents.proofs.TakenSteps.{all_used}
use Rattle.image_contents.proofs.WholeContents.{contents_taken}
use Rattle.image_contents.proofs.channel.read_full.Goals as goal
use Rattle.shared_lemmas.proofs.Lists.{written_whole}

pub returns-in-Err-clause-read : goal.returns-in-Err-clause-read
returns-in-Err-clause-read g c =
    let head : Head = head_of c.args.head.now in
    first_load_stops _ _ (g.S.Source.left c.args.input.now) _ _ _ c.args.place.now _ _ c.in-Err.stop
    (blocks_fields head c.args.channel head.sizes.superblocks []) (channel_fields head c.args.channel)
    (λ rest fault read. blocks_lack head c.args.channel rest fault read) c.in-Err.ensures.read

pub returns-in-Err-clause-loaded : goal.returns-in-Err-clause-loaded
returns-in-Err-clause-loaded g c =
    become_on _ (map g.D.Die.state c.args.dies.now) (map g.D.Die.state c.read_blocks.new.dies) c.in-Err.stop c.in-Err.ensures.loaded

pub read_rows-requires-clause-used : goal.read_rows-requires-clause-used
read_rows-requires-clause-used g c =
    let head : Head = head_of c.args.head.now in
    let given = c.in-Ok.ensures.read.given in
    let same : c.deref.result.now ≡ c.in-Ok.blocks.items = search rules in
    subst (λ (l : List BlockBase). All (λ block. block.used ≤ slots_of_sizes head.sizes) l) (sym (same ∙ given.1.0))
    (all_used head c.args.channel [] given.0 given.1.1.are_saved)

pub returns-in-Err-read_rows-clause-read : goal.returns-in-Err-read_rows-clause-read
returns-in-Err-read_rows-clause-read g c =
    let head : Head = head_of c.args.head.now in
    let given = c.in-Ok.ensures.read.given in
    let same : c.deref.result.now ≡ c.in-Ok.blocks.items = search rules in
    let blocks : c.deref.result.now ≡ blocks_of_saved given.0 = same ∙ given.1.0 in
    let start = rest_at c.args.place.now (g.S.Source.left c.args.input.now) in
    let left = g.S.Source.left c.read_blocks.new.input in
    let first = rest_at c.read_blocks.new.place left in
    later_stops _ _ (g.S.Source.left c.args.input.now) left _ _ _ _ c.args.place.now c.read_blocks.new.place _ _ c.in-Err-read_rows.stop
    (row_fields head.sizes c.deref.result.now head.sizes.rows []) (channel_fields head c.args.channel)
    (λ told.
    let read_blocks = given.2 told in (
      read_blocks.0,
      λ fault read. rows_lack head c.args.channel start first given.0 fault read_blocks.1
          (subst (λ (l : List BlockBase). row_fields head.sizes l head.sizes.rows [] first ≡ Err fault) blocks read),
    ))
    c.in-Ok.ensures.read.cause c.in-Err-read_rows.ensures.read

pub returns-in-Err-read_rows-clause-loaded : goal.returns-in-Err-read_rows-clause-loaded
returns-in-Err-read_rows-clause-loaded g c =
    let olds : List DieState = map g.D.Die.state c.args.dies.now in
    let news : List DieState = map g.D.Die.state c.read_blocks.new.dies in
    become_unasked _ _ _ olds news c.in-Err-read_rows.stop c.in-Err-read_rows.ensures.read.cause
    (loads_kept_if_ok _ olds news _ c.in-Ok.ensures.loaded)

pub returns-in-Ok-base_of-clause-read : goal.returns-in-Ok-base_of-clause-read
returns-in-Ok-base_of-clause-read g c =
    let head : Head = head_of c.args.head.now in
    let channel : ℕ = c.args.channel in
    let given = c.in-Ok.ensures.read.given in
    let saved : List SavedBlock = given.0 in
    let rows : List Row = c.in-Ok-read_rows.rows.items in
    let contents : ChannelImage = record { blocks = saved; rows = rows } in
    let same : c.deref.result.now ≡ c.in-Ok.blocks.items = search rules in
    let blocks : c.deref.result.now ≡ blocks_of_saved saved = same ∙ given.1.0 in
    let news : List DieState = map g.D.Die.state c.read_blocks.new.dies in
    let start = rest_at c.args.place.now (g.S.Source.left c.args.input.now) in
    let first = rest_at c.read_blocks.new.place (g.S.Source.left c.read_blocks.new.input) in
    let last = rest_at c.read_rows.new.place (g.S.Source.left c.read_rows.new.input) in
    let blocks_are : c.in-Ok.blocks.items ≡ blocks_of_saved saved = given.1.0 in
    let sum_is : c.read_blocks.new.sum ≡ sum_of_saved head.sizes contents = given.1.1.sum_is in
    let is_base : IsBaseOf head channel contents c.in-Ok-base_of.base = c.in-Ok-base_of.ensures.base contents (cc) (cc)
    (c.new-2.ensures ∙ written_whole c.in_ok-sum.sum.len c.read_blocks.new.sum c.in_ok-sum.sum.items (omega arith) ∙ sum_is) in
    let counted : length c.in-Ok.blocks.items ≡ head.sizes.superblocks = search rules in
    let all : length saved ≡ head.sizes.superblocks =
    sym (length-map saved (λ (of : SavedBlock). of.block)) ∙ ap (λ (l : List BlockBase). length l) (sym given.1.0) ∙ counted in
    let many : length news ≡ head.sizes.dies = c.in-Ok.ensures.loaded.each.count_stays ∙ c.requires.dies.count_is in
    let row_count : length rows ≡ head.sizes.rows = search rules in
    let right : are_saved_rows head.sizes (blocks_of_saved saved) [] rows ≡ true =
    subst (λ (l : List BlockBase). are_saved_rows head.sizes l [] rows ≡ true) blocks c.in-Ok-read_rows.ensures.are_saved in
    all_read _ (g.S.Source.left c.args.input.now) (g.S.Source.left c.read_rows.new.input) _ _ c.args.place.now c.read_rows.new.place c.in-Ok-base_of.base
    contents (channel_fields head channel) (c.in-Ok-read_rows.ensures.read.cause ∙ c.in-Ok.ensures.read.cause)
    (contents_taken head channel saved rows c.in-Ok-base_of.base news c.read_blocks.new.sum given.1.1 all many row_count right is_base)
    (λ told.
    let read_blocks = given.2 told in
    let read_rows = c.in-Ok-read_rows.ensures.read.given read_blocks.0 in (
      read_rows.0,
      channel_read head channel start first last saved rows read_blocks.1
          (subst (λ (l : List BlockBase). row_fields head.sizes l head.sizes.rows [] first ≡ Ok (rows, last)) blocks read_rows.1),
    ))

pub returns-in-Ok-base_of-clause-loaded : goal.returns-in-Ok-base_of-clause-loaded
returns-in-Ok-base_of-clause-loaded g c =
    let olds : List DieState = map g.D.Die.state c.args.dies.now in
    let news : List DieState = map g.D.Die.state c.read_blocks.new.dies in
    become_if_ok _ olds news _ (loads_kept_if_ok _ olds news _ c.in-Ok.ensures.loaded)

pub returns-in-Err-base_of-clause-loaded : goal.returns-in-Err-base_of-clause-loaded
returns-in-Err-base_of-clause-loaded g c =
    let olds : List DieState = map g.D.Die.state c.args.dies.now in
    let news : List DieState = map g.D.Die.state c.read_blocks.new.dies in
    become_unasked _ 0 0 olds news _ refl (loads_kept_if_ok _ olds news _ c.in-Ok.ensures.loaded)
