use Rattle.std.proofs.Common.{ℕ, ◌≡◌, ◌*◌, ◌<◌, List, Err, get_or, length, map, take, sym, ap, subst, ◌∙◌, arith}
use Rattle.std.specs.Prelude.{flat_map}
use Rattle.std.proofs.lemmas.List.{take_all}
use Rattle.ssd_formats.specs.ImageContents.{ChannelImage, channel_bytes, saved_channel}
use Rattle.ssd_geo.specs.Limits.{page_cells_of}
use Rattle.ssd_geo.specs.Shape.{sizes_of}
use Rattle.ssd_geo.specs.declared.base.ChannelBase.{ChannelBase}
use Rattle.ssd_geo.specs.declared.shape.Shape.{Shape}
use Rattle.onfi_cmd.specs.DieState.{DieState}
use Rattle.contents_file.proofs.DieSteps.{later_become}
use Rattle.contents_file.proofs.PutSteps.{saves_all}
use Rattle.contents_file.specs.DiesCopied.{cells_told}
use Rattle.drive_image.specs.WholeImage.{IsBaseOfChannel, NamesOneBelow, saved_channels_of}
use Rattle.drive_image.proofs.LentDies.{names_one}
use Rattle.drive_image.proofs.SaveSteps.{item_saved, item_stopped, saves_is}
use Rattle.drive_image.proofs.SavedChannels.{base_at, bytes_at, own_tell, saved_count}
use Rattle.drive_image.proofs.channels.write_channels.Goals as goal

pub write_one-requires-clause-channel : goal.write_one-requires-clause-channel
write_one-requires-clause-channel g c =
    let shape : Shape = c.args.shape.now in
    let base : ChannelBase = c.index-bases-channel.result in
    let channel : ℕ = c.loop-channel.channel in
    let within : channel < shape.channels = omega arith in
    let of : IsBaseOfChannel shape channel base =
    base_at shape c.args.bases.now channel base c.requires.bases within c.index-bases-channel.is in
    omega (arith, within, of.number_is, ap (λ (own : Shape). own.channels) of.shape_is)

pub write_one-requires-clause-blocks : goal.write_one-requires-clause-blocks
write_one-requires-clause-blocks g c =
    let of : IsBaseOfChannel c.args.shape.now c.loop-channel.channel c.index-bases-channel.result =
    base_at c.args.shape.now c.args.bases.now c.loop-channel.channel c.index-bases-channel.result c.requires.bases (omega arith)
    c.index-bases-channel.is in
    of.block_count ∙ ap (λ (own : Shape). own.superblocks) (sym of.shape_is)

pub write_one-requires-clause-rows : goal.write_one-requires-clause-rows
write_one-requires-clause-rows g c =
    let of : IsBaseOfChannel c.args.shape.now c.loop-channel.channel c.index-bases-channel.result =
    base_at c.args.shape.now c.args.bases.now c.loop-channel.channel c.index-bases-channel.result c.requires.bases (omega arith)
    c.index-bases-channel.is in
    of.row_count ∙ ap (λ (own : Shape). own.rows) (sym of.shape_is)

pub write_one-requires-clause-dies : goal.write_one-requires-clause-dies
write_one-requires-clause-dies g c =
    let shape : Shape = c.args.shape.now in
    let base : ChannelBase = c.index-bases-channel.result in
    let channel : ℕ = c.loop-channel.channel in
    let within : channel < shape.channels = omega arith in
    let of : IsBaseOfChannel shape channel base =
    base_at shape c.args.bases.now channel base c.requires.bases within c.index-bases-channel.is in
    own_tell shape channel base (map g.D.Die.state c.args.dies.now) (map g.D.Die.state c.loop-channel.dies) of c.requires.dies within
    c.loop-channel.invariant.stays

pub write_one-requires-clause-cells : goal.write_one-requires-clause-cells
write_one-requires-clause-cells g c =
    let of : IsBaseOfChannel c.args.shape.now c.loop-channel.channel c.index-bases-channel.result =
    base_at c.args.shape.now c.args.bases.now c.loop-channel.channel c.index-bases-channel.result c.requires.bases (omega arith)
    c.index-bases-channel.is in
    c.loop-channel.invariant.length ∙ c.requires.cells
    ∙ ap (λ (own : Shape). page_cells_of (sizes_of own)) (sym of.shape_is)

pub loop-channel-preserved : goal.loop-channel-preserved
loop-channel-preserved g c =
    let shape : Shape = c.args.shape.now in
    let bases : List ChannelBase = c.args.bases.now in
    let olds : List DieState = map g.D.Die.state c.args.dies.now in
    let dies : List DieState = map g.D.Die.state c.loop-channel.dies in
    let base : ChannelBase = c.index-bases-channel.result in
    let channel : ℕ = c.loop-channel.channel in
    let inv = c.loop-channel.invariant in
    let below : channel < length bases = omega (arith, c.requires.bases.count_is, c.loop-channel-test.true) in
    let of : IsBaseOfChannel shape channel base =
    base_at shape bases channel base c.requires.bases (omega arith) c.index-bases-channel.is in
    let saved : List ChannelImage = saved_channels_of shape bases olds in
    let own : ChannelImage = saved_channel base (cells_told dies) in
    record {
      wrote =
          item_saved channel_bytes saved channel own (omega (arith, saved_count shape bases olds, below)) inv.wrote
          (saves_is (channel_bytes (get_or saved channel own))
          (bytes_at shape bases olds dies channel base own of below c.index-bases-channel.is inv.stays) c.in-Ok.ensures.saves);
      stays = c.in-Ok.ensures.dies ∙ inv.stays;
      length = c.write_one.ensures.cells ∙ inv.length;
    }

pub returns-in-Err-clause-saves : goal.returns-in-Err-clause-saves
returns-in-Err-clause-saves g c =
    let shape : Shape = c.args.shape.now in
    let bases : List ChannelBase = c.args.bases.now in
    let olds : List DieState = map g.D.Die.state c.args.dies.now in
    let dies : List DieState = map g.D.Die.state c.loop-channel.dies in
    let base : ChannelBase = c.index-bases-channel.result in
    let channel : ℕ = c.loop-channel.channel in
    let inv = c.loop-channel.invariant in
    let below : channel < length bases = omega (arith, c.requires.bases.count_is, c.loop-channel-test.true) in
    let of : IsBaseOfChannel shape channel base =
    base_at shape bases channel base c.requires.bases (omega arith) c.index-bases-channel.is in
    let saved : List ChannelImage = saved_channels_of shape bases olds in
    let own : ChannelImage = saved_channel base (cells_told dies) in
    item_stopped c.in-Err.stop channel_bytes saved channel own (omega (arith, saved_count shape bases olds, below)) inv.wrote
    (saves_is (channel_bytes (get_or saved channel own))
    (bytes_at shape bases olds dies channel base own of below c.index-bases-channel.is inv.stays) c.in-Err.ensures.saves)

pub returns-in-Err-clause-dies : goal.returns-in-Err-clause-dies
returns-in-Err-clause-dies g c =
    later_become {T = Unit {0}} 0 (map g.D.Die.state c.args.dies.now) (map g.D.Die.state c.loop-channel.dies)
    (map g.D.Die.state c.write_one.new.dies) (Err c.in-Err.stop) c.loop-channel.invariant.stays c.in-Err.ensures.dies

pub returns-in-Err-clause-names : goal.returns-in-Err-clause-names
returns-in-Err-clause-names g c =
    let shape : Shape = c.args.shape.now in
    let base : ChannelBase = c.index-bases-channel.result in
    let channel : ℕ = c.loop-channel.channel in
    let within : channel < shape.channels = omega arith in
    let of : IsBaseOfChannel shape channel base =
    base_at shape c.args.bases.now channel base c.requires.bases within c.index-bases-channel.is in
    subst (λ (own : Shape). NamesOneBelow {T = Unit {0}} (shape.channels * own.dies) (Err c.in-Err.stop)) of.shape_is
    (names_one (Unit {0}) (Unit {0}) c.in-Err.stop shape.channels base.shape.dies base.channel (omega (arith, within, of.number_is))
    c.in-Err.ensures.names)

pub returns-clause-saves : goal.returns-clause-saves
returns-clause-saves g c =
    let shape : Shape = c.args.shape.now in
    let bases : List ChannelBase = c.args.bases.now in
    let olds : List DieState = map g.D.Die.state c.args.dies.now in
    let saved : List ChannelImage = saved_channels_of shape bases olds in
    let all : length saved ≡ length bases = saved_count shape bases olds in
    saves_is (flat_map channel_bytes saved)
    (ap (flat_map channel_bytes) (sym (take_all c.loop-channel.channel saved (omega (arith, all, c.requires.bases.count_is)))))
    (saves_all {xs = flat_map channel_bytes (take c.loop-channel.channel saved)} c.loop-channel.invariant.wrote)
