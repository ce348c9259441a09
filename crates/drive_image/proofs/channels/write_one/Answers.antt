use borrow.Author.Rules.{rules, scaled_fits≤}
use Rattle.std.proofs.Common.{ℕ, ◌+◌, ◌-◌, ◌*◌, ◌≤◌, List, drop, length, map, sym, ap, subst, ◌∙◌, take, arith}
use Rattle.ssd_formats.specs.ImageContents.{channel_bytes, saved_channel}
use Rattle.ssd_geo.specs.declared.base.ChannelBase.{ChannelBase}
use Rattle.onfi_cmd.specs.DieState.{DieState}
use Rattle.contents_file.specs.DiesCopied.{AllStayOrOneFaults, AllTellPages, cells_told}
use Rattle.contents_file.specs.Saves.{Saves}
use Rattle.drive_image.proofs.LentDies.{all_become, as_many, lent_are, names_lent, part_fits}
use Rattle.drive_image.proofs.channels.write_one.Goals as goal

pub offset_bounds-dies-first : goal.offset_bounds-dies-first
offset_bounds-dies-first g c =
    let base : ChannelBase = c.args.base.now in
    let fits : base.channel * base.shape.dies + base.shape.dies ≤ length c.args.dies.now =
    part_fits g.D.Die.state base.shape base.channel c.args.dies.now c.requires.dies in
    let low : base.channel * base.shape.dies ≤ length c.args.dies.now = omega (arith, fits) in
    search (rules, scaled_fits≤)

pub write_channel-requires-clause-dies : goal.write_channel-requires-clause-dies
write_channel-requires-clause-dies g c =
    let base : ChannelBase = c.args.base.now in
    let count : ℕ = base.shape.dies in
    let first : ℕ = base.channel * count in
    subst (λ (dies : List DieState). AllTellPages base.shape dies)
    (sym (lent_are g.D.Die.state first count (first + count - first) c.args.dies.now (as_many first count)))
    c.requires.dies

pub returns-clause-saves : goal.returns-clause-saves
returns-clause-saves g c =
    let base : ChannelBase = c.args.base.now in
    let count : ℕ = base.shape.dies in
    let first : ℕ = base.channel * count in
    subst
    (λ (own : List DieState). Saves g.O.Sink.written g.O.Sink.faults c.args.output.now c.write_channel.new.output
    c.write_channel.result (channel_bytes (saved_channel base (cells_told own))))
    (lent_are g.D.Die.state first count (first + count - first) c.args.dies.now (as_many first count))
    c.write_channel.ensures.saves

pub returns-clause-dies : goal.returns-clause-dies
returns-clause-dies g c =
    let base : ChannelBase = c.args.base.now in
    let count : ℕ = base.shape.dies in
    let first : ℕ = base.channel * count in
    let k : ℕ = first + count - first in
    let fits : first + count ≤ length c.args.dies.now =
    part_fits g.D.Die.state base.shape base.channel c.args.dies.now c.requires.dies in
    all_become g.D.Die.state c.write_channel.result first count k c.args.dies.now c.write_channel.new.dies (as_many first count)
    fits (omega arith)
    (subst
    (λ (own : List DieState). AllStayOrOneFaults first own (map g.D.Die.state c.write_channel.new.dies) c.write_channel.result)
    (lent_are g.D.Die.state first count k c.args.dies.now (as_many first count)) c.write_channel.ensures.dies)

pub returns-clause-names : goal.returns-clause-names
returns-clause-names g c =
    let base : ChannelBase = c.args.base.now in
    let count : ℕ = base.shape.dies in
    let first : ℕ = base.channel * count in
    let k : ℕ = first + count - first in
    names_lent c.write_channel.result first count (map g.D.Die.state (take k (drop first c.args.dies.now)))
    (map g.D.Die.state c.write_channel.new.dies)
    (ap (λ (own : List DieState). length own) (lent_are g.D.Die.state first count k c.args.dies.now (as_many first count))
    ∙ c.requires.dies.count_is)
    c.write_channel.ensures.dies
