use Rattle.std.proofs.Common.{ℕ, ◌*◌, ◌+◌, ◌-◌, sym, subst}
use Rattle.chan_dies.specs.DiesState.{AreMounted}
use Rattle.channel_ends.specs.ChannelEnds.{HaveFewPages}
use Rattle.drive_image.proofs.LentDies.{as_many, lent_are}
use Rattle.ssd_top.proofs.saving.count_channel.Goals as goal

pub count_pages-requires : goal.count_pages-requires
count_pages-requires g c =
    let count : ℕ = c.args.shape.now.dies in
    let first : ℕ = c.args.channel * count in
    subst (AreMounted c.args.shape.now)
    (sym (lent_are g.D.Die.state first count (first + count - first) c.args.dies.now (as_many first count))) c.requires.mounted

pub returns : goal.returns
returns g c =
    let count : ℕ = c.args.shape.now.dies in
    let first : ℕ = c.args.channel * count in
    subst (HaveFewPages c.args.shape.now)
    (lent_are g.D.Die.state first count (first + count - first) c.args.dies.now (as_many first count)) c.count_pages.ensures
