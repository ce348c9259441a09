use borrow.Author.Rules.{rules, scaled_fits≤}
use borrow.Rule.Slice.PartMut.{put_mid}
use Rattle.std.proofs.Common.{ℕ, ◌+◌, ◌-◌, ◌*◌, ◌≤◌, List, drop, length, map, take, refl, sym, subst, arith}
use Rattle.contents_start.specs.ContentsStart.{AreOfContents}
use Rattle.final_dies.specs.FinalDies.{dies_of_channel}
use Rattle.image_contents.specs.DiesLoaded.{BecomeLoaded}
use Rattle.image_contents.specs.Loads.{Loads}
use Rattle.onfi_cmd.specs.DieState.{DieState}
use Rattle.ssd_formats.specs.ImageContents.{read_channel}
use Rattle.ssd_formats.specs.ImageHead.{head_of}
use Rattle.ssd_geo.specs.declared.head.ImageHead.{ImageHead}
use Rattle.drive_contents.proofs.LentPart.{given_back, lent_are, next_are_blank, others_stay, part_fits}
use Rattle.drive_contents.proofs.loading.load_channel.Goals as goal

pub offset_bounds-dies-first : goal.offset_bounds-dies-first
offset_bounds-dies-first g c =
    let head : ImageHead = c.args.head.now in
    let fits : c.args.channel * head.shape.dies + head.shape.dies ≤ length c.args.dies.now =
    part_fits g.D.Die.state head c.args.channel c.args.dies.now c.requires.dies c.requires.channel in
    let low : c.args.channel * head.shape.dies ≤ length c.args.dies.now = omega (arith, fits) in
    search (rules, scaled_fits≤)

pub read_channel-requires-clause-dies : goal.read_channel-requires-clause-dies
read_channel-requires-clause-dies g c =
    let head : ImageHead = c.args.head.now in
    let count : ℕ = head.shape.dies in
    let first : ℕ = c.args.channel * count in
    next_are_blank head c.args.channel (map g.D.Die.state c.args.dies.now) _ c.requires.dies c.requires.channel
    (lent_are g.D.Die.state count c.args.channel first (first + count - first) c.args.dies.now c.args.dies.now refl (omega arith))

pub returns-clause-read : goal.returns-clause-read
returns-clause-read g c =
    let head : ImageHead = c.args.head.now in
    let count : ℕ = head.shape.dies in
    let channel : ℕ = c.args.channel in
    let first : ℕ = channel * count in
    subst
    (λ (own : List DieState). Loads (λ base saved. AreOfContents (head_of head) channel saved base own) (g.S.Source.left c.args.input.now)
    (g.S.Source.left c.read_channel.new.input) (g.S.Source.faults c.args.input.now) (g.S.Source.faults c.read_channel.new.input)
    head.place c.read_channel.new.head.place c.read_channel.result (read_channel (head_of head) channel))
    (sym (given_back g.D.Die.state count channel first (first + count - first) c.args.dies.now c.read_channel.new.dies refl (omega arith)
    (part_fits g.D.Die.state head channel c.args.dies.now c.requires.dies c.requires.channel) (omega arith)))
    c.read_channel.ensures.read

pub returns-clause-loaded : goal.returns-clause-loaded
returns-clause-loaded g c =
    let head : ImageHead = c.args.head.now in
    let count : ℕ = head.shape.dies in
    let channel : ℕ = c.args.channel in
    let first : ℕ = channel * count in
    let k : ℕ = first + count - first in
    let news : List DieState =
    dies_of_channel count (map g.D.Die.state (put_mid first k c.args.dies.now c.read_channel.new.dies)) channel in
    subst (λ (olds : List DieState). BecomeLoaded first olds news c.read_channel.result)
    (lent_are g.D.Die.state count channel first k c.args.dies.now c.args.dies.now refl (omega arith))
    (subst
    (λ (all : List DieState). BecomeLoaded first (map g.D.Die.state (take k (drop first c.args.dies.now))) all c.read_channel.result)
    (sym (given_back g.D.Die.state count channel first k c.args.dies.now c.read_channel.new.dies refl (omega arith)
    (part_fits g.D.Die.state head channel c.args.dies.now c.requires.dies c.requires.channel) (omega arith)))
    c.read_channel.ensures.loaded)

pub returns-clause-others : goal.returns-clause-others
returns-clause-others g c =
    let head : ImageHead = c.args.head.now in
    let count : ℕ = head.shape.dies in
    let channel : ℕ = c.args.channel in
    let first : ℕ = channel * count in
    others_stay g.D.Die.state count channel first (first + count - first) c.args.dies.now c.read_channel.new.dies refl (omega arith)
    (part_fits g.D.Die.state head channel c.args.dies.now c.requires.dies c.requires.channel) (omega arith)
