use Rattle.std.proofs.Common.{◌≡◌, Ok, false, map, refl, rules}
use Rattle.ssd_formats.specs.ImageContents.{blank_channel, read_channel}
use Rattle.ssd_formats.specs.ImageHead.{Head, head_of}
use Rattle.image_file.specs.Gives.{rest_at}
use Rattle.image_contents.proofs.BlankContents.{blank_contents}
use Rattle.image_contents.proofs.Stops.{all_read}
use Rattle.image_contents.proofs.channel.read_channel.Goals as goal

pub returns-in-Ok-clause-read : goal.returns-in-Ok-clause-read
returns-in-Ok-clause-read g c =
    let head : Head = head_of c.args.head.now in
    let left = g.S.Source.left c.args.input.now in
    let rest = rest_at c.args.head.now.place left in
    let blank : head.full ≡ false = search rules in
    let read : read_channel head c.args.channel rest ≡ Ok (blank_channel head c.args.channel, rest) = rw blank refl in
    all_read _ left left _ _ c.args.head.now.place c.args.head.now.place c.in-Ok.base (blank_channel head c.args.channel) (read_channel head c.args.channel) refl
    (blank_contents c.args.head.now c.args.channel c.in-Ok.base (map g.D.Die.state c.args.dies.now) c.requires.head c.requires.dies c.in-Ok.ensures.base)
    (λ told. (told, read))
