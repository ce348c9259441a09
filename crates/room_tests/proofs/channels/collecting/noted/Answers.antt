use Rattle.room_tests.proofs.TriedSteps.{notes_plainly, tried_plain}
use Rattle.room_tests.proofs.channels.collecting.noted.Goals as goal

pub returns : goal.returns
returns g c =
    tried_plain c.args.channel.now.kept c.note.new.self.kept
    (notes_plainly c.args.channel.now.kept c.note.new.self.kept c.tag.result c.note.result c.note.ensures.ok c.note.ensures.err)
    c.requires
