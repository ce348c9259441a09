use Rattle.race_laws.proofs.RaceReplies.{races_replied}
use Rattle.race_laws.proofs.replies.races_have_replies.Goals as goal

pub returns : goal.returns
returns c = races_replied
