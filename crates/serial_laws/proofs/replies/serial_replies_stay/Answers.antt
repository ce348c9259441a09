use Rattle.serial_laws.proofs.OneReply.{serial_replies_stay}
use Rattle.serial_laws.proofs.replies.serial_replies_stay.Goals as goal

pub returns : goal.returns
returns c = serial_replies_stay
