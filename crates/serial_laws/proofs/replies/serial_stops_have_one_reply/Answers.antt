use Rattle.serial_laws.proofs.OneReply.{serial_stops_have_one_reply}
use Rattle.serial_laws.proofs.replies.serial_stops_have_one_reply.Goals as goal

pub returns : goal.returns
returns c = serial_stops_have_one_reply
