use Rattle.run_laws.proofs.SerialHeadline.{serial_stops_hold}
use Rattle.run_laws.proofs.serial.serial_stops_hold.Goals as goal

pub returns : goal.returns
returns c = serial_stops_hold
