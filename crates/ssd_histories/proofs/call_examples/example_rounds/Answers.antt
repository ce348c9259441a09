use Rattle.ssd_histories.proofs.RoundExamples.{is_collect, is_serial_write, is_write}
use Rattle.ssd_histories.proofs.call_examples.example_rounds.Goals as goal

pub returns : goal.returns
returns c = record { write = is_write; serial = is_serial_write; collect = is_collect }
