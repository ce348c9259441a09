use Rattle.std.proofs.Common.{◌∙◌, ap}
use Rattle.onfi_cmd.specs.Reading.{operation_of}
use Rattle.onfi_cmd.proofs.Spelling.{few_cycles, sent_bytes, said, own}
use Rattle.onfi_cmd.proofs.laws.operations_match_cycles.Goals as goal

pub returns-clause-there : goal.returns-clause-there
returns-clause-there c = λ cycles op bytes h. ap operation_of h.cycles_are ∙ said op bytes h.feature h.data_bytes

pub returns-clause-back : goal.returns-clause-back
returns-clause-back c = λ cycles op small h. own cycles op h small

pub returns-clause-data_bytes : goal.returns-clause-data_bytes
returns-clause-data_bytes c = λ op bytes h. sent_bytes op bytes h

pub returns-clause-few : goal.returns-clause-few
returns-clause-few c = λ op bytes h. few_cycles op bytes h
