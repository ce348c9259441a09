-- What does the program tell its caller of a status? The exit status is a number, and standard
-- error gets a line of text where it isn't 0.
use Rattle.std.specs.Prelude.{ℕ, List}
use Rattle.ssd_formats.specs.Statuses as Statuses
use Rattle.ssd_formats.specs.Statuses.{die_failed, done, history_limit, image, out_of_memory, read_fault, trace, words_refused, write_fault}
use Rattle.image_file.specs.Gives.{named_fault as image_fault}
use Rattle.trace_text.specs.Answers.{named_fault as trace_fault}
use Rattle.ssd_top.specs.declared.status.Status.{Status}
use Rattle.ssd_top.specs.declared.status.Status.TheVariants.{Done, Words, Image, Trace, ReadFault, WriteFault, HistoryLimit, OutOfMemory, DieFailed}

-- the exit status: that of the definitions
abbrev pub status_number : Status → ℕ
status_number Done = Statuses.status_number done
status_number Words = Statuses.status_number words_refused
status_number (Image at fault) = Statuses.status_number (image at (image_fault fault))
status_number (Trace line fault) = Statuses.status_number (trace line (trace_fault fault))
status_number ReadFault = Statuses.status_number read_fault
status_number WriteFault = Statuses.status_number write_fault
status_number (HistoryLimit channel length) = Statuses.status_number (history_limit channel length)
status_number OutOfMemory = Statuses.status_number out_of_memory
status_number (DieFailed die) = Statuses.status_number (die_failed die)

-- the text: that of the definitions
abbrev pub text_of_status : Status → List ℕ
text_of_status Done = Statuses.status_text done
text_of_status Words = Statuses.status_text words_refused
text_of_status (Image at fault) = Statuses.status_text (image at (image_fault fault))
text_of_status (Trace line fault) = Statuses.status_text (trace line (trace_fault fault))
text_of_status ReadFault = Statuses.status_text read_fault
text_of_status WriteFault = Statuses.status_text write_fault
text_of_status (HistoryLimit channel length) = Statuses.status_text (history_limit channel length)
text_of_status OutOfMemory = Statuses.status_text out_of_memory
text_of_status (DieFailed die) = Statuses.status_text (die_failed die)
