-- What can be wrong with an image and with a trace, and which word names it in a status text?
use Rattle.std.specs.Prelude.{codes}
use Rattle.ssd_formats.specs.Numbers.{Text}

-- What is wrong with an image: the input ends too early; the text at its beginning; a number outside its range; an
-- entry of the base matrix; its first parity column; its dual diagonal; the order of weak or bad blocks; a superblock's
-- state; a number of used slots or programmed pages; the sum of an open stripe; a row of a page map.
pub data ImageFault : Type 0 where
  short : ImageFault
  magic : ImageFault
  range : ImageFault
  entry : ImageFault
  parity : ImageFault
  diagonal : ImageFault
  order : ImageFault
  state : ImageFault
  count : ImageFault
  sum : ImageFault
  row : ImageFault

-- What is wrong with a line of a trace: it isn't the first line that is due; it is too long, or the trace is; it isn't
-- made of so many words with single spaces between; a number's spelling; an actor that isn't there; a verb; a number
-- outside its range; the data of a write.
pub data TraceFault : Type 0 where
  first : TraceFault
  long : TraceFault
  form : TraceFault
  number : TraceFault
  actor : TraceFault
  verb : TraceFault
  out_of_range : TraceFault
  bytes : TraceFault

abbrev pub image_fault_word : ImageFault → Text
image_fault_word short = codes "short"
image_fault_word magic = codes "magic"
image_fault_word range = codes "range"
image_fault_word entry = codes "entry"
image_fault_word parity = codes "parity"
image_fault_word diagonal = codes "diagonal"
image_fault_word order = codes "order"
image_fault_word state = codes "state"
image_fault_word count = codes "count"
image_fault_word sum = codes "sum"
image_fault_word row = codes "row"

abbrev pub trace_fault_word : TraceFault → Text
trace_fault_word first = codes "first"
trace_fault_word long = codes "long"
trace_fault_word form = codes "form"
trace_fault_word number = codes "number"
trace_fault_word actor = codes "actor"
trace_fault_word verb = codes "verb"
trace_fault_word out_of_range = codes "range"
trace_fault_word bytes = codes "data"
