-- What does a call answer that reads a part of a line? It answers what the definition of that part reads from it. Only
-- want of memory may come in its place.
use Rattle.std.specs.Prelude.{◌≡◌, Result, Ok, Err}
use Rattle.ssd_formats.specs.InputFaults.{TraceFault, first, long, form, number, actor, verb, out_of_range, bytes}
use Rattle.trace_text.specs.declared.fault.LineStop.{LineStop}
use Rattle.trace_text.specs.declared.fault.LineStop.TheVariants.{Fault, Memory}
use Rattle.trace_text.specs.declared.fault.TraceFault.{TraceFault as TraceFaultAnswer}
use Rattle.trace_text.specs.declared.fault.TraceFault.TheVariants.{First, Long, Form, Number, Actor, Verb, Range, Data}

-- the fault that an answer names
abbrev pub named_fault : TraceFaultAnswer → TraceFault
named_fault First = first
named_fault Long = long
named_fault Form = form
named_fault Number = number
named_fault Actor = actor
named_fault Verb = verb
named_fault Range = out_of_range
named_fault Data = bytes

-- an answer, with its fault in the definition's words
abbrev pub named : {A : Type 0} → Result A TraceFaultAnswer → Result A TraceFault
named (Ok value) = Ok value
named (Err fault) = Err (named_fault fault)

-- A stop is what is read here, or want of memory.
abbrev pub StopsAt : {A : Type 0} → LineStop → Result A TraceFault → Type 0
StopsAt (Fault fault) reading = reading ≡ Err (named_fault fault)
StopsAt Memory reading = Unit {0}

-- an answer is what is read, or want of memory
abbrev pub Answers : {A : Type 0} → Result A LineStop → Result A TraceFault → Type 0
Answers (Ok value) reading = reading ≡ Ok value
Answers (Err stop) reading = StopsAt stop reading
