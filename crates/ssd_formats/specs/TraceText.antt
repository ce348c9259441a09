-- Which calls does the text of a trace have, and which line is the first that is wrong? The first line that isn't
-- skipped tells the number of actors, and each further one is a call: its actor, a verb and its arguments. The format
-- is this project's own.
use Rattle.std.specs.Prelude.{ℕ, ◌+◌, ◌-◌, ◌*◌, ◌/◌, ◌^◌, ◌==◌, nat_lt, nat_le, bytes_eq, Bool, true, false, ◌&&◌, not, if◌then◌else◌, List, [], ◌∷◌, ◌++◌, length, take, map, flat_map, filter, filter_map, count_by, replicate, codes, Option, Some, None, option_map, option_and_then, ok_or, Result, Ok, Err}
use Rattle.std.specs.List.{range_with_len}
use Rattle.std.specs.Int.{w64, to_le_bytes}
use Rattle.ssd_formats.specs.Fields.{◌>>=◌, passing}
use Rattle.ssd_geo.specs.Limits.{is_within}
use Rattle.ssd_geo.specs.Limits.{Sizes}
use Rattle.ssd_formats.specs.InputFaults.{TraceFault}
use Rattle.ssd_formats.specs.InputFaults as faults
use Rattle.ssd_formats.specs.Lines.{Line, lines_in, words_in, is_line_of_words, is_skipped}
use Rattle.ssd_geo.specs.Noise.{noise_word}
use Rattle.ssd_formats.specs.Numbers.{Text, number_of_text, number_below, bytes_of_hex}
use Rattle.ssd_geo.specs.declared.tag.Tag.{Tag}
use Rattle.ssd_geo.specs.declared.trace.Content.{Content}
use Rattle.ssd_geo.specs.declared.trace.Content.TheVariants.{Listed, Words}
use Rattle.ssd_geo.specs.declared.trace.Trace.{Trace}
use Rattle.ssd_geo.specs.declared.trace.TraceCall.{TraceCall}
use Rattle.ssd_geo.specs.declared.trace.Verb.{Verb}
use Rattle.ssd_geo.specs.declared.trace.Verb.TheVariants.{Write, Read, Trim, Refresh, Collect, Drain, Age}
use Rattle.ssd_geo.specs.declared.reply.CallKind.{CallKind}
use Rattle.ssd_geo.specs.declared.reply.CallKind.TheVariants as kinds

-- the pages of a drive, over all channels
abbrev pub pages_of_drive : Sizes → ℕ
pages_of_drive sizes = sizes.channels * sizes.rows

-- a number, however great
abbrev pub number_word : Text → Result ℕ TraceFault
number_word word = ok_or (number_of_text word) faults.number

-- a number from low to high: first its spelling is tested, then its value
abbrev pub ranged_word : ℕ → ℕ → Text → Result ℕ TraceFault
ranged_word low high word = number_word word >>= (λ n. ok_or (passing (is_within low high) n) faults.out_of_range)

-- a number below a bound, as `ranged_word`
abbrev pub bounded_word : ℕ → Text → Result ℕ TraceFault
bounded_word bound word = number_word word >>= (λ n. ok_or (passing (λ m. nat_lt m bound) n) faults.out_of_range)

-- the page of a call
abbrev pub page_word : Sizes → Text → Result ℕ TraceFault
page_word sizes word = bounded_word (pages_of_drive sizes) word

-- listed data: at most the data bytes of a page, in hexadecimal
abbrev pub listed_content : ℕ → Text → Option Content
listed_content most digits = option_and_then (λ bytes. if nat_le (length bytes) most then Some (Listed bytes) else None) (bytes_of_hex digits)

-- generated data: the number that starts the generator
abbrev pub words_content : Text → Option Content
words_content digits = option_map Words (number_below (2 ^ 64) digits)

-- the data of a write on a drive with so many data bytes a page: `x` and listed data, or `g` and a number
abbrev pub content_of_text : ℕ → Text → Option Content
content_of_text most [] = None
content_of_text most (first ∷ further) =
    if first == 120 then listed_content most further else if first == 103 then words_content further else None

abbrev pub content_word : Sizes → Text → Result Content TraceFault
content_word sizes word = ok_or (content_of_text sizes.bytes word) faults.bytes

-- the arguments of each verb, from left to right; their number is tested first
abbrev pub write_call_of : Sizes → List Text → Result Verb TraceFault
write_call_of sizes (page ∷ content ∷ []) = do
  x ← page_word sizes page
  written ← content_word sizes content
  Ok (Write x written)
write_call_of sizes words = Err faults.form

abbrev pub page_call_of : (ℕ → Verb) → Sizes → List Text → Result Verb TraceFault
page_call_of verb sizes (page ∷ []) = do
  x ← page_word sizes page
  Ok (verb x)
page_call_of verb sizes words = Err faults.form

abbrev pub collect_call_of : Sizes → List Text → Result Verb TraceFault
collect_call_of sizes (channel ∷ []) = do
  c ← bounded_word sizes.channels channel
  Ok (Collect c)
collect_call_of sizes words = Err faults.form

abbrev pub drain_call_of : List Text → Result Verb TraceFault
drain_call_of (hints ∷ []) = do
  n ← ranged_word 1 16 hints
  Ok (Drain n)
drain_call_of words = Err faults.form

abbrev pub age_call_of : Sizes → List Text → Result Verb TraceFault
age_call_of sizes (channel ∷ die ∷ block ∷ amount ∷ []) = do
  c ← bounded_word sizes.channels channel
  d ← bounded_word sizes.dies die
  b ← bounded_word sizes.superblocks block
  n ← ranged_word 1 16383 amount
  Ok (Age c d b n)
age_call_of sizes words = Err faults.form

-- the verb and its arguments
abbrev pub verb_of : Sizes → List Text → Result Verb TraceFault
verb_of sizes [] = Err faults.verb
verb_of sizes (word ∷ arguments) =
    if bytes_eq word (codes "write") then write_call_of sizes arguments
    else if bytes_eq word (codes "read") then page_call_of Read sizes arguments
    else if bytes_eq word (codes "trim") then page_call_of Trim sizes arguments
    else if bytes_eq word (codes "refresh") then page_call_of Refresh sizes arguments
    else if bytes_eq word (codes "collect") then collect_call_of sizes arguments
    else if bytes_eq word (codes "drain") then drain_call_of arguments
    else if bytes_eq word (codes "age") then age_call_of sizes arguments
    else Err faults.verb

-- the actor: first its number's spelling is tested, then whether there is such an actor
abbrev pub actor_word : ℕ → Text → Result ℕ TraceFault
actor_word actors word = number_word word >>= (λ n. ok_or (passing (λ m. nat_lt m actors) n) faults.actor)

-- the actor and the verb of a call's line
abbrev pub call_of_words : Sizes → ℕ → List Text → Result (ℕ × Verb) TraceFault
call_of_words sizes actors [] = Err faults.form
call_of_words sizes actors (first ∷ further) = do
  actor ← actor_word actors first
  verb ← verb_of sizes further
  Ok (actor, verb)

-- whether a call is one of this actor
abbrev pub is_of_actor : ℕ → TraceCall → Bool
is_of_actor actor call = call.tag.actor == actor

-- a call after those before: it has the number of its actor's calls among them
abbrev pub numbered_after : List TraceCall → ℕ × Verb → TraceCall
numbered_after before call = record {
  tag = record { actor = call.0; call = count_by (is_of_actor call.0) before };
  verb = call.1;
}

-- whether a verb is a read
abbrev pub is_read_verb : Verb → Bool
is_read_verb (Read page) = true
is_read_verb other = false

abbrev pub is_read_call : TraceCall → Bool
is_read_call call = is_read_verb call.verb

-- the most calls of a trace, and the most bytes that its reads may give
abbrev pub most_calls : ℕ
most_calls = 2 ^ 20

abbrev pub most_bytes_read : ℕ
most_bytes_read = 2 ^ 30

-- whether so many calls are within the limits: not too many, and their reads don't give too many bytes
abbrev pub are_few_calls : Sizes → List TraceCall → Bool
are_few_calls sizes calls =
    nat_le (length calls) most_calls && nat_le (count_by is_read_call calls * sizes.bytes) most_bytes_read

-- the most bytes of a line, and of a trace
abbrev pub most_line_bytes : ℕ
most_line_bytes = 40000

abbrev pub most_trace_bytes : ℕ
most_trace_bytes = 2 ^ 26

-- whether a line is within the limits, after so many bytes of lines before it
abbrev pub is_short_line : ℕ → Line → Bool
is_short_line before line =
    nat_le (length line.text) most_line_bytes && nat_le (before + line.taken) most_trace_bytes

-- the words of a line that isn't skipped
abbrev pub line_words : Line → Result (List Text) TraceFault
line_words line = ok_or (option_map words_in (passing is_line_of_words line.text)) faults.form

-- the number of actors that the words of the first line tell
abbrev pub actors_of_words : List Text → Option ℕ
actors_of_words (word ∷ version ∷ actors ∷ []) =
    if bytes_eq word (codes "trace") && bytes_eq version (codes "1")
    then option_and_then (passing (is_within 1 32)) (number_of_text actors) else None
actors_of_words words = None

-- the number of actors that the first line tells
abbrev pub first_of_line : Line → Result ℕ TraceFault
first_of_line line = line_words line >>= (λ words. ok_or (actors_of_words words) faults.first)

-- the calls after those before and one more line
abbrev pub calls_with : Sizes → ℕ → List TraceCall → Line → Result (List TraceCall) TraceFault
calls_with sizes actors before line = do
  words ← line_words line
  call ← call_of_words sizes actors words
  ok_or (passing (are_few_calls sizes) (before ++ numbered_after before call ∷ [])) faults.long

-- a fault at this line
abbrev pub at_line : {A : Type 0} → ℕ → Result A TraceFault → Result A (ℕ × TraceFault)
at_line line (Ok value) = Ok value
at_line line (Err fault) = Err (line, fault)

-- the calls of all lines from the one with this number on, after so many bytes of lines and the calls in them
unfoldable pub calls_of_lines : Sizes → ℕ → ℕ → ℕ → List TraceCall → List Line → Result (List TraceCall) (ℕ × TraceFault)
calls_of_lines sizes actors number taken before [] = Ok before
calls_of_lines sizes actors number taken before (line ∷ lines) =
    if not (is_short_line taken line) then Err (number, faults.long)
    else if is_skipped line.text then calls_of_lines sizes actors (number + 1) (taken + line.taken) before lines
    else (at_line number (calls_with sizes actors before line) >>=
    (λ calls. calls_of_lines sizes actors (number + 1) (taken + line.taken) calls lines))

-- the trace of all lines from the one with this number on, as long as the first line that isn't skipped is due
unfoldable pub trace_of_lines : Sizes → ℕ → ℕ → List Line → Result Trace (ℕ × TraceFault)
trace_of_lines sizes number taken [] = Err (number, faults.first)
trace_of_lines sizes number taken (line ∷ lines) =
    if not (is_short_line taken line) then Err (number, faults.long)
    else if is_skipped line.text then trace_of_lines sizes (number + 1) (taken + line.taken) lines
    else (at_line number (first_of_line line) >>=
    (λ actors. calls_of_lines sizes actors (number + 1) (taken + line.taken) [] lines >>=
    (λ calls. Ok (record { actors = actors; calls = calls }))))

-- the trace of a text, or the number of the first line that is wrong and what is wrong with it
abbrev pub read_trace : Sizes → Text → Result Trace (ℕ × TraceFault)
read_trace sizes text = trace_of_lines sizes 1 0 (lines_in text)

-- the first n bytes of the words that a number starts, each low byte first
abbrev pub generated_bytes : ℕ → ℕ → List ℕ
generated_bytes n number = take n (flat_map (λ w. to_le_bytes w64 (noise_word number w)) (range_with_len 0 ((n + 7) / 8)))

-- the data of a write on a drive with so many data bytes a page: listed bytes with zeros after them, or generated ones
abbrev pub content_bytes : ℕ → Content → List ℕ
content_bytes n (Listed list) = list ++ replicate (n - length list) 0
content_bytes n (Words number) = generated_bytes n number

-- the data of a call, where it is a write
abbrev pub written_by : ℕ → Tag → Verb → Option (Tag × List ℕ)
written_by n tag (Write page content) = Some (tag, content_bytes n content)
written_by n tag other = None

-- which data each write of a trace has
abbrev pub contents_of : ℕ → List TraceCall → List (Tag × List ℕ)
contents_of n calls = filter_map (λ call. written_by n call.tag call.verb) calls

-- the kind of a call
abbrev pub kind_of_verb : Verb → CallKind
kind_of_verb (Write page content) = kinds.Write
kind_of_verb (Read page) = kinds.Read
kind_of_verb (Trim page) = kinds.Trim
kind_of_verb (Refresh page) = kinds.Refresh
kind_of_verb (Collect channel) = kinds.Collect
kind_of_verb (Drain hints) = kinds.Drain
kind_of_verb (Age channel die sb amount) = kinds.Age

-- the kinds of an actor's calls in their order, and those of all actors
abbrev pub kinds_of_actor : List TraceCall → ℕ → List CallKind
kinds_of_actor calls actor = map (λ call. kind_of_verb call.verb) (filter (is_of_actor actor) calls)

abbrev pub kinds_of_trace : Trace → List (List CallKind)
kinds_of_trace trace = map (kinds_of_actor trace.calls) (range_with_len 0 trace.actors)
