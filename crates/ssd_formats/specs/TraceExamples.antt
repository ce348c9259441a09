-- Which traces are read by hand, to see that the definitions of traces say what is meant? The drive is that of
-- `small_image`: one channel of eight pages, eight data bytes a page.
use Rattle.std.specs.Prelude.{ℕ, List, [], ◌∷◌, ◌++◌, codes, Result, Ok, Err}
use Rattle.ssd_formats.specs.ImageExamples.{small_head}
use Rattle.ssd_geo.specs.Limits.{Sizes}
use Rattle.ssd_formats.specs.InputFaults.{TraceFault}
use Rattle.ssd_formats.specs.Lines.{Line}
use Rattle.ssd_formats.specs.Numbers.{Text}
use Rattle.ssd_formats.specs.TextExamples.{lines_text}
use Rattle.ssd_formats.specs.TraceText.{read_trace}
use Rattle.ssd_geo.specs.declared.trace.Content.TheVariants.{Listed, Words}
use Rattle.ssd_geo.specs.declared.trace.Trace.{Trace}
use Rattle.ssd_geo.specs.declared.trace.TraceCall.{TraceCall}
use Rattle.ssd_geo.specs.declared.trace.Verb.{Verb}
use Rattle.ssd_geo.specs.declared.trace.Verb.TheVariants.{Write, Read, Trim, Refresh, Collect, Drain, Age}

-- a trace on that drive
abbrev pub small_trace : Text → Result Trace (ℕ × TraceFault)
small_trace text = read_trace small_head.sizes text

-- the trace whose second line this is
abbrev pub with_second_line : Text → Result Trace (ℕ × TraceFault)
with_second_line line = small_trace (lines_text (codes "trace 1 1" ∷ line ∷ []))

-- what is wrong with a trace, at which line; else nothing at line 0
abbrev pub fault_of_trace : Result Trace (ℕ × TraceFault) → ℕ × TraceFault
fault_of_trace (Ok trace) = (0, TraceFault.first)
fault_of_trace (Err fault) = fault

abbrev pub call_of : ℕ → ℕ → Verb → TraceCall
call_of actor call verb = record { tag = record { actor = actor; call = call }; verb = verb }

-- a trace of two actors with each verb, with lines that are skipped, a CR before LF, and a last line without LF
abbrev pub every_verb_text : Text
every_verb_text =
    lines_text (
    codes "# every verb" ∷
    [] ∷
    codes "trace 1 2" ∷
    (codes "0 write 7 x01ff" ++ 13 ∷ []) ∷
    codes "1 write 0 g18446744073709551615" ∷
    codes "1 write 1 x" ∷
    codes "0 read 7" ∷
    codes "# halfway" ∷
    codes "1 trim 0" ∷
    codes "0 refresh 7" ∷
    codes "0 collect 0" ∷
    codes "1 drain 16" ∷ []) ++ codes "1 age 0 2 3 16383"

abbrev pub every_verb_trace : Trace
every_verb_trace = record {
  actors = 2;
  calls =
      call_of 0 0 (Write 7 (Listed (1 ∷ 255 ∷ []))) ∷
      call_of 1 0 (Write 0 (Words 18446744073709551615)) ∷
      call_of 1 1 (Write 1 (Listed [])) ∷
      call_of 0 1 (Read 7) ∷
      call_of 1 2 (Trim 0) ∷
      call_of 0 2 (Refresh 7) ∷
      call_of 0 3 (Collect 0) ∷
      call_of 1 3 (Drain 16) ∷
      call_of 1 4 (Age 0 2 3 16383) ∷ [];
}

-- traces without a first line, or with another one, and where each is wrong
abbrev pub first_line_texts : List Text
first_line_texts =
    [] ∷
    lines_text ([] ∷ []) ∷
    lines_text (codes "# only this" ∷ [] ∷ []) ∷
    lines_text (codes "trace 1 0" ∷ []) ∷
    lines_text (codes "trace 1 33" ∷ []) ∷
    lines_text (codes "trace 1 01" ∷ []) ∷
    lines_text (codes "trace 2 1" ∷ []) ∷
    lines_text (codes "trace 1" ∷ []) ∷
    lines_text (codes "# a trace" ∷ codes "0 read 1" ∷ []) ∷
    lines_text (codes "trace  1 1" ∷ []) ∷
    (codes "trace 1 1" ++ 13 ∷ []) ∷ []

abbrev pub first_line_faults : List (ℕ × TraceFault)
first_line_faults =
    (1, TraceFault.first) ∷
    (2, TraceFault.first) ∷
    (3, TraceFault.first) ∷
    (1, TraceFault.first) ∷
    (1, TraceFault.first) ∷
    (1, TraceFault.first) ∷
    (1, TraceFault.first) ∷
    (1, TraceFault.first) ∷
    (2, TraceFault.first) ∷
    (1, TraceFault.form) ∷
    (1, TraceFault.form) ∷ []

-- lines that are no call, and what is wrong with each
abbrev pub wrong_lines : List Text
wrong_lines =
    codes "0  read 1" ∷
    codes " 0 read 1" ∷
    codes "0 read 1 " ∷
    (codes "0 read" ++ 9 ∷ codes "1") ∷
    codes "00 read 1" ∷
    codes "x read 1" ∷
    codes "1 read 1" ∷
    codes "99999999999999999999999 read 1" ∷
    codes "0 fly 1" ∷
    codes "0" ∷
    codes "0 read" ∷
    codes "0 read 1 2" ∷
    codes "0 read 01" ∷
    codes "0 write 8 x00" ∷
    codes "0 read 99999999999999999999999" ∷
    codes "0 drain 0" ∷
    codes "0 drain 17" ∷
    codes "0 collect 1" ∷
    codes "0 age 0 3 0 1" ∷
    codes "0 age 0 0 4 1" ∷
    codes "0 age 0 0 0 16384" ∷
    codes "0 age 1 0 0 x" ∷
    codes "0 write 1 x0" ∷
    codes "0 write 1 xAB" ∷
    codes "0 write 1 x000000000000000000" ∷
    codes "0 write 1 g18446744073709551616" ∷
    codes "0 write 1 g01" ∷
    codes "0 write 1 00" ∷
    codes "0 write 8 y" ∷ []

abbrev pub wrong_line_faults : List TraceFault
wrong_line_faults =
    TraceFault.form ∷
    TraceFault.form ∷
    TraceFault.form ∷
    TraceFault.form ∷
    TraceFault.number ∷
    TraceFault.number ∷
    TraceFault.actor ∷
    TraceFault.actor ∷
    TraceFault.verb ∷
    TraceFault.verb ∷
    TraceFault.form ∷
    TraceFault.form ∷
    TraceFault.number ∷
    TraceFault.out_of_range ∷
    TraceFault.out_of_range ∷
    TraceFault.out_of_range ∷
    TraceFault.out_of_range ∷
    TraceFault.out_of_range ∷
    TraceFault.out_of_range ∷
    TraceFault.out_of_range ∷
    TraceFault.out_of_range ∷
    TraceFault.out_of_range ∷
    TraceFault.bytes ∷
    TraceFault.bytes ∷
    TraceFault.bytes ∷
    TraceFault.bytes ∷
    TraceFault.bytes ∷
    TraceFault.bytes ∷
    TraceFault.out_of_range ∷ []

abbrev pub at_second : TraceFault → ℕ × TraceFault
at_second fault = (2, fault)

-- the drive with so many data bytes a page, for the limit on what reads give
abbrev pub with_data_bytes : ℕ → Sizes
with_data_bytes bytes = record small_head.sizes { bytes = bytes }

-- two reads, which are calls 0 and 1
abbrev pub two_reads : List TraceCall
two_reads = call_of 0 0 (Read 1) ∷ call_of 0 1 (Read 1) ∷ []

-- a line with one more
abbrev pub read_line : Line
read_line = record { text = codes "0 read 1"; taken = 9 }

-- the trace that writes and reads one page
abbrev pub one_page_calls : Trace
one_page_calls = record {
  actors = 1;
  calls = call_of 0 0 (Write 5 (Listed (1 ∷ 2 ∷ []))) ∷ call_of 0 1 (Read 5) ∷ [];
}
