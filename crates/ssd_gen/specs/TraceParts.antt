-- What is the generated trace, given the state in which the generator comes to it?
use Rattle.std.specs.Prelude.{ℕ, [], ◌∷◌, ◌++◌, flat_map, codes}
use Rattle.std.specs.List.{range_with_len}
use Rattle.ssd_formats.specs.EntryText.{line_of}
use Rattle.ssd_formats.specs.GeneratedWork.{generated_line_of}
use Rattle.ssd_geo.specs.Noise.{noise_word}
use Rattle.ssd_formats.specs.Numbers.{Text}

-- the line of a call
abbrev pub call_text : ℕ → ℕ → Text
call_text start call = generated_line_of call (noise_word start call)

-- the lines of all calls, and the trace
unfoldable pub calls_text : ℕ → Text
calls_text start = flat_map (call_text start) (range_with_len 0 4096)

unfoldable pub trace_text : ℕ → Text
trace_text start = line_of (codes "trace 1 4" ∷ []) ++ calls_text start
