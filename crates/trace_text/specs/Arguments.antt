-- What do the arguments of a verb give, once their number was tested?
use Rattle.std.specs.Prelude.{ℕ, ◌||◌, if◌then◌else◌, List, bytes_eq, codes, Result, Ok, Err}
use Rattle.ssd_formats.specs.Fields.{◌>>=◌}
use Rattle.ssd_geo.specs.Limits.{Sizes}
use Rattle.ssd_formats.specs.InputFaults.{TraceFault, verb}
use Rattle.ssd_formats.specs.Numbers.{Text}
use Rattle.ssd_formats.specs.TraceText.{age_call_of, bounded_word, collect_call_of, content_word, drain_call_of, page_call_of, page_word, ranged_word}
use Rattle.ssd_geo.specs.declared.trace.Verb.{Verb}
use Rattle.ssd_geo.specs.declared.trace.Verb.TheVariants.{Age, Read, Refresh, Trim, Write}

-- a write's page and its data
abbrev pub write_with : Sizes → Text → Text → Result Verb TraceFault
write_with sizes page content = do
  x ← page_word sizes page
  written ← content_word sizes content
  Ok (Write x written)

-- the channel and the die of a block
abbrev pub die_with : Sizes → Text → Text → Result (ℕ × ℕ) TraceFault
die_with sizes channel die = do
  c ← bounded_word sizes.channels channel
  d ← bounded_word sizes.dies die
  Ok (c, d)

-- the block, and the amount by which it ages
abbrev pub amount_with : Sizes → Text → Text → Result (ℕ × ℕ) TraceFault
amount_with sizes block amount = do
  b ← bounded_word sizes.superblocks block
  n ← ranged_word 1 16383 amount
  Ok (b, n)

abbrev pub age_with : Sizes → (Text × Text) × (Text × Text) → Result Verb TraceFault
age_with sizes words = do
  place ← die_with sizes words.0.0 words.0.1
  rest ← amount_with sizes words.1.0 words.1.1
  Ok (Age place.0 place.1 rest.0 rest.1)

-- a verb that names nothing but a page
abbrev pub page_verb_of : Sizes → Text → List Text → Result Verb TraceFault
page_verb_of sizes word arguments =
    if bytes_eq word (codes "read") then page_call_of Read sizes arguments
    else if bytes_eq word (codes "trim") then page_call_of Trim sizes arguments
    else page_call_of Refresh sizes arguments

-- each verb but a write
abbrev pub other_verb_of : Sizes → Text → List Text → Result Verb TraceFault
other_verb_of sizes word arguments =
    if bytes_eq word (codes "read") || bytes_eq word (codes "trim") || bytes_eq word (codes "refresh") then page_verb_of sizes word arguments
    else if bytes_eq word (codes "collect") then collect_call_of sizes arguments
    else if bytes_eq word (codes "drain") then drain_call_of arguments
    else if bytes_eq word (codes "age") then age_call_of sizes arguments
    else Err verb
