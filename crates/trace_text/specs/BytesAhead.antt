-- Which bytes are ahead, and which lines? Those that are held, and then those that the source has left, where it tells them.
use Rattle.std.specs.Prelude.{◌≡◌, ℕ, ◌+◌, ◌<◌, ◌≤◌, false, List, [], ◌∷◌, ◌++◌, length, take, slice_index, All, Option}
use Rattle.ssd_formats.specs.Lines.{Line, is_line_feed, lines_in}
use Rattle.ssd_formats.specs.TraceText.{most_line_bytes}
use Rattle.ssd_io.specs.Told.{IsTold, told_bytes}
use Rattle.trace_text.specs.declared.window.Found.{Found}
use Rattle.trace_text.specs.declared.window.Found.TheVariants.{Feed, End, Long}

-- the bytes ahead, and the lines
abbrev pub bytes_ahead : List ℕ → Option (List ℕ) → List ℕ
bytes_ahead held left = held ++ told_bytes left

abbrev pub lines_ahead : List ℕ → Option (List ℕ) → List Line
lines_ahead held left = lines_in (bytes_ahead held left)

-- A source that tells goes on telling, and the bytes ahead stay the same.
abbrev pub KeepsAhead : List ℕ → List ℕ → Option (List ℕ) → Option (List ℕ) → Type 0
KeepsAhead held_before held_after before after =
    IsTold before → IsTold after × (bytes_ahead held_after after ≡ bytes_ahead held_before before)

-- there are no more bytes
abbrev pub IsOver : Option (List ℕ) → Type 0
IsOver left = told_bytes left ≡ []

-- So many bytes were read behind those held; none only at the end.
pub record Fetches (count : ℕ) (held_before held_after : List ℕ) (before after : Option (List ℕ)) : Type 0 where
  pub ahead : KeepsAhead held_before held_after before after
  pub front : take (length held_before) held_after ≡ held_before
  pub grown : length held_after ≡ length held_before + count
  pub end : count ≡ 0 → IsOver after

-- no byte is an LF
abbrev pub HasNoFeed : List ℕ → Type 0
HasNoFeed bytes = All (λ byte. is_line_feed byte ≡ false) bytes

-- what was found in the bytes held
abbrev pub IsFound : Found → List ℕ → Option (List ℕ) → Type 0
IsFound (Feed at) held left = (at < length held) × (slice_index held at ≡ 10) × HasNoFeed (take at held)
IsFound End held left = HasNoFeed held × IsOver left
IsFound Long held left = HasNoFeed held × (40002 ≤ length held)

-- bytes were read on until there is such a thing
pub record Seeks (found : Found) (held_before held_after : List ℕ) (before after : Option (List ℕ)) : Type 0 where
  pub ahead : KeepsAhead held_before held_after before after
  pub is_found : IsFound found held_after after
