-- What does a call do that prints a text through a line? The line holds what is still to be written. So what is added
-- to it stands behind what was written and what the line held, and where the sink fails a front of all that was
-- written.
use Rattle.std.specs.Prelude.{◌≡◌, ℕ, ◌≤◌, ◌++◌, Option, Result, OnOk, OnErr, vec_capacity}
use Rattle.std.specs.Io.KnownBytes.{Appends}
use Rattle.std.specs.declared.alloc.Global.{Global}
use Rattle.std.specs.declared.vec.Vec.{Vec}
use Rattle.ssd_geo.specs.Faults.{NeverFell, Rose}
use Rattle.ssd_formats.specs.Numbers.{Text}
use Rattle.ssd_io.specs.Pieces.{AppendsFront}

-- A text was added: a front of what the line held and of the text was written, and the line holds the rest. No write
-- failed.
pub record Adds {O : Type 0} (written : O → Option Text) (faults : O → ℕ) (output output' : O) (line line' : Vec ℕ Global) (text : Text) : Type 0 where
  pub front : Text
  pub appended : Appends (written output) (written output') front
  pub kept : line.items ++ text ≡ front ++ line'.items
  pub room : vec_capacity line ≤ vec_capacity line'
  pub stays : faults output' ≡ faults output

-- The sink failed: a front of what the line held and of the text was written, and not all of it.
pub record Stops {O : Type 0} (written : O → Option Text) (faults : O → ℕ) (output output' : O) (line line' : Vec ℕ Global) (text : Text) : Type 0 where
  pub front : AppendsFront (written output) (written output') (line.items ++ text)
  pub room : vec_capacity line ≤ vec_capacity line'
  pub never_fell : NeverFell (faults output) (faults output')
  pub rose : Rose (faults output) (faults output')

-- A call that prints a text adds it, or fails where the sink does.
pub record Prints {O T E : Type 0} (written : O → Option Text) (faults : O → ℕ) (output output' : O) (line line' : Vec ℕ Global) (result : Result T E) (text : Text) : Type 0 where
  pub ok : OnOk result (Adds written faults output output' line line' text)
  pub err : OnErr result (Stops written faults output output' line line' text)
