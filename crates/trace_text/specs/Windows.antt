-- Which bytes does a window hold? Those of its buffer from one place up to another.
use Rattle.std.specs.Prelude.{ℕ, ◌-◌, List, take, drop}
use Rattle.trace_text.specs.declared.window.Window.{Window}

abbrev pub held : Window → List ℕ
held window = take (window.to - window.from) (drop window.from window.bytes.items)

-- how many bytes a buffer has
abbrev pub room : ℕ
room = 65536
