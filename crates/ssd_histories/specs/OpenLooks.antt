-- Which looks of a channel are open? The list has the open looks with their calls, in the order in which they began.
use Rattle.std.specs.Prelude.{ℕ, ◌==◌, Bool, cond, Option, List, [], ◌∷◌, find, count_by}
use Rattle.ssd_geo.specs.declared.look.Look.{Look}
use Rattle.ssd_geo.specs.declared.tag.Tag.{Tag}

-- whether it is the look that began at this position of the history
abbrev pub began_at : ℕ → Tag × Look → Bool
began_at at pin = pin.1.at == at

-- the open look that began at a position, if there is one
abbrev pub look_at : List (Tag × Look) → ℕ → Option (Tag × Look)
look_at pins at = find (began_at at) pins

-- the open looks without the one that began at a position
abbrev pub without_look : List (Tag × Look) → ℕ → List (Tag × Look)
without_look [] at = []
without_look (pin ∷ pins) at = cond (began_at at pin) pins (pin ∷ without_look pins at)

-- whether a look stands in a superblock
abbrev pub stands_in : ℕ → Tag × Look → Bool
stands_in sb pin = pin.1.slot.sb == sb

-- how many open looks stand in a superblock
abbrev pub looks_in : List (Tag × Look) → ℕ → ℕ
looks_in pins sb = count_by (stands_in sb) pins
