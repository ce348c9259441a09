-- Which blocks answer FAIL to programs and erases? Those that an image lists as weak, from the erase count on that it
-- lists for them. Weak blocks are this project's own.
use Rattle.std.specs.Prelude.{ℕ, ◌==◌, nat_le, Bool, ◌&&◌, List}
use Rattle.std.specs.List.{list_any}
use Rattle.ssd_geo.specs.declared.weak.Weak.{Weak}

-- whether an item of a list of weak blocks makes a block weak at an erase count
abbrev pub makes_weak : ℕ → ℕ → ℕ → ℕ → Weak → Bool
makes_weak channel die sb erases weak =
    weak.channel == channel && (weak.die == die && (weak.sb == sb && nat_le weak.from erases))

-- whether a list of weak blocks makes a block weak at an erase count
abbrev pub is_weak_in : List Weak → ℕ → ℕ → ℕ → ℕ → Bool
is_weak_in weak channel die sb erases = list_any (makes_weak channel die sb erases) weak
