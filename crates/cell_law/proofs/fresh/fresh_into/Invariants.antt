use Rattle.std.proofs.Common.{◌≡◌, ◌*◌, map, take}
use Rattle.std.specs.List.{range_with_len}
use Rattle.ssd_geo.specs.Cells.{fresh_level}
use Rattle.ssd_geo.specs.Noise.{state_after, start_of_program}
use Rattle.cell_law.proofs.fresh.fresh_into.Given as goal

-- two words of noise were drawn for each byte so far, and the levels of its cells are written
abbrev pub invariant-loop-j : goal.invariant-loop-j
invariant-loop-j l = record {
  drawn : l.noise ≡ state_after (start_of_program l.law.seed l.fn.place l.fn.erases) (2 * l.j);
  written : take (8 * l.j) l.out
      ≡ map (fresh_level l.law (start_of_program l.law.seed l.fn.place l.fn.erases) l.word) (range_with_len 0 (8 * l.j));
}
