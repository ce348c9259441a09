use Rattle.std.proofs.Common.{◌≡◌, length}
use Rattle.room_tests.proofs.page_maps.rows_are_set_and_found.Given as goal

abbrev pub invariant-loop-row : goal.invariant-loop-row
invariant-loop-row g l = (l.map.superblocks ≡ 3) × (l.map.slots ≡ 4) × (length l.map.rows ≡ 4)

abbrev pub invariant-loop-at : goal.invariant-loop-at
invariant-loop-at g l = (l.map.superblocks ≡ 3) × (l.map.slots ≡ 4) × (length l.map.rows ≡ 4)
