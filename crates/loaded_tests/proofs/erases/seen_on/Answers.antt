use Rattle.std.proofs.Common.{refl}
use Rattle.loaded_tests.proofs.erases.seen_on.Goals as goal

-- the channel that was lent has the small sizes still
pub seen_by-requires : goal.seen_by-requires
seen_by-requires c = record { alone = refl; unbound = refl; sizes = rw c.new-steps.ensures.channel c.requires }
