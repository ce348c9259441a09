-- The state that contracts see of a simulated die, from its parts.
use Rattle.std.specs.Prelude.{Option, Some, None}
use Rattle.onfi_cmd.specs.DieState.{DieState}
use Rattle.die_model.specs.Simulated.{mounted_state, unmounted_state}
use Rattle.die_model.specs.declared.mounted.Mounted.{Mounted}
use Rattle.die_model.specs.declared.sim_die.SimDie.{SimDie}

-- the state of what a die holds since its mount, if it was mounted
abbrev pub state_of_parts : Option Mounted → DieState
state_of_parts None = unmounted_state
state_of_parts (Some mounted) = mounted_state mounted.plan mounted.store.blocks mounted.read_level mounted.last_failed

abbrev pub state_of : SimDie → DieState
state_of die = state_of_parts die.mounted
