-- In which state is a superblock? Each state has a test, so that lists of superblocks can be counted and searched.
use Rattle.std.specs.Prelude.{Bool, true, false}
use Rattle.ssd_geo.specs.declared.superblock.SbState.{SbState}
use Rattle.ssd_geo.specs.declared.superblock.SbState.TheVariants.{Free, Frontier, Sealed, Bad, Victim}

-- whether no slot of it is used
abbrev pub is_free : SbState → Bool
is_free Free = true
is_free Frontier = false
is_free Sealed = false
is_free Bad = false
is_free Victim = false

-- whether it has the next slot
abbrev pub is_frontier : SbState → Bool
is_frontier Free = false
is_frontier Frontier = true
is_frontier Sealed = false
is_frontier Bad = false
is_frontier Victim = false

-- whether all its slots are used, and it isn't the victim
abbrev pub is_sealed : SbState → Bool
is_sealed Free = false
is_sealed Frontier = false
is_sealed Sealed = true
is_sealed Bad = false
is_sealed Victim = false

-- whether it is out of use for good
abbrev pub is_bad : SbState → Bool
is_bad Free = false
is_bad Frontier = false
is_bad Sealed = false
is_bad Bad = true
is_bad Victim = false

-- whether it is being collected
abbrev pub is_victim : SbState → Bool
is_victim Free = false
is_victim Frontier = false
is_victim Sealed = false
is_victim Bad = false
is_victim Victim = true
