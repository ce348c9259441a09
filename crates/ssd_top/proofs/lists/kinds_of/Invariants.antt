use Rattle.std.proofs.Common.{◌≡◌, map}
use Rattle.std.specs.List.{range_with_len}
use Rattle.ssd_formats.specs.TraceText.{kinds_of_actor}
use Rattle.ssd_top.proofs.lists.kinds_of.Given as goal

-- the lists so far are those of the actors so far
abbrev pub invariant-loop-actor : goal.invariant-loop-actor
invariant-loop-actor l = l.kinds.items ≡ map (kinds_of_actor l.trace.calls) (range_with_len 0 l.actor)
