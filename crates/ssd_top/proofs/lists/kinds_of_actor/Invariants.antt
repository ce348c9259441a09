use Rattle.std.proofs.Common.{◌≡◌, take}
use Rattle.ssd_formats.specs.TraceText.{kinds_of_actor}
use Rattle.ssd_top.proofs.lists.kinds_of_actor.Given as goal

-- the kinds so far are those of the calls so far
abbrev pub invariant-loop-call : goal.invariant-loop-call
invariant-loop-call l = l.kinds.items ≡ kinds_of_actor (take l.call-index l.calls) l.actor
