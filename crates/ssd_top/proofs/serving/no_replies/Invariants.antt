use Rattle.std.proofs.Common.{◌≡◌, [], map, replicate}
use Rattle.ssd_top.proofs.serving.no_replies.Given as goal

-- there are as many lists as were made, all empty
abbrev pub invariant-loop : goal.invariant-loop
invariant-loop l = map (λ list. list.items) l.replies.items ≡ replicate l.counter []
