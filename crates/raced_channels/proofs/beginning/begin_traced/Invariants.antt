use Rattle.std.proofs.Common.{◌≡◌, ◌*◌, drop, map, vec_len}
use Rattle.raced_channels.specs.Begun.{HaveBegunTraced}
use Rattle.raced_channels.proofs.beginning.begin_traced.Given as goal

-- the channels so far have begun, and what they took is gone from the lists
abbrev pub invariant-loop-number : goal.invariant-loop-number
invariant-loop-number g l = record {
  left : l.dies.items ≡ drop (l.number * l.head.shape.dies) l.initial.dies.items;
  bases : l.bases.items ≡ drop l.number l.initial.bases.items;
  policies : l.policies.items ≡ drop l.number l.initial.policies.items;
  count : vec_len l.channels ≡ l.number;
  begun :
      HaveBegunTraced l.initial.bases.items l.limit l.head.shape.dies (map g.D.Die.state l.initial.dies.items)
      (map (λ policy. g.P.Policy.told policy) l.initial.policies.items) l.channels.items;
}
