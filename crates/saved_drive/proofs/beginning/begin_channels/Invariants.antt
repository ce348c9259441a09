use Rattle.std.proofs.Common.{◌≡◌, ◌*◌, drop, map, take, vec_len}
use Rattle.saved_drive.specs.Begun.{HaveBegun}
use Rattle.saved_drive.proofs.beginning.begin_channels.Given as goal

-- the channels so far have begun, and what they took is gone from the lists
abbrev pub invariant-loop-number : goal.invariant-loop-number
invariant-loop-number g l = record {
  left : l.dies.items ≡ drop (l.number * l.head.shape.dies) l.initial.dies.items;
  bases : l.bases.items ≡ drop l.number l.initial.bases.items;
  policies : l.policies.items ≡ drop l.number l.initial.policies.items;
  count : vec_len l.channels ≡ l.number;
  begun :
      HaveBegun l.initial.bases.items l.limit l.head.shape.dies (map g.D.Die.state l.initial.dies.items)
      (map (λ policy. g.P.Policy.told policy) l.initial.policies.items)
      (map (λ channel. channel.kept) l.channels.items);
  views :
      map (λ channel. g.P.Policy.told channel.policy) l.channels.items
      ≡ take l.number (map (λ policy. g.P.Policy.told policy) l.initial.policies.items);
}
