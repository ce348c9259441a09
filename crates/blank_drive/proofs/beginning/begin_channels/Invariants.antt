use Rattle.std.proofs.Common.{◌≡◌, ◌*◌, drop, map, take, vec_len}
use Rattle.ssd_formats.specs.ImageHead.{head_of}
use Rattle.blank_drive.specs.Begun.{AreBegun}
use Rattle.blank_drive.proofs.beginning.begin_channels.Given as goal

-- the channels so far have begun, and what they took is gone from the lists
abbrev pub invariant-loop-number : goal.invariant-loop-number
invariant-loop-number g l = record {
  left : l.dies.items ≡ drop (l.number * l.head.shape.dies) l.initial.dies.items;
  policies : l.policies.items ≡ drop l.number l.initial.policies.items;
  count : vec_len l.channels ≡ l.number;
  begun :
      AreBegun (head_of l.head) l.limit (map g.D.Die.state l.initial.dies.items)
      (map (λ policy. g.P.Policy.told policy) l.initial.policies.items)
      (map (λ channel. channel.kept) l.channels.items);
  views :
      map (λ channel. g.P.Policy.told channel.policy) l.channels.items
      ≡ take l.number (map (λ policy. g.P.Policy.told policy) l.initial.policies.items);
}
