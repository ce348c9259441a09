use Rattle.std.proofs.Common.{◌≡◌, arith, length, refl}
use Rattle.victim.proofs.Listed.{listed_more}
use Rattle.victim.proofs.oldest.OldestPolicy.erased.Goals as goal

pub bounds-self-inside-kept : goal.bounds-self-inside-kept
bounds-self-inside-kept c =
    let order_len : length c.taken_out-kept.new.list ≡ 256 = omega arith in
    (listed_more _ c.taken_out-kept.new.list _ c.taken_out-kept.result c.args.sb c.self.inside.listed c.self.invariant c.requires
    order_len c.taken_out-kept.ensures.fewer c.taken_out-kept.ensures.kept).in_range

pub invariant_of-self : goal.invariant_of-self
invariant_of-self c =
    let order_len : length c.taken_out-kept.new.list ≡ 256 = omega arith in
    (listed_more _ c.taken_out-kept.new.list _ c.taken_out-kept.result c.args.sb c.self.inside.listed c.self.invariant c.requires
    order_len c.taken_out-kept.ensures.fewer c.taken_out-kept.ensures.kept).listed

pub returns : goal.returns
returns c =
    let order_len : length c.taken_out-kept.new.list ≡ 256 = omega arith in
    let moved = listed_more _ c.taken_out-kept.new.list _ c.taken_out-kept.result c.args.sb c.self.inside.listed c.self.invariant c.requires
    order_len c.taken_out-kept.ensures.fewer c.taken_out-kept.ensures.kept in
    rw (← c.self.view_is, moved.list_is) refl
