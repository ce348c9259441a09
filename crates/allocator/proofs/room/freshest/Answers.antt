use Rattle.std.proofs.Common.{◌≡◌, length, arith, sym, ◌∙◌}
use Rattle.allocator.proofs.Freshest.{freshest_is}
use Rattle.allocator.proofs.room.freshest.Goals as goal

pub returns : goal.returns
returns c =
    let all : c.loop-sb.sb ≡ length c.args.blocks.now = omega arith in
    c.narrowed.ensures ∙ sym (freshest_is c.args.blocks.now c.loop-sb.best (rw all at c.loop-sb.invariant))
