use Rattle.std.proofs.Common.{◌≡◌, ◌∙◌, length, arith, sym}
use Rattle.victim.proofs.Best.{best_is, best_is_candidate, best_none}
use Rattle.victim.proofs.candidates.default_victim.Goals as goal

pub returns-clause-value : goal.returns-clause-value
returns-clause-value c =
    let all : c.loop-sb.sb ≡ length c.args.table.now = omega arith in
    c.narrowed.ensures ∙ sym (best_is c.args.table.now c.loop-sb.best (rw all at c.loop-sb.invariant))

pub returns-clause-candidate : goal.returns-clause-candidate
returns-clause-candidate c =
    let all : c.loop-sb.sb ≡ length c.args.table.now = omega arith in
    rw c.narrowed.ensures (best_is_candidate c.args.table.now c.loop-sb.best (rw all at c.loop-sb.invariant))

pub returns-clause-none : goal.returns-clause-none
returns-clause-none c =
    let all : c.loop-sb.sb ≡ length c.args.table.now = omega arith in
    rw c.narrowed.ensures (best_none c.args.table.now c.loop-sb.best (rw all at c.loop-sb.invariant))
