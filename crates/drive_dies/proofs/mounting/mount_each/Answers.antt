use Rattle.std.proofs.Common.{ℕ, ◌≡◌, ◌+◌, ◌<◌, List, Ok, Err, length, map, get_or, sym, subst, arith}
use Rattle.std.proofs.lemmas.List.{length-map, map-set}
use Rattle.onfi_cmd.specs.DieState.{DieState}
use Rattle.onfi_cmd.specs.declared.plan.DiePlan.{DiePlan}
use Rattle.drive_dies.proofs.EachDie.{held_at, laws_stay, next_stops, one_more_mounted, plan_is}
use Rattle.drive_dies.specs.Mounting.{BecomesMounted, EachBecomes, IsMountedBelow, Mounts, MountsDies, die_count}
use Rattle.drive_dies.proofs.mounting.mount_each.Goals as goal

pub returns-in-Err : goal.returns-in-Err
returns-in-Err g c =
    let states : List DieState = map g.D.Die.state c.loop-number.dies in
    let before : DieState = g.D.Die.state (get_or c.loop-number.dies c.loop-number.number c.index-dies-number.result) in
    let after : DieState = g.D.Die.state c.mount_die.new.die in
    let plan = plan_is c.args.head.now c.loop-number.plan c.loop-number.number c.loop-number.invariant.laws in
    let at : before ≡ get_or states c.loop-number.number before =
    held_at g.D.Die.state c.loop-number.dies c.loop-number.number c.index-dies-number.result c.index-dies-number.is in
    let below : c.loop-number.number < length states =
    omega (arith, c.requires.count, c.loop-number-test.true, length-map c.loop-number.dies g.D.Die.state) in
    subst (λ (news : List DieState). MountsDies {T = Unit {0}} c.args.head.now (map g.D.Die.state c.args.dies.now) news (Err c.in-Err.stop))
    (sym (map-set g.D.Die.state c.loop-number.dies c.loop-number.number c.mount_die.new.die))
    (next_stops c.args.head.now (map g.D.Die.state c.args.dies.now) states c.loop-number.number before after c.in-Err.stop
    c.loop-number.invariant.mounted below at c.loop-number-test.true
    (subst (λ (p : DiePlan). BecomesMounted {T = Unit {0}} p c.loop-number.number (Err c.in-Err.stop) before after) plan
    c.in-Err.ensures.die))

pub loop-number-preserved : goal.loop-number-preserved
loop-number-preserved g c =
    let states : List DieState = map g.D.Die.state c.loop-number.dies in
    let before : DieState = g.D.Die.state (get_or c.loop-number.dies c.loop-number.number c.index-dies-number.result) in
    let after : DieState = g.D.Die.state c.mount_die.new.die in
    let plan = plan_is c.args.head.now c.loop-number.plan c.loop-number.number c.loop-number.invariant.laws in
    let at : before ≡ get_or states c.loop-number.number before =
    held_at g.D.Die.state c.loop-number.dies c.loop-number.number c.index-dies-number.result c.index-dies-number.is in
    let below : c.loop-number.number < length states =
    omega (arith, c.requires.count, c.loop-number-test.true, length-map c.loop-number.dies g.D.Die.state) in
    record {
      laws =
          laws_stay c.args.head.now c.loop-number.plan c.mount_die.new.plan c.loop-number.number c.loop-number.invariant.laws
          c.mount_die.ensures.plan;
      mounted =
          subst
          (λ (news : List DieState). EachBecomes (IsMountedBelow c.args.head.now (c.loop-number.number + 1)) (map g.D.Die.state c.args.dies.now) news)
          (sym (map-set g.D.Die.state c.loop-number.dies c.loop-number.number c.mount_die.new.die))
          (one_more_mounted c.args.head.now (map g.D.Die.state c.args.dies.now) states c.loop-number.number before after
          c.loop-number.invariant.mounted below at
          (subst (λ (p : DiePlan). Mounts p before after) plan c.in-Ok-mount_die.ensures.die));
    }

pub returns : goal.returns
returns g c =
    let all : c.loop-number.number ≡ die_count c.args.head.now = omega arith in
    subst (λ (n : ℕ). EachBecomes (IsMountedBelow c.args.head.now n) (map g.D.Die.state c.args.dies.now) (map g.D.Die.state c.loop-number.dies))
    all c.loop-number.invariant.mounted
