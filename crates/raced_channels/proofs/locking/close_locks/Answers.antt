use Rattle.std.proofs.Common.{◌≡◌, ◌<◌, ◌+◌, length, map, refl, sym, ap, ◌∙◌, arith, length-drop}
use Rattle.std.proofs.lemmas.List.{length-map}
use Rattle.blank_drive.proofs.BegunChannels.{gone}
use Rattle.saved_drive.proofs.MoreChannels.{next_of}
use Rattle.raced_channels.proofs.LockedChannels.{next_row, one_more_closed}
use Rattle.raced_channels.proofs.locking.close_locks.Goals as goal

pub loop-number-preserved : goal.loop-number-preserved
loop-number-preserved g c =
    let many : length c.args.passes.items ≡ length c.args.locks.items =
    sym (length-map c.args.passes.items (λ row. row.items)) ∙ c.requires.as_many in
    let below : c.loop-number.number < length c.args.locks.items = omega (arith, c.loop-number-test.true, c.len-number-end.ensures) in
    let lock_there =
    next_of c.args.locks.items c.loop-number.locks.items c.loop-number.number c.remove-lock.result c.loop-number.invariant.locks below
    c.remove-lock.ensures.value in
    let row_there =
    next_row (λ row. row.items) c.args.passes.items c.loop-number.number c.remove-row.result
    (next_of c.args.passes.items c.loop-number.passes.items c.loop-number.number c.remove-row.result
    c.loop-number.invariant.passes (omega (arith, many, below)) c.remove-row.ensures.value) in
    record {
      locks =
          gone c.args.locks.items c.remove-lock.new.self.items c.loop-number.locks.items c.loop-number.number 1
          (c.loop-number.number + 1) c.loop-number.invariant.locks c.remove-lock.ensures.items refl;
      passes =
          gone c.args.passes.items c.remove-row.new.self.items c.loop-number.passes.items c.loop-number.number 1
          (c.loop-number.number + 1) c.loop-number.invariant.passes c.remove-row.ensures.items refl;
      as_many = omega (arith, c.in-Ok.ensures.len, c.loop-number.invariant.as_many);
      each =
          one_more_closed g.J.Contents.contents c.loop-number.number c.args.locks.items (map (λ row. row.items) c.args.passes.items)
          c.loop-number.channels.items c.push.new.self.items c.remove-lock.result c.remove-row.result.items c.close-channel.result
          c.loop-number.invariant.as_many c.in-Ok.ensures.items lock_there row_there
          (record {
            start_is = c.close-channel.ensures.start;
            stands = c.keeps_standing.ensures;
            actors = c.close-channel.ensures.actors;
            goes_on = c.close-channel.ensures.list;
          })
          c.loop-number.invariant.each;
    }

pub remove-row-requires : goal.remove-row-requires
remove-row-requires g c =
    let many : length c.args.passes.items ≡ length c.args.locks.items =
    sym (length-map c.args.passes.items (λ row. row.items)) ∙ c.requires.as_many in
    omega (arith, ap length c.loop-number.invariant.passes, length-drop c.loop-number.number c.args.passes.items, many, c.loop-number-test.true, c.len-number-end.ensures)

pub close-channel-requires : goal.close-channel-requires
close-channel-requires g c =
    let many : length c.args.passes.items ≡ length c.args.locks.items =
    sym (length-map c.args.passes.items (λ row. row.items)) ∙ c.requires.as_many in
    let below : c.loop-number.number < length c.args.locks.items = omega (arith, c.loop-number-test.true, c.len-number-end.ensures) in
    let lock_there =
    next_of c.args.locks.items c.loop-number.locks.items c.loop-number.number c.remove-lock.result c.loop-number.invariant.locks below
    c.remove-lock.ensures.value in
    let row_there =
    next_row (λ row. row.items) c.args.passes.items c.loop-number.number c.remove-row.result
    (next_of c.args.passes.items c.loop-number.passes.items c.loop-number.number c.remove-row.result
    c.loop-number.invariant.passes (omega (arith, many, below)) c.remove-row.ensures.value) in
    let own = c.requires.each c.loop-number.number c.remove-lock.result c.remove-row.result.items lock_there row_there in
    record { lock = own.of_lock; numbers = own.have_all }

pub returns : goal.returns
returns g c = record {
  as_many =
      omega (arith, c.loop-number.invariant.as_many, c.loop-number.auto.number-end, c.loop-number-test.false, c.len-number-end.ensures);
  each = λ number lock row channel at at' there. c.loop-number.invariant.each number channel there lock row at at';
}
