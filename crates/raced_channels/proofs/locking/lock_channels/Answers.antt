use Rattle.std.proofs.Common.{◌<◌, ◌+◌, ◌∙◌, length, refl, ap, arith}
use Rattle.std.proofs.lemmas.List.{length-map}
use Rattle.blank_drive.proofs.BegunChannels.{gone}
use Rattle.saved_drive.proofs.MoreChannels.{next_of}
use Rattle.ssd_histories.specs.History.{history_of}
use Rattle.raced_channels.proofs.LockedChannels.{one_more_locked}
use Rattle.raced_channels.proofs.locking.lock_channels.Goals as goal

pub new-requires-clause-empty : goal.new-requires-clause-empty
new-requires-clause-empty g c =
    let below : c.loop-number.number < length c.args.channels.items = omega (arith, c.loop-number-test.true, c.len-number-end.ensures) in
    ap history_of
    (c.requires.new c.loop-number.number c.remove-channel.result
    (next_of c.args.channels.items c.loop-number.channels.items c.loop-number.number c.remove-channel.result
    c.loop-number.invariant.left below c.remove-channel.ensures.value))

pub loop-number-preserved : goal.loop-number-preserved
loop-number-preserved g c =
    let below : c.loop-number.number < length c.args.channels.items = omega (arith, c.loop-number-test.true, c.len-number-end.ensures) in
    record {
      left =
          gone c.args.channels.items c.remove-channel.new.self.items c.loop-number.channels.items c.loop-number.number 1
          (c.loop-number.number + 1) c.loop-number.invariant.left c.remove-channel.ensures.items refl;
      as_many_locks = omega (arith, c.in-Ok.ensures.len, c.loop-number.invariant.as_many_locks);
      as_many_rows = omega (arith, c.in-Ok-push.ensures.len, c.loop-number.invariant.as_many_rows);
      each =
          one_more_locked (λ row. row.items) g.J.Contents.contents c.args.actors c.loop-number.number c.args.channels.items c.loop-number.locks.items
          c.push.new.self.items c.loop-number.passes.items c.push-in-loop-number.new.self.items c.in_ok-lock.lock
          c.in_ok-lock.row c.remove-channel.result c.loop-number.invariant.as_many_locks c.loop-number.invariant.as_many_rows
          c.in-Ok.ensures.items c.in-Ok-push.ensures.items
          (next_of c.args.channels.items c.loop-number.channels.items c.loop-number.number c.remove-channel.result
          c.loop-number.invariant.left below c.remove-channel.ensures.value)
          (record {
            stands = c.keeps_standing.ensures;
            start_is = c.in_ok-lock.ensures.lock.1;
            count_is = c.in_ok-lock.ensures.lock.0;
            row_is = c.in_ok-lock.ensures.passes;
          })
          c.loop-number.invariant.each;
    }

pub returns : goal.returns
returns g c = record {
  as_many_locks =
      omega (arith, c.loop-number.invariant.as_many_locks, c.loop-number.auto.number-end, c.loop-number-test.false, c.len-number-end.ensures);
  as_many_rows =
      length-map c.loop-number.passes.items (λ row. row.items)
      ∙ omega (arith, c.loop-number.invariant.as_many_rows, c.loop-number.auto.number-end, c.loop-number-test.false, c.len-number-end.ensures);
  each = λ number channel lock row at there there'. c.loop-number.invariant.each number lock row there there' channel at;
}
