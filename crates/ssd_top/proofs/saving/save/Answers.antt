use Rattle.std.proofs.Common.{◌*◌, map, inr, subst, arith}
use Rattle.ssd_formats.specs.ImageHead.{head_of}
use Rattle.ssd_top.proofs.EndedChannels.{written_whole}
use Rattle.ssd_top.proofs.SavedRuns.{left_hands_saved, saved_done, saved_failed, saved_front, saves_stopped, stop_hands_saved}
use Rattle.ssd_top.specs.Commands.{AreSavedBack}
use Rattle.ssd_top.specs.LeftDrives.{AreLeft, HaveChannelsFewPages, IsLeftWritten}
use Rattle.ssd_top.proofs.saving.save.Goals as goal

pub returns-in-Err-clause-dies : goal.returns-in-Err-clause-dies
returns-in-Err-clause-dies g c =
    let given = rw c.in-Err.is at c.serve_input-outcome.ensures.dies in
    stop_hands_saved c.in-Err.status (map g.D.Die.state c.args.dies.items) (map g.D.Die.state c.serve_input-outcome.result.dies.items)
    given

pub save_left-status-requires-clause-head : goal.save_left-status-requires-clause-head
save_left-status-requires-clause-head g c =
    let has = rw c.in-Ok.is at c.serve_input-outcome.ensures.ok in
    has.of_input.is_head

pub returns-clause-dies : goal.returns-clause-dies
returns-clause-dies g c =
    let items = c.serve_input-outcome.result.dies.items in
    let whole =
    written_whole c.save_left-status.new.dies items c.serve_input-outcome.result.dies.len (omega arith) in
    let runs = rw c.in-Ok.is at c.serve_input-outcome.ensures.dies in
    let head = c.in-Ok.served.printed.head in
    let old = g.O.Sink.written c.args.output.now in
    let new = g.O.Sink.written c.save_left-status.new.output in
    let written =
    subst (λ all. IsLeftWritten c.save_left-status.result (head_of head) head.shape c.in-Ok.served.parts.items
    (map g.D.Die.state all) old new) c.deref_mut.ensures.value c.save_left-status.ensures.written in
    let left =
    subst (λ all. AreLeft (head.shape.channels * head.shape.dies) c.save_left-status.result (map g.D.Die.state all)
    (map g.D.Die.state c.save_left-status.new.dies)) c.deref_mut.ensures.value c.save_left-status.ensures.dies in
    let olds = map g.D.Die.state c.args.dies.items in
    subst (λ all. AreSavedBack c.save_left-status.result olds (map g.D.Die.state all)) whole
    (left_hands_saved (head.shape.channels * head.shape.dies) c.save_left-status.result (head_of head) head.shape
    c.in-Ok.served.parts.items olds (map g.D.Die.state items) (map g.D.Die.state c.save_left-status.new.dies) old new written runs
    left)

pub returns-clause-saved : goal.returns-clause-saved
returns-clause-saved g c = λ is.
    let items = c.serve_input-outcome.result.dies.items in
    let whole =
    written_whole c.save_left-status.new.dies items c.serve_input-outcome.result.dies.len (omega arith) in
    let has = rw c.in-Ok.is at c.serve_input-outcome.ensures.ok in
    let head = c.in-Ok.served.printed.head in
    let old = g.O.Sink.written c.args.output.now in
    let new = g.O.Sink.written c.save_left-status.new.output in
    let written =
    subst (λ all. IsLeftWritten c.save_left-status.result (head_of head) head.shape c.in-Ok.served.parts.items
    (map g.D.Die.state all) old new) c.deref_mut.ensures.value c.save_left-status.ensures.written in
    let left =
    subst (λ all. AreLeft (head.shape.channels * head.shape.dies) c.save_left-status.result (map g.D.Die.state all)
    (map g.D.Die.state c.save_left-status.new.dies)) c.deref_mut.ensures.value c.save_left-status.ensures.dies in
    let few =
    subst (λ all. HaveChannelsFewPages head.shape (map g.D.Die.state all)) c.deref.ensures.value c.count_drive.ensures in
    let back =
    subst (λ all. AreLeft (head.shape.channels * head.shape.dies) c.save_left-status.result (map g.D.Die.state items)
    (map g.D.Die.state all)) whole left in
    saved_done _ _ _ _ _ (map g.D.Die.state items) c.in-Ok.served has c.save_left-status.result _ old new c.in-None.is few written back is

pub returns-clause-saved_front : goal.returns-clause-saved_front
returns-clause-saved_front g c = λ is.
    let items = c.serve_input-outcome.result.dies.items in
    let whole =
    written_whole c.save_left-status.new.dies items c.serve_input-outcome.result.dies.len (omega arith) in
    let has = rw c.in-Ok.is at c.serve_input-outcome.ensures.ok in
    let head = c.in-Ok.served.printed.head in
    let old = g.O.Sink.written c.args.output.now in
    let new = g.O.Sink.written c.save_left-status.new.output in
    let written =
    subst (λ all. IsLeftWritten c.save_left-status.result (head_of head) head.shape c.in-Ok.served.parts.items
    (map g.D.Die.state all) old new) c.deref_mut.ensures.value c.save_left-status.ensures.written in
    let left =
    subst (λ all. AreLeft (head.shape.channels * head.shape.dies) c.save_left-status.result (map g.D.Die.state all)
    (map g.D.Die.state c.save_left-status.new.dies)) c.deref_mut.ensures.value c.save_left-status.ensures.dies in
    let few =
    subst (λ all. HaveChannelsFewPages head.shape (map g.D.Die.state all)) c.deref.ensures.value c.count_drive.ensures in
    let back =
    subst (λ all. AreLeft (head.shape.channels * head.shape.dies) c.save_left-status.result (map g.D.Die.state items)
    (map g.D.Die.state all)) whole left in
    saved_front _ _ _ _ _ (map g.D.Die.state items) c.in-Ok.served has c.save_left-status.result _ old new c.in-None.is few written back is

pub returns-clause-failed : goal.returns-clause-failed
returns-clause-failed g c = λ die is.
    let items = c.serve_input-outcome.result.dies.items in
    let whole =
    written_whole c.save_left-status.new.dies items c.serve_input-outcome.result.dies.len (omega arith) in
    let has = rw c.in-Ok.is at c.serve_input-outcome.ensures.ok in
    let head = c.in-Ok.served.printed.head in
    let old = g.O.Sink.written c.args.output.now in
    let new = g.O.Sink.written c.save_left-status.new.output in
    let written =
    subst (λ all. IsLeftWritten c.save_left-status.result (head_of head) head.shape c.in-Ok.served.parts.items
    (map g.D.Die.state all) old new) c.deref_mut.ensures.value c.save_left-status.ensures.written in
    let left =
    subst (λ all. AreLeft (head.shape.channels * head.shape.dies) c.save_left-status.result (map g.D.Die.state all)
    (map g.D.Die.state c.save_left-status.new.dies)) c.deref_mut.ensures.value c.save_left-status.ensures.dies in
    let few =
    subst (λ all. HaveChannelsFewPages head.shape (map g.D.Die.state all)) c.deref.ensures.value c.count_drive.ensures in
    let back =
    subst (λ all. AreLeft (head.shape.channels * head.shape.dies) c.save_left-status.result (map g.D.Die.state items)
    (map g.D.Die.state all)) whole left in
    inr
    (saved_failed _ _ _ _ _ (map g.D.Die.state items) c.in-Ok.served has c.save_left-status.result _ old new c.in-None.is few
    written back die is)

pub returns-in-Some-clause-at_limit : goal.returns-in-Some-clause-at_limit
returns-in-Some-clause-at_limit g c = λ channel entries is.
    let has = rw c.in-Ok.is at c.serve_input-outcome.ensures.ok in
    saves_stopped _ _ _ _ _ (map g.D.Die.state c.serve_input-outcome.result.dies.items) c.in-Ok.served has
    (c.in-Some.channel, c.in-Some.length) c.in-Some.is channel entries is
