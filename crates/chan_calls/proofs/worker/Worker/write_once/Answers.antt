use Rattle.std.proofs.Common.{ℕ, ◌≡◌, List, sym, subst, arith}
use Rattle.ssd_geo.specs.Coding.{payload_of}
use Rattle.ssd_geo.specs.PageWord.{word_of}
use Rattle.ssd_geo.specs.Shape.{sizes_of}
use Rattle.chan_calls.specs.Calls.{WritesData}
use Rattle.chan_calls.specs.Ready.{worker_state}
use Rattle.chan_calls.specs.Stepping.{Standing}
use Rattle.chan_calls.specs.Workers.{MayCall, WorkerState}
use Rattle.chan_calls.proofs.WrittenBuffers.{read_back}
use Rattle.chan_calls.proofs.WrittenCalls.{bound_word, word_made, writes_data}
use Rattle.chan_calls.proofs.worker.Worker.write_once.Goals as goal

pub write-requires-clause-of_call : goal.write-requires-clause-of_call
write-requires-clause-of_call g c =
    let i = c.self.inside in
    let worker : WorkerState = worker_state i in
    let payload : List ℕ = c.deref.result.now in
    let payload_is : payload ≡ payload_of i.shape c.serial_of-serial.result c.args.row
    c.args.bytes.now =
    read_back i.room.payload.len c.payload_into.new.out i.room.payload.items payload
    (payload_of i.shape c.serial_of-serial.result c.args.row c.args.bytes.now) c.deref.ensures.value
    (omega arith) c.payload_into.ensures in
    let word : List ℕ = c.deref-2.result.now in
    let encoded : word ≡ word_of (sizes_of i.shape) i.decoder.decoder.code
    (payload_of i.shape c.serial_of-serial.result c.args.row c.args.bytes.now) =
    read_back i.room.word.len c.encode_page.new.word i.room.word.items word
    (word_of (sizes_of i.shape) i.decoder.decoder.code
    (payload_of i.shape c.serial_of-serial.result c.args.row c.args.bytes.now))
    c.deref-2.ensures.value (omega arith)
    (word_made c.code.result.now i.decoder.decoder.code i.shape c.serial_of-serial.result c.args.row
    c.args.bytes.now payload c.encode_page.new.word payload_is c.encode_page.ensures c.code.ensures)
    in
    let caller = g.S.Steps.view c.args.steps.now in
    let stands : Standing = g.S.Steps.stands c.args.steps.now in
    bound_word worker caller stands c.args.tag c.args.row c.args.bytes.now c.serial_of-serial.result
    word c.serial_of-serial.ensures encoded
    (subst (λ (seen : WorkerState). MayCall seen caller stands) (sym c.self.view_is) c.requires.may)
    c.requires.takes

pub returns-clause-goes_on : goal.returns-clause-goes_on
returns-clause-goes_on g c =
    let i = c.self.inside in
    let worker : WorkerState = worker_state i in
    let payload : List ℕ = c.deref.result.now in
    let payload_is : payload ≡ payload_of i.shape c.serial_of-serial.result c.args.row
    c.args.bytes.now =
    read_back i.room.payload.len c.payload_into.new.out i.room.payload.items payload
    (payload_of i.shape c.serial_of-serial.result c.args.row c.args.bytes.now) c.deref.ensures.value
    (omega arith) c.payload_into.ensures in
    let word : List ℕ = c.deref-2.result.now in
    let encoded : word ≡ word_of (sizes_of i.shape) i.decoder.decoder.code
    (payload_of i.shape c.serial_of-serial.result c.args.row c.args.bytes.now) =
    read_back i.room.word.len c.encode_page.new.word i.room.word.items word
    (word_of (sizes_of i.shape) i.decoder.decoder.code
    (payload_of i.shape c.serial_of-serial.result c.args.row c.args.bytes.now))
    c.deref-2.ensures.value (omega arith)
    (word_made c.code.result.now i.decoder.decoder.code i.shape c.serial_of-serial.result c.args.row
    c.args.bytes.now payload c.encode_page.new.word payload_is c.encode_page.ensures c.code.ensures)
    in
    let old = g.S.Steps.view c.args.steps.now in
    let new = g.S.Steps.view c.write.new.self in
    let stood : Standing = g.S.Steps.stands c.args.steps.now in
    let stands : Standing = g.S.Steps.stands c.write.new.self in
    subst (λ (seen : WorkerState). WritesData seen old new stood stands c.args.tag c.args.bytes.now)
    c.self.view_is
    (writes_data worker old new stood stands c.args.tag c.args.row c.args.bytes.now
    c.serial_of-serial.result word c.serial_of-serial.ensures encoded c.write.ensures.goes_on)
