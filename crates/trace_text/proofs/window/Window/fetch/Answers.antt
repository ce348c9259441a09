use Rattle.std.proofs.Common.{◌≡◌, ◌+◌, ◌-◌, ◌<◌, ◌≤◌, ◌++◌, sym, ap, ◌∙◌, length, take, drop, arith, rules, length-take-le, length-drop}
use Rattle.trace_text.specs.Windows.{held}
use Rattle.trace_text.proofs.HeldBytes.{held_more, fetched, refilled}
use Rattle.trace_text.proofs.window.Window.fetch.Goals as goal

pub returns-clause-bytes : goal.returns-clause-bytes
returns-clause-bytes g c =
    let made = c.make_room.new.self in
    let buffer = c.deref_mut.result.now in
    let n = c.in_ok-given.given in
    let piece = take n c.read.new.into in
    let same : buffer ≡ made.bytes.items = search rules in
    let whole : length buffer ≡ 65536 = ap length same ∙ made.room in
    let inside : made.to < 65536 = c.make_room.ensures.room in
    let before : take (made.to - made.from) (drop made.from buffer) ≡ held c.args.self.now = ap (λ l. take (made.to - made.from) (drop made.from l)) same ∙ c.make_room.ensures.bytes in
    let few = c.in_ok-given.ensures.bound.0 in
    let some = c.in_ok-given.ensures.bytes in
    let size : length c.read.new.into ≡ length buffer - made.to = c.read.auto.into ∙ length-take-le (length buffer - made.to) (drop made.to buffer) (omega (arith, length-drop made.to buffer)) in
    let ok : length made.bytes.items ≡ made.bytes.len = sym made.bytes.ok.0 in
    fetched n (held c.args.self.now) _ piece (g.S.Source.left c.args.input.now) (g.S.Source.left c.read.new.self)
    (ap (λ l. take (made.to + n - made.from) (drop made.from l)) (refilled made.bytes.len made.to buffer c.read.new.into made.bytes.items (omega (arith, whole, inside)) size (ap length same ∙ ok))
    ∙ (held_more buffer c.read.new.into made.from made.to (length buffer - made.to) n made.order (omega (arith, whole, inside)) few ∙ ap (λ l. l ++ piece) before))
    (length-take-le n c.read.new.into few) some.0 (λ none. some.1 none (omega (arith, size, whole, inside)))
