use Rattle.std.proofs.Common.{arith, length-take-le, length-drop}
use Rattle.trace_text.proofs.HeldBytes.{held_length, skipped}
use Rattle.trace_text.proofs.window.Window.skip.Goals as goal

pub returns : goal.returns
returns c =
    let w = c.args.self.now in
    skipped w.bytes.items w.from w.to c.args.count (omega (arith, c.requires, held_length w.bytes.items w.from w.to w.order w.within))
