use Rattle.std.proofs.Common.{List, ℕ, OnErr, OnOk, subst}
use Rattle.std.specs.Io.KnownBytes.{Appends}
use Rattle.ssd_io.specs.Pieces.{AppendsFront}
use Rattle.ssd_top.proofs.PrintedText.{text_of-lists}
use Rattle.ssd_top.proofs.printed.Printed.print.Goals as goal

pub returns-clause-all : goal.returns-clause-all
returns-clause-all g c =
    subst (λ (text : List ℕ). OnOk c.print_run.result (Appends (g.O.Sink.written c.args.output.now) (g.O.Sink.written c.print_run.new.output) text))
    (text_of-lists c.args.self.now _ _ _ _ c.deref.ensures.value c.deref-2.ensures.value c.deref-3.ensures.value c.from.ensures) c.print_run.ensures.all

pub returns-clause-front : goal.returns-clause-front
returns-clause-front g c =
    subst (λ (text : List ℕ). OnErr c.print_run.result (AppendsFront (g.O.Sink.written c.args.output.now) (g.O.Sink.written c.print_run.new.output) text))
    (text_of-lists c.args.self.now _ _ _ _ c.deref.ensures.value c.deref-2.ensures.value c.deref-3.ensures.value c.from.ensures) c.print_run.ensures.front
