use Rattle.std.proofs.Common.{◌+◌, ◌∙◌, ap, sym}
use Rattle.ssd_formats.specs.HistoryText.{Printed}
use Rattle.history_text.proofs.LineCuts.{line_before}
use Rattle.history_text.proofs.read.lines.Lines.take.Goals as goal

pub returns-in-Some : goal.returns-in-Some
returns-in-Some c =
    let pieces = rw c.in-Some.is at c.cut.ensures.pieces in
    let before = line_before c.self.inside.left.now c.cut.result.0.now c.in-Some.left.now pieces in (
      ap (λ (rest : Printed). rest.lines) (sym c.self.view_is) ∙ before,
      ap (λ (rest : Printed). rest.number + 1) c.self.view_is,
    )
