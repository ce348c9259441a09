use Rattle.std.proofs.Common.{◌-◌, ap, ◌∙◌, length, drop, arith, rules, take_all, length-drop}
use Rattle.std.specs.List.{position}
use Rattle.ssd_formats.specs.Lines.{is_line_feed}
use Rattle.trace_text.specs.Windows.{held}
use Rattle.trace_text.proofs.window.Window.feed_from.Goals as goal

pub returns : goal.returns
returns c =
    let bytes = c.bytes.result.now in
    c.first_feed.ensures ∙ (ap (position is_line_feed) (take_all (length bytes - c.args.looked) (drop c.args.looked bytes) (omega (arith, length-drop c.args.looked bytes)))
    ∙ ap (λ l. position is_line_feed (drop c.args.looked l)) c.bytes.ensures)
