-- What does the text of a run tell? Its histories: two runs of which the statement holds and whose texts are the same have the
-- same pasts, whatever their starts, replies and counts.
use Rattle.std.specs.Prelude.{◌≡◌}
use Rattle.ssd_formats.specs.ImageHead.{Head}
use Rattle.run_laws.specs.Headline.{Headline}
use Rattle.run_laws.specs.Runs.{Run, text_of_run}

abbrev pub RunTextsTellPasts : Type 0
RunTextsTellPasts =
    (head other_head : Head) (run other : Run) → Headline head run → Headline other_head other →
    text_of_run head run ≡ text_of_run other_head other → run.pasts ≡ other.pasts
