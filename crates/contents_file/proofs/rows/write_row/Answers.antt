use Rattle.std.proofs.Common.{sym, ap, ◌∙◌}
use Rattle.ssd_formats.specs.ImageContents.{row_bytes}
use Rattle.ssd_io.proofs.WriteSteps.{writes_is}
use Rattle.contents_file.proofs.rows.write_row.Goals as goal

pub returns-in-Page : goal.returns-in-Page
returns-in-Page g c =
    writes_is (row_bytes c.args.row) (ap row_bytes c.in-Page.is ∙ sym c.spell_page.ensures) c.put-in-Page.ensures
