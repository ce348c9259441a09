-- When is the row of a look lost? Where its page can't be recovered, and the row is as the look found it.
use Rattle.std.specs.Prelude.{ℕ, ◌≡◌, ◌≢◌, IsTrue, List, slice_set, ⊤}
use Rattle.ssd_histories.specs.Lawful.{page_looked_at}
use Rattle.ssd_histories.specs.PageMap.{names_within, row_at}
use Rattle.ssd_geo.specs.declared.kind.Kind.{Kind}
use Rattle.ssd_geo.specs.declared.look.Look.{Look}
use Rattle.ssd_geo.specs.declared.row.Row.{Row}
use Rattle.chan_tables.specs.Copying.{KeepsPage}
use Rattle.chan_tables.specs.declared.answers.CondemnAnswer.{CondemnAnswer}
use Rattle.chan_tables.specs.declared.answers.CondemnAnswer.TheVariants.{Changed, Condemned}

-- when each answer to a condemnation comes, over the rows: just one of the cases holds
abbrev pub IsCondemnAnswer : List Row → Look → CondemnAnswer → Type 0
IsCondemnAnswer rows look (Changed row) = (row ≡ row_at rows look.row) × (row ≢ page_looked_at look)
IsCondemnAnswer rows look Condemned = KeepsPage rows look

-- the entry that it adds
abbrev pub kind_of_condemn : ℕ → CondemnAnswer → Kind
kind_of_condemn at (Changed row) = Kind.Changed at row
kind_of_condemn at Condemned = Kind.Condemn at

-- the page map after it
abbrev pub rows_after_condemn : List Row → Look → CondemnAnswer → List Row
rows_after_condemn rows look (Changed row) = rows
rows_after_condemn rows look Condemned = slice_set rows look.row Row.Lost

-- what an answer to it names is one of so many superblocks, of so many slots each
abbrev pub NamesInRange : ℕ → ℕ → CondemnAnswer → Type 0
NamesInRange superblocks slots (Changed row) = IsTrue (names_within superblocks slots row)
NamesInRange superblocks slots Condemned = ⊤
