-- What a start has for the laws on reads: the pages that are due, and rows that name used slots.
use Rattle.std.proofs.Common.{ℕ, zero, suc, ◌≡◌, Bool, false, true, List, [], ◌∷◌, get_or, refl, ap, ltb-true}
use Rattle.std.specs.Prelude.{All, IsTrue, not}
use Rattle.std.proofs.lemmas.List.Elements.{All-head, All-tail}
use Rattle.ssd_geo.specs.declared.base.ChannelBase.{ChannelBase}
use Rattle.ssd_geo.specs.declared.row.Row.{Row}
use Rattle.ssd_histories.specs.Blocks.{block_at}
use Rattle.ssd_histories.specs.LookLaws.{NamesUsed}
use Rattle.ssd_histories.specs.Standing.{IsStart, names_used}
use Rattle.ssd_histories.specs.Start.{Start}
use Rattle.recovery_laws.specs.RecoveredReads.{StartsHaveNamedPages}

row_names : (base : ChannelBase) (row : Row) → names_used base row ≡ true → NamesUsed base [] row
row_names base (Row.Page slot serial) used = ltb-true slot.index (block_at base.blocks slot.sb).used used
row_names base Row.Empty used = tt
row_names base Row.Lost used = tt

rows_name : (base : ChannelBase) (rows : List Row) → All (λ row. IsTrue (names_used base row)) rows → (row : ℕ) →
    NamesUsed base [] (get_or rows row Row.Empty)
rows_name base [] used row = tt
rows_name base (first ∷ rows) used zero =
    row_names base first (All-head (λ (row : Row). IsTrue (names_used base row)) first rows used)
rows_name base (first ∷ rows) used (suc row) =
    rows_name base rows (All-tail (λ (row : Row). IsTrue (names_used base row)) first rows used) row

pub starts_have_named_pages : StartsHaveNamedPages
starts_have_named_pages start is_start = record {
  has_due_pages = λ die sb die_low sb_low good. (is_start.blocks_due die sb die_low sb_low).exact (ap not good);
  rows_name_used = rows_name start.base start.base.rows is_start.rows_used;
}
