-- The page map after one more entry.
use Rattle.std.proofs.Common.{◌≡◌, ℕ, zero, suc, ◌+◌, ◌<◌, ◌==◌, true, false, map, set, refl, Option, Some, None, arith}
use Rattle.std.specs.List.{range_with_len}
use Rattle.std.proofs.lemmas.Bool.Decides.{nat_tests}
use Rattle.ssd_geo.specs.declared.row.Row.{Row}
use Rattle.ssd_histories.specs.HistoryLaws.{RowsAfterEntry, rows_after}
use Rattle.ssd_histories.specs.PastRows.{row_after, row_change, row_of}
use Rattle.std.proofs.lemmas.Bool.{eq-eqb}
use Rattle.shared_lemmas.proofs.Tests.{is_other_above, is_other}

-- a row that a change isn't of keeps what it held
other_row : (k r : ℕ) (x before : Row) → (k == r) ≡ false → row_after (Some (k, x)) r before ≡ before
other_row k r x before e = rw (e, row_after) refl

-- the row that a change is of holds what it says
same_row : (k r : ℕ) (x before : Row) → (k == r) ≡ true → row_after (Some (k, x)) r before ≡ x
same_row k r x before e = rw (e, row_after) refl

-- rows above the changed one keep what they held
rows_above : (f : ℕ → Row) (k : ℕ) (x : Row) (a n : ℕ) → k < a
    → map (λ r. row_after (Some (k, x)) r (f r)) (range_with_len a n) ≡ map f (range_with_len a n)
rows_above f k x a zero h = refl
rows_above f k x a (suc n) h =
    rw (other_row k a x (f a) (is_other k a h), rows_above f k x (a + 1) n (omega arith)) refl

-- the rows from a on, with row k of them changed
rows_changed : (f : ℕ → Row) (k : ℕ) (x : Row) (a i n : ℕ) → k ≡ a + i
    → map (λ r. row_after (Some (k, x)) r (f r)) (range_with_len a n) ≡ set (map f (range_with_len a n)) i x
rows_changed f k x a i zero h = refl
rows_changed f k x a zero (suc n) h =
    rw (same_row k a x (f a) (eq-eqb k a (omega arith)), rows_above f k x (a + 1) n (omega arith)) refl
rows_changed f k x a (suc i) (suc n) h =
    rw (other_row k a x (f a) (is_other_above k a (omega arith)), rows_changed f k x (a + 1) i n (omega arith)) refl

rows_step : (f : ℕ → Row) (change : Option (ℕ × Row)) (n : ℕ)
    → map (λ r. row_after change r (f r)) (range_with_len 0 n) ≡ rows_after change (map f (range_with_len 0 n))
rows_step f None n = refl
rows_step f (Some change) n = rows_changed f change.0 change.1 0 change.0 n (omega arith)

pub rows_after_entry : RowsAfterEntry
rows_after_entry base entry past =
    rows_step (row_of base past) (row_change base.session past entry.tag entry.kind) base.shape.rows
