-- Tables after a condemnation: they fit each other, and are what its entry makes of them.
use Rattle.std.proofs.Common.{◌≡◌, ℕ, true, List, ◌∷◌, refl, sym, eq-eqb, Some}
use Rattle.std.specs.Prelude.{IsFalse, IsSome, option_map}
use Rattle.allocator.specs.Superblocks.{Superblocks}
use Rattle.map_rows.specs.PageMap.{PageMap}
use Rattle.ssd_histories.specs.Copies.{is_after_uncorrectable}
use Rattle.ssd_histories.specs.History.{look_of}
use Rattle.ssd_histories.specs.HistoryLaws.{rows_after}
use Rattle.ssd_histories.specs.OpenLooks.{look_at}
use Rattle.ssd_histories.specs.SerialCalls.{entry_of}
use Rattle.ssd_geo.specs.declared.kind.Kind.{Kind}
use Rattle.ssd_geo.specs.declared.look.Look.{Look}
use Rattle.ssd_geo.specs.declared.row.Row.{Row}
use Rattle.ssd_geo.specs.declared.shape.Shape.{Shape}
use Rattle.ssd_geo.specs.declared.tag.Tag.{Tag}
use Rattle.chan_tables.specs.Condemning.{kind_of_condemn, rows_after_condemn}
use Rattle.chan_tables.specs.TablesState.{FitTogether, HistoryState, KeepsLooks, ends_uncorrectable, tables_after}
use Rattle.chan_tables.specs.declared.answers.CondemnAnswer.{CondemnAnswer}
use Rattle.chan_tables.specs.declared.answers.CondemnAnswer.TheVariants.{Changed, Condemned}
use Rattle.chan_tables.proofs.Fits.{fit_history, fit_row, looks_of_tables}
use Rattle.chan_tables.proofs.Longer.{IsLonger, used_longer}
use Rattle.chan_tables.proofs.MovedTables.{tables_of}
use Rattle.chan_tables.proofs.SetAside.{uncorrectable_uses}

condemn_ends : (at : ℕ) (answer : CondemnAnswer) → is_after_uncorrectable at (kind_of_condemn at answer) ≡ true
condemn_ends at (Changed row) = eq-eqb at at refl
condemn_ends at Condemned = eq-eqb at at refl

condemn_keeps : (tag : Tag) (at : ℕ) (answer : CondemnAnswer) → KeepsLooks tag (kind_of_condemn at answer)
condemn_keeps tag at (Changed row) now looks = refl
condemn_keeps tag at Condemned now looks = refl

pub fit_condemn : (shape : Shape) (session : ℕ) (map : PageMap) (blocks : Superblocks) (looks : List (Tag × Look)) (history : HistoryState) (look : Look) (tag : Tag) (at : ℕ) (answer : CondemnAnswer)
    → FitTogether shape session map blocks looks history → IsSome (look_at looks at) → IsFalse (ends_uncorrectable history.past at)
    → FitTogether shape session (record map { rows = rows_after_condemn map.rows look answer }) blocks looks
    (record history { past = entry_of tag (kind_of_condemn at answer) ∷ history.past })
fit_condemn shape session map blocks looks history look tag at answer fit some none =
    by_answer answer
    (used_longer shape.rows history looks tag (kind_of_condemn at answer) at (condemn_keeps tag at answer)
    (uncorrectable_uses history.past (entry_of tag (kind_of_condemn at answer)) at (condemn_ends at answer) none) some
    (looks_of_tables shape session map blocks looks history fit))
  where
    by_answer : (answer : CondemnAnswer) → IsLonger shape.rows history looks (record history { past = entry_of tag (kind_of_condemn at answer) ∷ history.past })
        → FitTogether shape session (record map { rows = rows_after_condemn map.rows look answer }) blocks looks
        (record history { past = entry_of tag (kind_of_condemn at answer) ∷ history.past })
    by_answer (Changed row) longer = fit_history shape session map blocks looks history looks _ fit longer
    by_answer Condemned longer =
        fit_history shape session _ blocks looks history looks _ (fit_row shape session map blocks looks history look.row Row.Lost fit tt) longer

pub condemned_tables : (shape : Shape) (session : ℕ) (map : PageMap) (blocks : Superblocks) (looks : List (Tag × Look)) (history : HistoryState) (look : Look) (tag : Tag) (at : ℕ) (answer : CondemnAnswer)
    → look_of history.past at ≡ Some look
    → tables_of shape session (record map { rows = rows_after_condemn map.rows look answer }) blocks looks
    (record history { past = entry_of tag (kind_of_condemn at answer) ∷ history.past })
    ≡ tables_after (tables_of shape session map blocks looks history) tag (kind_of_condemn at answer)
condemned_tables shape session map blocks looks history look tag at (Changed row) found = refl
condemned_tables shape session map blocks looks history look tag at Condemned found =
    λ i. record {
      shape = shape;
      session = session;
      limit = history.limit;
      rows = rows_after (option_map (λ (l : Look). (l.row, Row.Lost)) (sym found i)) map.rows;
      blocks = blocks.blocks;
      looks = looks;
      past = entry_of tag (Kind.Condemn at) ∷ history.past;
      room = history.room;
    }
