-- No two rows of a lawful past name one slot: a row comes to name only the next slot, which no row named before.
use Rattle.std.proofs.Common.{ℕ, ◌≡◌, ◌==◌, ◌<◌, Bool, true, false, List, [], ◌∷◌, Option, Some, None, refl, sym, ap, ◌∙◌, eqb-true, arith}
use Rattle.std.specs.Prelude.{nat_lt, option_map}
use Rattle.std.proofs.lemmas.Bool.{and_parts, false≢true}
use Rattle.ssd_geo.specs.Ladder.{LadderState}
use Rattle.ssd_histories.specs.History.{look_of, open_look}
use Rattle.ssd_histories.specs.Lawful.{IsLawfulBy, IsLawfulKind, IsLawfulMove}
use Rattle.ssd_histories.specs.LookLaws.{NamesUsed, RowsNameUsed}
use Rattle.ssd_histories.specs.PageMap.{NameApart, is_slot, names_slot}
use Rattle.ssd_histories.specs.PastBlocks.{used_of}
use Rattle.ssd_histories.specs.PastRows.{row_after, row_change, row_of, serial_of}
use Rattle.ssd_histories.specs.Ranges.{has_slot, is_in_range}
use Rattle.ssd_histories.proofs.OpenLookLaws.{rows_name_used}
use Rattle.ssd_histories.proofs.UsedSlots.{next_is_used, of_some, second_holds, slot_in_range}
use Rattle.ssd_geo.specs.declared.base.ChannelBase.{ChannelBase}
use Rattle.ssd_geo.specs.declared.entry.Entry.{Entry}
use Rattle.ssd_geo.specs.declared.kind.Kind.{Kind}
use Rattle.ssd_geo.specs.declared.look.Look.{Look}
use Rattle.ssd_geo.specs.declared.row.Row.{Row}
use Rattle.ssd_geo.specs.declared.slot.Slot.{Slot}
use Rattle.ssd_geo.specs.declared.tag.Tag.{Tag}

-- two rows of a channel that name one slot are one row
abbrev pub RowsApart : ChannelBase → List Entry → Type 0
RowsApart base past =
    (slot : Slot) (row other : ℕ) → row < base.shape.rows → other < base.shape.rows →
    names_slot slot (row_of base past row) ≡ true → names_slot slot (row_of base past other) ≡ true → row ≡ other

module _ (state : ℕ → LadderState) (base : ChannelBase) (past : List Entry) (apart : RowsApart base past)
    (used : (row : ℕ) → row < base.shape.rows → NamesUsed base past (row_of base past row)) where
  -- no row names the next slot
  not_named : (slot new : Slot) (row : Row) → NamesUsed base past row → new.index ≡ used_of base past new.sb →
      is_slot slot new ≡ true → names_slot slot row ≡ true → ⊥
  not_named slot new (Row.Page held serial) low is same named =
      let first = and_parts (slot.sb == new.sb) (slot.index == new.index) same in
      let second = and_parts (slot.sb == held.sb) (slot.index == held.index) named in
      let blocks : held.sb ≡ new.sb = sym (eqb-true slot.sb held.sb second.0) ∙ eqb-true slot.sb new.sb first.0 in
      let indexes : held.index ≡ new.index = sym (eqb-true slot.index held.index second.1)
      ∙ eqb-true slot.index new.index first.1 in
      let counts : used_of base past held.sb ≡ used_of base past new.sb = ap (used_of base past) blocks in
      absurd (omega (arith, low, is, indexes, counts))
  not_named slot new Row.Empty low is same named = false≢true named
  not_named slot new Row.Lost low is same named = false≢true named

  module _ (slot : Slot) (row other : ℕ) (low : row < base.shape.rows) (low_too : other < base.shape.rows) where
    -- a row is programmed, or names nothing any more
    by_program : (new : Slot) (serial changed : ℕ) → new.index ≡ used_of base past new.sb → (here there : Bool) →
        (changed == row) ≡ here → (changed == other) ≡ there →
        names_slot slot (elim here as (λ x. Row) [ true ↦ Row.Page new serial | false ↦ row_of base past row ]) ≡ true →
        names_slot slot (elim there as (λ x. Row) [ true ↦ Row.Page new serial | false ↦ row_of base past other ]) ≡ true →
        row ≡ other
    by_program new serial changed is true true e f p q = sym (eqb-true changed row e) ∙ eqb-true changed other f
    by_program new serial changed is true false e f p q =
        absurd (not_named slot new (row_of base past other) (used other low_too) is p q)
    by_program new serial changed is false true e f p q =
        absurd (not_named slot new (row_of base past row) (used row low) is q p)
    by_program new serial changed is false false e f p q = apart slot row other low low_too p q

    by_clear : (to : Row) → names_slot slot to ≡ false → (here there : Bool) →
        names_slot slot (elim here as (λ x. Row) [ true ↦ to | false ↦ row_of base past row ]) ≡ true →
        names_slot slot (elim there as (λ x. Row) [ true ↦ to | false ↦ row_of base past other ]) ≡ true → row ≡ other
    by_clear to none true there p q = absurd (false≢true (sym none ∙ p))
    by_clear to none false true p q = absurd (false≢true (sym none ∙ q))
    by_clear to none false false p q = apart slot row other low low_too p q

    -- a look's row is
    by_move : (new : Slot) → new.index ≡ used_of base past new.sb → (look : Option Look) →
        names_slot slot (row_after (option_map (λ held. (held.row, Row.Page new held.serial)) look) row (row_of base past row))
        ≡ true →
        names_slot slot (row_after (option_map (λ held. (held.row, Row.Page new held.serial)) look) other
        (row_of base past other)) ≡ true → row ≡ other
    by_move new is None p q = apart slot row other low low_too p q
    by_move new is (Some look) p q =
        by_program new look.serial look.row is (look.row == row) (look.row == other) refl refl p q

    by_loss : (look : Option Look) →
        names_slot slot (row_after (option_map (λ held. (held.row, Row.Lost)) look) row (row_of base past row)) ≡ true →
        names_slot slot (row_after (option_map (λ held. (held.row, Row.Lost)) look) other (row_of base past other)) ≡ true →
        row ≡ other
    by_loss None p q = apart slot row other low low_too p q
    by_loss (Some look) p q = by_clear Row.Lost refl (look.row == row) (look.row == other) p q

    stay_apart : (tag : Tag) (kind : Kind) → is_in_range base.shape kind ≡ true → IsLawfulKind state base past tag kind →
        names_slot slot (row_after (row_change base.session past tag kind) row (row_of base past row)) ≡ true →
        names_slot slot (row_after (row_change base.session past tag kind) other (row_of base past other)) ≡ true → row ≡ other
    stay_apart tag (Kind.Write named new) range law p q =
        by_program new (serial_of base.session tag) named
        (next_is_used base past new law.is_programmed.is_next
        (slot_in_range base.shape new (second_holds (nat_lt named base.shape.rows) (has_slot base.shape new) range)))
        (named == row) (named == other) refl refl p q
    stay_apart tag (Kind.Move at new) range law p q =
        by_move new
        (next_is_used base past new
        (of_some (open_look past tag at) (λ look. IsLawfulMove (state at) base past look new)
        (λ look move. move.is_programmed.is_next) law)
        (slot_in_range base.shape new range)) (look_of past at) p q
    stay_apart tag (Kind.Trim named) range law p q = by_clear Row.Empty refl (named == row) (named == other) p q
    stay_apart tag (Kind.Condemn at) range law p q = by_loss (look_of past at) p q
    stay_apart tag kind range law p q = apart slot row other low low_too p q

pub rows_apart : (ladder : List Entry → ℕ → LadderState) (base : ChannelBase) (past : List Entry) → NameApart base.rows →
    RowsNameUsed base → IsLawfulBy ladder base past → RowsApart base past
rows_apart ladder base [] apart used law slot row other low low_too p q = apart slot row other p q
rows_apart ladder base (entry ∷ past) apart used law slot row other low low_too p q =
    stay_apart (ladder past) base past (rows_apart ladder base past apart used law.0)
    (rows_name_used ladder base past used law.0) slot row other low low_too entry.tag entry.kind law.1.in_range law.1.meets p q
