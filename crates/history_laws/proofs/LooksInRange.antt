-- Each open look is of a row of the channel.
use Rattle.std.proofs.Common.{◌≡◌, ℕ, ◌<◌, nat_lt, true, List, [], ◌∷◌, length, arith, All}
use Rattle.std.proofs.lemmas.Bool.Decides.{nat_tests}
use Rattle.std.proofs.lemmas.List.Elements.{All-nil, All-cons, All-append}
use Rattle.ssd_geo.specs.Ladder.{LadderState}
use Rattle.ssd_geo.specs.declared.base.ChannelBase.{ChannelBase}
use Rattle.ssd_geo.specs.declared.entry.Entry.{Entry}
use Rattle.ssd_geo.specs.declared.kind.Kind.{Kind}
use Rattle.ssd_geo.specs.declared.look.Look.{Look}
use Rattle.ssd_geo.specs.declared.row.Row.{Row}
use Rattle.ssd_geo.specs.declared.tag.Tag.{Tag}
use Rattle.ssd_histories.specs.History.{open_looks}
use Rattle.ssd_histories.specs.Lawful.{IsLawfulBy}
use Rattle.ssd_histories.specs.Ranges.{has_row, is_in_range}
use Rattle.ssd_histories.proofs.OpenLookLaws.{all_left}
use Rattle.ssd_histories.proofs.UsedSlots.{first_holds, made}

-- a look is of a row of the channel
abbrev pub IsOfRow : ChannelBase → Tag × Look → Type 0
IsOfRow base pin = pin.1.row < base.shape.rows

-- each open look is of one after one more entry
looks_step : (base : ChannelBase) (past : List Entry) (tag : Tag) (kind : Kind) → is_in_range base.shape kind ≡ true
    → All (IsOfRow base) (open_looks past)
    → All (IsOfRow base) (open_looks (made tag kind ∷ past))
looks_step base past tag (Kind.Look row (Row.Page slot serial) closed) range all =
    let look : Look = record { at = length past; row = row; slot = slot; serial = serial; closed = closed } in
    All-append (IsOfRow base) (open_looks past) ((tag, look) ∷ []) all
    (All-cons (IsOfRow base) (tag, look) []
    (row_low row base.shape.rows (first_holds (nat_lt row base.shape.rows)
    (has_row base.shape (Row.Page slot serial)) range))
    (All-nil (IsOfRow base)))
  where
    row_low : (a b : ℕ) → nat_lt a b ≡ true → a < b
    row_low a b e = grind (arith, nat_tests)
looks_step base past tag (Kind.Leave left) range all = all_left (IsOfRow base) (open_looks past) left all
looks_step base past tag kind range all = all

-- and after each lawful past
pub looks_in_range : (ladder : List Entry → ℕ → LadderState) (base : ChannelBase) (past : List Entry)
    → IsLawfulBy ladder base past → All (IsOfRow base) (open_looks past)
looks_in_range ladder base [] lawful = All-nil (IsOfRow base)
looks_in_range ladder base (entry ∷ past) lawful =
    looks_step base past entry.tag entry.kind lawful.1.in_range (looks_in_range ladder base past lawful.0)
