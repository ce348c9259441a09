-- What open looks hold fast: the proofs of the laws of specs/LookLaws.antt.
use Rattle.std.proofs.Common.{◌≡◌, ℕ, ◌<◌, ◌≤◌, ◌==◌, nat_lt, cond, Bool, true, false, List, [], ◌∷◌, length, sym, subst, arith, All}
use Rattle.std.specs.Prelude.{count_by}
use Rattle.std.proofs.lemmas.Bool.Decides.{nat_tests}
use Rattle.std.proofs.lemmas.List.Elements.{All-nil, All-cons, All-head, All-tail, All-append}
use Rattle.std.proofs.lemmas.List.Sums.{sum_by-cons}
use Rattle.ssd_geo.specs.declared.base.ChannelBase.{ChannelBase}
use Rattle.ssd_geo.specs.declared.entry.Entry.{Entry}
use Rattle.ssd_geo.specs.declared.kind.Kind.{Kind}
use Rattle.ssd_geo.specs.declared.look.Look.{Look}
use Rattle.ssd_geo.specs.declared.row.Row.{Row}
use Rattle.ssd_geo.specs.declared.tag.Tag.{Tag}
use Rattle.ssd_histories.specs.History.{open_looks}
use Rattle.ssd_geo.specs.Ladder.{LadderState}
use Rattle.ssd_histories.specs.Lawful.{IsLawfulKind}
use Rattle.ssd_histories.specs.LookLaws.{NamesUsed, StandsInUsed, LawfulRowsNameUsed, OpenLooksStand}
use Rattle.ssd_histories.specs.OpenLooks.{began_at, stands_in, without_look}
use Rattle.ssd_histories.specs.PastBlocks.{used_of}
use Rattle.ssd_histories.specs.PastRows.{row_of}
use Rattle.ssd_histories.specs.Ranges.{has_row, is_in_range}
use Rattle.ssd_histories.proofs.UsedSlots.{cond_zero, first_holds, made, row_step, used_kept}

-- a fact of each item gives another
all_more : {X : Type 0} (P Q : X → Type 0) → ((x : X) → P x → Q x) → (xs : List X) → All P xs → All Q xs
all_more P Q f [] h = All-nil Q
all_more P Q f (x ∷ xs) h = All-cons Q x xs (f x (All-head P x xs h)) (all_more P Q f xs (All-tail P x xs h))

-- a fact of each open look is one of each that is left
all_left_if : (P : Tag × Look → Type 0) (b : Bool) (pin : Tag × Look) (pins rest : List (Tag × Look)) → P pin → All P pins → All P rest → All P (cond b pins (pin ∷ rest))
all_left_if P true pin pins rest p h r = h
all_left_if P false pin pins rest p h r = All-cons P pin rest p r

pub all_left : (P : Tag × Look → Type 0) (pins : List (Tag × Look)) (at : ℕ) → All P pins → All P (without_look pins at)
all_left P [] at h = h
all_left P (pin ∷ pins) at h =
    all_left_if P (began_at at pin) pin pins (without_look pins at) (All-head P pin pins h) (All-tail P pin pins h) (all_left P pins at (All-tail P pin pins h))

-- a fact of each item of a list in which none is counted gives another
pub all_uncounted : {X : Type 0} (p : X → Bool) (P Q : X → Type 0) → ((x : X) → p x ≡ false → P x → Q x) → (xs : List X) → count_by p xs ≡ 0 → All P xs → All Q xs
all_uncounted p P Q f [] e h = All-nil Q
all_uncounted p P Q f (x ∷ xs) e h =
    All-cons Q x xs
    (f x (cond_zero (p x) (omega (arith, sum_by-cons (λ y. cond (p y) 1 0) x xs))) (All-head P x xs h))
    (all_uncounted p P Q f xs (omega (arith, sum_by-cons (λ y. cond (p y) 1 0) x xs)) (All-tail P x xs h))

-- a look stands in a used slot where no fewer slots of its superblock are used
stands_more : (base : ChannelBase) (before after : List Entry) (pin : Tag × Look) → used_of base before pin.1.slot.sb ≤ used_of base after pin.1.slot.sb
    → StandsInUsed base before pin → StandsInUsed base after pin
stands_more base before after pin le h = omega arith

-- the open looks of a past stand in used slots after one more entry that erases nothing
all_kept : (base : ChannelBase) (past : List Entry) (entry : Entry) → ((sb : ℕ) → used_of base past sb ≤ used_of base (entry ∷ past) sb)
    → (pins : List (Tag × Look)) → All (StandsInUsed base past) pins → All (StandsInUsed base (entry ∷ past)) pins
all_kept base past entry le pins h =
    all_more (StandsInUsed base past) (StandsInUsed base (entry ∷ past)) (λ pin u. stands_more base past (entry ∷ past) pin (le pin.1.slot.sb) u) pins h

-- the same after the erase of a superblock in which none of them stands
all_kept_in : (base : ChannelBase) (past : List Entry) (entry : Entry) (erased : ℕ) → ((sb : ℕ) → (erased == sb) ≡ false → used_of base past sb ≤ used_of base (entry ∷ past) sb)
    → (pins : List (Tag × Look)) → count_by (stands_in erased) pins ≡ 0 → All (StandsInUsed base past) pins → All (StandsInUsed base (entry ∷ past)) pins
all_kept_in base past entry erased le pins e h =
    all_uncounted (stands_in erased) (StandsInUsed base past) (StandsInUsed base (entry ∷ past))
    (λ pin no u. stands_more base past (entry ∷ past) pin (le pin.1.slot.sb (other_way pin.1.slot.sb erased no)) u) pins e h
  where
    other_way : (a b : ℕ) → (a == b) ≡ false → (b == a) ≡ false
    other_way a b e = grind (arith, nat_tests)

-- the open looks stand in used slots after one more entry, where they did before
pins_step : (state : ℕ → LadderState) (base : ChannelBase) (past : List Entry) (tag : Tag) (kind : Kind) → is_in_range base.shape kind ≡ true
    → IsLawfulKind state base past tag kind → ((row : ℕ) → row < base.shape.rows → NamesUsed base past (row_of base past row))
    → All (StandsInUsed base past) (open_looks past) → All (StandsInUsed base (made tag kind ∷ past)) (open_looks (made tag kind ∷ past))
pins_step state base past tag (Kind.Look row (Row.Page slot serial) closed) range c rows h =
    All-append (StandsInUsed base (made tag (Kind.Look row (Row.Page slot serial) closed) ∷ past)) (open_looks past)
    ((tag, look) ∷ []) h
    (All-cons (StandsInUsed base (made tag (Kind.Look row (Row.Page slot serial) closed) ∷ past)) (tag, look) [] stands
    (All-nil (StandsInUsed base (made tag (Kind.Look row (Row.Page slot serial) closed) ∷ past))))
  where
    look : Look
    look = record { at = length past; row = row; slot = slot; serial = serial; closed = closed }

    in_rows : row < base.shape.rows
    in_rows = row_in_range row base.shape.rows (first_holds (nat_lt row base.shape.rows) (has_row base.shape (Row.Page slot serial)) range)
      where
        row_in_range : (a b : ℕ) → nat_lt a b ≡ true → a < b
        row_in_range a b e = grind (arith, nat_tests)

    stands : slot.index < used_of base past slot.sb
    stands = subst (NamesUsed base past) (sym c.is_found) (rows row in_rows)
pins_step state base past tag (Kind.Leave left) range c rows h =
    all_left (StandsInUsed base (made tag (Kind.Leave left) ∷ past)) (open_looks past) left h
pins_step state base past tag (Kind.Erase erased) range c rows h =
    all_kept_in base past (made tag (Kind.Erase erased)) erased (λ sb e. used_kept sb (Kind.Erase erased) (used_of base past sb) e)
    (open_looks past) c.may_erase.no_pin h
pins_step state base past tag (Kind.BadErase erased die fault) range c rows h =
    all_kept_in base past (made tag (Kind.BadErase erased die fault)) erased
    (λ sb e. used_kept sb (Kind.BadErase erased die fault) (used_of base past sb) e) (open_looks past) c.may_erase.no_pin h
pins_step state base past tag kind range c rows h =
    all_kept base past (made tag kind) (λ sb. used_kept sb kind (used_of base past sb) tt) (open_looks past) h

pub rows_name_used : LawfulRowsNameUsed
rows_name_used ladder base [] start lawful row lt = start row
rows_name_used ladder base (entry ∷ past) start lawful row lt =
    row_step (ladder past) base past entry.tag entry.kind lawful.1.in_range lawful.1.meets row lt (rows_name_used ladder base past start lawful.0 row lt)

pub open_looks_stand : OpenLooksStand
open_looks_stand ladder base [] start lawful = All-nil (StandsInUsed base [])
open_looks_stand ladder base (entry ∷ past) start lawful =
    pins_step (ladder past) base past entry.tag entry.kind lawful.1.in_range lawful.1.meets (λ row lt. rows_name_used ladder base past start lawful.0 row lt)
    (open_looks_stand ladder base past start lawful.0)
