-- The rows of open looks name other slots, once they were written or trimmed.
use Rattle.std.proofs.Common.{◌≡◌, ◌≢◌, ℕ, suc, ◌<◌, ◌≤◌, ◌==◌, nat_lt, ◌&&◌, ◌||◌, Bool, true, false, List, [], ◌∷◌, length, refl, ap, Option, Some, None, arith, All}
use Rattle.std.specs.Prelude.{IfSome, IsTrue, IsSomeAnd, cond, count_by, find, option_map}
use Rattle.std.proofs.lemmas.Bool.Decides.{nat_tests}
use Rattle.std.proofs.lemmas.List.Elements.{All-nil, All-cons, All-head, All-tail, All-append}
use Rattle.ssd_geo.specs.declared.base.ChannelBase.{ChannelBase}
use Rattle.ssd_geo.specs.declared.entry.Entry.{Entry}
use Rattle.ssd_geo.specs.declared.kind.Kind.{Kind}
use Rattle.ssd_geo.specs.declared.look.Look.{Look}
use Rattle.ssd_geo.specs.declared.row.Row.{Row}
use Rattle.ssd_geo.specs.declared.slot.Slot.{Slot}
use Rattle.ssd_geo.specs.declared.tag.Tag.{Tag}
use Rattle.ssd_histories.specs.History.{is_same_tag, look_by, look_of, open_look, open_looks}
use Rattle.ssd_geo.specs.Ladder.{LadderState}
use Rattle.ssd_histories.specs.Lawful.{IsLawfulKind, IsLawfulMove, page_looked_at}
use Rattle.ssd_histories.specs.LookLaws.{CopiesAreFresh, ErasesSpareLooks, NamesOther, RewrittenRowsDiffer, StandsInUsed, is_erase_or_bad_erase_of, is_rewrite, is_rewritten}
use Rattle.ssd_histories.specs.OpenLooks.{began_at, look_at, stands_in}
use Rattle.ssd_histories.specs.PastBlocks.{used_of}
use Rattle.ssd_histories.specs.PastRows.{row_after, row_of, serial_of}
use Rattle.ssd_histories.specs.Ranges.{has_slot, is_in_range}
use Rattle.ssd_histories.specs.Room.{next_slot}
use Rattle.ssd_histories.proofs.OpenLookLaws.{all_left, all_uncounted, open_looks_stand}
use Rattle.ssd_histories.proofs.UsedSlots.{made, next_is_used, of_some, second_holds, slot_in_range}

-- what a row holds isn't a page in a slot, whatever its serial
abbrev Differs : Row → Slot → Type 0
Differs row slot = (serial : ℕ) → row ≢ Row.Page slot serial

empty_differs : (slot : Slot) → Differs Row.Empty slot
empty_differs slot serial e = grind arith

lost_differs : (slot : Slot) → Differs Row.Lost slot
lost_differs slot serial e = grind arith

-- the slot of a page
abbrev slot_or : Slot → Row → Slot
slot_or other (Row.Page slot serial) = slot
slot_or other Row.Empty = other
slot_or other Row.Lost = other

-- the next slot isn't one that a look stands in
next_differs : (base : ChannelBase) (past : List Entry) (slot held : Slot) (serial : ℕ) → next_slot base past ≡ Some slot → has_slot base.shape slot ≡ true
    → held.index < used_of base past held.sb → Differs (Row.Page slot serial) held
next_differs base past slot held serial next range used other e =
    let same : slot ≡ held = ap {B = Slot} (slot_or held) e in
    let index : slot.index ≡ held.index = ap {B = ℕ} (λ (s : Slot). s.index) same in
    let count : used_of base past slot.sb ≡ used_of base past held.sb = ap {B = ℕ} (λ (s : Slot). used_of base past s.sb) same in
    omega (arith, index, count, next_is_used base past slot next (slot_in_range base.shape slot range))

-- a row that may have changed differs where both what it changed to and what it held do
changed_differs : (b : Bool) (to before : Row) (slot : Slot) → Differs to slot → Differs before slot → Differs (elim b [ true ↦ to | false ↦ before ]) slot
changed_differs true to before slot h g = h
changed_differs false to before slot h g = g

-- the same where what it held need differ only if the row had been written or trimmed before
rewritten_differs : (b late old : Bool) (to before : Row) (slot : Slot) → Differs to slot → (IsTrue old → Differs before slot)
    → IsTrue (b && late || old) → Differs (elim b [ true ↦ to | false ↦ before ]) slot
rewritten_differs true late old to before slot h g t = h
rewritten_differs false late old to before slot h g t = g t

-- a row that the change of a look's row may have changed
look_differs : (o : Option Look) (to : Look → Row) (row : ℕ) (before : Row) (slot : Slot) → ((look : Look) → Differs (to look) slot) → Differs before slot
    → Differs (row_after (option_map (λ look. (look.row, to look)) o) row before) slot
look_differs None to row before slot h g = g
look_differs (Some look) to row before slot h g = changed_differs (look.row == row) (to look) before slot (h look) g

-- the row of an open look after one more entry
pin_step : (state : ℕ → LadderState) (base : ChannelBase) (past : List Entry) (tag : Tag) (kind : Kind) → is_in_range base.shape kind ≡ true
    → IsLawfulKind state base past tag kind → (pin : Tag × Look) → StandsInUsed base past pin → NamesOther base past pin → NamesOther base (made tag kind ∷ past) pin
pin_step state base past tag (Kind.Write named slot) range c pin u q =
    rewritten_differs (named == pin.1.row) (nat_lt pin.1.at (length past)) (is_rewritten pin.1.row pin.1.at past)
    (Row.Page slot (serial_of base.session tag)) (row_of base past pin.1.row) pin.1.slot
    (next_differs base past slot pin.1.slot (serial_of base.session tag) c.is_programmed.is_next
    (second_holds (nat_lt named base.shape.rows) (has_slot base.shape slot) range) u) q
pin_step state base past tag (Kind.Trim named) range c pin u q =
    rewritten_differs (named == pin.1.row) (nat_lt pin.1.at (length past)) (is_rewritten pin.1.row pin.1.at past) Row.Empty
    (row_of base past pin.1.row) pin.1.slot (empty_differs pin.1.slot) q
pin_step state base past tag (Kind.Move at slot) range c pin u q = λ t.
    look_differs (look_of past at) (λ look. Row.Page slot look.serial) pin.1.row (row_of base past pin.1.row) pin.1.slot
    (λ look. next_differs base past slot pin.1.slot look.serial
    (of_some (open_look past tag at) (λ found. IsLawfulMove (state at) base past found slot) (λ found move. move.is_programmed.is_next) c) range u) (q t)
pin_step state base past tag (Kind.Condemn at) range c pin u q = λ t.
    look_differs (look_of past at) (λ look. Row.Lost) pin.1.row (row_of base past pin.1.row) pin.1.slot (λ look. lost_differs pin.1.slot) (q t)
pin_step state base past tag kind range c pin u q = q

-- nothing of a past stands after its end
not_rewritten : (row at : ℕ) (past : List Entry) → length past ≤ at → is_rewritten row at past ≡ false
not_rewritten row at [] h = refl
not_rewritten row at (entry ∷ past) h =
    none (is_rewrite row entry.kind) (nat_lt at (length past)) (is_rewritten row at past) (late at (length past) h) (not_rewritten row at past (omega arith))
  where
    late : (a n : ℕ) → suc n ≤ a → nat_lt a n ≡ false
    late a n h = grind (arith, nat_tests)

    none : (b l r : Bool) → l ≡ false → r ≡ false → (b && l || r) ≡ false
    none true l r e f = rw (e, f) refl
    none false l r e f = f

-- two facts of each item give another
pub all_by_two : {X : Type 0} (P Q R : X → Type 0) → ((x : X) → P x → Q x → R x) → (xs : List X) → All P xs → All Q xs → All R xs
all_by_two P Q R f [] h g = All-nil R
all_by_two P Q R f (x ∷ xs) h g =
    All-cons R x xs (f x (All-head P x xs h) (All-head Q x xs g)) (all_by_two P Q R f xs (All-tail P x xs h) (All-tail Q x xs g))

-- the rows of all open looks after one more entry
rows_step : (state : ℕ → LadderState) (base : ChannelBase) (past : List Entry) (tag : Tag) (kind : Kind) → is_in_range base.shape kind ≡ true
    → IsLawfulKind state base past tag kind → All (StandsInUsed base past) (open_looks past) → All (NamesOther base past) (open_looks past)
    → All (NamesOther base (made tag kind ∷ past)) (open_looks (made tag kind ∷ past))
rows_step state base past tag (Kind.Look row (Row.Page slot serial) closed) range c u q =
    let after : Tag × Look → Type 0 = NamesOther base (made tag (Kind.Look row (Row.Page slot serial) closed) ∷ past) in
    All-append after (open_looks past)
    ((tag, record { at = length past; row = row; slot = slot; serial = serial; closed = closed }) ∷ []) q
    (All-cons after (tag, record { at = length past; row = row; slot = slot; serial = serial; closed = closed }) []
    (λ t other e. absurd (never (is_rewritten row (length past) past) (not_rewritten row (length past) past (omega arith)) t)) (All-nil after))
  where
    never : (b : Bool) → b ≡ false → b ≡ true → ⊥
    never b e t = grind arith
rows_step state base past tag (Kind.Leave left) range c u q =
    all_left (NamesOther base (made tag (Kind.Leave left) ∷ past)) (open_looks past) left q
rows_step state base past tag kind range c u q =
    all_by_two (StandsInUsed base past) (NamesOther base past) (NamesOther base (made tag kind ∷ past)) (pin_step state base past tag kind range c)
    (open_looks past) u q

pub rewritten_rows_differ : RewrittenRowsDiffer
rewritten_rows_differ ladder base [] start lawful = All-nil (NamesOther base [])
rewritten_rows_differ ladder base (entry ∷ past) start lawful =
    rows_step (ladder past) base past entry.tag entry.kind lawful.1.in_range lawful.1.meets (open_looks_stand ladder base past start lawful.0)
    (rewritten_rows_differ ladder base past start lawful.0)

-- what holds of any item holds of each of a list
all_of : (P : Tag × Look → Type 0) → ((pin : Tag × Look) → P pin) → (pins : List (Tag × Look)) → All P pins
all_of P f [] = All-nil P
all_of P f (pin ∷ pins) = All-cons P pin pins (f pin) (all_of P f pins)

found_or : (b : Bool) (pin : Tag × Look) (rest : Option (Tag × Look)) (Q : Option (Tag × Look) → Type 0) → Q (Some pin) → Q rest → Q (cond b (Some pin) rest)
found_or true pin rest Q h r = h
found_or false pin rest Q h r = r

-- what is found in a list has what each item has
of_found : (p : Tag × Look → Bool) (P : Tag × Look → Type 0) (pins : List (Tag × Look)) (Q : Option (Tag × Look) → Type 0) → Q None
    → ((pin : Tag × Look) → P pin → Q (Some pin)) → All P pins → Q (find p pins)
of_found p P [] Q none some h = none
of_found p P (pin ∷ pins) Q none some h =
    found_or (p pin) pin (find p pins) Q (some pin (All-head P pin pins h)) (of_found p P pins Q none some (All-tail P pin pins h))

-- an open look whose row is as it found it wasn't rewritten
unchanged_is_fresh : (base : ChannelBase) (past : List Entry) (pin : Tag × Look) → NamesOther base past pin
    → row_of base past pin.1.row ≡ page_looked_at pin.1 → is_rewritten pin.1.row pin.1.at past ≡ false
unchanged_is_fresh base past pin other same = fresh (is_rewritten pin.1.row pin.1.at past) (λ t. other t pin.1.serial same)
  where
    fresh : (b : Bool) → (b ≡ true → ⊥) → b ≡ false
    fresh true h = absurd (h refl)
    fresh false h = refl

-- what a lawful copy says of its look gives that its row wasn't rewritten
fresh_copy : (state : LadderState) (base : ChannelBase) (past : List Entry) (tag : Tag) (slot : Slot) (found : Option (Tag × Look))
    → IfSome found (NamesOther base past) → IsSomeAnd (look_by tag found) (λ look. IsLawfulMove state base past look slot)
    → IsSomeAnd (look_by tag found) (λ look. is_rewritten look.row look.at past ≡ false)
fresh_copy state base past tag slot None h c = c
fresh_copy state base past tag slot (Some pin) h c = by_tag (is_same_tag tag pin.0) c
  where
    by_tag : (b : Bool) → IsSomeAnd (elim b as (λ x. Option Look) [ true ↦ Some pin.1 | false ↦ None ]) (λ look. IsLawfulMove state base past look slot)
        → IsSomeAnd (elim b as (λ x. Option Look) [ true ↦ Some pin.1 | false ↦ None ]) (λ look. is_rewritten look.row look.at past ≡ false)
    by_tag true move = unchanged_is_fresh base past pin h move.may_copy.is_unchanged
    by_tag false move = move

pub copies_are_fresh : CopiesAreFresh
copies_are_fresh ladder base past tag at slot start lawful =
    fresh_copy (ladder past at) base past tag slot (look_at (open_looks past) at)
    (of_found (began_at at) (NamesOther base past) (open_looks past) (λ found. IfSome found (NamesOther base past))
    tt (λ pin h. h) (rewritten_rows_differ ladder base past start lawful.0))
    lawful.1.meets

-- no look stands in a superblock that an entry erases
spares : (sb : ℕ) (pins : List (Tag × Look)) → count_by (stands_in sb) pins ≡ 0 → All (λ pin. (sb == pin.1.slot.sb) ≡ false) pins
spares sb pins e =
    all_uncounted (stands_in sb) (λ pin. Unit {0}) (λ pin. (sb == pin.1.slot.sb) ≡ false) (λ pin no t. turned pin.1.slot.sb sb no) pins e
    (all_of (λ pin. Unit {0}) (λ pin. tt) pins)
  where
    turned : (a b : ℕ) → (a == b) ≡ false → (b == a) ≡ false
    turned a b e = grind (arith, nat_tests)

erase_spares : (state : ℕ → LadderState) (base : ChannelBase) (past : List Entry) (tag : Tag) (kind : Kind) → IsLawfulKind state base past tag kind
    → All (λ pin. is_erase_or_bad_erase_of pin.1.slot.sb kind ≡ false) (open_looks past)
erase_spares state base past tag (Kind.Erase sb) c = spares sb (open_looks past) c.may_erase.no_pin
erase_spares state base past tag (Kind.BadErase sb die fault) c = spares sb (open_looks past) c.may_erase.no_pin
erase_spares state base past tag kind c = all_of (λ pin. is_erase_or_bad_erase_of pin.1.slot.sb kind ≡ false) (λ pin. refl) (open_looks past)

pub erases_spare_looks : ErasesSpareLooks
erases_spare_looks ladder base entry past lawful = erase_spares (ladder past) base past entry.tag entry.kind lawful.1.meets
