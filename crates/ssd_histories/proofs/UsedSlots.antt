-- Rows and open looks stand in used slots, and an open look's slot isn't used again.
use Rattle.std.proofs.Common.{◌≡◌, ℕ, zero, suc, ◌+◌, ◌<◌, ◌≤◌, ◌==◌, nat_lt, ◌&&◌, cond, Bool, true, false, List, ◌∷◌, map, refl, ap, sym, ◌∙◌, Option, Some, None, arith}
use Rattle.std.specs.Prelude.{IsSomeAnd, if◌then◌else◌, count_by, unwrap_or, option_map}
use Rattle.std.specs.List.{range_with_len}
use Rattle.std.proofs.lemmas.Bool.Decides.{nat_tests}
use Rattle.std.proofs.lemmas.List.FromFn.{get_or-map-range_with_len}
use Rattle.std.proofs.lemmas.List.Sums.{sum_by-cons}
use Rattle.ssd_geo.specs.declared.base.BlockBase.{BlockBase}
use Rattle.ssd_geo.specs.declared.base.ChannelBase.{ChannelBase}
use Rattle.ssd_geo.specs.declared.entry.Entry.{Entry}
use Rattle.ssd_geo.specs.declared.kind.Kind.{Kind}
use Rattle.ssd_geo.specs.declared.look.Look.{Look}
use Rattle.ssd_geo.specs.declared.row.Row.{Row}
use Rattle.ssd_geo.specs.declared.slot.Slot.{Slot}
use Rattle.ssd_geo.specs.declared.superblock.SbState.{SbState}
use Rattle.ssd_geo.specs.declared.tag.Tag.{Tag}
use Rattle.ssd_histories.specs.Blocks as Blocks
use Rattle.ssd_histories.specs.Blocks.{has_due_used}
use Rattle.ssd_histories.specs.History.{look_of, open_look}
use Rattle.ssd_geo.specs.Ladder.{LadderState}
use Rattle.ssd_histories.specs.Lawful.{IsLawfulKind, IsLawfulMove}
use Rattle.ssd_histories.specs.LookLaws.{NamesUsed}
use Rattle.ssd_histories.specs.PageMap.{names_superblock}
use Rattle.ssd_histories.specs.Ranges.{has_slot, is_in_range}
use Rattle.ssd_geo.specs.declared.shape.Shape.{Shape}
use Rattle.ssd_histories.specs.PastBlocks.{block_of, blocks_of, used_after, used_of}
use Rattle.ssd_histories.specs.PastRows.{row_after, row_of, serial_of}
use Rattle.ssd_histories.specs.Room.{live_of, next_slot}

-- no superblock has more slots used than it has
pub due_used : (slots : ℕ) (state : SbState) (used : ℕ) → has_due_used slots state used ≡ true → used ≤ slots
due_used slots SbState.Free used e = grind (arith, nat_tests)
due_used slots SbState.Frontier used e = grind (arith, nat_tests)
due_used slots SbState.Sealed used e = grind (arith, nat_tests)
due_used slots SbState.Bad used e = grind (arith, nat_tests)
due_used slots SbState.Victim used e = grind (arith, nat_tests)

-- an entry doesn't erase a superblock
abbrev pub Keeps : ℕ → Kind → Type 0
Keeps sb (Kind.Erase named) = (named == sb) ≡ false
Keeps sb (Kind.BadErase named die fault) = (named == sb) ≡ false
Keeps sb _ = Unit {0}

erased_kept : (b : Bool) (used : ℕ) → b ≡ false → used ≤ (if b then 0 else used)
erased_kept b used e = rw e (omega arith)

more_kept : (b : Bool) (used : ℕ) → used ≤ (if b then used + 1 else used)
more_kept true used = omega arith
more_kept false used = omega arith

-- no fewer slots are used after one that doesn't
pub used_kept : (sb : ℕ) (kind : Kind) (used : ℕ) → Keeps sb kind → used ≤ used_after sb kind used
used_kept sb (Kind.Erase named) used h = erased_kept (named == sb) used h
used_kept sb (Kind.BadErase named die fault) used h = erased_kept (named == sb) used h
used_kept sb (Kind.Write row slot) used h = more_kept (slot.sb == sb) used
used_kept sb (Kind.Move at slot) used h = more_kept (slot.sb == sb) used
used_kept sb kind used h = omega arith

-- a superblock of the channel, among all of them
pub block_is : (base : ChannelBase) (past : List Entry) (sb : ℕ) → sb < base.shape.superblocks → Blocks.block_at (blocks_of base past) sb ≡ block_of base past sb
block_is base past sb h = get_or-map-range_with_len (block_of base past) 0 base.shape.superblocks sb sb Blocks.blank_block h (omega arith)

some_slot : (blocks : List BlockBase) (o : Option ℕ) (slot : Slot) → Blocks.slot_in blocks o ≡ Some slot → slot.index ≡ (Blocks.block_at blocks slot.sb).used
some_slot blocks None slot e = absurd (grind arith)
some_slot blocks (Some sb) slot e =
    let same : Blocks.slot_after_used blocks sb ≡ slot = ap {B = Slot} (λ (o : Option Slot). unwrap_or o slot) e in
    let number : sb ≡ slot.sb = ap {B = ℕ} (λ (s : Slot). s.sb) same in
    let index : (Blocks.block_at blocks sb).used ≡ slot.index = ap {B = ℕ} (λ (s : Slot). s.index) same in
    sym index ∙ ap {B = ℕ} (λ (n : ℕ). (Blocks.block_at blocks n).used) number

-- the next slot is the first one of its superblock that isn't used
pub next_is_used : (base : ChannelBase) (past : List Entry) (slot : Slot) → next_slot base past ≡ Some slot → slot.sb < base.shape.superblocks → slot.index ≡ used_of base past slot.sb
next_is_used base past slot e h =
    let used : (Blocks.block_at (blocks_of base past) slot.sb).used ≡ used_of base past slot.sb =
    ap {B = ℕ} (λ (block : BlockBase). block.used) (block_is base past slot.sb h) in
    some_slot (blocks_of base past) (Blocks.next_superblock (blocks_of base past)) slot e ∙ used

pub other_block : (sb erased : ℕ) → (sb == erased) ≡ false → (erased == sb) ≡ false
other_block sb erased e = grind (arith, nat_tests)

-- a row that names a used slot still does where no fewer slots of its superblock are used
names_kept : (base : ChannelBase) (before after : List Entry) (row : Row) → ((sb : ℕ) → used_of base before sb ≤ used_of base after sb) → NamesUsed base before row → NamesUsed base after row
names_kept base before after Row.Empty le h = h
names_kept base before after Row.Lost le h = h
names_kept base before after (Row.Page slot serial) le h = omega (arith, le slot.sb)

-- the same where that holds of its superblock alone
names_kept_in : (base : ChannelBase) (before after : List Entry) (row : Row) (erased : ℕ) → names_superblock erased row ≡ false
    → ((sb : ℕ) → (erased == sb) ≡ false → used_of base before sb ≤ used_of base after sb) → NamesUsed base before row → NamesUsed base after row
names_kept_in base before after Row.Empty erased e le h = h
names_kept_in base before after Row.Lost erased e le h = h
names_kept_in base before after (Row.Page slot serial) erased e le h = omega (arith, le slot.sb (other_block slot.sb erased e))

-- a slot in range has a superblock of the channel
pub slot_in_range : (shape : Shape) (slot : Slot) → has_slot shape slot ≡ true → slot.sb < shape.superblocks
slot_in_range shape slot e = grind (arith, nat_tests)

-- of two tests that both hold
pub first_holds : (a b : Bool) → (a && b) ≡ true → a ≡ true
first_holds true b e = refl
first_holds false b e = e

pub second_holds : (a b : Bool) → (a && b) ≡ true → b ≡ true
second_holds true b e = e
second_holds false b e = absurd (grind arith)

-- a row after a write or a copy into the next slot
row_named : (base : ChannelBase) (past : List Entry) (entry : Entry) (k row serial : ℕ) (slot : Slot) (before : Row) → slot.index < used_of base (entry ∷ past) slot.sb
    → NamesUsed base (entry ∷ past) before → NamesUsed base (entry ∷ past) (row_after (Some (k, Row.Page slot serial)) row before)
row_named base past entry k row serial slot before lt h = named (k == row)
  where
    named : (b : Bool) → NamesUsed base (entry ∷ past) (elim b [ true ↦ Row.Page slot serial | false ↦ before ])
    named true = lt
    named false = h

-- a row after it was emptied or lost
row_cleared : (base : ChannelBase) (past : List Entry) (k row : ℕ) (to before : Row) → NamesUsed base past to
    → NamesUsed base past before → NamesUsed base past (row_after (Some (k, to)) row before)
row_cleared base past k row to before holds h = cleared (k == row)
  where
    cleared : (b : Bool) → NamesUsed base past (elim b [ true ↦ to | false ↦ before ])
    cleared true = holds
    cleared false = h

-- one more slot of a superblock is used after a program of it
used_more : (slot : Slot) (used : ℕ) → (if slot.sb == slot.sb then used + 1 else used) ≡ used + 1
used_more slot used = grind (arith, nat_tests)

-- a row after the change of a look's row
look_named : (base : ChannelBase) (past : List Entry) (entry : Entry) (o : Option Look) (row : ℕ) (slot : Slot) (before : Row) → slot.index < used_of base (entry ∷ past) slot.sb
    → NamesUsed base (entry ∷ past) before → NamesUsed base (entry ∷ past) (row_after (option_map (λ look. (look.row, Row.Page slot look.serial)) o) row before)
look_named base past entry None row slot before lt h = h
look_named base past entry (Some look) row slot before lt h = row_named base past entry look.row row look.serial slot before lt h

look_lost : (base : ChannelBase) (past : List Entry) (o : Option Look) (row : ℕ) (before : Row)
    → NamesUsed base past before → NamesUsed base past (row_after (option_map (λ look. (look.row, Row.Lost)) o) row before)
look_lost base past None row before h = h
look_lost base past (Some look) row before h = row_cleared base past look.row row Row.Lost before tt h

-- what a fact of some value gives
pub of_some : {Q : Type 0} (o : Option Look) (P : Look → Type 0) → ((look : Look) → P look → Q) → IsSomeAnd o P → Q
of_some None P f h = absurd h
of_some (Some look) P f h = f look h

pub cond_zero : (b : Bool) → ◌≡◌ {A = ℕ} (cond b 1 0) 0 → b ≡ false
cond_zero true e = absurd (omega arith)
cond_zero false e = refl

-- where no item of a list is counted, none passes the test
none_counted : (p : Row → Bool) (f : ℕ → Row) (a n i j : ℕ) → count_by p (map f (range_with_len a n)) ≡ 0 → i < n → a + i ≡ j → p (f j) ≡ false
none_counted p f a zero i j e lt at = absurd (omega arith)
none_counted p f a (suc n) zero j e lt at =
    let here : a ≡ j = omega arith in
    rw (← here) (cond_zero (p (f a)) (omega (arith, sum_by-cons (λ x. cond (p x) 1 0) (f a) (map f (range_with_len (a + 1) n)))))
none_counted p f a (suc n) (suc i) j e lt at =
    none_counted p f (a + 1) n i j (omega (arith, sum_by-cons (λ x. cond (p x) 1 0) (f a) (map f (range_with_len (a + 1) n)))) (omega arith) (omega arith)

pub none_live : (base : ChannelBase) (past : List Entry) (sb row : ℕ) → live_of base past sb ≡ 0 → row < base.shape.rows → names_superblock sb (row_of base past row) ≡ false
none_live base past sb row e lt = none_counted (names_superblock sb) (row_of base past) 0 base.shape.rows row row e lt (omega arith)

-- an entry by its parts
abbrev pub made : Tag → Kind → Entry
made tag kind = record { tag = tag; kind = kind }

-- a program of the next slot makes it a used one
pub programmed_is_used : (base : ChannelBase) (past : List Entry) (slot : Slot) (used : ℕ) → next_slot base past ≡ Some slot → has_slot base.shape slot ≡ true
    → used ≡ (if slot.sb == slot.sb then used_of base past slot.sb + 1 else used_of base past slot.sb) → slot.index < used
programmed_is_used base past slot used next range e =
    omega (arith, e, used_more slot (used_of base past slot.sb), next_is_used base past slot next (slot_in_range base.shape slot range))

-- each row names a used slot after one more entry, where it did before
pub row_step : (state : ℕ → LadderState) (base : ChannelBase) (past : List Entry) (tag : Tag) (kind : Kind) → is_in_range base.shape kind ≡ true
    → IsLawfulKind state base past tag kind → (row : ℕ) → row < base.shape.rows → NamesUsed base past (row_of base past row)
    → NamesUsed base (made tag kind ∷ past) (row_of base (made tag kind ∷ past) row)
row_step state base past tag (Kind.Write named slot) range c row lt h =
    row_named base past (made tag (Kind.Write named slot)) named row (serial_of base.session tag) slot (row_of base past row)
    (programmed_is_used base past slot (used_of base (made tag (Kind.Write named slot) ∷ past) slot.sb) c.is_programmed.is_next
    (second_holds (nat_lt named base.shape.rows) (has_slot base.shape slot) range) refl)
    (names_kept base past (made tag (Kind.Write named slot) ∷ past) (row_of base past row)
    (λ sb. used_kept sb (Kind.Write named slot) (used_of base past sb) tt) h)
row_step state base past tag (Kind.Move at slot) range c row lt h =
    look_named base past (made tag (Kind.Move at slot)) (look_of past at) row slot (row_of base past row)
    (programmed_is_used base past slot (used_of base (made tag (Kind.Move at slot) ∷ past) slot.sb)
    (of_some (open_look past tag at) (λ look. IsLawfulMove (state at) base past look slot) (λ look move. move.is_programmed.is_next) c) range refl)
    (names_kept base past (made tag (Kind.Move at slot) ∷ past) (row_of base past row)
    (λ sb. used_kept sb (Kind.Move at slot) (used_of base past sb) tt) h)
row_step state base past tag (Kind.Trim named) range c row lt h =
    row_cleared base (made tag (Kind.Trim named) ∷ past) named row Row.Empty (row_of base past row) tt
    (names_kept base past (made tag (Kind.Trim named) ∷ past) (row_of base past row) (λ sb. used_kept sb (Kind.Trim named) (used_of base past sb) tt) h)
row_step state base past tag (Kind.Condemn at) range c row lt h =
    look_lost base (made tag (Kind.Condemn at) ∷ past) (look_of past at) row (row_of base past row)
    (names_kept base past (made tag (Kind.Condemn at) ∷ past) (row_of base past row) (λ sb. used_kept sb (Kind.Condemn at) (used_of base past sb) tt) h)
row_step state base past tag (Kind.Erase erased) range c row lt h =
    names_kept_in base past (made tag (Kind.Erase erased) ∷ past) (row_of base past row) erased
    (none_live base past erased row c.may_erase.no_live lt)
    (λ sb e. used_kept sb (Kind.Erase erased) (used_of base past sb) e) h
row_step state base past tag (Kind.BadErase erased die fault) range c row lt h =
    names_kept_in base past (made tag (Kind.BadErase erased die fault) ∷ past) (row_of base past row) erased
    (none_live base past erased row c.may_erase.no_live lt)
    (λ sb e. used_kept sb (Kind.BadErase erased die fault) (used_of base past sb) e) h
row_step state base past tag kind range c row lt h =
    names_kept base past (made tag kind ∷ past) (row_of base past row) (λ sb. used_kept sb kind (used_of base past sb) tt) h
