-- The page that a row names keeps its word as long as the row names it: no entry programs it again, and none empties it.
use Rattle.std.proofs.Common.{◌≡◌, ◌≢◌, ℕ, ◌<◌, ◌==◌, nat_lt, ◌&&◌, Bool, true, false, List, refl, ap, sym, subst, ◌∙◌, Option, Some, None, arith}
use Rattle.std.specs.Prelude.{option_map}
use Rattle.ssd_geo.specs.Ladder.{LadderState}
use Rattle.ssd_geo.specs.Stripe.{place_of_parity, place_of_slot, stripe_of_index}
use Rattle.ssd_geo.specs.declared.base.ChannelBase.{ChannelBase}
use Rattle.ssd_geo.specs.declared.entry.Entry.{Entry}
use Rattle.ssd_geo.specs.declared.kind.Kind.{Kind}
use Rattle.ssd_geo.specs.declared.place.Place.{Place}
use Rattle.ssd_geo.specs.declared.row.Row.{Row}
use Rattle.ssd_geo.specs.declared.slot.Slot.{Slot}
use Rattle.ssd_geo.specs.declared.tag.Tag.{Tag}
use Rattle.ssd_geo.proofs.Stripes.{places_differ}
use Rattle.ssd_histories.specs.History.{open_look}
use Rattle.ssd_histories.specs.Lawful.{IsLawfulBadCopy, IsLawfulKind, IsLawfulMove}
use Rattle.ssd_histories.specs.LookLaws.{NamesUsed}
use Rattle.ssd_histories.specs.PageMap.{names_superblock}
use Rattle.ssd_histories.specs.PastBlocks.{used_of}
use Rattle.ssd_histories.specs.PastPages.{PageChange, StoredPage, programs, programs_parity, empties, ages, leaves, aged_page, change_by_failed, change_by_program, change_when, page_change, word_of_page}
use Rattle.ssd_histories.specs.PastRows.{row_of}
use Rattle.ssd_histories.specs.Ranges.{has_slot, is_in_range}
use Rattle.ssd_histories.specs.Room.{next_slot}
use Rattle.ssd_histories.proofs.FreshPages.{IsKept, failed_elsewhere, program_elsewhere}
use Rattle.ssd_histories.proofs.FreshSlots.{not_parity}
use Rattle.ssd_histories.proofs.UsedSlots.{first_holds, next_is_used, none_live, of_some, second_holds, slot_in_range}
use Rattle.shared_lemmas.proofs.Tests.{middle_holds}

-- the word of a page under a change that keeps it
pub word_kept : (base : ChannelBase) (change : PageChange) (a : Option StoredPage) (b : Slot → Option StoredPage) (before : Option StoredPage) → IsKept change →
    word_of_page (elim change as (λ x. Option StoredPage) [
      | programs ↦ a
      | programs_parity slot ↦ b slot
      | empties ↦ None
      | ages amount ↦ option_map (aged_page base amount) before
      | leaves ↦ before
    ]) ≡ word_of_page before
word_kept base programs a b before kept = absurd kept
word_kept base (programs_parity slot) a b before kept = absurd kept
word_kept base empties a b before kept = absurd kept
word_kept base (ages amount) a b None kept = refl
word_kept base (ages amount) a b (Some page) kept = refl
word_kept base leaves a b before kept = refl

-- the next slot isn't a used one
used_differs : (base : ChannelBase) (past : List Entry) (slot held : Slot) → next_slot base past ≡ Some slot → has_slot base.shape slot ≡ true →
    held.index < used_of base past held.sb → held ≢ slot
used_differs base past slot held next range used e =
    let index : held.index ≡ slot.index = ap {B = ℕ} (λ (s : Slot). s.index) e in
    let count : used_of base past held.sb ≡ used_of base past slot.sb = ap {B = ℕ} (λ (s : Slot). used_of base past s.sb) e in
    omega (arith, index, count, used, next_is_used base past slot next (slot_in_range base.shape slot range))

-- a program of another slot, whether it fails or not, keeps the page of a slot
program_kept : (dies : ℕ) (slot held : Slot) → 2 < dies → held ≢ slot → IsKept (change_by_program dies slot (place_of_slot dies held))
program_kept dies slot held three other =
    program_elsewhere dies slot (place_of_slot dies held)
    (λ e. other (places_differ dies held slot (omega arith) e))
    (λ last e.
    let blocks : held.sb ≡ slot.sb = ap {B = ℕ} (λ (p : Place). p.sb) e in
    let stripes : stripe_of_index dies held.index ≡ stripe_of_index dies slot.index = ap {B = ℕ} (λ (p : Place). p.page) e in
    let parities : place_of_parity dies slot.sb (stripe_of_index dies slot.index) ≡ place_of_parity dies held.sb (stripe_of_index dies held.index) =
    λ i. place_of_parity dies (sym blocks i) (sym stripes i) in
    not_parity dies held.sb held.index (omega arith) (e ∙ parities))

failed_kept : (dies : ℕ) (slot held : Slot) (die : ℕ) → 2 < dies → held ≢ slot → IsKept (change_by_failed dies slot die (place_of_slot dies held))
failed_kept dies slot held die three other =
    failed_elsewhere dies slot die (place_of_slot dies held) (λ e. other (places_differ dies held slot (omega arith) e))

when_not : (b : Bool) → b ≡ false → IsKept (change_when b empties)
when_not true e = absurd (grind arith)
when_not false e = tt

when_neither : (b d : Bool) → b ≡ false → IsKept (change_when (b && d) empties)
when_neither true d e = absurd (grind arith)
when_neither false d e = tt

when_aged : (b : Bool) (amount : ℕ) → IsKept (change_when b (ages amount))
when_aged true amount = tt
when_aged false amount = tt

module _ (state : ℕ → LadderState) (base : ChannelBase) (past : List Entry) (row : ℕ) (held : Slot) (serial : ℕ) (lt : row < base.shape.rows)
    (is : row_of base past row ≡ Row.Page held serial) (used : NamesUsed base past (Row.Page held serial)) where
  three_dies : 2 < base.shape.dies
  three_dies = omega (arith, base.shape.within.dies_low)

  -- no erase is of a superblock that the row names
  elsewhere : (sb : ℕ) → names_superblock sb (row_of base past row) ≡ false → (held.sb == sb) ≡ false
  elsewhere sb e = subst (λ (r : Row). names_superblock sb r ≡ false) is e

  pub named_kept : (tag : Tag) (kind : Kind) → is_in_range base.shape kind ≡ true → IsLawfulKind state base past tag kind →
      IsKept (page_change base.shape.dies kind (place_of_slot base.shape.dies held))
  named_kept tag (Kind.Write named slot) range c =
      program_kept base.shape.dies slot held three_dies
      (used_differs base past slot held c.is_programmed.is_next (second_holds (nat_lt named base.shape.rows) (has_slot base.shape slot) range) used)
  named_kept tag (Kind.Move at slot) range c =
      program_kept base.shape.dies slot held three_dies
      (used_differs base past slot held
      (of_some (open_look past tag at) (λ look. IsLawfulMove (state at) base past look slot) (λ look move. move.is_programmed.is_next) c) range used)
  named_kept tag (Kind.BadWrite named slot die fault) range c =
      failed_kept base.shape.dies slot held die three_dies
      (used_differs base past slot held c.is_failed.is_next
      (middle_holds (nat_lt named base.shape.rows) (has_slot base.shape slot) (nat_lt die base.shape.dies) range) used)
  named_kept tag (Kind.BadCopy at slot die fault) range c =
      failed_kept base.shape.dies slot held die three_dies
      (used_differs base past slot held
      (of_some (open_look past tag at) (λ look. IsLawfulBadCopy (state at) base past look slot die fault) (λ look copy. copy.is_failed.is_next) c)
      (first_holds (has_slot base.shape slot) (nat_lt die base.shape.dies) range) used)
  named_kept tag (Kind.Erase sb) range c = when_not (held.sb == sb) (elsewhere sb (none_live base past sb row c.may_erase.no_live lt))
  named_kept tag (Kind.BadErase sb die fault) range c =
      when_neither (held.sb == sb) (nat_lt (place_of_slot base.shape.dies held).die die) (elsewhere sb (none_live base past sb row c.may_erase.no_live lt))
  named_kept tag (Kind.Age die sb amount) range c = when_aged ((place_of_slot base.shape.dies held).die == die && held.sb == sb) amount
  named_kept tag kind range c = tt
