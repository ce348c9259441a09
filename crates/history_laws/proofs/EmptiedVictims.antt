-- A victim can be emptied: the proofs of the laws of specs/EmptiedVictims.antt on slots.
use Rattle.std.proofs.Common.{◌≡◌, ℕ, ◌*◌, ◌<◌, ◌≤◌, ◌==◌, Bool, true, false, List, get_or, refl, ap, sym, ◌∙◌, subst, Option, Some, None, arith, ◌⊎◌, inl, inr}
use Rattle.std.specs.Prelude.{IsSomeAnd, if◌then◌else◌, is_none, not, unwrap_or}
use Rattle.std.proofs.lemmas.Bool.{or_right}
use Rattle.std.proofs.lemmas.Bool.Decides.{nat_tests}
use Rattle.std.proofs.lemmas.List.Elements.{All-weaker}
use Rattle.std.proofs.lemmas.List.FromFn.{length-map-range_with_len}
use Rattle.std.proofs.lemmas.List.Sums.{get_or-le-sum_by}
use Rattle.std.proofs.lemmas.Nat.{mul-le}
use Rattle.ssd_geo.specs.declared.base.ChannelBase.{ChannelBase}
use Rattle.ssd_geo.specs.declared.entry.Entry.{Entry}
use Rattle.ssd_geo.specs.declared.look.Look.{Look}
use Rattle.ssd_geo.specs.declared.slot.Slot.{Slot}
use Rattle.ssd_histories.specs.Blocks as Blocks
use Rattle.ssd_histories.specs.History.{open_look, open_looks}
use Rattle.ssd_histories.specs.Lawful.{IsLawfulStay, IsUnchanged}
use Rattle.ssd_histories.specs.PageMap.{names_superblock}
use Rattle.ssd_histories.specs.PastBlocks.{blocks_of, slots_in}
use Rattle.ssd_histories.specs.PastRows.{row_of, rows_of}
use Rattle.ssd_histories.specs.Reserve.{has_reserve}
use Rattle.ssd_histories.specs.Room.{count_of_free, has_host_room, is_victim_now, live_of, next_slot, victim_of}
use Rattle.ssd_histories.proofs.OneOfEach.{found_block}
use Rattle.recovery_laws.proofs.Pasts.{StepLook, step_look}
use Rattle.ssd_geo.specs.declared.row.Row.{Row}
use Rattle.history_laws.specs.EmptiedVictims.{CopiesFindSlots, FindsSlotInVictim, NoneStayInVictim, VictimsHaveSlots, slots_to_fill}
use Rattle.history_laws.specs.LivePages.{FitsItsSlots}
use Rattle.history_laws.proofs.Counting.{one, one_true}
use Rattle.history_laws.proofs.FreshestBlocks.{HasNext, room_has_next}
use Rattle.history_laws.proofs.KeptReserve.{is_victim_of}
use Rattle.history_laws.proofs.LivePages.{live_pages_fit}
use Rattle.history_laws.proofs.LooksInRange.{IsOfRow, looks_in_range}
use Rattle.history_laws.proofs.NextSlots.{next_in_range}
use Rattle.history_laws.proofs.ProgrammedBlocks.{FitsVictim, reserve_parts}
use Rattle.history_laws.proofs.VictimPages.{row_is}

-- two superblocks that are the victim are one
one_victim : (o : Option ℕ) (a b : ℕ) → o ≡ Some a → o ≡ Some b → a ≡ b
one_victim o a b h g = ap {B = ℕ} (λ (o : Option ℕ). unwrap_or o a) (sym h ∙ g)

-- slots of some free superblocks are no fewer than those of one
some_free : (slots free : ℕ) → 1 ≤ free → slots ≤ slots * free
some_free slots free some = omega (arith, mul-le slots 1 slots free (omega arith) some, times_one slots)
  where
    times_one : (n : ℕ) → n * 1 ≡ n
    times_one n = grind arith

-- a free superblock has slots for all, and else they fit into the frontier
pub victims_have_slots : VictimsHaveSlots
victims_have_slots ladder start past sb is_start lawful reserve victim =
    by_parts (reserve_parts (slots_in start.base) (blocks_of start.base past) (live_of start.base past) reserve)
  where
    fits : FitsItsSlots start.base past sb
    fits = live_pages_fit ladder start past sb is_start lawful (found_block start.base past Blocks.is_victim_block sb victim).0

    by_parts : (1 ≤ count_of_free start.base past) ⊎ FitsVictim (slots_in start.base) (blocks_of start.base past)
        (live_of start.base past)
        → live_of start.base past sb ≤ slots_to_fill start.base past
    by_parts (inl some) = omega (
      arith,
      fits.live,
      fits.used,
      some_free (slots_in start.base)
          (count_of_free start.base past) some,
    )
    by_parts (inr fit) =
        omega (
          arith,
          fit.fits,
          ap {B = ℕ} (live_of start.base past)
              (one_victim (victim_of start.base past) fit.sb sb fit.is_victim victim),
        )

-- a look in the victim whose row is as it found it is of a live page
live_page : (base : ChannelBase) (past : List Entry) (look : Look) → look.row < base.shape.rows → IsUnchanged base past look
    → 1 ≤ live_of base past look.slot.sb
live_page base past look low same =
    omega (
      arith,
      get_or-le-sum_by (λ (row : Row). one (names_superblock look.slot.sb row)) (rows_of base past) look.row Row.Empty
          (omega (arith, low, length-map-range_with_len (row_of base past) 0 base.shape.rows)),
      one_true (names_superblock look.slot.sb (get_or (rows_of base past) look.row Row.Empty))
          (ap {B = Bool} (names_superblock look.slot.sb) (row_is base past look.row low ∙ same) ∙ itself look.slot.sb),
    )
  where
    itself : (n : ℕ) → (n == n) ≡ true
    itself n = grind (arith, nat_tests)

-- under the reserve there is a next slot for it
pub record IsNext (base : ChannelBase) (past : List Entry) : Type 0 where
  pub slot : Slot
  pub is_next : next_slot base past ≡ Some slot

pub finds_next : (base : ChannelBase) (past : List Entry) (look : Look) → has_reserve base past ≡ true
    → is_victim_now base past look.slot.sb ≡ true
    → look.row < base.shape.rows → IsUnchanged base past look → IsNext base past
finds_next base past look reserve here low same =
    let next : HasNext (blocks_of base past) =
    room_has_next (slots_in base) (blocks_of base past)
    (room (reserve_parts (slots_in base) (blocks_of base past) (live_of base past) reserve)) in
    record {
      slot = Blocks.slot_after_used (blocks_of base past) next.sb;
      is_next = ap {B = Option Slot} (Blocks.slot_in (blocks_of base past)) next.is_next;
    }
  where
    room : (1 ≤ count_of_free base past) ⊎ FitsVictim (slots_in base) (blocks_of base past) (live_of base past)
        → (1 ≤ Blocks.free_blocks_in (blocks_of base past)) ⊎ (1 ≤ Blocks.slots_left (slots_in base) (blocks_of base past))
    room (inl some) = inl some
    room (inr fit) =
        inr (omega (
          arith,
          fit.fits,
          live_page base past look low same,
          ap {B = ℕ} (live_of base past) (one_victim (victim_of base past) fit.sb look.slot.sb fit.is_victim
              (is_victim_of base past look.slot.sb here)),
        ))

-- the copy is lawful there
pub copies_find_slots : CopiesFindSlots
copies_find_slots ladder start past is_start lawful reserve =
    All-weaker (IsOfRow start.base) (λ pin. FindsSlotInVictim (ladder past pin.1.at) start.base past pin.1)
    (λ pin low here recovered same.
    let next : IsNext start.base past = finds_next start.base past pin.1 reserve here low same in
    record {
      slot = next.slot;
      in_range = next_in_range ladder start past next.slot is_start lawful next.is_next;
      is_next = next.is_next;
      takes_copy = λ none_weak. record {
        may_copy = record {
          is_recovered = recovered;
          is_unchanged = same;
          has_room = or_right (has_host_room start.base past) (is_victim_now start.base past pin.1.slot.sb) here;
        };
        is_programmed = record { is_next = next.is_next; none_weak = none_weak };
      };
    })
    (open_looks past) (looks_in_range ladder start.base past lawful)

-- a fact of the look that is there
with_look_there : (o : Option Look) (P : Look → Type 0) → IsSomeAnd o P → IsSomeAnd o (λ look. P look × (o ≡ Some look))
with_look_there None P h = h
with_look_there (Some look) P h = (h, refl)

-- a look that stays found no slot, so it isn't in the victim
pub none_stay_in_victim : NoneStayInVictim
none_stay_in_victim ladder base past tag at worn lawful reserve =
    subst (λ (o : Option Look). IsSomeAnd o (λ look. is_victim_now base past look.slot.sb ≡ false)) (sym step.fact.1)
    (by_test (is_victim_now base past step.pin.1.slot.sb) refl)
  where
    step : StepLook past at (IsOfRow base)
        (λ look. IsLawfulStay (ladder past at) base past look worn × (open_look past tag at ≡ Some look))
    step =
        step_look past tag at (IsOfRow base)
        (λ look. IsLawfulStay (ladder past at) base past look worn × (open_look past tag at ≡ Some look))
        (looks_in_range ladder base past lawful.0)
        (with_look_there (open_look past tag at) (λ look. IsLawfulStay (ladder past at) base past look worn) lawful.1.meets)

    no_slot : (b : Bool) → b ≡ true → (if b then is_none (next_slot base past) else not (has_host_room base past)) ≡ true
        → is_none (next_slot base past) ≡ true
    no_slot true e h = h
    no_slot false e h = absurd (grind arith)

    some_slot : (o : Option Slot) (slot : Slot) → o ≡ Some slot → is_none o ≡ true → ⊥
    some_slot o slot e h = absurd (false_is_true (sym (ap {B = Bool} is_none e) ∙ h))
      where
        false_is_true : false ≡ true → ⊥
        false_is_true f = grind arith

    by_test : (b : Bool) → is_victim_now base past step.pin.1.slot.sb ≡ b → b ≡ false
    by_test true here =
        let next : IsNext base past = finds_next base past step.pin.1 reserve here step.has step.fact.0.is_unchanged in
        absurd (some_slot (next_slot base past) next.slot next.is_next
        (no_slot (is_victim_now base past step.pin.1.slot.sb) here step.fact.0.no_room))
    by_test false there = refl
