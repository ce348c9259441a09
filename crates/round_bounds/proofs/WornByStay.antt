-- A copy out of the victim that stays found no slot, so from then on the channel is worn.
use Rattle.std.proofs.Common.{◌≡◌, ℕ, zero, suc, ◌<◌, ◌≤◌, ◌==◌, ◌&&◌, ◌||◌, nat_lt, Bool, true, false, List, ◌∷◌, length, refl, ap, sym, subst, ◌∙◌, Option, Some, None, arith, inl, inr, eqb-true}
use Rattle.std.specs.Prelude.{if◌then◌else◌, is_none, not, option_map, unwrap_or}
use Rattle.std.proofs.lemmas.Bool.{and_parts, false≢true}
use Rattle.std.proofs.lemmas.Bool.Decides.{nat_tests}
use Rattle.ssd_geo.specs.Ladder.{LadderState, is_recovered, is_uncorrectable}
use Rattle.ssd_geo.specs.declared.base.BlockBase.{BlockBase}
use Rattle.ssd_geo.specs.declared.base.ChannelBase.{ChannelBase}
use Rattle.ssd_geo.specs.declared.entry.Entry.{Entry}
use Rattle.ssd_geo.specs.declared.kind.Kind.{Kind}
use Rattle.ssd_geo.specs.declared.look.Look.{Look}
use Rattle.ssd_geo.specs.declared.row.Row.{Row}
use Rattle.ssd_geo.specs.declared.slot.Slot.{Slot}
use Rattle.ssd_geo.specs.declared.tag.Tag.{Tag}
use Rattle.ssd_histories.specs.Blocks as Blocks
use Rattle.ssd_histories.specs.Copies.{is_copy_end}
use Rattle.ssd_histories.specs.History.{look_made, look_of}
use Rattle.ssd_histories.specs.Lawful.{IsLawfulBy, IsLawfulStay}
use Rattle.ssd_histories.specs.PageMap.{first_live_in, live_in, slot_at}
use Rattle.ssd_histories.specs.PastBlocks.{blocks_of, slots_in}
use Rattle.ssd_histories.specs.PastRows.{rows_of}
use Rattle.ssd_histories.specs.Room.{has_host_room, is_victim_now, is_worn, live_of_victim, next_slot, victim_of}
use Rattle.ssd_histories.specs.Rounds.{is_first_live, is_that_slot}
use Rattle.ssd_histories.proofs.UsedSlots.{made}
use Rattle.recovery_laws.proofs.Pasts.{StepLook, step_look}
use Rattle.history_laws.proofs.FreshestBlocks.{HasNext, room_has_next}
use Rattle.history_laws.proofs.LooksInRange.{IsOfRow, looks_in_range}
use Rattle.round_bounds.proofs.CopyParts.{CopyParts}

-- ---- the look of a copy stands in the victim

-- the first live slot of the victim is one of its slots
first_is_in : (first : Option Slot) (sb : ℕ) (slot : Slot) → ((found : Slot) → first ≡ Some found → found.sb ≡ sb) →
    is_that_slot first slot ≡ true → sb ≡ slot.sb
first_is_in None sb slot of is = absurd (false≢true is)
first_is_in (Some found) sb slot of is =
    sym (of found refl)
    ∙ eqb-true found.sb slot.sb (and_parts (found.sb == slot.sb) (found.index == slot.index) is).0

slot_is_in : (index : Option ℕ) (sb : ℕ) (found : Slot) → ◌≡◌ {A = Option Slot} (option_map (slot_at sb) index) (Some found) →
    found.sb ≡ sb
slot_is_in None sb found is = absurd (cc)
slot_is_in (Some index) sb found is =
    sym (ap {B = ℕ} (λ (o : Option Slot). (unwrap_or o found).sb) is)

first_in_victim : (victim : Option ℕ) (rows : List Row) (slot : Slot) →
    is_that_slot (elim victim as (λ _. Option Slot) [ Some sb ↦ first_live_in rows sb | None ↦ None ]) slot ≡ true →
    victim ≡ Some slot.sb
first_in_victim None rows slot is = absurd (false≢true is)
first_in_victim (Some sb) rows slot is =
    ap {B = Option ℕ} (λ (n : ℕ). Some n)
    (first_is_in (first_live_in rows sb) sb slot (slot_is_in _ sb) is)

-- ---- no slot is worn

no_next : (blocks : List BlockBase) → HasNext blocks → is_none (Blocks.next_slot_of blocks) ≡ true → ⊥
no_next blocks next none =
    false≢true (sym (ap {B = Bool} (λ (o : Option ℕ). is_none (Blocks.slot_in blocks o)) next.is_next) ∙ none)

-- where a live page of the victim finds no slot, the channel is worn
worn_without_slot : (slots : ℕ) (blocks : List BlockBase) (live : ℕ) → is_none (Blocks.next_slot_of blocks) ≡ true → 0 < live →
    Blocks.are_blocks_worn slots blocks live ≡ true
worn_without_slot slots blocks live none some =
    by_numbers (Blocks.free_blocks_in blocks) (Blocks.slots_left slots blocks) (is_none (Blocks.victim_in blocks))
    (λ free. no_next blocks (room_has_next slots blocks (inl free)) none)
    (λ left. no_next blocks (room_has_next slots blocks (inr left)) none)
  where
    later : (b : Bool) → b ≡ true → (t : Bool) → (true && (t || b)) ≡ true
    later b e true = refl
    later b e false = e

    above : (m : ℕ) → 0 < m → nat_lt 0 m ≡ true
    above m h = grind (arith, nat_tests)

    by_numbers : (free left : ℕ) (t : Bool) → (1 ≤ free → ⊥) → (1 ≤ left → ⊥) →
        (free == 0 && (t || nat_lt left live)) ≡ true
    by_numbers zero zero t no_free no_left = later (nat_lt 0 live) (above live some) t
    by_numbers (suc free) left t no_free no_left = absurd (no_free (omega arith))
    by_numbers zero (suc left) t no_free no_left = absurd (no_left (omega arith))

-- ---- a copy that stays

module _ (ladder : List Entry → ℕ → LadderState) (base : ChannelBase) (before after : List Entry) where
  -- the look of a copy was in the victim
  in_victim : (sensed : List Entry) (kind : Kind) (look : Look) → is_first_live base before kind ≡ true →
      ◌≡◌ {A = Option Look} (look_made (length before) kind) (Some look) → victim_of base before ≡ Some look.slot.sb
  in_victim sensed (Kind.Look row (Row.Page slot serial) closed) look first is =
      let found : Look = record { at = length before; row = row; slot = slot; serial = serial; closed = closed } in
      first_in_victim (victim_of base before) (rows_of base before) slot first
      ∙ ap {B = Option ℕ} (λ (o : Option Look). Some ((unwrap_or o found).slot.sb)) is
  in_victim sensed (Kind.Look row Row.Empty closed) look first is = absurd (false≢true first)
  in_victim sensed (Kind.Look row Row.Lost closed) look first is = absurd (false≢true first)
  in_victim sensed kind look first is = absurd (false≢true first)

  -- a stay of a copy is of its own look
  own_stay : (sensed : List Entry) (tag : Tag) (at : ℕ) (worn : Bool) →
      is_copy_end ladder (length before) (record { past = sensed; entry = made tag (Kind.Stay at worn) }) ≡ true →
      at ≡ length before
  own_stay sensed tag at worn is =
      by_ladder (is_recovered (ladder sensed (length before))) (is_uncorrectable (ladder sensed (length before)))
      (at == length before) is (eqb-true at (length before))
    where
      by_ladder : (a b same : Bool) → (false || (a && same) || (b && false)) ≡ true → (same ≡ true → at ≡ length before) →
          at ≡ length before
      by_ladder a b true e own = own refl
      by_ladder true true false e own = absurd (false≢true e)
      by_ladder true false false e own = absurd (false≢true e)
      by_ladder false true false e own = absurd (false≢true e)
      by_ladder false false false e own = absurd (false≢true e)

  no_slot : (here : Bool) (slot : Option Slot) (room : Bool) → here ≡ true →
      (if here then is_none slot else not room) ≡ true → is_none slot ≡ true
  no_slot true slot room e is = is
  no_slot false slot room e is = absurd (false≢true e)

  stay_found_none : (sensed : List Entry) (look : Kind) (tag : Tag) (at : ℕ) (worn : Bool) →
      IsLawfulBy ladder base (made tag (Kind.Stay at worn) ∷ sensed) → blocks_of base sensed ≡ blocks_of base before →
      is_first_live base before look ≡ true → look_of sensed (length before) ≡ look_made (length before) look →
      at ≡ length before → is_none (next_slot base sensed) ≡ true
  stay_found_none sensed look tag at worn lawful same first looked own =
      no_slot (is_victim_now base sensed step.pin.1.slot.sb) (next_slot base sensed) (has_host_room base sensed) here
      step.fact.no_room
    where
      step : StepLook sensed at (IsOfRow base) (λ look. IsLawfulStay (ladder sensed at) base sensed look worn)
      step =
          step_look sensed tag at (IsOfRow base) (λ look. IsLawfulStay (ladder sensed at) base sensed look worn)
          (looks_in_range ladder base sensed lawful.0) lawful.1.meets

      victim : victim_of base sensed ≡ Some step.pin.1.slot.sb
      victim =
          ap {B = Option ℕ} Blocks.victim_in same
          ∙ in_victim sensed look step.pin.1 first
          (sym looked ∙ ap {B = Option Look} (look_of sensed) (sym own) ∙ step.is_look)

      itself : (n : ℕ) → (n == n) ≡ true
      itself n = grind (arith, nat_tests)

      here : is_victim_now base sensed step.pin.1.slot.sb ≡ true
      here =
          ap {B = Bool} (λ (o : Option ℕ). elim o as (λ _. Bool) [ Some victim ↦ victim == step.pin.1.slot.sb | None ↦ false ])
          victim
          ∙ itself step.pin.1.slot.sb

  -- so the channel is worn after it
  pub worn_after_stay : (parts : CopyParts ladder base before after true false) (at : ℕ) (worn : Bool) →
      parts.kind ≡ Kind.Stay at worn → IsLawfulBy ladder base (made parts.tag parts.kind ∷ parts.sensed) →
      0 < live_of_victim base before → is_worn base after ≡ true
  worn_after_stay parts at worn is lawful some =
      (λ i. Blocks.are_blocks_worn (slots_in base) (blocks i) (live (blocks i) (rows i)))
      ∙ worn_without_slot (slots_in base) (blocks_of base before) (live_of_victim base before)
      (ap {B = Bool} (λ (list : List BlockBase). is_none (Blocks.next_slot_of list)) (sym parts.first.same_blocks) ∙ none)
      some
    where
      live : List BlockBase → List Row → ℕ
      live list rows = elim (Blocks.victim_in list) as (λ _. ℕ) [ Some sb ↦ live_in rows sb | None ↦ 0 ]

      stayed : Entry
      stayed = made parts.tag (Kind.Stay at worn)

      entry_is : made parts.tag parts.kind ≡ stayed
      entry_is = ap {B = Entry} (made parts.tag) is

      blocks : blocks_of base after ≡ blocks_of base before
      blocks = parts.last.same_blocks
          ∙ ap {B = List BlockBase} (λ (entry : Entry). blocks_of base (entry ∷ parts.sensed)) entry_is
          ∙ parts.first.same_blocks

      rows : rows_of base after ≡ rows_of base before
      rows = parts.last.same_rows
          ∙ ap {B = List Row} (λ (entry : Entry). rows_of base (entry ∷ parts.sensed)) entry_is
          ∙ parts.first.same_rows

      none : is_none (next_slot base parts.sensed) ≡ true
      none =
          stay_found_none parts.sensed parts.look parts.tag at worn
          (subst (λ (entry : Entry). IsLawfulBy ladder base (entry ∷ parts.sensed)) entry_is lawful)
          parts.first.same_blocks parts.is_first parts.looked
          (own_stay parts.sensed parts.tag at worn
          (subst (λ (entry : Entry). is_copy_end ladder (length before) (record { past = parts.sensed; entry = entry }) ≡ true)
          entry_is parts.of_look))
