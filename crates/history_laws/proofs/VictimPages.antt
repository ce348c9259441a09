-- The live pages of a victim: no entry gives it one, and each copy of one takes it away.
use Rattle.std.proofs.Common.{◌≡◌, ℕ, ◌<◌, ◌≤◌, ◌==◌, nat_lt, ◌||◌, Bool, true, false, List, ◌∷◌, set, get_or, refl, ap, ◌∙◌, Option, Some, None, arith}
use Rattle.std.specs.Prelude.{IsSomeAnd, option_map}
use Rattle.std.proofs.lemmas.Bool.Decides.{nat_tests}
use Rattle.std.proofs.lemmas.List.FromFn.{get_or-map-range_with_len, length-map-range_with_len}
use Rattle.ssd_geo.specs.Ladder.{LadderState}
use Rattle.ssd_geo.specs.declared.base.ChannelBase.{ChannelBase}
use Rattle.ssd_geo.specs.declared.entry.Entry.{Entry}
use Rattle.ssd_geo.specs.declared.kind.Kind.{Kind}
use Rattle.ssd_geo.specs.declared.look.Look.{Look}
use Rattle.ssd_geo.specs.declared.row.Row.{Row}
use Rattle.ssd_geo.specs.declared.slot.Slot.{Slot}
use Rattle.ssd_geo.specs.declared.superblock.SbState.{SbState}
use Rattle.ssd_geo.specs.declared.tag.Tag.{Tag}
use Rattle.ssd_histories.specs.Blocks as Blocks
use Rattle.ssd_histories.specs.History.{look_of, open_look}
use Rattle.ssd_histories.specs.HistoryLaws.{rows_after}
use Rattle.ssd_histories.specs.Lawful.{IsLawfulKind, IsLawfulMove}
use Rattle.ssd_histories.specs.PageMap.{live_in, names_superblock}
use Rattle.ssd_histories.specs.PastBlocks.{state_of}
use Rattle.ssd_histories.specs.PastRows.{row_of, rows_of, serial_of}
use Rattle.ssd_histories.specs.Ranges.{has_slot, is_in_range}
use Rattle.ssd_histories.specs.Room.{live_of, next_slot, victim_of}
use Rattle.ssd_histories.specs.States as States
use Rattle.ssd_histories.proofs.OneOfEach.{found_block}
use Rattle.ssd_histories.proofs.PinnedWords.{usable_next}
use Rattle.ssd_histories.proofs.UsedSlots.{made, of_some, second_holds}
use Rattle.recovery_laws.proofs.Pasts.{StepLook, step_look}
use Rattle.history_laws.specs.EmptiedVictims.{CopiesTakePages, VictimsGainNoPages}
use Rattle.history_laws.proofs.Counting.{count_set, one_false, one_true}
use Rattle.history_laws.proofs.LivePages.{live_after, live_cleared, live_copied, live_lost, live_named}
use Rattle.history_laws.proofs.LooksInRange.{IsOfRow, looks_in_range}

-- the next slot isn't in the victim
next_outside : (base : ChannelBase) (past : List Entry) (slot : Slot) (sb : ℕ) → next_slot base past ≡ Some slot
    → has_slot base.shape slot ≡ true
    → victim_of base past ≡ Some sb → (slot.sb == sb) ≡ false
next_outside base past slot sb next range victim = by_test (slot.sb == sb) refl
  where
    same_number : (a : ℕ) → (a == sb) ≡ true → a ≡ sb
    same_number a e = grind (arith, nat_tests)

    apart : (state : SbState) → (States.is_frontier state || States.is_free state) ≡ true → States.is_victim state ≡ true → ⊥
    apart SbState.Free e f = grind arith
    apart SbState.Frontier e f = grind arith
    apart SbState.Sealed e f = grind arith
    apart SbState.Bad e f = grind arith
    apart SbState.Victim e f = grind arith

    by_test : (b : Bool) → (slot.sb == sb) ≡ b → b ≡ false
    by_test true here =
        absurd (apart (state_of base past slot.sb) (usable_next base past slot next range)
        (ap {B = Bool} (λ (k : ℕ). States.is_victim (state_of base past k)) (same_number slot.sb here)
        ∙ (found_block base past Blocks.is_victim_block sb victim).1))
    by_test false there = refl

-- a write or a copy gives a row a slot outside the victim, and no other entry gives one a slot
victim_step : (state : ℕ → LadderState) (base : ChannelBase) (past : List Entry) (tag : Tag) (kind : Kind) (sb : ℕ)
    → is_in_range base.shape kind ≡ true
    → IsLawfulKind state base past tag kind → victim_of base past ≡ Some sb
    → live_of base (made tag kind ∷ past) sb ≤ live_of base past sb
victim_step state base past tag (Kind.Write row slot) sb range c victim =
    omega (
      arith,
      live_after base (made tag (Kind.Write row slot)) past sb,
      live_named (rows_of base past) row sb (serial_of base.session tag) slot,
      one_false (slot.sb == sb)
          (next_outside base past slot sb c.is_programmed.is_next
          (second_holds (nat_lt row base.shape.rows) (has_slot base.shape slot) range) victim),
    )
victim_step state base past tag (Kind.Move at slot) sb range c victim =
    omega (
      arith,
      live_after base (made tag (Kind.Move at slot)) past sb,
      live_copied (look_of past at) (rows_of base past) sb slot,
      one_false (slot.sb == sb)
          (next_outside base past slot sb
          (of_some (open_look past tag at) (λ look. IsLawfulMove (state at) base past look slot)
          (λ look move. move.is_programmed.is_next) c) range victim),
    )
victim_step state base past tag (Kind.Trim row) sb range c victim =
    omega (arith, live_after base (made tag (Kind.Trim row)) past sb, live_cleared (rows_of base past) row sb Row.Empty refl)
victim_step state base past tag (Kind.Condemn at) sb range c victim =
    omega (arith, live_after base (made tag (Kind.Condemn at)) past sb, live_lost (look_of past at) (rows_of base past) sb)
victim_step state base past tag kind sb range c victim = omega arith

-- so no lawful entry gives the victim a page
pub victims_gain_no_pages : VictimsGainNoPages
victims_gain_no_pages ladder base entry past sb lawful victim =
    victim_step (ladder past) base past entry.tag entry.kind sb lawful.1.in_range lawful.1.meets victim

-- two facts of some value
pub both_of_some : (o : Option Look) (P Q : Look → Type 0) → IsSomeAnd o P → IsSomeAnd o Q
    → IsSomeAnd o (λ look. P look × Q look)
both_of_some None P Q h g = h
both_of_some (Some look) P Q h g = (h, g)

-- a row of the channel, among all rows
pub row_is : (base : ChannelBase) (past : List Entry) (row : ℕ) → row < base.shape.rows
    → get_or (rows_of base past) row Row.Empty ≡ row_of base past row
row_is base past row lt = get_or-map-range_with_len (row_of base past) 0 base.shape.rows row row Row.Empty lt (omega arith)

-- a copy takes the page of its look's row
pub copies_take_pages : CopiesTakePages
copies_take_pages ladder base past tag at sb slot lawful victim inside =
    omega (
      arith,
      live_after base (made tag (Kind.Move at slot)) past sb,
      copied,
      count_set (names_superblock sb) (rows_of base past) look.row (Row.Page slot look.serial) Row.Empty
          (omega (arith, step.has, length-map-range_with_len (row_of base past) 0 base.shape.rows)),
      one_true (names_superblock sb (get_or (rows_of base past) look.row Row.Empty)) named,
      one_false (slot.sb == sb) (next_outside base past slot sb step.fact.0.is_programmed.is_next lawful.1.in_range victim),
    )
  where
    step : StepLook past at (IsOfRow base) (λ look. IsLawfulMove (ladder past at) base past look slot × (look.slot.sb ≡ sb))
    step =
        step_look past tag at (IsOfRow base) (λ look. IsLawfulMove (ladder past at) base past look slot × (look.slot.sb ≡ sb))
        (looks_in_range ladder base past lawful.0)
        (both_of_some (open_look past tag at) (λ look. IsLawfulMove (ladder past at) base past look slot)
        (λ look. look.slot.sb ≡ sb) lawful.1.meets inside)

    look : Look
    look = step.pin.1

    copied : live_in (rows_after (option_map (λ (l : Look). (l.row, Row.Page slot l.serial)) (look_of past at))
        (rows_of base past)) sb
        ≡ live_in (set (rows_of base past) look.row (Row.Page slot look.serial)) sb
    copied = ap {B = ℕ} (λ (o : Option Look). live_in
        (rows_after (option_map (λ (l : Look). (l.row, Row.Page slot l.serial)) o) (rows_of base past)) sb) step.is_look

    same_number : (a : ℕ) → a ≡ sb → (a == sb) ≡ true
    same_number a e = grind (arith, nat_tests)

    named : names_superblock sb (get_or (rows_of base past) look.row Row.Empty) ≡ true
    named =
        ap {B = Bool} (names_superblock sb) (row_is base past look.row step.has ∙ step.fact.0.may_copy.is_unchanged)
        ∙ same_number look.slot.sb step.fact.1
