-- A blank channel takes writes: the proof of the law of specs/BlankChannels.antt.
use Rattle.std.proofs.Common.{◌≡◌, ℕ, zero, suc, ◌+◌, ◌*◌, ◌-◌, ◌<◌, ◌≤◌, ◌==◌, not, ◌&&◌, ◌||◌, Bool, true, false, List, [], ◌∷◌, ◌++◌, length, refl, sym, subst, arith}
use Rattle.std.specs.Prelude.{count_by, if◌then◌else◌}
use Rattle.std.proofs.lemmas.List.{append-nil}
use Rattle.std.proofs.lemmas.List.Sums.{AllPass-from_list_all}
use Rattle.ssd_geo.specs.Ladder.{LadderState}
use Rattle.ssd_geo.specs.declared.base.BlockBase.{BlockBase}
use Rattle.ssd_geo.specs.declared.base.ChannelBase.{ChannelBase}
use Rattle.ssd_geo.specs.declared.entry.Entry.{Entry}
use Rattle.ssd_geo.specs.declared.kind.Kind.{Kind}
use Rattle.ssd_geo.specs.declared.superblock.SbState.{SbState}
use Rattle.ssd_geo.specs.declared.tag.Tag.{Tag}
use Rattle.ssd_histories.specs.Blocks as Blocks
use Rattle.ssd_histories.specs.History.{open_look}
use Rattle.ssd_histories.specs.Lawful.{IsLawfulBadCopy, IsLawfulBy, IsLawfulKind}
use Rattle.ssd_histories.specs.PastBlocks.{block_of, blocks_of, slots_in, state_by}
use Rattle.ssd_histories.specs.Reserve.{has_no_bad_kind, has_reserve, is_bad_kind}
use Rattle.ssd_histories.specs.Room.{is_full, is_worn, live_of}
use Rattle.ssd_histories.specs.Standing.{IsStart}
use Rattle.ssd_histories.specs.Start.{Start}
use Rattle.ssd_histories.specs.States as States
use Rattle.ssd_histories.specs.WeakDies.{dies_in, dies_of_program, is_weak, may_fail_on}
use Rattle.ssd_histories.proofs.UsedSlots.{of_some}
use Rattle.history_laws.specs.BlankChannels.{BlankChannelsTakeWrites, IsBlankAndSound, NoneIsRefused, has_no_bad_by_fault, has_no_weak_block, is_bad_by_fault, is_free_or_bad}
use Rattle.history_laws.specs.KeptReserve.{IsReserved}
use Rattle.history_laws.specs.NeverFull.{count_of_bad, is_bad_block}
use Rattle.history_laws.proofs.Counting.{one}
use Rattle.history_laws.proofs.KeptReserve.{reserve_stays}
use Rattle.history_laws.proofs.NoWeakBlocks.{never_weak}
use Rattle.history_laws.proofs.NeverFull.{count_more, first_blocks, never_full}
use Rattle.history_laws.proofs.ProgrammedBlocks.{free_is_reserve}

-- ---- no entry is of a bad kind

-- where no die is weak, no program and no erase may fail but by a fault
no_failure : (base : ChannelBase) (past : List Entry) (sb : ℕ) → ((die : ℕ) → is_weak base past sb die ≡ false)
    → (dies : List ℕ) (failed : ℕ) (fault : Bool)
    → may_fail_on base past sb dies failed fault ≡ true → fault ≡ true
no_failure base past sb sound [] failed fault may = absurd (grind arith)
no_failure base past sb sound (die ∷ dies) failed fault may =
    by_die (die == failed) (is_weak base past sb die) (may_fail_on base past sb dies failed fault)
    (sound die) may (no_failure base past sb sound dies failed fault)
  where
    by_die : (here weak rest : Bool) → weak ≡ false → (if here then fault || weak else not weak && rest) ≡ true
        → (rest ≡ true → fault ≡ true) → fault ≡ true
    by_die true true rest e may later = absurd (grind arith)
    by_die true false rest e may later = either fault may
      where
        either : (f : Bool) → (f || false) ≡ true → f ≡ true
        either true e = refl
        either false e = e
    by_die false true rest e may later = absurd (grind arith)
    by_die false false rest e may later = later may

-- no test both holds and fails
apart : (b : Bool) → b ≡ true → b ≡ false → ⊥
apart b e f = grind arith

-- a lawful entry of a bad kind tells of a fault
bad_by_fault : (state : ℕ → LadderState) (base : ChannelBase) (past : List Entry) (tag : Tag) (kind : Kind)
    → ((sb die : ℕ) → is_weak base past sb die ≡ false)
    → IsLawfulKind state base past tag kind → is_bad_by_fault kind ≡ false → is_bad_kind kind ≡ false
bad_by_fault state base past tag (Kind.BadWrite row slot die fault) sound c none =
    absurd (apart fault (no_failure base past slot.sb (sound slot.sb)
    (dies_of_program base.shape.dies slot) die fault c.is_failed.may_fail) none)
bad_by_fault state base past tag (Kind.BadCopy at slot die fault) sound c none =
    absurd (apart fault
    (of_some (open_look past tag at) (λ look. IsLawfulBadCopy (state at) base past look slot die fault)
    (λ look copy. no_failure base past slot.sb (sound slot.sb)
    (dies_of_program base.shape.dies slot) die fault copy.is_failed.may_fail) c) none)
bad_by_fault state base past tag (Kind.BadErase sb die fault) sound c none =
    absurd (apart fault (no_failure base past sb (sound sb) (dies_in base) die fault c.may_fail) none)
bad_by_fault state base past tag kind sound c none = refl

-- so no entry of a lawful past is of a bad kind, where none tells of a fault
none_bad : (ladder : List Entry → ℕ → LadderState) (base : ChannelBase) (past : List Entry) → has_no_weak_block base ≡ true
    → IsLawfulBy ladder base past → has_no_bad_by_fault past ≡ true → has_no_bad_kind past ≡ true
none_bad ladder base [] sound lawful none = refl
none_bad ladder base (entry ∷ past) sound lawful none =
    by_entry (is_bad_by_fault entry.kind) (has_no_bad_by_fault past) none
    (bad_by_fault (ladder past) base past entry.tag entry.kind (λ sb die. never_weak base past sb die sound) lawful.1.meets)
    (none_bad ladder base past sound lawful.0)
  where
    both : (a b : Bool) → a ≡ false → b ≡ true → (not a && b) ≡ true
    both true b e f = absurd (grind arith)
    both false b e f = f

    by_entry : (a b : Bool) → (not a && b) ≡ true → (a ≡ false → is_bad_kind entry.kind ≡ false)
        → (b ≡ true → has_no_bad_kind past ≡ true)
        → has_no_bad_kind (entry ∷ past) ≡ true
    by_entry true b e here rest = absurd (grind arith)
    by_entry false true e here rest = both (is_bad_kind entry.kind) (has_no_bad_kind past) (here refl) (rest refl)
    by_entry false false e here rest = absurd (grind arith)

-- ---- the reserve at the start

-- a superblock that is free or bad at the start is so before the first entry
begun_state : (slots : ℕ) (state : SbState) (used : ℕ) → (States.is_free state || States.is_bad state) ≡ true
    → Blocks.has_due_used slots state used ≡ true
    → 1 ≤ one (States.is_bad (state_by (States.is_bad state || false) (States.is_victim state) slots used))
    + one (States.is_free (state_by (States.is_bad state || false) (States.is_victim state) slots used))
begun_state slots SbState.Free used free due = rw due (omega arith)
begun_state slots SbState.Bad used bad due = omega arith
begun_state slots SbState.Frontier used e due = absurd (grind arith)
begun_state slots SbState.Sealed used e due = absurd (grind arith)
begun_state slots SbState.Victim used e due = absurd (grind arith)

-- each superblock of a blank start
begun_block : (start : Start) (sb : ℕ) → IsStart start → IsBlankAndSound start.base → sb < start.base.shape.superblocks
    → 1 ≤ one (is_bad_block (block_of start.base [] sb)) + one (Blocks.is_free_block (block_of start.base [] sb))
begun_block start sb is_start blank lt =
    let block : BlockBase = Blocks.block_at start.base.blocks sb in
    let long : sb < length start.base.blocks = omega (arith, lt, is_start.blocks_count) in
    begun_state (slots_in start.base) block.state block.used
    (AllPass-from_list_all is_free_or_bad start.base.blocks blank.free_or_bad sb Blocks.blank_block long)
    (AllPass-from_list_all (Blocks.is_due_block (slots_in start.base)) start.base.blocks is_start.blocks_sound.due sb
    Blocks.blank_block long)

-- all superblocks are bad or free
all_begun : (start : Start) → IsStart start → IsBlankAndSound start.base → (n : ℕ) → n ≤ start.base.shape.superblocks
    → n ≤ count_by is_bad_block (first_blocks start.base [] n) + count_by Blocks.is_free_block (first_blocks start.base [] n)
all_begun start is_start blank zero le = omega arith
all_begun start is_start blank (suc n) le =
    omega (
      arith,
      count_more is_bad_block start.base [] n,
      count_more Blocks.is_free_block start.base [] n,
      begun_block start n is_start blank (omega arith),
      all_begun start is_start blank n (omega arith),
    )

-- rows that fit beside the bad superblocks leave one that isn't bad
one_more_block : (n bad a b rows : ℕ) → rows ≤ (n - (2 + bad)) * a * b → 1 ≤ rows → 1 + bad ≤ n
one_more_block n bad a b rows fit some = by_rest (n - (2 + bad)) refl
  where
    none : zero * a * b ≡ 0
    none = grind arith

    by_rest : (d : ℕ) → n - (2 + bad) ≡ d → 1 + bad ≤ n
    by_rest zero e = absurd (omega (arith, none, some, subst (λ (d : ℕ). rows ≤ d * a * b) e fit))
    by_rest (suc d) e = omega (arith, e)

-- so one is free, and the reserve holds
begun_reserve : (start : Start) → IsStart start → IsBlankAndSound start.base → has_reserve start.base [] ≡ true
begun_reserve start is_start blank =
    free_is_reserve (slots_in start.base) (blocks_of start.base []) (live_of start.base [])
    (omega (
      arith,
      all_begun start is_start blank start.base.shape.superblocks (omega arith),
      one_more_block start.base.shape.superblocks (count_of_bad start.base [])
          (start.base.shape.dies - 1) start.base.shape.pages start.base.shape.rows
          blank.rows_fit start.base.shape.within.rows_low,
    ))

-- the reserve stays, and so do the rows that fit
pub blank_channels_take_writes : BlankChannelsTakeWrites
blank_channels_take_writes ladder start past is_start blank lawful none =
    let good : has_no_bad_kind past ≡ true = none_bad ladder start.base past blank.none_weak lawful none in
    let whole : past ++ [] ≡ past = append-nil past in
    record {
      reserved = subst (IsReserved start.base) whole
          (reserve_stays ladder start past [] is_start (subst (IsLawfulBy ladder start.base) (sym whole) lawful) good
          (begun_reserve start is_start blank));
      not_full = subst (λ (p : List Entry). is_full start.base p ≡ false) whole
          (never_full start.base past [] blank.rows_fit good);
    }

-- a refusal says worn or full
pub none_is_refused : NoneIsRefused
none_is_refused base past true takes refused = apart (is_worn base past) refused takes.reserved.not_worn
none_is_refused base past false takes refused = apart (is_full base past) refused takes.not_full
