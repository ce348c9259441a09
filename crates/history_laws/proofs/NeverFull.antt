-- A channel whose rows fit isn't full: the proofs of the laws of specs/NeverFull.antt.
use Rattle.std.proofs.Common.{◌≡◌, ℕ, zero, suc, ◌+◌, ◌*◌, ◌-◌, ◌<◌, ◌≤◌, ◌==◌, nat_lt, nat_le, not, ◌&&◌, ◌||◌, Bool, true, false, List, [], ◌∷◌, ◌++◌, length, map, get_or, refl, ap, sym, ◌∙◌, subst, Option, Some, None, arith, ◌⊎◌, inl, inr}
use Rattle.std.specs.Prelude.{count_by, if◌then◌else◌, is_none, is_some, position}
use Rattle.std.specs.List.{list_any, range_with_len}
use Rattle.std.proofs.lemmas.Bool.Decides.{nat_tests}
use Rattle.std.proofs.lemmas.List.FromFn.{get_or-map-range_with_len, length-map-range_with_len, sum_by-map-range_with_len_more}
use Rattle.std.proofs.lemmas.List.Sums.{count_by-le-length}
use Rattle.ssd_geo.specs.Limits.{most_rows_of}
use Rattle.ssd_geo.specs.Shape.{sizes_of}
use Rattle.ssd_geo.specs.declared.base.BlockBase.{BlockBase}
use Rattle.ssd_geo.specs.declared.base.ChannelBase.{ChannelBase}
use Rattle.ssd_geo.specs.declared.entry.Entry.{Entry}
use Rattle.ssd_geo.specs.declared.kind.Kind.{Kind}
use Rattle.ssd_geo.specs.declared.row.Row.{Row}
use Rattle.ssd_geo.specs.declared.superblock.SbInfo.{SbInfo}
use Rattle.ssd_geo.specs.declared.superblock.SbState.{SbState}
use Rattle.ssd_histories.specs.Blocks as Blocks
use Rattle.ssd_histories.specs.History.{open_looks}
use Rattle.ssd_histories.specs.PageMap.{names_superblock}
use Rattle.ssd_histories.specs.PastBlocks.{block_before, block_of, blocks_of, is_bad_superblock, is_picked, slots_in, state_by, state_of, turns_bad, used_of}
use Rattle.ssd_histories.specs.PastRows.{row_of, rows_of}
use Rattle.ssd_histories.specs.Policies as Policies
use Rattle.ssd_histories.specs.Reserve.{has_no_bad_kind, is_bad_kind}
use Rattle.ssd_histories.specs.Room.{count_of_free, count_of_garbage, is_full, live_of, table_of, victim_of}
use Rattle.ssd_histories.specs.States as States
use Rattle.ssd_histories.proofs.UsedSlots.{block_is}
use Rattle.history_laws.specs.NeverFull.{FittingRowsLeaveRoom, NeverFull, count_of_bad, is_bad_block}
use Rattle.history_laws.proofs.Counting.{counts_add, none_pass, one, one_true}
use Rattle.history_laws.proofs.FreshestBlocks.{none_found}
use Rattle.history_laws.proofs.KeptReserve.{good_parts}
use Rattle.history_laws.proofs.NextSlots.{some_slots}

-- ---- counts over the first superblocks

-- the superblocks below a number
abbrev pub first_blocks : ChannelBase → List Entry → ℕ → List BlockBase
first_blocks base past n = map (block_of base past) (range_with_len 0 n)

-- one more of them is counted where it passes
pub count_more : (p : BlockBase → Bool) (base : ChannelBase) (past : List Entry) (n : ℕ)
    → count_by p (first_blocks base past (suc n)) ≡ count_by p (first_blocks base past n) + one (p (block_of base past n))
count_more p base past n =
    let next : n + 1 ≡ suc n = omega arith in
    subst (λ (k : ℕ). count_by p (first_blocks base past k) ≡ count_by p (first_blocks base past n) + one
    (p (block_of base past n))) next
    (sum_by-map-range_with_len_more (λ (block : BlockBase). one (p block)) (block_of base past) 0 n n (omega arith))

-- whether a row names one of the first superblocks
abbrev names_below : ℕ → Row → Bool
names_below n Row.Empty = false
names_below n Row.Lost = false
names_below n (Row.Page slot serial) = nat_lt slot.sb n

-- it names one superblock more where it names the next
one_more : (n : ℕ) (row : Row) → one (names_below (suc n) row) ≡ one (names_below n row) + one (names_superblock n row)
one_more n Row.Empty = refl
one_more n Row.Lost = refl
one_more n (Row.Page slot serial) = numbers slot.sb
  where
    numbers : (a : ℕ) → one (nat_lt a (suc n)) ≡ one (nat_lt a n) + one (a == n)
    numbers a = grind (arith, nat_tests)

-- ---- a full channel

-- a superblock is bad or free, or all its slots have live pages
abbrev IsTaken : ChannelBase → List Entry → ℕ → Type 0
IsTaken base past sb =
    (is_bad_block (block_of base past sb) ≡ true) ⊎ (Blocks.is_free_block (block_of base past sb) ≡ true) ⊎
    (slots_in base ≤ live_of base past sb)

-- so the slots of the first superblocks are those of bad and free ones, and slots with live pages
slots_taken : (base : ChannelBase) (past : List Entry) → ((sb : ℕ) → sb < base.shape.superblocks → IsTaken base past sb)
    → (n : ℕ) → n ≤ base.shape.superblocks
    → n * slots_in base
    ≤ (count_by is_bad_block (first_blocks base past n) + count_by Blocks.is_free_block (first_blocks base past n)) * slots_in
    base
    + count_by (names_below n) (rows_of base past)
slots_taken base past taken zero le = nothing (slots_in base) _ _
  where
    nothing : (w m l : ℕ) → zero * w ≤ m * w + l
    nothing w m l = grind arith
slots_taken base past taken (suc n) le =
    more n (slots_in base) (count_by is_bad_block (first_blocks base past n))
    (count_by Blocks.is_free_block (first_blocks base past n))
    (count_by (names_below n) (rows_of base past)) _ _ _ (one (is_bad_block (block_of base past n)))
    (one (Blocks.is_free_block (block_of base past n))) (live_of base past n)
    (count_more is_bad_block base past n) (count_more Blocks.is_free_block base past n)
    (counts_add (names_below (suc n)) (names_below n) (names_superblock n) (one_more n) (rows_of base past))
    (by_state (taken n (omega arith))) (slots_taken base past taken n (omega arith))
  where
    by_state : IsTaken base past n
        → (1 ≤ one (is_bad_block (block_of base past n)) + one (Blocks.is_free_block (block_of base past n))) ⊎
        (slots_in base ≤ live_of base past n)
    by_state (inl bad) = inl (omega (arith, one_true (is_bad_block (block_of base past n)) bad))
    by_state (inr (inl free)) = inl (omega (arith, one_true (Blocks.is_free_block (block_of base past n)) free))
    by_state (inr (inr live)) = inr live

    times : (w m k : ℕ) → 1 ≤ k → m * w + w ≤ (m + k) * w
    times w m zero some = absurd (omega arith)
    times w m (suc k) some = omega (arith, spread w m k)
      where
        spread : (w m k : ℕ) → (m + suc k) * w ≡ m * w + w + k * w
        spread w m k = grind arith

    grown : (w m k : ℕ) → m * w ≤ (m + k) * w
    grown w m k = omega (arith, spread w m k)
      where
        spread : (w m k : ℕ) → (m + k) * w ≡ m * w + k * w
        spread w m k = grind arith

    next : (w k : ℕ) → suc k * w ≡ k * w + w
    next w k = grind arith

    more : (k w bad free named bad' free' named' b f l : ℕ) → bad' ≡ bad + b → free' ≡ free + f → named' ≡ named + l
        → (1 ≤ b + f) ⊎ (w ≤ l) → k * w ≤ (bad + free) * w + named → suc k * w ≤ (bad' + free') * w + named'
    more k w bad free named bad' free' named' b f l bad_is free_is named_is (inl some) before =
        omega (
          arith,
          next w k,
          before,
          named_is,
          times w (bad + free) (b + f) some,
          ap {B = ℕ} (λ (m : ℕ). m * w)
              (sum bad_is free_is),
        )
      where
        sum : bad' ≡ bad + b → free' ≡ free + f → bad' + free' ≡ bad + free + (b + f)
        sum h g = omega arith
    more k w bad free named bad' free' named' b f l bad_is free_is named_is (inr live) before =
        omega (
          arith,
          next w k,
          before,
          named_is,
          live,
          grown w (bad + free) (b + f),
          ap {B = ℕ} (λ (m : ℕ). m * w)
              (sum bad_is free_is),
        )
      where
        sum : bad' ≡ bad + b → free' ≡ free + f → bad' + free' ≡ bad + free + (b + f)
        sum h g = omega arith

-- rows that fit beside the bad superblocks don't fill all slots but those of one
too_few : (n bad w rows : ℕ) → n * w ≤ (bad + 1) * w + rows → rows ≤ (n - (2 + bad)) * w → 1 ≤ rows → 1 ≤ w → ⊥
too_few n bad w rows taken fit some slots = by_rest (n - (2 + bad)) refl
  where
    none : zero * w ≡ 0
    none = grind arith

    spread : (d : ℕ) → (bad + 1 + 1 + suc d) * w ≡ (bad + 1) * w + w + suc d * w
    spread d = grind arith

    by_rest : (d : ℕ) → n - (2 + bad) ≡ d → ⊥
    by_rest zero e = omega (arith, none, some, fit_none)
      where
        fit_none : rows ≤ zero * w
        fit_none = subst (λ (d : ℕ). rows ≤ d * w) e fit
    by_rest (suc d) e = omega (arith, spread d, slots, fit_some, taken, ap {B = ℕ} (λ (m : ℕ). m * w) whole)
      where
        whole : n ≡ bad + 1 + 1 + suc d
        whole = omega (arith, e)

        fit_some : rows ≤ suc d * w
        fit_some = subst (λ (k : ℕ). rows ≤ k * w) e fit

-- what full says
record SaysFull (base : ChannelBase) (past : List Entry) : Type 0 where
  one_free : count_of_free base past ≡ 1
  no_frontier : Blocks.frontier_of (blocks_of base past) ≡ None
  no_victim : victim_of base past ≡ None
  no_garbage : count_of_garbage base past ≡ 0

-- it says all of these
full_parts : (base : ChannelBase) (past : List Entry) → is_full base past ≡ true → SaysFull base past
full_parts base past full =
    parts (Blocks.frontier_of (blocks_of base past)) (victim_of base past) (count_of_free base past)
    (count_of_garbage base past) refl refl refl refl full
  where
    is_one : (n : ℕ) (c d : Bool) → (nat_le 1 n && not (false && nat_le 1 n || nat_le 2 n) && c && d) ≡ true → n ≡ 1
    is_one n c d e = grind (arith, nat_tests)

    no_frontier : (n : ℕ) (c d : Bool) → (nat_le 1 n && not (true && nat_le 1 n || nat_le 2 n) && c && d) ≡ true → ⊥
    no_frontier n c d e = grind (arith, nat_tests)

    last_two : (a b c d : Bool) → (a && not b && c && d) ≡ true → (c ≡ true) × (d ≡ true)
    last_two true false true true e = (refl, refl)
    last_two true false true false e = absurd (grind arith)
    last_two true false false d e = absurd (grind arith)
    last_two true true c d e = absurd (grind arith)
    last_two false b c d e = absurd (grind arith)

    is_zero : (n : ℕ) → (n == 0) ≡ true → n ≡ 0
    is_zero n e = grind (arith, nat_tests)

    no_some : (o : Option ℕ) → is_none o ≡ true → o ≡ None
    no_some None e = refl
    no_some (Some n) e = absurd (grind arith)

    parts : (f v : Option ℕ) (n g : ℕ) → Blocks.frontier_of (blocks_of base past) ≡ f → victim_of base past ≡ v
        → count_of_free base past ≡ n → count_of_garbage base past ≡ g
        → (nat_le 1 n && not (is_some f && nat_le 1 n || nat_le 2 n) && is_none v && g == 0) ≡ true → SaysFull base past
    parts (Some k) v n g f_is v_is n_is g_is e = absurd (no_frontier n (is_none v) (g == 0) e)
    parts None v n g f_is v_is n_is g_is e =
        let two : (is_none v ≡ true) × ((g == 0) ≡ true) = last_two (nat_le 1 n) (false && nat_le 1 n || nat_le 2 n)
        (is_none v) (g == 0) e in
        record {
          one_free = n_is ∙ is_one n (is_none v) (g == 0) e;
          no_frontier = f_is;
          no_victim = v_is ∙ no_some v two.0;
          no_garbage = g_is ∙ is_zero g two.1;
        }

-- in a full channel each superblock is taken
full_is_taken : (base : ChannelBase) (past : List Entry) → SaysFull base past → (sb : ℕ) → sb < base.shape.superblocks
    → IsTaken base past sb
full_is_taken base past full sb lt = by_state (state_of base past sb) refl
  where
    blocks : List BlockBase
    blocks = blocks_of base past

    long : sb < length blocks
    long = omega (arith, lt, length-map-range_with_len (block_of base past) 0 base.shape.superblocks)

    fails : (test : BlockBase → Bool) → position test blocks ≡ None → test (block_of base past sb) ≡ false
    fails test none = subst (λ (block : BlockBase). test block ≡ false) (block_is base past sb lt)
        (none_found test blocks sb Blocks.blank_block none long)

    info : get_or (table_of base past) sb Policies.no_info ≡ Policies.info_of (slots_in base) blocks (rows_of base past)
        (open_looks past) sb
    info = get_or-map-range_with_len (Policies.info_of (slots_in base) blocks (rows_of base past) (open_looks past)) 0
        (length blocks) sb sb Policies.no_info long (omega arith)

    no_candidate : (States.is_sealed (state_of base past sb) && nat_lt (live_of base past sb) (slots_in base)) ≡ false
    no_candidate =
        subst (λ (block : BlockBase). (States.is_sealed block.state && nat_lt (live_of base past sb) (slots_in base)) ≡ false)
        (block_is base past sb lt)
        (subst (λ (i : SbInfo). Policies.is_candidate i ≡ false) info
        (none_pass Policies.is_candidate (table_of base past) sb Policies.no_info full.no_garbage
        (omega (
          arith,
          long,
          length-map-range_with_len
              (Policies.info_of (slots_in base) blocks (rows_of base past) (open_looks past)) 0 (length blocks),
        ))))

    enough : (l n : ℕ) → nat_lt l n ≡ false → n ≤ l
    enough l n e = grind (arith, nat_tests)

    by_state : (state : SbState) → state_of base past sb ≡ state → IsTaken base past sb
    by_state SbState.Bad e = inl (ap {B = Bool} States.is_bad e)
    by_state SbState.Free e = inr (inl (ap {B = Bool} States.is_free e))
    by_state SbState.Sealed e =
        inr (inr (enough (live_of base past sb) (slots_in base)
        (sym (ap {B = Bool} (λ (s : SbState). States.is_sealed s && nat_lt (live_of base past sb) (slots_in base)) e)
        ∙ no_candidate)))
    by_state SbState.Frontier e =
        absurd (true_is_false (sym (ap {B = Bool} States.is_frontier e) ∙ fails Blocks.is_frontier_block full.no_frontier))
      where
        true_is_false : true ≡ false → ⊥
        true_is_false f = grind arith
    by_state SbState.Victim e =
        absurd (true_is_false (sym (ap {B = Bool} States.is_victim e) ∙ fails Blocks.is_victim_block full.no_victim))
      where
        true_is_false : true ≡ false → ⊥
        true_is_false f = grind arith

-- so rows that fit leave one superblock with garbage, or more than one free
pub fitting_rows_leave_room : FittingRowsLeaveRoom
fitting_rows_leave_room base past fit = by_test (is_full base past) refl
  where
    few_rows : count_by (names_below base.shape.superblocks) (rows_of base past) ≤ base.shape.rows
    few_rows =
        omega (
          arith,
          count_by-le-length (names_below base.shape.superblocks) (rows_of base past),
          length-map-range_with_len (row_of base past) 0 base.shape.rows,
        )

    product : (a b c : ℕ) → a * b * c ≡ a * (c * b)
    product a b c = grind arith

    never : SaysFull base past → ⊥
    never full =
        too_few base.shape.superblocks (count_of_bad base past) (slots_in base) base.shape.rows
        (omega (
          arith,
          few_rows,
          slots_taken base past (full_is_taken base past full) base.shape.superblocks (omega arith),
          ap {B = ℕ} (λ (m : ℕ). (count_of_bad base past + m) * slots_in base) full.one_free,
        ))
        (omega (
          arith,
          fit,
          product (base.shape.superblocks - (2 + count_of_bad base past))
              (base.shape.dies - 1) base.shape.pages,
        ))
        base.shape.within.rows_low (some_slots base.shape)

    by_test : (b : Bool) → is_full base past ≡ b → b ≡ false
    by_test true full = absurd (never (full_parts base past full))
    by_test false other = refl

-- ---- entries of no bad kind

-- a superblock is told to be bad where it is
pub bad_state : (bad picked : Bool) (slots used : ℕ) → States.is_bad (state_by bad picked slots used) ≡ bad
bad_state true picked slots used = refl
bad_state false true slots used = refl
bad_state false false slots used = by_tests (used == 0) (used == slots)
  where
    by_tests : (a b : Bool) → States.is_bad (if a then SbState.Free else if b then SbState.Sealed else SbState.Frontier) ≡ false
    by_tests true b = refl
    by_tests false true = refl
    by_tests false false = refl

-- an entry of no bad kind turns none bad
turns_none : (sb : ℕ) (kind : Kind) → is_bad_kind kind ≡ false → turns_bad sb kind ≡ false
turns_none sb (Kind.BadWrite row slot die fault) e = absurd (grind arith)
turns_none sb (Kind.BadCopy at slot die fault) e = absurd (grind arith)
turns_none sb (Kind.BadErase named die fault) e = absurd (grind arith)
turns_none sb kind e = refl

-- a superblock is bad after it just where it was before
same_bad : (base : ChannelBase) (entry : Entry) (past : List Entry) (sb : ℕ) → is_bad_kind entry.kind ≡ false
    → is_bad_block (block_of base (entry ∷ past) sb) ≡ is_bad_block (block_of base past sb)
same_bad base entry past sb good =
    bad_state (is_bad_superblock base (entry ∷ past) sb) (is_picked base (entry ∷ past) sb) (slots_in base)
    (used_of base (entry ∷ past) sb)
    ∙ ap {B = Bool} (λ (b : Bool). States.is_bad (block_before base sb).state ||
    (b || list_any (λ other. turns_bad sb other.kind) past)) (turns_none sb entry.kind good)
    ∙ sym (bad_state (is_bad_superblock base past sb) (is_picked base past sb) (slots_in base) (used_of base past sb))

-- so as many are bad
same_count : (base : ChannelBase) (entry : Entry) (past : List Entry) → is_bad_kind entry.kind ≡ false → (n : ℕ)
    → count_by is_bad_block (first_blocks base (entry ∷ past) n) ≡ count_by is_bad_block (first_blocks base past n)
same_count base entry past good zero = refl
same_count base entry past good (suc n) =
    omega (
      arith,
      count_more is_bad_block base (entry ∷ past) n,
      count_more is_bad_block base past n,
      ap {B = ℕ} one (same_bad base entry past n good),
      same_count base entry past good n,
    )

-- and after any newer entries of no bad kind
pub bad_stays : (base : ChannelBase) (newer past : List Entry) → has_no_bad_kind newer ≡ true
    → count_of_bad base (newer ++ past) ≡ count_of_bad base past
bad_stays base [] past good = refl
bad_stays base (entry ∷ newer) past good =
    let parts : (is_bad_kind entry.kind ≡ false) × (has_no_bad_kind newer ≡ true) = good_parts entry newer good in
    same_count base entry (newer ++ past) parts.0 base.shape.superblocks ∙ bad_stays base newer past parts.1

-- so the rows still fit
pub never_full : NeverFull
never_full base newer past fit good =
    fitting_rows_leave_room base (newer ++ past)
    (subst (λ (bad : ℕ). base.shape.rows ≤ most_rows_of (sizes_of base.shape) bad) (sym (bad_stays base newer past good)) fit)
