-- In a copy, in a round and in the parts of a write and a collect each look of a page has its leave.
use Rattle.std.proofs.Common.{◌≡◌, ℕ, cond, Bool, true, false, List, [], ◌∷◌, ◌++◌, refl, sym, subst, ap, inl, inr, arith}
use Rattle.std.specs.Prelude.{All, count_by, flat_map}
use Rattle.std.specs.List.{list_all}
use Rattle.std.proofs.lemmas.Bool.{and_parts, false≢true}
use Rattle.std.proofs.lemmas.List.Elements.{All-head, All-tail}
use Rattle.std.proofs.lemmas.List.Sums.{sum_by-append, sum_by-cons}
use Rattle.ssd_geo.specs.Ladder.{LadderState}
use Rattle.ssd_geo.specs.declared.base.ChannelBase.{ChannelBase}
use Rattle.ssd_geo.specs.declared.entry.Entry.{Entry}
use Rattle.ssd_geo.specs.declared.kind.Kind.{Kind}
use Rattle.ssd_geo.specs.declared.row.Row.{Row}
use Rattle.ssd_histories.specs.CallSteps.{CallStep, is_erase_or_bad_erase, is_leave_of, is_look_at_row, is_look_of_none, is_look_of_page, is_pick, is_sense_of, position_of}
use Rattle.ssd_histories.specs.CallsInOrder.{IsSomeRefresh}
use Rattle.ssd_histories.specs.Copies.{IsCopy, IsLookList, IsRefresh, is_lone_look, is_refreshed}
use Rattle.ssd_histories.specs.Rounds.{IsLeftRound, IsRound, IsVictimCopy, IsWritePart, is_at_most_one, is_failed_write, is_note, is_one}
use Rattle.serial_laws.proofs.LookLists.{by_kind, copy_ends, is_end_kind, refresh_ends}
use Rattle.race_laws.proofs.LookCounts.{is_leave}

abbrev looks_in : List CallStep → ℕ
looks_in steps = count_by (by_kind is_look_of_page) steps

abbrev leaves_in : List CallStep → ℕ
leaves_in steps = count_by (by_kind is_leave) steps

-- some steps have as many leaves as looks of pages
abbrev pub AreBalanced : List CallStep → Type 0
AreBalanced steps = count_by (by_kind is_leave) steps ≡ count_by (by_kind is_look_of_page) steps

pub balanced_join : (xs ys : List CallStep) → AreBalanced xs → AreBalanced ys → AreBalanced (xs ++ ys)
balanced_join xs ys first second =
    let looks = sum_by-append (λ (step : CallStep). cond (is_look_of_page step.entry.kind) 1 0) xs ys in
    let leaves = sum_by-append (λ (step : CallStep). cond (is_leave step.entry.kind) 1 0) xs ys in
    omega (arith, looks, leaves, first, second)

-- a kind that is neither a look of a page nor a leave
abbrev IsNeither : Kind → Type 0
IsNeither kind = (is_look_of_page kind ≡ false) × (is_leave kind ≡ false)

one_neither : (step : CallStep) (steps : List CallStep) → IsNeither step.entry.kind → AreBalanced steps →
    AreBalanced (step ∷ steps)
one_neither step steps neither rest =
    let looks = sum_by-cons (λ (step : CallStep). cond (is_look_of_page step.entry.kind) 1 0) step steps in
    let leaves = sum_by-cons (λ (step : CallStep). cond (is_leave step.entry.kind) 1 0) step steps in
    let no_look : ◌≡◌ {A = ℕ} (cond (is_look_of_page step.entry.kind) 1 0) 0 =
    ap {B = ℕ} (λ (b : Bool). cond b 1 0) neither.0 in
    let no_leave : ◌≡◌ {A = ℕ} (cond (is_leave step.entry.kind) 1 0) 0 = ap {B = ℕ} (λ (b : Bool). cond b 1 0) neither.1 in
    omega (arith, looks, leaves, no_look, no_leave, rest)

of_sense : (at : ℕ) (kind : Kind) → is_sense_of at kind ≡ true → IsNeither kind
of_sense at (Kind.Sense named place level) e = (refl, refl)
of_sense at kind e = absurd (false≢true e)

of_end : (kind : Kind) → is_end_kind kind ≡ true → IsNeither kind
of_end (Kind.FaultSense at place level) e = (refl, refl)
of_end (Kind.Move at slot) e = (refl, refl)
of_end (Kind.Changed at found) e = (refl, refl)
of_end (Kind.Stay at worn) e = (refl, refl)
of_end (Kind.BadCopy at slot die fault) e = (refl, refl)
of_end (Kind.Condemn at) e = (refl, refl)
of_end kind e = absurd (false≢true e)

of_pick : (kind : Kind) → is_pick kind ≡ true → IsNeither kind
of_pick (Kind.Pick sb) e = (refl, refl)
of_pick kind e = absurd (false≢true e)

of_erase : (kind : Kind) → is_erase_or_bad_erase kind ≡ true → IsNeither kind
of_erase (Kind.Erase sb) e = (refl, refl)
of_erase (Kind.BadErase sb die fault) e = (refl, refl)
of_erase kind e = absurd (false≢true e)

of_failed : (row : ℕ) (kind : Kind) → is_failed_write row kind ≡ true → IsNeither kind
of_failed row (Kind.BadWrite named slot die fault) e = (refl, refl)
of_failed row kind e = absurd (false≢true e)

of_note : (kind : Kind) → is_note kind ≡ true → IsNeither kind
of_note (Kind.Note free victim live pins garbage) e = (refl, refl)
of_note kind e = absurd (false≢true e)

look_alone : (kind : Kind) → is_look_of_page kind ≡ true → is_leave kind ≡ false
look_alone (Kind.Look row found closed) e = refl
look_alone kind e = absurd (false≢true e)

leave_is : (at : ℕ) (kind : Kind) → is_leave_of at kind ≡ true → (is_look_of_page kind ≡ false) × (is_leave kind ≡ true)
leave_is at (Kind.Leave named) e = (refl, refl)
leave_is at kind e = absurd (false≢true e)

-- the senses of a look and what stands before its leave
senses_then : (at : ℕ) (senses rest : List CallStep) → list_all (λ step. is_sense_of at step.entry.kind) senses ≡ true →
    (looks_in (senses ++ rest) ≡ looks_in rest) × (leaves_in (senses ++ rest) ≡ leaves_in rest)
senses_then at [] rest are = (refl, refl)
senses_then at (step ∷ senses) rest are =
    let parts = and_parts (is_sense_of at step.entry.kind) (list_all (λ step. is_sense_of at step.entry.kind) senses) are in
    let neither = of_sense at step.entry.kind parts.0 in
    let later = senses_then at senses rest parts.1 in
    let looks = sum_by-cons (λ (step : CallStep). cond (is_look_of_page step.entry.kind) 1 0) step (senses ++ rest) in
    let leaves = sum_by-cons (λ (step : CallStep). cond (is_leave step.entry.kind) 1 0) step (senses ++ rest) in
    let no_look : ◌≡◌ {A = ℕ} (cond (is_look_of_page step.entry.kind) 1 0) 0 =
    ap {B = ℕ} (λ (b : Bool). cond b 1 0) neither.0 in
    let no_leave : ◌≡◌ {A = ℕ} (cond (is_leave step.entry.kind) 1 0) 0 = ap {B = ℕ} (λ (b : Bool). cond b 1 0) neither.1 in
    let first : looks_in ((step ∷ senses) ++ rest) ≡ looks_in rest = omega (arith, looks, no_look, later.0) in
    let second : leaves_in ((step ∷ senses) ++ rest) ≡ leaves_in rest = omega (arith, leaves, no_leave, later.1) in
    (first, second)

pub copy_balanced : (ladder : List Entry → ℕ → LadderState) (steps : List CallStep) (look : CallStep) →
    IsCopy ladder steps look → AreBalanced steps
copy_balanced ladder steps look copy =
    let list : IsLookList steps look (copy.ending ∷ []) copy.leave = copy.is_list in
    let look_one : CallStep → ℕ = λ step. cond (is_look_of_page step.entry.kind) 1 0 in
    let leave_one : CallStep → ℕ = λ step. cond (is_leave step.entry.kind) 1 0 in
    let front : List CallStep = (look ∷ list.senses) ++ copy.ending ∷ [] in
    let looks : looks_in steps ≡ looks_in (front ++ copy.leave ∷ []) = ap looks_in list.are_steps in
    let leaves : leaves_in steps ≡ leaves_in (front ++ copy.leave ∷ []) = ap leaves_in list.are_steps in
    let looks_last = sum_by-append look_one front (copy.leave ∷ []) in
    let leaves_last = sum_by-append leave_one front (copy.leave ∷ []) in
    let looks_leave = sum_by-cons look_one copy.leave [] in
    let leaves_leave = sum_by-cons leave_one copy.leave [] in
    let looks_first = sum_by-cons look_one look (list.senses ++ copy.ending ∷ []) in
    let leaves_first = sum_by-cons leave_one look (list.senses ++ copy.ending ∷ []) in
    let middle = senses_then (position_of look) list.senses (copy.ending ∷ []) list.are_senses in
    let looks_end = sum_by-cons look_one copy.ending [] in
    let leaves_end = sum_by-cons leave_one copy.ending [] in
    let ends = of_end copy.ending.entry.kind (copy_ends ladder (position_of look) copy.ending copy.ends) in
    let last = leave_is (position_of look) copy.leave.entry.kind list.is_left in
    let end_no_look : look_one copy.ending ≡ 0 = ap {B = ℕ} (λ (b : Bool). cond b 1 0) ends.0 in
    let end_no_leave : leave_one copy.ending ≡ 0 = ap {B = ℕ} (λ (b : Bool). cond b 1 0) ends.1 in
    let leave_no_look : look_one copy.leave ≡ 0 = ap {B = ℕ} (λ (b : Bool). cond b 1 0) last.0 in
    let leave_is_one : leave_one copy.leave ≡ 1 = ap {B = ℕ} (λ (b : Bool). cond b 1 0) last.1 in
    let look_is_one : look_one look ≡ 1 = ap {B = ℕ} (λ (b : Bool). cond b 1 0) list.finds_page in
    let look_no_leave : leave_one look ≡ 0 =
    ap {B = ℕ} (λ (b : Bool). cond b 1 0) (look_alone look.entry.kind list.finds_page) in
    omega (
      arith,
      looks,
      leaves,
      looks_last,
      leaves_last,
      looks_leave,
      leaves_leave,
      looks_first,
      leaves_first,
      middle.0,
      middle.1,
      looks_end,
      leaves_end,
      end_no_look,
      end_no_leave,
      leave_no_look,
      leave_is_one,
      look_is_one,
      look_no_leave,
    )

pub copies_balanced : (ladder : List Entry → ℕ → LadderState) (base : ChannelBase) (copies : List (List CallStep)) →
    All (IsVictimCopy ladder base) copies → AreBalanced (flat_map (λ copy. copy) copies)
copies_balanced ladder base [] are = refl
copies_balanced ladder base (copy ∷ copies) are =
    let first : IsVictimCopy ladder base copy = All-head (IsVictimCopy ladder base) copy copies are in
    balanced_join copy (flat_map (λ copy. copy) copies) (copy_balanced ladder copy first.look first.is_copy)
    (copies_balanced ladder base copies (All-tail (IsVictimCopy ladder base) copy copies are))

-- at most one step of a kind
one_balanced : (test : Kind → Bool) → ((kind : Kind) → test kind ≡ true → IsNeither kind) → (steps : List CallStep) →
    is_at_most_one test steps ≡ true → AreBalanced steps
one_balanced test of_test [] e = refl
one_balanced test of_test (step ∷ []) e = one_neither step [] (of_test step.entry.kind e) refl
one_balanced test of_test (step ∷ next ∷ steps) e = absurd (false≢true e)

just_one_balanced : (test : Kind → Bool) → ((kind : Kind) → test kind ≡ true → IsNeither kind) → (steps : List CallStep) →
    is_one test steps ≡ true → AreBalanced steps
just_one_balanced test of_test [] e = absurd (false≢true e)
just_one_balanced test of_test (step ∷ []) e = one_neither step [] (of_test step.entry.kind e) refl
just_one_balanced test of_test (step ∷ next ∷ steps) e = absurd (false≢true e)

pub round_balanced : (ladder : List Entry → ℕ → LadderState) (base : ChannelBase) (steps : List CallStep) →
    IsRound ladder base steps → AreBalanced steps
round_balanced ladder base steps round =
    subst AreBalanced (sym round.are_steps)
    (balanced_join (round.picks ++ flat_map (λ copy. copy) round.copies) round.erases
    (balanced_join round.picks (flat_map (λ copy. copy) round.copies)
    (one_balanced is_pick of_pick round.picks round.one_pick)
    (copies_balanced ladder base round.copies round.are_copies))
    (one_balanced is_erase_or_bad_erase of_erase round.erases round.one_erase))

-- what a write and a collect make before their last part
pub write_part_balanced : (ladder : List Entry → ℕ → LadderState) (base : ChannelBase) (row : ℕ) (steps : List CallStep) →
    IsWritePart ladder base row steps → AreBalanced steps
write_part_balanced ladder base row steps (inl failed) =
    just_one_balanced (is_failed_write row) (of_failed row) steps failed
write_part_balanced ladder base row steps (inr round) = round_balanced ladder base steps round.is_round

pub left_round_balanced : (ladder : List Entry → ℕ → LadderState) (base : ChannelBase) (steps : List CallStep) →
    IsLeftRound ladder base steps → AreBalanced steps
left_round_balanced ladder base steps left =
    subst AreBalanced (sym left.are_steps)
    (balanced_join left.round (left.note ∷ []) (round_balanced ladder base left.round left.is_round.is_round)
    (one_neither left.note [] (of_note left.note.entry.kind left.is_note) refl))

-- a refresh: a look that found no page alone, or the look of a page with its leave
of_none : (kind : Kind) → is_look_of_none kind ≡ true → IsNeither kind
of_none (Kind.Look row Row.Empty closed) e = (refl, refl)
of_none (Kind.Look row Row.Lost closed) e = (refl, refl)
of_none (Kind.Look row (Row.Page slot serial) closed) e = absurd (false≢true e)
of_none kind e = absurd (false≢true e)

lone_balanced : (row : ℕ) (steps : List CallStep) → is_lone_look row steps ≡ true → AreBalanced steps
lone_balanced row [] e = absurd (false≢true e)
lone_balanced row (step ∷ []) e =
    one_neither step []
    (of_none step.entry.kind (and_parts (is_look_of_none step.entry.kind) (is_look_at_row row step.entry.kind) e).0) refl
lone_balanced row (step ∷ next ∷ steps) e = absurd (false≢true e)

-- what stands between the senses and the leave is balanced, so the whole is
list_balanced : (steps : List CallStep) (look : CallStep) (ending : List CallStep) (leave : CallStep) →
    IsLookList steps look ending leave → (looks_in ending ≡ 0) × (leaves_in ending ≡ 0) → AreBalanced steps
list_balanced steps look ending leave list none =
    let look_one : CallStep → ℕ = λ step. cond (is_look_of_page step.entry.kind) 1 0 in
    let leave_one : CallStep → ℕ = λ step. cond (is_leave step.entry.kind) 1 0 in
    let front : List CallStep = (look ∷ list.senses) ++ ending in
    let looks : looks_in steps ≡ looks_in (front ++ leave ∷ []) = ap looks_in list.are_steps in
    let leaves : leaves_in steps ≡ leaves_in (front ++ leave ∷ []) = ap leaves_in list.are_steps in
    let looks_last = sum_by-append look_one front (leave ∷ []) in
    let leaves_last = sum_by-append leave_one front (leave ∷ []) in
    let looks_leave = sum_by-cons look_one leave [] in
    let leaves_leave = sum_by-cons leave_one leave [] in
    let looks_first = sum_by-cons look_one look (list.senses ++ ending) in
    let leaves_first = sum_by-cons leave_one look (list.senses ++ ending) in
    let middle = senses_then (position_of look) list.senses ending list.are_senses in
    let last = leave_is (position_of look) leave.entry.kind list.is_left in
    let leave_no_look : look_one leave ≡ 0 = ap {B = ℕ} (λ (b : Bool). cond b 1 0) last.0 in
    let leave_is_one : leave_one leave ≡ 1 = ap {B = ℕ} (λ (b : Bool). cond b 1 0) last.1 in
    let look_is_one : look_one look ≡ 1 = ap {B = ℕ} (λ (b : Bool). cond b 1 0) list.finds_page in
    let look_no_leave : leave_one look ≡ 0 =
    ap {B = ℕ} (λ (b : Bool). cond b 1 0) (look_alone look.entry.kind list.finds_page) in
    omega (
      arith,
      looks,
      leaves,
      looks_last,
      leaves_last,
      looks_leave,
      leaves_leave,
      looks_first,
      leaves_first,
      middle.0,
      middle.1,
      none.0,
      none.1,
      leave_no_look,
      leave_is_one,
      look_is_one,
      look_no_leave,
    )

none_in_ending : (ladder : List Entry → ℕ → LadderState) (at : ℕ) (ending : List CallStep) (leave : CallStep) →
    is_refreshed ladder at ending leave ≡ true → (looks_in ending ≡ 0) × (leaves_in ending ≡ 0)
none_in_ending ladder at [] leave e = (refl, refl)
none_in_ending ladder at (step ∷ []) leave e =
    let neither = of_end step.entry.kind (refresh_ends ladder at step e) in
    let looks = sum_by-cons (λ (step : CallStep). cond (is_look_of_page step.entry.kind) 1 0) step [] in
    let leaves = sum_by-cons (λ (step : CallStep). cond (is_leave step.entry.kind) 1 0) step [] in
    let no_look : ◌≡◌ {A = ℕ} (cond (is_look_of_page step.entry.kind) 1 0) 0 =
    ap {B = ℕ} (λ (b : Bool). cond b 1 0) neither.0 in
    let no_leave : ◌≡◌ {A = ℕ} (cond (is_leave step.entry.kind) 1 0) 0 = ap {B = ℕ} (λ (b : Bool). cond b 1 0) neither.1 in
    let first : looks_in (step ∷ []) ≡ 0 = omega (arith, looks, no_look) in
    let second : leaves_in (step ∷ []) ≡ 0 = omega (arith, leaves, no_leave) in
    (first, second)
none_in_ending ladder at (step ∷ next ∷ steps) leave e = absurd (false≢true e)

refresh_balanced : (ladder : List Entry → ℕ → LadderState) (row : ℕ) (steps : List CallStep) → IsRefresh ladder row steps →
    AreBalanced steps
refresh_balanced ladder row steps (inl lone) = lone_balanced row steps lone
refresh_balanced ladder row steps (inr page) =
    list_balanced steps page.look page.ending page.leave page.is_list
    (none_in_ending ladder (position_of page.look) page.ending page.leave page.ends)

pub refreshes_balanced : (ladder : List Entry → ℕ → LadderState) (refreshes : List (List CallStep)) →
    All (IsSomeRefresh ladder) refreshes → AreBalanced (flat_map (λ refresh. refresh) refreshes)
refreshes_balanced ladder [] are = refl
refreshes_balanced ladder (steps ∷ refreshes) are =
    let first : IsSomeRefresh ladder steps = All-head (IsSomeRefresh ladder) steps refreshes are in
    balanced_join steps (flat_map (λ refresh. refresh) refreshes) (refresh_balanced ladder first.row steps first.is_refresh)
    (refreshes_balanced ladder refreshes (All-tail (IsSomeRefresh ladder) steps refreshes are))
