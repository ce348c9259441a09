-- The steps of a look, and of copies, reads and refreshes: of their kinds only what stands between the senses and the leave
-- can be a fault, a stay or an end of a round, and that is at most one step.
use Rattle.std.proofs.Common.{ℕ, ◌≡◌, ◌+◌, ◌≤◌, Bool, true, false, cond, List, [], ◌∷◌, ◌++◌, length, refl, sym, ap, subst, ◌∙◌, inl, inr, append_assoc, arith}
use Rattle.std.specs.Prelude.{◌&&◌, ◌||◌, count_by, is_some}
use Rattle.std.specs.List.{list_all, list_any}
use Rattle.std.proofs.lemmas.Bool.{and_parts, false≢true, or_cases, true≢false, or_parts}
use Rattle.std.proofs.lemmas.List.Folds.{list_any-append}
use Rattle.std.proofs.lemmas.List.Sums.{count_by-le-length, sum_by-append, sum_by-cons}
use Rattle.ssd_histories.specs.CallSteps.{CallStep, is_erase_or_bad_erase, is_fault, is_leave_of, is_look_of_page, is_pick, is_sense_of, is_stay, position_of}
use Rattle.ssd_histories.specs.CallsInOrder.{looks_in_steps}
use Rattle.ssd_histories.specs.Copies.{IsCopy, IsLookList, IsRead, IsRefresh, is_after_recovered, is_after_uncorrectable, is_copy_end, is_lone_look, is_read_end, is_refresh_end, is_refreshed}
use Rattle.ssd_geo.specs.Ladder.{LadderState, is_recovered, is_uncorrectable}
use Rattle.ssd_histories.specs.Lawful.{is_fault_sense_of}
use Rattle.ssd_histories.specs.Replies.{row_looked_at}
use Rattle.ssd_histories.specs.Rounds.{ends_in_stay, ends_round, has_erase, has_fault}
use Rattle.ssd_geo.specs.declared.entry.Entry.{Entry}
use Rattle.ssd_geo.specs.declared.kind.Kind.{Kind}
use Rattle.serial_laws.proofs.MadeSteps.{faults_in}

-- a test that passes no step of a look but those between its senses and its leave
pub record IsOfEndings (test : Kind → Bool) : Type 0 where
  pub look : (kind : Kind) → is_look_of_page kind ≡ true → test kind ≡ false
  pub sense : (at : ℕ) (kind : Kind) → is_sense_of at kind ≡ true → test kind ≡ false
  pub leave : (at : ℕ) (kind : Kind) → is_leave_of at kind ≡ true → test kind ≡ false

-- whether a step passes a test by its kind
abbrev pub by_kind : (Kind → Bool) → CallStep → Bool
by_kind test step = test step.entry.kind

pub no_more_than_any : (p : CallStep → Bool) (steps : List CallStep) → list_any p steps ≡ false → count_by p steps ≡ 0
no_more_than_any p [] none = refl
no_more_than_any p (step ∷ steps) none =
    let parts = or_parts (p step) (list_any p steps) none in
    let first : ◌≡◌ {A = ℕ} (cond (p step) 1 0) 0 = ap {B = ℕ} (λ b. cond b 1 0) parts.0 in
    omega (arith, sum_by-cons (λ (x : CallStep). cond (p x) 1 0) step steps, first, no_more_than_any p steps parts.1)

no_sense_passes : (test : Kind → Bool) → IsOfEndings test → (at : ℕ) (senses : List CallStep) →
    list_all (λ step. is_sense_of at step.entry.kind) senses ≡ true → list_any (by_kind test) senses ≡ false
no_sense_passes test inner at [] are = refl
no_sense_passes test inner at (step ∷ senses) are =
    let parts = and_parts (is_sense_of at step.entry.kind) (list_all (λ step. is_sense_of at step.entry.kind) senses) are in
    rw (inner.sense at step.entry.kind parts.0) (no_sense_passes test inner at senses parts.1)

-- how many steps of a look pass a test, by its parts
count_of_parts : (test : Kind → Bool) (steps : List CallStep) (look : CallStep) (ending : List CallStep) (leave : CallStep)
    (list : IsLookList steps look ending leave) →
    count_by (by_kind test) steps
    ≡ cond (test look.entry.kind) 1 0 + count_by (by_kind test) list.senses + count_by (by_kind test) ending + cond
    (test leave.entry.kind) 1 0
count_of_parts test steps look ending leave list =
    let one : CallStep → ℕ = λ step. cond (test step.entry.kind) 1 0 in
    let all : count_by (by_kind test) steps ≡ count_by (by_kind test) (((look ∷ list.senses) ++ ending) ++ leave ∷ []) =
    ap (count_by (by_kind test)) list.are_steps in
    let first = sum_by-append one ((look ∷ list.senses) ++ ending) (leave ∷ []) in
    let second = sum_by-append one (look ∷ list.senses) ending in
    let third = sum_by-cons one look list.senses in
    let last = sum_by-cons one leave [] in
    omega (arith, all, first, second, third, last)

module _ (test : Kind → Bool) (inner : IsOfEndings test) (steps : List CallStep) (look : CallStep) (ending : List CallStep)
    (leave : CallStep) (list : IsLookList steps look ending leave) where
  looks_none : by_kind test look ≡ false
  looks_none = inner.look look.entry.kind list.finds_page

  senses_none : list_any (by_kind test) list.senses ≡ false
  senses_none = no_sense_passes test inner (position_of look) list.senses list.are_senses

  leaves_none : by_kind test leave ≡ false
  leaves_none = inner.leave (position_of look) leave.entry.kind list.is_left

  or_none : (b : Bool) → (b || false) ≡ b
  or_none true = refl
  or_none false = refl

  pub any_is_of_ending : list_any (by_kind test) steps ≡ list_any (by_kind test) ending
  any_is_of_ending =
      let first : list_any (by_kind test) (look ∷ list.senses) ≡ false = rw looks_none senses_none in
      ap (list_any (by_kind test)) list.are_steps
      ∙ list_any-append (by_kind test) ((look ∷ list.senses) ++ ending) (leave ∷ [])
      ∙ rw (list_any-append (by_kind test) (look ∷ list.senses) ending, first, leaves_none)
      (or_none (list_any (by_kind test) ending))

  pub count_is_of_ending : count_by (by_kind test) steps ≡ count_by (by_kind test) ending
  count_is_of_ending =
      let parts = count_of_parts test steps look ending leave list in
      let no_look : ◌≡◌ {A = ℕ} (cond (test look.entry.kind) 1 0) 0 = ap {B = ℕ} (λ b. cond b 1 0) looks_none in
      let no_sense = no_more_than_any (by_kind test) list.senses senses_none in
      let no_leave : ◌≡◌ {A = ℕ} (cond (test leave.entry.kind) 1 0) 0 = ap {B = ℕ} (λ b. cond b 1 0) leaves_none in
      omega (arith, parts, no_look, no_sense, no_leave)

-- faults, stays, erases, picks and ends of rounds are such tests
fault_of_endings : IsOfEndings is_fault
fault_of_endings = record { look = looks; sense = senses; leave = leaves }
  where
    looks : (kind : Kind) → is_look_of_page kind ≡ true → is_fault kind ≡ false
    looks (Kind.Look row found closed) e = refl
    looks kind e = absurd (false≢true e)

    senses : (at : ℕ) (kind : Kind) → is_sense_of at kind ≡ true → is_fault kind ≡ false
    senses at (Kind.Sense named place level) e = refl
    senses at kind e = absurd (false≢true e)

    leaves : (at : ℕ) (kind : Kind) → is_leave_of at kind ≡ true → is_fault kind ≡ false
    leaves at (Kind.Leave named) e = refl
    leaves at kind e = absurd (false≢true e)

stay_of_endings : IsOfEndings is_stay
stay_of_endings = record { look = looks; sense = senses; leave = leaves }
  where
    looks : (kind : Kind) → is_look_of_page kind ≡ true → is_stay kind ≡ false
    looks (Kind.Look row found closed) e = refl
    looks kind e = absurd (false≢true e)

    senses : (at : ℕ) (kind : Kind) → is_sense_of at kind ≡ true → is_stay kind ≡ false
    senses at (Kind.Sense named place level) e = refl
    senses at kind e = absurd (false≢true e)

    leaves : (at : ℕ) (kind : Kind) → is_leave_of at kind ≡ true → is_stay kind ≡ false
    leaves at (Kind.Leave named) e = refl
    leaves at kind e = absurd (false≢true e)

erase_of_endings : IsOfEndings is_erase_or_bad_erase
erase_of_endings = record { look = looks; sense = senses; leave = leaves }
  where
    looks : (kind : Kind) → is_look_of_page kind ≡ true → is_erase_or_bad_erase kind ≡ false
    looks (Kind.Look row found closed) e = refl
    looks kind e = absurd (false≢true e)

    senses : (at : ℕ) (kind : Kind) → is_sense_of at kind ≡ true → is_erase_or_bad_erase kind ≡ false
    senses at (Kind.Sense named place level) e = refl
    senses at kind e = absurd (false≢true e)

    leaves : (at : ℕ) (kind : Kind) → is_leave_of at kind ≡ true → is_erase_or_bad_erase kind ≡ false
    leaves at (Kind.Leave named) e = refl
    leaves at kind e = absurd (false≢true e)

pick_of_endings : IsOfEndings is_pick
pick_of_endings = record { look = looks; sense = senses; leave = leaves }
  where
    looks : (kind : Kind) → is_look_of_page kind ≡ true → is_pick kind ≡ false
    looks (Kind.Look row found closed) e = refl
    looks kind e = absurd (false≢true e)

    senses : (at : ℕ) (kind : Kind) → is_sense_of at kind ≡ true → is_pick kind ≡ false
    senses at (Kind.Sense named place level) e = refl
    senses at kind e = absurd (false≢true e)

    leaves : (at : ℕ) (kind : Kind) → is_leave_of at kind ≡ true → is_pick kind ≡ false
    leaves at (Kind.Leave named) e = refl
    leaves at kind e = absurd (false≢true e)

round_of_endings : IsOfEndings (λ kind. is_stay kind || is_fault kind)
round_of_endings = record {
  look = λ kind e. rw (stay_of_endings.look kind e, fault_of_endings.look kind e) refl;
  sense = λ at kind e. rw (stay_of_endings.sense at kind e, fault_of_endings.sense at kind e) refl;
  leave = λ at kind e. rw (stay_of_endings.leave at kind e, fault_of_endings.leave at kind e) refl;
}

-- whether an entry may stand between the senses of a copy or a refresh and the leave
abbrev pub is_end_kind : Kind → Bool
is_end_kind (Kind.FaultSense at place level) = true
is_end_kind (Kind.Move at slot) = true
is_end_kind (Kind.Changed at found) = true
is_end_kind (Kind.Stay at worn) = true
is_end_kind (Kind.BadCopy at slot die fault) = true
is_end_kind (Kind.Condemn at) = true
is_end_kind _ = false

sense_ends : (at : ℕ) (kind : Kind) → is_fault_sense_of at kind ≡ true → is_end_kind kind ≡ true
sense_ends at (Kind.FaultSense named place level) e = refl
sense_ends at kind e = absurd (false≢true e)

recovered_ends : (at : ℕ) (kind : Kind) → is_after_recovered at kind ≡ true → is_end_kind kind ≡ true
recovered_ends at (Kind.Move named slot) e = refl
recovered_ends at (Kind.Changed named found) e = refl
recovered_ends at (Kind.Stay named worn) e = refl
recovered_ends at (Kind.BadCopy named slot die fault) e = refl
recovered_ends at kind e = absurd (false≢true e)

uncorrectable_ends : (at : ℕ) (kind : Kind) → is_after_uncorrectable at kind ≡ true → is_end_kind kind ≡ true
uncorrectable_ends at (Kind.Condemn named) e = refl
uncorrectable_ends at (Kind.Changed named found) e = refl
uncorrectable_ends at kind e = absurd (false≢true e)

pub refresh_ends : (ladder : List Entry → ℕ → LadderState) (at : ℕ) (step : CallStep) → is_refresh_end ladder at step ≡ true →
    is_end_kind step.entry.kind ≡ true
refresh_ends ladder at step e =
    elim (or_cases (is_fault_sense_of at step.entry.kind)
    (is_recovered (ladder step.past at) && is_after_recovered at step.entry.kind) e) [
      | inl fault ↦ sense_ends at step.entry.kind fault
      | inr after ↦ recovered_ends at step.entry.kind
          (and_parts (is_recovered (ladder step.past at)) (is_after_recovered at step.entry.kind) after).1
    ]

pub copy_ends : (ladder : List Entry → ℕ → LadderState) (at : ℕ) (step : CallStep) → is_copy_end ladder at step ≡ true →
    is_end_kind step.entry.kind ≡ true
copy_ends ladder at step e =
    elim (or_cases (is_fault_sense_of at step.entry.kind ||
    (is_recovered (ladder step.past at) && is_after_recovered at step.entry.kind))
    (is_uncorrectable (ladder step.past at) && is_after_uncorrectable at step.entry.kind) e) [
      | inl first ↦ refresh_ends ladder at step first
      | inr after ↦ uncorrectable_ends at step.entry.kind
          (and_parts (is_uncorrectable (ladder step.past at)) (is_after_uncorrectable at step.entry.kind) after).1
    ]

no_erase_ends : (kind : Kind) → is_end_kind kind ≡ true → is_erase_or_bad_erase kind ≡ false
no_erase_ends (Kind.Erase sb) e = absurd (false≢true e)
no_erase_ends (Kind.BadErase sb die fault) e = absurd (false≢true e)
no_erase_ends kind e = refl

no_pick_ends : (kind : Kind) → is_end_kind kind ≡ true → is_pick kind ≡ false
no_pick_ends (Kind.Pick sb) e = absurd (false≢true e)
no_pick_ends kind e = refl

-- a step that ends a round in which no die's call failed is a stay, and so are its last two steps a stay and a leave
stay_goes_on : (step : CallStep) (steps : List CallStep) → ends_in_stay steps ≡ true → ends_in_stay (step ∷ steps) ≡ true
stay_goes_on step [] e = absurd (false≢true e)
stay_goes_on step (one ∷ []) e = absurd (false≢true e)
stay_goes_on step (one ∷ next ∷ steps) e = e

pub ends_with_stay : (xs ys : List CallStep) → ends_in_stay ys ≡ true → ends_in_stay (xs ++ ys) ≡ true
ends_with_stay [] ys e = e
ends_with_stay (x ∷ xs) ys e = stay_goes_on x (xs ++ ys) (ends_with_stay xs ys e)

-- what a copy is made of
pub record IsCopyMade (steps : List CallStep) : Type 0 where
  pub no_pick : list_any (by_kind is_pick) steps ≡ false
  pub no_erase : has_erase steps ≡ false
  pub one_fault : faults_in steps ≤ 1
  pub stays : ends_round steps ≡ true → has_fault steps ≡ false → ends_in_stay steps ≡ true

pub copy_is_made : (ladder : List Entry → ℕ → LadderState) (steps : List CallStep) (look : CallStep) →
    IsCopy ladder steps look → IsCopyMade steps
copy_is_made ladder steps look copy =
    let kind : Kind = copy.ending.entry.kind in
    let ends : is_end_kind kind ≡ true = copy_ends ladder (position_of look) copy.ending copy.ends in
    record {
      no_pick =
          any_is_of_ending is_pick pick_of_endings steps look (copy.ending ∷ []) copy.leave copy.is_list
          ∙ rw (no_pick_ends kind ends) refl;
      no_erase =
          any_is_of_ending is_erase_or_bad_erase erase_of_endings steps look (copy.ending ∷ []) copy.leave copy.is_list
          ∙ rw (no_erase_ends kind ends) refl;
      one_fault =
          let count = count_is_of_ending is_fault fault_of_endings steps look (copy.ending ∷ []) copy.leave copy.is_list in
          let most = count_by-le-length (by_kind is_fault) (copy.ending ∷ []) in
          omega (arith, count, most);
      stays = λ round no_fault.
          let one = any_is_of_ending (λ kind. is_stay kind || is_fault kind) round_of_endings steps look
          (copy.ending ∷ []) copy.leave copy.is_list in
          let none = any_is_of_ending is_fault fault_of_endings steps look (copy.ending ∷ []) copy.leave copy.is_list in
          let is : is_stay kind ≡ true = only_stay (is_stay kind) (is_fault kind) (sym one ∙ round) (sym none ∙ no_fault) in
          subst (λ list. ends_in_stay list ≡ true)
          (sym (copy.is_list.are_steps ∙ append_assoc (look ∷ copy.is_list.senses) (copy.ending ∷ []) (copy.leave ∷ [])))
          (ends_with_stay (look ∷ copy.is_list.senses) (copy.ending ∷ copy.leave ∷ []) is);
    }
  where
    only_stay : (stay fault : Bool) → ((stay || fault) || false) ≡ true → (fault || false) ≡ false → stay ≡ true
    only_stay true fault round none = refl
    only_stay false true round none = absurd (true≢false none)
    only_stay false false round none = absurd (false≢true round)

-- reads and refreshes have at most one failed die call, and a refresh at most one look
at_most_one_read : (ladder : List Entry → ℕ → LadderState) (at : ℕ) (ending : List CallStep) (leave : CallStep) →
    is_read_end ladder at ending leave ≡ true → length ending ≤ 1
at_most_one_read ladder at [] leave e = omega arith
at_most_one_read ladder at (step ∷ []) leave e = omega arith
at_most_one_read ladder at (step ∷ next ∷ steps) leave e = absurd (false≢true e)

at_most_one_refresh : (ladder : List Entry → ℕ → LadderState) (at : ℕ) (ending : List CallStep) (leave : CallStep) →
    is_refreshed ladder at ending leave ≡ true → length ending ≤ 1
at_most_one_refresh ladder at [] leave e = omega arith
at_most_one_refresh ladder at (step ∷ []) leave e = omega arith
at_most_one_refresh ladder at (step ∷ next ∷ steps) leave e = absurd (false≢true e)

alone : (row : ℕ) (steps : List CallStep) → is_lone_look row steps ≡ true → length steps ≤ 1
alone row [] e = absurd (false≢true e)
alone row (step ∷ []) e = omega arith
alone row (step ∷ next ∷ steps) e = absurd (false≢true e)

few_faults : (steps : List CallStep) (look : CallStep) (ending : List CallStep) (leave : CallStep) →
    IsLookList steps look ending leave → length ending ≤ 1 → faults_in steps ≤ 1
few_faults steps look ending leave list one =
    let count = count_is_of_ending is_fault fault_of_endings steps look ending leave list in
    let most = count_by-le-length (by_kind is_fault) ending in
    omega (arith, count, most, one)

pub read_has_one_fault : (ladder : List Entry → ℕ → LadderState) (row : ℕ) (steps : List CallStep) → IsRead ladder row steps →
    faults_in steps ≤ 1
read_has_one_fault ladder row steps (inl lone) = let most =
    count_by-le-length (by_kind is_fault) steps in omega (arith, most, alone row steps lone)
read_has_one_fault ladder row steps (inr page) =
    few_faults steps page.look page.ending page.leave page.is_list
    (at_most_one_read ladder (position_of page.look) page.ending page.leave page.ends)

pub refresh_has_one_fault : (ladder : List Entry → ℕ → LadderState) (row : ℕ) (steps : List CallStep) →
    IsRefresh ladder row steps → faults_in steps ≤ 1
refresh_has_one_fault ladder row steps (inl lone) = let most =
    count_by-le-length (by_kind is_fault) steps in omega (arith, most, alone row steps lone)
refresh_has_one_fault ladder row steps (inr page) =
    few_faults steps page.look page.ending page.leave page.is_list
    (at_most_one_refresh ladder (position_of page.look) page.ending page.leave page.ends)

abbrev pub is_look : Kind → Bool
is_look kind = is_some (row_looked_at kind)

pub no_look_senses : (at : ℕ) (kind : Kind) → is_sense_of at kind ≡ true → is_look kind ≡ false
no_look_senses at (Kind.Sense named place level) e = refl
no_look_senses at kind e = absurd (false≢true e)

pub no_look_leaves : (at : ℕ) (kind : Kind) → is_leave_of at kind ≡ true → is_look kind ≡ false
no_look_leaves at (Kind.Leave named) e = refl
no_look_leaves at kind e = absurd (false≢true e)

no_look_ends : (kind : Kind) → is_end_kind kind ≡ true → is_look kind ≡ false
no_look_ends (Kind.Look row found closed) e = absurd (false≢true e)
no_look_ends kind e = refl

pub no_senses_look : (at : ℕ) (senses : List CallStep) → list_all (λ step. is_sense_of at step.entry.kind) senses ≡ true →
    list_any (by_kind is_look) senses ≡ false
no_senses_look at [] are = refl
no_senses_look at (step ∷ senses) are =
    let parts = and_parts (is_sense_of at step.entry.kind) (list_all (λ step. is_sense_of at step.entry.kind) senses) are in
    rw (no_look_senses at step.entry.kind parts.0) (no_senses_look at senses parts.1)

pub no_look_in_ending : (ladder : List Entry → ℕ → LadderState) (at : ℕ) (ending : List CallStep) (leave : CallStep) →
    is_refreshed ladder at ending leave ≡ true → list_any (by_kind is_look) ending ≡ false
no_look_in_ending ladder at [] leave e = refl
no_look_in_ending ladder at (step ∷ []) leave e = rw (no_look_ends step.entry.kind (refresh_ends ladder at step e)) refl
no_look_in_ending ladder at (step ∷ next ∷ steps) leave e = absurd (false≢true e)

pub at_most_one : (b : Bool) → cond b 1 0 ≤ 1
at_most_one true = omega arith
at_most_one false = omega arith

pub refresh_has_one_look : (ladder : List Entry → ℕ → LadderState) (row : ℕ) (steps : List CallStep) →
    IsRefresh ladder row steps → looks_in_steps steps ≤ 1
refresh_has_one_look ladder row steps (inl lone) = let most =
    count_by-le-length (by_kind is_look) steps in omega (arith, most, alone row steps lone)
refresh_has_one_look ladder row steps (inr page) =
    let parts = count_of_parts is_look steps page.look page.ending page.leave page.is_list in
    let one_look = at_most_one (is_look page.look.entry.kind) in
    let no_sense = no_more_than_any (by_kind is_look) page.is_list.senses
    (no_senses_look (position_of page.look) page.is_list.senses page.is_list.are_senses) in
    let no_end = no_more_than_any (by_kind is_look) page.ending
    (no_look_in_ending ladder (position_of page.look) page.ending page.leave page.ends) in
    let no_leave : ◌≡◌ {A = ℕ} (cond (is_look page.leave.entry.kind) 1 0) 0 =
    ap {B = ℕ} (λ b. cond b 1 0) (no_look_leaves (position_of page.look) page.leave.entry.kind page.is_list.is_left) in
    omega (arith, parts, one_look, no_sense, no_end, no_leave)
