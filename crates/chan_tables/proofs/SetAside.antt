-- What open looks have set aside covers a sense, the end of a copy, a leave and what any step leaves of it.
use Rattle.std.proofs.Common.{◌≡◌, ℕ, ◌+◌, ◌*◌, ◌<◌, ◌≤◌, ◌||◌, cond, Bool, true, false, List, [], ◌∷◌, ◌++◌, length, Some, refl, sym, ◌∙◌, ap, subst, arith, length-append}
use Rattle.std.specs.Prelude.{if◌then◌else◌, sum_by, is_some, IsSome}
use Rattle.std.proofs.lemmas.Bool.{eqb-true}
use Rattle.std.proofs.lemmas.List.Sums.{sum_by-cons}
use Rattle.ssd_histories.specs.CallSteps.{is_sense_of}
use Rattle.ssd_histories.specs.Copies.{is_after_recovered, is_after_uncorrectable}
use Rattle.ssd_histories.specs.Lawful.{has_fault_sense, is_fault_sense_of}
use Rattle.ssd_histories.specs.OpenLooks.{began_at, look_at, without_look}
use Rattle.ssd_geo.specs.declared.entry.Entry.{Entry}
use Rattle.ssd_geo.specs.declared.look.Look.{Look}
use Rattle.ssd_geo.specs.declared.tag.Tag.{Tag}
use Rattle.chan_tables.specs.TablesState.{UsesOne, ends_recovered, ends_uncorrectable, needed_for, senses_had, set_aside}

-- each open look has at most 255 entries set aside
left_few : (b : Bool) → (if b then 0 else 1) ≤ 1
left_few true = omega arith
left_few false = omega arith

pub sum_few : (past : List Entry) (looks : List (Tag × Look)) → sum_by (set_aside past) looks ≤ 255 * length looks
sum_few past [] = omega arith
sum_few past (pin ∷ looks) =
    omega (
      arith,
      sum_by-cons (set_aside past) pin looks,
      left_few (ends_recovered past pin.1.at),
      left_few (ends_uncorrectable past pin.1.at),
      left_few (has_fault_sense past pin.1.at),
      sum_few past looks,
    )

-- one more entry of a look's senses, or none
one_more : (past : List Entry) (entry : Entry) (at : ℕ) (b : Bool) → is_sense_of at entry.kind ≡ b
    → senses_had (entry ∷ past) at ≡ cond b 1 0 + senses_had past at
one_more past entry at b e =
    sum_by-cons (λ (other : Entry). cond (is_sense_of at other.kind) 1 0) entry past
    ∙ ap (λ (c : Bool). cond c 1 0 + senses_had past at) e

-- what is left of one entry that is set aside for a kind, after a test for it
left_kept : (a b : Bool) → (if a || b then 0 else 1) ≤ (if b then 0 else 1)
left_kept true true = omega arith
left_kept true false = omega arith
left_kept false b = omega arith

left_used : (a b : Bool) → a ≡ true → b ≡ false → (if a || b then 0 else 1) + 1 ≤ (if b then 0 else 1)
left_used true true e f = absurd (grind arith)
left_used true false e f = omega arith
left_used false b e f = absurd (grind arith)

-- one more entry sets nothing more aside for a look
senses_kept : (past : List Entry) (entry : Entry) (at : ℕ) (b : Bool) → is_sense_of at entry.kind ≡ b → senses_had past at ≤ senses_had (entry ∷ past) at
senses_kept past entry at true e = omega (arith, one_more past entry at true e)
senses_kept past entry at false e = omega (arith, one_more past entry at false e)

recovered_kept : (past : List Entry) (entry : Entry) (at : ℕ) → (if ends_recovered (entry ∷ past) at then 0 else 1) ≤ (if ends_recovered past at then 0 else 1)
recovered_kept past entry at = left_kept (is_after_recovered at entry.kind) (ends_recovered past at)

uncorrectable_kept : (past : List Entry) (entry : Entry) (at : ℕ) → (if ends_uncorrectable (entry ∷ past) at then 0 else 1) ≤ (if ends_uncorrectable past at then 0 else 1)
uncorrectable_kept past entry at = left_kept (is_after_uncorrectable at entry.kind) (ends_uncorrectable past at)

fault_kept : (past : List Entry) (entry : Entry) (at : ℕ) → (if has_fault_sense (entry ∷ past) at then 0 else 1) ≤ (if has_fault_sense past at then 0 else 1)
fault_kept past entry at = left_kept (is_fault_sense_of at entry.kind) (has_fault_sense past at)

aside_kept : (past : List Entry) (entry : Entry) (pin : Tag × Look) → set_aside (entry ∷ past) pin ≤ set_aside past pin
aside_kept past entry pin =
    omega (
      arith,
      senses_kept past entry pin.1.at (is_sense_of pin.1.at entry.kind) refl,
      recovered_kept past entry pin.1.at,
      uncorrectable_kept past entry pin.1.at,
      fault_kept past entry pin.1.at,
    )

-- an entry sets nothing more aside
pub sum_kept : (past : List Entry) (entry : Entry) (looks : List (Tag × Look)) → sum_by (set_aside (entry ∷ past)) looks ≤ sum_by (set_aside past) looks
sum_kept past entry [] = omega arith
sum_kept past entry (pin ∷ looks) =
    omega (
      arith,
      sum_by-cons (set_aside past) pin looks,
      sum_by-cons (set_aside (entry ∷ past)) pin looks,
      aside_kept past entry pin,
      sum_kept past entry looks,
    )

pub uncorrectable_uses : (past : List Entry) (entry : Entry) (at : ℕ) → is_after_uncorrectable at entry.kind ≡ true → ends_uncorrectable past at ≡ false → UsesOne past entry at
uncorrectable_uses past entry at ends none pin here =
    let used : (if ends_uncorrectable (entry ∷ past) pin.1.at then 0 else 1) + 1 ≤ (if ends_uncorrectable past pin.1.at then 0 else 1) =
    left_used (is_after_uncorrectable pin.1.at entry.kind) (ends_uncorrectable past pin.1.at)
    (subst (λ (n : ℕ). is_after_uncorrectable n entry.kind ≡ true) (sym here) ends)
    (subst (λ (n : ℕ). ends_uncorrectable past n ≡ false) (sym here) none) in
    omega (
      arith,
      used,
      senses_kept past entry pin.1.at (is_sense_of pin.1.at entry.kind) refl,
      recovered_kept past entry pin.1.at,
      fault_kept past entry pin.1.at,
    )

sum_used : (past : List Entry) (entry : Entry) (at : ℕ) (looks : List (Tag × Look)) → UsesOne past entry at
    → IsSome (look_at looks at) → sum_by (set_aside (entry ∷ past)) looks + 1 ≤ sum_by (set_aside past) looks
sum_used past entry at [] uses some = absurd (false_is_true some)
  where
    false_is_true : false ≡ true → ⊥
    false_is_true e = cc
sum_used past entry at (pin ∷ looks) uses some =
    by_first (λ rest. sum_used past entry at looks uses rest) (began_at at pin) refl
  where
    by_first : (IsSome (look_at looks at) → sum_by (set_aside (entry ∷ past)) looks + 1 ≤ sum_by (set_aside past) looks)
        → (b : Bool) → began_at at pin ≡ b → sum_by (set_aside (entry ∷ past)) (pin ∷ looks) + 1 ≤ sum_by (set_aside past) (pin ∷ looks)
    by_first more true e =
        omega (
          arith,
          sum_by-cons (set_aside past) pin looks,
          sum_by-cons (set_aside (entry ∷ past)) pin looks,
          uses pin (eqb-true pin.1.at at e),
          sum_kept past entry looks,
        )
    by_first more false e =
        let rest : IsSome (look_at looks at) = subst (λ (b : Bool). is_some (cond b (Some pin) (look_at looks at)) ≡ true) e some in
        omega (
          arith,
          sum_by-cons (set_aside past) pin looks,
          sum_by-cons (set_aside (entry ∷ past)) pin looks,
          aside_kept past entry pin,
          more rest,
        )

-- a look that is left gives back what it has set aside, which is more than its leave
pub sum_left : (past : List Entry) (at : ℕ) (looks : List (Tag × Look)) → IsSome (look_at looks at)
    → sum_by (set_aside past) (without_look looks at) + 84 ≤ sum_by (set_aside past) looks
sum_left past at [] some = absurd (false_is_true some)
  where
    false_is_true : false ≡ true → ⊥
    false_is_true e = cc
sum_left past at (pin ∷ looks) some = by_first (λ rest. sum_left past at looks rest) (began_at at pin) refl
  where
    by_first : (IsSome (look_at looks at) → sum_by (set_aside past) (without_look looks at) + 84 ≤ sum_by (set_aside past) looks)
        → (b : Bool) → began_at at pin ≡ b → sum_by (set_aside past) (without_look (pin ∷ looks) at) + 84 ≤ sum_by (set_aside past) (pin ∷ looks)
    by_first more true e =
        let left : without_look (pin ∷ looks) at ≡ looks = ap (λ (b : Bool). cond b looks (pin ∷ without_look looks at)) e in
        omega (arith, ap (sum_by (set_aside past)) left, sum_by-cons (set_aside past) pin looks)
    by_first more false e =
        let rest : IsSome (look_at looks at) = subst (λ (b : Bool). is_some (cond b (Some pin) (look_at looks at)) ≡ true) e some in
        let left : without_look (pin ∷ looks) at ≡ pin ∷ without_look looks at = ap (λ (b : Bool). cond b looks (pin ∷ without_look looks at)) e in
        omega (
          arith,
          ap (sum_by (set_aside past)) left,
          sum_by-cons (set_aside past) pin looks,
          sum_by-cons (set_aside past) pin (without_look looks at),
          more rest,
        )

-- the history with a look's entry, one of an open look, and a leave's
pub opened_fits : (past : List Entry) (entry : Entry) (looks : List (Tag × Look)) (pin : Tag × Look)
    → needed_for (entry ∷ past) (looks ++ pin ∷ []) ≤ length past + 256 * (length looks + 1)
opened_fits past entry looks pin =
    omega (arith, sum_few (entry ∷ past) (looks ++ pin ∷ []), length-append looks (pin ∷ []))

pub unopened_fits : (past : List Entry) (entry : Entry) (looks : List (Tag × Look)) → needed_for (entry ∷ past) looks ≤ length past + 256 * (length looks + 1)
unopened_fits past entry looks = omega (arith, sum_few (entry ∷ past) looks)

pub uses_fits : (past : List Entry) (entry : Entry) (at : ℕ) (looks : List (Tag × Look)) → UsesOne past entry at
    → IsSome (look_at looks at) → needed_for (entry ∷ past) looks ≤ needed_for past looks
uses_fits past entry at looks uses some = omega (arith, sum_used past entry at looks uses some)

pub leave_fits : (past : List Entry) (entry : Entry) (at : ℕ) (looks : List (Tag × Look)) → IsSome (look_at looks at)
    → needed_for (entry ∷ past) (without_look looks at) ≤ needed_for past looks
leave_fits past entry at looks some =
    omega (arith, sum_kept past entry (without_look looks at), sum_left past at looks some)

-- an entry of a step outside a look, for which room was made
pub spare_fits : (past : List Entry) (entry : Entry) (looks : List (Tag × Look)) → needed_for (entry ∷ past) looks ≤ needed_for past looks + 1
spare_fits past entry looks = omega (arith, sum_kept past entry looks)

-- the room for it
pub needed_few : (past : List Entry) (looks : List (Tag × Look)) → needed_for past looks + 1 ≤ length past + (256 * length looks + 1)
needed_few past looks = omega (arith, sum_few past looks)

-- while a look is open there is room for its leave
pub open_room : (past : List Entry) (at : ℕ) (looks : List (Tag × Look)) → IsSome (look_at looks at) → length past < needed_for past looks
open_room past at looks some = omega (arith, sum_left past at looks some)
