-- Calls that are numbered by their actors: no two of them have one tag, and the entries of those before a call have smaller
-- numbers than it.
use Rattle.std.proofs.Common.{ℕ, ◌≡◌, ◌+◌, ◌<◌, ◌≤◌, Bool, true, false, cond, List, [], ◌∷◌, ◌++◌, refl, sym, ap, subst, inl, inr, append_assoc, append-nil, arith, eqb-true}
use Rattle.std.proofs.lemmas.Bool.{and_parts, or_cases, false_from_ne_true}
use Rattle.std.specs.Prelude.{◌==◌, ◌||◌, nat_le, not, All, count_by, sum_by}
use Rattle.std.specs.List.{list_any}
use Rattle.std.proofs.lemmas.Bool.Decides.{nat_tests}
use Rattle.std.proofs.lemmas.List.Elements.{All-nil, All-cons, All-head, All-tail}
use Rattle.std.proofs.lemmas.List.Sums.{sum_by-append, sum_by-cons}
use Rattle.ssd_histories.specs.CallsInOrder.{AreNumberedAfter, is_no_later, is_of_call}
use Rattle.ssd_histories.specs.History.{is_same_tag}
use Rattle.ssd_geo.specs.declared.entry.Entry.{Entry}
use Rattle.ssd_geo.specs.declared.tag.Tag.{Tag}
use Rattle.ssd_geo.specs.declared.trace.TraceCall.{TraceCall}
use Rattle.shared_lemmas.proofs.Tests.{same_number}
use Rattle.ssd_histories.proofs.SameTags.{same_parts, same_tag, one_tag}

pub other_way : (a b : Tag) → is_same_tag a b ≡ false → is_same_tag b a ≡ false
other_way a b differs =
    false_from_ne_true (is_same_tag b a) (λ same.
    let itself : is_same_tag a a ≡ false = subst (λ (t : Tag). is_same_tag a t ≡ false) (one_tag b a same) differs in
    absurd (grind (arith, same_tag a)))

-- how many calls an actor has among some
abbrev pub counts_in : List TraceCall → ℕ → ℕ
counts_in calls actor = count_by (λ call. call.tag.actor == actor) calls

-- calls that are numbered after some are so at their front, and the next one after all before it
pub numbered_front : (actors : ℕ) (before xs ys : List TraceCall) → AreNumberedAfter actors before (xs ++ ys) →
    AreNumberedAfter actors before xs
numbered_front actors before [] ys numbered = tt
numbered_front actors before (x ∷ xs) ys numbered = (numbered.0, numbered_front actors (before ++ x ∷ []) xs ys numbered.1)

pub numbered_back : (actors : ℕ) (before xs ys : List TraceCall) → AreNumberedAfter actors before (xs ++ ys) →
    AreNumberedAfter actors (before ++ xs) ys
numbered_back actors before [] ys numbered =
    subst (λ calls. AreNumberedAfter actors calls ys) (sym (append-nil before)) numbered
numbered_back actors before (x ∷ xs) ys numbered =
    subst (λ calls. AreNumberedAfter actors calls ys) (append_assoc before (x ∷ []) xs)
    (numbered_back actors (before ++ x ∷ []) xs ys numbered.1)

-- a call's number is below the count of its actor's calls
abbrev pub IsBelow : (ℕ → ℕ) → Tag → Type 0
IsBelow counts tag = tag.call < counts tag.actor

number_is_below : (before xs : List TraceCall) (x : TraceCall) → x.tag.call ≡ counts_in before x.tag.actor →
    IsBelow (counts_in (before ++ x ∷ xs)) x.tag
number_is_below before xs x number =
    let one : TraceCall → ℕ = λ call. cond (call.tag.actor == x.tag.actor) 1 0 in
    let whole : sum_by one (before ++ x ∷ xs) ≡ sum_by one before + sum_by one (x ∷ xs) = sum_by-append one before (x ∷ xs) in
    let first : sum_by one (x ∷ xs) ≡ one x + sum_by one xs = sum_by-cons one x xs in
    let own : one x ≡ 1 = ap (λ (b : Bool). cond b 1 0) (same_number x.tag.actor) in
    omega (arith, whole, first, own, number)

pub numbers_are_below : (actors : ℕ) (before xs : List TraceCall) → AreNumberedAfter actors before xs →
    All (λ call. IsBelow (counts_in (before ++ xs)) call.tag) xs
numbers_are_below actors before [] numbered = All-nil (λ (call : TraceCall). IsBelow (counts_in (before ++ [])) call.tag)
numbers_are_below actors before (x ∷ xs) numbered =
    All-cons (λ (call : TraceCall). IsBelow (counts_in (before ++ x ∷ xs)) call.tag) x xs
    (number_is_below before xs x numbered.0.is_number)
    (subst (λ calls. All (λ call. IsBelow (counts_in calls) call.tag) xs) (append_assoc before (x ∷ []) xs)
    (numbers_are_below actors (before ++ x ∷ []) xs numbered.1))

-- so is the number of an entry of one of them
pub known_is_below : (counts : ℕ → ℕ) (calls : List TraceCall) (entry : Entry) → All (λ call. IsBelow counts call.tag) calls →
    is_of_call calls entry ≡ true → IsBelow counts entry.tag
known_is_below counts [] entry below known = absurd (grind arith)
known_is_below counts (call ∷ calls) entry below known =
    elim (or_cases (is_same_tag call.tag entry.tag) (list_any (λ other. is_same_tag other.tag entry.tag) calls) known) [
      | inl same ↦
          let parts = same_parts call.tag entry.tag same in
          let own : call.tag.call < counts call.tag.actor =
          All-head (λ (other : TraceCall). IsBelow counts other.tag) call calls below in
          let moved : counts call.tag.actor ≡ counts entry.tag.actor = ap counts parts.0 in
          omega (arith, own, moved, parts.1)
      | inr later ↦ known_is_below counts calls entry
          (All-tail (λ (other : TraceCall). IsBelow counts other.tag) call calls below) later
    ]

-- a tag whose number is no less than the count differs from those below, and is no earlier than they
pub later_tag : (counts : ℕ → ℕ) (tag other : Tag) → counts tag.actor ≤ tag.call →
    IsBelow counts other → is_same_tag tag other ≡ false
later_tag counts tag other late below =
    false_from_ne_true (is_same_tag tag other) (λ same.
    let parts = same_parts tag other same in
    let moved : counts tag.actor ≡ counts other.actor = ap counts parts.0 in
    absurd (omega (arith, late, below, moved, parts.1)))

later_by : (same at_most : Bool) → (same ≡ true → at_most ≡ true) → (not same || at_most) ≡ true
later_by true at_most holds = holds refl
later_by false at_most holds = refl

pub is_later : (counts : ℕ → ℕ) (tag : Tag) (older : Entry) → counts tag.actor ≤ tag.call → IsBelow counts older.tag →
    is_no_later tag older ≡ true
is_later counts tag older late below =
    later_by (older.tag.actor == tag.actor) (nat_le older.tag.call tag.call) (λ same.
    let actors : older.tag.actor ≡ tag.actor = eqb-true older.tag.actor tag.actor same in
    let moved : counts older.tag.actor ≡ counts tag.actor = ap counts actors in
    let low : older.tag.call < tag.call = omega (arith, late, below, moved) in
    grind (arith, nat_tests))

-- the counts don't fall with more calls
pub counts_grow : (before xs : List TraceCall) (actor : ℕ) →
    counts_in before actor ≤ counts_in (before ++ xs) actor
counts_grow before xs actor =
    let whole = sum_by-append (λ (call : TraceCall). cond (call.tag.actor == actor) 1 0) before xs in
    omega (arith, whole)

-- calls that are numbered behind some have numbers no less than the counts of those
abbrev pub IsLate : (ℕ → ℕ) → TraceCall → Type 0
IsLate counts call = counts call.tag.actor ≤ call.tag.call

late_after : (actors : ℕ) (before xs ys : List TraceCall) →
    AreNumberedAfter actors (before ++ xs) ys → All (IsLate (counts_in before)) ys
late_after actors before xs [] numbered = All-nil (IsLate (counts_in before))
late_after actors before xs (y ∷ ys) numbered =
    let number = numbered.0.is_number in
    let grow = counts_grow before xs y.tag.actor in
    All-cons (IsLate (counts_in before)) y ys (omega (arith, number, grow))
    (late_after actors before (xs ++ y ∷ []) ys
    (subst (λ calls. AreNumberedAfter actors calls ys) (append_assoc before xs (y ∷ [])) numbered.1))

pub are_late : (actors : ℕ) (before rest : List TraceCall) → AreNumberedAfter actors before rest →
    All (IsLate (counts_in before)) rest
are_late actors before rest numbered =
    late_after actors before [] rest (subst (λ calls. AreNumberedAfter actors calls rest) (sym (append-nil before)) numbered)
