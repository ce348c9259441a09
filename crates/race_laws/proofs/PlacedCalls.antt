-- The calls of an actor in a trace: a call stands among them at its number, and each of them is a call of the trace.
use Rattle.std.proofs.Common.{ℕ, suc, zero, ◌≡◌, ◌+◌, ◌<◌, ◌==◌, ◌||◌, not, Bool, true, false, cond, List, [], ◌∷◌, ◌++◌, length, Some, refl, sym, ap, subst, ◌∙◌, append_assoc, inl, inr, arith}
use Rattle.std.specs.Prelude.{All, count_by, filter, slice_get}
use Rattle.std.specs.List.{list_all}
use Rattle.std.proofs.lemmas.Bool.{and_parts, or_cases, or_left, or_right}
use Rattle.std.proofs.lemmas.List.Elements.{All-cons, All-nil, filter-append}
use Rattle.std.proofs.lemmas.List.Sums.{sum_by-cons}
use Rattle.ssd_geo.specs.declared.entry.Entry.{Entry}
use Rattle.ssd_geo.specs.declared.trace.TraceCall.{TraceCall}
use Rattle.ssd_histories.specs.CallsInOrder.{AreNumberedAfter, is_of_call}
use Rattle.ssd_histories.specs.History.{is_same_tag}
use Rattle.calls_among_others.specs.ActorsCalls.{is_known_of}
use Rattle.race_laws.specs.Races.{calls_of, first_of}
use Rattle.std.proofs.lemmas.Option.{same_Some}
use Rattle.shared_lemmas.proofs.Tests.{same_number}

pub get_second : {X : Type 0} (xs ys : List X) (k : ℕ) → slice_get (xs ++ ys) (length xs + k) ≡ slice_get ys k
get_second [] ys k = ap (slice_get ys) (none_and k)
  where
    none_and : (n : ℕ) → 0 + n ≡ n
    none_and n = omega arith
get_second (x ∷ xs) ys k = ap (slice_get (x ∷ xs ++ ys)) (one_and (length xs) k) ∙ get_second xs ys k
  where
    one_and : (n m : ℕ) → suc n + m ≡ suc (n + m)
    one_and n m = omega arith

-- how many of a list pass a test
pub filter_length : {X : Type 0} (p : X → Bool) (xs : List X) → length (filter p xs) ≡ count_by p xs
filter_length p [] = refl
filter_length {X} p (x ∷ xs) = by_test (filter_length p xs) (p x) refl
  where
    whole : count_by p (x ∷ xs) ≡ cond (p x) 1 0 + count_by p xs
    whole = sum_by-cons (λ (y : X). cond (p y) 1 0) x xs

    by_test : length (filter p xs) ≡ count_by p xs → (b : Bool) → p x ≡ b →
        length (cond b (x ∷ filter p xs) (filter p xs)) ≡ count_by p (x ∷ xs)
    by_test later true is =
        let one : ◌≡◌ {A = ℕ} (cond (p x) 1 0) 1 = ap {B = ℕ} (λ (b : Bool). cond b 1 0) is in
        omega (arith, whole, one, later)
    by_test later false is =
        let none : ◌≡◌ {A = ℕ} (cond (p x) 1 0) 0 = ap {B = ℕ} (λ (b : Bool). cond b 1 0) is in
        omega (arith, whole, none, later)

-- a call stands at its number among its actor's
abbrev pub IsPlacedIn : List TraceCall → TraceCall → Type 0
IsPlacedIn calls call = slice_get (calls_of call.tag.actor calls) call.tag.call ≡ Some call

is_placed : (before calls : List TraceCall) (call : TraceCall) →
    call.tag.call ≡ count_by (λ older. older.tag.actor == call.tag.actor) before → IsPlacedIn (before ++ call ∷ calls) call
is_placed before calls call number =
    let own : TraceCall → Bool = λ other. other.tag.actor == call.tag.actor in
    let many : length (filter own before) + 0 ≡ call.tag.call = omega (arith, filter_length own before, number) in
    let first : filter own (call ∷ calls) ≡ call ∷ filter own calls =
    ap (λ (b : Bool). cond b (call ∷ filter own calls) (filter own calls)) (same_number call.tag.actor) in
    ap (λ (list : List TraceCall). slice_get list call.tag.call) (filter-append own before (call ∷ calls))
    ∙ ap (slice_get (filter own before ++ filter own (call ∷ calls))) (sym many)
    ∙ get_second (filter own before) (filter own (call ∷ calls)) 0
    ∙ ap (λ (list : List TraceCall). slice_get list 0) first

pub are_placed : (actors : ℕ) (before calls : List TraceCall) → AreNumberedAfter actors before calls →
    All (IsPlacedIn (before ++ calls)) calls
are_placed actors before [] numbered = All-nil (IsPlacedIn (before ++ []))
are_placed actors before (call ∷ calls) numbered =
    All-cons (IsPlacedIn (before ++ call ∷ calls)) call calls (is_placed before calls call numbered.0.is_number)
    (subst (λ (list : List TraceCall). All (IsPlacedIn list) calls) (append_assoc before (call ∷ []) calls)
    (are_placed actors (before ++ call ∷ []) calls numbered.1))

-- the first of some calls is their first item
pub get_of_first : (calls : List TraceCall) (call : TraceCall) → slice_get calls 0 ≡ Some call → first_of calls ≡ call ∷ []
get_of_first [] call is = absurd (grind arith)
get_of_first (first ∷ calls) call is = ap (λ (c : TraceCall). c ∷ []) (same_Some first call is)

-- an entry of one of the first calls is of one of all, and one of an actor's calls of one of the trace
first_known : (xs ys : List TraceCall) (entry : Entry) → is_of_call (xs ++ first_of ys) entry ≡ true →
    is_of_call (xs ++ ys) entry ≡ true
first_known [] [] entry known = known
first_known [] (call ∷ calls) entry known =
    elim (or_cases (is_same_tag call.tag entry.tag) false known) [
      | inl same ↦ or_left (is_same_tag call.tag entry.tag) (is_of_call calls entry) same
      | inr none ↦ absurd (grind arith)
    ]
first_known (call ∷ xs) ys entry known =
    elim (or_cases (is_same_tag call.tag entry.tag) (is_of_call (xs ++ first_of ys) entry) known) [
      | inl same ↦ or_left (is_same_tag call.tag entry.tag) (is_of_call (xs ++ ys) entry) same
      | inr later ↦ or_right (is_same_tag call.tag entry.tag) (is_of_call (xs ++ ys) entry) (first_known xs ys entry later)
    ]

own_known : (actor : ℕ) (calls : List TraceCall) (entry : Entry) → is_of_call (calls_of actor calls) entry ≡ true →
    is_of_call calls entry ≡ true
own_known actor [] entry known = known
own_known actor (call ∷ calls) entry known = by_test (own_known actor calls entry) (call.tag.actor == actor) known
  where
    by_test : (is_of_call (calls_of actor calls) entry ≡ true → is_of_call calls entry ≡ true) → (b : Bool) →
        is_of_call (cond b (call ∷ calls_of actor calls) (calls_of actor calls)) entry ≡ true →
        is_of_call (call ∷ calls) entry ≡ true
    by_test more true is =
        elim (or_cases (is_same_tag call.tag entry.tag) (is_of_call (calls_of actor calls) entry) is) [
          | inl same ↦ or_left (is_same_tag call.tag entry.tag) (is_of_call calls entry) same
          | inr later ↦ or_right (is_same_tag call.tag entry.tag) (is_of_call calls entry) (more later)
        ]
    by_test more false is = or_right (is_same_tag call.tag entry.tag) (is_of_call calls entry) (more is)

-- what a weaker test of each entry says of a past
pub all_weaker : (p q : Entry → Bool) → ((entry : Entry) → p entry ≡ true → q entry ≡ true) → (past : List Entry) →
    list_all p past ≡ true → list_all q past ≡ true
all_weaker p q weaker [] all = refl
all_weaker p q weaker (entry ∷ past) all =
    let parts = and_parts (p entry) (list_all p past) all in
    rw (weaker entry parts.0) (all_weaker p q weaker past parts.1)

pub known_weaker : (actor : ℕ) (xs ys : List TraceCall) (entry : Entry) →
    (is_of_call xs entry ≡ true → is_of_call ys entry ≡ true) → is_known_of actor xs entry ≡ true →
    is_known_of actor ys entry ≡ true
known_weaker actor xs ys entry more known = by_test (entry.tag.actor == actor) known
  where
    by_test : (b : Bool) → (not b || is_of_call xs entry) ≡ true → (not b || is_of_call ys entry) ≡ true
    by_test true is = more is
    by_test false is = refl

pub known_in_trace : (actor : ℕ) (answered rest calls : List TraceCall) (past : List Entry) →
    answered ++ rest ≡ calls_of actor calls → list_all (is_known_of actor (answered ++ first_of rest)) past ≡ true →
    list_all (is_known_of actor calls) past ≡ true
known_in_trace actor answered rest calls past are known =
    all_weaker (is_known_of actor (answered ++ first_of rest)) (is_known_of actor calls)
    (λ entry.
    known_weaker actor (answered ++ first_of rest) calls entry
    (λ is.
    own_known actor calls entry
    (subst (λ (list : List TraceCall). is_of_call list entry ≡ true) are (first_known answered rest entry is))))
    past known
