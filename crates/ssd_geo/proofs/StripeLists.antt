-- The list of a stripe's data dies, and the sum of the due pages of all dies: proofs of two laws of specs/StripeLaws.antt.
use Rattle.std.proofs.Common.{◌≡◌, ℕ, zero, suc, ◌+◌, ◌-◌, ◌/◌, ◌%◌, ◌<◌, ◌≤◌, ◌==◌, ◌&&◌, Bool, true, false, not, cond, if◌then◌else◌, List, [], ◌∷◌, filter, map, sum, sum_by, refl, ap, sym, subst, ◌∙◌, inl, inr, add_assoc, add-one, arith}
use Rattle.std.proofs.Math.Nat.{zero-div}
use Rattle.std.proofs.lemmas.List.Sums.{sum-map, sum_by-cons}
use Rattle.std.proofs.lemmas.Bool.{cases_eq}
use Rattle.std.proofs.lemmas.Bool.Decides.{nat_tests}
use Rattle.std.proofs.lemmas.Nat.{mod_below}
use Rattle.std.specs.List.{range_with_len}
use Rattle.ssd_geo.specs.Stripe.{data_die, parity_die, place_of_slot, stripe_of_index, is_last_of_stripe}
use Rattle.ssd_geo.specs.StripeLaws.{DataDiesAreTheOthers, DuePagesAddUp}
use Rattle.ssd_geo.specs.Superblock.{due_pages}
use Rattle.ssd_geo.proofs.Stripes.{due_pages_ends, due_pages_step, parity_die-lt, data_die-lt, one_more_closed}

-- from the parity's die on, each data die is one further on
above : (p a n : ℕ) → p ≤ a → map (data_die p) (range_with_len a n) ≡ range_with_len (a + 1) n
above p a zero h = refl
above p a (suc n) h =
    let here : data_die p a ≡ a + 1 = grind (arith, nat_tests) in
    ap (λ (d : ℕ). d ∷ map (data_die p) (range_with_len (a + 1) n)) here
    ∙ ap (λ (ds : List ℕ). (a + 1) ∷ ds) (above p (a + 1) n (omega arith))

-- above the parity's die all dies differ from it
above_differ : (p a n : ℕ) → p < a → filter (λ die. not (die == p)) (range_with_len a n) ≡ range_with_len a n
above_differ p a zero h = refl
above_differ p a (suc n) h =
    let here : not (a == p) ≡ true = grind (arith, nat_tests) in
    ap (λ (b : Bool). cond b (a ∷ filter (λ die. not (die == p)) (range_with_len (a + 1) n)) (filter (λ die. not (die == p)) (range_with_len (a + 1) n))) here
    ∙ ap (λ (ds : List ℕ). a ∷ ds) (above_differ p (a + 1) n (omega arith))

-- the dies that differ from the parity's, of n + 1 dies from a on that have it among them
others : (p a n : ℕ) → a ≤ p → p < a + (n + 1) →
    map (data_die p) (range_with_len a n) ≡ filter (λ die. not (die == p)) (range_with_len a (suc n))
others p a zero h k =
    let here : not (a == p) ≡ false = grind (arith, nat_tests) in
    sym (ap (λ (b : Bool). cond b (a ∷ []) []) here)
others p a (suc n) h k =
    elim (cases_eq a p) [
      | inl same ↦
          let here : not (a == p) ≡ false = grind (arith, nat_tests) in
          above p a (suc n) (omega arith)
          ∙ sym (above_differ p (a + 1) (suc n) (omega arith))
          ∙ sym (ap (λ (b : Bool). cond b (a ∷ filter (λ die. not (die == p)) (range_with_len (a + 1) (suc n))) (filter (λ die. not (die == p)) (range_with_len (a + 1) (suc n)))) here)
      | inr other ↦
          let here : not (a == p) ≡ true = grind (arith, nat_tests) in
          let first : data_die p a ≡ a = grind (arith, nat_tests) in
          ap (λ (d : ℕ). d ∷ map (data_die p) (range_with_len (a + 1) n)) first
          ∙ ap (λ (ds : List ℕ). a ∷ ds) (others p (a + 1) n (omega arith) (omega arith))
          ∙ sym (ap (λ (b : Bool). cond b (a ∷ filter (λ die. not (die == p)) (range_with_len (a + 1) (suc n))) (filter (λ die. not (die == p)) (range_with_len (a + 1) (suc n)))) here)
    ]

-- the data dies of a stripe are all dies but the parity's, in rising order
pub data_dies_are_the_others : DataDiesAreTheOthers
data_dies_are_the_others dies sb stripe h =
    let p : ℕ = parity_die dies sb stripe in
    let whole : suc (dies - 1) ≡ dies = omega arith in
    others p 0 (dies - 1) (omega arith) (omega (arith, mod_below (sb + stripe) dies (omega arith)))
    ∙ ap (λ (n : ℕ). filter (λ die. not (die == p)) (range_with_len 0 n)) whole

-- the sum of a number for each of n dies
abbrev total : (ℕ → ℕ) → ℕ → ℕ → ℕ
total f a zero = 0
total f a (suc n) = f a + total f (a + 1) n

-- it is the sum of the list of these numbers
total_of_range : (f : ℕ → ℕ) (a n : ℕ) → sum_by f (range_with_len a n) ≡ total f a n
total_of_range f a zero = refl
total_of_range f a (suc n) =
    sum_by-cons f a (range_with_len (a + 1) n) ∙ ap (λ (t : ℕ). f a + t) (total_of_range f (a + 1) n)

total_of_list : (f : ℕ → ℕ) (a n : ℕ) → sum (map f (range_with_len a n)) ≡ total f a n
total_of_list f a n = sum-map f (range_with_len a n) ∙ total_of_range f a n

-- two numbers for each die
total-add : (f g : ℕ → ℕ) (a n : ℕ) → total (λ d. f d + g d) a n ≡ total f a n + total g a n
total-add f g a zero = refl
total-add f g a (suc n) = let rest : _ = total-add f g (a + 1) n in omega arith

-- the same number for each die
total-same : (f g : ℕ → ℕ) (a n : ℕ) → ((d : ℕ) → a ≤ d → d < a + n → f d ≡ g d) → total f a n ≡ total g a n
total-same f g a zero h = refl
total-same f g a (suc n) h =
    let rest : _ = total-same f g (a + 1) n (λ d l u. h d (omega arith) (omega arith)) in
    let here : f a ≡ g a = h a (omega arith) (omega arith) in
    omega arith

-- nothing for any die
total-none : (a n : ℕ) → total (λ d. 0) a n ≡ 0
total-none a zero = refl
total-none a (suc n) = let rest : _ = total-none (a + 1) n in omega arith

-- 1 for one die alone
abbrev one_at : ℕ → ℕ → ℕ
one_at x d = if d == x then 1 else 0

-- where it is below the dies
total-past : (x a n : ℕ) → x < a → total (one_at x) a n ≡ 0
total-past x a zero h = refl
total-past x a (suc n) h = let rest : _ = total-past x (a + 1) n (omega arith) in grind (arith, nat_tests)

-- where it is among the dies
total-one : (x a n : ℕ) → a ≤ x → x < a + n → total (one_at x) a n ≡ 1
total-one x a zero l u = absurd (omega arith)
total-one x a (suc n) l u =
    elim (cases_eq a x) [
      | inl same ↦ let rest : _ = total-past x (a + 1) n (omega arith) in grind (arith, nat_tests)
      | inr other ↦ let rest : _ = total-one x (a + 1) n (omega arith) (omega arith) in grind (arith, nat_tests)
    ]

-- no die has a due page before a slot is used
due_total-none : (dies sb : ℕ) → 2 ≤ dies → total (due_pages dies sb 0) 0 dies ≡ 0
due_total-none dies sb h =
    total-same (due_pages dies sb 0) (λ d. 0) 0 dies (λ d l u. (due_pages_ends dies sb 0 d h).none)
    ∙ total-none 0 dies

-- the pages that one more used slot has programmed on a die
abbrev added : ℕ → ℕ → ℕ → ℕ → ℕ
added dies sb used die =
    one_at (place_of_slot dies (record { sb = sb; index = used })).die die
    + (if is_last_of_stripe dies used && die == parity_die dies sb (stripe_of_index dies used) then 1 else 0)

-- one page of one die, and one of another where there is a second
one_or_two : (x p dies : ℕ) (second : Bool) → x < dies → p < dies →
    total (λ die. one_at x die + (if second && die == p then 1 else 0)) 0 dies ≡ 1 + (if second then 1 else 0)
one_or_two x p dies true a b =
    let first : _ = total-one x 0 dies (omega arith) (omega arith) in
    let other : _ = total-one p 0 dies (omega arith) (omega arith) in
    total-add (one_at x) (one_at p) 0 dies ∙ omega arith
one_or_two x p dies false a b =
    let first : _ = total-one x 0 dies (omega arith) (omega arith) in
    let other : _ = total-none 0 dies in
    total-add (one_at x) (λ die. 0) 0 dies ∙ omega arith

-- the due pages of all dies together, one slot later
due_total-step : (dies sb used : ℕ) → 2 ≤ dies →
    total (due_pages dies sb (used + 1)) 0 dies
    ≡ total (due_pages dies sb used) 0 dies + (1 + (if is_last_of_stripe dies used then 1 else 0))
due_total-step dies sb used h =
    let p : ℕ = parity_die dies sb (stripe_of_index dies used) in
    let x : ℕ = data_die p (used % (dies - 1)) in
    let x_in : x < dies = data_die-lt p (used % (dies - 1)) dies (mod_below used (dies - 1) (omega arith)) in
    total-same (due_pages dies sb (used + 1)) (λ die. due_pages dies sb used die + added dies sb used die) 0 dies
    (λ die l u. due_pages_step dies sb used die h (omega arith)
    ∙ add_assoc (due_pages dies sb used die) (one_at x die) (if is_last_of_stripe dies used && die == p then 1 else 0))
    ∙ total-add (due_pages dies sb used) (added dies sb used) 0 dies
    ∙ ap (λ (n : ℕ). total (due_pages dies sb used) 0 dies + n)
    (one_or_two x p dies (is_last_of_stripe dies used) x_in (parity_die-lt dies sb (stripe_of_index dies used) h))

-- the due pages of all dies together
due_total : (dies sb used : ℕ) → 2 ≤ dies → total (due_pages dies sb used) 0 dies ≡ used + used / (dies - 1)
due_total dies sb zero h =
    let none : 0 / (dies - 1) ≡ 0 = zero-div (dies - 1) in
    due_total-none dies sb h ∙ omega arith
due_total dies sb (suc used) h =
    let before : total (due_pages dies sb used) 0 dies ≡ used + used / (dies - 1) = due_total dies sb used h in
    let step : _ = due_total-step dies sb used h in
    let closed : _ = one_more_closed used (dies - 1) (omega arith) in
    let later : total (due_pages dies sb (used + 1)) 0 dies ≡ used + 1 + (used + 1) / (dies - 1) = omega arith in
    subst (λ (n : ℕ). total (due_pages dies sb n) 0 dies ≡ n + n / (dies - 1)) (add-one used) later

-- the due pages of all dies are the used slots and a parity page for each closed stripe
pub due_pages_add_up : DuePagesAddUp
due_pages_add_up dies sb used h = total_of_list (due_pages dies sb used) 0 dies ∙ due_total dies sb used h
