-- The pages of an order are those of all passes: each stands there with the number of one pass.
use Rattle.std.proofs.Common.{ℕ, ◌≡◌, ◌+◌, ◌<◌, ◌≤◌, ◌==◌, Bool, true, false, cond, List, [], ◌∷◌, ◌++◌, refl, ap, inl, inr, arith, eq-eqb}
use Rattle.std.specs.Prelude.{All, count_by, filter, sum_by}
use Rattle.std.proofs.lemmas.Bool.{cases_eq, ne_eqb}
use Rattle.std.proofs.lemmas.List.Elements.{All-head, All-tail}
use Rattle.std.proofs.lemmas.List.Sums.{sum_by-append, sum_by-cons}
use Rattle.hint_queue.specs.Orders.{HintPassState, SomeHas, pages_by, pages_of}
use Rattle.hint_queue.specs.declared.view.Noted.{Noted}
use Rattle.serial_laws.proofs.Lists.{sum_of_none}

-- sums of two terms, and of terms that are the same
sum_split : {X : Type 0} (f g h : X → ℕ) → ((x : X) → h x ≡ f x + g x) → (xs : List X) → sum_by h xs ≡ sum_by f xs + sum_by g xs
sum_split f g h is [] = omega arith
sum_split f g h is (x ∷ xs) =
    let own = is x in
    let rest = sum_split f g h is xs in
    let first_f = sum_by-cons f x xs in
    let first_g = sum_by-cons g x xs in
    let first_h = sum_by-cons h x xs in
    omega (arith, own, rest, first_f, first_g, first_h)

pub sum_alike : {X : Type 0} (f g : X → ℕ) (xs : List X) → All (λ x. f x ≡ g x) xs → sum_by f xs ≡ sum_by g xs
sum_alike f g [] alike = omega arith
sum_alike {X} f g (x ∷ xs) alike =
    let own = All-head (λ (y : X). f y ≡ g y) x xs alike in
    let rest = sum_alike f g xs (All-tail (λ (y : X). f y ≡ g y) x xs alike) in
    let first_f = sum_by-cons f x xs in
    let first_g = sum_by-cons g x xs in
    omega (arith, own, rest, first_f, first_g)

-- what a pass has of a page that stands in an order with a number
abbrev share : ℕ → ℕ → HintPassState → ℕ
share by count pass = cond (by == pass.number) count 0

own_share : (by count : ℕ) (pass : HintPassState) → by ≡ pass.number → share by count pass ≡ count
own_share by count pass same = ap {B = ℕ} (λ (b : Bool). cond b count 0) (eq-eqb by pass.number same)

other_share : (by count : ℕ) (pass : HintPassState) → (by ≡ pass.number → ⊥) → share by count pass ≡ 0
other_share by count pass differs = ap {B = ℕ} (λ (b : Bool). cond b count 0) (ne_eqb by pass.number differs)

-- one of the passes has it, if one has the number
some_share : (passes : List HintPassState) (by count : ℕ) → SomeHas passes by → count ≤ sum_by (share by count) passes
some_share [] by count has = absurd has
some_share (pass ∷ passes) by count (inl same) =
    let own = own_share by count pass same in
    let first = sum_by-cons (share by count) pass passes in
    omega (arith, own, first)
some_share (pass ∷ passes) by count (inr later) =
    let rest = some_share passes by count later in
    let first = sum_by-cons (share by count) pass passes in
    omega (arith, rest, first)

-- the passes have numbers from one on
abbrev pub AreNumberedFrom : ℕ → List HintPassState → Type 0
AreNumberedFrom from [] = Unit {0}
AreNumberedFrom from (pass ∷ passes) = (pass.number ≡ from) × AreNumberedFrom (from + 1) passes

-- so only one of them has it
no_share : (passes : List HintPassState) (from by count : ℕ) → AreNumberedFrom from passes → by < from →
    sum_by (share by count) passes ≡ 0
no_share [] from by count numbered below = omega arith
no_share (pass ∷ passes) from by count numbered below =
    let number = numbered.0 in
    let own = other_share by count pass (λ same. omega (arith, same, number, below)) in
    let rest = no_share passes (from + 1) by count numbered.1 (omega (arith, below)) in
    let first = sum_by-cons (share by count) pass passes in
    omega (arith, own, rest, first)

one_share : (passes : List HintPassState) (from by count : ℕ) → AreNumberedFrom from passes →
    sum_by (share by count) passes ≤ count
one_share [] from by count numbered = omega arith
one_share (pass ∷ passes) from by count numbered =
    let first = sum_by-cons (share by count) pass passes in
    let number = numbered.0 in
    elim (cases_eq by pass.number) [
      | inl same ↦
          let own = own_share by count pass same in
          let rest = no_share passes (from + 1) by count numbered.1 (omega (arith, same, number)) in
          omega (arith, own, rest, first)
      | inr differs ↦
          let own = other_share by count pass differs in
          let rest = one_share passes (from + 1) by count numbered.1 in
          omega (arith, own, rest, first)
    ]

module _ (test : ℕ → Bool) where
  pub count_cons : (page : ℕ) (pages : List ℕ) → count_by test (page ∷ pages) ≡ cond (test page) 1 0 + count_by test pages
  count_cons page pages = sum_by-cons (λ (other : ℕ). cond (test other) 1 0) page pages

  pub count_append : (xs ys : List ℕ) → count_by test (xs ++ ys) ≡ count_by test xs + count_by test ys
  count_append xs ys = sum_by-append (λ (other : ℕ). cond (test other) 1 0) xs ys

  more_by : (number : ℕ) (noted : Noted) (order : List Noted) →
      count_by test (pages_by number (noted ∷ order))
      ≡ cond (noted.by == number) (cond (test noted.page) 1 0) 0 + count_by test (pages_by number order)
  more_by number noted order = by_test (noted.by == number)
    where
      by_test : (b : Bool) →
          count_by test (pages_of (cond b (noted ∷ filter (λ other. other.by == number) order) (filter (λ other. other.by == number) order)))
          ≡ cond b (cond (test noted.page) 1 0) 0 + count_by test (pages_by number order)
      by_test true = count_cons noted.page (pages_by number order)
      by_test false = omega arith

  abbrev pub counted_by : List Noted → HintPassState → ℕ
  counted_by order pass = count_by test (pages_by pass.number order)

  step : (noted : Noted) (order : List Noted) (passes : List HintPassState) →
      sum_by (counted_by (noted ∷ order)) passes
      ≡ sum_by (share noted.by (cond (test noted.page) 1 0)) passes + sum_by (counted_by order) passes
  step noted order passes =
      sum_split (share noted.by (cond (test noted.page) 1 0)) (counted_by order) (counted_by (noted ∷ order))
      (λ pass. more_by pass.number noted order) passes

  -- where each page is of some pass, the passes have them all
  pub all_are_of_passes : (passes : List HintPassState) (order : List Noted) → All (λ noted. SomeHas passes noted.by) order →
      count_by test (pages_of order) ≤ sum_by (counted_by order) passes
  all_are_of_passes passes [] of_passes = omega arith
  all_are_of_passes passes (noted ∷ order) of_passes =
      let whole = count_cons noted.page (pages_of order) in
      let parts = step noted order passes in
      let own =
      some_share passes noted.by (cond (test noted.page) 1 0)
      (All-head (λ (other : Noted). SomeHas passes other.by) noted order of_passes) in
      let rest = all_are_of_passes passes order (All-tail (λ (other : Noted). SomeHas passes other.by) noted order of_passes) in
      omega (arith, whole, parts, own, rest)

  -- and where the passes are numbered, they have no more
  pub no_more_of_passes : (passes : List HintPassState) (from : ℕ) (order : List Noted) → AreNumberedFrom from passes →
      sum_by (counted_by order) passes ≤ count_by test (pages_of order)
  no_more_of_passes passes from [] numbered =
      let none : sum_by (counted_by []) passes ≡ 0 = sum_of_none (counted_by []) passes (λ k other within. refl) in
      omega (arith, none)
  no_more_of_passes passes from (noted ∷ order) numbered =
      let whole = count_cons noted.page (pages_of order) in
      let parts = step noted order passes in
      let own = one_share passes from noted.by (cond (test noted.page) 1 0) numbered in
      let rest = no_more_of_passes passes from order numbered in
      omega (arith, whole, parts, own, rest)
