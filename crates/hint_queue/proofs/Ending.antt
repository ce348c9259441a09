-- What all passes did, in the orders of all pages pushed and taken.
use Rattle.std.proofs.Common.{◌≡◌, ◌≢◌, ◌⊎◌, ◌==◌, eqb, eq-eqb, ne_eqb, cond, Bool, true, false, not, ℕ, zero, suc, ◌+◌, ◌<◌, ◌≤◌, List, [], ◌∷◌, ◌++◌, length, take, map, filter, get_or, All, refl, sym, ap, ◌∙◌, subst, inl, inr, ⊎_elim, arith}
use Rattle.std.proofs.lemmas.List.{length-map, map-append}
use Rattle.std.proofs.lemmas.List.Elements.{All-cons, All-nil}
use Rattle.std.proofs.lemmas.List.Sums.{sum_by-cons}
use Rattle.std.proofs.Math.Seq.{take-append_seam}
use Rattle.std.specs.List.{sum_by}
use mathlib.Core.Logic.{dite}
use native.Mathlib.Decide.{ℕ_discrete}
use Rattle.hint_queue.specs.Counts.{AreBelow}
use Rattle.hint_queue.specs.Gathered.{ArePartsOf, EachKnows, IsPartOf, Knows}
use Rattle.hint_queue.specs.Kept.{EachFits, FitsPart, IsOpen, Lack, Standing, Took, noted_of}
use Rattle.hint_queue.specs.Orders.{AreInOrder, HaveAll, HintPassState, QueueState, SomeHas, Stands, pages_by, pages_of}
use Rattle.hint_queue.specs.Places.{events}
use Rattle.hint_queue.specs.declared.counts.Sight.{Sight}
use Rattle.hint_queue.specs.declared.view.Noted.{Noted}
use Rattle.hint_queue.specs.declared.view.Part.{Part}
use Rattle.hint_queue.specs.declared.view.View.{View}
use Rattle.hint_queue.proofs.Seating.{order_of, same_by, same_pages}
use Rattle.hint_queue.proofs.Telling.{tick}

split_test : {A : Type 0} (w : A → ℕ) (b : Bool) (x : A) (ys zs : List A) (whole : ℕ) → sum_by w ys + sum_by w zs ≡ whole → sum_by w (cond b (x ∷ ys) ys) + sum_by w (cond (not b) (x ∷ zs) zs) ≡ w x + whole
split_test w true x ys zs whole e = omega (arith, sum_by-cons w x ys, e)
split_test w false x ys zs whole e = omega (arith, sum_by-cons w x zs, e)

-- a sum over those that pass a test, and over the others
sum_split : {A : Type 0} (w : A → ℕ) (p : A → Bool) (xs : List A) → sum_by w (filter p xs) + sum_by w (filter (λ x. not (p x)) xs) ≡ sum_by w xs
sum_split w p [] = refl
sum_split w p (x ∷ xs) = split_test w (p x) x (filter p xs) (filter (λ y. not (p y)) xs) (sum_by w xs) (sum_split w p xs) ∙ sym (sum_by-cons w x xs)

-- those of a number stand among those that aren't of another
others_same : {A : Type 0} (by : A → ℕ) (mine other : ℕ) → other ≢ mine → (xs : List A) → filter (λ x. by x == other) (filter (λ x. not (by x == mine)) xs) ≡ filter (λ x. by x == other) xs
others_same by mine other apart [] = refl
others_same {A} by mine other apart (x ∷ xs) =
    let rest : List A = filter (λ y. not (by y == mine)) xs in
    let found : List A = filter (λ y. by y == other) xs in
    dite (ℕ_discrete (by x) mine)
    (λ (e : by x ≡ mine).
    ap (λ b. filter (λ y. by y == other) (cond (not b) (x ∷ rest) rest)) (eq-eqb (by x) mine e)
    ∙ (others_same by mine other apart xs ∙ ap (λ b. cond b (x ∷ found) found) (sym (ne_eqb (by x) other (λ f. apart (sym f ∙ e))))))
    (λ (n : by x ≢ mine).
    ap (λ b. filter (λ y. by y == other) (cond (not b) (x ∷ rest) rest)) (ne_eqb (by x) mine n)
    ∙ ap (λ l. cond (by x == other) (x ∷ l) l) (others_same by mine other apart xs))

module _ {A : Type 0} (by : A → ℕ) (w : A → ℕ) (g : Part → ℕ) where
  -- each part has its number's share of a sum, and each number stands once
  abbrev Each : List A → List Part → Type 0
  Each xs [] = Unit {0}
  Each xs (part ∷ parts) = (g part ≡ sum_by w (filter (λ x. by x == part.number) xs)) × Lack parts part.number × Each xs parts

  each_others : (xs : List A) (mine : ℕ) (parts : List Part) → Lack parts mine → Each xs parts → Each (filter (λ x. not (by x == mine)) xs) parts
  each_others xs mine [] lack each = tt
  each_others xs mine (part ∷ parts) lack each = (
    each.0 ∙ ap (sum_by w) (sym (others_same by mine part.number lack.0 xs)),
    each.1,
    each_others xs mine parts lack.1 each.2,
  )

  sums_fit : (parts : List Part) (xs : List A) → Each xs parts → sum_by g parts ≤ sum_by w xs
  sums_fit [] xs each = omega arith
  sums_fit (part ∷ parts) xs each =
      let rest = sums_fit parts (filter (λ x. not (by x == part.number)) xs) (each_others xs part.number parts each.1 each.2) in
      let split = sum_split w (λ x. by x == part.number) xs in
      let mine = each.0 in omega (arith, sum_by-cons g part parts, rest, split, mine)

sum_ones : {A : Type 0} (xs : List A) → sum_by (λ x. 1) xs ≡ length xs
sum_ones [] = refl
sum_ones (x ∷ xs) = omega (arith, sum_by-cons (λ y. 1) x xs, sum_ones xs)

tick_test : (b : Bool) (page : ℕ) (ys : List ℕ) (sum : ℕ) → length ys ≡ sum → length (cond b (page ∷ ys) ys) ≡ cond b 1 0 + sum
tick_test true page ys sum e = omega (arith, e)
tick_test false page ys sum e = omega (arith, e)

map_test : (b : Bool) (x : Noted) (ys : List Noted) → pages_of (cond b (x ∷ ys) ys) ≡ cond b (x.page ∷ pages_of ys) (pages_of ys)
map_test true x ys = refl
map_test false x ys = refl

length_by : (number : ℕ) (xs : List Took) → length (pages_by number (noted_of xs)) ≡ sum_by (λ took. tick number took.noted.by) xs
length_by number [] = refl
length_by number (x ∷ xs) =
    ap (λ (l : List ℕ). length l) (map_test (x.noted.by == number) x.noted (filter (λ noted. noted.by == number) (noted_of xs)))
    ∙ (tick_test (x.noted.by == number) x.noted.page (pages_by number (noted_of xs)) (sum_by (λ took. tick number took.noted.by) xs) (length_by number xs)
    ∙ sym (sum_by-cons (λ (took : Took). tick number took.noted.by) x xs))

module _ (now : Standing) (seat : ℕ) where
  each_pushed : (parts : List Part) → EachFits now seat parts → Each (λ noted. noted.by) (λ noted. 1) (events 0) now.pushed parts
  each_pushed [] each = tt
  each_pushed (part ∷ parts) each = (
    ap (λ (l : List ℕ). length l) (sym each.0.pushed)
        ∙ (length-map (filter (λ noted. noted.by == part.number) now.pushed) (λ (noted : Noted). noted.page) ∙ sym (sum_ones (filter (λ noted. noted.by == part.number) now.pushed))),
    each.1,
    each_pushed parts each.2,
  )

  each_taken : (number : ℕ) (parts : List Part) → EachFits now seat parts → Each (λ took. took.by) (λ took. tick number took.noted.by) (events (suc number)) now.taken parts
  each_taken number [] each = tt
  each_taken number (part ∷ parts) each = (
    ap (λ (l : List Noted). length (pages_by number l)) (sym each.0.taken) ∙ length_by number (filter (λ took. took.by == part.number) now.taken),
    each.1,
    each_taken number parts each.2,
  )

  all_pushed : (parts : List Part) → EachFits now seat parts → sum_by (events 0) parts ≤ length now.pushed
  all_pushed parts each =
      let most = sums_fit (λ (noted : Noted). noted.by) (λ (noted : Noted). 1) (events 0) parts now.pushed (each_pushed parts each) in
      let same = sum_ones now.pushed in omega (arith, most, same)

  all_taken : (number : ℕ) (parts : List Part) → EachFits now seat parts → sum_by (events (suc number)) parts ≤ length (pages_by number (noted_of now.taken))
  all_taken number parts each =
      let most = sums_fit (λ (took : Took). took.by) (λ (took : Took). tick number took.noted.by) (events (suc number)) parts now.taken (each_taken number parts each) in
      let same = length_by number now.taken in omega (arith, most, same)

  module _ (items : List Noted) (order : now.pushed ≡ noted_of now.taken ++ items) (parts : List Part) (fits : EachFits now seat parts) (sights : List Sight) (below : AreBelow (λ word. sum_by (events word) parts) sights) where
    first_pages : take (length (order_of now.taken)) now.pushed ≡ noted_of now.taken
    first_pages =
        let lengths : length (order_of now.taken) ≡ length (noted_of now.taken) =
        length-map now.taken (λ (took : Took). let noted : Noted = record { page = took.noted.page; by = took.by } in noted) ∙ sym (length-map now.taken (λ (took : Took). took.noted)) in
        let moved : take (length (order_of now.taken)) now.pushed ≡ take (length (noted_of now.taken)) (noted_of now.taken ++ items) = λ i. take (lengths i) (order i) in
        moved ∙ take-append_seam (noted_of now.taken) items

    stands : (pass : HintPassState) (part : Part) → IsPartOf pass part → FitsPart now seat part → Knows sights pass → Stands now.pushed (order_of now.taken) pass
    stands pass part is at knows = record {
      pushes = ap (λ n. pages_by n now.pushed) (sym is.number) ∙ (at.pushed ∙ is.pushed);
      takes = ap (λ n. pages_by n (order_of now.taken)) (sym is.number) ∙ (same_by part.number now.taken ∙ (ap pages_of at.taken ∙ is.taken));
      known = let next : pass.number + 1 ≡ suc pass.number = omega arith in
          let least = knows.known (λ word. sum_by (events word) parts) below in
          let most = all_taken pass.number parts fits in
          let same : sum_by (events (pass.number + 1)) parts ≡ sum_by (events (suc pass.number)) parts = ap (λ word. sum_by (events word) parts) next in
          let here : length (pages_by pass.number (take (length (order_of now.taken)) now.pushed)) ≡ length (pages_by pass.number (noted_of now.taken)) = ap (λ (l : List Noted). length (pages_by pass.number l)) first_pages in
          omega (arith, least, most, same, here);
      met_full = λ full. let least = knows.met_full (λ word. sum_by (events word) parts) below full in let most = all_pushed parts fits in omega (arith, least, most);
    }

    all_stand : (passes : List HintPassState) (theirs : List Part) → ArePartsOf passes theirs → EachFits now seat theirs → EachKnows sights passes → All (Stands now.pushed (order_of now.taken)) passes
    all_stand [] [] are each know = All-nil (Stands now.pushed (order_of now.taken))
    all_stand [] (part ∷ theirs) are each know = absurd are
    all_stand (pass ∷ passes) [] are each know = absurd are
    all_stand (pass ∷ passes) (part ∷ theirs) are each know = All-cons (Stands now.pushed (order_of now.taken)) pass passes (stands pass part are.0 each.0 know.0) (all_stand passes theirs are.1 each.2 know.1)

-- the passes without the first of a number
abbrev others : ℕ → List HintPassState → List HintPassState
others number [] = []
others number (pass ∷ passes) = cond (eqb pass.number number) passes (pass ∷ others number passes)

others_first : (number : ℕ) (pass : HintPassState) (passes : List HintPassState) → pass.number ≡ number → others number (pass ∷ passes) ≡ passes
others_first number pass passes e = ap (λ b. cond b passes (pass ∷ others number passes)) (eq-eqb pass.number number e)

others_later : (number : ℕ) (pass : HintPassState) (passes : List HintPassState) → pass.number ≢ number → others number (pass ∷ passes) ≡ pass ∷ others number passes
others_later number pass passes n = ap (λ b. cond b passes (pass ∷ others number passes)) (ne_eqb pass.number number n)

still_has : (number other : ℕ) → other ≢ number → (passes : List HintPassState) → SomeHas passes other → SomeHas (others number passes) other
still_has number other apart [] has = has
still_has number other apart (pass ∷ passes) has = dite (ℕ_discrete pass.number number)
    (λ (e : pass.number ≡ number). subst (λ (l : List HintPassState). SomeHas l other) (sym (others_first number pass passes e))
    (⊎_elim (λ (t : other ≡ pass.number). absurd (apart (t ∙ e))) (λ (t : SomeHas passes other). t) has))
    (λ (n : pass.number ≢ number). subst (λ (l : List HintPassState). SomeHas l other) (sym (others_later number pass passes n))
    (⊎_elim (λ (t : other ≡ pass.number). inl t) (λ (t : SomeHas passes other). inr (still_has number other apart passes t)) has))

one_fewer : (number : ℕ) (passes : List HintPassState) → SomeHas passes number → suc (length (others number passes)) ≤ length passes
one_fewer number [] has = absurd has
one_fewer number (pass ∷ passes) has = dite (ℕ_discrete pass.number number)
    (λ (e : pass.number ≡ number). let same = ap (λ (l : List HintPassState). length l) (others_first number pass passes e) in omega (arith, same))
    (λ (n : pass.number ≢ number).
    let same = ap (λ (l : List HintPassState). length l) (others_later number pass passes n) in
    let rest = one_fewer number passes (⊎_elim (λ (t : number ≡ pass.number). absurd (n (sym t))) (λ (t : SomeHas passes number). t) has) in omega (arith, same, rest))

-- where all numbers are there, there are as many passes
pub enough : (count : ℕ) (passes : List HintPassState) → HaveAll count passes → count ≤ length passes
enough zero passes have = omega arith
enough (suc count) passes have =
    let rest = enough count (others count passes) (λ number low. still_has count number (λ e. omega arith) passes (have number (omega arith))) in
    let fewer = one_fewer count passes (have count (omega arith)) in omega (arith, rest, fewer)

all_taken_by : (count : ℕ) (passes : List HintPassState) → HaveAll count passes → (taken : List Took) → All (λ took. took.by < count) taken → All (λ noted. SomeHas passes noted.by) (order_of taken)
all_taken_by count passes have [] all = All-nil (λ (noted : Noted). SomeHas passes noted.by)
all_taken_by count passes have (took ∷ taken) all =
    All-cons (λ (noted : Noted). SomeHas passes noted.by) (record { page = took.noted.page; by = took.by }) (order_of taken)
    (have took.by (all 0 took (omega arith)))
    (all_taken_by count passes have taken (λ k d low. all (suc k) d (omega arith)))

-- the two orders, once all passes are in one
pub ends : (queue : QueueState) (passes : List HintPassState) (items : List Noted) (views : List View) (kept : IsOpen items views) (seat : ℕ) (parts : List Part) (sights : List Sight) → kept.now.passes ≡ queue.passes → kept.now.pages ≡ queue.pages
    → EachFits kept.now seat parts → ArePartsOf passes parts → EachKnows sights passes → AreBelow (λ word. sum_by (events word) parts) sights → HaveAll queue.passes passes → AreInOrder queue passes
ends queue passes items views kept seat parts sights count bound fits are know below have = record {
  pushed = kept.now.pushed;
  taken = order_of kept.now.taken;
  left = pages_of items;
  begins = ap pages_of kept.order
      ∙ (map-append (λ (n : Noted). n.page) (noted_of kept.now.taken) items
      ∙ ap (λ l. l ++ pages_of items) (sym (same_pages kept.now.taken)));
  below = subst (λ (n : ℕ). All (λ (noted : Noted). noted.page < n) kept.now.pushed) bound kept.pages;
  pushers = λ k d low. have (get_or kept.now.pushed k d).by (subst (λ (n : ℕ). (get_or kept.now.pushed k d).by < n) count (kept.pushers k d low));
  takers = all_taken_by queue.passes passes have kept.now.taken (subst (λ (n : ℕ). All (λ (took : Took). took.by < n) kept.now.taken) count kept.takers);
  each = all_stand kept.now seat items kept.order parts fits sights below passes parts are fits know;
}
