-- The passes of a new lock, as they are dealt.
use Rattle.std.proofs.Common.{◌≡◌, ℕ, zero, suc, ◌+◌, ◌-◌, ◌<◌, ◌≤◌, List, [], ◌∷◌, ◌++◌, drop, get_or, sym, ap, ◌∙◌, arith}
use Rattle.atomic_table.specs.Seated.{TableId}
use Rattle.turn_table.specs.Passes.{PassState, new_pass, new_passes}
use Rattle.turn_table.specs.Steps.{Knower, numbers_from, split_left, split_right}
use Rattle.turn_table.specs.Views.{pass_of, view_at}
use Rattle.turn_table.specs.declared.view.Stage.TheVariants.{Away}
use Rattle.turn_table.specs.declared.view.View.{View}

-- the first view, when the numbers from one on are still to be given
abbrev pub dealing : ℕ → ℕ → View
dealing from count = record (view_at Away 0 [] []) { gives = numbers_from from (count - from) }

-- the numbers from one to the last begin with that one
first_number : (from count : ℕ) → from < count → numbers_from from (count - from) ≡ from ∷ numbers_from (from + 1) (count - (from + 1))
first_number from count low =
    let left : count - from ≡ suc (count - (from + 1)) = omega arith in
    let next : suc from ≡ from + 1 = omega arith in
    ap (numbers_from from) left ∙ ap (λ n. from ∷ numbers_from n (count - (from + 1))) next

pub given_one : (from count : ℕ) → from < count → split_left (dealing from count) ≡ dealing (from + 1) count
given_one from count low = ap (λ gives. record (view_at Away 0 [] []) { gives = drop 1 gives }) (first_number from count low)

pub dealt_pass : (lock table : TableId) (view : View) (from count : ℕ) → table ≡ lock → view ≡ split_right (dealing from count) → from < count → pass_of table view ≡ new_pass lock from
dealt_pass lock table view from count same is low =
    let shown : view ≡ view_at Away from [] [] = is ∙ ap (λ gives. view_at Away (get_or gives 0 255) [] []) (first_number from count low) in
    λ i. pass_of (same i) (shown i)

pub last_pass : (lock table : TableId) (view : View) (from count : ℕ) → table ≡ lock → view ≡ dealing from count → pass_of table view ≡ new_pass lock 0
last_pass lock table view from count same is = λ i. pass_of (same i) (is i)

-- once all are given, the first pass has nothing to give
pub nothing_left : {V : Type 0} (me : Knower V) (from count : ℕ) → me ≡ (dealing from count, []) → count ≤ from → me ≡ (view_at Away me.0.number me.0.ended me.0.seen, [])
nothing_left {V} me from count is high =
    let none : count - from ≡ 0 = omega arith in
    let left : dealing from count ≡ view_at Away 0 [] [] = ap (λ n. record (view_at Away 0 [] []) { gives = numbers_from from n }) none in
    is ∙ (ap (λ (v : View). (v, [])) left ∙ sym (ap (λ (m : Knower V). (view_at Away m.0.number m.0.ended m.0.seen, [])) is))

one_more : (lock : TableId) (from count : ℕ) → new_passes lock from count ++ new_pass lock (from + count) ∷ [] ≡ new_passes lock from (suc count)
one_more lock from zero = let same : from + 0 ≡ from = omega arith in ap (λ n. new_pass lock n ∷ []) same
one_more lock from (suc count) =
    let same : from + suc count ≡ suc from + count = omega arith in
    ap (λ n. new_pass lock from ∷ (new_passes lock (suc from) count ++ new_pass lock n ∷ [])) same
    ∙ ap (λ ps. new_pass lock from ∷ ps) (one_more lock (suc from) count)

pub dealt_one : (lock : TableId) (from : ℕ) (passes : List PassState) (pass : PassState) → 1 ≤ from → passes ≡ new_passes lock 1 (from - 1) → pass ≡ new_pass lock from → passes ++ pass ∷ [] ≡ new_passes lock 1 (from + 1 - 1)
dealt_one lock from passes pass some are is =
    let this : from ≡ 1 + (from - 1) = omega arith in
    let next : suc (from - 1) ≡ from + 1 - 1 = omega arith in
    let both : passes ++ pass ∷ [] ≡ new_passes lock 1 (from - 1) ++ new_pass lock from ∷ [] = λ i. are i ++ is i ∷ [] in
    both
    ∙ (ap (λ n. new_passes lock 1 (from - 1) ++ new_pass lock n ∷ []) this
    ∙ (one_more lock 1 (from - 1) ∙ ap (new_passes lock 1) next))

pub all_dealt : (lock : TableId) (from count : ℕ) (passes : List PassState) (pass : PassState) → 1 ≤ count → count ≤ from → from ≤ count → passes ≡ new_passes lock 1 (from - 1) → pass ≡ new_pass lock 0 → pass ∷ passes ≡ new_passes lock 0 count
all_dealt lock from count passes pass some high low are is =
    let all : suc (from - 1) ≡ count = omega arith in
    let both : pass ∷ passes ≡ new_pass lock 0 ∷ new_passes lock 1 (from - 1) = λ i. is i ∷ are i in
    both ∙ ap (new_passes lock 0) all
