-- Passes that are joined one after the other: each stays included in the whole.
use Rattle.std.proofs.Common.{◌≡◌, ℕ, suc, ◌<◌, ◌≤◌, List, [], ◌∷◌, ◌++◌, length, get_or, All, refl, sym, ap, subst, ◌∙◌, ⊎_elim, arith, append_assoc}
use Rattle.std.proofs.lemmas.List.Elements.{All-cons}
use Rattle.turn_table.specs.Passes.{GoesOnFrom, Has, HaveAll, Includes, PassState, SomeHas, joined_pass, numbers_of}
use Rattle.turn_table.proofs.Lists.{goes_on_self, goes_on_then}
use Rattle.turn_table.proofs.Numbers.{has_left, has_right}

pub includes_self : (pass : PassState) → Includes pass pass
includes_self pass = record { list = goes_on_self (numbers_of pass) pass.seen; numbers = λ number has. has }

includes_then : (whole pass other : PassState) → Includes whole pass → Includes pass other → Includes whole other
includes_then whole pass other first second = record {
  list = goes_on_then (numbers_of other) (numbers_of pass) other.seen pass.seen whole.seen second.list first.list second.numbers;
  numbers = λ number has. first.numbers number (second.numbers number has);
}

-- what is left and what is in the whole are all passes
pub record IsGathered (all left : List PassState) (whole : PassState) : Type 0 where
  pub done : List PassState
  pub are : all ≡ left ++ done
  pub included : All (λ pass. Includes whole pass) done

pub gathers_first : (all left : List PassState) (pass : PassState) → all ≡ left ++ pass ∷ [] → IsGathered all left pass
gathers_first all left pass are = record { done = pass ∷ []; are = are; included = All-cons (λ other. Includes pass other) pass [] (includes_self pass) (λ k d low. absurd (omega arith)) }

pub gathers_more : (all before left : List PassState) (whole pass joined : PassState) → IsGathered all before whole → before ≡ left ++ pass ∷ [] → joined ≡ joined_pass whole pass → GoesOnFrom whole joined.seen → GoesOnFrom pass joined.seen → IsGathered all left joined
gathers_more all before left whole pass joined so_far last is first second =
    let numbers : numbers_of joined ≡ numbers_of whole ++ numbers_of pass = ap numbers_of is in
    let has_whole : Includes joined whole = record { list = first; numbers = λ number has. subst (λ (l : List ℕ). Has l number) (sym numbers) (has_left (numbers_of whole) (numbers_of pass) number has) } in
    let has_pass : Includes joined pass = record { list = second; numbers = λ number has. subst (λ (l : List ℕ). Has l number) (sym numbers) (has_right (numbers_of whole) (numbers_of pass) number has) } in record {
      done = pass ∷ so_far.done;
      are = so_far.are ∙ (ap (λ l. l ++ so_far.done) last ∙ append_assoc left (pass ∷ []) so_far.done);
      included = All-cons (λ other. Includes joined other) pass so_far.done has_pass
          (λ k d low. includes_then joined whole (get_or so_far.done k d) has_whole (so_far.included k d low));
    }

pub gathers_all : (all : List PassState) (whole : PassState) → IsGathered all [] whole → All (λ pass. Includes whole pass) all
gathers_all all whole so_far = subst (All (λ pass. Includes whole pass)) (sym so_far.are) so_far.included

included_number : (whole : PassState) (passes : List PassState) (number : ℕ) → All (λ pass. Includes whole pass) passes → SomeHas passes number → Has (numbers_of whole) number
included_number whole [] number all some = absurd some
included_number whole (pass ∷ passes) number all some =
    ⊎_elim (λ (t : Has (numbers_of pass) number). (all 0 pass (omega arith)).numbers number t)
    (λ (t : SomeHas passes number). included_number whole passes number (λ k d low. all (suc k) d (omega arith)) t)
    some

pub has_all_numbers : (count : ℕ) (passes : List PassState) (whole : PassState) → All (λ pass. Includes whole pass) passes → HaveAll count passes → (number : ℕ) → number < count → Has (numbers_of whole) number
has_all_numbers count passes whole all have number low = included_number whole passes number all (have number low)

-- where a number is asked for, there is a pass
pub some_pass : (count : ℕ) (passes : List PassState) → 1 ≤ count → HaveAll count passes → 0 < length passes
some_pass count [] some have = absurd (have 0 (omega arith))
some_pass count (pass ∷ passes) some have = omega arith

-- what holds of all passes holds of those before the last, and of the last
pub all_before : (P : PassState → Type 0) (left : List PassState) (pass : PassState) (all : List PassState) → all ≡ left ++ pass ∷ [] → All P all → All P left × P pass
all_before P [] pass all are holds = (λ k d low. absurd (omega arith), subst (All P) are holds 0 pass (omega arith))
all_before P (first ∷ left) pass all are holds =
    let whole : All P (first ∷ (left ++ pass ∷ [])) = subst (All P) are holds in
    let rest = all_before P left pass (left ++ pass ∷ []) refl (λ k d low. whole (suc k) d (omega arith)) in
    (All-cons P first left (whole 0 first (omega arith)) rest.0, rest.1)

pub nil_of : {A : Type 0} (xs : List A) → length xs ≡ 0 → xs ≡ []
nil_of [] e = refl
nil_of (x ∷ xs) e = absurd (omega (arith, e))
