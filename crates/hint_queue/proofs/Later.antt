-- A pass keeps its queue and its number, and so do all passes of a queue.
use Rattle.std.proofs.Common.{◌≡◌, ◌≢◌, Bool, true, false, Option, None, Some, MatchBool, MatchOption, ℕ, zero, suc, ◌+◌, ◌<◌, ◌≤◌, List, [], ◌∷◌, length, get_or, All, refl, sym, ap, ◌∙◌, inl, inr, ⊎_elim, arith}
use Rattle.std.proofs.lemmas.List.Elements.{All-cons, All-nil}
use mathlib.Core.Logic.{dite}
use native.Mathlib.Decide.{ℕ_discrete}
use Rattle.hint_queue.specs.Orders.{HintPassState, QueueState, SomeHas, having_met_full, having_pushed, having_taken, knowing_all_taken, new_pass, new_passes}

pub pushed_later : (room : Bool) (before after : HintPassState) (page : ℕ) → MatchBool room (after ≡ having_pushed before page) (after ≡ having_met_full before) → (after.queue ≡ before.queue) × (after.number ≡ before.number)
pushed_later true before after page is = (ap (λ (p : HintPassState). p.queue) is, ap (λ (p : HintPassState). p.number) is)
pushed_later false before after page is = (ap (λ (p : HintPassState). p.queue) is, ap (λ (p : HintPassState). p.number) is)

pub popped_later : (found : Option ℕ) (before after : HintPassState) → MatchOption found (after ≡ knowing_all_taken before) (λ page. after ≡ having_taken before page) → (after.queue ≡ before.queue) × (after.number ≡ before.number)
popped_later None before after is = (ap (λ (p : HintPassState). p.queue) is, ap (λ (p : HintPassState). p.number) is)
popped_later (Some page) before after is = (ap (λ (p : HintPassState). p.queue) is, ap (λ (p : HintPassState). p.number) is)

pub new_queue : (queue : QueueState) (from count : ℕ) → All (λ pass. pass.queue ≡ queue) (new_passes queue from count)
new_queue queue from zero = All-nil (λ (pass : HintPassState). pass.queue ≡ queue)
new_queue queue from (suc count) = All-cons (λ (pass : HintPassState). pass.queue ≡ queue) (new_pass queue from) (new_passes queue (suc from) count) refl (new_queue queue (suc from) count)

pub new_numbers : (queue : QueueState) (from count number : ℕ) → from ≤ number → number < from + count → SomeHas (new_passes queue from count) number
new_numbers queue from zero number least most = absurd (omega (arith, least, most))
new_numbers queue from (suc count) number least most = dite (ℕ_discrete number from)
    (λ (e : number ≡ from). inl e)
    (λ (n : number ≢ from). inr (new_numbers queue (suc from) count number (omega arith) (omega arith)))

-- passes that kept their numbers, each at its place
pub each_has : (before after : List HintPassState) → length after ≡ length before → ((i : ℕ) (d : HintPassState) → i < length before → (get_or after i d).number ≡ (get_or before i d).number) → (number : ℕ) → SomeHas before number → SomeHas after number
each_has [] after len same number has = absurd has
each_has (b ∷ before) [] len same number has = absurd (omega (arith, len))
each_has (b ∷ before) (a ∷ after) len same number has =
    ⊎_elim (λ (t : number ≡ b.number). inl (t ∙ sym (same 0 a (omega arith))))
    (λ (t : SomeHas before number). inr (each_has before after (omega (arith, len)) (λ i d low. same (suc i) d (omega arith)) number t))
    has
