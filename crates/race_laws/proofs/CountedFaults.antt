-- How many die calls failed in a call on all channels: one that has a channel of its own has no steps elsewhere.
use Rattle.std.proofs.Common.{ℕ, ◌≡◌, ◌+◌, ◌<◌, ◌≤◌, ◌%◌, ◌==◌, Bool, true, false, List, [], ◌∷◌, Option, Some, None, refl, ap, ◌∙◌, eqb-true, arith}
use Rattle.std.specs.Prelude.{All, sum_by}
use Rattle.std.specs.List.{enumerate_from}
use Rattle.std.proofs.lemmas.List.Elements.{All-head, All-tail}
use Rattle.std.proofs.lemmas.List.Sums.{sum_by-cons}
use Rattle.ssd_geo.specs.Ladder.{LadderState}
use Rattle.ssd_geo.specs.declared.base.ChannelBase.{ChannelBase}
use Rattle.ssd_geo.specs.declared.entry.Entry.{Entry}
use Rattle.ssd_geo.specs.declared.trace.Verb.{Verb}
use Rattle.ssd_histories.specs.CallSteps.{CallStep}
use Rattle.ssd_histories.specs.CallsInOrder.{AreStepsOf, OnOwnChannel}
use Rattle.std.proofs.lemmas.Bool.{false_from_ne_true}
use Rattle.std.proofs.lemmas.Option.{same_Some}

-- a sum whose terms are 0 but at one place, where it is at most 1
abbrev pub IsOneAt : {X : Type 0} → (X → ℕ) → ℕ → ℕ × X → Type 0
IsOneAt f place item = (f item.1 ≤ 1) × ((place == item.0) ≡ false → f item.1 ≡ 0)

none_after : {X : Type 0} (f : X → ℕ) (place k : ℕ) (xs : List X) → place < k → All (IsOneAt f place) (enumerate_from k xs) →
    sum_by f xs ≡ 0
none_after f place k [] low all = refl
none_after f place k (x ∷ xs) low all =
    let here = All-head (IsOneAt f place) (k, x) (enumerate_from (k + 1) xs) all in
    let differs : (place == k) ≡ false =
    false_from_ne_true (place == k) (λ same. let equal : place ≡ k = eqb-true place k same in absurd (omega (arith, low, equal))) in
    let zero : f x ≡ 0 = here.1 differs in
    let later = none_after f place (k + 1) xs (omega (arith, low))
    (All-tail (IsOneAt f place) (k, x) (enumerate_from (k + 1) xs) all) in
    omega (arith, sum_by-cons f x xs, zero, later)

pub sum_of_one : {X : Type 0} (f : X → ℕ) (place k : ℕ) (xs : List X) → All (IsOneAt f place) (enumerate_from k xs) →
    sum_by f xs ≤ 1
sum_of_one f place k [] all = omega arith
sum_of_one f place k (x ∷ xs) all =
    by_test (sum_of_one f place (k + 1) xs (All-tail (IsOneAt f place) (k, x) (enumerate_from (k + 1) xs) all)) (place == k)
    refl
  where
    here : IsOneAt f place (k, x)
    here = All-head (IsOneAt f place) (k, x) (enumerate_from (k + 1) xs) all

    rest : All (IsOneAt f place) (enumerate_from (k + 1) xs)
    rest = All-tail (IsOneAt f place) (k, x) (enumerate_from (k + 1) xs) all

    by_test : sum_by f xs ≤ 1 → (b : Bool) → (place == k) ≡ b → sum_by f (x ∷ xs) ≤ 1
    by_test few_later true same =
        let equal : place ≡ k = eqb-true place k same in
        let later : sum_by f xs ≡ 0 = none_after f place (k + 1) xs (omega (arith, equal)) rest in
        let few : f x ≤ 1 = here.0 in
        omega (arith, sum_by-cons f x xs, few, later)
    by_test few_later false other =
        let zero : f x ≡ 0 = here.1 other in
        omega (arith, sum_by-cons f x xs, zero, few_later)

-- the channel that a verb names, of so many; a drain names none
abbrev pub channel_named : ℕ → Verb → Option ℕ
channel_named channels (Verb.Write page content) = Some (page % channels)
channel_named channels (Verb.Read page) = Some (page % channels)
channel_named channels (Verb.Trim page) = Some (page % channels)
channel_named channels (Verb.Refresh page) = Some (page % channels)
channel_named channels (Verb.Collect channel) = Some channel
channel_named channels (Verb.Drain count) = None
channel_named channels (Verb.Age channel die sb amount) = Some channel

-- elsewhere a call has no steps
none_elsewhere : (b : Bool) (fact : Type 0) (steps : List CallStep) → b ≡ false → OnOwnChannel b fact steps → steps ≡ []
none_elsewhere true fact steps other on = absurd (grind arith)
none_elsewhere false fact steps other on = on

no_Some : {A : Type 0} (a : A) → ◌≡◌ {A = Option A} None (Some a) → ⊥
no_Some a e = grind arith

module _ (ladder : List Entry → ℕ → LadderState) (base : ChannelBase) (channels channel place : ℕ) (steps : List CallStep)
    (other : (place == channel) ≡ false) where
  differs : (named : ℕ) → ◌≡◌ {A = Option ℕ} (Some named) (Some place) → (named == channel) ≡ false
  differs named is = ap (λ (n : ℕ). n == channel) (same_Some named place is) ∙ other

  pub no_steps_elsewhere : (verb : Verb) → channel_named channels verb ≡ Some place →
      AreStepsOf ladder base channels channel verb steps → steps ≡ []
  no_steps_elsewhere (Verb.Write page content) is are =
      none_elsewhere (page % channels == channel) _ steps (differs (page % channels) is) are
  no_steps_elsewhere (Verb.Read page) is are =
      none_elsewhere (page % channels == channel) _ steps (differs (page % channels) is) are
  no_steps_elsewhere (Verb.Trim page) is are =
      none_elsewhere (page % channels == channel) _ steps (differs (page % channels) is) are
  no_steps_elsewhere (Verb.Refresh page) is are =
      none_elsewhere (page % channels == channel) _ steps (differs (page % channels) is) are
  no_steps_elsewhere (Verb.Collect named) is are = none_elsewhere (named == channel) _ steps (differs named is) are
  no_steps_elsewhere (Verb.Drain count) is are = absurd (no_Some place is)
  no_steps_elsewhere (Verb.Age named die sb amount) is are = none_elsewhere (named == channel) _ steps (differs named is) are
