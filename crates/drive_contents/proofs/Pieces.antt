-- The dies of one channel among those of a drive, and what stays of the others.
use Rattle.std.proofs.Common.{ℕ, zero, suc, ◌≡◌, ◌+◌, ◌-◌, ◌*◌, ◌<◌, ◌≤◌, ◌⊎◌, List, [], ◌∷◌, drop, slice_get, take, Option, Some, inl, inr, refl, sym, ap, subst, ◌∙◌, arith}
use Rattle.std.proofs.Math.Nat.{mul-le-mul}
use Rattle.std.proofs.lemmas.Bool.{cases_lt}
use Rattle.std.proofs.lemmas.List.{drop-take, take-take}
use Rattle.drive_dies.specs.Mounting.{EachBecomes}
use Rattle.final_dies.specs.FinalDies.{dies_of_channel}
use Rattle.onfi_cmd.specs.DieState.{DieState}
use Rattle.drive_contents.specs.LoadedDrive.{ChangesChannel}

-- an item of a front, and one behind a place
pub in_front : {A : Type 0} (n : ℕ) (xs : List A) (k : ℕ) → k < n → slice_get (take n xs) k ≡ slice_get xs k
in_front zero xs k below = absurd (omega (arith, below))
in_front (suc n) [] k below = refl
in_front (suc n) (x ∷ xs) zero below = refl
in_front (suc n) (x ∷ xs) (suc k) below = in_front n xs k (omega (arith, below))

pub is_behind : {A : Type 0} (n : ℕ) (xs : List A) (k : ℕ) → slice_get (drop n xs) k ≡ slice_get xs (n + k)
is_behind zero xs k = ap (λ (i : ℕ). slice_get xs i) (zero_more k)
  where
    zero_more : (i : ℕ) → i ≡ 0 + i
    zero_more i = omega arith
is_behind (suc n) [] k = refl
is_behind (suc n) (x ∷ xs) k = is_behind n xs k ∙ ap (λ (i : ℕ). slice_get (x ∷ xs) i) (one_more n k)
  where
    one_more : (a b : ℕ) → suc (a + b) ≡ suc a + b
    one_more a b = omega arith

-- an item of a channel's part
pub in_part : (count channel : ℕ) (dies : List DieState) (k : ℕ) → k < count
    → slice_get (dies_of_channel count dies channel) k ≡ slice_get dies (channel * count + k)
in_part count channel dies k below =
    in_front count (drop (channel * count) dies) k below ∙ is_behind (channel * count) dies k

-- items that are the same at a place
pub same_of : {A : Type 0} (x y : A) → ◌≡◌ {A = Option A} (Some x) (Some y) → x ≡ y
same_of x y same = cc

-- what becomes of each die where those of one channel became so, and the others stayed
pub all_become : (P : ℕ → DieState → DieState → Type 0) (count channel : ℕ) (olds news : List DieState)
    → ChangesChannel count channel olds news
    → EachBecomes (λ number old new. P (channel * count + number) old new) (dies_of_channel count olds channel) (dies_of_channel count news channel)
    → ((number : ℕ) (die : DieState) → (number < channel * count) ⊎ (channel * count + count ≤ number) → P number die die)
    → EachBecomes P olds news
all_become P count channel olds news changes part others = record {
  count_stays = changes.count_stays;
  each = λ number old new was is.
      let stays : (number < channel * count) ⊎ (channel * count + count ≤ number) → slice_get news number ≡ slice_get olds number → P number old new = λ outside same.
      subst (λ (die : DieState). P number old die) (same_of old new (sym was ∙ sym same ∙ is)) (others number old outside) in
      elim (cases_lt number (channel * count)) [
        | inl before ↦
            stays (inl before)
            (sym (in_front (channel * count) news number before)
            ∙ ap (λ (all : List DieState). slice_get all number) changes.before_stay
            ∙ in_front (channel * count) olds number before)
        | inr not_before ↦ elim (cases_lt number (channel * count + count)) [
          | inl within ↦
              let k : ℕ = number - channel * count in
              let there : channel * count + k ≡ number = omega (arith, not_before) in
              let low : k < count = omega (arith, not_before, within) in
              let at : (dies : List DieState) → slice_get (dies_of_channel count dies channel) k ≡ slice_get dies number =
              λ dies. in_part count channel dies k low ∙ ap (λ (i : ℕ). slice_get dies i) there in
              subst (λ (i : ℕ). P i old new) there (part.each k old new (at olds ∙ was) (at news ∙ is))
          | inr behind ↦
              let k : ℕ = number - (channel * count + count) in
              let there : channel * count + count + k ≡ number = omega (arith, behind) in
              let at : (dies : List DieState) → slice_get (drop (channel * count + count) dies) k ≡ slice_get dies number =
              λ dies. is_behind (channel * count + count) dies k ∙ ap (λ (i : ℕ). slice_get dies i) there in
              stays (inr behind)
              (sym (at news) ∙ ap (λ (all : List DieState). slice_get all k) changes.behind_stay ∙ at olds)
        ]
      ];
}

-- the dies of a channel before that one stay
pub part_before : (count channel other : ℕ) (olds news : List DieState) → ChangesChannel count channel olds news → other < channel
    → dies_of_channel count news other ≡ dies_of_channel count olds other
part_before count channel other olds news changes earlier =
    let fits : (other + 1) * count ≤ channel * count =
    mul-le-mul {n₁ = other + 1} {m₁ = count} {n₂ = channel} {m₂ = count} (omega (arith, earlier)) (omega arith) in
    let within : other * count + count ≤ channel * count = omega (arith, fits) in
    let cut : (dies : List DieState) → dies_of_channel count dies other
    ≡ drop (other * count) (take (other * count + count) (take (channel * count) dies)) = λ dies.
    sym (ap (λ (all : List DieState). drop (other * count) all) (take-take (other * count + count) (channel * count) dies within)
    ∙ drop-take (other * count) count dies) in
    cut news
    ∙ ap (λ (all : List DieState). drop (other * count) (take (other * count + count) all)) changes.before_stay
    ∙ sym (cut olds)
