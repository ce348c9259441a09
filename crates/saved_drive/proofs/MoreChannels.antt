-- Channels that begin one after the other, each with the next base, the next dies and the next policy.
use Rattle.std.proofs.Common.{ℕ, zero, suc, ◌≡◌, ◌*◌, ◌<◌, ◌⊎◌, List, [], ◌∷◌, ◌++◌, drop, length, map, get_or, slice_get, take, Option, Some, None, inl, inr, refl, sym, ap, subst, ◌∙◌, add-zero, arith}
use Rattle.std.specs.List.{drop-map, take-map}
use Rattle.std.proofs.lemmas.List.{get_or-drop, length-map, map-append}
use Rattle.std.proofs.lemmas.Option.{slice_get_read, slice_get_within, same_Some}
use Rattle.blank_drive.proofs.BegunChannels.{view_is}
use Rattle.chan_state.specs.ChannelState.{ChannelState}
use Rattle.chan_state.specs.Starting.{HasBegun}
use Rattle.final_dies.specs.FinalDies.{dies_of_channel}
use Rattle.onfi_cmd.specs.DieState.{DieState}
use Rattle.ssd_geo.specs.declared.base.ChannelBase.{ChannelBase}
use Rattle.ssd_geo.specs.declared.policy_view.PolicyView.{PolicyView}
use Rattle.saved_drive.specs.Begun.{HasBegunWith, HaveBegun}

-- the first of what is left of a list is the next of all
pub next_of : {A : Type 0} (xs rest : List A) (number : ℕ) (x : A) → rest ≡ drop number xs → number < length xs
    → x ≡ get_or rest 0 x → slice_get xs number ≡ Some x
next_of {A = A} xs rest number x rest_is below is =
    slice_get_read xs (length xs) number x refl below
    (is ∙ ap (λ (left : List A). get_or left 0 x) rest_is ∙ get_or-drop number xs 0 x
    ∙ ap (λ (n : ℕ). get_or xs n x) (add-zero number))

-- the next dies are those of the next channel
pub own_is : {X : Type 0} (state : X → DieState) (dies left own : List X) (count number : ℕ) → left ≡ drop (number * count) dies
    → own ≡ take count left → map state own ≡ dies_of_channel count (map state dies) number
own_is {X = X} state dies left own count number left_is taken =
    ap (λ (all : List X). map state all) (taken ∙ ap (λ (all : List X). take count all) left_is)
    ∙ sym (ap (λ (all : List DieState). take count all) (drop-map state (number * count) dies)
    ∙ take-map state count (drop (number * count) dies))

-- none has begun at first
pub none_begun : (bases : List ChannelBase) (limit count : ℕ) (dies : List DieState) (views : List (Option PolicyView))
    (channels : List ChannelState) → channels ≡ [] → HaveBegun bases limit count dies views channels
none_begun bases limit count dies views channels none = record {
  each = λ number channel at.
      let nowhere : number < length channels = slice_get_within channels number channel at in
      absurd (omega (arith, nowhere, ap (λ (all : List ChannelState). length all) none));
}

at_end : {A : Type 0} (before : List A) (next : A) (number : ℕ) (x : A) → slice_get (before ++ next ∷ []) number ≡ Some x
    → (slice_get before number ≡ Some x) ⊎ ((length before ≡ number) × (next ≡ x))
at_end [] next zero x at = inr (refl, same_Some next x at)
at_end [] next (suc number) x at = absurd (cc)
at_end (first ∷ before) next zero x at = inl at
at_end (first ∷ before) next (suc number) x at =
    elim (at_end before next number x at) [
      | inl earlier ↦ inl earlier
      | inr last ↦ inr (omega (arith, last.0), last.1)
    ]

one_more_begun : (bases : List ChannelBase) (limit count : ℕ) (dies : List DieState) (views : List (Option PolicyView))
    (channels : List ChannelState) (next : ChannelState) (number : ℕ) → HaveBegun bases limit count dies views channels
    → length channels ≡ number
    → HasBegunWith bases limit number (dies_of_channel count dies number) (get_or views number None) next
    → HaveBegun bases limit count dies views (channels ++ next ∷ [])
one_more_begun bases limit count dies views channels next number begun long last = record {
  each = λ place channel at.
      elim (at_end channels next place channel at) [
        | inl earlier ↦ begun.each place channel earlier
        | inr is ↦
            subst (λ (n : ℕ). HasBegunWith bases limit n (dies_of_channel count dies n) (get_or views n None) channel)
            (sym long ∙ is.0)
            (subst (λ (state : ChannelState). HasBegunWith bases limit number (dies_of_channel count dies number) (get_or views number None) state)
            is.1 last)
      ];
}

-- one more channel has begun
pub next_begun : {P C X : Type 0} (policies rest : List P) (channels after : List C) (dies own : List X) (policy : P) (next : C)
    (told : P → Option PolicyView) (kept : C → ChannelState) (state : X → DieState) (bases : List ChannelBase) (base : ChannelBase)
    (limit count number : ℕ) → number < length policies → rest ≡ drop number policies → policy ≡ get_or rest 0 policy
    → length channels ≡ number → after ≡ channels ++ next ∷ [] → slice_get bases number ≡ Some base
    → map state own ≡ dies_of_channel count (map state dies) number
    → HasBegun base limit (map state own) (told policy) (kept next)
    → HaveBegun bases limit count (map state dies) (map told policies) (map kept channels)
    → HaveBegun bases limit count (map state dies) (map told policies) (map kept after)
next_begun {P = P} {C = C} policies rest channels after dies own policy next told kept state bases base limit count number below
    rest_is is long more base_there own_there last begun =
    let told_is : told policy ≡ get_or (map told policies) number None =
    view_is told policies number policy None below (is ∙ ap (λ (left : List P). get_or left 0 policy) rest_is) in
    let here : HasBegun base limit (dies_of_channel count (map state dies) number) (get_or (map told policies) number None) (kept next) =
    subst (λ (all : List DieState). HasBegun base limit all (get_or (map told policies) number None) (kept next)) own_there
    (subst (λ (view : Option PolicyView). HasBegun base limit (map state own) view (kept next)) told_is last) in
    subst (λ (all : List ChannelState). HaveBegun bases limit count (map state dies) (map told policies) all)
    (sym (ap (λ (all : List C). map kept all) more ∙ map-append kept channels (next ∷ [])))
    (one_more_begun bases limit count (map state dies) (map told policies) (map kept channels) (kept next) number begun
    (length-map channels kept ∙ long)
    (record { base = base; base_is = base_there; has_begun = here }))
