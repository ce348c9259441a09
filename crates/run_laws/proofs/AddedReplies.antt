-- The replies of a run with one more of an actor: those of the others stay, and the new one is found by its call's tag.
use Rattle.std.proofs.Common.{ℕ, zero, suc, ◌≡◌, ◌≢◌, ◌<◌, cond, List, [], ◌∷◌, ◌++◌, Some, refl, sym, ap, subst, ◌∙◌, inl, inr, arith, eq-eqb, eqb-true, length-append, get_or-set_same, get_or-set_other}
use Rattle.std.specs.Prelude.{count_by, length, slice_get, slice_index_or}
use Rattle.std.proofs.lemmas.List.Sums.{sum_by_push}
use Rattle.ssd_formats.specs.TraceText.{is_of_actor}
use Rattle.ssd_geo.specs.declared.reply.Reply.{Reply}
use Rattle.ssd_geo.specs.declared.tag.Tag.{Tag}
use Rattle.ssd_geo.specs.declared.trace.TraceCall.{TraceCall}
use Rattle.ssd_histories.specs.CallsInOrder.{reply_to}
use Rattle.run_laws.specs.SerialRuns.{with_reply}
use Rattle.run_laws.proofs.ChangedRuns.{one_or_other}
use Rattle.std.proofs.lemmas.Bool.{false_from_ne_true}

-- a reply that stands in a list stands there with more after it, and the one after all has their number
stands_with_more : {X : Type 0} (xs : List X) (y : X) (i : ℕ) (x : X) → slice_get xs i ≡ Some x →
    slice_get (xs ++ y ∷ []) i ≡ Some x
stands_with_more [] y i x is = absurd (grind arith)
stands_with_more (first ∷ xs) y zero x is = is
stands_with_more (first ∷ xs) y (suc i) x is = stands_with_more xs y i x is

stands_last : {X : Type 0} (xs : List X) (y : X) → slice_get (xs ++ y ∷ []) (length xs) ≡ Some y
stands_last [] y = refl
stands_last (first ∷ xs) y = stands_last xs y

-- the replies of the actor, and of other actors
own_replies : (replies : List (List Reply)) (actor : ℕ) (reply : Reply) → actor < length replies →
    slice_index_or (with_reply replies actor reply) actor [] ≡ slice_index_or replies actor [] ++ reply ∷ []
own_replies replies actor reply low =
    get_or-set_same replies actor (slice_index_or replies actor [] ++ reply ∷ []) [] low

other_replies : (replies : List (List Reply)) (actor other : ℕ) (reply : Reply) → other ≢ actor →
    slice_index_or (with_reply replies actor reply) other [] ≡ slice_index_or replies other []
other_replies replies actor other reply differs =
    get_or-set_other replies actor other (slice_index_or replies actor [] ++ reply ∷ []) [] differs

pub reply_there : (replies : List (List Reply)) (actor : ℕ) (reply : Reply) (tag : Tag) (held : Reply) →
    actor < length replies → reply_to replies tag ≡ Some held → reply_to (with_reply replies actor reply) tag ≡ Some held
reply_there replies actor reply tag held low is =
    elim (one_or_other tag.actor actor) [
      | inl same ↦
          let own : slice_index_or (with_reply replies actor reply) tag.actor [] ≡ slice_index_or replies tag.actor [] ++ reply ∷ [] =
          subst (λ n. slice_index_or (with_reply replies actor reply) n [] ≡ slice_index_or replies n [] ++ reply ∷ [])
          (sym same) (own_replies replies actor reply low) in
          ap (λ (list : List Reply). slice_get list tag.call) own
          ∙ stands_with_more (slice_index_or replies tag.actor []) reply tag.call held is
      | inr differs ↦ ap (λ (list : List Reply). slice_get list tag.call)
          (other_replies replies actor tag.actor reply differs) ∙ is
    ]

pub new_reply_there : (replies : List (List Reply)) (tag : Tag) (reply : Reply) → tag.actor < length replies →
    length (slice_index_or replies tag.actor []) ≡ tag.call → reply_to (with_reply replies tag.actor reply) tag ≡ Some reply
new_reply_there replies tag reply low number =
    ap (λ (list : List Reply). slice_get list tag.call) (own_replies replies tag.actor reply low)
    ∙ subst (λ n. slice_get (slice_index_or replies tag.actor [] ++ reply ∷ []) n ≡ Some reply) number
    (stands_last (slice_index_or replies tag.actor []) reply)

-- each actor has as many replies as calls so far
pub still_counted : (replies : List (List Reply)) (done : List TraceCall) (call : TraceCall) (reply : Reply) (actor : ℕ) →
    call.tag.actor < length replies → length (slice_index_or replies actor []) ≡ count_by (is_of_actor actor) done →
    length (slice_index_or (with_reply replies call.tag.actor reply) actor []) ≡ count_by (is_of_actor actor) (done ++ call ∷ [])
still_counted replies done call reply actor low counted =
    elim (one_or_other actor call.tag.actor) [ inl same ↦ of_own same | inr differs ↦ of_other differs ]
  where
    of_own : actor ≡ call.tag.actor → length (slice_index_or (with_reply replies call.tag.actor reply) actor []) ≡ count_by (is_of_actor actor) (done ++ call ∷ [])
    of_own same =
        let own = own_replies replies call.tag.actor reply low in
        let list : slice_index_or (with_reply replies call.tag.actor reply) actor [] ≡ slice_index_or replies actor [] ++ reply ∷ [] =
        subst (λ (n : ℕ). slice_index_or (with_reply replies call.tag.actor reply) n [] ≡ slice_index_or replies n [] ++ reply ∷ []) (sym same) own in
        let longer = length-append (slice_index_or replies actor []) (reply ∷ []) in
        let lengths : length (slice_index_or (with_reply replies call.tag.actor reply) actor []) ≡ length (slice_index_or replies actor [] ++ reply ∷ []) = ap length list in
        let counts = sum_by_push (λ (other : TraceCall). cond (is_of_actor actor other) 1 0) done call in
        let is_own : ◌≡◌ {A = ℕ} (cond (is_of_actor actor call) 1 0) 1 = ap {B = ℕ} (λ b. cond b 1 0) (eq-eqb call.tag.actor actor (sym same)) in
        omega (arith, longer, lengths, counts, is_own, counted)

    of_other : (actor ≡ call.tag.actor → ⊥) → length (slice_index_or (with_reply replies call.tag.actor reply) actor []) ≡ count_by (is_of_actor actor) (done ++ call ∷ [])
    of_other differs =
        let lengths : length (slice_index_or (with_reply replies call.tag.actor reply) actor []) ≡ length (slice_index_or replies actor []) =
        ap length (other_replies replies call.tag.actor actor reply differs) in
        let counts = sum_by_push (λ (other : TraceCall). cond (is_of_actor actor other) 1 0) done call in
        let is_other : ◌≡◌ {A = ℕ} (cond (is_of_actor actor call) 1 0) 0 =
        ap {B = ℕ} (λ b. cond b 1 0) (false_from_ne_true (is_of_actor actor call) (λ same. differs (sym (eqb-true call.tag.actor actor same)))) in
        omega (arith, lengths, counts, is_other, counted)
