-- What a call came to on its channel, and what it left as it was on each other channel, make up what it came to on each.
use Rattle.std.proofs.Common.{ℕ, ◌≡◌, ◌<◌, List, length, map, Some, refl, sym, ap, subst, ◌∙◌, inl, inr, length-set}
use Rattle.std.specs.Prelude.{IfSome, Option, None, option_map, slice_get, slice_index_or, slice_set}
use Rattle.std.proofs.lemmas.List.{map-set}
use Rattle.std.proofs.lemmas.Option.{same_Some, slice_get-get_or, slice_get-map, slice_get_within}
use Rattle.run_laws.proofs.ChangedRuns.{get_set, one_or_other}
use Rattle.serial_laws.proofs.Lists.{get_set_other}
use Rattle.chan_calls.specs.Caller.{CallerView, SameCaller}
use Rattle.chan_calls.specs.Workers.{WorkerState}
use Rattle.ssd_geo.specs.declared.entry.Entry.{Entry}
use Rattle.ssd_geo.specs.declared.tag.Tag.{Tag}
use Rattle.ssd_histories.specs.Start.{Start}
use Rattle.actor_calls.specs.Known.{AreKnown, AreSameCallers, ChannelFact, IsKnown, OfChannel, OfEachChannel}

-- a caller is the same as itself
pub same_itself : (caller : CallerView) → SameCaller caller caller
same_itself caller = record {
  limit_stays = refl;
  shape_stays = refl;
  session_stays = refl;
  number_stays = refl;
  bound_stays = refl;
  reference_stays = refl;
}

-- and so are all callers
pub all_same : (callers : List CallerView) → AreSameCallers callers callers
all_same callers = record {
  as_many = refl;
  each = λ n old new was now.
      subst (λ (caller : CallerView). SameCaller old caller) (same_Some old new (sym was ∙ now)) (same_itself old);
}

-- a fact of one past, of whatever a channel is bound to
of_bound : (fact : ChannelFact) (channel : ℕ) (caller : CallerView) (bound : Option (Start × List (Tag × List ℕ))) →
    ((start : Start) (contents : List (Tag × List ℕ)) → fact channel start contents caller.seen caller.seen) →
    IfSome bound (λ bound. fact channel bound.0 bound.1 caller.seen caller.seen)
of_bound fact channel caller None each = tt
of_bound fact channel caller (Some bound) each = each bound.0 bound.1

module _ (callers : List CallerView) (k : ℕ) (old : CallerView) (is : slice_get callers k ≡ Some old) (new : CallerView) where
  -- what holds of a caller that changed and of each that stays
  both_at : (R : ℕ → CallerView → CallerView → Type 0) → R k old new →
      ((n : ℕ) (caller : CallerView) → (n ≡ k → ⊥) → R n caller caller) →
      (n : ℕ) (before after : CallerView) → slice_get callers n ≡ Some before →
      slice_get (slice_set callers k new) n ≡ Some after → R n before after
  both_at R changed itself n before after was now =
      elim (one_or_other n k) [
        | inl same ↦
            let old_is : before ≡ old = same_Some before old (sym was ∙ ap (slice_get callers) same ∙ is) in
            let new_is : after ≡ new =
            same_Some after new (sym now ∙ ap (slice_get (slice_set callers k new)) same
            ∙ get_set callers k new (slice_get_within callers k old is)) in
            subst (λ (m : ℕ). R m before after) (sym same)
            (subst (λ (caller : CallerView). R k caller after) (sym old_is)
            (subst (λ (caller : CallerView). R k old caller) (sym new_is) changed))
        | inr differs ↦
            let stays : after ≡ before =
            same_Some after before (sym now ∙ get_set_other callers n k new differs ∙ was) in
            subst (λ (caller : CallerView). R n before caller) (sym stays) (itself n before differs)
      ]

  -- a fact of the call's channel, which holds elsewhere where nothing was added
  pub each_channel : (fact : ChannelFact) → OfChannel fact k old new →
      ((n : ℕ) → (n ≡ k → ⊥) → (start : Start) (contents : List (Tag × List ℕ)) (seen : List Entry) →
      fact n start contents seen seen) →
      OfEachChannel fact callers (slice_set callers k new)
  each_channel fact changed elsewhere =
      both_at (OfChannel fact) changed
      (λ n caller differs. of_bound fact n caller caller.bound
      (λ start contents. elsewhere n differs start contents caller.seen))

  -- the callers stay the same
  pub same_callers : SameCaller old new → AreSameCallers callers (slice_set callers k new)
  same_callers same = record {
    as_many = length-set callers k new;
    each = both_at (λ n. SameCaller) same (λ n caller differs. same_itself caller);
  }

  -- and they are known
  pub known_callers : (worker : WorkerState) (actor : ℕ) → AreKnown worker actor callers → IsKnown worker actor new →
      AreKnown worker actor (slice_set callers k new)
  known_callers worker actor known here n caller now =
      elim (one_or_other n k) [
        | inl same ↦
            let new_is : caller ≡ new =
            same_Some caller new (sym now ∙ ap (slice_get (slice_set callers k new)) same
            ∙ get_set callers k new (slice_get_within callers k old is)) in
            subst (IsKnown worker actor) (sym new_is) here
        | inr differs ↦ known n caller (sym (get_set_other callers n k new differs) ∙ now)
      ]

-- a channel among others, seen as its caller
module _ {X : Type 0} (see : X → CallerView) (channels : List X) (k : ℕ) (low : k < length channels) (other : X) where
  pub seen_at : slice_get (map see channels) k ≡ Some (see (slice_index_or channels k other))
  seen_at = slice_get-map see channels k ∙ ap (option_map see) (slice_get-get_or channels k other low)

  pub seen_set : (new : X) → slice_set (map see channels) k (see new) ≡ map see (slice_set channels k new)
  seen_set new = sym (map-set see channels k new)
