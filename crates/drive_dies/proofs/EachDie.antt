-- What became of each die of a list, as the dies are mounted one after the other.
use Rattle.std.proofs.Common.{ℕ, ◌≡◌, ◌≢◌, ◌+◌, ◌*◌, ◌/◌, ◌%◌, ◌<◌, ◌≤◌, List, length, map, slice_get, get_or, set, Option, Some, Err, refl, sym, ap, subst, ◌∙◌, inl, inr, arith, length-set}
use Rattle.std.proofs.Math.ListN.{get_or-map}
use Rattle.std.proofs.lemmas.Bool.{cases_eq}
use Rattle.std.proofs.lemmas.List.{get_or-set_same, get_or-set_other}
use Rattle.std.proofs.lemmas.Option.{get_or_from_slice_get, slice_get-get_or, slice_get_within}
use Rattle.onfi_cmd.specs.DieState.{DieState}
use Rattle.onfi_cmd.specs.declared.plan.DiePlan.{DiePlan}
use Rattle.ssd_geo.specs.declared.head.ImageHead.{ImageHead}
use Rattle.drive_dies.specs.Mounting.{BecomesMounted, EachBecomes, FailsMount, IsMountedBelow, IsMountedUpTo, Mounts, MountsDies, die_count, numbered, plan_in_drive}
use Rattle.drive_dies.specs.declared.mounting.MountStop.{MountStop}
use Rattle.drive_dies.specs.declared.mounting.MountStop.TheVariants.{Failed, Memory}

-- a plan is one of a drive's dies but for the die's channel and number
pub record HasLaws (head : ImageHead) (plan : DiePlan) : Type 0 where
  pub shape_is : plan.shape ≡ head.shape
  pub law_is : plan.law ≡ head.law
  pub weak_is : plan.weak ≡ head.weak

-- so with a die's numbers it is the plan of that die
pub plan_is : (head : ImageHead) (plan : DiePlan) (number : ℕ) → HasLaws head plan → numbered plan number ≡ plan_in_drive head number
plan_is head plan number laws = λ i. record {
  channel = number / (laws.shape_is i).dies;
  die = number % (laws.shape_is i).dies;
  shape = laws.shape_is i;
  law = laws.law_is i;
  weak = laws.weak_is i;
}

-- at the beginning none is mounted
pub none_mounted : (head : ImageHead) (states : List DieState) → EachBecomes (IsMountedBelow head 0) states states
none_mounted head states = record {
  count_stays = refl;
  each = λ number old new was is. record {
    mounted = λ below. absurd (omega arith);
    stays = λ _. cc;
  };
}

-- one die became another
pub one_changed : (P R : ℕ → DieState → DieState → Type 0) (olds news : List DieState) (number : ℕ) (before after : DieState)
    → EachBecomes P olds news → number < length news → before ≡ get_or news number before
    → ((old : DieState) → P number old before → R number old after)
    → ((other : ℕ) (old new : DieState) → other ≢ number → P other old new → R other old new)
    → EachBecomes R olds (set news number after)
one_changed P R olds news number before after each below at here there = record {
  count_stays = length-set news number after ∙ each.count_stays;
  each = λ other old new was is. elim (cases_eq other number) [
    | inl same ↦
        let now : after ≡ new =
        sym (get_or-set_same news number after after below)
        ∙ ap (λ (k : ℕ). get_or (set news number after) k after) (sym same)
        ∙ get_or_from_slice_get (set news number after) other new after is in
        let held : slice_get news number ≡ Some before =
        slice_get-get_or news number before below ∙ ap (λ (x : DieState). Some x) (sym at) in
        let was_here : slice_get olds number ≡ Some old = subst (λ (k : ℕ). slice_get olds k ≡ Some old) same was in
        subst (λ (k : ℕ). R k old new) (sym same)
        (subst (λ (x : DieState). R number old x) now (here old (each.each number old before was_here held)))
    | inr apart ↦
        let in_list : other < length (set news number after) = slice_get_within (set news number after) other new is in
        let within : other < length news = omega (arith, length-set news number after) in
        let held : slice_get news other ≡ Some new =
        slice_get-get_or news other new within
        ∙ ap (λ (x : DieState). Some x) (sym (get_or-set_other news number other after new apart)
        ∙ get_or_from_slice_get (set news number after) other new new is) in
        there other old new apart (each.each other old new was held)
  ];
}

-- one more die is mounted
pub one_more_mounted : (head : ImageHead) (olds news : List DieState) (number : ℕ) (before after : DieState)
    → EachBecomes (IsMountedBelow head number) olds news → number < length news → before ≡ get_or news number before
    → Mounts (plan_in_drive head number) before after
    → EachBecomes (IsMountedBelow head (number + 1)) olds (set news number after)
one_more_mounted head olds news number before after each below at mounts =
    one_changed (IsMountedBelow head number) (IsMountedBelow head (number + 1)) olds news number before after each below at
    (λ old so_far. record {
      mounted = λ _. subst (λ (x : DieState). Mounts (plan_in_drive head number) x after) (so_far.stays (omega arith)) mounts;
      stays = λ above. absurd (omega arith);
    })
    (λ other old new apart so_far. record {
      mounted = λ low. so_far.mounted (omega arith);
      stays = λ above. so_far.stays (omega arith);
    })

-- the next die fails in its mount
pub next_fails : (head : ImageHead) (olds news : List DieState) (number : ℕ) (before after : DieState)
    → EachBecomes (IsMountedBelow head number) olds news → number < length news → before ≡ get_or news number before
    → FailsMount before after → EachBecomes (IsMountedUpTo head number) olds (set news number after)
next_fails head olds news number before after each below at fails =
    one_changed (IsMountedBelow head number) (IsMountedUpTo head number) olds news number before after each below at
    (λ old so_far. record {
      mounted = λ low. absurd (omega arith);
      fails = λ _. subst (λ (x : DieState). FailsMount x after) (so_far.stays (omega arith)) fails;
      stays = λ above. absurd (omega arith);
    })
    (λ other old new apart so_far. record {
      mounted = λ low. so_far.mounted low;
      fails = λ same. absurd (apart same);
      stays = λ above. so_far.stays (omega arith);
    })

-- the next die stays where memory is wanted
pub next_stays : (head : ImageHead) (olds news : List DieState) (number : ℕ) (before after : DieState)
    → EachBecomes (IsMountedBelow head number) olds news → number < length news → before ≡ get_or news number before
    → after ≡ before → EachBecomes (IsMountedBelow head number) olds (set news number after)
next_stays head olds news number before after each below at same =
    one_changed (IsMountedBelow head number) (IsMountedBelow head number) olds news number before after each below at
    (λ old so_far. record {
      mounted = λ low. absurd (omega arith);
      stays = λ above. same ∙ so_far.stays above;
    })
    (λ other old new apart so_far. so_far)

-- the next mount stops the mounts
pub next_stops : (head : ImageHead) (olds news : List DieState) (number : ℕ) (before after : DieState) (stop : MountStop)
    → EachBecomes (IsMountedBelow head number) olds news → number < length news → before ≡ get_or news number before
    → number < die_count head → BecomesMounted {T = Unit {0}} (plan_in_drive head number) number (Err stop) before after
    → MountsDies {T = Unit {0}} head olds (set news number after) (Err stop)
next_stops head olds news number before after (Failed die) each below at low became = (
  omega (arith, became.0),
  subst (λ (k : ℕ). EachBecomes (IsMountedUpTo head k) olds (set news number after)) (sym became.0)
      (next_fails head olds news number before after each below at became.1),
)
next_stops head olds news number before after Memory each below at low became =
    (number, omega arith, next_stays head olds news number before after each below at became)

-- the laws stay where the numbers change
pub laws_stay : (head : ImageHead) (old new : DiePlan) (number : ℕ) → HasLaws head old → new ≡ numbered old number → HasLaws head new
laws_stay head old new number laws is = record {
  shape_is = ap (λ (plan : DiePlan). plan.shape) is ∙ laws.shape_is;
  law_is = ap (λ (plan : DiePlan). plan.law) is ∙ laws.law_is;
  weak_is = ap (λ (plan : DiePlan). plan.weak) is ∙ laws.weak_is;
}

-- the state of the item of a list, among the states of all items
pub held_at : {A B : Type 0} (state : A → B) (xs : List A) (number : ℕ) (at : A) → at ≡ get_or xs number at
    → state (get_or xs number at) ≡ get_or (map state xs) number (state (get_or xs number at))
held_at {A = A} state xs number at is =
    sym (get_or-map state xs number (get_or xs number at) ∙ ap (λ (x : A). state (get_or xs number x)) (sym is))
