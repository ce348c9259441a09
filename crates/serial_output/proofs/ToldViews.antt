-- Where views are told and no die's call failed, two lawful pasts that follow one view choose alike: it answers each pick.
use Rattle.std.proofs.Common.{ℕ, ◌≡◌, ◌<◌, ◌==◌, Bool, true, false, cond, ◌&&◌, List, [], ◌∷◌, ◌++◌, Option, Some, None, refl, sym, ap, subst, ◌∙◌, arith, ltb-true}
use Rattle.std.specs.Prelude.{count_by, nat_lt}
use Rattle.std.proofs.lemmas.Bool.{and_parts}
use Rattle.std.proofs.lemmas.List.Sums.{sum_by-append, sum_by-cons}
use Rattle.ssd_geo.specs.Ladder.{LadderState}
use Rattle.ssd_histories.specs.CallSteps.{failed_die}
use Rattle.ssd_histories.specs.FollowedViews.{FollowsView, IsAnsweredBy, view_of}
use Rattle.ssd_histories.specs.Lawful.{IsLawfulBy}
use Rattle.ssd_histories.specs.Policies.{answer_of}
use Rattle.ssd_histories.specs.Ranges.{has_slot, is_in_range}
use Rattle.ssd_histories.specs.Room.{table_of}
use Rattle.ssd_histories.specs.Standing.{faults_of, is_fault_of}
use Rattle.ssd_histories.proofs.Histories.{lawful_before_last}
use Rattle.ssd_geo.specs.declared.base.ChannelBase.{ChannelBase}
use Rattle.ssd_geo.specs.declared.entry.Entry.{Entry}
use Rattle.ssd_geo.specs.declared.kind.Kind.{Kind}
use Rattle.ssd_geo.specs.declared.policy_view.PolicyView.{PolicyView}
use Rattle.ssd_geo.specs.declared.shape.Shape.{Shape}
use Rattle.serial_output.specs.SameChoices.{ChooseAlike, ComesTo, picked_by}
use Rattle.std.proofs.lemmas.Option.{same_Some}
use Rattle.shared_lemmas.proofs.Tests.{same_number}

-- a die whose call failed is one of the channel
failed_in_range : (shape : Shape) (kind : Kind) (die : ℕ) → is_in_range shape kind ≡ true → failed_die kind ≡ Some die →
    die < shape.dies
failed_in_range shape (Kind.FaultSense at place level) die range is =
    let two = and_parts (nat_lt place.die shape.dies && nat_lt place.sb shape.superblocks)
    (nat_lt place.page shape.pages) range in
    let one = and_parts (nat_lt place.die shape.dies) (nat_lt place.sb shape.superblocks) two.0 in
    let same : place.die ≡ die = same_Some place.die die is in
    let low : place.die < shape.dies = ltb-true place.die shape.dies one.0 in
    omega (arith, same, low)
failed_in_range shape (Kind.FaultAge named sb amount) die range is =
    let one = and_parts (nat_lt named shape.dies) (nat_lt sb shape.superblocks) range in
    let same : named ≡ die = same_Some named die is in
    let low : named < shape.dies = ltb-true named shape.dies one.0 in
    omega (arith, same, low)
failed_in_range shape (Kind.BadWrite row slot named true) die range is =
    let two = and_parts (nat_lt row shape.rows && has_slot shape slot) (nat_lt named shape.dies) range in
    let same : named ≡ die = same_Some named die is in
    let low : named < shape.dies = ltb-true named shape.dies two.1 in
    omega (arith, same, low)
failed_in_range shape (Kind.BadCopy at slot named true) die range is =
    let two = and_parts (has_slot shape slot) (nat_lt named shape.dies) range in
    let same : named ≡ die = same_Some named die is in
    let low : named < shape.dies = ltb-true named shape.dies two.1 in
    omega (arith, same, low)
failed_in_range shape (Kind.BadErase sb named true) die range is =
    let two = and_parts (nat_lt sb shape.superblocks) (nat_lt named shape.dies) range in
    let same : named ≡ die = same_Some named die is in
    let low : named < shape.dies = ltb-true named shape.dies two.1 in
    omega (arith, same, low)
failed_in_range shape kind die range is = absurd (cc)

-- an entry that passes a test is counted
one_is_counted : (test : Entry → Bool) (newer past : List Entry) (entry : Entry) → test entry ≡ true →
    count_by test (newer ++ entry ∷ past) ≡ 0 → ⊥
one_is_counted test newer past entry passes none =
    let one : Entry → ℕ = λ x. cond (test x) 1 0 in
    let parts = sum_by-append one newer (entry ∷ past) in
    let first = sum_by-cons one entry past in
    let here : one entry ≡ 1 = ap {B = ℕ} (λ (b : Bool). cond b 1 0) passes in
    absurd (omega (arith, none, parts, first, here))

is_fault_there : (die : ℕ) (entry : Entry) → failed_die entry.kind ≡ Some die → is_fault_of die entry ≡ true
is_fault_there die entry is =
    subst (λ (option : Option ℕ). (elim option as (λ x. Bool) [ Some named ↦ named == die | None ↦ false ]) ≡ true) (sym is)
    (same_number die)

picked_form : (kind : Kind) (sb : ℕ) → picked_by kind ≡ Some sb → kind ≡ Kind.Pick sb
picked_form (Kind.Pick named) sb is = ap (λ (n : ℕ). Kind.Pick n) (same_Some named sb is)
picked_form kind sb is = absurd (cc)

module _ (ladder : List Entry → ℕ → LadderState) (base : ChannelBase) where
  none_failed : (past now : List Entry) (entry : Entry) → IsLawfulBy ladder base now →
      ((die : ℕ) → die < base.shape.dies → faults_of die now ≡ 0) → ComesTo (entry ∷ past) now → failed_die entry.kind ≡ None
  none_failed past now entry law faultless comes = by_die (failed_die entry.kind) refl
    where
      range : is_in_range base.shape entry.kind ≡ true
      range =
          (lawful_before_last ladder base comes.newer (entry ∷ past) (subst (IsLawfulBy ladder base) comes.is law)).1.in_range

      by_die : (option : Option ℕ) → failed_die entry.kind ≡ option → failed_die entry.kind ≡ None
      by_die None is = is
      by_die (Some die) is =
          absurd (one_is_counted (is_fault_of die) comes.newer past entry (is_fault_there die entry is)
          (subst (λ (xs : List Entry). faults_of die xs ≡ 0) comes.is
          (faultless die (failed_in_range base.shape entry.kind die range is))))

answered_on_the_way : (base : ChannelBase) (view : PolicyView) (newer past : List Entry) (entry : Entry) →
    FollowsView base view (newer ++ entry ∷ past) → IsAnsweredBy base (view_of base view past) past entry.kind
answered_on_the_way base view [] past entry follows = follows.1
answered_on_the_way base view (newest ∷ newer) past entry follows = answered_on_the_way base view newer past entry follows.0

pick_is_answer : (base : ChannelBase) (view : PolicyView) (past now : List Entry) (entry : Entry) (sb : ℕ) →
    FollowsView base view now → ComesTo (entry ∷ past) now → picked_by entry.kind ≡ Some sb →
    sb ≡ answer_of (view_of base view past) (table_of base past)
pick_is_answer base view past now entry sb follows comes is =
    subst (λ (kind : Kind). IsAnsweredBy base (view_of base view past) past kind) (picked_form entry.kind sb is)
    (answered_on_the_way base view comes.newer past entry
    (subst (λ (xs : List Entry). FollowsView base view xs) comes.is follows))

pub views_choose_alike : (ladder : List Entry → ℕ → LadderState) (base : ChannelBase) (view : PolicyView)
    (one other : List Entry) → IsLawfulBy ladder base one → IsLawfulBy ladder base other → FollowsView base view one →
    FollowsView base view other → ((die : ℕ) → die < base.shape.dies → faults_of die one ≡ 0) →
    ((die : ℕ) → die < base.shape.dies → faults_of die other ≡ 0) → ChooseAlike one other
views_choose_alike ladder base view one other law too follows follows_too faultless faultless_too past first second comes goes =
    record {
      same_pick = λ sb named is is_too.
          pick_is_answer base view past one first sb follows comes is
          ∙ sym (pick_is_answer base view past other second named follows_too goes is_too);
      same_die =
          none_failed ladder base past one first law faultless comes
          ∙ sym (none_failed ladder base past other second too faultless_too goes);
    }
