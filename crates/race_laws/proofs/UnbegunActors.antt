-- An actor of whose calls just the answered ones were made: the one after them may count as begun, since some steps would
-- make it whole, and it has left its looks.
use Rattle.std.proofs.Common.{ℕ, zero, suc, ◌≡◌, ◌<◌, ◌≤◌, not, Bool, true, false, cond, List, [], ◌∷◌, ◌++◌, length, map, Option, Some, None, refl, ap, subst, ◌∙◌, arith}
use Rattle.std.specs.Prelude.{All, slice_get}
use Rattle.std.specs.List.{list_all}
use Rattle.std.proofs.lemmas.Bool.{and_parts, or_left}
use Rattle.std.proofs.lemmas.List.Elements.{All-cons, All-head, All-nil}
use Rattle.std.proofs.lemmas.List.Folds.{list_all-append, list_any-append}
use Rattle.ssd_geo.specs.declared.entry.Entry.{Entry}
use Rattle.ssd_geo.specs.declared.kind.Kind.{Kind}
use Rattle.ssd_geo.specs.declared.look.Look.{Look}
use Rattle.ssd_geo.specs.declared.tag.Tag.{Tag}
use Rattle.ssd_geo.specs.declared.trace.TraceCall.{TraceCall}
use Rattle.ssd_histories.specs.CallSteps.{CallStep, steps_of}
use Rattle.ssd_histories.specs.CallsInOrder.{ChannelRun, IsBegun, IsBegunOn, is_left, is_of_call, steps_on}
use Rattle.ssd_histories.specs.History.{is_same_tag, look_made, looks_after, open_looks, with_look}
use Rattle.ssd_histories.specs.OpenLooks.{began_at, without_look}
use Rattle.serial_laws.proofs.MadeSteps.{faults_in}
use Rattle.serial_laws.proofs.UnbegunCalls.{begun_with_none, add_other, after_other}
use Rattle.calls_among_others.specs.ActorsCalls.{is_known_of}
use Rattle.race_laws.specs.Races.{AskedActorsAreSoFar, IsBegunThere, first_of}
use Rattle.race_laws.proofs.PlacedCalls.{all_weaker, known_weaker}
use Rattle.shared_lemmas.proofs.Lists.{numbered_at}

-- so many of an item
abbrev copies : {X : Type 0} → ℕ → X → List X
copies zero x = []
copies (suc n) x = x ∷ copies n x

many_copies : {X : Type 0} (n : ℕ) (x : X) → length (copies n x) ≡ n
many_copies zero x = refl
many_copies (suc n) x = ap suc (many_copies n x)

copy_at : {X : Type 0} (n i : ℕ) (x : X) → i < n → slice_get (copies n x) i ≡ Some x
copy_at zero i x low = absurd (omega arith)
copy_at (suc n) zero x low = refl
copy_at (suc n) (suc i) x low = copy_at n i x (omega arith)

all_copies : {X : Type 0} (P : X → Type 0) (n : ℕ) (x : X) → P x → All P (copies n x)
all_copies P zero x has = All-nil P
all_copies P (suc n) x has = All-cons P x (copies n x) has (all_copies P n x has)

all_tested : {X : Type 0} (test : X → Bool) (n : ℕ) (x : X) → test x ≡ true → list_all test (copies n x) ≡ true
all_tested test zero x has = refl
all_tested test (suc n) x has = rw has (all_tested test n x has)

-- an open look is of a call that has an entry
abbrev is_of_other : Tag → Tag × Look → Bool
is_of_other tag pin = not (is_same_tag tag pin.0)

no_last : {X : Type 0} (xs : List X) (x : X) → xs ++ x ∷ [] ≡ [] → ⊥
no_last [] x none = grind arith
no_last (y ∷ ys) x none = grind arith

none_parts : (tag : Tag) (entry : Entry) (past : List Entry) → steps_of tag (entry ∷ past) ≡ [] →
    (is_same_tag tag entry.tag ≡ false) × (steps_of tag past ≡ [])
none_parts tag entry past none = by_test (is_same_tag tag entry.tag) refl none
  where
    by_test : (b : Bool) → is_same_tag tag entry.tag ≡ b →
        ◌≡◌ {A = List CallStep}
        (elim b as (λ _. List CallStep) [
          | true ↦ steps_of tag past ++ record { past = past; entry = entry } ∷ []
          | false ↦ steps_of tag past
        ]) [] → (is_same_tag tag entry.tag ≡ false) × (steps_of tag past ≡ [])
    by_test true is e = absurd (no_last (steps_of tag past) (record { past = past; entry = entry }) e)
    by_test false is e = (is, e)

pub none_open : (tag : Tag) (past : List Entry) → steps_of tag past ≡ [] →
    list_all (λ open_look. not (is_same_tag tag open_look.0)) (open_looks past) ≡ true
none_open tag [] none = refl
none_open tag (entry ∷ past) none =
    let parts = none_parts tag entry past none in
    after_other tag entry.tag (length past) entry.kind (open_looks past) parts.0 (none_open tag past parts.1)

-- a call without an entry on a channel is begun there
pub begins_with_none : (contents : List (Tag × List ℕ)) (channels channel : ℕ) (run : ChannelRun) (call : TraceCall) →
    channel < channels → steps_on call.tag run ≡ [] → IsBegunThere contents channels channel run call
begins_with_none contents channels channel run call low none =
    let left : is_left call.tag run ≡ true = none_open call.tag run.past none in
    let begun : IsBegun contents (copies channels run) call =
    begun_with_none contents (copies channels run) call
    (all_copies (λ (named : ChannelRun). steps_on call.tag named ≡ []) channels run none)
    (all_tested (is_left call.tag) channels run left) in
    record {
      begins =
          subst (λ (n : ℕ). IsBegunOn contents n call (channel, run)) (many_copies channels run)
          (numbered_at (IsBegunOn contents (length (copies channels run)) call) (copies channels run) channel run
          begun.on_channels (copy_at channels channel run low));
      one_fault = few (steps_on call.tag run) none;
      leaves = left;
    }
  where
    few : (steps : List CallStep) → steps ≡ [] → faults_in steps ≤ 1
    few steps is = let zero_faults : faults_in steps ≡ 0 = ap faults_in is in omega (arith, zero_faults)

-- the first of some calls that are later than those that were answered
abbrev IsLater : ℕ → ℕ → TraceCall → Type 0
IsLater actor many call = (call.tag.actor ≡ actor) × (many ≤ call.tag.call)

pub actors_so_far : AskedActorsAreSoFar
actors_so_far contents channels channel actor run answered rest low asked late = record {
  each = asked.each;
  begun = first_begun rest late;
  known =
      all_weaker (is_known_of actor (map (λ made. made.0) answered))
      (is_known_of actor (map (λ made. made.0) answered ++ first_of rest))
      (λ entry.
      known_weaker actor (map (λ made. made.0) answered) (map (λ made. made.0) answered ++ first_of rest) entry
      (λ is.
      list_any-append (λ (call : TraceCall). is_same_tag call.tag entry.tag) (map (λ made. made.0) answered) (first_of rest)
      ∙ or_left (is_of_call (map (λ made. made.0) answered) entry) (is_of_call (first_of rest) entry) is))
      run.past asked.known;
  in_order = asked.in_order;
  none_later = λ tag own later. asked.none_later tag own (omega (arith, later));
}
  where
    first_begun : (rest : List TraceCall) → All (IsLater actor (length answered)) (first_of rest) →
        All (IsBegunThere contents channels channel run) (first_of rest)
    first_begun [] late = All-nil (IsBegunThere contents channels channel run)
    first_begun (call ∷ rest) late =
        let its : IsLater actor (length answered) call = All-head (IsLater actor (length answered)) call [] late in
        All-cons (IsBegunThere contents channels channel run) call []
        (begins_with_none contents channels channel run call low (asked.none_later call.tag its.0 its.1))
        (All-nil (IsBegunThere contents channels channel run))
