-- A channel behind a lock that an actor knows: the worker may make its calls there, and it is known after each of them.
use Rattle.std.proofs.Common.{ℕ, ◌≡◌, List, Some, None, refl, sym, subst, ap}
use Rattle.std.specs.Prelude.{IfSome, Option}
use Rattle.chan_calls.specs.Caller.{CallerView, IsOf, SameCaller}
use Rattle.chan_calls.specs.Workers.{MayCall, WorkerState, WorksFor}
use Rattle.collector.specs.Emptying.{OfEach}
use Rattle.collector.specs.Writes.{MayWrite, OfEachWith}
use Rattle.ctl.specs.Asked.{settings}
use Rattle.run_laws.specs.ServedRuns.{channel_of}
use Rattle.shared_steps.specs.Sharing.{view_of_shared}
use Rattle.shared_steps.specs.Tracing.{stands_just_for}
use Rattle.ssd_geo.specs.declared.tag.Tag.{Tag}
use Rattle.ssd_geo.specs.declared.trace.Verb.{Verb}
use Rattle.ssd_histories.specs.Start.{Start, data_of}
use Rattle.turn_table.specs.Passes.{LockState, PassState}
use Rattle.actor_calls.specs.Known.{IsKnown, IsKnownAs}

-- a worker works for the starts for which its settings do
pub works_too : (worker : WorkerState) (start : Start) → WorksFor (settings worker) start → WorksFor worker start
works_too worker start works = record {
  shape_is = works.shape_is;
  session_is = works.session_is;
  code_is = works.code_is;
  iterations_are = works.iterations_are;
  levels_are = works.levels_are;
  step_is = works.step_is;
}

-- a fact of a call's channel and verb
pub at_verb : (channels : ℕ) (fact : ℕ → Verb → Type 0) (verb own : Verb) (at here : ℕ) → verb ≡ own →
    channel_of channels own ≡ Some here → channel_of channels verb ≡ Some at → fact here own → fact at verb
at_verb channels fact verb own at here is on named holds =
    let same : here ≡ at = cc in
    subst (λ (k : ℕ). fact k verb) same (subst (λ (v : Verb). fact here v) (sym is) holds)

-- the start to which a caller is bound
abbrev start_bound : Start → Option (Start × List (Tag × List ℕ)) → Start
start_bound other None = other
start_bound other (Some bound) = bound.0

module _ (worker : WorkerState) (actor : ℕ) (lock : LockState Start) (pass : Option PassState)
    (contents : List (Tag × List ℕ)) (known : IsKnown (settings worker) actor (view_of_shared lock pass contents)) where
  abbrev before : CallerView
  before = view_of_shared lock pass contents

  pub works : WorksFor worker lock.start
  works = works_too worker lock.start known.works

  pub may_call : MayCall worker before (stands_just_for lock.start contents)
  may_call = record {
    start = lock.start;
    contents = contents;
    works = works;
    is_of = known.is_of;
    stands_for = (refl, refl);
    bound = refl;
  }

  pub may_write : (tag : Tag) (data_bytes : List ℕ) → data_of contents tag ≡ data_bytes →
      MayWrite worker before (stands_just_for lock.start contents) tag data_bytes
  unfolding may_call
  may_write tag data_bytes own = record { may = may_call; own_data = own }

  -- what holds of each start and contents for which the worker works and the channel stands holds of these
  pub of_these : (fact : Start → List (Tag × List ℕ) → Type 0) →
      OfEach worker before (stands_just_for lock.start contents) fact → fact lock.start contents
  of_these fact each = each lock.start contents works known.is_of (refl, refl)

  pub of_these_with : (tag : Tag) (data_bytes : List ℕ) → data_of contents tag ≡ data_bytes →
      (fact : Start → List (Tag × List ℕ) → Type 0) →
      OfEachWith worker before (stands_just_for lock.start contents) tag data_bytes fact → fact lock.start contents
  of_these_with tag data_bytes own fact each = each lock.start contents works known.is_of (refl, refl) own

  -- it is known after a step
  pub known_after : (lock_after : LockState Start) (pass_after : Option PassState) →
      SameCaller before (view_of_shared lock_after pass_after contents) →
      IsOf (view_of_shared lock_after pass_after contents) lock.start contents →
      IsKnown (settings worker) actor (view_of_shared lock_after pass_after contents)
  known_after lock_after pass_after same is_of =
      let start_is : lock_after.start ≡ lock.start = ap (start_bound lock.start) same.bound_stays in
      let after : CallerView = view_of_shared lock_after pass_after contents in
      let there : IsKnownAs (settings worker) actor after lock.start contents =
      record {
        serves = subst (λ (number : Option ℕ). IfSome number (λ n. actor ≡ n)) (sym same.number_stays) known.serves;
        works = known.works;
        is_of = is_of;
      } in
      subst (λ (start : Start). IsKnownAs (settings worker) actor after start contents) (sym start_is) there
