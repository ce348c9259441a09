-- The open look of a call among those that are kept.
use Rattle.std.proofs.Common.{◌≡◌, ℕ, ◌==◌, cond, Bool, true, false, List, [], ◌∷◌, ◌++◌, sym, ◌∙◌, ap, subst, Option, Some, None, refl, arith}
use Rattle.std.proofs.lemmas.Bool.Decides.{nat_tests}
use Rattle.std.specs.Prelude.{IfSome, IsSome}
use Rattle.chan_dies.specs.DiesState.{DiesState}
use Rattle.chan_tables.specs.TablesState.{TablesState}
use Rattle.ssd_histories.specs.History.{is_same_tag, look_by, open_look}
use Rattle.ssd_histories.specs.OpenLooks.{began_at, look_at}
use Rattle.ssd_histories.specs.Start.{Start}
use Rattle.ssd_geo.specs.declared.look.Look.{Look}
use Rattle.ssd_geo.specs.declared.policy_view.PolicyView.{PolicyView}
use Rattle.ssd_geo.specs.declared.tag.Tag.{Tag}
use Rattle.chan_state.specs.ChannelState.{StandsFor}
use Rattle.chan_state.specs.Kept.{channel_of}
use Rattle.chan_tables.proofs.EarlierLooks.{found_last}

-- an open look of a call is open
pub open_of_call : (tag : Tag) (o : Option (Tag × Look)) → IsSome (look_by tag o) → IsSome o
open_of_call tag None some = some
open_of_call tag (Some found) some = refl

pub open_in_past : (old : TablesState) (dies : DiesState) (view : Option PolicyView) (start : Start) (contents : List (Tag × List ℕ)) (tag : Tag) (at : ℕ) → StandsFor (channel_of old dies) view start contents
    → IsSome (look_by tag (look_at old.looks at)) → IsSome (open_look old.past tag at)
open_in_past old dies view start contents tag at stands some =
    subst (λ (looks : List (Tag × Look)). IsSome (look_by tag (look_at looks at))) stands.looks_are some

look_there : (o : Option Look) → IsSome o → (look : Look) × (o ≡ Some look)
look_there None some = cc
look_there (Some look) some = (look, refl)

of_found : (P : Look → Type 0) (tag : Tag) (o : Option (Tag × Look)) (look : Look) → look_by tag o ≡ Some look → IfSome o (λ pin. P pin.1) → P look
of_found P tag None look e h = cc
of_found P tag (Some found) look e h = by_call (is_same_tag tag found.0) e
  where
    by_call : (b : Bool) → ◌≡◌ {A = Option Look} (elim b [ true ↦ Some found.1 | false ↦ None ]) (Some look) → P look
    by_call true e = subst (λ (o : Option Look). IfSome o P) e h
    by_call false e = cc

pub by_call : (P : Look → Type 0) (tag : Tag) (o : Option (Tag × Look)) → IfSome o (λ pin. P pin.1) → IfSome (look_by tag o) P
by_call P tag None h = tt
by_call P tag (Some found) h = by_tag (is_same_tag tag found.0)
  where
    by_tag : (b : Bool) → IfSome (elim b as (λ _. Option Look) [ true ↦ Some found.1 | false ↦ None ]) P
    by_tag true = h
    by_tag false = tt

-- the look of a call that is open, with what is told of it
pub record IsLookOf (looks : List (Tag × Look)) (tag : Tag) (at : ℕ) (P : Look → Type 0) : Type 0 where
  pub look : Look
  pub found : look_by tag (look_at looks at) ≡ Some look
  pub holds : P look

pub look_of_call : (looks : List (Tag × Look)) (tag : Tag) (at : ℕ) (P : Look → Type 0) → IsSome (look_by tag (look_at looks at)) → IfSome (look_at looks at) (λ pin. P pin.1)
    → IsLookOf looks tag at P
look_of_call looks tag at P some h =
    let there : (look : Look) × (look_by tag (look_at looks at) ≡ Some look) = look_there (look_by tag (look_at looks at)) some in
    record { look = there.0; found = there.1; holds = of_found P tag (look_at looks at) there.0 there.1 h }

pub found_in_past : (old : TablesState) (dies : DiesState) (view : Option PolicyView) (start : Start) (contents : List (Tag × List ℕ)) (tag : Tag) (at : ℕ) (look : Look) → StandsFor (channel_of old dies) view start contents
    → look_by tag (look_at old.looks at) ≡ Some look → open_look old.past tag at ≡ Some look
found_in_past old dies view start contents tag at look stands found =
    subst (λ (looks : List (Tag × Look)). look_by tag (look_at looks at) ≡ Some look) stands.looks_are found

pub some_same : (a b : Look) → Some a ≡ Some b → a ≡ b
some_same a b e = cc
