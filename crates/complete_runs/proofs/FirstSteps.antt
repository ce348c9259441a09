-- What the first step that decides a reply gives has what each step gives that decides one.
use Rattle.std.proofs.Common.{◌≡◌, Bool, true, false, List, [], ◌∷◌, ◌++◌, All, Option, Some, None, refl, subst}
use Rattle.std.specs.Prelude.{IfSome, IsSomeAnd, slice_get, ℕ}
use Rattle.std.proofs.lemmas.List.Elements.{All-head, All-nil, All-push, All-tail}
use Rattle.ssd_geo.specs.declared.entry.Entry.{Entry}
use Rattle.ssd_geo.specs.declared.kind.Kind.{Kind}
use Rattle.ssd_geo.specs.declared.tag.Tag.{Tag}
use Rattle.ssd_histories.specs.CallSteps.{CallStep, steps_of}
use Rattle.ssd_histories.specs.CallsInOrder.{ChannelRun, OfRun}
use Rattle.ssd_histories.specs.History.{is_same_tag}
use Rattle.ssd_histories.specs.Replies.{first_reply}

-- what holds of each entry of a past holds of each step
pub steps_have : (P : Kind → Type 0) (tag : Tag) (past : List Entry) → All (λ entry. P entry.kind) past →
    All (λ step. P step.entry.kind) (steps_of tag past)
steps_have P tag [] all = All-nil (λ (step : CallStep). P step.entry.kind)
steps_have P tag (entry ∷ past) all =
    by_tag (is_same_tag tag entry.tag) (steps_have P tag past (All-tail (λ (other : Entry). P other.kind) entry past all))
  where
    by_tag : (same : Bool) → All (λ step. P step.entry.kind) (steps_of tag past) →
        All (λ step. P step.entry.kind)
        (elim same [ true ↦ steps_of tag past ++ record { past = past; entry = entry } ∷ [] | false ↦ steps_of tag past ])
    by_tag true older =
        All-push (λ (step : CallStep). P step.entry.kind) (steps_of tag past) (record { past = past; entry = entry }) older
        (All-head (λ (other : Entry). P other.kind) entry past all)
    by_tag false older = older

-- the first reply that is decided
pub first_has : {R : Type 0} (decided : CallStep → Option R) (P : R → Type 0) (steps : List CallStep) →
    All (λ step. IfSome (decided step) P) steps → IfSome (first_reply decided steps) P
first_has decided P [] all = tt
first_has {R} decided P (step ∷ steps) all =
    by_option (decided step) (All-head (λ (other : CallStep). IfSome (decided other) P) step steps all)
    (first_has decided P steps (All-tail (λ (other : CallStep). IfSome (decided other) P) step steps all))
  where
    by_option : (option : Option R) → IfSome option P → IfSome (first_reply decided steps) P →
        IfSome (elim option as (λ x. Option R) [ Some reply ↦ Some reply | None ↦ first_reply decided steps ]) P
    by_option None own rest = rest
    by_option (Some reply) own rest = own

pub if_some : {R : Type 0} (option : Option R) (P : R → Type 0) (reply : R) → IfSome option P → option ≡ Some reply → P reply
if_some option P reply has is = subst (λ (given : Option _). IfSome given P) is has

-- a fact of the channel of a call, with what follows from it
pub on_run : {G : Type 0} (runs : List ChannelRun) (channel : ℕ) (Fact : ChannelRun → Type 0) → OfRun runs channel Fact →
    ((run : ChannelRun) → slice_get runs channel ≡ Some run → Fact run → G) → G
on_run {G} runs channel Fact some follows = by_option (slice_get runs channel) refl some
  where
    by_option : (option : Option ChannelRun) → slice_get runs channel ≡ option → IsSomeAnd option Fact → G
    by_option None is fact = absurd fact
    by_option (Some run) is fact = follows run is fact
