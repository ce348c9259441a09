-- Channels that begin one after the other, each with its start.
use Rattle.std.proofs.Common.{ℕ, ◌≡◌, ◌<◌, List, [], ◌∷◌, ◌++◌, drop, length, map, get_or, slice_get, Option, Some, None, sym, ap, subst, ◌∙◌, arith}
use Rattle.std.proofs.lemmas.Option.{slice_get_within}
use Rattle.blank_drive.proofs.BegunChannels.{view_is}
use Rattle.chan_state.specs.Starting.{HasBegun, start_of}
use Rattle.final_dies.specs.FinalDies.{dies_of_channel}
use Rattle.onfi_cmd.specs.DieState.{DieState}
use Rattle.shared_steps.specs.Tracing.{TracedState}
use Rattle.ssd_geo.specs.declared.base.ChannelBase.{ChannelBase}
use Rattle.ssd_geo.specs.declared.policy_view.PolicyView.{PolicyView}
use Rattle.raced_channels.specs.Begun.{HasBegunTraced, HaveBegunTraced}
use Rattle.raced_channels.proofs.Grown.{grown}

pub none_begun : (bases : List ChannelBase) (limit count : ℕ) (dies : List DieState) (views : List (Option PolicyView))
    (channels : List TracedState) → channels ≡ [] → HaveBegunTraced bases limit count dies views channels
none_begun bases limit count dies views channels none = λ number channel at.
    let nowhere : number < length channels = slice_get_within channels number channel at in
    absurd (omega (arith, nowhere, ap (λ (all : List TracedState). length all) none))

-- one more channel has begun
pub next_begun : {P : Type 0} (policies rest : List P) (channels after : List TracedState) (dies own : List DieState) (policy : P)
    (next : TracedState) (told : P → Option PolicyView) (bases : List ChannelBase) (base : ChannelBase) (limit count number : ℕ)
    → number < length policies → rest ≡ drop number policies → policy ≡ get_or rest 0 policy → number ≡ length channels
    → after ≡ channels ++ next ∷ [] → slice_get bases number ≡ Some base → own ≡ dies_of_channel count dies number
    → HasBegun base limit own (told policy) next.channel → next.told ≡ told policy
    → next.start ≡ start_of base limit own (told policy)
    → HaveBegunTraced bases limit count dies (map told policies) channels
    → HaveBegunTraced bases limit count dies (map told policies) after
next_begun {P = P} policies rest channels after dies own policy next told bases base limit count number below rest_is is long more
    base_there own_is begun told_is start_is before =
    let view : told policy ≡ get_or (map told policies) number None =
    view_is told policies number policy None below (is ∙ ap (λ (left : List P). get_or left 0 policy) rest_is) in
    let here : HasBegunTraced bases limit number own (told policy) next =
    record { base = base; base_is = base_there; has_begun = begun; told_is = told_is; start_is = start_is } in
    let there : HasBegunTraced bases limit number (dies_of_channel count dies number) (get_or (map told policies) number None) next =
    subst (λ (all : List DieState). HasBegunTraced bases limit number all (get_or (map told policies) number None) next) own_is
    (subst (λ (one : Option PolicyView). HasBegunTraced bases limit number own one next) view here) in
    subst (λ (all : List TracedState). HaveBegunTraced bases limit count dies (map told policies) all) (sym more)
    (grown
    (λ (k : ℕ) (one : TracedState).
    HasBegunTraced bases limit k (dies_of_channel count dies k) (get_or (map told policies) k None) one)
    channels next number long before there)
