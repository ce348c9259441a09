use Rattle.std.proofs.Common.{◌<◌, Option, Some, length, refl, subst, arith}
use Rattle.ssd_geo.specs.declared.policy_view.PolicyKind.TheVariants as kind
use Rattle.ssd_geo.specs.declared.policy_view.PolicyView.{PolicyView}
use Rattle.ssd_histories.specs.Policies.{first_view}
use Rattle.call_tests.specs.SmallCalls.{StandsBlank}
use Rattle.call_tests.proofs.SmallStart.{first_is, first_stands_blank, first_view_is, is_head_of, one_channel}
use Rattle.call_tests.proofs.small_drive.small_channel.Goals as goal

pub begin_channels-requires-clause-head : goal.begin_channels-requires-clause-head
begin_channels-requires-clause-head c = is_head_of c.args.head.now c.requires

pub begin_channels-requires-clause-policies : goal.begin_channels-requires-clause-policies
begin_channels-requires-clause-policies c =
    omega (arith, one_channel c.args.head.now c.requires, c.in_ok-policies.ensures)

pub remove-requires : goal.remove-requires
remove-requires c = omega (arith, one_channel c.args.head.now c.requires, c.in_ok-channels.ensures.count)

pub returns : goal.returns
returns c =
    let policies = c.in_ok-policies.policies in
    let channels = c.in_ok-channels.channels in
    let one : 0 < length policies.items = omega (arith, c.in_ok-policies.ensures, policies.ok.0) in
    let some : 0 < length channels.items =
    omega (arith, one_channel c.args.head.now c.requires, c.in_ok-channels.ensures.count, channels.ok.0) in
    let view : Option PolicyView = Some (first_view kind.Greedy) in
    subst (λ (told : Option PolicyView). StandsBlank c.remove.result.kept told)
    (first_view_is policies.items (λ policy. view) view (λ policy. refl) one)
    (first_stands_blank c.args.head.now _ _ _ _ c.remove.result.kept c.requires c.in_ok-channels.ensures.begun
    (first_is channels.items (λ channel. channel.kept) c.remove.result some c.remove.ensures.value))
