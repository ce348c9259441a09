use Rattle.std.proofs.Common.{◌∙◌, refl, sym, Result, Ok, Err}
use Rattle.std.specs.Prelude.{IfOk}
use Rattle.ssd_formats.specs.ImageContents.{blank_channel}
use Rattle.ssd_formats.specs.ImageHead.{head_of}
use Rattle.channel_base.proofs.BlankChannels.{blank_sum}
use Rattle.channel_base.proofs.blank.blank_base.Goals as goal

-- what holds of each value that is answered
of_each : {A E : Type 0} (P Q : A → Type 0) (result : Result A E) → ((x : A) → P x → Q x) → IfOk result P → IfOk result Q
of_each P Q (Ok x) each holds = each x holds
of_each P Q (Err error) each holds = tt

pub returns-clause-base : goal.returns-clause-base
returns-clause-base c =
    let head = head_of c.args.head.now in
    of_each _ _ c.base_of.result
    (λ base any. any (blank_channel head c.args.channel) c.in_ok-blocks.ensures c.in_ok-rows.ensures
    (c.in_ok-sum.ensures ∙ sym (blank_sum head c.args.channel)))
    c.base_of.ensures.base
