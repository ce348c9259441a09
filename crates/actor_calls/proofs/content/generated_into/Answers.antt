use Rattle.std.proofs.Common.{◌∙◌, ℕ, List, ap, length}
use Rattle.rand_core.specs.Stream.{Stream, fill_bytes}
use Rattle.rand_core.specs.Steps.{stream_of}
use Rattle.rand_xoshiro.specs.SplitMix64.{splitmix_steps}
use Rattle.ctl.proofs.GeneratedBytes.{filled_bytes}
use Rattle.actor_calls.proofs.content.generated_into.Goals as goal

pub returns : goal.returns
unfolding fill_bytes stream_of
returns c =
    ap (λ (filled : List ℕ × Stream). filled.0) c.fill_bytes.ensures
    ∙ ap (λ (start : ℕ). (fill_bytes (length c.args.out.now) (stream_of splitmix_steps start)).0) c.seed_from_u64.ensures.same
    ∙ filled_bytes (length c.args.out.now) c.args.number
