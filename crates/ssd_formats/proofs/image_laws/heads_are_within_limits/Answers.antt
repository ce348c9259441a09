use Rattle.ssd_formats.proofs.HeadLaws.{head_is_within_limits}
use Rattle.ssd_formats.proofs.image_laws.heads_are_within_limits.Goals as goal

pub returns : goal.returns
returns c = λ head h. head_is_within_limits head h
