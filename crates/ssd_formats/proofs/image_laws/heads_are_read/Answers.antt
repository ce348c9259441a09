use Rattle.ssd_formats.proofs.HeadLaws.{head_is_read, first_head_is_read}
use Rattle.ssd_formats.proofs.image_laws.heads_are_read.Goals as goal

pub returns-clause-second : goal.returns-clause-second
returns-clause-second c = λ head more h. head_is_read head more h

pub returns-clause-first : goal.returns-clause-first
returns-clause-first c = λ head more h one. first_head_is_read head more h one
