use Rattle.ssd_formats.proofs.ContentsLaws.{contents_are_read}
use Rattle.ssd_formats.proofs.image_laws.contents_are_read.Goals as goal

pub returns : goal.returns
returns c = λ head channel saved place more h s. contents_are_read head channel saved place more h s
