use Rattle.ssd_formats.proofs.ContentsLaws.{image_is_read}
use Rattle.ssd_formats.proofs.image_laws.images_are_read.Goals as goal

pub returns : goal.returns
returns c = λ head channels more h full count s. image_is_read head channels more h full count s
