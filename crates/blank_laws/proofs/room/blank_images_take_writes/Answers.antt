use Rattle.blank_laws.proofs.BlankImages.{blank_images_are_blank, blank_images_take_writes}
use Rattle.blank_laws.proofs.FactoryBad.{heads_have_room}
use Rattle.blank_laws.proofs.room.blank_images_take_writes.Goals as goal

pub returns : goal.returns
returns c = record { rows = heads_have_room; blank = blank_images_are_blank; writes = blank_images_take_writes }
