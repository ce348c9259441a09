use Rattle.ssd_formats.proofs.NumberLaws.{decimal_is_read, hex_is_read, number_has_one_text, signed_is_read}
use Rattle.ssd_formats.proofs.number_laws.numbers_are_read.Goals as goal

pub returns-clause-read : goal.returns-clause-read
returns-clause-read c = λ n h. decimal_is_read n h

pub returns-clause-one_text : goal.returns-clause-one_text
returns-clause-one_text c = λ text n h e. number_has_one_text text n h e

pub returns-clause-signed : goal.returns-clause-signed
returns-clause-signed c = λ n h. signed_is_read n h

pub returns-clause-hex : goal.returns-clause-hex
returns-clause-hex c = λ bytes h. hex_is_read bytes h
