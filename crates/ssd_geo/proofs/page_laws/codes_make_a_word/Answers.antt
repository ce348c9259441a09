use Rattle.ssd_geo.proofs.PageWords.{codes_are_back, one_code_is_the_word, parts_are_the_payload, words_are_joined}
use Rattle.ssd_geo.proofs.page_laws.codes_make_a_word.Goals as goal

pub returns-clause-back : goal.returns-clause-back
returns-clause-back c = codes_are_back

pub returns-clause-joined : goal.returns-clause-joined
returns-clause-joined c = words_are_joined

pub returns-clause-payload : goal.returns-clause-payload
returns-clause-payload c = parts_are_the_payload

pub returns-clause-one : goal.returns-clause-one
returns-clause-one c = one_code_is_the_word
