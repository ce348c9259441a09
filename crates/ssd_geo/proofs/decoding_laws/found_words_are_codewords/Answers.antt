use Rattle.ssd_geo.proofs.FoundWords.{decoded_codeword, decoded_is, decoded_of_bits}
use Rattle.ssd_geo.proofs.decoding_laws.found_words_are_codewords.Goals as goal

pub returns-clause-codeword : goal.returns-clause-codeword
returns-clause-codeword c = decoded_codeword

pub returns-clause-of_bits : goal.returns-clause-of_bits
returns-clause-of_bits c = decoded_of_bits

pub returns-clause-bounded : goal.returns-clause-bounded
returns-clause-bounded c = λ m limit values n word h. (decoded_is m limit values n word h).0
