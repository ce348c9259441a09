-- The laws are the parts of what the one codeword of a payload is.
use Rattle.ldpc_encode.proofs.TheWord.{only-codeword}
use Rattle.ldpc_encode.proofs.laws.word_laws.Goals as goal

pub returns-clause-codeword : goal.returns-clause-codeword
returns-clause-codeword c = λ payload.
    let word = only-codeword c.args.code.now c.z.ensures.accepted payload in
    (word.of_bits, word.codeword)

pub returns-clause-begins : goal.returns-clause-begins
returns-clause-begins c = λ payload. (only-codeword c.args.code.now c.z.ensures.accepted payload).begins

pub returns-clause-only : goal.returns-clause-only
returns-clause-only c = λ payload word of_bits codeword begins.
    (only-codeword c.args.code.now c.z.ensures.accepted payload).only word of_bits codeword begins
