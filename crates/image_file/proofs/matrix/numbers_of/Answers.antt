use Rattle.std.proofs.Common.{◌≡◌, ◌+◌, ◌*◌, ◌<◌, [], ◌∷◌, ◌++◌, get_or, arith, length, rules}
use Rattle.ssd_formats.specs.Fields.{signed_of_bytes}
use Rattle.ssd_formats.specs.ImageHead.{signed_numbers}
use Rattle.image_file.proofs.MatrixSteps.{numbers_end, numbers_more}
use Rattle.image_file.proofs.matrix.numbers_of.Goals as goal
use Rattle.ssd_formats.proofs.SpelledHeads.{all_short}

pub loop-i-preserved : goal.loop-i-preserved
loop-i-preserved c =
    let bytes = c.args.bytes.now in
    let i = c.loop-i.i in
    let pushed : c.push.new.self.items ≡ c.loop-i.numbers.items ++ c.from_le_bytes.result ∷ [] = search rules in
    let value : c.from_le_bytes.result ≡ signed_of_bytes (get_or bytes (2 * i) 0 ∷ get_or bytes (2 * i + 1) 0 ∷ []) = search rules in
    let within : 2 * i + 1 < length bytes = omega arith in
    record {
      so_far = rw (pushed, value) (numbers_more bytes i c.loop-i.numbers.items _ within c.loop-i.invariant.so_far);
      count = search rules;
    }

pub returns-clause-numbers : goal.returns-clause-numbers
returns-clause-numbers c =
    numbers_end c.args.bytes.now c.loop-i.i _ _ (omega arith) c.loop-i.invariant.so_far

pub returns-clause-short : goal.returns-clause-short
returns-clause-short c =
    let all : c.loop-i.numbers.items ≡ signed_numbers c.args.bytes.now =
    numbers_end c.args.bytes.now c.loop-i.i _ _ (omega arith) c.loop-i.invariant.so_far in
    rw all (all_short c.args.bytes.now)
