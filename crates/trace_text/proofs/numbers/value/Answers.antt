use Rattle.std.proofs.Common.{◌≡◌, ◌+◌, ◌*◌, ◌-◌, get_or, arith, rules, sym, ap, ◌∙◌, take_all}
use Rattle.std.specs.Str.Parse.{digits_value}
use Rattle.trace_text.specs.Spelled.{fitting}
use Rattle.trace_text.proofs.Digits.{digit_at, digit_is_within, digits_value_next, fits, front_too_great}
use Rattle.trace_text.proofs.numbers.value.Goals as goal

pub overflow_sub-digit : goal.overflow_sub-digit
overflow_sub-digit c =
    (digit_is_within _ (digit_at c.args.digits.now c.loop-digit.digit-index c.requires c.loop-digit-test.true)).0

pub returns-then-next-from : goal.returns-then-next-from
returns-then-next-from c =
    sym (front_too_great c.args.digits.now c.loop-digit.digit-index c.loop-digit.value c.loop-digit-test.true c.requires c.loop-digit.invariant.value (omega arith))

pub loop-digit-preserved : goal.loop-digit-preserved
loop-digit-preserved c =
    let next = digits_value_next c.args.digits.now c.loop-digit.digit-index c.loop-digit.value c.loop-digit-test.true c.requires c.loop-digit.invariant.value in
    let first : c.from.result * 10 + c.from-in-loop-digit.result ≡ c.loop-digit.value * 10 + (get_or c.args.digits.now c.loop-digit.digit-index 0 - 48) = omega arith in
    record { value = first ∙ sym next; small = omega arith }
