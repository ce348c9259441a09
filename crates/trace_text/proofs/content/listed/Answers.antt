use Rattle.std.proofs.Common.{◌≡◌, ◌+◌, ◌*◌, ◌++◌, ◌∷◌, [], length, drop, Some, None, Err, arith, rules, ap, get_or, length-append, sym, ◌∙◌, ◌≤◌}
use Rattle.std.specs.Prelude.{ok_or, option_map}
use Rattle.ssd_formats.specs.InputFaults.{bytes}
use Rattle.ssd_formats.specs.Numbers.{bytes_of_hex}
use Rattle.ssd_geo.specs.declared.trace.Content.TheVariants.{Listed}
use Rattle.trace_text.proofs.HexPairs.{all_are_read, long_lacks, odd_lacks, pair_is_read, pair_is_wrong}
use Rattle.trace_text.proofs.content.listed.Goals as goal

pub returns-then-digits-eq1 : goal.returns-then-digits-eq1
returns-then-digits-eq1 c = ap (λ found. ok_or found bytes) (odd_lacks c.args.most c.args.digits.now c.if-digits-eq1.true)

pub returns-then-digits-most : goal.returns-then-digits-most
returns-then-digits-most c = ap (λ found. ok_or found bytes) (long_lacks c.args.most c.args.digits.now c.if-digits-most.true)

pub returns-in_default-byte_at : goal.returns-in_default-byte_at
returns-in_default-byte_at c =
    let pair : None ≡ bytes_of_hex (get_or c.args.digits.now (2 * c.loop-i.i) 0 ∷ get_or c.args.digits.now (2 * c.loop-i.i + 1) 0 ∷ []) = search rules in
    ap (λ found. ok_or found bytes) (pair_is_wrong c.args.most c.args.digits.now c.loop-i.list.items c.loop-i.i (omega arith) pair c.loop-i.invariant.read)

pub loop-i-preserved : goal.loop-i-preserved
loop-i-preserved c =
    let pair : Some (c.in-Some.byte ∷ []) ≡ bytes_of_hex (get_or c.args.digits.now (2 * c.loop-i.i) 0 ∷ get_or c.args.digits.now (2 * c.loop-i.i + 1) 0 ∷ []) = search rules in
    let pushed : c.push.new.self.items ≡ c.loop-i.list.items ++ c.in-Some.byte ∷ [] = search rules in
    let count = c.loop-i.invariant.count in
    let read = pair_is_read c.args.digits.now c.loop-i.list.items c.loop-i.i c.in-Some.byte (omega arith) pair c.loop-i.invariant.read in
    record {
      count = rw (pushed, length-append) (omega arith);
      read = rw pushed read;
    }

pub returns : goal.returns
returns c =
    let few : length c.loop-i.list.items ≤ c.args.most = omega (arith, c.loop-i.invariant.count) in
    let all = all_are_read c.args.most c.args.digits.now c.loop-i.list.items c.loop-i.i (omega arith) few c.loop-i.invariant.read in
    let is : c.new.result ≡ c.loop-i.list.items = c.new.ensures in
    ap (λ found. ok_or found bytes) (all ∙ ap (λ l. Some (Listed l)) (sym is))
