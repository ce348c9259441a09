use Rattle.std.proofs.Common.{◌≡◌, ◌<◌, List, [], ◌∷◌, ◌++◌, length, option_to_list, ap, subst, ◌∙◌, arith}
use Rattle.turn_table.specs.Passes.{PassState}
use Rattle.turn_table.proofs.Gathering.{IsGathered, all_before, gathers_all, gathers_first, gathers_more, has_all_numbers, nil_of, some_pass}
use Rattle.turn_table.proofs.turns.Turns.gathered.Goals as goal

pub unwrap-whole-requires : goal.unwrap-whole-requires
unwrap-whole-requires g c =
    let many : 0 < length c.args.passes.items = some_pass c.args.self.now.passes c.args.passes.items c.requires.some c.requires.numbers in
    let count = c.args.passes.ok.0 in
    let more : 0 < c.args.passes.len = omega arith in
    c.pop.ensures.variant.1 more

pub loop-pass-init : goal.loop-pass-init
loop-pass-init g c =
    let last : c.args.passes.items ≡ c.pop.new.self.items ++ c.unwrap-whole.result ∷ [] =
    c.pop.ensures.items ∙ ap (λ one. c.pop.new.self.items ++ option_to_list one) c.unwrap-whole.ensures in
    let split = all_before (λ pass. pass.lock ≡ c.args.self.now.lock) c.pop.new.self.items c.unwrap-whole.result c.args.passes.items last c.requires.lock in record {
      whole = split.1;
      left = split.0;
      so_far = gathers_first c.args.passes.items c.pop.new.self.items c.unwrap-whole.result last;
    }

pub loop-pass-preserved : goal.loop-pass-preserved
loop-pass-preserved g c =
    let last : c.loop-pass.passes.items ≡ c.pop-in-loop-pass.new.self.items ++ c.in-Some.pass ∷ [] = c.in-Some.ensures.items in record {
      whole = ap (λ (pass : PassState). pass.lock) c.join-whole.ensures.pass ∙ c.loop-pass.invariant.whole;
      left = (all_before (λ pass. pass.lock ≡ c.args.self.now.lock) c.pop-in-loop-pass.new.self.items c.in-Some.pass c.loop-pass.passes.items last c.loop-pass.invariant.left).0;
      so_far = gathers_more c.args.passes.items c.loop-pass.passes.items c.pop-in-loop-pass.new.self.items c.loop-pass.whole c.in-Some.pass c.join-whole.result
          c.loop-pass.invariant.so_far last c.join-whole.ensures.pass c.join-whole.ensures.first c.join-whole.ensures.second;
    }

pub returns : goal.returns
returns g c =
    let count = c.loop-pass.passes.ok.0 in
    let none : length c.loop-pass.passes.items ≡ 0 = omega (arith, c.in_default.ensures.cases) in
    let whole : IsGathered c.args.passes.items [] c.loop-pass.whole =
    subst (λ (left : List PassState). IsGathered c.args.passes.items left c.loop-pass.whole) (nil_of c.loop-pass.passes.items none) c.loop-pass.invariant.so_far in
    let all = gathers_all c.args.passes.items c.loop-pass.whole whole in record {
      lock = c.loop-pass.invariant.whole;
      numbers = has_all_numbers c.args.self.now.passes c.args.passes.items c.loop-pass.whole all c.requires.numbers;
      passes = all;
    }
