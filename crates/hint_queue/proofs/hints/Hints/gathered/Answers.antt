use Rattle.std.proofs.Common.{◌≡◌, ◌<◌, Some, List, [], ◌∷◌, ◌++◌, length, option_to_list, sym, ap, subst, ◌∙◌, arith, append_assoc}
use Rattle.std.proofs.lemmas.List.{nil_from_length}
use Rattle.std.proofs.lemmas.List.Elements.{All-pop}
use Rattle.hint_queue.specs.Gathered.{HasPasses}
use Rattle.hint_queue.specs.Orders.{HintPassState}
use Rattle.hint_queue.proofs.hints.Hints.gathered.Goals as goal

pub unwrap-requires : goal.unwrap-requires
unwrap-requires c =
    let some = c.requires.some in
    let count = c.args.passes.ok.0 in
    let more : 0 < c.args.passes.len = omega (arith, some, count) in
    c.pop.ensures.variant.1 more

pub first-whole-requires : goal.first-whole-requires
first-whole-requires c =
    let last : c.args.passes.items ≡ c.pop.new.self.items ++ c.unwrap.result ∷ [] =
    c.pop.ensures.items ∙ ap (λ one. c.pop.new.self.items ++ option_to_list one) c.unwrap.ensures in
    (All-pop (λ (pass : HintPassState). pass.queue ≡ c.args.self.now) c.args.passes.items c.pop.new.self.items (Some c.unwrap.result) last c.requires.queue).1

pub loop-pass-init : goal.loop-pass-init
loop-pass-init c =
    let last : c.args.passes.items ≡ c.pop.new.self.items ++ c.unwrap.result ∷ [] =
    c.pop.ensures.items ∙ ap (λ one. c.pop.new.self.items ++ option_to_list one) c.unwrap.ensures in record {
      whole = c.first-whole.ensures.whole;
      left = (All-pop (λ (pass : HintPassState). pass.queue ≡ c.args.self.now) c.args.passes.items c.pop.new.self.items (Some c.unwrap.result) last c.requires.queue).0;
      so_far = (c.unwrap.result ∷ [], last, c.first-whole.ensures.passes);
    }

pub gather-whole-requires-clause-pass : goal.gather-whole-requires-clause-pass
gather-whole-requires-clause-pass c =
    (All-pop (λ (pass : HintPassState). pass.queue ≡ c.args.self.now) c.loop-pass.passes.items c.pop-in-loop-pass.new.self.items (Some c.in-Some.pass) c.in-Some.ensures.items c.loop-pass.invariant.left).1

pub loop-pass-preserved : goal.loop-pass-preserved
loop-pass-preserved c =
    let last : c.loop-pass.passes.items ≡ c.pop-in-loop-pass.new.self.items ++ c.in-Some.pass ∷ [] = c.in-Some.ensures.items in
    let so_far = c.loop-pass.invariant.so_far in record {
      whole = c.gather-whole.ensures.whole;
      left = (All-pop (λ (pass : HintPassState). pass.queue ≡ c.args.self.now) c.loop-pass.passes.items c.pop-in-loop-pass.new.self.items (Some c.in-Some.pass) last c.loop-pass.invariant.left).0;
      so_far = (
        c.in-Some.pass ∷ so_far.0,
        so_far.1 ∙ (ap (λ (l : List HintPassState). l ++ so_far.0) last ∙ append_assoc c.pop-in-loop-pass.new.self.items (c.in-Some.pass ∷ []) so_far.0),
        c.gather-whole.ensures.passes so_far.0 so_far.2,
      );
    }

pub returns-clause-passes : goal.returns-clause-passes
returns-clause-passes c =
    let count = c.loop-pass.passes.ok.0 in
    let none : length c.loop-pass.passes.items ≡ 0 = omega (arith, c.in_default.ensures.cases) in
    let so_far = c.loop-pass.invariant.so_far in
    let are : c.args.passes.items ≡ so_far.0 = so_far.1 ∙ ap (λ (l : List HintPassState). l ++ so_far.0) (nil_from_length c.loop-pass.passes.items none) in
    subst (λ (l : List HintPassState). HasPasses c.args.self.now l c.loop-pass.whole.place c.loop-pass.whole.teller) (sym are) so_far.2
