use Rattle.std.proofs.Common.{◌≡◌, List, length, All, sym, subst, arith}
use Rattle.hint_queue.specs.Orders.{HintPassState, SomeHas}
use Rattle.hint_queue.proofs.Later.{each_has, new_numbers, new_queue}
use Rattle.hint_queue.proofs.tests.pages_of_each_pass_come_in_its_order.Goals as goal

pub all_work-requires-clause-passes : goal.all_work-requires-clause-passes
all_work-requires-clause-passes g c κs =
    subst (λ (l : List HintPassState). All (λ pass. pass.queue ≡ c.in_ok-hints.hints) l) (sym c.in_ok-hints.ensures.passes) (new_queue c.in_ok-hints.hints 0 32)

pub close-requires-clause-numbers : goal.close-requires-clause-numbers
close-requires-clause-numbers g c number low =
    let count = c.in_ok-hints.ensures.queue.0 in
    let first : SomeHas c.in_ok-hints.passes.items number =
    subst (λ (l : List HintPassState). SomeHas l number) (sym c.in_ok-hints.ensures.passes) (new_numbers c.in_ok-hints.hints 0 32 number (omega arith) (omega (arith, low, count))) in
    let had = c.in_ok-hints.passes.ok.0 in
    let has = c.in_ok-passes.passes.ok.0 in
    let left = c.in_ok-passes-2.passes.ok.0 in
    let one : c.in_ok-passes.passes.len ≡ c.in_ok-hints.passes.len = c.in_ok-passes.ensures.len in
    let two : c.in_ok-passes-2.passes.len ≡ c.in_ok-passes.passes.len = c.in_ok-passes-2.ensures.len in
    each_has c.in_ok-passes.passes.items c.in_ok-passes-2.passes.items (omega (arith, has, left, two)) (λ i d under. (c.in_ok-passes-2.ensures.each i d (omega (arith, has, under))).1) number
    (each_has c.in_ok-hints.passes.items c.in_ok-passes.passes.items (omega (arith, had, has, one)) (λ i d under. (c.in_ok-passes.ensures.each i d (omega (arith, had, under))).1) number first)
