use Rattle.std.proofs.Common.{ℕ, ◌≡◌, ◌+◌, List, [], ◌∷◌, ◌++◌, map, ap, arith, sym, ◌∙◌}
use Rattle.std.specs.List.{range_with_len}
use Rattle.std.proofs.lemmas.List.FromFn.{map-range_with_len_more}
use Rattle.ssd_formats.specs.TraceText.{kinds_of_actor}
use Rattle.ssd_geo.specs.declared.reply.CallKind.{CallKind}
use Rattle.ssd_geo.specs.declared.trace.TraceCall.{TraceCall}
use Rattle.ssd_top.proofs.lists.kinds_of.Goals as goal

-- the list of one more actor
kinds_pushed : (calls : List TraceCall) (n : ℕ) (lists after : List (List CallKind)) (kinds : List CallKind) → after ≡ lists ++ kinds ∷ [] → lists ≡ map (kinds_of_actor calls) (range_with_len 0 n) → kinds ≡ kinds_of_actor calls n →
    after ≡ map (kinds_of_actor calls) (range_with_len 0 (n + 1))
kinds_pushed calls n lists after kinds pushed before own =
    pushed ∙ (λ i. before i ++ own i ∷ []) ∙ sym (map-range_with_len_more (kinds_of_actor calls) 0 n n (omega arith))

pub loop-actor-preserved : goal.loop-actor-preserved
loop-actor-preserved c =
    kinds_pushed c.args.trace.now.calls c.loop-actor.actor c.loop-actor.kinds.items c.push.new.self.items c.in_ok-of_actor.of_actor
    c.in-Ok.ensures.items c.loop-actor.invariant
    (c.in_ok-of_actor.ensures ∙ ap (λ (calls : List TraceCall). kinds_of_actor calls c.loop-actor.actor) c.as_slice-calls.ensures)
