use Rattle.std.proofs.Common.{◌≡◌, ℕ, List, ap, take, ◌∙◌, arith}
use Rattle.std.proofs.lemmas.List.{take_all}
use Rattle.ssd_geo.specs.Decoding.{edge_count, layers_of}
use Rattle.ldpc_decode.proofs.LayerSteps.{edges_more, layer_count}
use Rattle.ldpc_decode.proofs.iteration.edge_total.Goals as goal

pub loop-i-preserved : goal.loop-i-preserved
loop-i-preserved c =
    let more = edges_more c.args.code.now c.loop-i.i (omega arith) in
    (omega (arith, c.edges_in-total.ensures.value, c.loop-i.invariant.0), omega (arith, c.edges_in-total.ensures.bound, c.loop-i.invariant.1))

pub returns : goal.returns
returns c =
    let m = c.args.code.now in
    let all : take c.loop-i.i (layers_of m) ≡ layers_of m = take_all c.loop-i.i (layers_of m) (omega (arith, layer_count m)) in
    c.loop-i.invariant.0 ∙ ap (λ (layers : List (List (ℕ × ℕ))). edge_count layers m.z) all
