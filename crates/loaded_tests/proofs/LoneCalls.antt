-- A caller that is alone makes the calls of every actor, and is alone still after each step.
use Rattle.std.proofs.Common.{◌≡◌, ℕ, Option, ◌∙◌, subst, sym}
use Rattle.std.specs.Prelude.{IfSome}
use Rattle.chan_calls.specs.Caller.{CallerView, SameCaller, Serves}
use Rattle.ssd_geo.specs.Shape.{HasSizes}
use Rattle.ssd_geo.specs.declared.shape.Shape.{Shape}
use Rattle.ssd_histories.specs.HistoryExamples.{small_sizes}
use Rattle.loaded_tests.specs.LoneCaller.{IsLone}

pub lone_serves : (caller : CallerView) (actor : ℕ) → IsLone caller → Serves caller actor
lone_serves caller actor lone =
    subst (λ (number : Option ℕ). IfSome number (λ n. actor ≡ n)) (sym lone.alone) tt

pub lone_still : (old new : CallerView) → SameCaller old new → IsLone old → IsLone new
lone_still old new same lone = record {
  alone = same.number_stays ∙ lone.alone;
  unbound = same.bound_stays ∙ lone.unbound;
  sizes = subst (λ (shape : Shape). HasSizes shape small_sizes) (sym same.shape_stays) lone.sizes;
}
