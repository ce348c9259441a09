use Rattle.std.proofs.Common.{◌≤◌, List, length, lit≤, refl, subst, sym, ◌∙◌}
use Rattle.std.specs.Prelude.{IsTrue, ℤ}
use Rattle.std.specs.List.{list_all}
use Rattle.ssd_geo.specs.BaseMatrix.{BaseMatrix}
use Rattle.ssd_geo.specs.Limits.{is_level}
use Rattle.retry_ladder.specs.Decoder.{IsCodeOf}
use Rattle.loaded_tests.proofs.CollectingCalls.{is_code_of}
use Rattle.loaded_tests.specs.LoadedWorker.{loaded_worker}
use Rattle.loaded_tests.proofs.collects.small_worker.Goals as goal

pub new-requires-clause-code : goal.new-requires-clause-code
new-requires-clause-code c =
    subst (λ (code : BaseMatrix). IsCodeOf c.args.shape code) (sym c.in_ok-code.ensures) (is_code_of c.args.shape c.requires)

pub new-requires-clause-few_levels : goal.new-requires-clause-few_levels
new-requires-clause-few_levels c = subst (λ (levels : List ℤ). length levels ≤ 16) (sym c.in_ok-levels.ensures) (lit≤ tt)

pub new-requires-clause-levels : goal.new-requires-clause-levels
new-requires-clause-levels c =
    subst (λ (levels : List ℤ). IsTrue (list_all is_level levels)) (sym c.in_ok-levels.ensures) refl

pub returns : goal.returns
returns c =
    c.in_ok-worker.ensures
    ∙ (λ i. record (loaded_worker c.args.shape) { code = c.in_ok-code.ensures i; levels = c.in_ok-levels.ensures i })
