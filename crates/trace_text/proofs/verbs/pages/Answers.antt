use Rattle.std.proofs.Common.{arith}
use Rattle.ssd_geo.specs.Shape.{sizes_of}
use Rattle.trace_text.proofs.Pages.{pages_fit}
use Rattle.trace_text.proofs.verbs.pages.Goals as goal

pub overflow_mul-result : goal.overflow_mul-result
overflow_mul-result c = omega (arith, pages_fit (sizes_of c.args.shape.now) c.args.shape.now.within)
