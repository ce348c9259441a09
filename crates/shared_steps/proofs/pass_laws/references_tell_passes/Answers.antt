use Rattle.shared_steps.proofs.Passes as Passes
use Rattle.shared_steps.proofs.pass_laws.references_tell_passes.Goals as goal

pub returns : goal.returns
returns c = Passes.references_tell_passes
