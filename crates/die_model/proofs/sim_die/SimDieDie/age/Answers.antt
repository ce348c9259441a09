use Rattle.std.proofs.Common.{rules, Option, Some, sym, subst, refl, ap}
use Rattle.std.proofs.lemmas.Int.{to_z-of_z}
use Rattle.std.specs.Int.{w16}
use Rattle.std.specs.Int.RustNames.{FitsSigned}
use Rattle.onfi_cmd.specs.DieCalls.{WhereTold, HasNow}
use Rattle.onfi_cmd.specs.DieState.{with_aged}
use Rattle.die_model.specs.Simulated.{mounted_state}
use Rattle.die_model.specs.SimState.{state_of_parts}
use Rattle.die_model.specs.Stored.{Stored}
use Rattle.die_model.specs.declared.mounted.Mounted.{Mounted}
use Rattle.die_model.proofs.sim_die.SimDieDie.age.Goals as goal

pub returns-clause-ok : goal.returns-clause-ok
returns-clause-ok c =
    let was = c.in-Some.mounted in
    let erased : FitsSigned w16 was.plan.law.erased = search rules in
    let aged = simp to_z-of_z at c.age.ensures in
    let is = c.in-Some.is in
    let P : Option Mounted → Type 0 = λ parts. WhereTold (state_of_parts parts) (λ plan blocks.
    HasNow (state_of_parts parts) (mounted_state was.plan c.age.new.self.blocks was.read_level was.last_failed)
    (with_aged plan.law.erased blocks c.args.sb c.args.amount)) in
    let now : HasNow (mounted_state was.plan was.store.blocks was.read_level was.last_failed)
    (mounted_state was.plan c.age.new.self.blocks was.read_level was.last_failed)
    (with_aged was.plan.law.erased was.store.blocks c.args.sb c.args.amount) =
    record { told_are = ap (λ (s : Stored). Some s.blocks) aged; read_level_stays = refl; status_stays = refl } in
    subst P (sym is) now
