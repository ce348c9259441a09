use Rattle.std.proofs.Common.{◌≡◌, ℤ, List, get_or, [], refl, ap, sym, ◌∙◌, length, vec_len, arith}
use Rattle.std.specs.Prelude.{flat_map}
use Rattle.ssd_formats.specs.Fields.{bytes_of_signed}
use Rattle.ssd_formats.specs.ImageContents.{pages_at}
use Rattle.chan_dies.specs.DiesState.{blocks_in}
use Rattle.onfi_cmd.specs.DieState.{DieState}
use Rattle.ssd_io.proofs.WriteSteps.{writes_is, wrote}
use Rattle.contents_file.proofs.DieSteps.{faults_load, levels_told, stays_same}
use Rattle.contents_file.proofs.PutSteps.{die_fails, puts_all, sink_fails}
use Rattle.contents_file.proofs.pages.write_page.Goals as goal
use Rattle.shared_lemmas.proofs.Lists.{written_whole}

pub returns-in-Err-clause-puts : goal.returns-in-Err-clause-puts
returns-in-Err-clause-puts g c = die_fails c.args.output.now c.args.number _

pub returns-in-Err-clause-die : goal.returns-in-Err-clause-die
returns-in-Err-clause-die g c =
    (refl, faults_load (g.D.Die.state c.args.die.now) (g.D.Die.state c.levels.new.self) _ c.in-Err.ensures.call)

pub returns-in-Ok-write_levels-clause-puts : goal.returns-in-Ok-write_levels-clause-puts
returns-in-Ok-write_levels-clause-puts g c =
    let old : DieState = g.D.Die.state c.args.die.now in
    let levels : List ℤ = c.levels.new.out in
    let told : levels ≡ get_or (pages_at c.args.sb (blocks_in old)) c.args.page [] =
    levels_told old (vec_len c.args.work.now.levels) c.args.sb c.args.page levels c.requires.cells c.requires.tells c.requires.programmed c.in-Ok.ensures.ok in
    let many : length levels ≡ c.args.work.now.levels.len = omega arith in
    let whole = written_whole c.args.work.now.levels.len levels c.args.work.now.levels.items many in
    puts_all (flat_map bytes_of_signed (get_or (pages_at c.args.sb (blocks_in old)) c.args.page []))
    (ap (flat_map bytes_of_signed) (sym told ∙ sym whole)) (wrote c.in-Ok-write_levels.ensures.puts)

pub returns-in-Ok-write_levels-clause-die : goal.returns-in-Ok-write_levels-clause-die
returns-in-Ok-write_levels-clause-die g c =
    stays_same (g.D.Die.state c.args.die.now) (g.D.Die.state c.levels.new.self) _ (vec_len c.args.work.now.levels) c.requires.cells c.requires.tells c.in-Ok.ensures.call c.in-Ok.ensures.same

pub returns-in-Err-write_levels-clause-puts : goal.returns-in-Err-write_levels-clause-puts
returns-in-Err-write_levels-clause-puts g c =
    let old : DieState = g.D.Die.state c.args.die.now in
    let levels : List ℤ = c.levels.new.out in
    let told : levels ≡ get_or (pages_at c.args.sb (blocks_in old)) c.args.page [] =
    levels_told old (vec_len c.args.work.now.levels) c.args.sb c.args.page levels c.requires.cells c.requires.tells c.requires.programmed c.in-Ok.ensures.ok in
    let many : length levels ≡ c.args.work.now.levels.len = omega arith in
    let whole = written_whole c.args.work.now.levels.len levels c.args.work.now.levels.items many in
    sink_fails (writes_is (flat_map bytes_of_signed (get_or (pages_at c.args.sb (blocks_in old)) c.args.page []))
    (ap (flat_map bytes_of_signed) (sym told ∙ sym whole)) c.in-Err-write_levels.ensures.puts)

pub returns-in-Err-write_levels-clause-die : goal.returns-in-Err-write_levels-clause-die
returns-in-Err-write_levels-clause-die g c =
    stays_same (g.D.Die.state c.args.die.now) (g.D.Die.state c.levels.new.self) _ (vec_len c.args.work.now.levels) c.requires.cells c.requires.tells c.in-Ok.ensures.call c.in-Ok.ensures.same
