use Rattle.std.proofs.Common.{◌≡◌, ◌<◌, ◌∙◌, ℕ, ℤ, List, [], Err, length, ap, sym, subst, arith, vec_len, true}
use Rattle.std.specs.Prelude.{flat_map, is_some}
use Rattle.std.proofs.lemmas.List.{take_all}
use Rattle.ssd_formats.specs.Fields.{bytes_of_signed}
use Rattle.ssd_formats.specs.ImageContents.{pages_at}
use Rattle.chan_dies.specs.DiesState.{blocks_in}
use Rattle.onfi_cmd.specs.DieCalls.{IsPage, IsWholePage}
use Rattle.onfi_cmd.specs.DieState.{DieState}
use Rattle.contents_file.proofs.DieSteps.{count_told, is_page_below, later_stays}
use Rattle.contents_file.proofs.PutSteps.{item_put, item_stops, put_at, puts_all}
use Rattle.contents_file.proofs.pages.write_pages.Goals as goal

pub write_page-requires-clause-page : goal.write_page-requires-clause-page
write_page-requires-clause-page g c =
    let old : DieState = g.D.Die.state c.args.die.now in
    subst (λ (die : DieState). IsPage die c.args.sb c.loop-page.page) (sym c.loop-page.invariant.stays)
    (is_page_below old c.args.sb c.loop-page.page c.programmed-count.result c.requires.block c.programmed-count.ensures.most c.loop-page-test.true)

pub write_page-requires-clause-programmed : goal.write_page-requires-clause-programmed
write_page-requires-clause-programmed g c =
    let old : DieState = g.D.Die.state c.args.die.now in
    let count = count_told old c.args.sb c.programmed-count.result c.requires.tells c.programmed-count.ensures.told in
    subst (λ (die : DieState). c.loop-page.page < length (pages_at c.args.sb (blocks_in die))) (sym c.loop-page.invariant.stays) (omega (arith, count))

pub write_page-requires-clause-tells : goal.write_page-requires-clause-tells
write_page-requires-clause-tells g c =
    subst (λ (die : DieState). is_some die.told ≡ true) (sym c.loop-page.invariant.stays) c.requires.tells

pub write_page-requires-clause-cells : goal.write_page-requires-clause-cells
write_page-requires-clause-cells g c =
    subst (λ (die : DieState). IsWholePage die (vec_len c.loop-page.work.levels)) (sym c.loop-page.invariant.stays)
    (subst (λ (n : ℕ). IsWholePage (g.D.Die.state c.args.die.now) n) (sym c.loop-page.invariant.length) c.requires.cells)

pub loop-page-preserved : goal.loop-page-preserved
loop-page-preserved g c =
    let old : DieState = g.D.Die.state c.args.die.now in
    let pages : List (List ℤ) = pages_at c.args.sb (blocks_in old) in
    let count = count_told old c.args.sb c.programmed-count.result c.requires.tells c.programmed-count.ensures.told in
    let same : pages_at c.args.sb (blocks_in (g.D.Die.state c.loop-page.die)) ≡ pages =
    ap (λ (die : DieState). pages_at c.args.sb (blocks_in die)) c.loop-page.invariant.stays in
    record {
      wrote =
          item_put (flat_map bytes_of_signed) pages c.loop-page.page [] (omega (arith, count)) c.loop-page.invariant.wrote
          (put_at (flat_map bytes_of_signed) _ pages c.loop-page.page [] _ same c.in-Ok.ensures.puts);
      stays = c.in-Ok.ensures.die ∙ c.loop-page.invariant.stays;
      length = c.write_page.ensures.length ∙ c.loop-page.invariant.length;
    }

pub returns-in-Err-clause-puts : goal.returns-in-Err-clause-puts
returns-in-Err-clause-puts g c =
    let old : DieState = g.D.Die.state c.args.die.now in
    let pages : List (List ℤ) = pages_at c.args.sb (blocks_in old) in
    let count = count_told old c.args.sb c.programmed-count.result c.requires.tells c.programmed-count.ensures.told in
    let same : pages_at c.args.sb (blocks_in (g.D.Die.state c.loop-page.die)) ≡ pages =
    ap (λ (die : DieState). pages_at c.args.sb (blocks_in die)) c.loop-page.invariant.stays in
    item_stops c.in-Err.stop (flat_map bytes_of_signed) pages c.loop-page.page [] (omega (arith, count)) c.loop-page.invariant.wrote
    (put_at (flat_map bytes_of_signed) _ pages c.loop-page.page [] _ same c.in-Err.ensures.puts)

pub returns-in-Err-clause-die : goal.returns-in-Err-clause-die
returns-in-Err-clause-die g c =
    later_stays {T = Unit {0}} c.args.number (g.D.Die.state c.args.die.now) (g.D.Die.state c.loop-page.die) (g.D.Die.state c.write_page.new.die) (Err c.in-Err.stop)
    c.loop-page.invariant.stays c.in-Err.ensures.die

pub returns-clause-puts : goal.returns-clause-puts
returns-clause-puts g c =
    let old : DieState = g.D.Die.state c.args.die.now in
    let pages : List (List ℤ) = pages_at c.args.sb (blocks_in old) in
    let count = count_told old c.args.sb c.programmed-count.result c.requires.tells c.programmed-count.ensures.told in
    puts_all (flat_map (flat_map bytes_of_signed) pages)
    (ap (flat_map (flat_map bytes_of_signed)) (sym (take_all c.loop-page.page pages (omega (arith, count))))) c.loop-page.invariant.wrote
