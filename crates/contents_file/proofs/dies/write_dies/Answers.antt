use Rattle.std.proofs.Common.{◌≡◌, ◌∙◌, List, ℤ, [], Err, map, length, subst, sym, ap, arith}
use Rattle.std.specs.Prelude.{flat_map}
use Rattle.std.proofs.lemmas.List.{take_all}
use Rattle.ssd_formats.specs.ImageContents.{pages_at, pages_bytes}
use Rattle.onfi_cmd.specs.DieState.{DieState}
use Rattle.contents_file.specs.DiesCopied.{AllTellPages, cells_told}
use Rattle.contents_file.proofs.DieSteps.{later_become, pages_count}
use Rattle.contents_file.proofs.PutSteps.{item_put, item_stops, put_at, puts_all}
use Rattle.contents_file.proofs.dies.write_dies.Goals as goal

pub write_die-requires-clause-dies : goal.write_die-requires-clause-dies
write_die-requires-clause-dies g c =
    subst (λ (dies : List DieState). AllTellPages c.args.shape.now dies) (sym c.loop-die.invariant.stays) c.requires.dies

pub loop-die-preserved : goal.loop-die-preserved
loop-die-preserved g c =
    let olds : List DieState = map g.D.Die.state c.args.dies.now in
    let pages : List (List (List ℤ)) = map (pages_at c.args.sb) (cells_told olds) in
    let count : length pages ≡ c.args.shape.now.dies = pages_count c.args.shape.now olds c.args.sb c.requires.dies in
    let same : map (pages_at c.args.sb) (cells_told (map g.D.Die.state c.loop-die.dies)) ≡ pages =
    ap (λ (dies : List DieState). map (pages_at c.args.sb) (cells_told dies)) c.loop-die.invariant.stays in
    record {
      wrote =
          item_put pages_bytes pages c.loop-die.die [] (omega (arith, count)) c.loop-die.invariant.wrote
          (put_at pages_bytes _ pages c.loop-die.die [] _ same c.in-Ok.ensures.puts);
      stays = c.in-Ok.ensures.dies ∙ c.loop-die.invariant.stays;
      length = c.write_die.ensures.length ∙ c.loop-die.invariant.length;
    }

pub returns-in-Err-clause-puts : goal.returns-in-Err-clause-puts
returns-in-Err-clause-puts g c =
    let olds : List DieState = map g.D.Die.state c.args.dies.now in
    let pages : List (List (List ℤ)) = map (pages_at c.args.sb) (cells_told olds) in
    let count : length pages ≡ c.args.shape.now.dies = pages_count c.args.shape.now olds c.args.sb c.requires.dies in
    let same : map (pages_at c.args.sb) (cells_told (map g.D.Die.state c.loop-die.dies)) ≡ pages =
    ap (λ (dies : List DieState). map (pages_at c.args.sb) (cells_told dies)) c.loop-die.invariant.stays in
    item_stops c.in-Err.stop pages_bytes pages c.loop-die.die [] (omega (arith, count)) c.loop-die.invariant.wrote
    (put_at pages_bytes _ pages c.loop-die.die [] _ same c.in-Err.ensures.puts)

pub returns-in-Err-clause-dies : goal.returns-in-Err-clause-dies
returns-in-Err-clause-dies g c =
    later_become {T = Unit {0}} c.args.first (map g.D.Die.state c.args.dies.now) (map g.D.Die.state c.loop-die.dies) (map g.D.Die.state c.write_die.new.dies) (Err c.in-Err.stop)
    c.loop-die.invariant.stays c.in-Err.ensures.dies

pub returns-clause-puts : goal.returns-clause-puts
returns-clause-puts g c =
    let olds : List DieState = map g.D.Die.state c.args.dies.now in
    let pages : List (List (List ℤ)) = map (pages_at c.args.sb) (cells_told olds) in
    let count : length pages ≡ c.args.shape.now.dies = pages_count c.args.shape.now olds c.args.sb c.requires.dies in
    puts_all (flat_map pages_bytes pages) (ap (flat_map pages_bytes) (sym (take_all c.loop-die.die pages (omega (arith, count))))) c.loop-die.invariant.wrote
