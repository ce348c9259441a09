use Rattle.std.proofs.Common.{◌≡◌, ℕ, ◌+◌, ◌*◌, ◌-◌, ◌<◌, ◌≤◌, List, [], ◌∷◌, ◌++◌, Ok, Err, length, take, set, true, sym, subst, ◌∙◌, arith, length-take-le}
use Rattle.std.proofs.lemmas.List.{take_all, take_more_set}
use Rattle.std.proofs.lemmas.List.Elements.{All-push}
use Rattle.ssd_formats.specs.ImageContents.{is_programmed_count, programmed_fields}
use Rattle.ssd_formats.proofs.HeadLaws.{same_reading}
use Rattle.ssd_io.specs.Told.{told_bytes}
use Rattle.ssd_geo.specs.Limits.{Sizes}
use Rattle.ssd_geo.specs.Shape.{sizes_of}
use Rattle.image_file.specs.Gives.{rest_at}
use Rattle.image_contents.specs.Parts.{count_field}
use Rattle.image_contents.proofs.CountLists.{count_within, counts_longer}
use Rattle.image_contents.proofs.Steps.{counts_end, counts_lack, counts_more}
use Rattle.image_contents.proofs.Stops.{later_read_stops}
use Rattle.image_contents.proofs.counts.read_counts.Goals as goal

pub loop-die-preserved : goal.loop-die-preserved
loop-die-preserved g c =
    let sizes : Sizes = sizes_of c.args.shape.now in
    let block = c.args.block.now in
    let die = c.loop-die.die in
    let counts : List ℕ = c.loop-die.counts in
    let so_far : List ℕ = take die counts in
    let count : ℕ = c.in-Ok.count in
    let below : die < length counts = omega arith in
    let long : length so_far ≡ die = length-take-le die counts (omega arith) in
    let taken : take (die + 1) (set counts die count) ≡ so_far ++ count ∷ [] = take_more_set counts die count below in
    let right : is_programmed_count sizes block.state c.args.sb block.used die count ≡ true = c.in-Ok.ensures.count in
    let few : count ≤ c.args.shape.now.pages = count_within sizes block.state c.args.sb block.used die count c.requires.used right in
    record {
      told = λ told. (c.in-Ok.ensures.read.given (c.loop-die.invariant.told told)).0;
      read = λ told.
          let rest = rest_at (c.args.place + 2 * die) (g.S.Source.left c.loop-die.input) in
          let next = rest_at (c.args.place + 2 * die + 2) (g.S.Source.left c.read_count.new.input) in
          let place : c.args.place + 2 * (die + 1) ≡ c.args.place + 2 * die + 2 = omega arith in
          let one : count_field sizes block c.args.sb (length so_far) rest ≡ Ok (count, next) =
          subst (λ (k : ℕ). count_field sizes block c.args.sb k rest ≡ Ok (count, next)) (sym long) (c.in-Ok.ensures.read.given (c.loop-die.invariant.told told)).1 in
          rw (taken, place)
          (counts_more sizes block.state c.args.sb block.used (c.args.shape.now.dies - die) (c.args.shape.now.dies - (die + 1)) so_far rest next count (omega arith) one
          ∙ c.loop-die.invariant.read told);
      good = rw taken (counts_longer sizes block.state c.args.sb block.used so_far count die long c.loop-die.invariant.good right few);
      few = rw taken (All-push (λ (n : ℕ). n ≤ c.args.shape.now.pages) so_far count c.loop-die.invariant.few few);
      stays = c.in-Ok.ensures.read.cause ∙ c.loop-die.invariant.stays;
    }

pub returns-in-Err-clause-read : goal.returns-in-Err-clause-read
returns-in-Err-clause-read g c =
    let sizes : Sizes = sizes_of c.args.shape.now in
    let block = c.args.block.now in
    let die = c.loop-die.die in
    let so_far : List ℕ = take die c.loop-die.counts in
    let left = g.S.Source.left c.loop-die.input in
    let long : length so_far ≡ die = length-take-le die c.loop-die.counts (omega arith) in
    later_read_stops _ _ (g.S.Source.left c.args.input.now) left _ _ _ _ c.args.place (c.args.place + 2 * die) _ _ c.in-Err.stop
    (count_field sizes block c.args.sb die) (programmed_fields sizes block.state c.args.sb block.used c.args.shape.now.dies [])
    (λ told. (
      c.loop-die.invariant.told told,
      λ fault read. sym (c.loop-die.invariant.read told)
          ∙ counts_lack sizes block.state c.args.sb block.used (c.args.shape.now.dies - die) (c.args.shape.now.dies - (die + 1)) so_far
          (rest_at (c.args.place + 2 * die) left) fault (omega arith)
          (subst (λ (k : ℕ). count_field sizes block c.args.sb k (rest_at (c.args.place + 2 * die) left) ≡ Err fault) (sym long) read),
    ))
    c.loop-die.invariant.stays c.in-Err.ensures.read

pub returns-clause-read : goal.returns-clause-read
returns-clause-read g c =
    let sizes : Sizes = sizes_of c.args.shape.now in
    let block = c.args.block.now in
    let die = c.loop-die.die in
    let counts : List ℕ = c.loop-die.counts in
    let left = g.S.Source.left c.loop-die.input in
    let all : take die counts ≡ counts = take_all die counts (omega arith) in
    let place : c.args.place + 2 * die ≡ c.args.place + 2 * c.args.shape.now.dies = omega arith in
    record {
      given = λ told. (
        c.loop-die.invariant.told told,
        sym (c.loop-die.invariant.read told)
            ∙ counts_end sizes block.state c.args.sb block.used (c.args.shape.now.dies - die) (take die counts) (rest_at (c.args.place + 2 * die) left) (omega arith)
            ∙ same_reading (take die counts) counts (c.args.place + 2 * die) (c.args.place + 2 * c.args.shape.now.dies) (told_bytes left) all place,
      );
      never_fell = omega (arith, c.loop-die.invariant.stays);
      cause = c.loop-die.invariant.stays;
    }
