use Rattle.std.proofs.Common.{◌≡◌, ℕ, ◌+◌, ◌-◌, List, [], ◌∷◌, ◌++◌, length, true, refl, sym, ap, ◌∙◌, arith, rules}
use Rattle.std.proofs.lemmas.List.{length-append}
use Rattle.ssd_io.specs.Told.{told_bytes}
use Rattle.ssd_formats.proofs.HeadLaws.{same_reading}
use Rattle.ssd_formats.specs.ImageContents.{is_saved_row, row_field, row_fields}
use Rattle.ssd_geo.specs.Limits.{Sizes}
use Rattle.ssd_geo.specs.Shape.{sizes_of}
use Rattle.ssd_geo.specs.declared.row.Row.{Row}
use Rattle.image_file.specs.Gives.{rest_at}
use Rattle.image_contents.proofs.RowLists.{rows_longer}
use Rattle.image_contents.proofs.Steps.{rows_end, rows_lack, rows_more}
use Rattle.image_contents.proofs.Stops.{later_read_stops}
use Rattle.image_contents.proofs.rows.read_rows.Goals as goal

pub loop-preserved : goal.loop-preserved
loop-preserved g c =
    let sizes : Sizes = sizes_of c.args.shape.now in
    let blocks = c.args.blocks.now in
    let before : List Row = c.loop.rows.rows.items in
    let row : Row = c.in-Ok.row in
    let so_far = c.loop.invariant in
    let left : ℕ = c.args.shape.now.rows - c.loop.counter in
    let pushed : c.push.new.self.rows.items ≡ before ++ row ∷ [] = search rules in
    let saved : is_saved_row sizes blocks before row ≡ true = c.in-Ok.ensures.is_saved in
    record {
      told = λ told. (c.in-Ok.ensures.read.given (so_far.told told)).0;
      read = λ told.
          let rest = rest_at c.loop.place (g.S.Source.left c.loop.input) in
          let next = rest_at c.read_row.new.place (g.S.Source.left c.read_row.new.input) in
          rw pushed
          (rows_more sizes blocks left (c.args.shape.now.rows - (c.loop.counter + 1)) before rest next row (omega arith) (c.in-Ok.ensures.read.given (so_far.told told)).1
          ∙ so_far.read told);
      stays = c.in-Ok.ensures.read.cause ∙ so_far.stays;
      right = rw pushed (rows_longer sizes blocks before row so_far.right saved);
      count = omega (arith, ap (λ (l : List Row). length l) pushed, length-append before (row ∷ []), so_far.count);
      fits = record {
        superblocks_are = c.push.ensures.superblocks ∙ so_far.fits.superblocks_are;
        slots_are = c.push.ensures.slots ∙ so_far.fits.slots_are;
        count = so_far.fits.count;
        used = so_far.fits.used;
      };
      place_low = omega (arith, so_far.place_low, c.in-Ok.ensures.near.0);
      place_high = omega (arith, so_far.place_high, c.in-Ok.ensures.near.1);
    }

pub returns-in-Err-clause-read : goal.returns-in-Err-clause-read
returns-in-Err-clause-read g c =
    let sizes : Sizes = sizes_of c.args.shape.now in
    let blocks = c.args.blocks.now in
    let before : List Row = c.loop.rows.rows.items in
    let left = g.S.Source.left c.loop.input in
    later_read_stops _ _ (g.S.Source.left c.args.input.now) left _ _ _ _ c.args.place.now c.loop.place _ _ c.in-Err.stop
    (row_field sizes blocks before) (row_fields sizes blocks c.args.shape.now.rows [])
    (λ told. (
      c.loop.invariant.told told,
      λ fault read. sym (c.loop.invariant.read told)
          ∙ rows_lack sizes blocks (c.args.shape.now.rows - c.loop.counter) (c.args.shape.now.rows - (c.loop.counter + 1)) before (rest_at c.loop.place left) fault (omega arith) read,
    ))
    c.loop.invariant.stays c.in-Err.ensures.read

pub returns-clause-read : goal.returns-clause-read
returns-clause-read g c =
    let sizes : Sizes = sizes_of c.args.shape.now in
    let blocks = c.args.blocks.now in
    let rows : List Row = c.loop.rows.rows.items in
    let left = g.S.Source.left c.loop.input in
    let same : rows ≡ c.into_rows.result.items = search rules in
    record {
      given = λ told. (
        c.loop.invariant.told told,
        sym (c.loop.invariant.read told)
            ∙ rows_end sizes blocks (c.args.shape.now.rows - c.loop.counter) rows (rest_at c.loop.place left) (omega arith)
            ∙ same_reading rows c.into_rows.result.items c.loop.place c.loop.place (told_bytes left) same refl,
      );
      never_fell = omega (arith, c.loop.invariant.stays);
      cause = c.loop.invariant.stays;
    }
