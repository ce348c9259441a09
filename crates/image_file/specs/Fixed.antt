-- What do the fields of fixed places tell, as plain numbers? They are read in three parts: the text at the beginning with the
-- number of codewords of a page, the sizes with the two numbers among them, and what stands behind them.
use Rattle.std.specs.Prelude.{IsTrue, ℤ, ◌^◌, negsuc, pos, Ok}
use Rattle.std.specs.Int.{w16, w32, w64}
use Rattle.image_file.specs.Sizes.{AreSizes, SizesRead}
use Rattle.image_file.specs.declared.fixed.FixedFields.{FixedFields}
use Rattle.ssd_formats.specs.Fields.{Rest, Reading, ◌>>=◌, number_field, signed_field, is_any, is_below}
use Rattle.ssd_formats.specs.ImageHead.{Fixed, is_programmed_level}
use Rattle.ssd_geo.specs.Limits.{is_within, is_signed_within}
use Rattle.ssd_geo.specs.Shape.{sizes_of}

-- the fields that were read
abbrev pub fixed_of : FixedFields → Fixed
fixed_of fields = record {
  sizes = sizes_of fields.shape;
  levels = fields.levels;
  iterations = fields.iterations;
  law = fields.law;
  step = fields.step;
  session = fields.session;
}

-- the levels of erased and of programmed cells
unfoldable pub law_level_fields : Rest → Reading (ℤ × ℤ)
law_level_fields rest = do
  erased ← signed_field (is_signed_within (negsuc 8191) (pos 8190)) rest
  programmed ← signed_field (is_programmed_level erased.0) erased.1
  Ok ((erased.0, programmed.0), programmed.1)

-- the fields behind the rows
unfoldable pub later_fields : SizesRead → Rest → Reading Fixed
later_fields first rest = do
  seed ← number_field w64 is_any rest
  session ← number_field w32 (is_below (2 ^ 24)) seed.1
  levels ← law_level_fields session.1
  spread ← number_field w16 (is_within 0 4095) levels.1
  step ← number_field w16 (is_within 1 2047) spread.1
  Ok (
    record {
      sizes = first.sizes;
      levels = first.levels;
      iterations = first.iterations;
      law = record { erased = levels.0.0; programmed = levels.0.1; spread = spread.0; seed = seed.0 };
      step = step.0;
      session = session.0;
    },
    step.1,
  )

-- the fields of fixed places are in range
pub record AreFixed (fixed : Fixed) : Type 0 where
  pub sizes : AreSizes fixed.sizes
  pub level_count : IsTrue (is_within 1 16 fixed.levels)
  pub iterations : IsTrue (is_within 1 64 fixed.iterations)
  pub seed : IsTrue (is_below (2 ^ 64) fixed.law.seed)
  pub session : IsTrue (is_below (2 ^ 24) fixed.session)
  pub erased : IsTrue (is_signed_within (negsuc 8191) (pos 8190) fixed.law.erased)
  pub programmed : IsTrue (is_programmed_level fixed.law.erased fixed.law.programmed)
  pub spread : IsTrue (is_within 0 4095 fixed.law.spread)
  pub step : IsTrue (is_within 1 2047 fixed.step)
