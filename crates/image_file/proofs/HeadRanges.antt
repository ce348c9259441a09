-- A head whose parts are in range has a spelling.
use Rattle.std.proofs.Common.{◌≡◌, refl, ℕ, ℤ, suc, ◌-◌, ◌^◌, ◌<◌, Bool, true, false, List, [], ◌∷◌, arith, ap, sym, ◌∙◌, subst}
use Rattle.std.proofs.lemmas.Grind.{common_steps}
use Rattle.std.proofs.lemmas.Int.{ints}
use Rattle.std.specs.Prelude.{FitsSigned, pos, negsuc, nat_lt, IsTrue, None, Option, is_none, if◌then◌else◌}
use Rattle.std.specs.Int.{w16, from_le_bytes, cast_signed}
use Rattle.std.specs.List.{list_all}
use Rattle.ssd_geo.specs.BaseMatrix.{IsAccepted, first_fault}
use Rattle.ssd_formats.specs.Fields.{is_below}
use Rattle.ssd_geo.specs.Limits.{is_within, is_signed_within}
use Rattle.ssd_formats.specs.ImageHead.{IsHead, is_short, is_programmed_level, signed_numbers, head_of, matrix_of_head}
use Rattle.ssd_geo.specs.Shape.{sizes_of}
use Rattle.ssd_geo.specs.declared.cell_law.CellLaw.{CellLaw}
use Rattle.ssd_geo.specs.declared.head.ImageHead.{ImageHead}
use Rattle.image_file.specs.Fixed.{AreFixed, fixed_of}
use Rattle.image_file.specs.Sizes.{AreSizes}
use Rattle.image_file.specs.Lists.{AreLevels, AreBlocks}
use Rattle.image_file.specs.declared.fixed.FixedFields.{FixedFields}
use Rattle.ssd_formats.proofs.SpelledHeads.{fits_short, picked_short}
use Rattle.ssd_geo.proofs.AcceptedLayers.{none_from}

-- the head with these parts
pub head_is : (fixed : FixedFields) (head : ImageHead) → fixed.shape ≡ head.shape → fixed.iterations ≡ head.iterations → fixed.law ≡ head.law → fixed.step ≡ head.step → fixed.session ≡ head.session → AreFixed (fixed_of fixed) → AreLevels fixed.levels head.read_levels → IsTrue (list_all is_short head.entries) → IsAccepted (matrix_of_head (head_of head)) → AreBlocks (sizes_of head.shape) head.weak head.bad → IsHead (head_of head)
head_is fixed head same_shape same_iterations same_law same_step same_session are levels short accepted blocks =
    let sizes = subst (λ s. AreSizes (sizes_of s)) same_shape are.sizes in
    record {
      words = sizes.first.words;
      channels = sizes.first.channels;
      dies = sizes.first.dies;
      superblocks = sizes.first.superblocks;
      pages = sizes.first.pages;
      lifting = sizes.first.lifting;
      base_rows = sizes.first.base_rows;
      base_columns = sizes.base_columns;
      level_count = ap (is_within 1 16) levels.count ∙ are.level_count;
      iterations = ap (is_within 1 64) (sym same_iterations) ∙ are.iterations;
      bytes = sizes.bytes;
      rows = sizes.rows;
      seed = subst (λ (l : CellLaw). IsTrue (is_below (2 ^ 64) l.seed)) same_law are.seed;
      session = ap (is_below (2 ^ 24)) (sym same_session) ∙ are.session;
      erased = subst (λ (l : CellLaw). IsTrue (is_signed_within (negsuc 8191) (pos 8190) l.erased)) same_law are.erased;
      programmed = subst (λ (l : CellLaw). IsTrue (is_programmed_level l.erased l.programmed)) same_law are.programmed;
      spread = subst (λ (l : CellLaw). IsTrue (is_within 0 4095 l.spread)) same_law are.spread;
      step = ap (is_within 1 2047) (sym same_step) ∙ are.step;
      levels = levels.within;
      entries = short;
      entry_count = accepted.within.entries;
      faultless = none_from (first_fault (matrix_of_head (head_of head))) accepted.faultless;
      weak_count = blocks.weak_count;
      weak_from = blocks.are_weak.from;
      weak = blocks.are_weak.records;
      bad_count = blocks.bad_count;
      bad = blocks.are_bad.records;
    }
