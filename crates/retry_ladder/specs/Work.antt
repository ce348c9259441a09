-- What do contracts see of the work on one place, and what does it keep ready? The senses of the
-- soft part stand one after the other in one list; one more list has a codeword's part of them, one
-- the values of its decoding, and one the page's word, with a flag for each codeword that is kept.
use Rattle.std.specs.Prelude.{ℕ, ◌≡◌, ◌*◌, ◌<◌, ◌≤◌, IsTrue, List, drop, length, map, Option, ℤ}
use Rattle.std.specs.List.{list_all, range_with_len}
use Rattle.ssd_geo.specs.BaseMatrix.{BaseMatrix}
use Rattle.ssd_geo.specs.Coding.{coding_in, word_bytes_in}
use Rattle.ssd_geo.specs.Limits.{code_bytes_of, is_level}
use Rattle.ssd_geo.specs.Senses.{sense_in}
use Rattle.ssd_geo.specs.Shape.{sizes_of}
use Rattle.ssd_geo.specs.declared.shape.Shape.{Shape}
use Rattle.retry_ladder.specs.Decoder.{is_expected}
use Rattle.retry_ladder.specs.Kept.{kept_in}
use Rattle.retry_ladder.specs.Running.{PlaceRun, PlaceStep, center_of, finds, goes_on, misses, place_fed}
use Rattle.retry_ladder.specs.declared.step.Step.{Step}
use Rattle.retry_ladder.specs.declared.step.Step.TheVariants.{Finds, GoesOn, Misses}
use Rattle.retry_ladder.specs.declared.place_work.PlaceWork.TheInside.{Inside}

-- the work on a place: what it goes by, what it keeps of the senses, and the page's word, which is
-- the latest one that was found
pub record WorkView : Type 0 where
  pub shape : Shape
  pub levels : List ℤ
  pub step : ℕ
  pub run : PlaceRun
  pub word : List ℕ

-- what is kept of the senses
abbrev pub run_in : Inside → PlaceRun
run_in a = record {
  left = drop a.rung a.read_levels;
  rung = a.rung;
  kept = kept_in (sizes_of a.shape) a.kept a.word.items;
  best = a.best;
  five = map (sense_in (word_bytes_in a.shape) a.five.items) (range_with_len 0 a.count);
}

abbrev pub work_view : Inside → WorkView
work_view a = record {
  shape = a.shape;
  levels = a.read_levels;
  step = a.step;
  run = run_in a;
  word = a.word.items;
}

-- the lists are as long as the shape asks, and each level that is wanted fits its type
pub record IsReady (a : Inside) : Type 0 where
  pub flags : length a.kept ≡ 4
  pub bits : length a.bits.items ≡ 5 * code_bytes_of (sizes_of a.shape)
  pub values : length a.values.items ≡ 8 * code_bytes_of (sizes_of a.shape)
  pub five : length a.five.items ≡ 5 * word_bytes_in a.shape
  pub word : length a.word.items ≡ word_bytes_in a.shape
  pub few_levels : length a.read_levels ≤ 16
  pub levels : IsTrue (list_all is_level a.read_levels)
  pub step : a.step ≤ 2047
  pub rung : a.rung ≤ length a.read_levels
  pub center : IsTrue (is_level (center_of a.best))
  pub count : a.count < 5
  pub hard_first : 0 < a.count → a.rung ≡ length a.read_levels

-- what one more sense makes of the work, with a decoder of this matrix and this limit, where a word
-- counts that is expected
abbrev pub step_with : WorkView → BaseMatrix → ℕ → Option (ℕ × ℕ) → List ℕ → PlaceStep
step_with work matrix limit head sense =
    place_fed (coding_in work.shape work.levels work.step matrix limit)
    (is_expected work.shape head)
    work.run.left work.run sense

-- the step, and what is kept after it
abbrev pub IsStepTo : WorkView → Step → WorkView → PlaceStep → Type 0
IsStepTo old (GoesOn) new step =
    (run : PlaceRun) × (step ≡ goes_on run) × (new ≡ record old { run = run; word = new.word })
IsStepTo old (Finds rung) new step =
    (step ≡ finds rung new.word) × (new ≡ record old { run = new.run; word = new.word })
IsStepTo old Misses new step =
    (step ≡ misses) × (new ≡ record old { run = new.run; word = new.word })
