use Rattle.std.specs.Int.RustNames.{FitsSigned}
use Rattle.std.specs.Int.{w16}
use Rattle.std.proofs.Common.{◌≡◌, ◌∙◌, ap, refl, sym, rules, arith, Bool, ℤ, pos, List, length, ◌<◌, get_or, Some, Option, ℕ, zero, suc, ◌+◌, ◌++◌, take, drop, map, subst, true}
use Rattle.std.specs.Vec.{with_items}
use Rattle.std.proofs.lemmas.List.{with_items_is}
use Rattle.ssd_geo.specs.Coding.{coding_in, failed_in, word_bytes_in}
use Rattle.ssd_geo.specs.Ladder.{partly}
use Rattle.ssd_geo.specs.Shape.{sizes_of}
use Rattle.retry_ladder.specs.Decoder.{is_expected}
use Rattle.retry_ladder.specs.Kept.{kept_in, page_found}
use Rattle.retry_ladder.specs.Running.{PlaceRun, better, center_of, finds, level_wanted}
use Rattle.retry_ladder.specs.Work.{WorkView, run_in}
use Rattle.retry_ladder.specs.declared.part.Part.TheVariants.{Hard}
use Rattle.retry_ladder.specs.declared.place_work.PlaceWork.TheInside.{Inside}
use Rattle.ssd_geo.specs.BaseMatrix.{BaseMatrix}
use Rattle.ssd_geo.specs.Senses.{sense_in}
use Rattle.ssd_geo.specs.Limits.{is_level}
use Rattle.std.specs.List.{range_with_len}
use Rattle.std.proofs.Math.Seq.{drop-cons}
use Rattle.std.proofs.lemmas.Int.{to_z-of_z}
use Rattle.retry_ladder.proofs.WorkSteps.{better_is_level, hard_finds, hard_misses, hard_next, passes_at}
use Rattle.retry_ladder.proofs.place_work.PlaceWork.feed_hard.Goals as goal

pub returns-then-is_page_found-clause-step : goal.returns-then-is_page_found-clause-step
returns-then-is_page_found-clause-step g c =
    let lt = rw (← c.self.view_is) at c.requires.hard in
    let a = c.self.inside in
    let matrix = g.C.Decode.matrix c.args.decoder.now in
    let limit : ℕ = g.C.Decode.limit c.args.decoder.now in
    rw (← c.self.view_is) (
      hard_finds (coding_in a.shape a.read_levels a.step matrix limit) (is_expected a.shape c.args.head) a.read_levels a.rung
          (run_in a) c.args.bits.now c.is_page_found.new.word lt
          (ap (λ (w : List ℕ). page_found a.shape matrix limit c.args.head Hard c.args.bits.now
          (kept_in (sizes_of a.shape) a.kept w)) (sym c.deref_mut-3.ensures.value)
          ∙ c.if-is_page_found.ensures.answer)
          ∙ ap (finds a.rung) (sym (with_items_is a.word c.is_page_found.new.word
          (omega (arith, c.is_page_found.auto.word, c.deref_mut-3.ensures.len)))),
      refl,
    )

-- the level that is read is the first of those that are left
level_is : (levels : List ℤ) (n step : ℕ) (run : PlaceRun) (level : ℤ) → n < length levels
    → level ≡ level_wanted step (drop n levels) run → level ≡ get_or levels n (pos 0)
level_is levels n step run level lt e =
    e ∙ ap (λ (left : List ℤ). level_wanted step left run) (drop-cons levels n (pos 0) lt)

pub invariant_of-self-2 : goal.invariant_of-self-2
invariant_of-self-2 g c =
    let lt = rw (← c.self.view_is) at c.requires.hard in
    let fits : FitsSigned w16 c.level-level.result = search rules in
    let best_is : Some c.better.result ≡ better c.self.inside.best
    (c.level-level.result, c.failed_of-failed.result) =
    c.better.ensures ∙ ap (λ (l : ℤ). better c.self.inside.best (l, c.failed_of-failed.result))
    (to_z-of_z w16 c.level-level.result fits) in
    let level : c.level-level.result ≡ get_or c.self.inside.read_levels c.self.inside.rung (pos 0) =
    level_is c.self.inside.read_levels c.self.inside.rung c.self.inside.step (run_in c.self.inside)
    c.level-level.result lt
    (rw (← c.self.view_is) at c.level-level.ensures) in
    record {
      flags = c.is_page_found.auto.kept ∙ c.self.invariant.flags;
      bits = ap length (with_items_is (with_items c.self.inside.bits c.is_page_found.new.bits) c.failed_of-failed.new.bits
          (omega (arith, c.failed_of-failed.auto.bits, c.deref_mut-4.ensures.len)))
          ∙ c.failed_of-failed.auto.bits ∙ ap length c.deref_mut-4.ensures.value
          ∙ ap length (with_items_is c.self.inside.bits c.is_page_found.new.bits
          (omega (arith, c.is_page_found.auto.bits, c.deref_mut.ensures.len)))
          ∙ c.is_page_found.auto.bits ∙ ap length c.deref_mut.ensures.value
          ∙ c.self.invariant.bits;
      values = ap length (with_items_is c.self.inside.values c.is_page_found.new.values
          (omega (arith, c.is_page_found.auto.values, c.deref_mut-2.ensures.len)))
          ∙ c.is_page_found.auto.values ∙ ap length c.deref_mut-2.ensures.value
          ∙ c.self.invariant.values;
      five = c.self.invariant.five;
      word = ap length (with_items_is c.self.inside.word c.is_page_found.new.word
          (omega (arith, c.is_page_found.auto.word, c.deref_mut-3.ensures.len)))
          ∙ c.is_page_found.auto.word ∙ ap length c.deref_mut-3.ensures.value
          ∙ c.self.invariant.word;
      few_levels = c.self.invariant.few_levels;
      levels = c.self.invariant.levels;
      step = c.self.invariant.step;
      rung = omega (arith, lt);
      center = subst (λ (best : Option (ℤ × ℕ)). is_level (center_of best) ≡ true) (sym best_is)
          (better_is_level c.self.inside.best (c.level-level.result, c.failed_of-failed.result)
          c.self.invariant.center
          (subst (λ (l : ℤ). is_level l ≡ true) (sym level)
          (passes_at is_level c.self.inside.read_levels c.self.inside.rung (pos 0) lt
          c.self.invariant.levels)));
      count = c.self.invariant.count;
      hard_first = λ some. absurd (omega (arith, lt, c.self.invariant.hard_first some));
    }

-- no sense of the soft part was taken while a read level is left
no_sense : (count rung levels : ℕ) → rung < levels → (0 < count → rung ≡ levels) → count ≡ 0
no_sense zero rung levels lt h = refl
no_sense (suc count) rung levels lt h = absurd (omega (arith, lt, h (omega arith)))

-- the view after a sense at a read level, with these flags, this best level and so many senses of the soft part
abbrev next_view : Inside → List Bool → List ℕ → Option (ℤ × ℕ) → ℕ → WorkView
next_view a flags word best count = record {
  shape = a.shape;
  levels = a.read_levels;
  step = a.step;
  run = record {
    left = drop (a.rung + 1) a.read_levels;
    rung = a.rung + 1;
    kept = kept_in (sizes_of a.shape) flags (take a.word.len (word ++ drop (length word) a.word.items));
    best = best;
    five = map (sense_in (word_bytes_in a.shape) a.five.items) (range_with_len 0 count);
  };
  word = take a.word.len (word ++ drop (length word) a.word.items);
}

pub returns-clause-step : goal.returns-clause-step
returns-clause-step g c =
    let lt = rw (← c.self.view_is) at c.requires.hard in
    let a = c.self.inside in
    let matrix = g.C.Decode.matrix c.args.decoder.now in
    let limit : ℕ = g.C.Decode.limit c.args.decoder.now in
    let first : ℤ = get_or a.read_levels a.rung (pos 0) in
    let failing : ℕ = failed_in (sizes_of a.shape) matrix c.args.bits.now in
    let fits : FitsSigned w16 c.level-level.result = search rules in
    let best_is : Some c.better.result ≡ better a.best (c.level-level.result, c.failed_of-failed.result) =
    c.better.ensures ∙ ap (λ (l : ℤ). better a.best (l, c.failed_of-failed.result))
    (to_z-of_z w16 c.level-level.result fits) in
    let level : c.level-level.result ≡ first =
    level_is a.read_levels a.rung a.step (run_in a) c.level-level.result lt (rw (← c.self.view_is) at c.level-level.ensures) in
    let failed : c.failed_of-failed.result ≡ failing =
    c.failed_of-failed.ensures ∙ ap (λ (m : BaseMatrix). failed_in (sizes_of a.shape) m c.args.bits.now)
    c.is_page_found.ensures.matrix in
    let none : a.count ≡ 0 = no_sense a.count a.rung (length a.read_levels) lt c.self.invariant.hard_first in
    let word : List ℕ = c.is_page_found.new.word in
    let flags : List Bool = c.is_page_found.new.kept in
    let same : take a.word.len (word ++ drop (length word) a.word.items) ≡ word =
    with_items_is a.word word (omega (arith, c.is_page_found.auto.word, c.deref_mut-3.ensures.len)) in
    rw (← c.self.view_is) (
      hard_next (coding_in a.shape a.read_levels a.step matrix limit) first _ (run_in a) c.args.bits.now
          (kept_in (sizes_of a.shape) flags (take a.word.len (word ++ drop (length word) a.word.items))),
      hard_misses (coding_in a.shape a.read_levels a.step matrix limit) (is_expected a.shape c.args.head) a.read_levels a.rung
          (run_in a) c.args.bits.now
          (kept_in (sizes_of a.shape) flags (take a.word.len (word ++ drop (length word) a.word.items))) lt
          (ap (λ (w : List ℕ). page_found a.shape matrix limit c.args.head Hard c.args.bits.now
          (kept_in (sizes_of a.shape) a.kept w)) (sym c.deref_mut-3.ensures.value)
          ∙ c.if-is_page_found.ensures.answer
          ∙ ap (λ (w : List ℕ). partly (kept_in (sizes_of a.shape) flags w)) (sym same)),
      ap (λ (best : Option (ℤ × ℕ)). next_view a flags word best a.count)
          (best_is ∙ ap (λ (l : ℤ). better a.best (l, c.failed_of-failed.result)) level
          ∙ ap (λ (n : ℕ). better a.best (first, n)) failed)
          ∙ ap (next_view a flags word (better a.best (first, failing))) none,
    )
