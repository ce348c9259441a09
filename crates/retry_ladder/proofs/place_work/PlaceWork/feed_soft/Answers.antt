use Rattle.std.proofs.Common.{◌≡◌, ◌∙◌, ap, refl, sym, arith, List, [], ◌∷◌, ◌++◌, drop, ◌+◌, map, ℕ, ℤ}
use Rattle.std.specs.List.{range_with_len}
use Rattle.std.specs.Vec.{with_items}
use Rattle.std.proofs.lemmas.List.{with_items_is}
use Rattle.ssd_geo.specs.Coding.{Coding, coding_in, found_soft, word_bytes_in}
use Rattle.ssd_geo.specs.Ladder.{page_decoded, partly, whole}
use Rattle.ssd_geo.specs.Senses.{five_senses, sense_in}
use Rattle.ssd_geo.specs.Shape.{sizes_of}
use Rattle.retry_ladder.specs.Decoder.{is_expected}
use Rattle.retry_ladder.specs.Kept.{kept_in, page_found}
use Rattle.retry_ladder.specs.declared.part.Part.TheVariants.{Soft}
use Rattle.retry_ladder.specs.Running.{finds}
use Rattle.retry_ladder.specs.Work.{WorkView, run_in}
use Rattle.retry_ladder.specs.declared.place_work.PlaceWork.TheInside.{Inside}
use Rattle.retry_ladder.proofs.PutSenses.{soft_count, soft_senses}
use Rattle.retry_ladder.proofs.WorkSteps.{drop_all, soft_last, soft_more, soft_next}
use Rattle.retry_ladder.proofs.place_work.PlaceWork.feed_soft.Goals as goal

-- the view after a sense of the soft part that isn't the last of five
abbrev next_view : Inside → List ℤ → List (List ℕ) → WorkView
next_view a left five = record {
  shape = a.shape;
  levels = a.read_levels;
  step = a.step;
  run = record {
    left = left;
    rung = a.rung;
    kept = kept_in (sizes_of a.shape) a.kept a.word.items;
    best = a.best;
    five = five;
  };
  word = a.word.items;
}

pub returns-then-self-lt4-clause-step : goal.returns-then-self-lt4-clause-step
returns-then-self-lt4-clause-step g c =
    let over = rw (← c.self.view_is) at c.requires.soft in
    let bits = rw (← c.self.view_is) at c.requires.bits in
    let a = c.self.inside in
    let n : ℕ = word_bytes_in a.shape in
    let matrix = g.C.Decode.matrix c.args.decoder.now in
    let limit = g.C.Decode.limit c.args.decoder.now in
    let coding : Coding = coding_in a.shape a.read_levels a.step matrix limit in
    let five : List (List ℕ) = (run_in a).five ++ c.args.bits.now ∷ [] in
    let senses : map (sense_in n c.put_sense.new.five) (range_with_len 0 (a.count + 1)) ≡ five =
    soft_senses n a.count a.five.items _ c.put_sense.new.five c.args.bits.now bits
    c.deref_mut.ensures.value c.put_sense.ensures.senses in
    let kept : (with_items a.five c.put_sense.new.five).items ≡ c.put_sense.new.five =
    with_items_is a.five c.put_sense.new.five
    (omega (arith, c.put_sense.ensures.five_len, c.deref_mut.ensures.len)) in
    rw (← c.self.view_is) (
      soft_next (run_in a) five,
      soft_more coding (is_expected a.shape c.args.head) a.read_levels a.rung (run_in a)
          c.args.bits.now over
          (omega (arith, soft_count n a.count a.five.items c.args.bits.now)),
      ap (λ (left : List ℤ). next_view a left
          (map (sense_in n (with_items a.five c.put_sense.new.five).items)
          (range_with_len 0 (a.count + 1))))
          (ap (λ (m : ℕ). drop m a.read_levels) over ∙ drop_all a.read_levels)
          ∙ ap (next_view a [])
          (ap (λ (xs : List ℕ). map (sense_in n xs) (range_with_len 0 (a.count + 1))) kept
          ∙ senses),
    )

pub returns-then-is_page_found-clause-step : goal.returns-then-is_page_found-clause-step
returns-then-is_page_found-clause-step g c =
    let over = rw (← c.self.view_is) at c.requires.soft in
    let bits = rw (← c.self.view_is) at c.requires.bits in
    let a = c.self.inside in
    let n : ℕ = word_bytes_in a.shape in
    let matrix = g.C.Decode.matrix c.args.decoder.now in
    let limit = g.C.Decode.limit c.args.decoder.now in
    let coding : Coding = coding_in a.shape a.read_levels a.step matrix limit in
    let five : List (List ℕ) = (run_in a).five ++ c.args.bits.now ∷ [] in
    let all : 5 ≡ a.count + 1 = omega (arith, c.self.invariant.count) in
    let put : c.deref.result.now ≡ c.put_sense.new.five =
    c.deref.ensures.value ∙ with_items_is a.five c.put_sense.new.five
    (omega (arith, c.put_sense.ensures.five_len, c.deref_mut.ensures.len)) in
    let five_is : five_senses n c.deref.result.now ≡ five =
    ap (five_senses n) put
    ∙ ap (λ (k : ℕ). map (sense_in n c.put_sense.new.five) (range_with_len 0 k)) all
    ∙ soft_senses n a.count a.five.items _ c.put_sense.new.five c.args.bits.now bits
    c.deref_mut.ensures.value c.put_sense.ensures.senses in
    let word_is = with_items_is a.word c.is_page_found.new.word
    (omega (arith, c.is_page_found.auto.word, c.deref_mut-4.ensures.len)) in
    rw (← c.self.view_is) (
      soft_last coding (is_expected a.shape c.args.head) a.read_levels a.rung (run_in a)
          c.args.bits.now
          (whole c.is_page_found.new.word) over
          (omega (arith, soft_count n a.count a.five.items c.args.bits.now, all))
          (ap (λ (s : List (List ℕ)). page_decoded coding (is_expected a.shape c.args.head)
          (found_soft (sizes_of a.shape) matrix limit s) (run_in a).kept) (sym five_is)
          ∙ ap (λ (w : List ℕ). page_found a.shape matrix limit c.args.head Soft c.deref.result.now
          (kept_in (sizes_of a.shape) a.kept w)) (sym c.deref_mut-4.ensures.value)
          ∙ c.if-is_page_found.ensures.answer)
          ∙ ap (λ (rung : ℕ). finds rung c.is_page_found.new.word) (sym over)
          ∙ ap (finds a.rung) (sym word_is),
      refl,
    )

pub returns-clause-step : goal.returns-clause-step
returns-clause-step g c =
    let over = rw (← c.self.view_is) at c.requires.soft in
    let bits = rw (← c.self.view_is) at c.requires.bits in
    let a = c.self.inside in
    let n : ℕ = word_bytes_in a.shape in
    let matrix = g.C.Decode.matrix c.args.decoder.now in
    let limit = g.C.Decode.limit c.args.decoder.now in
    let coding : Coding = coding_in a.shape a.read_levels a.step matrix limit in
    let five : List (List ℕ) = (run_in a).five ++ c.args.bits.now ∷ [] in
    let all : 5 ≡ a.count + 1 = omega (arith, c.self.invariant.count) in
    let put : c.deref.result.now ≡ c.put_sense.new.five =
    c.deref.ensures.value ∙ with_items_is a.five c.put_sense.new.five
    (omega (arith, c.put_sense.ensures.five_len, c.deref_mut.ensures.len)) in
    let five_is : five_senses n c.deref.result.now ≡ five =
    ap (five_senses n) put
    ∙ ap (λ (k : ℕ). map (sense_in n c.put_sense.new.five) (range_with_len 0 k)) all
    ∙ soft_senses n a.count a.five.items _ c.put_sense.new.five c.args.bits.now bits
    c.deref_mut.ensures.value c.put_sense.ensures.senses in
    rw (← c.self.view_is) (
      soft_last coding (is_expected a.shape c.args.head) a.read_levels a.rung (run_in a)
          c.args.bits.now
          (partly (kept_in (sizes_of a.shape) c.is_page_found.new.kept c.is_page_found.new.word)) over (omega (arith, soft_count n a.count a.five.items c.args.bits.now, all))
          (ap (λ (s : List (List ℕ)). page_decoded coding (is_expected a.shape c.args.head)
          (found_soft (sizes_of a.shape) matrix limit s) (run_in a).kept) (sym five_is)
          ∙ ap (λ (w : List ℕ). page_found a.shape matrix limit c.args.head Soft c.deref.result.now
          (kept_in (sizes_of a.shape) a.kept w)) (sym c.deref_mut-4.ensures.value)
          ∙ c.if-is_page_found.ensures.answer),
      refl,
    )
