use Rattle.std.proofs.Common.{◌≡◌, ◌∙◌, ap, sym, subst, ℕ, ◌+◌, ◌≤◌, ◌<◌, true, false, length, Some}
use Rattle.ssd_geo.specs.Coding.{coding_in}
use Rattle.ssd_geo.specs.Stripe.{place_of_slot}
use Rattle.ssd_geo.specs.declared.place.Place.{Place}
use Rattle.ssd_geo.specs.declared.shape.Shape.{Shape}
use Rattle.retry_ladder.specs.Decoder.{is_expected}
use Rattle.retry_ladder.specs.Running.{has_page}
use Rattle.retry_ladder.specs.View.{place_in}
use Rattle.retry_ladder.specs.Work.{WorkView}
use Rattle.retry_ladder.proofs.NextPlaces.{IsNext, ends_expected, ends_unexpected, goes_to_next, next_after_own, next_is_same}
use Rattle.retry_ladder.proofs.ladder.stage_from.Goals as goal
use Rattle.retry_ladder.proofs.ladder.stage_from.Goals.{then-die-own, else-die-own}

pub returns-then-next-shape-clause-run : goal.returns-then-next-shape-clause-run
returns-then-next-shape-clause-run c matrix limit =
    let shape : Shape = c.args.work.now.shape in
    let look = c.args.look.now in
    let own : c.place_of-own.result.die ≡ (place_in shape look).die =
    ap (λ (p : Place). p.die) c.place_of-own.ensures
    ∙ ap (λ (s : Shape). (place_of_slot s.dies look.slot).die) c.shape.ensures in
    let next : IsNext (place_in shape look).die c.args.die c.if-die-own.next =
    elim c.if-die-own.branch [
      | then-die-own w ↦ next_after_own _ _ _ (w.if-die-own.true ∙ own) w.next-is
      | else-die-own w ↦ next_is_same _ _ _ (λ same. w.if-die-own.false (same ∙ sym own)) w.next-is
    ] in
    goes_to_next (coding_in shape c.args.work.now.levels c.args.work.now.step matrix limit)
    (is_expected shape (Some (look.serial, look.row)))
    shape.dies (place_in shape look) c.args.die c.if-die-own.next c.args.sum.now
    c.begin.new.self.run next
    (subst (λ (s : Shape). c.if-die-own.next < s.dies) c.shape-2.ensures c.if-next-shape.true)
    (ap (λ (w : WorkView). w.run) c.begin.ensures)

pub returns-then-not-is_expected-clause-run : goal.returns-then-not-is_expected-clause-run
returns-then-not-is_expected-clause-run c matrix limit =
    let shape : Shape = c.args.work.now.shape in
    let look = c.args.look.now in
    let own : c.place_of-own.result.die ≡ (place_in shape look).die =
    ap (λ (p : Place). p.die) c.place_of-own.ensures
    ∙ ap (λ (s : Shape). (place_of_slot s.dies look.slot).die) c.shape.ensures in
    let next : IsNext (place_in shape look).die c.args.die c.if-die-own.next =
    elim c.if-die-own.branch [
      | then-die-own w ↦ next_after_own _ _ _ (w.if-die-own.true ∙ own) w.next-is
      | else-die-own w ↦ next_is_same _ _ _ (λ same. w.if-die-own.false (same ∙ sym own)) w.next-is
    ] in
    let same : c.is_expected.result ≡ is_expected shape (Some (look.serial, look.row))
    c.args.sum.now =
    c.is_expected.ensures
    ∙ ap (λ (s : Shape). is_expected s (Some (look.serial, look.row)) c.bytes.result.now)
    c.shape-3.ensures
    ∙ ap (is_expected shape (Some (look.serial, look.row))) c.bytes.ensures in
    let none : is_expected shape (Some (look.serial, look.row)) c.args.sum.now ≡ false =
    sym same ∙ c.if-not-is_expected.true in
    ends_unexpected (coding_in shape c.args.work.now.levels c.args.work.now.step matrix limit)
    (is_expected shape (Some (look.serial, look.row)))
    shape.dies (place_in shape look) c.args.die c.if-die-own.next c.args.sum.now next c.requires.die
    (subst (λ (s : Shape). s.dies ≤ c.if-die-own.next) c.shape-2.ensures c.if-next-shape.false) none

pub returns-clause-run : goal.returns-clause-run
returns-clause-run c matrix limit =
    let shape : Shape = c.args.work.now.shape in
    let look = c.args.look.now in
    let own : c.place_of-own.result.die ≡ (place_in shape look).die =
    ap (λ (p : Place). p.die) c.place_of-own.ensures
    ∙ ap (λ (s : Shape). (place_of_slot s.dies look.slot).die) c.shape.ensures in
    let next : IsNext (place_in shape look).die c.args.die c.if-die-own.next =
    elim c.if-die-own.branch [
      | then-die-own w ↦ next_after_own _ _ _ (w.if-die-own.true ∙ own) w.next-is
      | else-die-own w ↦ next_is_same _ _ _ (λ same. w.if-die-own.false (same ∙ sym own)) w.next-is
    ] in
    let same : c.is_expected.result ≡ is_expected shape (Some (look.serial, look.row))
    c.args.sum.now =
    c.is_expected.ensures
    ∙ ap (λ (s : Shape). is_expected s (Some (look.serial, look.row)) c.bytes.result.now)
    c.shape-3.ensures
    ∙ ap (is_expected shape (Some (look.serial, look.row))) c.bytes.ensures in
    let some : is_expected shape (Some (look.serial, look.row)) c.args.sum.now ≡ true =
    sym same ∙ c.if-not-is_expected.false in
    let rung : c.levels.result + 1 ≡ length c.args.work.now.levels + 1 =
    ap (λ (n : ℕ). n + 1) (c.levels.ensures.value
    ∙ ap (λ (w : WorkView). length w.levels) c.set_word.ensures) in
    let word : c.set_word.new.self.word ≡ c.args.sum.now =
    ap (λ (w : WorkView). w.word) c.set_word.ensures ∙ c.bytes-2.ensures in
    ap (has_page (c.levels.result + 1)) word ∙ ap (λ (n : ℕ). has_page n c.args.sum.now) rung
    ∙ ends_expected (coding_in shape c.args.work.now.levels c.args.work.now.step matrix limit)
    (is_expected shape (Some (look.serial, look.row)))
    shape.dies (place_in shape look) c.args.die c.if-die-own.next c.args.sum.now next c.requires.die
    (subst (λ (s : Shape). s.dies ≤ c.if-die-own.next) c.shape-2.ensures c.if-next-shape.false) some
