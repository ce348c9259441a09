use Rattle.std.proofs.Common.{◌≡◌, ℕ, ℤ, ◌+◌, ◌*◌, ◌/◌, ◌<◌, ◌≤◌, List, length, take, true, vec_len, sym, ap, subst, ◌∙◌, arith, rules, take_all}
use Rattle.std.specs.List.{list_all}
use Rattle.std.specs.Io.KnownBytes.{Consumes, IsAtEnd}
use Rattle.ssd_io.specs.Told.{told_bytes}
use Rattle.ssd_formats.proofs.HeadLaws.{same_reading}
use Rattle.ssd_formats.specs.ImageHead.{signed_numbers}
use Rattle.ssd_geo.specs.Limits.{is_level}
use Rattle.image_contents.specs.Parts.{IsFirstOutside}
use Rattle.image_contents.proofs.PageLevels.{given_fails, given_lacks, given_passes, outside_within}
use Rattle.image_contents.proofs.levels.read_page.Goals as goal
use Rattle.shared_lemmas.proofs.Lists.{written_whole}

pub overflow_mul-result : goal.overflow_mul-result
overflow_mul-result g c =
    let given : ℕ = c.in-Ok.given in
    let bytes : List ℕ = c.deref.result.now in
    let into : List ℕ = c.fill.new.into in
    let size : ℕ = c.args.work.now.bytes.len in
    let whole : length into ≡ size = omega arith in
    let same : bytes ≡ into = c.deref.ensures.value ∙ written_whole size into c.args.work.now.bytes.items whole in
    let few : given ≤ length bytes = omega (arith, ap (λ (l : List ℕ). length l) same, c.in-Ok.ensures.bound) in
    let first : IsFirstOutside (signed_numbers (take (2 * (given / 2)) bytes)) c.in-Some.number = c.in-Some.ensures.some in
    let within = outside_within given c.in-Some.number bytes few first in
    omega (arith, within)

pub overflow_add-result : goal.overflow_add-result
overflow_add-result g c =
    let given : ℕ = c.in-Ok.given in
    let bytes : List ℕ = c.deref.result.now in
    let into : List ℕ = c.fill.new.into in
    let size : ℕ = c.args.work.now.bytes.len in
    let whole : length into ≡ size = omega arith in
    let same : bytes ≡ into = c.deref.ensures.value ∙ written_whole size into c.args.work.now.bytes.items whole in
    let few : given ≤ length bytes = omega (arith, ap (λ (l : List ℕ). length l) same, c.in-Ok.ensures.bound) in
    let first : IsFirstOutside (signed_numbers (take (2 * (given / 2)) bytes)) c.in-Some.number = c.in-Some.ensures.some in
    let within = outside_within given c.in-Some.number bytes few first in
    omega (arith, within)

pub returns-in-Some-clause-read : goal.returns-in-Some-clause-read
returns-in-Some-clause-read g c =
    let given : ℕ = c.in-Ok.given in
    let bytes : List ℕ = c.deref.result.now in
    let cells : ℕ = vec_len c.args.work.now.levels in
    let before = g.S.Source.left c.args.input.now in
    let after = g.S.Source.left c.fill.new.input in
    let into : List ℕ = c.fill.new.into in
    let size : ℕ = c.args.work.now.bytes.len in
    let whole : length into ≡ size = omega arith in
    let same : bytes ≡ into = c.deref.ensures.value ∙ written_whole size into c.args.work.now.bytes.items whole in
    let few : given ≤ length bytes = omega (arith, ap (λ (l : List ℕ). length l) same, c.in-Ok.ensures.bound) in
    let long : length bytes ≡ 2 * cells = search rules in
    let read : Consumes before after (take given bytes) =
    subst (λ (l : List ℕ). Consumes before after (take given l)) (sym same) c.in-Ok.ensures.bytes in
    record {
      given = λ told. given_fails before after c.args.place.now cells given c.in-Some.number bytes told read long few c.in-Some.ensures.some;
      never_fell = c.in-Ok.ensures.cause.never_fell;
      cause = c.in-Ok.ensures.cause.stays;
    }

pub returns-then-given-len-clause-read : goal.returns-then-given-len-clause-read
returns-then-given-len-clause-read g c =
    let given : ℕ = c.in-Ok.given in
    let bytes : List ℕ = c.deref.result.now in
    let cells : ℕ = vec_len c.args.work.now.levels in
    let before = g.S.Source.left c.args.input.now in
    let after = g.S.Source.left c.fill.new.input in
    let into : List ℕ = c.fill.new.into in
    let size : ℕ = c.args.work.now.bytes.len in
    let whole : length into ≡ size = omega arith in
    let same : bytes ≡ into = c.deref.ensures.value ∙ written_whole size into c.args.work.now.bytes.items whole in
    let long : length bytes ≡ 2 * cells = search rules in
    let few : given < length bytes = search rules in
    let read : Consumes before after (take given bytes) =
    subst (λ (l : List ℕ). Consumes before after (take given l)) (sym same) c.in-Ok.ensures.bytes in
    let end : IsAtEnd after = c.in-Ok.ensures.end (omega (arith, ap (λ (l : List ℕ). length l) same, few)) in
    let right : list_all is_level (signed_numbers (take (2 * (given / 2)) bytes)) ≡ true = search rules in
    record {
      given = λ told. given_lacks before after c.args.place.now cells given bytes told read end long few right;
      never_fell = c.in-Ok.ensures.cause.never_fell;
      cause = c.in-Ok.ensures.cause.stays;
    }

pub returns-clause-read : goal.returns-clause-read
returns-clause-read g c =
    let given : ℕ = c.in-Ok.given in
    let bytes : List ℕ = c.deref.result.now in
    let cells : ℕ = vec_len c.args.work.now.levels in
    let before = g.S.Source.left c.args.input.now in
    let after = g.S.Source.left c.fill.new.input in
    let into : List ℕ = c.fill.new.into in
    let size : ℕ = c.args.work.now.bytes.len in
    let whole : length into ≡ size = omega arith in
    let same : bytes ≡ into = c.deref.ensures.value ∙ written_whole size into c.args.work.now.bytes.items whole in
    let long : length bytes ≡ 2 * cells = search rules in
    let all : given ≡ 2 * cells = search rules in
    let half : given / 2 ≡ cells = omega (arith, all) in
    let read : Consumes before after (take given bytes) =
    subst (λ (l : List ℕ). Consumes before after (take given l)) (sym same) c.in-Ok.ensures.bytes in
    let tested : list_all is_level (signed_numbers (take (2 * (given / 2)) bytes)) ≡ true = search rules in
    let right : list_all is_level (signed_numbers (take (2 * cells) bytes)) ≡ true =
    subst (λ (n : ℕ). list_all is_level (signed_numbers (take (2 * n) bytes)) ≡ true) half tested in
    let levels : List ℤ = c.levels_into.new.levels in
    let first : take (given / 2) levels ≡ signed_numbers (take (2 * (given / 2)) bytes) = search rules in
    let many : length levels ≡ cells = search rules in
    let spelled : signed_numbers (take (2 * cells) bytes) ≡ levels =
    sym (subst (λ (n : ℕ). take n levels ≡ signed_numbers (take (2 * n) bytes)) half first) ∙ take_all cells levels (omega (arith, many)) in
    record {
      given = λ told.
          let done = given_passes before after c.args.place.now cells given bytes told read long all right in (
            done.0,
            done.1 ∙ same_reading (signed_numbers (take (2 * cells) bytes)) _ (c.args.place.now + 2 * cells) _ (told_bytes after)
                (spelled ∙ sym (written_whole cells levels c.args.work.now.levels.items many)) (omega (arith, all)),
          );
      never_fell = c.in-Ok.ensures.cause.never_fell;
      cause = c.in-Ok.ensures.cause.stays;
    }
