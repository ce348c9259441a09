use Rattle.std.proofs.Common.{◌≡◌, ◌*◌, ◌+◌, ◌<◌, ℕ, ℤ, pos, List, [], ◌∷◌, length, get_or, set, ap, sym, ◌∙◌, length-set, arith, rules, SFits, w16}
use Rattle.std.specs.Prelude.{flat_map}
use Rattle.std.proofs.lemmas.Int.{to_z-of_z}
use Rattle.std.proofs.lemmas.List.{take_all}
use Rattle.ssd_formats.specs.Fields.{bytes_of_signed}
use Rattle.contents_file.proofs.SpelledBytes.{level_more}
use Rattle.contents_file.proofs.levels.spell_levels.Goals as goal

pub loop-i-preserved : goal.loop-i-preserved
loop-i-preserved c =
    let levels : List ℤ = c.args.levels.now in
    let bytes : List ℕ = c.loop-i.bytes in
    let i : ℕ = c.loop-i.i in
    let level : ℤ = get_or c.args.levels.now c.loop-i.i (pos 0) in
    let spelled : List ℕ = c.to_le_bytes.result in
    let low : ℕ = get_or spelled 0 0 in
    let high : ℕ = get_or spelled 1 0 in
    let fits : SFits w16 (get_or c.args.levels.now c.loop-i.i (pos 0)) = search rules in
    let whole : spelled ≡ bytes_of_signed level = c.to_le_bytes.ensures ∙ ap bytes_of_signed (to_z-of_z w16 level fits) in
    let both : low ∷ high ∷ [] ≡ bytes_of_signed level = ap (λ (l : List ℕ). get_or l 0 0 ∷ get_or l 1 0 ∷ []) whole in
    let long : length bytes ≡ 2 * length levels = c.loop-i.invariant.length in
    let below : i < length levels = c.loop-i-test.true in
    record {
      length = length-set (set bytes (2 * i) low) (2 * i + 1) high ∙ length-set bytes (2 * i) low ∙ long;
      spelled = level_more levels bytes i low high below (omega (arith, long, below)) c.loop-i.invariant.spelled both;
    }

pub returns : goal.returns
returns c =
    let all : c.loop-i.i ≡ length c.args.levels.now = omega arith in
    sym (take_all (2 * c.loop-i.i) c.loop-i.bytes (omega (arith, c.loop-i.invariant.length)))
    ∙ c.loop-i.invariant.spelled ∙ ap (flat_map bytes_of_signed) (take_all c.loop-i.i c.args.levels.now (omega arith))
