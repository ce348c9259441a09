use Rattle.std.proofs.Common.{◌≡◌, ◌+◌, ◌*◌, ◌<◌, ℕ, ℤ, List, [], ◌∷◌, ◌++◌, true, false, drop, take, set, get_or, arith, length, rules, to_z, of_z, w16, SFits, sym, ap, ◌∙◌, subst, length-take-le}
use Rattle.std.proofs.lemmas.Int.{to_z-of_z}
use Rattle.std.proofs.lemmas.List.{get_or-take, take_more_set}
use Rattle.std.specs.List.{list_all}
use Rattle.ssd_formats.specs.Fields.{signed_of_bytes}
use Rattle.ssd_formats.specs.ImageHead.{signed_numbers}
use Rattle.ssd_geo.specs.Limits.{is_level}
use Rattle.image_file.proofs.MatrixSteps.{numbers_end, numbers_more}
use Rattle.ssd_formats.proofs.SpelledHeads.{all_snoc}
use Rattle.image_contents.proofs.LevelLists.{first_outside}
use Rattle.image_contents.proofs.levels.levels_into.Goals as goal

pub loop-i-preserved : goal.loop-i-preserved
loop-i-preserved c =
    let bytes : List ℕ = take (2 * c.args.count) c.args.bytes.now in
    let i = c.loop-i.i in
    let level : ℤ = c.from_le_bytes-level.result in
    let all : List ℕ = c.args.bytes.now in
    let read : level ≡ signed_of_bytes (get_or all (2 * i) 0 ∷ get_or all (2 * i + 1) 0 ∷ []) = search rules in
    let low : get_or bytes (2 * i) 0 ≡ get_or all (2 * i) 0 = get_or-take (2 * c.args.count) all (2 * i) 0 (omega arith) in
    let high : get_or bytes (2 * i + 1) 0 ≡ get_or all (2 * i + 1) 0 = get_or-take (2 * c.args.count) all (2 * i + 1) 0 (omega arith) in
    let value : level ≡ signed_of_bytes (get_or bytes (2 * i) 0 ∷ get_or bytes (2 * i + 1) 0 ∷ []) =
    read ∙ ap (λ (n : ℕ). signed_of_bytes (n ∷ get_or all (2 * i + 1) 0 ∷ [])) (sym low)
    ∙ ap (λ (n : ℕ). signed_of_bytes (get_or bytes (2 * i) 0 ∷ n ∷ [])) (sym high) in
    let long : length bytes ≡ 2 * c.args.count = length-take-le (2 * c.args.count) c.args.bytes.now (omega arith) in
    let within : 2 * i + 1 < length bytes = omega arith in
    let below : i < length c.loop-i.levels = omega arith in
    let right : is_level level ≡ true = search rules in
    let fits : SFits w16 level = search rules in
    let written : ℤ = to_z w16 (of_z w16 level) in
    let same : written ≡ level = to_z-of_z w16 level fits in
    let before : List ℤ = take i c.loop-i.levels in
    let taken : take (i + 1) (set c.loop-i.levels i written) ≡ before ++ written ∷ [] = take_more_set c.loop-i.levels i written below in
    let later : List ℤ = signed_numbers (drop (2 * (i + 1)) bytes) in
    record {
      so_far =
          ap (λ (l : List ℤ). l ++ later) taken ∙ ap (λ (n : ℤ). (before ++ n ∷ []) ++ later) (same ∙ value)
          ∙ numbers_more bytes i before (signed_numbers bytes) within c.loop-i.invariant.so_far;
      passed = ap (λ (l : List ℤ). list_all is_level l) taken ∙ all_snoc is_level before written c.loop-i.invariant.passed (ap is_level same ∙ right);
    }

pub returns-then-not-may_be_level-clause-some : goal.returns-then-not-may_be_level-clause-some
returns-then-not-may_be_level-clause-some c =
    let bytes : List ℕ = take (2 * c.args.count) c.args.bytes.now in
    let i = c.loop-i.i in
    let level : ℤ = c.from_le_bytes-level.result in
    let before : List ℤ = take i c.loop-i.levels in
    let spelled : ℤ = signed_of_bytes (get_or bytes (2 * i) 0 ∷ get_or bytes (2 * i + 1) 0 ∷ []) in
    let all : List ℕ = c.args.bytes.now in
    let read : level ≡ signed_of_bytes (get_or all (2 * i) 0 ∷ get_or all (2 * i + 1) 0 ∷ []) = search rules in
    let low : get_or bytes (2 * i) 0 ≡ get_or all (2 * i) 0 = get_or-take (2 * c.args.count) all (2 * i) 0 (omega arith) in
    let high : get_or bytes (2 * i + 1) 0 ≡ get_or all (2 * i + 1) 0 = get_or-take (2 * c.args.count) all (2 * i + 1) 0 (omega arith) in
    let value : level ≡ spelled =
    read ∙ ap (λ (n : ℕ). signed_of_bytes (n ∷ get_or all (2 * i + 1) 0 ∷ [])) (sym low)
    ∙ ap (λ (n : ℕ). signed_of_bytes (get_or bytes (2 * i) 0 ∷ n ∷ [])) (sym high) in
    let long : length bytes ≡ 2 * c.args.count = length-take-le (2 * c.args.count) c.args.bytes.now (omega arith) in
    let within : 2 * i + 1 < length bytes = omega arith in
    let below : i < length c.loop-i.levels = omega arith in
    let fails : is_level level ≡ false = search rules in
    first_outside before (signed_numbers (drop (2 * (i + 1)) bytes)) (signed_numbers bytes) spelled i (length-take-le i c.loop-i.levels (omega arith))
    c.loop-i.invariant.passed (ap is_level (sym value) ∙ fails) (numbers_more bytes i before (signed_numbers bytes) within c.loop-i.invariant.so_far)

pub returns-clause-none : goal.returns-clause-none
returns-clause-none c = λ none.
    let bytes : List ℕ = take (2 * c.args.count) c.args.bytes.now in
    let long : length bytes ≡ 2 * c.args.count = length-take-le (2 * c.args.count) c.args.bytes.now (omega arith) in
    let all : c.args.count ≡ c.loop-i.i = omega arith in
    ap (λ (n : ℕ). take n c.loop-i.levels) all
    ∙ numbers_end bytes c.loop-i.i (take c.loop-i.i c.loop-i.levels) (signed_numbers bytes) (omega arith) c.loop-i.invariant.so_far

pub returns-clause-levels : goal.returns-clause-levels
returns-clause-levels c = λ none.
    let bytes : List ℕ = take (2 * c.args.count) c.args.bytes.now in
    let long : length bytes ≡ 2 * c.args.count = length-take-le (2 * c.args.count) c.args.bytes.now (omega arith) in
    let all : take c.loop-i.i c.loop-i.levels ≡ signed_numbers bytes =
    numbers_end bytes c.loop-i.i (take c.loop-i.i c.loop-i.levels) (signed_numbers bytes) (omega arith) c.loop-i.invariant.so_far in
    subst (λ (l : List ℤ). list_all is_level l ≡ true) all c.loop-i.invariant.passed
