-- The words of a channel whose first read level tells its cells apart are read from their first sense, whatever its sizes.
use Rattle.std.proofs.Common.{ℕ, ◌≡◌, ◌-◌, ◌*◌, ◌/◌, ◌≤◌, ◌<◌, pos, ◌+ℤ◌, ◌-ℤ◌, ◌<ℤ◌, ◌≤ℤ◌, true, List, ℤ, Option, Some, option_map, refl, ap, sym, subst, ◌∙◌, arith}
use Rattle.std.specs.Prelude.{is_some}
use Rattle.std.proofs.Math.Nat.{mul-le-mul_right}
use Rattle.ssd_geo.specs.BaseMatrix.{BaseMatrix, IsAccepted}
use Rattle.ssd_geo.specs.Codewords.{IsCodeword, failed_checks, word_bits}
use Rattle.ssd_geo.specs.Coding.{code_found, data_in, failed_in, found_hard, matrix_of, payload_of}
use Rattle.ssd_geo.specs.Limits.{Sizes, code_bytes_of, part_bytes_of, payload_bytes_of}
use Rattle.ssd_geo.specs.PageWord.{code_in, joined, word_of}
use Rattle.ssd_geo.specs.Senses.{hard_values}
use Rattle.ssd_geo.specs.Shape.{sizes_of}
use Rattle.ssd_geo.specs.declared.base.ChannelBase.{ChannelBase}
use Rattle.run_laws.proofs.ReadPages.{pages_are_read}
use Rattle.run_laws.specs.FirstSenses.{WordIsRead}
use Rattle.ssd_histories.specs.LastWrites.{IsData}
use Rattle.recovery_laws.proofs.ReadReplies.{bytes_given}
use Rattle.recovery_laws.proofs.WordData.{whole_bytes, words_have_data}
use Rattle.complete_runs.specs.ToldLevels.{ToldLevelsReadBack, ToldPagesAreReadAtOnce}
use Rattle.complete_runs.proofs.FirstSense.{decode_codeword}
use Rattle.complete_runs.proofs.ToldCells.{sensed-told}
use Rattle.complete_runs.proofs.PageCodes.{all_found, bytes_again, code_at, code_back, code_long, only, word_small}
use Rattle.ssd_geo.proofs.CheckedCodewords.{no_check_fails, sum_none}

is_some_of : {A : Type 0} (found : Option A) (x : A) → found ≡ Some x → is_some found ≡ true
is_some_of found x is = rw is refl

-- codewords fail no check together
none_fail : (sizes : Sizes) (m : BaseMatrix) (word : List ℕ) → ((f : ℕ) → f < sizes.words → IsCodeword m (code_in sizes word f)) → failed_in sizes m word ≡ 0
none_fail sizes m word codewords =
    sum_none (λ f. failed_checks m (code_in sizes word f)) 0 sizes.words
    (λ f low high. no_check_fails m (code_in sizes word f) (codewords f (omega arith)))

-- a part is no longer than its codeword
pub part_fits : (n m z : ℕ) → (n - m) * z / 8 ≤ n * z / 8
part_fits n m z =
    let shorter : (n - m) * z ≤ n * z = mul-le-mul_right z (omega arith) in
    omega arith

-- the word of a page is read
word_is_read : (base : ChannelBase) → IsAccepted (matrix_of base) → (level : ℤ) → (base.law.erased +ℤ pos base.law.spread) <ℤ level → level ≤ℤ (base.law.programmed -ℤ pos base.law.spread)
    → (serial row : ℕ) (data_bytes : List ℕ) → IsData base.shape.bytes data_bytes → WordIsRead base level serial row data_bytes
word_is_read base ok level low high serial row data_bytes is_data =
    let sizes : Sizes = sizes_of base.shape in
    let m : BaseMatrix = matrix_of base in
    let payload : List ℕ = payload_of base.shape serial row data_bytes in
    let word : List ℕ = word_of sizes m payload in
    let whole : word_bits m ≡ 8 * code_bytes_of sizes = whole_bytes (word_bits m) base.shape.within.whole_word_bytes in
    let fits : part_bytes_of sizes ≤ code_bytes_of sizes = part_fits base.shape.nb base.shape.mb base.shape.z in
    let back : (f : ℕ) → f < sizes.words → code_in sizes word f ≡ code_at sizes m payload f = code_back sizes m ok fits whole payload in
    let codewords : (f : ℕ) → f < sizes.words → IsCodeword m (code_in sizes word f) =
    λ f below. subst (IsCodeword m) (sym (back f below)) (only sizes m ok fits whole payload f).codeword in
    let finds : (f : ℕ) → f < sizes.words → found_hard sizes m base.iterations word f ≡ Some (code_at sizes m payload f) =
    λ f below.
    ap (λ (code : List ℕ). code_found m base.iterations (hard_values code)) (back f below)
    ∙ ap (option_map {U = List ℕ} (λ (outcome : ℕ × List ℕ). outcome.1))
    (decode_codeword m base.iterations (code_at sizes m payload f)
    (ap (λ (n : ℕ). 8 * n) (code_long sizes m ok fits whole payload f) ∙ sym whole)
    (only sizes m ok fits whole payload f).of_bits (only sizes m ok fits whole payload f).codeword) in
    let has_data : data_in base.shape serial row word ≡ Some data_bytes = words_have_data base serial row data_bytes is_data in
    record {
      sense_is = λ page erases.
          sensed-told base.law page erases word level low high ∙ bytes_again word (word_small sizes m ok fits whole payload);
      is_found =
          ap (option_map (joined sizes))
          (all_found (found_hard sizes m base.iterations word) (code_at sizes m payload) 0 sizes.words
          (λ f from below. finds f (omega arith)));
      fails_none = none_fail sizes m word codewords;
      has_head = is_some_of (data_in base.shape serial row word) data_bytes has_data;
      has_data = bytes_given (payload_bytes_of sizes) base.shape.bytes serial row word data_bytes has_data;
    }

pub told_levels_read_back : ToldLevelsReadBack
told_levels_read_back base ok apart = record {
  level = apart.level;
  is_first = apart.is_first;
  words = word_is_read base ok apart.level apart.above_erased apart.not_above_programmed;
}

-- and so is each page of a past without an ageing
pub told_pages_are_read_at_once : ToldPagesAreReadAtOnce
told_pages_are_read_at_once start contents past tag row slot serial closed data_bytes ok apart written none_aged =
    pages_are_read start contents past tag row slot serial closed data_bytes
    (record { is_written = written; reads_back = told_levels_read_back start.base ok apart; no_ageing = none_aged })
