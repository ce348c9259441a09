-- The running sum has a word's bytes after a program, and is cleared where no stripe is open then.
use Rattle.std.proofs.Common.{◌≡◌, ℕ, Bool, true, false, List, length, sym, subst, ap, ◌∙◌, refl}
use Rattle.std.proofs.lemmas.List.{length-replicate}
use Rattle.std.specs.Prelude.{not, if◌then◌else◌}
use Rattle.ssd_geo.specs.Bits.{bytes_sum}
use Rattle.ssd_geo.specs.Coding.{word_bytes_in}
use Rattle.ssd_geo.specs.Stripe.{is_last_of_stripe}
use Rattle.ssd_geo.specs.StripeSum.{zero_word}
use Rattle.ssd_geo.specs.declared.shape.Shape.{Shape}
use Rattle.ssd_geo.specs.declared.slot.Slot.{Slot}
use Rattle.ssd_geo.proofs.WordSums.{bytes_sum_comm, length-bytes_sum}
use Rattle.onfi_cmd.specs.DieState.{DieState}
use Rattle.chan_dies.specs.DiesState.{DiesState}
use Rattle.chan_dies.specs.Programming.{EndsProgram, Programs, is_open_after, sum_after}
use Rattle.chan_dies.specs.declared.ends.ProgramEnd.{ProgramEnd}

-- a sum with one word more has as many bytes
pub sum_bytes_stay : (n : ℕ) (sum word more : List ℕ) → length sum ≡ n → length word ≡ n → more ≡ bytes_sum sum word → length more ≡ n
sum_bytes_stay n sum word more sum_size word_size is =
    ap (λ (bytes : List ℕ). length bytes) is ∙ length-bytes_sum sum word (word_size ∙ sym sum_size) ∙ sum_size

-- a cleared sum has as many bytes
pub cleared_bytes : (n : ℕ) (more cleared : List ℕ) → length more ≡ n → cleared ≡ zero_word (length more) → (cleared ≡ zero_word n) × (length cleared ≡ n)
cleared_bytes n more cleared size is =
    let zeros : cleared ≡ zero_word n = is ∙ ap (λ (m : ℕ). zero_word m) size in
    (zeros, ap (λ (bytes : List ℕ). length bytes) zeros ∙ length-replicate n 0)

-- the sum after a program, where a stripe is open then, and where none is
by_last : (last : Bool) (zeros sum : List ℕ) → not last ≡ true → (if last then zeros else sum) ≡ sum
by_last true zeros sum h = absurd (cc)
by_last false zeros sum h = refl

by_open : (last : Bool) (zeros sum : List ℕ) → not last ≡ false → (if last then zeros else sum) ≡ zeros
by_open true zeros sum h = refl
by_open false zeros sum h = absurd (cc)

pub sum_kept : (shape : Shape) (slot : Slot) (sum : List ℕ) (end : ProgramEnd) → is_open_after shape slot end ≡ true → sum_after shape slot sum end ≡ sum
sum_kept shape slot sum ProgramEnd.Programmed h = by_last (is_last_of_stripe shape.dies slot.index) (zero_word (word_bytes_in shape)) sum h
sum_kept shape slot sum (ProgramEnd.Failed die) h = absurd (cc)
sum_kept shape slot sum (ProgramEnd.Fault die) h = absurd (cc)

pub sum_cleared : (shape : Shape) (slot : Slot) (sum : List ℕ) (end : ProgramEnd) → is_open_after shape slot end ≡ false →
    sum_after shape slot sum end ≡ zero_word (word_bytes_in shape)
sum_cleared shape slot sum ProgramEnd.Programmed h = by_open (is_last_of_stripe shape.dies slot.index) (zero_word (word_bytes_in shape)) sum h
sum_cleared shape slot sum (ProgramEnd.Failed die) h = refl
sum_cleared shape slot sum (ProgramEnd.Fault die) h = refl

-- a program of a word, seen beside the sizes and the sum
pub seen_program : (shape : Shape) (before after : List DieState) (sum more now : List ℕ) (held : DiesState) (slot : Slot) (word : List ℕ)
    (end : ProgramEnd) → record { shape = shape; dies = before; sum = sum } ≡ held → more ≡ bytes_sum sum word →
    EndsProgram shape slot word more before after end → now ≡ sum_after shape slot more end →
    Programs held (record { shape = shape; dies = after; sum = now }) slot word end
seen_program shape before after sum more now held slot word end seen is ends now_is =
    let turned : more ≡ bytes_sum word sum = is ∙ bytes_sum_comm sum word in
    subst (λ (old : DiesState). Programs old (record { shape = shape; dies = after; sum = now }) slot word end) seen
    (record {
      shape_stays = refl;
      dies = subst (λ (s : List ℕ). EndsProgram shape slot word s before after end) turned ends;
      sum_is = now_is ∙ ap {B = List ℕ} (λ (s : List ℕ). sum_after shape slot s end) turned;
    })
