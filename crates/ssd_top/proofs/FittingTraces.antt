-- A trace that was read fits its drive: its calls are numbered, its writes have their data, and its pages have rows.
use Rattle.std.proofs.Common.{ℕ, zero, suc, ◌≡◌, ◌+◌, ◌-◌, ◌*◌, ◌/◌, ◌<◌, ◌≤◌, ◌++◌, replicate, List, [], ◌∷◌, length, take, flat_map, sym, ap, subst, ◌∙◌, refl, arith}
use Rattle.std.proofs.Math.Nat.{div-lt_iff_lt-mul, mul_comm}
use Rattle.std.proofs.lemmas.List.Concat.{flat_map-cons}
use Rattle.std.proofs.lemmas.List.Elements.{All-cons, All-head, All-nil, All-tail}
use Rattle.std.proofs.lemmas.List.{length-append, length-replicate, length-take-le}
use Rattle.std.specs.Int.{w64, to_le_bytes}
use Rattle.std.specs.List.{range_with_len}
use Rattle.std.specs.Prelude.{All}
use Rattle.ctl.specs.Asked as Asked
use Rattle.ctl.specs.Asked.{FitsDrive}
use Rattle.ssd_geo.specs.Limits.{Sizes}
use Rattle.ssd_geo.specs.Shape.{sizes_of}
use Rattle.ssd_geo.specs.Noise.{noise_word}
use Rattle.ssd_formats.specs.TraceText.{content_bytes}
use Rattle.ssd_geo.specs.declared.shape.Shape.{Shape}
use Rattle.ssd_geo.specs.declared.trace.Content.{Content}
use Rattle.ssd_geo.specs.declared.trace.Content.TheVariants.{Listed, Words}
use Rattle.ssd_geo.specs.declared.trace.TraceCall.{TraceCall}
use Rattle.ssd_geo.specs.declared.trace.Verb.{Verb}
use Rattle.ssd_geo.specs.declared.trace.Verb.TheVariants.{Write, Read, Trim, Refresh, Collect, Drain, Age}
use Rattle.ssd_histories.specs.LastWrites.{IsData}
use Rattle.ssd_histories.specs.CallsInOrder as Calls
use Rattle.run_laws.specs.SerialRuns.{HasData}
use Rattle.trace_text.specs.NumberedCalls.{AreNumberedAfter, IsContentOf, IsVerbOf}
use Rattle.ssd_top.proofs.SmallBytes.{AreSmall, append_small, padded_small}

-- the bytes of so many words of a generator
abbrev words_bytes : ℕ → ℕ → ℕ → List ℕ
words_bytes number a n = flat_map (λ w. to_le_bytes w64 (noise_word number w)) (range_with_len a n)

word_small : (n : ℕ) → AreSmall (to_le_bytes w64 n)
word_small n =
    (omega arith, (omega arith, (omega arith, (omega arith, (omega arith, (omega arith, (omega arith, (omega arith, tt))))))))

words_small : (number a n : ℕ) → AreSmall (words_bytes number a n)
words_small number a zero = tt
words_small number a (suc n) =
    subst AreSmall (sym (flat_map-cons (λ w. to_le_bytes w64 (noise_word number w)) a (range_with_len (a + 1) n)))
    (append_small (to_le_bytes w64 (noise_word number a)) (words_bytes number (a + 1) n) (word_small (noise_word number a)) (words_small number (a + 1) n))

words_long : (number a n : ℕ) → length (words_bytes number a n) ≡ 8 * n
words_long number a zero = refl
words_long number a (suc n) =
    let rest : length (words_bytes number (a + 1) n) ≡ 8 * n = words_long number (a + 1) n in
    ap (length {A = ℕ}) (flat_map-cons (λ w. to_le_bytes w64 (noise_word number w)) a (range_with_len (a + 1) n))
    ∙ length-append (to_le_bytes w64 (noise_word number a)) (words_bytes number (a + 1) n)
    ∙ omega (arith, rest)

take_small : (n : ℕ) (bytes : List ℕ) → AreSmall bytes → AreSmall (take n bytes)
take_small zero bytes small = tt
take_small (suc n) [] small = tt
take_small (suc n) (byte ∷ bytes) small = (small.0, take_small n bytes small.1)

small_of_all : (bytes : List ℕ) → All (λ byte. byte < 256) bytes → AreSmall bytes
small_of_all [] all = tt
small_of_all (byte ∷ bytes) all =
    (All-head (λ b. b < 256) byte bytes all, small_of_all bytes (All-tail (λ b. b < 256) byte bytes all))

-- the bytes of a write's content are its data
content_is_data : (count : ℕ) (content : Content) → IsContentOf count content → IsData count (content_bytes count content)
content_is_data count (Listed list) fits =
    let zeros : length {A = ℕ} (replicate (count - length list) 0) ≡ count - length list = length-replicate {A = ℕ} (count - length list) 0 in
    record {
      long = length-append list (replicate (count - length list) 0) ∙ omega (arith, fits.0, zeros);
      small = padded_small list (count - length list) (small_of_all list fits.1);
    }
content_is_data count (Words number) fits = record {
  long = length-take-le count (words_bytes number 0 ((count + 7) / 8)) (omega (arith, words_long number 0 ((count + 7) / 8)));
  small = take_small count (words_bytes number 0 ((count + 7) / 8)) (words_small number 0 ((count + 7) / 8));
}

has_data : (sizes : Sizes) (verb : Verb) → IsVerbOf sizes verb → HasData sizes.bytes verb
has_data sizes (Write page content) fits = content_is_data sizes.bytes content fits.1
has_data sizes (Read page) fits = tt
has_data sizes (Trim page) fits = tt
has_data sizes (Refresh page) fits = tt
has_data sizes (Collect channel) fits = tt
has_data sizes (Drain count) fits = tt
has_data sizes (Age channel die sb amount) fits = tt

-- the calls are numbered, and their writes have their data
pub are_numbered : (sizes : Sizes) (actors : ℕ) (before calls : List TraceCall) → AreNumberedAfter sizes actors before calls → Calls.AreNumberedAfter actors before calls
are_numbered sizes actors before [] numbered = tt
are_numbered sizes actors before (call ∷ calls) numbered =
    (record { is_actor = numbered.0.actor; is_number = numbered.0.number }, are_numbered sizes actors (before ++ call ∷ []) calls numbered.1)

pub have_data : (sizes : Sizes) (actors : ℕ) (before calls : List TraceCall) → AreNumberedAfter sizes actors before calls → All (λ call. HasData sizes.bytes call.verb) calls
have_data sizes actors before [] numbered = All-nil (λ call. HasData sizes.bytes call.verb)
have_data sizes actors before (call ∷ calls) numbered =
    All-cons (λ call. HasData sizes.bytes call.verb) call calls (has_data sizes call.verb numbered.0.verb)
    (have_data sizes actors (before ++ call ∷ []) calls numbered.1)

content_fits : (sizes : Sizes) (shape : Shape) → sizes_of shape ≡ sizes → (content : Content) → IsContentOf sizes.bytes content
    → Asked.IsContentOf shape.bytes content
content_fits sizes shape same (Listed list) fits = subst (λ (s : Sizes). length list ≤ s.bytes) (sym same) fits.0
content_fits sizes shape same (Words number) fits = tt

-- a page of a drive with C channels of so many rows has its row on its channel
row_within : (channels rows page : ℕ) → 1 ≤ channels → page < channels * rows → page / channels < rows
row_within channels rows page some below =
    (div-lt_iff_lt-mul {k = channels} {x = page} {y = rows} some).1 (subst (λ (n : ℕ). page < n) (mul_comm channels rows) below)

module _ (sizes : Sizes) (shape : Shape) (same : sizes_of shape ≡ sizes) (some : 1 ≤ sizes.channels) where
  row_fits : (page : ℕ) → page < sizes.channels * sizes.rows → page / sizes.channels < shape.rows
  row_fits page below =
      subst (λ (s : Sizes). page / sizes.channels < s.rows) (sym same) (row_within sizes.channels sizes.rows page some below)

  fits_drive : (verb : Verb) → IsVerbOf sizes verb → FitsDrive shape sizes.channels verb
  fits_drive (Write page content) fits = (row_fits page fits.0, content_fits sizes shape same content fits.1)
  fits_drive (Read page) fits = row_fits page fits
  fits_drive (Trim page) fits = row_fits page fits
  fits_drive (Refresh page) fits = row_fits page fits
  fits_drive (Collect channel) fits = fits
  fits_drive (Drain count) fits = tt
  fits_drive (Age channel die sb amount) fits = (
    fits.0,
    subst (λ (s : Sizes). die < s.dies) (sym same) fits.1,
    subst (λ (s : Sizes). sb < s.superblocks) (sym same) fits.2,
    fits.3,
    fits.4,
  )

  -- the calls fit the drive
  pub fit_drive : (actors : ℕ) (before calls : List TraceCall) → AreNumberedAfter sizes actors before calls
      → All (λ call. FitsDrive shape sizes.channels call.verb) calls
  fit_drive actors before [] numbered = All-nil (λ call. FitsDrive shape sizes.channels call.verb)
  fit_drive actors before (call ∷ calls) numbered =
      All-cons (λ call. FitsDrive shape sizes.channels call.verb) call calls (fits_drive call.verb numbered.0.verb)
      (fit_drive actors (before ++ call ∷ []) calls numbered.1)
