-- The fields of fixed places are read in three parts.
use Rattle.std.proofs.Common.{◌≡◌, ◌^◌, refl, pos, negsuc, Result, Ok, Err}
use Rattle.std.specs.Int.{w8, w32, w64}
use Rattle.ssd_formats.specs.Fields.{Rest, ◌>>=◌, number_field, signed_field, is_any, is_below}
use Rattle.ssd_formats.specs.ImageHead.{first_sizes, fixed_fields, is_programmed_level, with_columns, words_field}
use Rattle.ssd_geo.specs.Limits.{is_column_count, is_within, is_signed_within, most_bytes_of, most_rows_of}
use Rattle.image_file.specs.Fixed.{later_fields, law_level_fields}
use Rattle.image_file.specs.Sizes.{size_fields}

-- after the same beginning the parts are taken one by one
pub ahead : {A B C F : Type 0} (read : Result A F) (f : A → Result B F) (g : B → Result C F) (h : A → Result C F) → ((x : A) → h x ≡ (f x >>= g)) → (read >>= h) ≡ ((read >>= f) >>= g)
ahead (Ok x) f g h each = each x
ahead (Err fault) f g h each = refl

-- and then the same again
pub then_same : {A C F : Type 0} (read : Result A F) (f g : A → Result C F) → ((x : A) → f x ≡ g x) → (read >>= f) ≡ (read >>= g)
then_same (Ok x) f g each = each x
then_same (Err fault) f g each = refl

pub fixed_in_parts : (rest : Rest) → fixed_fields rest ≡ (words_field rest >>= (λ words. size_fields words.0 words.1 >>= (λ first. later_fields first.0 first.1)))
unfolding fixed_fields size_fields later_fields law_level_fields
fixed_in_parts rest =
    then_same (words_field rest) _ _ (λ words.
    ahead (first_sizes words.0 words.1) _ _ _ (λ first.
    ahead (number_field w8 (λ nb. is_column_count (with_columns first.0 nb)) first.1) _ _ _ (λ nb.
    ahead (number_field w8 (is_within 1 16) nb.1) _ _ _ (λ levels.
    ahead (number_field w8 (is_within 1 64) levels.1) _ _ _ (λ iterations.
    ahead (number_field w32 (is_within 1 (most_bytes_of (with_columns first.0 nb.0))) iterations.1) _ _ _ (λ bytes.
    ahead (number_field w32 (is_within 1 (most_rows_of first.0 0)) bytes.1) _ _ _ (λ rows.
    then_same (number_field w64 is_any rows.1) _ _ (λ seed.
    then_same (number_field w32 (is_below (2 ^ 24)) seed.1) _ _ (λ session.
    ahead (signed_field (is_signed_within (negsuc 8191) (pos 8190)) session.1) _ _ _ (λ erased.
    ahead (signed_field (is_programmed_level erased.0) erased.1) _ _ _ (λ programmed. refl)))))))))))
