-- The bytes of a head's fields, one by one.
use Rattle.std.proofs.Common.{◌≡◌, ℕ, ◌%◌, ◌^◌, ◌<◌, [], ◌∷◌, ◌++◌, ap, append_assoc, arith}
use Rattle.std.specs.Int.{w8, to_le_bytes}
use Rattle.std.specs.Prelude.{if◌then◌else◌}
use Rattle.ssd_formats.specs.ImageHead.{Head, head_bytes}
use Rattle.image_file.specs.HeadBytes.{block_bytes, code_bytes, fixed_bytes, law_bytes, size_bytes}

-- a number below 256 is its own byte
pub byte_spelled : (n : ℕ) → n < 2 ^ 8 → to_le_bytes w8 n ≡ n ∷ []
byte_spelled n small = let same : n % 256 ≡ n = omega arith in ap (λ b. b ∷ []) same

-- the bytes of a head are those of its parts
pub bytes_in_parts : (head : Head) → head_bytes head ≡ fixed_bytes head ++ (code_bytes head ++ (block_bytes head ++ to_le_bytes w8 (if head.full then 1 else 0)))
unfolding head_bytes fixed_bytes code_bytes block_bytes size_bytes law_bytes
bytes_in_parts head = simp append_assoc
