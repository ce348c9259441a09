-- Bytes that are written in two calls are written in one.
use Rattle.std.proofs.Common.{ℕ, ◌+◌, List, length, take, drop, Option}
use Rattle.std.specs.Prelude.{slice_range}
use Rattle.std.proofs.Math.Seq.{take-add}
use Rattle.std.proofs.lemmas.List.{take_rest}
use Rattle.std.proofs.KnownBytes.{Appends-trans}
use Rattle.std.specs.Io.KnownBytes.{Appends}

-- n more bytes of a list, after its first ones
pub appends_more : (old mid new : Option (List ℕ)) (at n : ℕ) (bytes : List ℕ) → Appends old mid (take at bytes) → Appends mid new (take n (slice_range bytes at (length bytes))) → Appends old new (take (at + n) bytes)
appends_more old mid new at n bytes front more =
    let rest = rw take_rest at more in rw take-add (Appends-trans old mid new (take at bytes) (take n (drop at bytes)) front rest)
