-- What a read does that fills a list from a place on.
use Rattle.std.proofs.Common.{◌≡◌, ℕ, ◌+◌, ◌≤◌, List, ◌++◌, length, take, Option, ap, sym, ◌∙◌, subst, length-take-le}
use Rattle.std.specs.Io.KnownBytes.{Consumes}
use Rattle.std.proofs.KnownBytes.{Consumes-trans}
use Rattle.std.proofs.Math.Seq.{take-append-add}
use Rattle.std.proofs.lemmas.List.{take-append-le}
use borrow.Rule.Slice.PartMut.{put_mid, post_of}

-- the list is filled further by what the read gave
pub filled_more : (a b c : Option (List ℕ)) (at k n : ℕ) (into piece : List ℕ) → at ≤ length into → n ≤ length piece → Consumes a b (take at into) → Consumes b c (take n piece) → Consumes a c (take (at + n) (put_mid at k into piece))
filled_more a b c at k n into piece fits few before read =
    let front = take at into in
    let behind = piece ++ post_of at k into in
    let taken : take (at + n) (front ++ behind) ≡ front ++ take n piece = ap (λ m. take (m + n) (front ++ behind)) (sym (length-take-le at into fits)) ∙ take-append-add front behind n ∙ ap (λ l. front ++ l) (take-append-le n piece (post_of at k into) few) in
    subst (Consumes a c) (sym taken) (Consumes-trans a b c _ _ before read)
