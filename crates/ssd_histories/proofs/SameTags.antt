-- A tag is found to be itself, and tags that are found to be one are equal.
use Rattle.std.proofs.Common.{◌≡◌, true, refl, eqb-true}
use Rattle.std.proofs.lemmas.Bool.{and_parts}
use Rattle.std.specs.Prelude.{◌==◌}
use Rattle.ssd_histories.specs.History.{is_same_tag}
use Rattle.ssd_geo.specs.declared.tag.Tag.{Tag}
use Rattle.shared_lemmas.proofs.Tests.{same_number}

-- a tag is the same as itself, and tags that are the same have one actor and one number
pub same_tag : (tag : Tag) → is_same_tag tag tag ≡ true
same_tag tag = rw (same_number tag.actor, same_number tag.call) refl

pub same_parts : (a b : Tag) → is_same_tag a b ≡ true → (a.actor ≡ b.actor) × (a.call ≡ b.call)
same_parts a b e =
    let parts = and_parts (a.actor == b.actor) (a.call == b.call) e in
    (eqb-true a.actor b.actor parts.0, eqb-true a.call b.call parts.1)

pub one_tag : (a b : Tag) → is_same_tag a b ≡ true → a ≡ b
one_tag a b e =
    let parts = same_parts a b e in
    λ i. record { actor = parts.0 i; call = parts.1 i }
