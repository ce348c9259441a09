-- The numbers of programmed pages that were read so far.
use Rattle.std.proofs.Common.{◌≡◌, ℕ, ◌≤◌, ◌==◌, Bool, true, false, List, [], ◌∷◌, ◌++◌, length, refl, sym, ap, ◌∙◌, arith, append_assoc, append-nil, ◌&&◌}
use Rattle.std.specs.Prelude.{if◌then◌else◌}
use Rattle.std.proofs.lemmas.Grind.{common_steps}
use Rattle.ssd_formats.specs.ImageContents.{are_programmed_counts, is_programmed_count}
use Rattle.ssd_geo.specs.Limits.{Sizes, is_within}
use Rattle.ssd_geo.specs.Superblock.{due_pages, slots_of}
use Rattle.ssd_histories.specs.States.{is_bad}
use Rattle.ssd_formats.proofs.HeadLaws.{within_is}
use Rattle.ssd_formats.proofs.SpelledContents.{due_at_most, within_if}
use Rattle.ssd_histories.specs.Blocks.{has_due_used}
use Rattle.ssd_geo.specs.declared.superblock.SbState.{SbState}
use Rattle.ssd_geo.specs.declared.superblock.SbState.TheVariants.{Free, Frontier, Sealed, Bad, Victim}
use Rattle.std.proofs.lemmas.Bool.{and_parts, eqb-true}
use Rattle.ssd_histories.proofs.UsedSlots.{due_used}

-- one more, after those before
counts_after : (sizes : Sizes) (state : SbState) (sb used : ℕ) (before counts : List ℕ) (n die : ℕ) → length (before ++ counts) ≡ die
    → are_programmed_counts sizes state sb used before counts ≡ true → is_programmed_count sizes state sb used die n ≡ true
    → is_within 0 sizes.pages n ≡ true → are_programmed_counts sizes state sb used before (counts ++ n ∷ []) ≡ true
counts_after sizes state sb used before [] n die long good right within =
    let here : length before ≡ die = ap length (sym (append-nil before)) ∙ long in
    rw (here, right, within) refl
counts_after sizes state sb used before (k ∷ counts) n die long good right within =
    let parts = and_parts (is_programmed_count sizes state sb used (length before) k && is_within 0 sizes.pages k) (are_programmed_counts sizes state sb used (before ++ k ∷ []) counts) good in
    let again : length ((before ++ k ∷ []) ++ counts) ≡ die = ap length (append_assoc before (k ∷ []) counts) ∙ long in
    rw (parts.0, counts_after sizes state sb used (before ++ k ∷ []) counts n die again parts.1 right within) refl

pub counts_longer : (sizes : Sizes) (state : SbState) (sb used : ℕ) (counts : List ℕ) (n die : ℕ) → length counts ≡ die
    → are_programmed_counts sizes state sb used [] counts ≡ true → is_programmed_count sizes state sb used die n ≡ true
    → n ≤ sizes.pages → are_programmed_counts sizes state sb used [] (counts ++ n ∷ []) ≡ true
counts_longer sizes state sb used counts n die long good right few =
    counts_after sizes state sb used [] counts n die long good right (within_if n sizes.pages few)

-- no die has more programmed pages than a block
count_by_state : (bad : Bool) (due most n : ℕ) → due ≤ most → (if bad then is_within due most n else n == due) ≡ true → n ≤ most
count_by_state true due most n fits right = within_is due most n right
count_by_state false due most n fits right = let same : n ≡ due = eqb-true n due right in omega (arith, same, fits)

pub count_within : (sizes : Sizes) (state : SbState) (sb used die n : ℕ) → used ≤ slots_of sizes.pages sizes.dies
    → is_programmed_count sizes state sb used die n ≡ true → n ≤ sizes.pages
count_within sizes state sb used die n few right =
    count_by_state (is_bad state) (due_pages sizes.dies sb used die) sizes.pages n (due_at_most sizes.pages sizes.dies sb used die few) right

-- no more slots are used than a superblock has
pub used_fits : (slots used : ℕ) (state : SbState) → has_due_used slots state used ≡ true → used ≤ slots
used_fits slots used state due = due_used slots state used due
