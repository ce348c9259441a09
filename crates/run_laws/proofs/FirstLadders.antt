-- A ladder asks first for a sense at the first read level, and where all codewords are found from it and their word is
-- accepted, that decides it.
use Rattle.std.proofs.Common.{◌≡◌, ℕ, Bool, true, false, List, [], ◌∷◌, ℤ, Option, Some, None, refl, ap, ◌∙◌}
use Rattle.std.specs.Prelude.{option_map, slice_get}
use Rattle.ssd_geo.specs.Coding.{Coding}
use Rattle.ssd_geo.specs.Ladder.{PageState, PlaceState, all_kept, asks, best_level, found, hard_work, kept_with, ladder, none_kept, page_accepted, page_decoded, partly, place_work, recovered, soft_work, wants, whole}
use Rattle.ssd_geo.specs.declared.place.Place.{Place}

-- what comes after the hard part
abbrev After : Type 0
After = List (Option (List ℕ)) → List (List ℕ) → PlaceState

-- before its first sense the work on a place wants one at the first read level
wants_first : (coding : Coding) (accepts : List ℕ → Bool) (after : After) (levels : List ℤ) (level : ℤ) (rung : ℕ) (kept : List (Option (List ℕ))) → slice_get levels 0 ≡ Some level
    → hard_work coding accepts after levels rung kept [] ≡ wants level
wants_first coding accepts after [] level rung kept is = absurd (cc)
wants_first coding accepts after (first ∷ levels) level rung kept is = let same : first ≡ level = cc in ap wants same

pub asks_first : (coding : Coding) (accepts : List ℕ → Bool) (place : Place) (others : List Place) (closed : Bool) (level : ℤ) → slice_get coding.levels 0 ≡ Some level
    → ladder coding accepts place others closed [] ≡ asks place level
asks_first coding accepts place others closed level is =
    let work : place_work coding accepts [] ≡ wants level =
    wants_first coding accepts (soft_work coding accepts (best_level coding [])) coding.levels level 0 (none_kept coding) is in
    rw (work, ladder) refl

-- a word that is accepted
accepted_is : (coding : Coding) (codes : List (List ℕ)) (word : List ℕ) (b : Bool) → coding.joined codes ≡ word → b ≡ true
    → ◌≡◌ {A = PageState} (elim b [ true ↦ whole (coding.joined codes) | false ↦ partly (none_kept coding) ]) (whole word)
accepted_is coding codes word true same e = ap whole same
accepted_is coding codes word false same e = absurd (cc)

-- codewords that were all found, and whose word is accepted
all_found : (coding : Coding) (accepts : List ℕ → Bool) (kept : List (Option (List ℕ))) (codes : Option (List (List ℕ))) (word : List ℕ)
    → option_map coding.joined codes ≡ Some word → accepts word ≡ true → page_accepted coding accepts kept codes ≡ whole word
all_found coding accepts kept None word is_found is_accepted = absurd (cc)
all_found coding accepts kept (Some codes) word is_found is_accepted =
    let same : coding.joined codes ≡ word = cc in
    accepted_is coding codes word (accepts (coding.joined codes)) same (ap accepts same ∙ is_accepted)

-- the first sense decides then
first_found : (coding : Coding) (accepts : List ℕ → Bool) (after : After) (levels : List ℤ) (level : ℤ) (rung : ℕ) (sense word : List ℕ) (rest : List (List ℕ)) → slice_get levels 0 ≡ Some level
    → option_map coding.joined (all_kept (kept_with (coding.hard sense) 0 (none_kept coding))) ≡ Some word → accepts word ≡ true
    → hard_work coding accepts after levels rung (none_kept coding) (sense ∷ rest) ≡ found rung word rest
first_found coding accepts after [] level rung sense word rest is is_found is_accepted = absurd (cc)
first_found coding accepts after (first ∷ levels) level rung sense word rest is is_found is_accepted =
    let found_is : page_decoded coding accepts (coding.hard sense) (none_kept coding) ≡ whole word =
    all_found coding accepts (kept_with (coding.hard sense) 0 (none_kept coding)) (all_kept (kept_with (coding.hard sense) 0 (none_kept coding))) word is_found is_accepted in
    rw (found_is, hard_work) refl

pub recovers_first : (coding : Coding) (accepts : List ℕ → Bool) (place : Place) (others : List Place) (closed : Bool) (level : ℤ) (sense word : List ℕ) (rest : List (List ℕ)) → slice_get coding.levels 0 ≡ Some level
    → option_map coding.joined (all_kept (kept_with (coding.hard sense) 0 (none_kept coding))) ≡ Some word → accepts word ≡ true
    → ladder coding accepts place others closed (sense ∷ rest) ≡ recovered 0 word
recovers_first coding accepts place others closed level sense word rest is is_found is_accepted =
    let work : place_work coding accepts (sense ∷ rest) ≡ found 0 word rest =
    first_found coding accepts (soft_work coding accepts (best_level coding (sense ∷ rest))) coding.levels level 0 sense word rest is is_found is_accepted in
    rw (work, ladder) refl
