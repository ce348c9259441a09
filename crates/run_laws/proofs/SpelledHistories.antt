-- Histories are ones that a text spells where each entry of their pasts is, and these have no more entries than a limit allows.
use Rattle.std.proofs.Common.{ℕ, ◌≡◌, ◌≤◌, nat_le, true, List, [], ◌∷◌, length, map, refl, sym, ap, subst, ◌∙◌, arith}
use Rattle.std.specs.Prelude.{All}
use Rattle.std.specs.List.{list_all}
use Rattle.std.proofs.lemmas.Bool.{and_from, and_parts, le-leb}
use Rattle.std.proofs.lemmas.Bool.Decides.{nat_tests}
use Rattle.std.proofs.lemmas.List.{length-map, length-reverse}
use Rattle.std.proofs.lemmas.List.Elements.{All-head, All-tail}
use Rattle.std.proofs.lemmas.List.Folds.{list_all-append}
use Rattle.ssd_formats.specs.HistoryText.{are_spelled_histories, is_spelled_entry, is_spelled_history, most_entries}
use Rattle.ssd_geo.specs.declared.entry.Entry.{Entry}
use Rattle.ssd_histories.proofs.Histories.{histories_reverse}
use Rattle.ssd_histories.specs.History.{history_of}

all_reversed : (past : List Entry) → list_all is_spelled_entry past ≡ true → list_all is_spelled_entry (history_of past) ≡ true
all_reversed [] spelled = refl
all_reversed (entry ∷ past) spelled =
    let parts = and_parts (is_spelled_entry entry) (list_all is_spelled_entry past) spelled in
    ap (list_all is_spelled_entry) (histories_reverse [] past entry).one_more_back
    ∙ list_all-append is_spelled_entry (history_of past) (entry ∷ [])
    ∙ and_from (list_all is_spelled_entry (history_of past)) (list_all is_spelled_entry (entry ∷ [])) (all_reversed past parts.1)
    (and_from (is_spelled_entry entry) true parts.0 refl)

-- a past whose history a text spells
pub record IsSpelledPast (past : List Entry) : Type 0 where
  pub spelled : list_all is_spelled_entry past ≡ true
  pub short : length past ≤ most_entries

spelled_history : (past : List Entry) → IsSpelledPast past → is_spelled_history (history_of past) ≡ true
spelled_history past is =
    and_from (nat_le (length (history_of past)) most_entries) (list_all is_spelled_entry (history_of past))
    (le-leb (length (history_of past)) most_entries
    (subst (λ (n : ℕ). n ≤ most_entries) (sym (length-reverse past)) is.short))
    (all_reversed past is.spelled)

spelled_all : (pasts : List (List Entry)) → All IsSpelledPast pasts → list_all is_spelled_history (map history_of pasts) ≡ true
spelled_all [] all = refl
spelled_all (past ∷ pasts) all =
    and_from (is_spelled_history (history_of past)) (list_all is_spelled_history (map history_of pasts))
    (spelled_history past (All-head IsSpelledPast past pasts all)) (spelled_all pasts (All-tail IsSpelledPast past pasts all))

pub spelled_histories : (pasts : List (List Entry)) → length pasts ≤ 256 → All IsSpelledPast pasts →
    are_spelled_histories (map history_of pasts) ≡ true
spelled_histories pasts few all =
    and_from (nat_le (length (map history_of pasts)) 256) (list_all is_spelled_history (map history_of pasts))
    (le-leb (length (map history_of pasts)) 256 (subst (λ (n : ℕ). n ≤ 256) (sym (length-map pasts history_of)) few)) (spelled_all pasts all)
