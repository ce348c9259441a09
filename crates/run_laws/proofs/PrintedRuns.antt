-- The text of a run tells its pasts, since it tells their histories.
use Rattle.std.proofs.Common.{◌≡◌, List, [], ◌∷◌, length, map, refl, sym, ap, ◌∙◌}
use Rattle.ssd_formats.proofs.LineLaws.{whole_text_tells}
use Rattle.ssd_formats.specs.TraceText.{kinds_of_trace}
use Rattle.ssd_geo.specs.declared.entry.Entry.{Entry}
use Rattle.ssd_histories.proofs.Histories.{histories_reverse}
use Rattle.ssd_histories.specs.History.{history_of, past_of}
use Rattle.run_laws.specs.PrintedRuns.{RunTextsTellPasts}

-- the pasts of the histories of pasts are these
pasts_back : (pasts : List (List Entry)) → map past_of (map history_of pasts) ≡ pasts
pasts_back [] = refl
pasts_back (past ∷ pasts) =
    ap {B = List (List Entry)} (λ (first : List Entry). first ∷ map past_of (map history_of pasts)) (back past)
    ∙ ap {B = List (List Entry)} (λ (rest : List (List Entry)). past ∷ rest) (pasts_back pasts)
  where
    back : (past : List Entry) → past_of (history_of past) ≡ past
    back [] = refl
    back (entry ∷ past) = (histories_reverse [] (entry ∷ past) entry).past_back

pub run_texts_tell_pasts : RunTextsTellPasts
run_texts_tell_pasts head other_head run other holds other_holds same =
    sym (pasts_back run.pasts)
    ∙ ap (map past_of)
    (whole_text_tells (length head.read_levels) (length other_head.read_levels) (map history_of run.pasts) (map history_of other.pasts)
    (kinds_of_trace run.calls) (kinds_of_trace other.calls) run.replies other.replies run.dropped other.dropped holds.are_spelled
    other_holds.are_spelled same)
    ∙ pasts_back other.pasts
