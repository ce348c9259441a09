-- Steps that are a refresh pass a test that computes: so steps that fail it aren't one.
use Rattle.std.proofs.Common.{ℕ, ◌≡◌, Bool, true, false, List, [], ◌∷◌, ◌++◌, refl, ap, ◌∙◌, inl, inr}
use Rattle.std.specs.Prelude.{◌&&◌, ◌||◌}
use Rattle.std.specs.List.{list_all}
use Rattle.std.proofs.lemmas.Bool.{and_parts, false≢true, or_left, or_right}
use Rattle.ssd_histories.specs.CallSteps.{CallStep, is_leave_of, is_look_at_row, is_sense_of, position_of}
use Rattle.ssd_histories.specs.Copies.{IsPageList, IsRefresh, is_after_recovered, is_lone_look, is_refresh_end, is_refreshed}
use Rattle.ssd_geo.specs.Ladder.{LadderState, is_recovered, is_uncorrectable}
use Rattle.ssd_histories.specs.Lawful.{is_fault_sense_of}
use Rattle.ssd_geo.specs.declared.entry.Entry.{Entry}
use Rattle.ssd_geo.specs.declared.kind.Kind.{Kind}

-- what stands after the senses of the look that began at a position
abbrev after_senses : ℕ → List CallStep → List CallStep
after_senses at [] = []
after_senses at (step ∷ steps) = elim (is_sense_of at step.entry.kind) [ true ↦ after_senses at steps | false ↦ step ∷ steps ]

-- whether that is an end of a refresh and the leave
abbrev ends_refresh : (List Entry → ℕ → LadderState) → ℕ → List CallStep → Bool
ends_refresh ladder at [] = false
ends_refresh ladder at (leave ∷ []) = is_uncorrectable (ladder leave.past at)
ends_refresh ladder at (step ∷ leave ∷ []) = is_refresh_end ladder at step
ends_refresh ladder at (step ∷ next ∷ last ∷ steps) = false

-- whether steps are a look of a row and such an end
abbrev is_page_refresh : (List Entry → ℕ → LadderState) → ℕ → List CallStep → Bool
is_page_refresh ladder row [] = false
is_page_refresh ladder row (look ∷ steps) =
    is_look_at_row row look.entry.kind && ends_refresh ladder (position_of look) (after_senses (position_of look) steps)

-- the test
abbrev pub passes : (List Entry → ℕ → LadderState) → ℕ → List CallStep → Bool
passes ladder row steps = is_lone_look row steps || is_page_refresh ladder row steps

leave_is_no_sense : (at : ℕ) (kind : Kind) → is_leave_of at kind ≡ true → is_sense_of at kind ≡ false
leave_is_no_sense at (Kind.Leave named) e = refl
leave_is_no_sense at kind e = absurd (false≢true e)

end_is_no_sense : (at : ℕ) (recovered : Bool) (kind : Kind) →
    (is_fault_sense_of at kind || (recovered && is_after_recovered at kind)) ≡ true → is_sense_of at kind ≡ false
end_is_no_sense at true (Kind.Sense named place level) e = absurd (false≢true e)
end_is_no_sense at false (Kind.Sense named place level) e = absurd (false≢true e)
end_is_no_sense at recovered kind e = refl

kept : (at : ℕ) (step : CallStep) (steps : List CallStep) → is_sense_of at step.entry.kind ≡ false →
    after_senses at (step ∷ steps) ≡ step ∷ steps
kept at step steps e = rw (e, after_senses) refl

skipped : (at : ℕ) (step : CallStep) (steps : List CallStep) → is_sense_of at step.entry.kind ≡ true →
    after_senses at (step ∷ steps) ≡ after_senses at steps
skipped at step steps e = rw (e, after_senses) refl

senses_are_skipped : (at : ℕ) (senses ending rest : List CallStep) →
    list_all (λ step. is_sense_of at step.entry.kind) senses ≡ true →
    after_senses at ((senses ++ ending) ++ rest) ≡ after_senses at (ending ++ rest)
senses_are_skipped at [] ending rest are = refl
senses_are_skipped at (step ∷ senses) ending rest are =
    let parts = and_parts (is_sense_of at step.entry.kind) (list_all (λ step. is_sense_of at step.entry.kind) senses) are in
    skipped at step ((senses ++ ending) ++ rest) parts.0 ∙ senses_are_skipped at senses ending rest parts.1

ends_are_kept : (ladder : List Entry → ℕ → LadderState) (at : ℕ) (ending : List CallStep) (leave : CallStep) →
    is_refreshed ladder at ending leave ≡ true → is_leave_of at leave.entry.kind ≡ true →
    ends_refresh ladder at (after_senses at (ending ++ leave ∷ [])) ≡ true
ends_are_kept ladder at [] leave ends left =
    ap (ends_refresh ladder at) (kept at leave [] (leave_is_no_sense at leave.entry.kind left)) ∙ ends
ends_are_kept ladder at (step ∷ []) leave ends left =
    ap (ends_refresh ladder at) (kept at step (leave ∷ []) (end_is_no_sense at (is_recovered (ladder step.past at)) step.entry.kind ends)) ∙ ends
ends_are_kept ladder at (step ∷ next ∷ steps) leave ends left = absurd (false≢true ends)

page_list_passes : (ladder : List Entry → ℕ → LadderState) (row : ℕ) (steps : List CallStep) →
    IsPageList row (is_refreshed ladder) steps → is_page_refresh ladder row steps ≡ true
page_list_passes ladder row steps list =
    let at = position_of list.look in
    let past_senses : after_senses at ((list.is_list.senses ++ list.ending) ++ list.leave ∷ [])
    ≡ after_senses at (list.ending ++ list.leave ∷ []) =
    senses_are_skipped at list.is_list.senses list.ending (list.leave ∷ []) list.is_list.are_senses in
    let end : ends_refresh ladder at (after_senses at ((list.is_list.senses ++ list.ending) ++ list.leave ∷ [])) ≡ true =
    ap (ends_refresh ladder at) past_senses
    ∙ ends_are_kept ladder at list.ending list.leave list.ends list.is_list.is_left in
    ap (is_page_refresh ladder row) list.is_list.are_steps
    ∙ rw list.of_row end

pub refresh_passes : (ladder : List Entry → ℕ → LadderState) (row : ℕ) (steps : List CallStep) → IsRefresh ladder row steps →
    passes ladder row steps ≡ true
refresh_passes ladder row steps (inl lone) = or_left (is_lone_look row steps) (is_page_refresh ladder row steps) lone
refresh_passes ladder row steps (inr list) =
    or_right (is_lone_look row steps) (is_page_refresh ladder row steps) (page_list_passes ladder row steps list)
