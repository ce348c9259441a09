-- A fact of the steps of a look that found a page: it is one of each where it is one of the look, of senses, of what
-- stands between these and the leave, and of the leave.
use Rattle.std.proofs.Common.{◌≡◌, ℕ, true, List, [], ◌∷◌, ◌++◌, subst, sym, arith, All}
use Rattle.std.specs.List.{list_all}
use Rattle.std.proofs.lemmas.List.Elements.{All-append, All-cons, All-nil, All-weaker}
use Rattle.std.proofs.lemmas.List.Sums.{AllPass-from_list_all}
use Rattle.ssd_geo.specs.Ladder.{LadderState}
use Rattle.ssd_geo.specs.declared.entry.Entry.{Entry}
use Rattle.ssd_histories.specs.CallSteps.{CallStep, is_sense_of, position_of}
use Rattle.ssd_histories.specs.Copies.{IsLookList, is_read_end}
use Rattle.ssd_histories.specs.Lawful.{is_fault_sense_of}

pub each_sense : (Fact : CallStep → Type 0) (at : ℕ) (senses : List CallStep) → ((step : CallStep) → is_sense_of at step.entry.kind ≡ true → Fact step) →
    list_all (λ step. is_sense_of at step.entry.kind) senses ≡ true → All Fact senses
each_sense Fact at senses of_sense are =
    All-weaker (λ step. is_sense_of at step.entry.kind ≡ true) Fact of_sense senses
    (AllPass-from_list_all (λ step. is_sense_of at step.entry.kind) senses are)

pub each_of_look : (Fact : CallStep → Type 0) (steps : List CallStep) (look : CallStep) (ending : List CallStep) (leave : CallStep) →
    IsLookList steps look ending leave → Fact look → ((step : CallStep) → is_sense_of (position_of look) step.entry.kind ≡ true → Fact step) →
    All Fact ending → Fact leave → All Fact steps
each_of_look Fact steps look ending leave list of_look of_sense of_ending of_leave =
    subst (All Fact) (sym list.are_steps)
    (All-cons Fact look ((list.senses ++ ending) ++ leave ∷ []) of_look
    (All-append Fact (list.senses ++ ending) (leave ∷ [])
    (All-append Fact list.senses ending (each_sense Fact (position_of look) list.senses of_sense list.are_senses) of_ending)
    (All-cons Fact leave [] of_leave (All-nil Fact))))

-- what stands there in a read
pub each_of_end : (Fact : CallStep → Type 0) (ladder : List Entry → ℕ → LadderState) (at : ℕ) (ending : List CallStep) (leave : CallStep) →
    ((step : CallStep) → is_fault_sense_of at step.entry.kind ≡ true → Fact step) → is_read_end ladder at ending leave ≡ true → All Fact ending
each_of_end Fact ladder at [] leave of_fault ends = All-nil Fact
each_of_end Fact ladder at (step ∷ []) leave of_fault ends = All-cons Fact step [] (of_fault step ends) (All-nil Fact)
each_of_end Fact ladder at (step ∷ next ∷ steps) leave of_fault ends = absurd (grind arith)
