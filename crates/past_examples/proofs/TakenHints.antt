-- What a drain that takes pages has done: which page it took first, and whether it went on.
use Rattle.std.proofs.Common.{ℕ, suc, ◌≡◌, Bool, true, false, List, [], ◌∷◌, ◌++◌, map, reverse, refl, sym, ap, ◌∙◌, inl, inr, append-nil, append_assoc}
use Rattle.std.specs.Prelude.{◌⊎◌}
use Rattle.std.proofs.lemmas.List.{reverse-append}
use Rattle.ssd_histories.specs.CallSteps.{CallStep}
use Rattle.ssd_histories.specs.SerialCalls.{AreStepsFrom}
use Rattle.ssd_histories.specs.SerialHistory.{DrainedRefresh, SerialDrain, SerialState, faults, finds_none, has_taken_all, takes, without_hint}
use Rattle.ssd_geo.specs.declared.entry.Entry.{Entry}
use Rattle.ssd_geo.specs.declared.tag.Tag.{Tag}

module _ (contents : List (Tag × List ℕ)) (channels : ℕ) (tag : Tag) where
  -- what a drain does after a refresh: it stops at a fault, and else it goes on
  abbrev pub GoesOn : Bool → ℕ → List ℕ → SerialState → SerialState → Type 0
  GoesOn true count pages between after = (pages ≡ []) × (between ≡ after)
  GoesOn false count pages between after = SerialDrain contents channels tag count pages between after

  -- a drain took this page first
  pub record IsTaken (count page : ℕ) (pages : List ℕ) (before after : SerialState) : Type 0 where
    pub left : ℕ
    pub rest : List ℕ
    pub between : SerialState
    pub fault : Bool
    pub count_is : count ≡ suc left
    pub hints_are : before.hints ≡ page ∷ rest
    pub is_refreshed : DrainedRefresh contents channels tag page (without_hint rest before) between fault
    pub goes_on : GoesOn fault left pages between after

  -- what a drain has done, by the pages that it took
  abbrev pub HasDrained : ℕ → List ℕ → SerialState → SerialState → Type 0
  HasDrained count [] before after = (before ≡ after) × ((count ≡ 0) ⊎ (before.hints ≡ []))
  HasDrained count (page ∷ pages) before after = IsTaken count page pages before after

  pub has_drained : {count : ℕ} {pages : List ℕ} {before after : SerialState} →
      SerialDrain contents channels tag count pages before after → HasDrained count pages before after
  has_drained has_taken_all = (refl, inl refl)
  has_drained (finds_none none) = (refl, inr none)
  has_drained (takes {count = left} {rest = rest} {between = between} hints refreshed more) = record {
    left = left;
    rest = rest;
    between = between;
    fault = false;
    count_is = refl;
    hints_are = hints;
    is_refreshed = refreshed;
    goes_on = more;
  }
  has_drained (faults {count = left} {rest = rest} {after = after} hints refreshed) = record {
    left = left;
    rest = rest;
    between = after;
    fault = true;
    count_is = refl;
    hints_are = hints;
    is_refreshed = refreshed;
    goes_on = (refl, refl);
  }

-- the entries of steps that were made one after the other are the history's last ones
pub entries_made : (tag : Tag) (before after : List Entry) (steps : List CallStep) → AreStepsFrom tag before steps after →
    reverse after ≡ reverse before ++ map (λ step. step.entry) steps
entries_made tag before after [] made = ap reverse (sym made) ∙ sym (append-nil (reverse before))
entries_made tag before after (step ∷ steps) made =
    entries_made tag (step.entry ∷ before) after steps made.2
    ∙ ap (λ (entries : List Entry). entries ++ map (λ (s : CallStep). s.entry) steps) (reverse-append (step.entry ∷ []) before)
    ∙ append_assoc (reverse before) (step.entry ∷ []) (map (λ (s : CallStep). s.entry) steps)

-- steps after steps
pub steps_follow : (tag : Tag) (before between after : List Entry) (xs ys : List CallStep) → AreStepsFrom tag before xs between →
    AreStepsFrom tag between ys after → reverse after ≡ reverse before ++ map (λ step. step.entry) xs ++ map (λ step. step.entry) ys
steps_follow tag before between after xs ys first second =
    entries_made tag between after ys second
    ∙ ap (λ (entries : List Entry). entries ++ map (λ (s : CallStep). s.entry) ys) (entries_made tag before between xs first)
