-- How many open looks has a call? As many as it had before, with one more for each look of a page that it made since and one
-- fewer for each leave: in a lawful past no other call opens or leaves a look of it.
use Rattle.std.proofs.Common.{◌≡◌, ℕ, ◌+◌, cond, not, Bool, true, false, List, [], ◌∷◌, ◌++◌, length, Option, Some, None, refl, sym, subst, ◌∙◌, ap, arith}
use Rattle.std.specs.Prelude.{All, IsSomeAnd, count_by}
use Rattle.std.specs.List.{list_all}
use Rattle.std.proofs.lemmas.List.Elements.{All-head, All-tail}
use Rattle.std.proofs.lemmas.List.Sums.{sum_by-append, sum_by-cons}
use Rattle.ssd_geo.specs.Ladder.{LadderState}
use Rattle.ssd_geo.specs.declared.base.ChannelBase.{ChannelBase}
use Rattle.ssd_geo.specs.declared.entry.Entry.{Entry}
use Rattle.ssd_geo.specs.declared.kind.Kind.{Kind}
use Rattle.ssd_geo.specs.declared.look.Look.{Look}
use Rattle.ssd_geo.specs.declared.row.Row.{Row}
use Rattle.ssd_geo.specs.declared.tag.Tag.{Tag}
use Rattle.ssd_histories.specs.CallSteps.{CallStep, is_look_of_page}
use Rattle.ssd_histories.specs.History.{is_same_tag, look_by, open_looks}
use Rattle.ssd_histories.specs.Lawful.{IsLawfulBy, IsLawfulKind, IsLawfulLeave}
use Rattle.ssd_histories.specs.OpenLooks.{began_at, look_at, without_look}
use Rattle.ssd_histories.specs.SerialCalls.{entry_of}
use Rattle.serial_laws.proofs.LookLists.{by_kind}
use Rattle.calls_among_others.specs.StepsAmong.{AreStepsAmong, HasCome}
use Rattle.calls_among_others.proofs.AmongSteps.{IsOfOther, lawful_among}
use Rattle.std.proofs.lemmas.Bool.{false_from_ne_true}
use Rattle.ssd_histories.proofs.SameTags.{same_parts, same_tag, one_tag}

-- whether an entry leaves a look
abbrev pub is_leave : Kind → Bool
is_leave (Kind.Leave at) = true
is_leave _ = false

module _ (tag : Tag) where
  abbrev is_own : Tag × Look → Bool
  is_own pin = is_same_tag tag pin.0

  abbrev one_if : Bool → ℕ
  one_if b = cond b 1 0

  abbrev own_of : List (Tag × Look) → ℕ
  own_of looks = count_by is_own looks

  -- how many open looks the call has
  abbrev pub own_open : List Entry → ℕ
  own_open past = own_of (open_looks past)

  left_count : (P : Look → Type 0) (looks : List (Tag × Look)) (other : Tag) (named : ℕ) →
      IsSomeAnd (look_by other (look_at looks named)) P →
      own_of (without_look looks named) + one_if (is_same_tag tag other) ≡ own_of looks
  left_count P [] other named opened = absurd opened
  left_count P (pin ∷ looks) other named opened =
      by_test (began_at named pin) opened (left_count P looks other named)
    where
      whole : own_of (pin ∷ looks) ≡ one_if (is_own pin) + own_of looks
      whole = sum_by-cons (λ (p : Tag × Look). cond (is_own p) 1 0) pin looks

      of_same : (b : Bool) → is_same_tag other pin.0 ≡ b →
          IsSomeAnd (elim b as (λ (b : Bool). Option Look) [ true ↦ Some pin.1 | false ↦ None ]) P →
          one_if (is_same_tag tag other) ≡ one_if (is_own pin)
      of_same true same found = ap (λ (t : Tag). one_if (is_same_tag tag t)) (one_tag other pin.0 same)
      of_same false same found = absurd found

      by_test : (b : Bool) → IsSomeAnd (look_by other (cond b (Some pin) (look_at looks named))) P →
          (IsSomeAnd (look_by other (look_at looks named)) P →
          own_of (without_look looks named) + one_if (is_same_tag tag other) ≡ own_of looks) →
          own_of (cond b looks (pin ∷ without_look looks named)) + one_if (is_same_tag tag other) ≡ own_of (pin ∷ looks)
      by_test true found rest =
          let one = of_same (is_same_tag other pin.0) refl found in omega (arith, whole, one)
      by_test false found rest =
          let fewer : own_of (pin ∷ without_look looks named) ≡ one_if (is_own pin) + own_of (without_look looks named) =
          sum_by-cons (λ (p : Tag × Look). cond (is_own p) 1 0) pin (without_look looks named) in
          let later = rest found in
          omega (arith, whole, fewer, later)

  -- one more entry
  step_count : (ladder : ℕ → LadderState) (base : ChannelBase) (past : List Entry) (other : Tag) (kind : Kind) →
      IsLawfulKind ladder base past other kind →
      own_open (entry_of other kind ∷ past) + cond (is_leave kind) (one_if (is_same_tag tag other)) 0
      ≡ own_open past + cond (is_look_of_page kind) (one_if (is_same_tag tag other)) 0
  step_count ladder base past other (Kind.Leave named) meets =
      let left = left_count (λ look. IsLawfulLeave (ladder named) past named) (open_looks past) other named meets in
      omega (arith, left)
  step_count ladder base past other (Kind.Look row (Row.Page slot serial) closed) meets =
      let pin : Tag × Look = (
        other,
        record {
          at = length past;
          row = row;
          slot = slot;
          serial = serial;
          closed = closed;
        },
      ) in
      let both : own_of (open_looks past ++ pin ∷ []) ≡ own_open past + own_of (pin ∷ []) =
      sum_by-append (λ (p : Tag × Look). cond (is_own p) 1 0) (open_looks past) (pin ∷ []) in
      let one : own_of (pin ∷ []) ≡ one_if (is_same_tag tag other) + 0 =
      sum_by-cons (λ (p : Tag × Look). cond (is_own p) 1 0) pin [] in
      omega (arith, both, one)
  step_count ladder base past other (Kind.Look row Row.Empty closed) meets = refl
  step_count ladder base past other (Kind.Look row Row.Lost closed) meets = refl
  step_count ladder base past other kind meets = refl

  module _ (ladder : List Entry → ℕ → LadderState) (base : ChannelBase) where
    other_none : (entry : Entry) → IsOfOther tag.actor entry → one_if (is_same_tag tag entry.tag) ≡ 0
    other_none entry other =
        ap one_if
        (false_from_ne_true (is_same_tag tag entry.tag) (λ same. other (sym (same_parts tag entry.tag same).0)))

    none_if : (b : Bool) (n : ℕ) → n ≡ 0 → cond b n 0 ≡ 0
    none_if true n e = e
    none_if false n e = refl

    others_count : (others before : List Entry) → All (IsOfOther tag.actor) others →
        IsLawfulBy ladder base (others ++ before) → own_open (others ++ before) ≡ own_open before
    others_count [] before all lawful = refl
    others_count (entry ∷ others) before all lawful =
        let none = other_none entry (All-head (IsOfOther tag.actor) entry others all) in
        let step = step_count (ladder (others ++ before)) base (others ++ before) entry.tag entry.kind lawful.1.meets in
        let left = none_if (is_leave entry.kind) (one_if (is_same_tag tag entry.tag)) none in
        let made = none_if (is_look_of_page entry.kind) (one_if (is_same_tag tag entry.tag)) none in
        let rest = others_count others before (All-tail (IsOfOther tag.actor) entry others all) lawful.0 in
        omega (arith, step, left, made, rest)

    came_count : (before after : List Entry) → HasCome tag.actor before after → IsLawfulBy ladder base after →
        own_open after ≡ own_open before
    came_count before after came lawful =
        ap own_open came.after_is
        ∙ others_count came.others before came.of_others (subst (IsLawfulBy ladder base) came.after_is lawful)

    own_one : (b : Bool) (entry : Entry) → entry.tag ≡ tag → cond b (one_if (is_same_tag tag entry.tag)) 0 ≡ one_if b
    own_one true entry own = ap one_if (ap (is_same_tag tag) own ∙ same_tag tag)
    own_one false entry own = refl

    pub counts_among : (before after : List Entry) (steps : List CallStep) → AreStepsAmong tag before steps after →
        IsLawfulBy ladder base after →
        own_open after + count_by (by_kind is_leave) steps ≡ own_open before + count_by (by_kind is_look_of_page) steps
    counts_among before after [] came lawful = let same = came_count before after came lawful in omega (arith, same)
    counts_among before after (step ∷ steps) made lawful =
        let here : IsLawfulBy ladder base (step.entry ∷ step.past) =
        lawful_among ladder base tag (step.entry ∷ step.past) after steps made.2 lawful in
        let came = came_count before step.past made.0 here.0 in
        let one = step_count (ladder step.past) base step.past step.entry.tag step.entry.kind here.1.meets in
        let left_one = own_one (is_leave step.entry.kind) step.entry made.1 in
        let made_one = own_one (is_look_of_page step.entry.kind) step.entry made.1 in
        let rest = counts_among (step.entry ∷ step.past) after steps made.2 lawful in
        let leaves = sum_by-cons (λ (x : CallStep). cond (is_leave x.entry.kind) 1 0) step steps in
        let looks = sum_by-cons (λ (x : CallStep). cond (is_look_of_page x.entry.kind) 1 0) step steps in
        omega (arith, came, one, left_one, made_one, rest, leaves, looks)

  -- a call without open looks has left them all
  pub none_open : (looks : List (Tag × Look)) → count_by is_own looks ≡ 0 → list_all (λ pin. not (is_own pin)) looks ≡ true
  none_open [] none = refl
  none_open (pin ∷ looks) none = by_test (is_own pin) refl (none_open looks)
    where
      whole : own_of (pin ∷ looks) ≡ one_if (is_own pin) + own_of looks
      whole = sum_by-cons (λ (p : Tag × Look). cond (is_own p) 1 0) pin looks

      by_test : (b : Bool) → is_own pin ≡ b → (own_of looks ≡ 0 → list_all (λ pin. not (is_own pin)) looks ≡ true) →
          list_all (λ pin. not (is_own pin)) (pin ∷ looks) ≡ true
      by_test true is rest =
          let one : one_if (is_own pin) ≡ 1 = ap one_if is in
          absurd (omega (arith, whole, one, none))
      by_test false is rest =
          let zero : one_if (is_own pin) ≡ 0 = ap one_if is in
          rw is (rest (omega (arith, whole, zero, none)))
