-- The end of a turn keeps the rule of a lock: the slot comes back with a value that stands for the list as it was taken,
-- or for that list and one entry of the pass.
use Rattle.std.proofs.Common.{◌≡◌, ◌≢◌, ◌⊎◌, ℕ, suc, ◌+◌, ◌-◌, ◌%◌, ◌^◌, ◌<◌, ◌≤◌, List, [], ◌∷◌, ◌++◌, length, get_or, set, All, Option, None, Some, refl, sym, ap, ◌∙◌, subst, inl, inr, ⊎_elim, arith}
use Rattle.std.proofs.lemmas.List.Elements.{All-append, All-cons, All-nil}
use mathlib.Core.Option.{some, none, some-injective, some-ne-none}
use mathlib.Core.Option as slot
use lib.ListN.{get_elem?}
use Rattle.atomic_table.specs.Table.{Allows, State, gives, put_back, rest, step}
use Rattle.ssd_geo.specs.declared.entry.Entry.{Entry}
use Rattle.turn_table.specs.Kept.{AreApart, EachGoesOn, Fits, FitsStage, IsKept, Standing}
use Rattle.turn_table.specs.Passes.{GoesOn, Has, entries_by}
use Rattle.turn_table.specs.Steps.{Ends, Knower}
use Rattle.turn_table.specs.Views.{numbers_in}
use Rattle.turn_table.specs.declared.view.Stage.{Stage}
use Rattle.turn_table.specs.declared.view.Stage.TheVariants.{Away, Waiting, InTurn}
use Rattle.turn_table.specs.declared.view.View.{View}
use Rattle.turn_table.proofs.Lists.{by_snoc, goes_on_more, goes_on_self}
use Rattle.turn_table.proofs.Numbers.{has_at}
use Rattle.turn_table.proofs.Seats.{each_set, next_ticket}

-- a list is the history, or has one entry more, of this number
abbrev Grows : ℕ → List Entry → List Entry → Type 0
Grows number history list = (list ≡ history) ⊎ ((entry : Entry) × (entry.tag.actor ≡ number) × (list ≡ history ++ entry ∷ []))

-- a number other than the one that added has as many entries as before
same_entries : (number other : ℕ) (history list : List Entry) → Grows number history list → other ≢ number → entries_by other list ≡ entries_by other history
same_entries number other history list grows apart =
    ⊎_elim (λ (e : list ≡ history). ap (entries_by other) e)
    (λ (t : (entry : Entry) × (entry.tag.actor ≡ number) × (list ≡ history ++ entry ∷ [])).
    ap (entries_by other) t.2 ∙ by_snoc other history t.0 (λ e. apart (sym e ∙ t.1)))
    grows

-- a list that goes on from what was seen without the number goes on so
goes_on_grown : (numbers : List ℕ) (seen : List Entry) (number : ℕ) (history list : List Entry) → Grows number history list → GoesOn numbers seen history → (Has numbers number → ⊥) → GoesOn numbers seen list
goes_on_grown numbers seen number history list grows on other =
    ⊎_elim (λ (e : list ≡ history). subst (GoesOn numbers seen) (sym e) on)
    (λ (t : (entry : Entry) × (entry.tag.actor ≡ number) × (list ≡ history ++ entry ∷ [])).
    subst (GoesOn numbers seen) (sym t.2) (goes_on_more numbers seen history t.0 on (λ h. other (subst (Has numbers) t.1 h))))
    grows

actors_grown : (n number : ℕ) (history list : List Entry) → number < n → Grows number history list → All (λ entry. entry.tag.actor < n) history → All (λ entry. entry.tag.actor < n) list
actors_grown n number history list low grows all =
    let P : Entry → Type 0 = λ entry. entry.tag.actor < n in
    ⊎_elim (λ (e : list ≡ history). subst (All P) (sym e) all)
    (λ (t : (entry : Entry) × (entry.tag.actor ≡ number) × (list ≡ history ++ entry ∷ [])).
    let actor = t.1 in let one : P t.0 = omega arith in
    subst (All P) (sym t.2) (All-append P history (t.0 ∷ []) all (All-cons P t.0 [] one (All-nil P))))
    grows

-- the next ticket is served, and the list is the history
abbrev ended : Standing → List ℕ → List Entry → Standing
ended now queue list = record now { serving = now.serving + 1; queue = queue; history = list }

-- the view that is back, and has seen this list
abbrev back : List Entry → View → View
back list view = record view { seen = list; stage = Away }

module _ {V : Type 0} (now : Standing) (id number : ℕ) (queue : List ℕ) (list : List Entry) (front : now.queue ≡ number ∷ queue) (mine : now.seat_of number ≡ id) (low : number < now.passes) (grows : Grows number now.history list) where
  is_other : (seat : ℕ) (view : View) → seat ≢ id → Fits {V = V} now none seat view → Has (numbers_in view) number → ⊥
  is_other seat view other fits has = other (sym (fits.own number has low) ∙ mine)

  other_stage : (seat : ℕ) (view : View) (held : Option V) → (Has (numbers_in view) number → ⊥) → (stage : Stage) → FitsStage {V = V} now none view stage → FitsStage {V = V} (ended now queue list) (some held) view stage
  other_stage seat view held other Away away = λ h. away (subst (λ (q : List ℕ). Has q view.number) (sym front) (inr h))
  other_stage seat view held other (Waiting ticket) at =
      let place : get_elem? (number ∷ queue) (ticket - now.serving) ≡ some view.number = ap (λ q. get_elem? q (ticket - now.serving)) (sym front) ∙ at.1 in
      let later : ticket ≢ now.serving = λ (e : ticket ≡ now.serving).
      let none_between : ticket - now.serving ≡ 0 = omega (arith, e) in
      let first : get_elem? (number ∷ queue) 0 ≡ some view.number = subst (λ (n : ℕ). get_elem? (number ∷ queue) n ≡ some view.number) none_between place in
      other (inl (some-injective number view.number first)) in
      let least : now.serving ≤ ticket = at.0 in
      let index : ticket - now.serving ≡ suc (ticket - (now.serving + 1)) = omega arith in
      (omega arith, subst (λ (n : ℕ). get_elem? (number ∷ queue) n ≡ some view.number) index place)
  other_stage seat view held other InTurn at =
      absurd (other (inl (some-injective number view.number (ap (λ q. get_elem? q 0) (sym front) ∙ at.0))))

  other_fits : (held : Option V) (seat : ℕ) (view : View) → seat ≢ id → Fits {V = V} now none seat view → Fits {V = V} (ended now queue list) (some held) seat view
  other_fits held seat view other fits = record {
    numbered = fits.numbered;
    own = fits.own;
    gives_apart = fits.gives_apart;
    to_give = λ given has. let unused = fits.to_give given has in record {
      below = unused.below;
      seat_is = unused.seat_is;
      no_entry = same_entries number given now.history list grows (λ e. other (sym unused.seat_is ∙ (ap now.seat_of e ∙ mine))) ∙ unused.no_entry;
      not_own = unused.not_own;
      not_queued = λ h. unused.not_queued (subst (λ (q : List ℕ). Has q given) (sym front) (inr h));
    };
    goes_on = goes_on_grown (numbers_in view) view.seen number now.history list grows fits.goes_on (is_other seat view other fits);
    joined = fits.joined;
    stage = other_stage seat view held (is_other seat view other fits) view.stage fits.stage;
  }

own_fits : {V : Type 0} (now : Standing) (id : ℕ) (view : View) (queue : List ℕ) (list : List Entry) (held : Option V) → now.queue ≡ view.number ∷ queue → AreApart now.queue → view.joined ≡ [] → Grows view.number now.history list
    → Fits {V = V} now none id view → Fits {V = V} (ended now queue list) (some held) id (back list view)
own_fits now id view queue list held front apart alone grows fits = record {
  numbered = fits.numbered;
  own = fits.own;
  gives_apart = fits.gives_apart;
  to_give = λ given has. let unused = fits.to_give given has in record {
    below = unused.below;
    seat_is = unused.seat_is;
    no_entry = same_entries view.number given now.history list grows (λ e. unused.not_own (inl e)) ∙ unused.no_entry;
    not_own = unused.not_own;
    not_queued = λ h. unused.not_queued (subst (λ (q : List ℕ). Has q given) (sym front) (inr h));
  };
  goes_on = goes_on_self (numbers_in view) list;
  joined = subst (λ (parts : List _). EachGoesOn parts list) (sym alone) tt;
  stage = let two : AreApart (view.number ∷ queue) = subst AreApart front apart in two.0;
}

abbrev held_in : {V : Type 0} → List (ℕ × Option V) → Option V
held_in [] = None
held_in (x ∷ xs) = x.1

-- a slot that is held has one value
same_value : {V : Type 0} (one other : V) → Path (List (ℕ × Option V)) ((0, Some one) ∷ []) ((0, Some other) ∷ []) → one ≡ other
same_value {V} one other e =
    let options : Some one ≡ Some other = ap (λ (c : List (ℕ × Option V)). held_in c) e in cc

-- a queue with this number in front
front_of : (queue : List ℕ) (number : ℕ) → get_elem? queue 0 ≡ some number → (rest : List ℕ) × (queue ≡ number ∷ rest)
front_of [] number e = absurd (some-ne-none number (sym e))
front_of (x ∷ rest) number e = (rest, ap (λ y. y ∷ rest) (some-injective x number e))

module _ {V S : Type 0} (entries : V → List Entry) (start : V → S) (passes : ℕ) (begun : S) where
  abbrev Rule : State (Option V) View → Type 0
  Rule = IsKept entries start passes begun

  ended_words : (now : Standing) (number : ℕ) (queue : List ℕ) (words : List ℕ) → now.queue ≡ number ∷ queue → words ≡ ((now.serving + length now.queue) % 2 ^ 64) ∷ (now.serving % 2 ^ 64) ∷ []
      → set words 1 ((get_or words 1 0 + 1) % 2 ^ 64) ≡ (((now.serving + 1) + length queue) % 2 ^ 64) ∷ ((now.serving + 1) % 2 ^ 64) ∷ []
  ended_words now number queue words front is =
      let count = ap length front in
      let same : now.serving + length now.queue ≡ (now.serving + 1) + length queue = omega (arith, count) in
      ap (λ ws. set ws 1 ((get_or ws 1 0 + 1) % 2 ^ 64)) is
      ∙ (ap (λ n. (n % 2 ^ 64) ∷ ((now.serving % 2 ^ 64 + 1) % 2 ^ 64) ∷ []) same ∙ ap (λ n. (((now.serving + 1) + length queue) % 2 ^ 64) ∷ n ∷ []) (next_ticket now.serving))

  keeps_ended : (s : State (Option V) View) (k : Rule s) (id : ℕ) (view : View) (value : V) → get_elem? s.views id ≡ some view → view.stage ≡ InTurn → view.joined ≡ [] → start value ≡ begun → Grows view.number view.seen (entries value)
      → Rule record { words = set s.words 1 ((get_or s.words 1 0 + 1) % 2 ^ 64); homes = set s.homes 0 (some (Some value)); views = set s.views id (back (entries value) view) }
  keeps_ended s k id view value at turn alone begins grows =
      let fits = k.each_seat id view at in
      let in_turn : FitsStage k.now k.home view InTurn = subst (FitsStage k.now k.home view) turn fits.stage in
      let front = front_of k.now.queue view.number in_turn.0 in
      let below : view.number < passes = k.below view.number (has_at k.now.queue 0 view.number in_turn.0) in
      let low : view.number < k.now.passes = let count = k.count in omega arith in
      let mine : k.now.seat_of view.number ≡ id = fits.own view.number (inl refl) low in
      let grown : Grows view.number k.now.history (entries value) = subst (λ (l : List Entry). Grows view.number l (entries value)) (sym in_turn.1) grows in
      let known : (seat : ℕ) (other : View) → get_elem? s.views seat ≡ some other → Fits {V = V} k.now none seat other =
      λ seat other there. subst (λ (h : slot.Option (Option V)). Fits k.now h seat other) in_turn.2 (k.each_seat seat other there) in
      let apart : AreApart (view.number ∷ front.0) = subst AreApart front.1 k.apart in record {
        now = ended k.now front.0 (entries value);
        home = some (Some value);
        count = k.count;
        few = k.few;
        words = ended_words k.now view.number front.0 s.words front.1 k.words;
        homes = ap (λ (hs : List (slot.Option (Option V))). set hs 0 (some (Some value))) k.homes;
        apart = apart.1;
        below = λ n h. k.below n (subst (λ (q : List ℕ). Has q n) (sym front.1) (inr h));
        actors = actors_grown passes view.number k.now.history (entries value) below grown k.actors;
        at_home = (value, refl, refl, begins);
        each_seat = each_set (Fits {V = V} (ended k.now front.0 (entries value)) (some (Some value))) s.views id (back (entries value) view)
            (own_fits k.now id view front.0 (entries value) (Some value) front.1 k.apart alone grown (known id view at))
            (λ seat other there_not there. other_fits {V = V} k.now id view.number front.0 (entries value) front.1 mine low grown (Some value) seat other there_not (known seat other there));
      }

  pub ends : (slots id : ℕ) (me : Knower V) (value : V) → me.0.stage ≡ InTurn → me.0.joined ≡ [] → me.1 ≡ (0, Some value) ∷ [] → start value ≡ begun → Grows me.0.number me.0.seen (entries value)
      → Allows Rule slots id me 1 (λ n. (n + 1) % 2 ^ 64) (Ends entries (step slots 1 1 0 none) me)
  ends slots id me value turn alone holds begins grows s k _ at _ = (
    back (entries value) me.0,
    gives,
    tt,
    subst (λ (c : List (ℕ × Option V)). Rule record { words = set s.words 1 ((get_or s.words 1 0 + 1) % 2 ^ 64); homes = put_back s.homes c; views = set s.views id (back (entries value) me.0) }) (sym holds)
        (keeps_ended s k id me.0 value at turn alone begins grows),
    λ (other : V) (is : me.1 ≡ (0, Some other) ∷ []).
        let same : other ≡ value = same_value other value (sym is ∙ holds) in
        λ i. (back (entries (sym same i)) me.0, rest (holds i)),
  )
