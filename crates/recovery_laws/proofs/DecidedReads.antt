-- What decides the reply of a read that found a page: neither its look nor the senses, but what stands behind these.
use Rattle.std.proofs.Common.{◌≡◌, ℕ, ◌==◌, true, List, [], ◌∷◌, ◌++◌, refl, ap, sym, ◌∙◌, Option, Some, None, append_assoc, arith}
use Rattle.std.specs.List.{list_all}
use Rattle.std.proofs.lemmas.Bool.{and_parts}
use Rattle.std.proofs.lemmas.Bool.Decides.{nat_tests}
use Rattle.ssd_geo.specs.Ladder.{LadderState}
use Rattle.ssd_geo.specs.declared.entry.Entry.{Entry}
use Rattle.ssd_geo.specs.declared.kind.Kind.{Kind}
use Rattle.ssd_geo.specs.declared.reply.Reply.{Reply}
use Rattle.ssd_geo.specs.declared.row.Row.{Row}
use Rattle.ssd_histories.specs.CallSteps.{CallStep, is_leave_of, is_look_of_page, is_sense_of, position_of}
use Rattle.ssd_histories.specs.Copies.{IsLookList}
use Rattle.ssd_histories.specs.Replies.{first_reply, read_decided, read_reply}

sense_undecided : (count : ℕ) (ladder : List Entry → ℕ → LadderState) (past : List Entry) (at : ℕ) (kind : Kind) → is_sense_of at kind ≡ true →
    read_decided count ladder past kind ≡ None
sense_undecided count ladder past at (Kind.Sense named place level) is = refl
sense_undecided count ladder past at kind is = absurd (cc)

look_undecided : (count : ℕ) (ladder : List Entry → ℕ → LadderState) (past : List Entry) (kind : Kind) → is_look_of_page kind ≡ true →
    read_decided count ladder past kind ≡ None
look_undecided count ladder past (Kind.Look row (Row.Page slot serial) closed) is = refl
look_undecided count ladder past kind is = absurd (cc)

-- a leave of the look that began at a position
pub leave_is : (at : ℕ) (kind : Kind) → is_leave_of at kind ≡ true → kind ≡ Kind.Leave at
leave_is at (Kind.Leave named) is = ap Kind.Leave (same named is)
  where
    same : (n : ℕ) → (n == at) ≡ true → n ≡ at
    same n e = grind (arith, nat_tests)
leave_is at kind is = absurd (cc)

-- the reply of the first step that decides, past steps that don't
decided_next : {R : Type 0} (decided : CallStep → Option R) (step : CallStep) (steps : List CallStep) → decided step ≡ None →
    first_reply decided (step ∷ steps) ≡ first_reply decided steps
decided_next decided step steps none = by_option (decided step) none
  where
    by_option : {R : Type 0} (option : Option R) {rest : Option R} → option ≡ None → ◌≡◌ {A = Option R} (elim option [ Some reply ↦ Some reply | None ↦ rest ]) rest
    by_option option none = rw none refl

module _ (count : ℕ) (ladder : List Entry → ℕ → LadderState) where
  abbrev pub decided : CallStep → Option Reply
  decided step = read_decided count ladder step.past step.entry.kind

  past_senses : (at : ℕ) (senses ending : List CallStep) → list_all (λ step. is_sense_of at step.entry.kind) senses ≡ true →
      first_reply decided (senses ++ ending) ≡ first_reply decided ending
  past_senses at [] ending are = refl
  past_senses at (sense ∷ senses) ending are =
      let parts = and_parts (is_sense_of at sense.entry.kind) (list_all (λ step. is_sense_of at step.entry.kind) senses) are in
      decided_next decided sense (senses ++ ending) (sense_undecided count ladder sense.past at sense.entry.kind parts.0)
      ∙ past_senses at senses ending parts.1

  pub reply_behind : (reply : Reply) (steps : List CallStep) (look : CallStep) (ending : List CallStep) (leave : CallStep) → IsLookList steps look ending leave →
      read_reply count ladder steps ≡ Some reply → first_reply decided (ending ++ leave ∷ []) ≡ Some reply
  reply_behind reply steps look ending leave list replies =
      sym (decided_next decided look (list.senses ++ rest) (look_undecided count ladder look.past look.entry.kind list.finds_page)
      ∙ past_senses (position_of look) list.senses rest list.are_senses)
      ∙ ap (first_reply decided) (sym are_steps) ∙ replies
    where
      rest : List CallStep
      rest = ending ++ leave ∷ []

      are_steps : steps ≡ look ∷ (list.senses ++ rest)
      are_steps = list.are_steps ∙ ap (λ (others : List CallStep). look ∷ others) (append_assoc list.senses ending (leave ∷ []))
