-- The replies of reads: the proofs of the laws of specs/ReadReplies.antt.
use Rattle.std.proofs.Common.{◌≡◌, ℕ, suc, ◌+◌, ◌<◌, ◌==◌, ◌&&◌, ◌||◌, nat_eq, slice_range, Bool, true, false, List, [], ◌∷◌, ◌++◌, length, refl, ap, sym, subst, ◌∙◌, Option, Some, None, inl, inr, append_assoc, arith, All}
use Rattle.std.specs.Prelude.{ℤ, IsSomeAnd, if◌then◌else◌, unwrap_or}
use Rattle.std.specs.List.{starts_with}
use Rattle.std.specs.Option.{ForSome}
use Rattle.std.proofs.lemmas.Bool.{and_parts}
use Rattle.std.proofs.lemmas.Bool.Decides.{nat_tests}
use Rattle.std.proofs.lemmas.List.Elements.{All-nil, All-cons, All-head, All-tail}
use Rattle.ssd_geo.specs.Coding.{Coding, coding_of}
use Rattle.ssd_geo.specs.Ladder.{LadderState, asks, recovered, uncorrectable, has_answer}
use Rattle.ssd_geo.specs.Limits.{payload_bytes_of}
use Rattle.ssd_geo.specs.Shape.{sizes_of}
use Rattle.ssd_geo.specs.PageHead.{are_zeros, data_of_word, head_of_page}
use Rattle.ssd_geo.specs.declared.entry.Entry.{Entry}
use Rattle.ssd_geo.specs.declared.kind.Kind.{Kind}
use Rattle.ssd_geo.specs.declared.look.Look.{Look}
use Rattle.ssd_geo.specs.declared.place.Place.{Place}
use Rattle.ssd_geo.specs.declared.reply.Reply.{Reply}
use Rattle.ssd_geo.specs.declared.row.Row.{Row}
use Rattle.ssd_geo.specs.declared.tag.Tag.{Tag}
use Rattle.ssd_histories.specs.CallSteps.{CallStep, is_leave_of, is_look_at_row, is_look_of_none, is_sense_of, position_of}
use Rattle.ssd_histories.specs.CallsInOrder.{ChannelRun, ladder_in, steps_on}
use Rattle.ssd_histories.specs.Copies.{IsPageList, IsRead, is_lone_look, is_read_end}
use Rattle.ssd_histories.specs.History.{look_made, look_of}
use Rattle.ssd_histories.specs.LastWrites.{GivesLastWrite, GivesPlain}
use Rattle.ssd_histories.specs.Lawful.{IsLawfulKind, IsLawfulLeave, IsLawfulSense, has_fault_sense, is_fault_sense_of}
use Rattle.ssd_histories.specs.PastPages.{ladder_of, senses_of}
use Rattle.ssd_histories.specs.PlainMap.{HasRecovered, PlainRow, bytes, nothing, past_at, plain_of, untold, word_looked_at}
use Rattle.ssd_histories.specs.Replies.{bytes_of_word, first_reply, read_decided, read_reply, reply_of_ladder}
use Rattle.ssd_histories.proofs.UsedSlots.{made}
use Rattle.recovery_laws.specs.ReadReplies.{IsWrittenRun, ReadsGiveLastWrites}
use Rattle.recovery_laws.specs.RecoveredReads.{IsWordOf}
use Rattle.recovery_laws.proofs.DecidedReads.{decided, leave_is, reply_behind}
use Rattle.recovery_laws.proofs.LookLists.{each_of_end, each_of_look}
use Rattle.recovery_laws.proofs.Pasts.{StepLook, look_is_made_at, step_look}
use Rattle.recovery_laws.proofs.RecoveredReads.{recovered_reads_are_plain}
use Rattle.recovery_laws.proofs.SettledLadders.{IsSettled, ladder_stays, ladder_unsensed}
use Rattle.recovery_laws.proofs.StepParts.{IsPart, steps_are_parts}

-- what a test lets through
only_given : (passes : Bool) (xs ys : List ℕ) → (if passes then Some xs else None) ≡ Some ys → xs ≡ ys
only_given true xs ys is = ap {B = List ℕ} (λ (option : Option (List ℕ)). unwrap_or option xs) is
only_given false xs ys is = absurd (cc)

-- the data bytes of a word that has them stand behind its head
pub bytes_given : (payload_length data_length serial row : ℕ) (word data_bytes : List ℕ) → data_of_word payload_length data_length serial row word ≡ Some data_bytes →
    bytes_of_word data_length word ≡ data_bytes
bytes_given payload_length data_length serial row word data_bytes is =
    only_given (starts_with nat_eq word (head_of_page serial row) && are_zeros (slice_range word (16 + data_length) payload_length)) (slice_range word 16 (16 + data_length)) data_bytes is

-- kinds of steps that make no look
sense_makes_none : (at position : ℕ) (kind : Kind) → is_sense_of at kind ≡ true → look_made position kind ≡ None
sense_makes_none at position (Kind.Sense named place level) is = refl
sense_makes_none at position kind is = absurd (cc)

fault_makes_none : (at position : ℕ) (kind : Kind) → is_fault_sense_of at kind ≡ true → look_made position kind ≡ None
fault_makes_none at position (Kind.FaultSense named place level) is = refl
fault_makes_none at position kind is = absurd (cc)

none_makes_none : (position : ℕ) (kind : Kind) → is_look_of_none kind ≡ true → look_made position kind ≡ None
none_makes_none position (Kind.Look row Row.Empty closed) is = refl
none_makes_none position (Kind.Look row Row.Lost closed) is = refl
none_makes_none position kind is = absurd (cc)

-- a fact of the look of a step that makes none
of_none : (option : Option Look) (Fact : Look → Type 0) → option ≡ None → ForSome option Fact
of_none option Fact none = λ look is. absurd (cc)

-- a ladder that recovered a page
pub record Recovery (state : LadderState) : Type 0 where
  pub rung : ℕ
  pub word : List ℕ
  pub is : state ≡ recovered rung word

recovery_of : (state : LadderState) (stood : Option (List ℕ)) → HasRecovered state stood → Recovery state
recovery_of (asks place level) stood has = absurd has
recovery_of (recovered rung word) stood has = record { rung = rung; word = word; is = refl }
recovery_of uncorrectable stood has = absurd has

-- A look of a channel whose past is lawful, and the steps of its read after it.
module _ (contents : List (Tag × List ℕ)) (run : ChannelRun) (written : IsWrittenRun contents run) where
  abbrev coding : Coding
  coding = coding_of run.start.base

  abbrev ladder : List Entry → ℕ → LadderState
  ladder = ladder_in contents run

  abbrev Part : CallStep → Type 0
  Part = IsPart (ladder_in contents run) run.start.base run.past

  -- what a settled ladder had come to at a step, it has come to
  stays_from : (step : CallStep) (at : ℕ) → Part step → at < length step.past → IsSettled coding run.start contents step.past at →
      ladder_of coding run.start contents run.past at ≡ ladder_of coding run.start contents step.past at
  stays_from step at part below settled =
      ladder_stays coding run.start contents run.past (position_of step) at written.is_lawful
      (subst (λ (before : List Entry). at < length before) (sym part.before) below)
      (subst (λ (before : List Entry). IsSettled coding run.start contents before at) (sym part.before) settled)
      ∙ ap (λ (before : List Entry). ladder_of coding run.start contents before at) part.before

  -- as when the look is left
  stays_from_leave : (leave : CallStep) (at : ℕ) → Part leave → leave.entry.kind ≡ Kind.Leave at →
      ladder_of coding run.start contents run.past at ≡ ladder_of coding run.start contents leave.past at
  stays_from_leave leave at part is =
      let step : StepLook leave.past at (λ pin. Unit {0}) (λ look. IsLawfulLeave (ladder_of coding run.start contents leave.past at) leave.past at) =
      step_look leave.past leave.entry.tag at (λ pin. Unit {0}) (λ look. IsLawfulLeave (ladder_of coding run.start contents leave.past at) leave.past at)
      (λ k d within. tt) (subst (IsLawfulKind (ladder_of coding run.start contents leave.past) run.start.base leave.past leave.entry.tag) is part.is_lawful) in
      stays_from leave at part (look_is_made_at leave.past at step.pin.1 step.is_look).below step.fact

  -- a ladder that asked for a sense that failed
  pub record IsAsking (step : CallStep) (at : ℕ) (kind : Kind) : Type 0 where
    pub place : Place
    pub level : ℤ
    pub below : at < length step.past
    pub asks_for : ladder_of coding run.start contents step.past at ≡ asks place level
    pub adds_none : senses_of coding run.start contents (made step.entry.tag kind ∷ step.past) at ≡ senses_of coding run.start contents step.past at

  asking : (step : CallStep) (at : ℕ) (kind : Kind) → IsLawfulKind (ladder_of coding run.start contents step.past) run.start.base step.past step.entry.tag kind →
      is_fault_sense_of at kind ≡ true → IsAsking step at kind
  asking step at (Kind.FaultSense named place level) c fault =
      let open_step : StepLook step.past named (λ pin. Unit {0}) (λ look. IsLawfulSense (ladder_of coding run.start contents step.past named) step.past named place level) =
      step_look step.past step.entry.tag named (λ pin. Unit {0}) (λ look. IsLawfulSense (ladder_of coding run.start contents step.past named) step.past named place level)
      (λ k d within. tt) c in
      record {
        place = place;
        level = level;
        below = subst (λ (n : ℕ). n < length step.past) (same named fault) (look_is_made_at step.past named open_step.pin.1 open_step.is_look).below;
        asks_for = subst (λ (n : ℕ). ladder_of coding run.start contents step.past n ≡ asks place level) (same named fault) open_step.fact.is_asked;
        adds_none = refl;
      }
    where
      same : (n : ℕ) → (n == at) ≡ true → n ≡ at
      same n e = grind (arith, nat_tests)
  asking step at kind c fault = absurd (cc)

  -- asks for it still
  asks_still : (step : CallStep) (at : ℕ) → Part step → is_fault_sense_of at step.entry.kind ≡ true → Recovery (ladder_of coding run.start contents run.past at) → ⊥
  asks_still step at part fault recovery = never (ladder_of coding run.start contents run.past at) asked.place asked.level recovery.rung recovery.word now recovery.is
    where
      asked : IsAsking step at step.entry.kind
      asked = asking step at step.entry.kind part.is_lawful fault

      either : (a b c : Bool) → b ≡ true → (a || (b || c)) ≡ true
      either true b c e = refl
      either false true c e = refl
      either false false c e = absurd (grind arith)

      until : List Entry
      until = step.entry ∷ step.past

      settled : IsSettled coding run.start contents until at
      settled = either (has_answer (ladder_of coding run.start contents until at)) (is_fault_sense_of at step.entry.kind) (has_fault_sense step.past at) fault

      one_more : (n : ℕ) → at < n → at < suc n
      one_more n lt = omega arith

      now : ladder_of coding run.start contents run.past at ≡ asks asked.place asked.level
      now =
          ladder_stays coding run.start contents run.past (suc (position_of step)) at written.is_lawful
          (subst (λ (before : List Entry). at < length before) (sym part.until) (one_more (length step.past) asked.below))
          (subst (λ (before : List Entry). IsSettled coding run.start contents before at) (sym part.until) settled)
          ∙ ap (λ (before : List Entry). ladder_of coding run.start contents before at) part.until
          ∙ ladder_unsensed coding run.start contents step.past step.entry.tag step.entry.kind at asked.below asked.adds_none
          ∙ asked.asks_for

      never : (state : LadderState) (place : Place) (level : ℤ) (rung : ℕ) (word : List ℕ) → state ≡ asks place level → state ≡ recovered rung word → ⊥
      never state place level rung word e f = absurd (cc)

  -- the read's look, its reply and the steps after the look
  module _ (at : ℕ) (reply : Reply) where
    abbrev Gives : CallStep → Type 0
    Gives step = ForSome (look_made (position_of step) step.entry.kind) (GivesLastWrite contents run reply)

    abbrev decides : CallStep → Option Reply
    decides = decided run.start.base.shape.bytes (ladder_in contents run)

    parts_past_senses : (senses ending : List CallStep) → All Part (senses ++ ending) → All Part ending
    parts_past_senses [] ending parts = parts
    parts_past_senses (sense ∷ senses) ending parts = parts_past_senses senses ending (All-tail Part sense (senses ++ ending) parts)

    -- a read that ends with an answer of the ladder
    answered : (leave : CallStep) → Part leave → leave.entry.kind ≡ Kind.Leave at → first_reply decides (leave ∷ []) ≡ Some reply →
        (recovery : Recovery (ladder_of coding run.start contents run.past at)) →
        Reply.Data recovery.rung (bytes_of_word run.start.base.shape.bytes recovery.word) ≡ reply
    answered leave part is replies recovery =
        same_reply (Reply.Data recovery.rung (bytes_of_word run.start.base.shape.bytes recovery.word))
        (sym (by_option (decides leave) _ here) ∙ replies)
      where
        here : decides leave ≡ Some (Reply.Data recovery.rung (bytes_of_word run.start.base.shape.bytes recovery.word))
        here =
            ap (read_decided run.start.base.shape.bytes (ladder_in contents run) leave.past) is
            ∙ ap (reply_of_ladder run.start.base.shape.bytes) (sym (stays_from_leave leave at part is) ∙ recovery.is)

        by_option : (option : Option Reply) (given : Reply) → option ≡ Some given →
            ◌≡◌ {A = Option Reply} (elim option [ Some one ↦ Some one | None ↦ None ]) (Some given)
        by_option option given e = rw e refl

        same_reply : (given : Reply) → Some given ≡ Some reply → given ≡ reply
        same_reply given e = ap {B = Reply} (λ (option : Option Reply). unwrap_or option given) e

    -- so the reply is the data of the recovered word, whatever stood between the senses and the leave
    ended : (ending : List CallStep) (leave : CallStep) → All Part (ending ++ leave ∷ []) → is_leave_of at leave.entry.kind ≡ true →
        is_read_end (ladder_in contents run) at ending leave ≡ true → first_reply decides (ending ++ leave ∷ []) ≡ Some reply →
        (recovery : Recovery (ladder_of coding run.start contents run.past at)) →
        Reply.Data recovery.rung (bytes_of_word run.start.base.shape.bytes recovery.word) ≡ reply
    ended [] leave parts is_leave ends replies recovery =
        answered leave (All-head Part leave [] parts) (leave_is at leave.entry.kind is_leave) replies recovery
    ended (step ∷ []) leave parts is_leave ends replies recovery =
        absurd (asks_still step at (All-head Part step (leave ∷ []) parts) ends recovery)
    ended (step ∷ next ∷ steps) leave parts is_leave ends replies recovery = absurd (grind arith)

  -- the word of a look that was recovered has what its row held
  look_gives : (look : Look) (reply : Reply) → look_of run.past look.at ≡ Some look →
      ((recovery : Recovery (ladder_of coding run.start contents run.past look.at)) →
      Reply.Data recovery.rung (bytes_of_word run.start.base.shape.bytes recovery.word) ≡ reply) → GivesLastWrite contents run reply look
  look_gives look reply is replies copies = by_plain (plain_of run.start.base contents (past_at run.past look.at) look.row) refl
    where
      recovery : Recovery (ladder_of coding run.start contents run.past look.at)
      recovery =
          recovery_of (ladder_of coding run.start contents run.past look.at) (word_looked_at coding run.start contents run.past look)
          (subst (λ (option : Option Look). IsSomeAnd option
          (λ held. HasRecovered (ladder_of coding run.start contents run.past look.at) (word_looked_at coding run.start contents run.past held))) is copies.own)

      by_plain : (plain : PlainRow) → plain_of run.start.base contents (past_at run.past look.at) look.row ≡ plain → GivesPlain plain reply
      by_plain nothing e = tt
      by_plain untold e = tt
      by_plain (bytes data_bytes) e =
          let word_of : IsWordOf run.start.base look data_bytes recovery.word =
          recovered_reads_are_plain run.start contents run.past look recovery.rung recovery.word data_bytes written is copies recovery.is e in
          subst (GivesPlain (bytes data_bytes)) (replies recovery)
          (bytes_given (payload_bytes_of (sizes_of run.start.base.shape)) run.start.base.shape.bytes look.serial look.row
          recovery.word data_bytes word_of.has_data)

  -- all steps of a read
  page_gives : (row : ℕ) (reply : Reply) (steps : List CallStep) → All Part steps → IsPageList row (is_read_end (ladder_in contents run)) steps →
      read_reply run.start.base.shape.bytes (ladder_in contents run) steps ≡ Some reply →
      All (λ step. ForSome (look_made (position_of step) step.entry.kind) (GivesLastWrite contents run reply)) steps
  page_gives row reply steps parts list replies =
      each_of_look (Gives at reply) steps look ending leave list.is_list own_gives
      (λ step is. others_give step (sense_makes_none at (position_of step) step.entry.kind is))
      (each_of_end (Gives at reply) (ladder_in contents run) at ending leave
      (λ step is. others_give step (fault_makes_none at (position_of step) step.entry.kind is)) list.ends)
      (others_give leave (ap (look_made (position_of leave)) (leave_is at leave.entry.kind list.is_list.is_left)))
    where
      open list use {look, ending, leave}
      open list.is_list use {senses}

      at : ℕ
      at = position_of look

      rest : List CallStep
      rest = ending ++ leave ∷ []

      are_steps : steps ≡ look ∷ (senses ++ rest)
      are_steps = list.is_list.are_steps ∙ ap (λ (others : List CallStep). look ∷ others) (append_assoc senses ending (leave ∷ []))

      parts_here : All Part (look ∷ (senses ++ rest))
      parts_here = subst (All Part) are_steps parts

      own : Part look
      own = All-head Part look (senses ++ rest) parts_here

      rest_replies : first_reply (decides at reply) rest ≡ Some reply
      rest_replies = reply_behind run.start.base.shape.bytes (ladder_in contents run) reply steps look ending leave list.is_list replies

      own_gives : (made_look : Look) → look_made at look.entry.kind ≡ Some made_look → GivesLastWrite contents run reply made_look
      own_gives made_look is =
          let found : look_of run.past at ≡ Some made_look = own.look ∙ is in
          let here : made_look.at ≡ at = (look_is_made_at run.past at made_look found).is_at in
          look_gives made_look reply (ap (look_of run.past) here ∙ found)
          (subst (λ (position : ℕ). (recovery : Recovery (ladder_of coding run.start contents run.past position)) →
          Reply.Data recovery.rung (bytes_of_word run.start.base.shape.bytes recovery.word) ≡ reply) (sym here)
          (ended at reply ending leave (parts_past_senses at reply senses rest (All-tail Part look (senses ++ rest) parts_here)) list.is_list.is_left list.ends rest_replies))

      others_give : (step : CallStep) → look_made (position_of step) step.entry.kind ≡ None → Gives at reply step
      others_give step none = of_none (look_made (position_of step) step.entry.kind) (GivesLastWrite contents run reply) none

  lone_gives : (row : ℕ) (reply : Reply) (steps : List CallStep) → is_lone_look row steps ≡ true →
      All (λ step. ForSome (look_made (position_of step) step.entry.kind) (GivesLastWrite contents run reply)) steps
  lone_gives row reply [] lone = absurd (grind arith)
  lone_gives row reply (step ∷ []) lone =
      All-cons (λ (step : CallStep). ForSome (look_made (position_of step) step.entry.kind) (GivesLastWrite contents run reply)) step []
      (of_none (look_made (position_of step) step.entry.kind) (GivesLastWrite contents run reply)
      (none_makes_none (position_of step) step.entry.kind (and_parts (is_look_of_none step.entry.kind) (is_look_at_row row step.entry.kind) lone).0))
      (All-nil (λ (step : CallStep). ForSome (look_made (position_of step) step.entry.kind) (GivesLastWrite contents run reply)))
  lone_gives row reply (step ∷ next ∷ steps) lone = absurd (grind arith)

  read_gives : (row : ℕ) (reply : Reply) (steps : List CallStep) → All Part steps → IsRead (ladder_in contents run) row steps →
      read_reply run.start.base.shape.bytes (ladder_in contents run) steps ≡ Some reply →
      All (λ step. ForSome (look_made (position_of step) step.entry.kind) (GivesLastWrite contents run reply)) steps
  read_gives row reply steps parts (inl lone) replies = lone_gives row reply steps lone
  read_gives row reply steps parts (inr list) replies = page_gives row reply steps parts list replies

pub reads_give_last_writes : ReadsGiveLastWrites
reads_give_last_writes contents run tag row reply written is_read replies =
    read_gives contents run written row reply (steps_on tag run)
    (steps_are_parts (ladder_in contents run) run.start.base tag run.past written.is_lawful) is_read replies
