-- A page that a ladder recovered has the head that was expected, so its word gives data.
use Rattle.std.proofs.Common.{◌≡◌, ℕ, ◌+◌, ◌&&◌, if◌then◌else◌, Bool, true, false, List, [], ◌∷◌, length, take, drop, Option, Some, None, refl, sym, ap, subst, ◌∙◌}
use Rattle.std.specs.Prelude.{IsTrue, is_some, nat_eq, nat_lt, slice_index_or, slice_range, unwrap_or, ℤ, ⊤}
use Rattle.std.specs.List.{starts_with}
use Rattle.chan_calls.specs.Calls.{reply_of}
use Rattle.chan_calls.specs.Ready.{IsReplyOf, data_in_state}
use Rattle.chan_calls.specs.declared.read_reply.ReadReply.{ReadReply}
use Rattle.retry_ladder.specs.View.{IsAnswerOf}
use Rattle.retry_ladder.specs.declared.ask.Answer.{Answer}
use Rattle.ssd_geo.specs.Bits.{bytes_sum}
use Rattle.ssd_geo.specs.Coding.{Coding, data_in}
use Rattle.ssd_geo.specs.Ladder.{LadderState, PageState, PlaceState, all_kept, asks, best_level, found, has_answer, hard_work, kept_with, missed, none_kept, other_places, page_accepted, page_decoded, partly, place_work, recovered, soft_levels, soft_work, stripe_work, uncorrectable, wants, whole, ladder_over}
use Rattle.ssd_geo.specs.Limits.{payload_bytes_of}
use Rattle.ssd_geo.specs.PageHead.{are_zeros, head_of_page}
use Rattle.ssd_histories.specs.Replies.{bytes_of_word, reply_of_ladder}
use Rattle.ssd_geo.specs.Shape.{sizes_of}
use Rattle.ssd_geo.specs.Stripe.{place_of_slot}
use Rattle.ssd_geo.specs.StripeSum.{zero_word}
use Rattle.ssd_geo.specs.declared.look.Look.{Look}
use Rattle.ssd_geo.specs.declared.place.Place.{Place}
use Rattle.ssd_geo.specs.declared.reply.Reply.{Reply}
use Rattle.ssd_geo.specs.declared.shape.Shape.{Shape}

-- the work on a place finds only words that are accepted
abbrev FindsOnly : (List ℕ → Bool) → PlaceState → Type 0
FindsOnly accepts (wants level) = ⊤
FindsOnly accepts (found rung word left) = IsTrue (accepts word)
FindsOnly accepts (missed left) = ⊤

-- a decoding at a place comes only to a page's word that is accepted
abbrev AcceptsOnly : (List ℕ → Bool) → PageState → Type 0
AcceptsOnly accepts (whole word) = IsTrue (accepts word)
AcceptsOnly accepts (partly kept) = ⊤

page_accepts : (coding : Coding) (accepts : List ℕ → Bool) (kept : List (Option (List ℕ)))
    (all : Option (List (List ℕ))) → AcceptsOnly accepts (page_accepted coding accepts kept all)
page_accepts coding accepts kept None = tt
page_accepts coding accepts kept (Some codes) =
    by_test (accepts (coding.joined codes)) refl
  where
    by_test : (b : Bool) → accepts (coding.joined codes) ≡ b → AcceptsOnly accepts (elim b [
      | true ↦ whole (coding.joined codes)
      | false ↦ partly (none_kept coding)
    ])
    by_test true is = is
    by_test false is = tt

decoded_accepts : (coding : Coding) (accepts : List ℕ → Bool) (finds : ℕ → Option (List ℕ))
    (kept : List (Option (List ℕ))) → AcceptsOnly accepts (page_decoded coding accepts finds kept)
decoded_accepts coding accepts finds kept =
    page_accepts coding accepts (kept_with finds 0 kept) (all_kept (kept_with finds 0 kept))

one_found : (accepts : List ℕ → Bool) (rung : ℕ) (left : List (List ℕ))
    (rest : List (Option (List ℕ)) → PlaceState) (state : PageState) → AcceptsOnly accepts state →
    ((now : List (Option (List ℕ))) → FindsOnly accepts (rest now)) →
    FindsOnly accepts (elim state [
      | whole word ↦ found rung word left
      | partly now ↦ rest now
    ])
one_found accepts rung left rest (partly now) f h = h now
one_found accepts rung left rest (whole word) f h = f

soft_finds : (coding : Coding) (accepts : List ℕ → Bool) (center : ℤ)
    (kept : List (Option (List ℕ))) (senses : List (List ℕ)) (b : Bool) →
    FindsOnly accepts (elim b [
      | true ↦ wants (slice_index_or (soft_levels coding.step center) (length senses) center)
      | false ↦ elim (page_decoded coding accepts (coding.soft (take 5 senses)) kept) [
        | whole word ↦ found (length coding.levels) word (drop 5 senses)
        | partly now ↦ missed (drop 5 senses)
      ]
    ])
soft_finds coding accepts center kept senses true = tt
soft_finds coding accepts center kept senses false =
    one_found accepts (length coding.levels) (drop 5 senses) (λ now. missed (drop 5 senses))
    (page_decoded coding accepts (coding.soft (take 5 senses)) kept)
    (decoded_accepts coding accepts (coding.soft (take 5 senses)) kept) (λ now. tt)

hard_finds : (coding : Coding) (accepts : List ℕ → Bool)
    (after : List (Option (List ℕ)) → List (List ℕ) → PlaceState) →
    ((kept : List (Option (List ℕ))) (senses : List (List ℕ)) → FindsOnly accepts
    (after kept senses)) →
    (levels : List ℤ) (rung : ℕ) (kept : List (Option (List ℕ))) (senses : List (List ℕ)) →
    FindsOnly accepts (hard_work coding accepts after levels rung kept senses)
hard_finds coding accepts after h [] rung kept senses = h kept senses
hard_finds coding accepts after h (level ∷ levels) rung kept [] = tt
hard_finds coding accepts after h (level ∷ levels) rung kept (sense ∷ senses) =
    one_found accepts rung senses
    (λ now. hard_work coding accepts after levels (rung + 1) now senses)
    (page_decoded coding accepts (coding.hard sense) kept)
    (decoded_accepts coding accepts (coding.hard sense) kept)
    (λ now. hard_finds coding accepts after h levels (rung + 1) now senses)

place_finds : (coding : Coding) (accepts : List ℕ → Bool) (senses : List (List ℕ)) →
    FindsOnly accepts (place_work coding accepts senses)
place_finds coding accepts senses =
    hard_finds coding accepts (soft_work coding accepts (best_level coding senses))
    (λ kept left. soft_finds coding accepts (best_level coding senses) kept left
    (nat_lt (length left) 5)) coding.levels 0 (none_kept coding) senses

-- a ladder recovers only words that are accepted
abbrev RecoversOnly : (List ℕ → Bool) → LadderState → Type 0
RecoversOnly accepts (asks place level) = ⊤
RecoversOnly accepts (recovered rung word) = IsTrue (accepts word)
RecoversOnly accepts uncorrectable = ⊤

sum_recovers : (coding : Coding) (accepts : List ℕ → Bool) (sum : List ℕ) (b : Bool) →
    accepts sum ≡ b → RecoversOnly accepts (elim b [
      | true ↦ recovered
          (length coding.levels + 1) sum
      | false ↦ uncorrectable
    ])
sum_recovers coding accepts sum true is = is
sum_recovers coding accepts sum false is = tt

stripe_recovers_at : (coding : Coding) (accepts : List ℕ → Bool) (place : Place)
    (places : List Place) (sum : List ℕ) (state : PlaceState) →
    ((sum : List ℕ) (left : List (List ℕ)) → RecoversOnly accepts
    (stripe_work coding accepts places sum left)) →
    RecoversOnly accepts (elim state [
      | wants level ↦ asks place level
      | found rung word left ↦ stripe_work coding accepts places (bytes_sum sum word) left
      | missed left ↦ uncorrectable
    ])
stripe_recovers_at coding accepts place places sum (wants level) rest = tt
stripe_recovers_at coding accepts place places sum (found rung word left) rest =
    rest (bytes_sum sum word) left
stripe_recovers_at coding accepts place places sum (missed left) rest = tt

stripe_recovers : (coding : Coding) (accepts : List ℕ → Bool) (places : List Place) (sum : List ℕ)
    (senses : List (List ℕ)) → RecoversOnly accepts (stripe_work coding accepts places sum senses)
stripe_recovers coding accepts [] sum senses = sum_recovers coding accepts sum (accepts sum) refl
stripe_recovers coding accepts (place ∷ places) sum senses =
    stripe_recovers_at coding accepts place places sum (place_work coding (λ word. true) senses)
    (stripe_recovers coding accepts places)

closed_recovers : (coding : Coding) (accepts : List ℕ → Bool) (others : List Place) (closed : Bool)
    (left : List (List ℕ)) →
    RecoversOnly accepts (elim closed [
      | true ↦ stripe_work coding accepts others
          (zero_word coding.word_bytes) left
      | false ↦ uncorrectable
    ])
closed_recovers coding accepts others true left = stripe_recovers coding accepts others
    (zero_word coding.word_bytes) left
closed_recovers coding accepts others false left = tt

page_recovers : (coding : Coding) (accepts : List ℕ → Bool) (place : Place) (others : List Place)
    (closed : Bool) (state : PlaceState) → FindsOnly accepts state →
    RecoversOnly accepts (elim state [
      | wants level ↦ asks place level
      | found rung word left ↦ recovered rung word
      | missed left ↦ elim closed [
        | true ↦ stripe_work coding accepts others (zero_word coding.word_bytes) left
        | false ↦ uncorrectable
      ]
    ])
page_recovers coding accepts place others closed (wants level) h = tt
page_recovers coding accepts place others closed (found rung word left) h = h
page_recovers coding accepts place others closed (missed left) h =
    closed_recovers coding accepts others closed left

pub word_accepted : (coding : Coding) (dies : ℕ) (look : Look) (senses : List (List ℕ)) (rung : ℕ)
    (word : List ℕ) → ladder_over coding dies (Some look) senses ≡ recovered rung word →
    IsTrue (coding.has_head look.serial look.row word)
word_accepted coding dies look senses rung word is =
    let own : Place = place_of_slot dies look.slot in
    let accepts : List ℕ → Bool = coding.has_head look.serial look.row in
    subst (RecoversOnly accepts) is
    (page_recovers coding accepts own (other_places dies own) look.closed
    (place_work coding accepts senses) (place_finds coding accepts senses))

-- a word that has the head of a page gives the data bytes of its payload
pub data_given : (shape : Shape) (serial row : ℕ) (word : List ℕ) →
    IsTrue (is_some (data_in shape serial row word)) → data_in shape serial row word ≡ Some
    (bytes_of_word shape.bytes word)
data_given shape serial row word =
    by_test (starts_with nat_eq word (head_of_page serial row) && are_zeros
    (slice_range word (16 + shape.bytes) (payload_bytes_of (sizes_of shape))))
    (bytes_of_word shape.bytes word)
  where
    by_test : (b : Bool) (bytes : List ℕ) → IsTrue (is_some (if b then Some bytes else None)) →
        (if b then Some bytes else None) ≡ Some bytes
    by_test true bytes is = refl
    by_test false bytes is = absurd (cc)

-- the reply that is given is that of the ladder, with the data of the page that it recovered
pub reply_given : (shape : Shape) (serial row : ℕ) (state : LadderState) (answer : Answer)
    (reply : ReadReply) → IsTrue (has_answer state) → IsAnswerOf state answer →
    IsReplyOf answer reply →
    ((rung : ℕ) (word : List ℕ) → state ≡ recovered rung word →
    IsTrue (is_some (data_in shape serial row word))) →
    reply_of_ladder shape.bytes state ≡ Some (reply_of reply (data_in_state shape serial row state))
reply_given shape serial row (asks place level) answer reply has is_answer is_reply head =
    absurd (cc)
reply_given shape serial row (recovered rung word) answer reply has is_answer is_reply head =
    let bytes : List ℕ = bytes_of_word shape.bytes word in
    let told : reply ≡ ReadReply.Bytes rung = subst (λ (a : Answer). IsReplyOf a reply) is_answer
    is_reply in
    let given : unwrap_or (data_in shape serial row word) [] ≡ bytes =
    ap (λ (o : Option (List ℕ)). unwrap_or o []) (data_given shape serial row word
    (head rung word refl)) in
    ap (λ (data_bytes : List ℕ). Some (Reply.Data rung data_bytes)) (sym given)
    ∙ ap (λ (r : ReadReply). Some (reply_of r (unwrap_or (data_in shape serial row word) [])))
    (sym told)
reply_given shape serial row uncorrectable answer reply has is_answer is_reply head =
    let told : reply ≡ ReadReply.Uncorrectable = subst (λ (a : Answer). IsReplyOf a reply) is_answer
    is_reply in
    ap (λ (r : ReadReply). Some (reply_of r [])) (sym told)
