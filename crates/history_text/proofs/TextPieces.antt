-- The texts that are printed piece by piece.
use Rattle.std.proofs.Common.{◌≡◌, ℕ, List, [], ◌∷◌, ◌++◌, Option, Result, map, refl, sym, ap, ◌∙◌, subst, append_assoc, append-nil, decimal}
use Rattle.std.specs.declared.alloc.Global.{Global}
use Rattle.std.specs.declared.vec.Vec.{Vec}
use Rattle.ssd_formats.specs.Numbers.{Text}
use Rattle.std.specs.Prelude.{flat_map}
use Rattle.std.specs.List.{enumerate_from}
use Rattle.ssd_geo.specs.declared.entry.Entry.{Entry}
use Rattle.ssd_formats.specs.EntryText.{spaced, line_of, entry_line, history_text}
use Rattle.std.proofs.lemmas.Grind.{flat_map-append}
use Rattle.ssd_formats.specs.Numbers.{hex_of_byte, hex_of_bytes}
use Rattle.ssd_formats.specs.ReplyText.{reply_line, drained_text, actor_text}
use Rattle.ssd_geo.specs.declared.reply.RefreshReply.{RefreshReply}
use Rattle.ssd_geo.specs.declared.reply.Reply.{Reply}
use Rattle.history_text.specs.declared.word.Word.{Word}
use Rattle.history_text.specs.Printing.{Stops, Prints}
use Rattle.history_text.specs.WordText.{word_text, further_words}
use Rattle.history_text.proofs.Chains.{Pieces}

-- words, each after a space
abbrev pub words_from : ℕ → List Word → Text
words_from i words = further_words (map word_text words)

abbrev pub spaced_word : ℕ → Word → Text
spaced_word i word = 32 ∷ word_text word

pub words_by_pieces : Pieces words_from spaced_word
words_by_pieces = record { next = λ i x xs. refl; none = λ i. refl }

-- a line is its first word, the others after spaces, and LF
spaced_first : (word : Text) (words : List Text) → spaced (word ∷ words) ≡ word ++ further_words words
spaced_first word [] = sym (append-nil word)
spaced_first word (next ∷ words) = ap (λ text. word ++ 32 ∷ text) (spaced_first next words)

line_first : (word : Text) (words : List Text) → line_of (word ∷ words) ≡ word ++ (further_words words ++ 10 ∷ [])
line_first word words = ap (λ text. text ++ 10 ∷ []) (spaced_first word words) ∙ append_assoc word (further_words words) (10 ∷ [])

step_first : (first second : Text) (words : List Text) → line_of (first ∷ second ∷ words) ≡ first ++ ((32 ∷ second) ++ (further_words words ++ 10 ∷ []))
step_first first second words = line_first first (second ∷ words) ∙ ap (λ text. first ++ text) (append_assoc (32 ∷ second) (further_words words) (10 ∷ []))

-- a line that ends with words that are printed by a call of their own
line_last : (first : Text) (words last : List Text) → line_of (first ∷ (words ++ last)) ≡ first ++ (further_words words ++ (further_words last ++ 10 ∷ []))
line_last first words last =
    line_first first (words ++ last) ∙ ap (λ text. first ++ (text ++ 10 ∷ [])) (flat_map-append (λ word. 32 ∷ word) words last) ∙
    ap (λ text. first ++ text) (append_assoc (further_words words) (further_words last) (10 ∷ []))

-- a single word after a space, and LF
pub one_word : (word : Text) → further_words (word ∷ []) ++ 10 ∷ [] ≡ (32 ∷ []) ++ (word ++ 10 ∷ [])
one_word word = ap (λ text. 32 ∷ (text ++ 10 ∷ [])) (append-nil word)

module _ {O : Type 0} {written : O → Option Text} {faults : O → ℕ} where
  pub stops_line : {o o1 : O} {l l1 : Vec ℕ Global} (word : Text) (words : List Text) → Stops written faults o o1 l l1 (word ++ (further_words words ++ 10 ∷ [])) → Stops written faults o o1 l l1 (line_of (word ∷ words))
  stops_line {o} {o1} {l} {l1} word words q = subst (Stops written faults o o1 l l1) (sym (line_first word words)) q

  pub prints_line : {T E : Type 0} {o o1 : O} {l l1 : Vec ℕ Global} {r : Result T E} (word : Text) (words : List Text) → Prints written faults o o1 l l1 r (word ++ (further_words words ++ 10 ∷ [])) → Prints written faults o o1 l l1 r (line_of (word ∷ words))
  prints_line {o = o} {o1 = o1} {l = l} {l1 = l1} {r = r} word words q = subst (Prints written faults o o1 l l1 r) (sym (line_first word words)) q

  pub stops_step : {o o1 : O} {l l1 : Vec ℕ Global} (first second : Text) (words : List Text) → Stops written faults o o1 l l1 (first ++ ((32 ∷ second) ++ (further_words words ++ 10 ∷ []))) → Stops written faults o o1 l l1 (line_of (first ∷ second ∷ words))
  stops_step {o} {o1} {l} {l1} first second words q = subst (Stops written faults o o1 l l1) (sym (step_first first second words)) q

  pub prints_step : {T E : Type 0} {o o1 : O} {l l1 : Vec ℕ Global} {r : Result T E} (first second : Text) (words : List Text) → Prints written faults o o1 l l1 r (first ++ ((32 ∷ second) ++ (further_words words ++ 10 ∷ []))) → Prints written faults o o1 l l1 r (line_of (first ∷ second ∷ words))
  prints_step {o = o} {o1 = o1} {l = l} {l1 = l1} {r = r} first second words q = subst (Prints written faults o o1 l l1 r) (sym (step_first first second words)) q

-- the lines of entries
abbrev pub entries_from : ℕ → List Entry → Text
entries_from i entries = flat_map entry_line (enumerate_from i entries)

abbrev pub line_of_entry : ℕ → Entry → Text
line_of_entry i entry = entry_line (i, entry)

pub entries_by_pieces : Pieces entries_from line_of_entry
entries_by_pieces = record { next = λ i x xs. refl; none = λ i. refl }

module _ {O : Type 0} {written : O → Option Text} {faults : O → ℕ} where
  pub stops_last : {o o1 : O} {l l1 : Vec ℕ Global} (first : Text) (words last : List Text) → Stops written faults o o1 l l1 (first ++ (further_words words ++ (further_words last ++ 10 ∷ []))) → Stops written faults o o1 l l1 (line_of (first ∷ (words ++ last)))
  stops_last {o} {o1} {l} {l1} first words last q = subst (Stops written faults o o1 l l1) (sym (line_last first words last)) q

  pub prints_last : {T E : Type 0} {o o1 : O} {l l1 : Vec ℕ Global} {r : Result T E} (first : Text) (words last : List Text) → Prints written faults o o1 l l1 r (first ++ (further_words words ++ (further_words last ++ 10 ∷ []))) → Prints written faults o o1 l l1 r (line_of (first ∷ (words ++ last)))
  prints_last {o = o} {o1 = o1} {l = l} {l1 = l1} {r = r} first words last q = subst (Prints written faults o o1 l l1 r) (sym (line_last first words last)) q

  -- the same text by another name
  pub stops_same : {o o1 : O} {l l1 : Vec ℕ Global} {text text' : Text} → text' ≡ text → Stops written faults o o1 l l1 text → Stops written faults o o1 l l1 text'
  stops_same {o} {o1} {l} {l1} e q = subst (Stops written faults o o1 l l1) (sym e) q

  pub prints_same : {T E : Type 0} {o o1 : O} {l l1 : Vec ℕ Global} {r : Result T E} {text text' : Text} → text' ≡ text → Prints written faults o o1 l l1 r text → Prints written faults o o1 l l1 r text'
  prints_same {o = o} {o1 = o1} {l = l} {l1 = l1} {r = r} e q = subst (Prints written faults o o1 l l1 r) (sym e) q

-- the lines of replies
abbrev pub replies_from : ℕ → List Reply → Text
replies_from i replies = flat_map reply_line (enumerate_from i replies)

abbrev pub line_of_reply : ℕ → Reply → Text
line_of_reply i reply = reply_line (i, reply)

pub replies_by_pieces : Pieces replies_from line_of_reply
replies_by_pieces = record { next = λ i x xs. refl; none = λ i. refl }

-- bytes in hexadecimal
abbrev pub hex_from : ℕ → List ℕ → Text
hex_from i bytes = hex_of_bytes bytes

abbrev pub hex_at : ℕ → ℕ → Text
hex_at i byte = hex_of_byte byte

pub hex_by_pieces : Pieces hex_from hex_at
hex_by_pieces = record { next = λ i x xs. refl; none = λ i. refl }

-- pages whose hints were taken
abbrev pub pages_from : ℕ → List (ℕ × RefreshReply) → Text
pages_from i pages = further_words (map drained_text pages)

abbrev pub page_at : ℕ → ℕ × RefreshReply → Text
page_at i page = 32 ∷ drained_text page

pub pages_by_pieces : Pieces pages_from page_at
pages_by_pieces = record { next = λ i x xs. refl; none = λ i. refl }

-- counts, each after a space
abbrev pub counts_from : ℕ → List ℕ → Text
counts_from i counts = further_words (map decimal counts)

abbrev pub count_at : ℕ → ℕ → Text
count_at i count = 32 ∷ decimal count

pub counts_by_pieces : Pieces counts_from count_at
counts_by_pieces = record { next = λ i x xs. refl; none = λ i. refl }

-- the histories of channels
abbrev pub histories_from : ℕ → List (List Entry) → Text
histories_from i histories = flat_map history_text (enumerate_from i histories)

abbrev pub history_at : ℕ → List Entry → Text
history_at i entries = history_text (i, entries)

pub histories_by_pieces : Pieces histories_from history_at
histories_by_pieces = record { next = λ i x xs. refl; none = λ i. refl }

-- the replies of actors
abbrev pub actors_from : ℕ → List (List Reply) → Text
actors_from i replies = flat_map actor_text (enumerate_from i replies)

abbrev pub actor_at : ℕ → List Reply → Text
actor_at i replies = actor_text (i, replies)

pub actors_by_pieces : Pieces actors_from actor_at
actors_by_pieces = record { next = λ i x xs. refl; none = λ i. refl }
