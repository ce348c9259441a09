-- What the words say as options, one word after the other.
use Rattle.std.proofs.Common.{◌≡◌, refl, sym, ap, ◌∙◌, ℕ, ◌+◌, ◌-◌, ◌<◌, Bool, true, false, cond, if◌then◌else◌, not, ◌&&◌, ◌||◌, List, [], ◌∷◌, length, get_or, take, drop, Option, Some, None, option_map, option_and_then, is_some, option_copied, nat_lt, bytes_eq, arith, add-one, drop-cons, take_all, length-drop}
use denote.Ref.{Bor}
use Rattle.std.specs.List.{cons_option, find, list_any, position, position_or_len}
use Rattle.std.specs.Option.{option_map_or}
use Rattle.std.proofs.lemmas.Grind.{common_steps}
use Rattle.std.proofs.lemmas.List.Folds.{list_any_at}
use Rattle.std.proofs.lemmas.List.Sums.{passes_at_first}
use Rattle.ssd_formats.specs.Numbers.{Text}
use Rattle.ssd_formats.specs.Words.{Setting, are_named_once, is_equals_sign, is_named, is_value, setting_of, setting_of_word, settings_of_words, value_named}
use Rattle.command_words.specs.Options.{are_options, is_named_last, options_in, value_in_word}
use Rattle.std.proofs.lemmas.Option.{cond_some}

-- the name stands before the first `=`, and the value behind it
pub cut_at_sign : (text : Text) (at : ℕ) → position is_equals_sign text ≡ Some at → is_value (drop (at + 1) text) ≡ true →
    Some (take at text, take (length text - (at + 1)) (drop (at + 1) text)) ≡ setting_of text
cut_at_sign text at found valued =
    let both = cond_some (nat_lt (position_or_len is_equals_sign text) (length text)) (position_or_len is_equals_sign text) at found in
    let inside : position_or_len is_equals_sign text < length text = let b = both.0 in grind (arith, common_steps) in
    let some : list_any is_equals_sign text ≡ true = list_any_at is_equals_sign text (position_or_len is_equals_sign text) 0 inside (passes_at_first is_equals_sign text 0 inside) in
    let all : take (length text - (at + 1)) (drop (at + 1) text) ≡ drop (at + 1) text = take_all (length text - (at + 1)) (drop (at + 1) text) (omega (arith, length-drop (at + 1) text)) in
    let cut : (n : ℕ) → n ≡ at → cond {A = Option Setting} (list_any is_equals_sign text && is_value (drop (n + 1) text)) (Some (take n text, drop (n + 1) text)) None ≡ Some (take at text, drop (at + 1) text) = λ n e. rw (e, some, valued) refl in
    ap (λ value. Some (take at text, value)) all ∙ sym (cut (position_or_len is_equals_sign text) both.1)

-- the list from a place on begins with what stands there
next_item : {A : Type 0} (xs : List A) (i : ℕ) (x : A) → i < length xs → x ≡ get_or xs i x → drop i xs ≡ x ∷ drop (i + 1) xs
next_item xs i x inside is =
    drop-cons xs i x inside ∙ ap (λ n. get_or xs i x ∷ drop n xs) (sym (add-one i)) ∙ ap (λ y. y ∷ drop (i + 1) xs) (sym is)

abbrev value_among : Text → List Text → Option Text
value_among name words = value_named name (options_in words)

value_if_named : (name value : Text) (o : Setting) (later : List Setting) (b : Bool) → is_named name o ≡ b → cond b (Some o.1) None ≡ Some value → value_named name (o ∷ later) ≡ Some value
value_if_named name value o later true is e = rw is e
value_if_named name value o later false is e = absurd (cc)

no_value_if_named : (name : Text) (o : Setting) (later : List Setting) (b : Bool) → is_named name o ≡ b → cond b (Some o.1) None ≡ None → value_named name (o ∷ later) ≡ value_named name later
no_value_if_named name o later true is e = absurd (cc)
no_value_if_named name o later false is e = rw is refl

value_of_option : (name value : Text) (option : Option Setting) (later : List Setting) → option_and_then (λ o. if is_named name o then Some o.1 else None) option ≡ Some value → value_named name (cons_option option later) ≡ Some value
value_of_option name value None later e = absurd (cc)
value_of_option name value (Some o) later e = value_if_named name value o later (is_named name o) refl e

no_value_of_option : (name : Text) (option : Option Setting) (later : List Setting) → option_and_then (λ o. if is_named name o then Some o.1 else None) option ≡ None → value_named name (cons_option option later) ≡ value_named name later
no_value_of_option name None later e = refl
no_value_of_option name (Some o) later e = no_value_if_named name o later (is_named name o) refl e

-- the value that a word has is that of the words from it on
pub value_here : (words : List Text) (i : ℕ) (word name value : Text) → i < length words → word ≡ get_or words i word → value_in_word name word ≡ Some value → value_among name (drop i words) ≡ Some value
value_here words i word name value inside is has =
    ap (value_among name) (next_item words i word inside is) ∙ value_of_option name value (setting_of_word word) (options_in (drop (i + 1) words)) has

-- a word without it adds nothing
pub value_later : (words : List Text) (i : ℕ) (word name : Text) → i < length words → word ≡ get_or words i word → value_in_word name word ≡ None → value_among name (drop i words) ≡ value_among name (drop (i + 1) words)
value_later words i word name inside is has =
    ap (value_among name) (next_item words i word inside is) ∙ no_value_of_option name (setting_of_word word) (options_in (drop (i + 1) words)) has

-- what stands behind a reference is there where the reference is
pub copied_is_some : (r : Option (Bor (List ℕ))) → is_some (option_copied r) ≡ is_some r
copied_is_some None = refl
copied_is_some (Some x) = refl

named_or_later : (o : Setting) (found : Option Setting) (b c : Bool) → is_some (option_map (λ (o : Setting). o.1) found) ≡ c → is_some (option_map (λ (o : Setting). o.1) (cond b (Some o) found)) ≡ (b || c)
named_or_later o found true c e = refl
named_or_later o found false c e = e

-- a name stands among options where there is a value of it
pub named_has_value : (name : Text) (options : List Setting) → is_some (value_named name options) ≡ list_any (is_named name) options
named_has_value name [] = refl
named_has_value name (o ∷ options) =
    named_or_later o (find (is_named name) options) (is_named name o) (list_any (is_named name) options) (named_has_value name options)

option_named_once : (names : List Text) (option : Option Setting) (later : List Setting) → are_named_once names (cons_option option later) ≡ (option_map_or (λ o. list_any (bytes_eq o.0) names && not (list_any (is_named o.0) later)) option true && are_named_once names later)
option_named_once names None later = refl
option_named_once names (Some o) later = refl

-- whether names stand once from a word on is told by that word and those behind it
pub named_once_from : (words : List Text) (i : ℕ) (word : Text) (names : List Text) → i < length words → word ≡ get_or words i word → are_named_once names (options_in (drop i words)) ≡ (is_named_last names (options_in (drop (i + 1) words)) word && are_named_once names (options_in (drop (i + 1) words)))
named_once_from words i word names inside is =
    ap (λ ws. are_named_once names (options_in ws)) (next_item words i word inside is) ∙ option_named_once names (setting_of_word word) (options_in (drop (i + 1) words))

all_from : (option : Option Setting) (words : List Text) (settings : List Setting) → (is_some option && are_options words) ≡ true → (are_options words ≡ true → settings_of_words words ≡ Some settings) → option_and_then (λ o. option_map (λ os. o ∷ os) (settings_of_words words)) option ≡ Some (cons_option option settings)
all_from None words settings e later = absurd (cc)
all_from (Some o) words settings e later = rw (later e) refl

-- words that are all options give those among them
pub all_options : (words : List Text) → are_options words ≡ true → settings_of_words words ≡ Some (options_in words)
all_options [] e = refl
all_options (word ∷ words) e = all_from (setting_of_word word) words (options_in words) e (all_options words)

not_from : (option : Option Setting) (words : List Text) → (is_some option && are_options words) ≡ false → (are_options words ≡ false → settings_of_words words ≡ None) → option_and_then (λ o. option_map (λ os. o ∷ os) (settings_of_words words)) option ≡ None
not_from None words e later = refl
not_from (Some o) words e later = rw (later e) refl

-- and where one is none, they give nothing
pub not_all_options : (words : List Text) → are_options words ≡ false → settings_of_words words ≡ None
not_all_options [] e = absurd (cc)
not_all_options (word ∷ words) e = not_from (setting_of_word word) words e (not_all_options words)
