-- Which command do the words of the command line give, and with which values? The first word is the command; each
-- further one is `--name=value`, in any order, and each name stands at most once. Every other list of words is refused.
-- The words are this project's own.
use Rattle.std.specs.Prelude.{ℕ, ◌==◌, ◌^◌, nat_le, nat_eq, Bool, true, false, ◌&&◌, not, if◌then◌else◌, List, [], ◌∷◌, drop, codes, bytes_eq, find, Option, Some, None, option_map, option_and_then}
use Rattle.std.specs.List.{starts_with, list_any, before_first, after_first}
use Rattle.std.specs.Option.{option_map_or}
use Rattle.ssd_formats.specs.Numbers.{Text, number_of_text, number_below}
use Rattle.ssd_geo.specs.declared.policy_view.PolicyKind.{PolicyKind}
use Rattle.ssd_geo.specs.declared.policy_view.PolicyKind.TheVariants.{Greedy, Oldest, RoundRobin}

-- what a run goes by: how victims are picked, how many lanes decode at once, how many entries a channel's history may
-- have, and whether all is printed or the summary alone
pub record Settings : Type 0 where
  pub policy : PolicyKind
  pub lanes : ℕ
  pub history : ℕ
  pub whole : Bool

-- what the program is asked to do
pub data Command : Type 0 where
  run : Settings → Command
  race : Settings → Command
  save : Settings → Command
  format : Command
  gen : ℕ → Command

-- an option: its name and its value
abbrev pub Setting : Type 0
Setting = Text × Text

-- whether a byte is `=`
abbrev pub is_equals_sign : ℕ → Bool
is_equals_sign byte = byte == 61

-- whether a text may be a value: it isn't empty and doesn't begin with `-`
abbrev pub is_value : Text → Bool
is_value [] = false
is_value (first ∷ further) = not (first == 45)

-- the name and the value of `name=value`
abbrev pub setting_of : Text → Option Setting
setting_of text =
    let value = after_first is_equals_sign text in
    if list_any is_equals_sign text && is_value value then Some (before_first is_equals_sign text, value) else None

-- the name and the value of a word `--name=value`
abbrev pub setting_of_word : Text → Option Setting
setting_of_word word = if starts_with nat_eq word (codes "--") then setting_of (drop 2 word) else None

-- all further words as options, if each is one
abbrev pub settings_of_words : List Text → Option (List Setting)
settings_of_words [] = Some []
settings_of_words (word ∷ words) =
    option_and_then (λ setting. option_map (λ settings. setting ∷ settings) (settings_of_words words)) (setting_of_word word)

-- whether an option has this name
abbrev pub is_named : Text → Setting → Bool
is_named name setting = bytes_eq setting.0 name

-- whether each option has one of these names, and no name stands twice
abbrev pub are_named_once : List Text → List Setting → Bool
are_named_once names [] = true
are_named_once names (setting ∷ settings) =
    list_any (bytes_eq setting.0) names && not (list_any (is_named setting.0) settings) && are_named_once names settings

-- the value of this name, if it stands there
abbrev pub value_named : Text → List Setting → Option Text
value_named name settings = option_map (λ setting. setting.1) (find (is_named name) settings)

-- what is read from the value of this name, or else this default; nothing where the value is out of form
abbrev pub read_or : {A : Type 0} → A → (Text → Option A) → Text → List Setting → Option A
read_or default read name settings = option_map_or read (value_named name settings) (Some default)

abbrev pub policy_of_text : Text → Option PolicyKind
policy_of_text text =
    if bytes_eq text (codes "greedy") then Some Greedy
    else if bytes_eq text (codes "oldest") then Some Oldest
    else if bytes_eq text (codes "roundrobin") then Some RoundRobin
    else None

-- the numbers of lanes with which there is a decoder
abbrev pub numbers_of_lanes : List ℕ
numbers_of_lanes = 1 ∷ 4 ∷ 8 ∷ 16 ∷ 32 ∷ []

abbrev pub lanes_of_text : Text → Option ℕ
lanes_of_text text =
    option_and_then (λ n. if list_any (nat_eq n) numbers_of_lanes then Some n else None) (number_of_text text)

-- the greatest limit of a channel's history
abbrev pub greatest_history : ℕ
greatest_history = 4194304

abbrev pub history_of_text : Text → Option ℕ
history_of_text text =
    option_and_then (λ n. if nat_le 256 n && nat_le n greatest_history then Some n else None) (number_of_text text)

abbrev pub whole_of_text : Text → Option Bool
whole_of_text text =
    if bytes_eq text (codes "all") then Some true
    else if bytes_eq text (codes "summary") then Some false
    else None

-- the names of the options that `run` has, and those that `race` and `save` have
abbrev pub serving_names : List Text
serving_names = codes "policy" ∷ codes "lanes" ∷ codes "history" ∷ []

abbrev pub run_names : List Text
run_names = codes "show" ∷ serving_names

-- what the options say, each with its default
abbrev pub settings_from : List Setting → Option Settings
settings_from settings =
    option_and_then (λ policy.
    option_and_then (λ lanes.
    option_and_then (λ history.
    option_map (λ whole. record { policy = policy; lanes = lanes; history = history; whole = whole })
    (read_or true whole_of_text (codes "show") settings))
    (read_or greatest_history history_of_text (codes "history") settings))
    (read_or 16 lanes_of_text (codes "lanes") settings))
    (read_or Greedy policy_of_text (codes "policy") settings)

-- the command that is made of the options' values, where all names are among these
abbrev pub serving : (Settings → Command) → List Text → List Setting → Option Command
serving command names settings =
    if are_named_once names settings then option_map command (settings_from settings) else None

-- `format` has no option
abbrev pub formatting : List Setting → Option Command
formatting [] = Some format
formatting (setting ∷ settings) = None

-- `gen` has one, which must be there
abbrev pub generating : List Setting → Option Command
generating settings =
    if are_named_once (codes "number" ∷ []) settings
    then option_map gen (option_and_then (number_below (2 ^ 32)) (value_named (codes "number") settings))
    else None

-- the command of a first word with these options
abbrev pub command_with : Text → List Setting → Option Command
command_with word settings =
    if bytes_eq word (codes "run") then serving run run_names settings
    else if bytes_eq word (codes "race") then serving race serving_names settings
    else if bytes_eq word (codes "save") then serving save serving_names settings
    else if bytes_eq word (codes "format") then formatting settings
    else if bytes_eq word (codes "gen") then generating settings
    else None

-- the command that the words give, or nothing where they are refused
abbrev pub command_of : List Text → Option Command
command_of [] = None
command_of (first ∷ further) = option_and_then (command_with first) (settings_of_words further)

-- whether a command is `race`, which threads serve
abbrev pub is_race : Command → Bool
is_race (race settings) = true
is_race other = false

-- whether the words are a `race`
abbrev pub are_race : List Text → Bool
are_race words = option_map_or is_race (command_of words) false

-- how a command says that victims are picked
abbrev pub policy_of_command : Command → PolicyKind
policy_of_command (run settings) = settings.policy
policy_of_command (race settings) = settings.policy
policy_of_command (save settings) = settings.policy
policy_of_command format = Greedy
policy_of_command (gen n) = Greedy

-- how the words say it; where they are refused, as they say it by default
abbrev pub policy_named : List Text → PolicyKind
policy_named words = option_map_or policy_of_command (command_of words) Greedy
