-- Which lists of words and which endings are worked out by hand?
use Rattle.std.specs.Prelude.{true, false, List, [], ◌∷◌, codes, Option, Some, None}
use Rattle.ssd_formats.specs.Numbers.{Text}
use Rattle.ssd_formats.specs.Words.{Settings, Command, run, race, save, format, gen}
use Rattle.ssd_formats.specs.InputFaults.{short, diagonal, out_of_range, bytes}
use Rattle.ssd_formats.specs.Statuses.{Status, done, words_refused, image, trace, read_fault, write_fault, history_limit, out_of_memory, die_failed}
use Rattle.ssd_geo.specs.declared.policy_view.PolicyKind.TheVariants.{Greedy, Oldest, RoundRobin}

-- what no option changes
abbrev pub default_settings : Settings
default_settings = record { policy = Greedy; lanes = 16; history = 4194304; whole = true }

abbrev pub accepted_words : List (List Text)
accepted_words =
    (codes "run" ∷ []) ∷
    (codes "run" ∷ codes "--show=summary" ∷ codes "--policy=oldest" ∷ []) ∷
    (codes "run" ∷ codes "--history=256" ∷ codes "--lanes=1" ∷ []) ∷
    (codes "race" ∷ codes "--policy=roundrobin" ∷ []) ∷
    (codes "save" ∷ codes "--lanes=32" ∷ codes "--history=4194304" ∷ codes "--policy=greedy" ∷ []) ∷
    (codes "format" ∷ []) ∷
    (codes "gen" ∷ codes "--number=4294967295" ∷ []) ∷ []

abbrev pub accepted_commands : List (Option Command)
accepted_commands =
    Some (run default_settings) ∷
    Some (run (record { policy = Oldest; lanes = 16; history = 4194304; whole = false })) ∷
    Some (run (record { policy = Greedy; lanes = 1; history = 256; whole = true })) ∷
    Some (race (record { policy = RoundRobin; lanes = 16; history = 4194304; whole = true })) ∷
    Some (save (record { policy = Greedy; lanes = 32; history = 4194304; whole = true })) ∷
    Some format ∷
    Some (gen 4294967295) ∷ []

-- words that are refused: a number of lanes that there isn't; an option of another command; a name that stands twice;
-- a number out of its range or with a leading zero; no value; no `=`; no `--`; an option too many; the one that must be
-- there; an unknown command; no word
abbrev pub refused_words : List (List Text)
refused_words =
    (codes "run" ∷ codes "--lanes=3" ∷ []) ∷
    (codes "race" ∷ codes "--show=summary" ∷ []) ∷
    (codes "run" ∷ codes "--lanes=4" ∷ codes "--lanes=4" ∷ []) ∷
    (codes "run" ∷ codes "--history=255" ∷ []) ∷
    (codes "run" ∷ codes "--history=4194305" ∷ []) ∷
    (codes "run" ∷ codes "--history=0256" ∷ []) ∷
    (codes "run" ∷ codes "--lanes=-4" ∷ []) ∷
    (codes "run" ∷ codes "--policy=" ∷ []) ∷
    (codes "run" ∷ codes "--policy" ∷ []) ∷
    (codes "run" ∷ codes "-policy=greedy" ∷ []) ∷
    (codes "run" ∷ codes "policy=greedy" ∷ []) ∷
    (codes "format" ∷ codes "--lanes=4" ∷ []) ∷
    (codes "gen" ∷ []) ∷
    (codes "gen" ∷ codes "--number=4294967296" ∷ []) ∷
    (codes "Run" ∷ []) ∷
    [] ∷ []

abbrev pub refusals : List (Option Command)
refusals = None ∷ None ∷ None ∷ None ∷ None ∷ None ∷ None ∷ None ∷ None ∷ None ∷ None ∷ None ∷ None ∷ None ∷ None ∷ None ∷ []

abbrev pub some_statuses : List Status
some_statuses =
    done ∷
    words_refused ∷
    image 20 short ∷
    image 60 diagonal ∷
    trace 2 out_of_range ∷
    trace 7 bytes ∷
    read_fault ∷
    write_fault ∷
    history_limit 0 1 ∷
    out_of_memory ∷
    die_failed 2 ∷ []

abbrev pub some_status_texts : List Text
some_status_texts =
    codes "words refused" ∷
    codes "image fault at 20: short" ∷
    codes "image fault at 60: diagonal" ∷
    codes "trace fault in line 2: range" ∷
    codes "trace fault in line 7: data" ∷
    codes "read fault" ∷
    codes "write fault" ∷
    codes "history limit on channel 0 at 1" ∷
    codes "out of memory" ∷
    codes "die 2 failed" ∷ []
