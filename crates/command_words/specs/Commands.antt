-- Which command of the definitions is one of the code, and what is known of its settings?
use Rattle.std.specs.Prelude.{◌≡◌, ◌≤◌, true, ⊤}
use Rattle.std.specs.List.{list_any}
use Rattle.std.specs.Prelude.{nat_eq}
use Rattle.ssd_formats.specs.Words as words
use Rattle.ssd_formats.specs.Words.{greatest_history, numbers_of_lanes}
use Rattle.command_words.specs.declared.command.Command.{Command}
use Rattle.command_words.specs.declared.command.Command.TheVariants.{Run, Race, Save, Format, Gen}
use Rattle.command_words.specs.declared.command.Settings.{Settings}

-- what settings say
abbrev pub told_settings : Settings → words.Settings
told_settings settings = record {
  policy = settings.policy;
  lanes = settings.lanes;
  history = settings.history;
  whole = settings.whole;
}

-- what a command says
abbrev pub told_command : Command → words.Command
told_command (Run settings) = words.run (told_settings settings)
told_command (Race settings) = words.race (told_settings settings)
told_command (Save settings) = words.save (told_settings settings)
told_command Format = words.format
told_command (Gen number) = words.gen number

-- settings are within the table's ranges
pub record AreWithin (settings : Settings) : Type 0 where
  pub lanes : list_any (nat_eq settings.lanes) numbers_of_lanes ≡ true
  pub long : 256 ≤ settings.history
  pub short : settings.history ≤ greatest_history

-- those of a command are
abbrev pub IsWithin : Command → Type 0
IsWithin (Run settings) = AreWithin settings
IsWithin (Race settings) = AreWithin settings
IsWithin (Save settings) = AreWithin settings
IsWithin Format = ⊤
IsWithin (Gen number) = ⊤
