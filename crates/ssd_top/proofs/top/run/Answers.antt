use Rattle.std.proofs.Common.{ℕ, ◌≡◌, true, false, List, Some, None, inl, inr, map, refl, arith}
use Rattle.command_words.specs.Commands.{told_settings}
use Rattle.onfi_cmd.specs.DieState.{DieState}
use Rattle.ssd_formats.specs.Words.{Settings, command_of, format, gen, race, run, save}
use Rattle.ssd_top.proofs.TopCommands.{formatted_back, formatted_takes, no_words, no_words_save, no_words_take, of_number, of_save_settings, of_settings, one_command}
use Rattle.ssd_top.proofs.TopCommands.{words_caused, words_load, words_run, words_save, words_take, written_aloud, written_back, written_caused, written_loaded, written_reads, written_takes}
use Rattle.ssd_top.specs.Commands.{are_loading, are_save, are_serving}
use Rattle.ssd_top.proofs.top.run.Goals as goal

pub returns-in-None : goal.returns-in-None
returns-in-None g c =
    let words = c.args.words.now in
    let told : None ≡ command_of words = c.in-None.ensures.told in
    record {
      refused = λ is. no_words_take words told;
      untouched = λ is. refl;
      command = inl refl;
      read_fault = λ is. absurd (cc);
      write_fault = λ is. absurd (cc);
      reads_stay = λ is. refl;
      writes_stay = λ is. refl;
      reads = omega arith;
      writes = omega arith;
      dies = λ other. refl;
      dies_saved = λ saves. let is : are_save words ≡ false = no_words_save words told in absurd (cc);
      dies_stay = λ is. refl;
      dies_loaded = λ is. refl;
      caused = words_caused _;
      headline = λ settings is. no_words (run settings) words told is;
      headline_at_limit = λ settings is. no_words (run settings) words told is;
      headline_front = λ settings is. no_words (run settings) words told is;
      saved = λ settings is. no_words (save settings) words told is;
      saved_front = λ settings is. no_words (save settings) words told is;
      saved_failed = λ settings is. no_words (save settings) words told is;
      saved_at_limit = λ settings is. no_words (save settings) words told is;
      formatted = λ is. no_words format words told is;
      generated = λ number is. no_words (gen number) words told is;
      unread = λ number is. no_words (gen number) words told is;
      nothing = λ other. λ silent. refl;
      nothing_saved = λ saves. let is : are_save words ≡ false = no_words_save words told in absurd (cc);
    }

pub returns-in-Some-Run : goal.returns-in-Some-Run
returns-in-Some-Run g c =
    let words = c.args.words.now in
    let settings : Settings = told_settings c.in-Some-Run.settings in
    let told : Some (run settings) ≡ command_of words = rw c.in-Some-Run.field-0-is at c.in-Some-Run.ensures.told in
    record {
      refused = λ is. absurd (c.serve_run.ensures.served is);
      untouched = λ is. absurd (c.serve_run.ensures.served is);
      command = inr (words_take (run settings) words told);
      read_fault = c.serve_run.ensures.read_fault;
      write_fault = c.serve_run.ensures.write_fault;
      reads_stay = c.serve_run.ensures.reads_stay;
      writes_stay = c.serve_run.ensures.writes_stay;
      reads = c.serve_run.ensures.reads;
      writes = c.serve_run.ensures.writes;
      dies = λ other. c.serve_run.ensures.dies;
      dies_saved = λ saves. let is : are_save words ≡ false = words_save (run settings) words told in absurd (cc);
      dies_stay = λ none. let is : are_loading words ≡ true = words_load (run settings) words told in absurd (cc);
      dies_loaded = λ none. let is : are_serving words ≡ true = words_run (run settings) words told in absurd (cc);
      caused = c.serve_run.ensures.caused;
      headline = of_settings _ settings words told c.serve_run.ensures.headline;
      headline_at_limit = of_settings _ settings words told c.serve_run.ensures.headline_at_limit;
      headline_front = of_settings _ settings words told c.serve_run.ensures.headline_front;
      saved = λ other is.
          let same : run settings ≡ save other = one_command (run settings) (save other) words told is in absurd (cc);
      saved_front = λ other is.
          let same : run settings ≡ save other = one_command (run settings) (save other) words told is in absurd (cc);
      saved_failed = λ other is.
          let same : run settings ≡ save other = one_command (run settings) (save other) words told is in absurd (cc);
      saved_at_limit = λ other is.
          let same : run settings ≡ save other = one_command (run settings) (save other) words told is in absurd (cc);
      formatted = λ is.
          let same : run settings ≡ format = one_command (run settings) format words told is in absurd (cc);
      generated = λ number is.
          let same : run settings ≡ gen number = one_command (run settings) (gen number) words told is in absurd (cc);
      unread = λ number is.
          let same : run settings ≡ gen number = one_command (run settings) (gen number) words told is in absurd (cc);
      nothing = λ other. c.serve_run.ensures.nothing;
      nothing_saved = λ saves. let is : are_save words ≡ false = words_save (run settings) words told in absurd (cc);
    }

pub returns-in-Some-Race : goal.returns-in-Some-Race
returns-in-Some-Race g c =
    let words = c.args.words.now in
    let settings : Settings = told_settings c.in-Some-Race.field-0-0 in
    let told : Some (race settings) ≡ command_of words = rw c.in-Some-Race.field-0-is at c.in-Some-Race.ensures.told in
    record {
      refused = λ is. words_take (race settings) words told;
      untouched = λ is. refl;
      command = inl refl;
      read_fault = λ is. absurd (cc);
      write_fault = λ is. absurd (cc);
      reads_stay = λ is. refl;
      writes_stay = λ is. refl;
      reads = omega arith;
      writes = omega arith;
      dies = λ other. refl;
      dies_saved = λ saves. let is : are_save words ≡ false = words_save (race settings) words told in absurd (cc);
      dies_stay = λ is. refl;
      dies_loaded = λ is. refl;
      caused = words_caused _;
      headline = λ other is.
          let same : race settings ≡ run other = one_command (race settings) (run other) words told is in absurd (cc);
      headline_at_limit = λ other is.
          let same : race settings ≡ run other = one_command (race settings) (run other) words told is in absurd (cc);
      headline_front = λ other is.
          let same : race settings ≡ run other = one_command (race settings) (run other) words told is in absurd (cc);
      saved = λ other is.
          let same : race settings ≡ save other = one_command (race settings) (save other) words told is in absurd (cc);
      saved_front = λ other is.
          let same : race settings ≡ save other = one_command (race settings) (save other) words told is in absurd (cc);
      saved_failed = λ other is.
          let same : race settings ≡ save other = one_command (race settings) (save other) words told is in absurd (cc);
      saved_at_limit = λ other is.
          let same : race settings ≡ save other = one_command (race settings) (save other) words told is in absurd (cc);
      formatted = λ is.
          let same : race settings ≡ format = one_command (race settings) format words told is in absurd (cc);
      generated = λ number is.
          let same : race settings ≡ gen number = one_command (race settings) (gen number) words told is in absurd (cc);
      unread = λ number is.
          let same : race settings ≡ gen number = one_command (race settings) (gen number) words told is in absurd (cc);
      nothing = λ other. λ silent. refl;
      nothing_saved = λ saves. let is : are_save words ≡ false = words_save (race settings) words told in absurd (cc);
    }

pub returns-in-Some-Save : goal.returns-in-Some-Save
returns-in-Some-Save g c =
    let words = c.args.words.now in
    let settings : Settings = told_settings c.in-Some-Save.settings in
    let told : Some (save settings) ≡ command_of words = rw c.in-Some-Save.field-0-is at c.in-Some-Save.ensures.told in
    record {
      refused = λ is. absurd (c.save.ensures.served is);
      untouched = λ is. absurd (c.save.ensures.served is);
      command = inr (words_take (save settings) words told);
      read_fault = c.save.ensures.read_fault;
      write_fault = c.save.ensures.write_fault;
      reads_stay = c.save.ensures.reads_stay;
      writes_stay = c.save.ensures.writes_stay;
      reads = c.save.ensures.reads;
      writes = c.save.ensures.writes;
      dies = λ other. let is : are_save words ≡ true = words_save (save settings) words told in absurd (cc);
      dies_saved = λ is. c.save.ensures.dies;
      dies_stay = λ none. let is : are_loading words ≡ true = words_load (save settings) words told in absurd (cc);
      dies_loaded = λ none. let is : are_serving words ≡ true = words_run (save settings) words told in absurd (cc);
      caused = c.save.ensures.caused;
      headline = λ other is.
          let same : save settings ≡ run other = one_command (save settings) (run other) words told is in absurd (cc);
      headline_at_limit = λ other is.
          let same : save settings ≡ run other = one_command (save settings) (run other) words told is in absurd (cc);
      headline_front = λ other is.
          let same : save settings ≡ run other = one_command (save settings) (run other) words told is in absurd (cc);
      saved = of_save_settings _ settings words told c.save.ensures.saved;
      saved_front = of_save_settings _ settings words told c.save.ensures.saved_front;
      saved_failed = of_save_settings _ settings words told c.save.ensures.failed;
      saved_at_limit = of_save_settings _ settings words told c.save.ensures.at_limit;
      formatted = λ is.
          let same : save settings ≡ format = one_command (save settings) format words told is in absurd (cc);
      generated = λ number is.
          let same : save settings ≡ gen number = one_command (save settings) (gen number) words told is in absurd (cc);
      unread = λ number is.
          let same : save settings ≡ gen number = one_command (save settings) (gen number) words told is in absurd (cc);
      nothing = λ other. let is : are_save words ≡ true = words_save (save settings) words told in absurd (cc);
      nothing_saved = λ is. c.save.ensures.nothing;
    }

pub returns-in-Some-Format : goal.returns-in-Some-Format
returns-in-Some-Format g c =
    let words = c.args.words.now in
    let told : Some (format) ≡ command_of words = rw c.in-Some-Format.field-0-is at c.in-Some-Format.ensures.told in
    let olds : List DieState = map g.D.Die.state c.args.dies.items in
    let news : List DieState = map g.D.Die.state c.format-status.new.dies.items in
    record {
      refused = λ is. absurd (formatted_takes c.format-status.result _ _ _ _ c.format-status.ensures.formatted is);
      untouched = λ is. absurd (formatted_takes c.format-status.result _ _ _ _ c.format-status.ensures.formatted is);
      command = inr (words_take format words told);
      read_fault = c.format-status.ensures.read_fault;
      write_fault = c.format-status.ensures.write_fault;
      reads_stay = c.format-status.ensures.reads_stay;
      writes_stay = c.format-status.ensures.writes_stay;
      reads = c.format-status.ensures.reads;
      writes = c.format-status.ensures.writes;
      dies = λ other.
          formatted_back c.format-status.result _ _ _ _ olds news c.format-status.ensures.formatted c.format-status.ensures.dies;
      dies_saved = λ saves. let is : are_save words ≡ false = words_save format words told in absurd (cc);
      dies_stay = λ none. let is : are_loading words ≡ true = words_load format words told in absurd (cc);
      dies_loaded = λ none. c.format-status.ensures.dies;
      caused = c.format-status.ensures.caused;
      headline = λ settings is.
          let same : format ≡ run settings = one_command (format) (run settings) words told is in absurd (cc);
      headline_at_limit = λ settings is.
          let same : format ≡ run settings = one_command (format) (run settings) words told is in absurd (cc);
      headline_front = λ settings is.
          let same : format ≡ run settings = one_command (format) (run settings) words told is in absurd (cc);
      saved = λ other is.
          let same : format ≡ save other = one_command format (save other) words told is in absurd (cc);
      saved_front = λ other is.
          let same : format ≡ save other = one_command format (save other) words told is in absurd (cc);
      saved_failed = λ other is.
          let same : format ≡ save other = one_command format (save other) words told is in absurd (cc);
      saved_at_limit = λ other is.
          let same : format ≡ save other = one_command format (save other) words told is in absurd (cc);
      formatted = λ is. c.format-status.ensures.formatted;
      generated = λ number is.
          let same : format ≡ gen number = one_command (format) (gen number) words told is in absurd (cc);
      unread = λ number is.
          let same : format ≡ gen number = one_command (format) (gen number) words told is in absurd (cc);
      nothing = λ other. c.format-status.ensures.nothing;
      nothing_saved = λ saves. let is : are_save words ≡ false = words_save format words told in absurd (cc);
    }

pub returns-in-Some-Gen : goal.returns-in-Some-Gen
returns-in-Some-Gen g c =
    let words = c.args.words.now in
    let number : ℕ = c.in-Some-Gen.number in
    let told : Some (gen number) ≡ command_of words = rw c.in-Some-Gen.field-0-is at c.in-Some-Gen.ensures.told in
    let dies : List DieState = map g.D.Die.state c.args.dies.items in
    record {
      refused = λ is. absurd (written_takes c.generate-status.result _ _ _ c.generate-status.ensures.written is);
      untouched = λ is. absurd (written_takes c.generate-status.result _ _ _ c.generate-status.ensures.written is);
      command = inr (words_take (gen number) words told);
      read_fault = λ is. absurd (written_reads c.generate-status.result _ _ _ c.generate-status.ensures.written is);
      write_fault = c.generate-status.ensures.write_fault;
      reads_stay = λ is. refl;
      writes_stay = c.generate-status.ensures.writes_stay;
      reads = omega arith;
      writes = c.generate-status.ensures.writes;
      dies = λ other. written_back c.generate-status.result _ _ _ dies c.generate-status.ensures.written;
      dies_saved = λ saves. let is : are_save words ≡ false = words_save (gen number) words told in absurd (cc);
      dies_stay = λ is. refl;
      dies_loaded = λ none. written_loaded c.generate-status.result _ _ _ dies c.generate-status.ensures.written;
      caused =
          written_caused c.generate-status.result _ _ _ (g.S.Source.left c.args.input.now) c.generate-status.ensures.written;
      headline = λ settings is.
          let same : gen number ≡ run settings = one_command (gen number) (run settings) words told is in absurd (cc);
      headline_at_limit = λ settings is.
          let same : gen number ≡ run settings = one_command (gen number) (run settings) words told is in absurd (cc);
      headline_front = λ settings is.
          let same : gen number ≡ run settings = one_command (gen number) (run settings) words told is in absurd (cc);
      saved = λ other is.
          let same : gen number ≡ save other = one_command (gen number) (save other) words told is in absurd (cc);
      saved_front = λ other is.
          let same : gen number ≡ save other = one_command (gen number) (save other) words told is in absurd (cc);
      saved_failed = λ other is.
          let same : gen number ≡ save other = one_command (gen number) (save other) words told is in absurd (cc);
      saved_at_limit = λ other is.
          let same : gen number ≡ save other = one_command (gen number) (save other) words told is in absurd (cc);
      formatted = λ is.
          let same : gen number ≡ format = one_command (gen number) format words told is in absurd (cc);
      generated = of_number _ number words told c.generate-status.ensures.written;
      unread = λ other is. refl;
      nothing = λ other. λ silent. absurd (written_aloud c.generate-status.result _ _ _ c.generate-status.ensures.written silent);
      nothing_saved = λ saves. let is : are_save words ≡ false = words_save (gen number) words told in absurd (cc);
    }
