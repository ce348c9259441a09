use Rattle.hint_queue.proofs.hints.Hints.new.Given as goal

abbrev pub ghosts-open : goal.ghosts-open
ghosts-open a = record { passes = a.passes; pages = a.pages }
