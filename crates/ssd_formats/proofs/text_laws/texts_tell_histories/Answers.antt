use Rattle.ssd_formats.proofs.LineLaws.{histories_are_read, whole_text_tells}
use Rattle.ssd_formats.proofs.text_laws.texts_tell_histories.Goals as goal

pub returns-clause-read : goal.returns-clause-read
returns-clause-read c = λ histories h. histories_are_read histories h

pub returns-clause-told : goal.returns-clause-told
returns-clause-told c =
    λ levels levels' histories histories' kinds kinds' answers answers' dropped dropped' h h' e.
    whole_text_tells levels levels' histories histories' kinds kinds' answers answers' dropped dropped' h h' e
