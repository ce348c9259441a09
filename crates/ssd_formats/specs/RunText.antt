-- What does a run print? The histories of all channels, the replies of all actors, and a summary of counts. The texts
-- are this project's own.
use Rattle.std.specs.Prelude.{ℕ, ◌+◌, ◌-◌, ◌==◌, Bool, true, false, ◌&&◌, not, if◌then◌else◌, List, [], ◌∷◌, ◌++◌, map, length, zip, count_by, sum_by, codes, decimal}
use Rattle.std.specs.List.{range_with_len}
use Rattle.ssd_formats.specs.Numbers.{Text}
use Rattle.ssd_formats.specs.EntryText.{line_of, histories_text}
use Rattle.ssd_formats.specs.ReplyText.{actors_text}
use Rattle.ssd_geo.specs.declared.entry.Entry.{Entry}
use Rattle.ssd_geo.specs.declared.kind.Kind.{Kind}
use Rattle.ssd_geo.specs.declared.reply.CallKind.{CallKind}
use Rattle.ssd_geo.specs.declared.reply.Reply.{Reply}
use Rattle.ssd_geo.specs.declared.kind.Kind.TheVariants as did
use Rattle.ssd_geo.specs.declared.reply.CallKind.TheVariants as kinds
use Rattle.ssd_geo.specs.declared.reply.Reply.TheVariants as replies

-- the counts of a run
pub record Summary : Type 0 where
  -- of the replies to writes
  pub write_ok : ℕ
  pub write_full : ℕ
  pub write_readonly : ℕ
  pub write_diefault : ℕ
  -- of the replies to reads
  pub read_data : ℕ
  pub read_empty : ℕ
  pub read_uncorrectable : ℕ
  pub read_diefault : ℕ
  -- of the replies to trims
  pub trims : ℕ
  -- of entries, over all channels: a bad one is a write, a copy or an erase, and a fault is one of a sense or of ageing
  pub moves : ℕ
  pub condemns : ℕ
  pub changes : ℕ
  pub stays : ℕ
  pub picks : ℕ
  pub erases : ℕ
  pub bads : ℕ
  pub faults : ℕ
  pub senses : ℕ
  -- of the data of reads at each rung, from 0
  pub rungs : List ℕ
  -- of hints
  pub pushed : ℕ
  pub dropped : ℕ
  pub taken : ℕ

-- what an answered call was and what it was answered
abbrev pub Answered : Type 0
Answered = CallKind × Reply

-- the answered calls of all actors: the replies to an actor's first calls, and the kinds of all its calls
abbrev pub answered_calls : List (List CallKind) → List (List Reply) → List Answered
answered_calls [] answers = []
answered_calls (of ∷ kinds) [] = []
answered_calls (of ∷ kinds) (given ∷ answers) = zip of given ++ answered_calls kinds answers

-- which kind a call is
abbrev pub counts_as_write : CallKind → Bool
counts_as_write kinds.Write = true
counts_as_write other = false

abbrev pub counts_as_read : CallKind → Bool
counts_as_read kinds.Read = true
counts_as_read other = false

abbrev pub counts_as_trim : CallKind → Bool
counts_as_trim kinds.Trim = true
counts_as_trim other = false

-- which reply one is
abbrev pub counts_as_ok : Reply → Bool
counts_as_ok replies.Ok = true
counts_as_ok other = false

abbrev pub counts_as_full : Reply → Bool
counts_as_full replies.Full = true
counts_as_full other = false

abbrev pub counts_as_read_only : Reply → Bool
counts_as_read_only replies.ReadOnly = true
counts_as_read_only other = false

abbrev pub counts_as_die_fault : Reply → Bool
counts_as_die_fault (replies.DieFault die) = true
counts_as_die_fault other = false

abbrev pub counts_as_empty : Reply → Bool
counts_as_empty replies.Empty = true
counts_as_empty other = false

abbrev pub counts_as_uncorrectable : Reply → Bool
counts_as_uncorrectable replies.Uncorrectable = true
counts_as_uncorrectable other = false

abbrev pub counts_as_data : Reply → Bool
counts_as_data (replies.Data rung bytes) = true
counts_as_data other = false

-- whether a reply is data recovered at this rung
abbrev pub is_data_at : ℕ → Reply → Bool
is_data_at rung (replies.Data at bytes) = at == rung
is_data_at rung other = false

-- whether a reply is data whose rung isn't 0: such a read has a hint
abbrev pub is_hinted : Reply → Bool
is_hinted reply = counts_as_data reply && not (is_data_at 0 reply)

-- how many hints a reply took
abbrev pub taken_by : Reply → ℕ
taken_by (replies.Drained pages) = length pages
taken_by other = 0

-- what an entry's step did
abbrev pub counts_as_move : Kind → Bool
counts_as_move (did.Move at slot) = true
counts_as_move other = false

abbrev pub counts_as_condemn : Kind → Bool
counts_as_condemn (did.Condemn at) = true
counts_as_condemn other = false

abbrev pub counts_as_changed : Kind → Bool
counts_as_changed (did.Changed at found) = true
counts_as_changed other = false

abbrev pub counts_as_stay : Kind → Bool
counts_as_stay (did.Stay at worn) = true
counts_as_stay other = false

abbrev pub counts_as_pick : Kind → Bool
counts_as_pick (did.Pick sb) = true
counts_as_pick other = false

abbrev pub counts_as_erase : Kind → Bool
counts_as_erase (did.Erase sb) = true
counts_as_erase other = false

abbrev pub counts_as_sense : Kind → Bool
counts_as_sense (did.Sense at place level) = true
counts_as_sense other = false

abbrev pub counts_as_bad : Kind → Bool
counts_as_bad (did.BadWrite row slot die fault) = true
counts_as_bad (did.BadCopy at slot die fault) = true
counts_as_bad (did.BadErase sb die fault) = true
counts_as_bad other = false

-- a fault that isn't a bad one
abbrev pub counts_as_fault : Kind → Bool
counts_as_fault (did.FaultSense at place level) = true
counts_as_fault (did.FaultAge die sb amount) = true
counts_as_fault other = false

-- how many answered calls of a kind have a reply
abbrev pub replies_count : (CallKind → Bool) → (Reply → Bool) → List Answered → ℕ
replies_count is_kind is_reply calls = count_by (λ call. is_kind call.0 && is_reply call.1) calls

-- how many entries of all channels are of a kind
abbrev pub entries_count : (Kind → Bool) → List (List Entry) → ℕ
entries_count is_kind histories = sum_by (count_by (λ entry. is_kind entry.kind)) histories

-- how many replies of all actors pass a test
abbrev pub answers_count : (Reply → Bool) → List (List Reply) → ℕ
answers_count test answers = sum_by (count_by test) answers

-- the counts of a run with so many read levels, from its histories, the kinds of its calls, its replies and the
-- number of hints that were dropped
abbrev pub summary_of : ℕ → List (List Entry) → List (List CallKind) → List (List Reply) → ℕ → Summary
summary_of levels histories kinds answers dropped =
    let calls = answered_calls kinds answers in
    record {
      write_ok = replies_count counts_as_write counts_as_ok calls;
      write_full = replies_count counts_as_write counts_as_full calls;
      write_readonly = replies_count counts_as_write counts_as_read_only calls;
      write_diefault = replies_count counts_as_write counts_as_die_fault calls;
      read_data = replies_count counts_as_read counts_as_data calls;
      read_empty = replies_count counts_as_read counts_as_empty calls;
      read_uncorrectable = replies_count counts_as_read counts_as_uncorrectable calls;
      read_diefault = replies_count counts_as_read counts_as_die_fault calls;
      trims = replies_count counts_as_trim (λ reply. true) calls;
      moves = entries_count counts_as_move histories;
      condemns = entries_count counts_as_condemn histories;
      changes = entries_count counts_as_changed histories;
      stays = entries_count counts_as_stay histories;
      picks = entries_count counts_as_pick histories;
      erases = entries_count counts_as_erase histories;
      bads = entries_count counts_as_bad histories;
      faults = entries_count counts_as_fault histories;
      senses = entries_count counts_as_sense histories;
      rungs = map (λ rung. answers_count (is_data_at rung) answers) (range_with_len 0 (levels + 2));
      pushed = answers_count is_hinted answers - dropped;
      dropped = dropped;
      taken = sum_by (sum_by taken_by) answers;
    }

-- a line of a word and numbers
abbrev pub count_line : Text → List ℕ → Text
count_line word counts = line_of (word ∷ map decimal counts)

-- the lines of the summary after its first
abbrev pub counts_text : Summary → Text
counts_text s =
    count_line (codes "write") (s.write_ok ∷ s.write_full ∷ s.write_readonly ∷ s.write_diefault ∷ []) ++
    count_line (codes "read") (s.read_data ∷ s.read_empty ∷ s.read_uncorrectable ∷ s.read_diefault ∷ []) ++
    count_line (codes "trim") (s.trims ∷ []) ++
    line_of (codes "move" ∷ decimal s.moves ∷ codes "condemn" ∷ decimal s.condemns ∷ codes "changed" ∷ decimal s.changes ∷ codes "stay" ∷ decimal s.stays ∷ []) ++
    line_of (codes "pick" ∷ decimal s.picks ∷ codes "erase" ∷ decimal s.erases ∷ codes "bad" ∷ decimal s.bads ∷ codes "fault" ∷ decimal s.faults ∷ []) ++
    count_line (codes "sense") (s.senses ∷ []) ++
    count_line (codes "rung") s.rungs ++
    count_line (codes "hint") (s.pushed ∷ s.dropped ∷ s.taken ∷ []) ++
    line_of (codes "end" ∷ [])

-- the summary
abbrev pub summary_text : Summary → Text
summary_text s = line_of (codes "summary" ∷ []) ++ counts_text s

-- all that a run with so many read levels prints: whole, or the part from the summary on
abbrev pub run_text : Bool → ℕ → List (List Entry) → List (List CallKind) → List (List Reply) → ℕ → Text
run_text whole levels histories kinds answers dropped =
    (if whole then histories_text histories ++ actors_text answers else []) ++
    summary_text (summary_of levels histories kinds answers dropped)
