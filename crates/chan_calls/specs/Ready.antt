-- What does a worker keep? A ladder, a decoder and buffers of the sizes of its drive. The data of
-- the page that was recovered stand in the ladder.
use Rattle.std.specs.Prelude.{ℕ, ◌≡◌, ◌<◌, ◌≤◌, ◌^◌, List, [], length, unwrap_or}
use Rattle.chan_calls.specs.Workers.{WorkerState}
use Rattle.chan_calls.specs.declared.read_reply.ReadReply.{ReadReply}
use Rattle.chan_calls.specs.declared.worker.PageRoom.{PageRoom}
use Rattle.chan_calls.specs.declared.worker.Worker.TheInside.{Inside}
use Rattle.retry_ladder.specs.Decoder.{IsCodeOf}
use Rattle.retry_ladder.specs.View.{LadderView, state_in}
use Rattle.retry_ladder.specs.declared.ask.Answer.{Answer}
use Rattle.retry_ladder.specs.declared.ask.Answer.TheVariants.{Recovered, Uncorrectable}
use Rattle.ssd_geo.specs.Coding.{data_in, word_bytes_in}
use Rattle.ssd_geo.specs.Ladder.{LadderState, asks, recovered, uncorrectable}
use Rattle.ssd_geo.specs.Limits.{code_bytes_of, payload_bytes_of}
use Rattle.ssd_geo.specs.Shape.{sizes_of}
use Rattle.ssd_geo.specs.declared.shape.Shape.{Shape}

-- the data that a ladder's state has for a serial and a row
abbrev pub data_in_state : Shape → ℕ → ℕ → LadderState → List ℕ
data_in_state shape serial row (asks place level) = []
data_in_state shape serial row (recovered rung word) = unwrap_or (data_in shape serial row word) []
data_in_state shape serial row uncorrectable = []

-- the data that a ladder recovered
abbrev pub data_found : LadderView → List ℕ
data_found ladder = data_in_state ladder.shape ladder.look.serial ladder.look.row (state_in ladder)

-- what contracts see of what a worker keeps
abbrev pub worker_state : Inside → WorkerState
worker_state a = record {
  shape = a.shape;
  session = a.session;
  code = a.decoder.decoder.code;
  iterations = a.decoder.decoder.limit;
  levels = a.ladder.levels;
  step = a.ladder.step;
  data_bytes = data_found a.ladder;
}

-- the room of a worker for a page's payload, for one codeword and for the page's word
pub record HasBuffers (shape : Shape) (room : PageRoom) : Type 0 where
  pub payload_room : length room.payload.items ≡ payload_bytes_of (sizes_of shape)
  pub code_room : length room.code.items ≡ code_bytes_of (sizes_of shape)
  pub word_room : length room.word.items ≡ word_bytes_in shape

-- what a worker keeps fits its sizes
pub record IsReady (a : Inside) : Type 0 where
  pub few_sessions : a.session < 2 ^ 24
  pub code_of : IsCodeOf a.shape a.decoder.decoder.code
  pub ladder_shape : a.ladder.shape ≡ a.shape
  pub few_levels : length a.ladder.levels ≤ 16
  pub buffers : HasBuffers a.shape a.room

-- a reply says what a ladder answered
abbrev pub IsReplyOf : Answer → ReadReply → Type 0
IsReplyOf (Recovered rung) reply = reply ≡ ReadReply.Bytes rung
IsReplyOf Uncorrectable reply = reply ≡ ReadReply.Uncorrectable
