-- One write of data to a row: the word that a worker makes is that of the call, so the channel goes
-- on standing.
use Rattle.std.proofs.Common.{◌≡◌, ℕ, List, Option, Some, None, sym, ap, subst, ◌∙◌}
use Rattle.std.specs.Prelude.{IfSome}
use Rattle.chan_state.specs.Steps.{IsWordOf}
use Rattle.ssd_geo.specs.BaseMatrix.{BaseMatrix}
use Rattle.ssd_geo.specs.Coding.{matrix_of, payload_of}
use Rattle.ssd_geo.specs.PageWord.{word_of}
use Rattle.ssd_geo.specs.Shape.{sizes_of}
use Rattle.ssd_histories.specs.PastRows.{serial_of}
use Rattle.ssd_histories.specs.Start.{Start, data_of}
use Rattle.ssd_geo.specs.declared.shape.Shape.{Shape}
use Rattle.ssd_geo.specs.declared.tag.Tag.{Tag}
use Rattle.chan_calls.specs.Caller.{CallerView, IsBoundWord, TakesData}
use Rattle.chan_calls.specs.Calls.{WritesData}
use Rattle.chan_calls.specs.Stepping.{Standing, WritesOn}
use Rattle.chan_calls.specs.Workers.{MayCall, WorkerState, WorksFor}

-- the word that a worker makes of a serial, a row and data
abbrev pub word_made_by : WorkerState → ℕ → ℕ → List ℕ → List ℕ
word_made_by worker serial row bytes =
    word_of (sizes_of worker.shape) worker.code (payload_of worker.shape serial row bytes)

is_word_of : (worker : WorkerState) (start : Start) (contents : List (Tag × List ℕ)) (tag : Tag)
    (row : ℕ) (bytes : List ℕ) (serial : ℕ) (word : List ℕ) →
    WorksFor worker start → data_of contents tag ≡ bytes → serial ≡ serial_of worker.session tag →
    word ≡ word_made_by worker serial row bytes → IsWordOf start contents tag row word
is_word_of worker start contents tag row bytes serial word works data_is serial_is word_is =
    word_is
    ∙ ap (λ (code : BaseMatrix). word_of (sizes_of worker.shape) code
    (payload_of worker.shape serial row bytes)) works.code_is
    ∙ ap (λ (n : ℕ). word_of (sizes_of worker.shape) (matrix_of start.base)
    (payload_of worker.shape n row bytes))
    (serial_is ∙ ap (λ (session : ℕ). serial_of session tag) works.session_is)
    ∙ ap (λ (data_bytes : List ℕ). word_of (sizes_of worker.shape) (matrix_of start.base)
    (payload_of worker.shape (serial_of start.base.session tag) row data_bytes)) (sym data_is)
    ∙ ap (λ (shape : Shape). word_of (sizes_of shape) (matrix_of start.base)
    (payload_of shape (serial_of start.base.session tag) row (data_of contents tag)))
    works.shape_is

-- the word that was encoded, of the payload that was made
pub word_made : (matrix code : BaseMatrix) (shape : Shape) (serial row : ℕ)
    (bytes payload encoded : List ℕ) → payload ≡ payload_of shape serial row bytes →
    encoded ≡ word_of (sizes_of shape) matrix payload → matrix ≡ code →
    encoded ≡ word_of (sizes_of shape) code (payload_of shape serial row bytes)
word_made matrix code shape serial row bytes payload encoded payload_is encoded_is same =
    encoded_is ∙ ap (λ (m : BaseMatrix). word_of (sizes_of shape) m payload) same
    ∙ ap (word_of (sizes_of shape) code) payload_is

pub writes_data : (worker : WorkerState) (old new : CallerView) (stood stands : Standing)
    (tag : Tag) (row : ℕ) (bytes : List ℕ) (serial : ℕ) (word : List ℕ) →
    serial ≡ serial_of worker.session tag → word ≡ word_made_by worker serial row bytes →
    WritesOn old new stood stands tag row word →
    WritesData worker old new stood stands tag bytes
writes_data worker old new stood stands tag row bytes serial word serial_is word_is writes =
    λ start contents works is_of stood_for data_is.
    writes start contents is_of stood_for (is_word_of worker start contents tag row bytes serial
    word works data_is serial_is word_is)

-- the word is that to which the channel is bound
pub bound_word : (worker : WorkerState) (caller : CallerView) (stands : Standing) (tag : Tag)
    (row : ℕ) (bytes : List ℕ) (serial : ℕ) (word : List ℕ) →
    serial ≡ serial_of worker.session tag → word ≡ word_made_by worker serial row bytes →
    MayCall worker caller stands → TakesData caller tag bytes → IsBoundWord caller tag row word
bound_word worker caller stands tag row bytes serial word serial_is word_is may takes =
    by_bound caller.bound may.bound takes
  where
    by_bound : (b : Option (Start × List (Tag × List ℕ))) →
        IfSome b (λ bound. bound ≡ (may.start, may.contents)) →
        IfSome b (λ bound. data_of bound.1 tag ≡ bytes) →
        IfSome b (λ bound. IsWordOf bound.0 bound.1 tag row word)
    by_bound None same data_is = same
    by_bound (Some bound) same data_is =
        is_word_of worker bound.0 bound.1 tag row bytes serial word
        (subst (λ (b : Start × List (Tag × List ℕ)). WorksFor worker b.0) (sym same) may.works)
        data_is serial_is word_is
