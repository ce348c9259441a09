-- What has each trace that is read? From 1 to 32 actors and at most 2^20 calls; an actor's calls are numbered from 0 in
-- their order, and each argument is within its range.
use Rattle.std.specs.Prelude.{◌≡◌, ℕ, ◌^◌, ◌<◌, ◌≤◌, List, [], ◌∷◌, ◌++◌, length, count_by, Ok, All}
use Rattle.ssd_geo.specs.Limits.{Sizes}
use Rattle.ssd_formats.specs.Numbers.{Text}
use Rattle.ssd_formats.specs.TraceText.{is_of_actor, most_calls, pages_of_drive, read_trace}
use Rattle.ssd_geo.specs.declared.trace.Content.{Content}
use Rattle.ssd_geo.specs.declared.trace.Content.TheVariants.{Listed, Words}
use Rattle.ssd_geo.specs.declared.trace.Trace.{Trace}
use Rattle.ssd_geo.specs.declared.trace.TraceCall.{TraceCall}
use Rattle.ssd_geo.specs.declared.trace.Verb.{Verb}
use Rattle.ssd_geo.specs.declared.trace.Verb.TheVariants.{Write, Read, Trim, Refresh, Collect, Drain, Age}

-- the data of a write on a drive with so many data bytes a page: at most so many bytes, or a number of 64 bits
abbrev pub IsContentOf : ℕ → Content → Type 0
IsContentOf most (Listed list) = (length list ≤ most) × All (λ byte. byte < 256) list
IsContentOf most (Words number) = number < 2 ^ 64

-- the arguments of a verb are those of a call on a drive of these sizes
abbrev pub IsVerbOf : Sizes → Verb → Type 0
IsVerbOf sizes (Write page content) = (page < pages_of_drive sizes) × IsContentOf sizes.bytes content
IsVerbOf sizes (Read page) = page < pages_of_drive sizes
IsVerbOf sizes (Trim page) = page < pages_of_drive sizes
IsVerbOf sizes (Refresh page) = page < pages_of_drive sizes
IsVerbOf sizes (Collect channel) = channel < sizes.channels
IsVerbOf sizes (Drain count) = (1 ≤ count) × (count ≤ 16)
IsVerbOf sizes (Age channel die sb amount) =
    (channel < sizes.channels) × (die < sizes.dies) × (sb < sizes.superblocks) × (1 ≤ amount) × (amount ≤ 16383)

-- A call after those before: there is such an actor, which has so many calls among them, and the arguments are in range.
pub record IsNumberedAfter (sizes : Sizes) (actors : ℕ) (before : List TraceCall) (call : TraceCall) : Type 0 where
  pub actor : call.tag.actor < actors
  pub number : call.tag.call ≡ count_by (is_of_actor call.tag.actor) before
  pub verb : IsVerbOf sizes call.verb

-- each of these calls, which come after those before
abbrev pub AreNumberedAfter : Sizes → ℕ → List TraceCall → List TraceCall → Type 0
AreNumberedAfter sizes actors before [] = Unit {0}
AreNumberedAfter sizes actors before (call ∷ calls) =
    IsNumberedAfter sizes actors before call × AreNumberedAfter sizes actors (before ++ call ∷ []) calls

-- so many calls, and each is numbered
pub record AreCalls (sizes : Sizes) (actors : ℕ) (calls : List TraceCall) : Type 0 where
  pub few : length calls ≤ most_calls
  pub all : AreNumberedAfter sizes actors [] calls

-- a trace
pub record IsNumbered (sizes : Sizes) (trace : Trace) : Type 0 where
  pub actors_low : 1 ≤ trace.actors
  pub actors_high : trace.actors ≤ 32
  pub few : length trace.calls ≤ most_calls
  pub calls : AreNumberedAfter sizes trace.actors [] trace.calls

-- each trace that is read is one
abbrev pub TracesAreNumbered : Type 0
TracesAreNumbered = (sizes : Sizes) (text : Text) (trace : Trace) → read_trace sizes text ≡ Ok trace → IsNumbered sizes trace
