-- What may a call ask of a drive, and of which worker? It names pages, channels, dies and superblocks that the drive has, and
-- its data fit a page. A worker's settings are what no call changes: all but the data that it recovered last.
use Rattle.std.specs.Prelude.{ℕ, ◌≡◌, ◌/◌, ◌≤◌, ◌<◌, Bool, true, false, List, [], length, All, ⊤}
use Rattle.chan_calls.specs.Workers.{WorkerState}
use Rattle.ssd_formats.specs.TraceText.{content_bytes}
use Rattle.ssd_geo.specs.declared.shape.Shape.{Shape}
use Rattle.ssd_geo.specs.declared.tag.Tag.{Tag}
use Rattle.ssd_geo.specs.declared.trace.Content.{Content}
use Rattle.ssd_geo.specs.declared.trace.Content.TheVariants.{Listed, Words}
use Rattle.ssd_geo.specs.declared.trace.Verb.{Verb}
use Rattle.ssd_histories.specs.Start.{data_of}

-- a worker without the data that it recovered last
abbrev pub settings : WorkerState → WorkerState
settings worker = record worker { data_bytes = [] }

-- content that fits a page of so many data bytes
abbrev pub IsContentOf : ℕ → Content → Type 0
IsContentOf count (Listed list) = length list ≤ count
IsContentOf count (Words number) = ⊤

-- with so many channels of these sizes a page of the host is a row of its channel
abbrev pub IsPageOf : Shape → ℕ → ℕ → Type 0
IsPageOf shape channels page = page / channels < shape.rows

-- so is each page of some hints
abbrev pub HintsFit : Shape → ℕ → List ℕ → Type 0
HintsFit shape channels hints = All (IsPageOf shape channels) hints

-- a verb names what a drive of these sizes with so many channels has, and a write's content fits a
-- page
abbrev pub FitsDrive : Shape → ℕ → Verb → Type 0
FitsDrive shape channels (Verb.Write page content) = IsPageOf shape channels page × IsContentOf shape.bytes content
FitsDrive shape channels (Verb.Read page) = IsPageOf shape channels page
FitsDrive shape channels (Verb.Trim page) = IsPageOf shape channels page
FitsDrive shape channels (Verb.Refresh page) = IsPageOf shape channels page
FitsDrive shape channels (Verb.Collect channel) = channel < channels
FitsDrive shape channels (Verb.Age channel die sb amount) =
    (channel < channels) × (die < shape.dies) × (sb < shape.superblocks) × (1 ≤ amount)
    × (amount ≤ 16383)
FitsDrive shape channels (Verb.Drain count) = ⊤

-- contents have the data of a call, in pages of so many data bytes, if it has any
abbrev pub HasOwnData : ℕ → Tag → Verb → List (Tag × List ℕ) → Type 0
HasOwnData count tag (Verb.Write page content) contents = data_of contents tag ≡ content_bytes count content
HasOwnData count tag verb contents = ⊤

-- whether a verb refreshes pages
abbrev pub refreshes : Verb → Bool
refreshes (Verb.Refresh page) = true
refreshes (Verb.Drain count) = true
refreshes verb = false
