-- The data of a write are found by its call's tag, where the calls are numbered by their actors.
use Rattle.std.proofs.Common.{ℕ, ◌≡◌, false, List, [], ◌∷◌, ◌++◌, refl, ◌∙◌, arith}
use Rattle.std.specs.Prelude.{All}
use Rattle.std.specs.List.{cons_option}
use Rattle.std.proofs.lemmas.List.Elements.{All-nil, All-cons, All-head, All-tail}
use Rattle.serial_laws.proofs.NumberedTags.{IsBelow, counts_in, later_tag, numbered_back, numbered_front, numbers_are_below, other_way}
use Rattle.ssd_formats.specs.TraceText.{content_bytes, contents_of, written_by}
use Rattle.ssd_geo.specs.declared.tag.Tag.{Tag}
use Rattle.ssd_geo.specs.declared.trace.Content.{Content}
use Rattle.ssd_geo.specs.declared.trace.TraceCall.{TraceCall}
use Rattle.ssd_geo.specs.declared.trace.Verb.{Verb}
use Rattle.ssd_histories.specs.History.{is_same_tag}
use Rattle.ssd_histories.specs.Start.{data_of}
use Rattle.run_laws.specs.ServedRuns.{TagsGiveData}
use Rattle.ssd_histories.proofs.SameTags.{same_tag}

-- the data of a write are found behind calls of other tags
data_found : (count : ℕ) (before after : List TraceCall) (tag : Tag) (page : ℕ) (content : Content) → All (λ call. is_same_tag call.tag tag ≡ false) before → data_of (contents_of count (before ++ record { tag = tag; verb = Verb.Write page content } ∷ after)) tag ≡ content_bytes count content
data_found count [] after tag page content others = rw (same_tag tag, data_of) refl
data_found count (call ∷ before) after tag page content others =
    found_behind call.tag call.verb (All-head (λ (other : TraceCall). is_same_tag other.tag tag ≡ false) call before others)
    ∙ data_found count before after tag page content (All-tail (λ (other : TraceCall). is_same_tag other.tag tag ≡ false) call before others)
  where
    found_behind : (other : Tag) (verb : Verb) → is_same_tag other tag ≡ false → data_of (cons_option (written_by count other verb) (contents_of count (before ++ record { tag = tag; verb = Verb.Write page content } ∷ after))) tag ≡ data_of (contents_of count (before ++ record { tag = tag; verb = Verb.Write page content } ∷ after)) tag
    found_behind other (Verb.Write named written) differs = rw (differs, data_of) refl
    found_behind other (Verb.Read named) differs = refl
    found_behind other (Verb.Trim named) differs = refl
    found_behind other (Verb.Refresh named) differs = refl
    found_behind other (Verb.Collect channel) differs = refl
    found_behind other (Verb.Drain hints) differs = refl
    found_behind other (Verb.Age channel die sb amount) differs = refl

all_other : (counts : ℕ → ℕ) (tag : Tag) (calls : List TraceCall) → tag.call ≡ counts tag.actor → All (λ call. IsBelow counts call.tag) calls → All (λ call. is_same_tag call.tag tag ≡ false) calls
all_other counts tag [] number below = All-nil (λ (call : TraceCall). is_same_tag call.tag tag ≡ false)
all_other counts tag (call ∷ calls) number below =
    All-cons (λ (other : TraceCall). is_same_tag other.tag tag ≡ false) call calls
    (other_way tag call.tag (later_tag counts tag call.tag (omega (arith, number)) (All-head (λ (other : TraceCall). IsBelow counts other.tag) call calls below)))
    (all_other counts tag calls number (All-tail (λ (other : TraceCall). IsBelow counts other.tag) call calls below))

pub tags_give_data : TagsGiveData
tags_give_data actors count before after tag page content numbered =
    let written : TraceCall = record { tag = tag; verb = Verb.Write page content } in
    data_found count before after tag page content
    (all_other (counts_in before) tag before (numbered_back actors [] before (written ∷ after) numbered).0.is_number
    (numbers_are_below actors [] before (numbered_front actors [] before (written ∷ after) numbered)))
