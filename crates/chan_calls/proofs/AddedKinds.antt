-- What a caller added is what another one added that is as much alone, and one more entry may
-- follow.
use Rattle.std.proofs.Common.{◌≡◌, List, [], ◌∷◌, ◌++◌, refl, sym, subst, ◌∙◌}
use Rattle.ssd_histories.specs.SerialCalls.{entry_of}
use Rattle.ssd_geo.specs.declared.entry.Entry.{Entry}
use Rattle.ssd_geo.specs.declared.kind.Kind.{Kind}
use Rattle.ssd_geo.specs.declared.tag.Tag.{Tag}
use Rattle.chan_calls.specs.Caller.{AddsKinds, CallerView, Comes, SameCaller}

-- what comes upon a seen past comes upon it for another caller that is as much alone
pub comes_by : (a b : CallerView) (tag : Tag) (now : List Entry) → b.seen ≡ a.seen →
    b.number ≡ a.number → Comes a tag now → Comes b tag now
comes_by a b tag now seen_is number_is comes =
    subst (λ (seen : List Entry). Comes (record b { seen = seen }) tag now) (sym seen_is)
    (record {
      others = comes.others;
      now_is = comes.now_is;
      of_others = comes.of_others;
      none_alone = λ none. comes.none_alone (sym number_is ∙ none);
      looks_stay = comes.looks_stay;
      senses_stay = comes.senses_stay;
      faults_stay = comes.faults_stay;
      recovered_stay = comes.recovered_stay;
      uncorrectable_stay = comes.uncorrectable_stay;
    })

pub adds_by : (a b : CallerView) (tag : Tag) (kinds : List Kind) (seen new : List Entry) →
    b.number ≡ a.number → AddsKinds a tag kinds seen new → AddsKinds b tag kinds seen new
adds_by a b tag [] seen new number_is adds = adds
adds_by a b tag (kind ∷ kinds) seen new number_is adds = (
  adds.0,
  comes_by (record a { seen = seen }) (record b { seen = seen }) tag adds.0 refl number_is adds.1,
  adds_by a b tag kinds (entry_of tag kind ∷ adds.0) new number_is adds.2,
)

-- one more entry
pub adds_one : (caller : CallerView) (tag : Tag) (kinds : List Kind) (kind : Kind)
    (seen new now : List Entry) → AddsKinds caller tag kinds seen new →
    Comes (record caller { seen = new }) tag now → AddsKinds caller tag (kinds ++ kind ∷ []) seen
    (entry_of tag kind ∷ now)
adds_one caller tag [] kind seen new now adds comes = (
  now,
  subst (λ (past : List Entry). Comes (record caller { seen = past }) tag now) adds comes,
  refl,
)
adds_one caller tag (first ∷ kinds) kind seen new now adds comes = (
  adds.0,
  adds.1,
  adds_one caller tag kinds kind (entry_of tag first ∷ adds.0) new now adds.2
      comes,
)

-- what two steps leave as it is
pub same_caller_on : (a b c : CallerView) → SameCaller a b → SameCaller b c → SameCaller a c
same_caller_on a b c first next = record {
  limit_stays = next.limit_stays ∙ first.limit_stays;
  shape_stays = next.shape_stays ∙ first.shape_stays;
  session_stays = next.session_stays ∙ first.session_stays;
  number_stays = next.number_stays ∙ first.number_stays;
  bound_stays = next.bound_stays ∙ first.bound_stays;
  reference_stays = next.reference_stays ∙ first.reference_stays;
}
