-- Dies that are made one after the other, each of which tells its blocks.
use Rattle.std.proofs.Common.{zero, suc, ◌≡◌, true, List, [], ◌∷◌, ◌++◌, map, sym, subst}
use Rattle.std.proofs.lemmas.List.{map-append}
use Rattle.std.specs.Prelude.{is_some}
use Rattle.drive_dies.specs.Mounting.{AllTell}
use Rattle.onfi_cmd.specs.DieState.{DieState}

-- with one more
one_more : (dies : List DieState) (next : DieState) → AllTell dies → is_some next.told ≡ true → AllTell (dies ++ next ∷ [])
one_more [] next tell tells zero die is =
    let same : next ≡ die = cc in
    subst (λ (other : DieState). is_some other.told ≡ true) same tells
one_more [] next tell tells (suc number) die is = absurd (cc)
one_more (first ∷ dies) next tell tells zero die is = tell zero die is
one_more (first ∷ dies) next tell tells (suc number) die is =
    one_more dies next (λ n other there. tell (suc n) other there) tells number die is

-- so it is of what is seen through a state
pub one_more_tells : {D : Type 0} (state : D → DieState) (dies : List D) (next : D) → AllTell (map state dies)
    → is_some (state next).told ≡ true → AllTell (map state (dies ++ next ∷ []))
one_more_tells state dies next tell tells =
    let apart : map state (dies ++ next ∷ []) ≡ map state dies ++ state next ∷ [] = map-append state dies (next ∷ []) in
    subst AllTell (sym apart) (one_more (map state dies) (state next) tell tells)
