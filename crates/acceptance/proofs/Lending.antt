-- Calls that are lent one after the other.
use Rattle.std.proofs.Common.{◌≡◌, ℕ, ◌+◌, ◌<◌, ◌≤◌, List, [], ◌∷◌, ◌++◌, map, length, get_or, take, sym, ap, ◌∙◌, ap₂, take_all}
use mathlib.Core.List.{map-append}
use Rattle.std.proofs.lemmas.List.{take_more}
use Rattle.std.specs.Borrow.{Bor}
use Rattle.std.specs.Global.{Global}
use Rattle.std.specs.Prelude.{Vec}
use Rattle.histories.specs.Calls as calls
use Rattle.replay.specs.declared.call.Call.{Call}
use Rattle.replay.specs.Events.{call_of, call_owned}

pub one_more : (cs : List (Call (Vec ℕ Global))) (i : ℕ) (lent lent' : List (Call (Bor (List ℕ)))) (d : Call (Vec ℕ Global)) (c : Call (Bor (List ℕ))) → i < length cs → map call_of lent ≡ map call_owned (take i cs) → call_of c ≡ call_owned (get_or cs i d) → lent' ≡ lent ++ c ∷ [] → map call_of lent' ≡ map call_owned (take (i + 1) cs)
one_more cs i lent lent' d c lt so_far is pushed =
    ap (map call_of) pushed ∙ map-append call_of lent (c ∷ [])
    ∙ ap₂ (λ (x : List calls.Call) (y : calls.Call). x ++ y ∷ []) so_far is
    ∙ sym (ap (map call_owned) (take_more cs i d lt) ∙ map-append call_owned (take i cs) (get_or cs i d ∷ []))

pub all_lent : (cs : List (Call (Vec ℕ Global))) (i : ℕ) (lent : List (Call (Bor (List ℕ)))) → length cs ≤ i → map call_of lent ≡ map call_owned (take i cs) → map call_of lent ≡ map call_owned cs
all_lent cs i lent le so_far = so_far ∙ ap (map call_owned) (take_all i cs le)
