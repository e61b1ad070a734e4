-- The first fault along a list of values.
use Rattle.std.proofs.Common.{◌≡◌, ℕ, zero, suc, ◌+◌, ◌<◌, List, [], ◌∷◌, length, get_or, map, take, Option, Some, None, sym, ap, ◌∙◌, arith, add-one}
use Rattle.serde_json.specs.Data.{Data}
use Rattle.serde_json.specs.View.{view}
use Rattle.serde_json.specs.declared.value.Value.{Value}
use Rattle.samoa_grammar.specs.declared.fault.WalkFault.{WalkFault}
use Rattle.samoa_grammar.specs.Walks.{◌then◌, first_along}
use Rattle.samoa_grammar.proofs.Chains.{then_none}
use Rattle.samoa_form.specs.declared.stop.Stop.{Stop}
use Rattle.samoa_form.specs.declared.stop.Stop.TheVariants as stops
use Rattle.samoa_form.specs.Reads.{Stops}

pub refused_at : (fault : Data → Option WalkFault) (vs : List Value) (i : ℕ) (v : Value) (e : WalkFault) → i < length vs → v ≡ get_or vs i v
    → first_along fault (map view (take i vs)) ≡ None → fault (view v) ≡ Some e → first_along fault (map view vs) ≡ Some e
refused_at fault [] i v e below here before fails = absurd (omega arith)
refused_at fault (w ∷ vs) zero v e below here before fails =
    ap (λ o. o then first_along fault (map view vs)) (ap (λ u. fault (view u)) (sym here) ∙ fails)
refused_at fault (w ∷ vs) (suc i) v e below here before fails =
    let h = then_none (fault (view w)) (first_along fault (map view (take i vs))) before in
    ap (λ o. o then first_along fault (map view vs)) h.0 ∙ refused_at fault vs i v e (omega arith) here h.1 fails

passed_suc : (fault : Data → Option WalkFault) (vs : List Value) (i : ℕ) (v : Value) → i < length vs → v ≡ get_or vs i v
    → first_along fault (map view (take i vs)) ≡ None → fault (view v) ≡ None → first_along fault (map view (take (suc i) vs)) ≡ None
passed_suc fault [] i v below here before passes = absurd (omega arith)
passed_suc fault (w ∷ vs) zero v below here before passes =
    ap (λ o. o then None) (ap (λ u. fault (view u)) (sym here) ∙ passes)
passed_suc fault (w ∷ vs) (suc i) v below here before passes =
    let h = then_none (fault (view w)) (first_along fault (map view (take i vs))) before in
    ap (λ o. o then first_along fault (map view (take (suc i) vs))) h.0 ∙ passed_suc fault vs i v (omega arith) here h.1 passes

pub passed_at : (fault : Data → Option WalkFault) (vs : List Value) (i : ℕ) (v : Value) → i < length vs → v ≡ get_or vs i v
    → first_along fault (map view (take i vs)) ≡ None → fault (view v) ≡ None → first_along fault (map view (take (i + 1) vs)) ≡ None
passed_at fault vs i v below here before passes = rw add-one (passed_suc fault vs i v below here before passes)

pub stops_at : (fault : Data → Option WalkFault) (vs : List Value) (i : ℕ) (v : Value) (e : Stop) → i < length vs → v ≡ get_or vs i v
    → first_along fault (map view (take i vs)) ≡ None → Stops e (fault (view v)) → Stops e (first_along fault (map view vs))
stops_at fault vs i v (stops.Fault f) below here before fails = refused_at fault vs i v f below here before fails
stops_at fault vs i v stops.Memory below here before fails = tt

pub ruleset along = (stops_at, passed_at)
