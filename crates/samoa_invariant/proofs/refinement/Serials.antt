-- The serial run of a play is that of its script.
use Rattle.std.proofs.Common.{arith, ◌≡◌, ℕ, zero, suc, ◌≤◌, ◌<◌, refl, sym, ap, ◌∙◌, List, [], ◌∷◌, ◌++◌, take, length, Some, slice_get, ◌==◌, if◌then◌else◌, Bool, true, false}
use Rattle.std.proofs.Math.Seq.{take-length}
use Rattle.samoa_model.specs.declared.ids.EventId.{EventId}
use Rattle.samoa_model.specs.declared.record.Ext.{Ext}
use Rattle.samoa_model.specs.declared.script.Script.{Script}
use Rattle.samoa_model.specs.Scripts.{decl_of, root_of}
use Rattle.samoa_serial.specs.State.{State}
use Rattle.samoa_serial.specs.World.{Rules, States}
use Rattle.samoa_serial.specs.Whole.{event_whole, Ran}
use Rattle.samoa_serial.specs.SerialRun.{ran_of, rules_of, serial, serve_one, Served}
use Rattle.samoa_serial.proofs.SerialLaws.{serial-append}
use Rattle.samoa_invariant.specs.Slots.{At}
use Rattle.samoa_invariant.specs.Play.{Play, stood, whole_of}
use Rattle.samoa_invariant.specs.State.{Core, AllEnded}
use Rattle.samoa_invariant.specs.Inv.{Invariant, AnswersSerially, HasSerialAnswer, PlaysScript}
use Rattle.samoa_invariant.proofs.refinement.Ends.{ended_answers, final_states}

pub take_next : (X : List Ext) (k : ℕ) (x : Ext) → slice_get X k ≡ Some x → take (suc k) X ≡ take k X ++ x ∷ []
take_next [] k x e = cc
take_next (y ∷ ys) zero x e = let same : y ≡ x = cc in ap (λ (z : Ext). z ∷ []) same
take_next (y ∷ ys) (suc k) x e = ap (λ (zs : List Ext). y ∷ zs) (take_next ys k x e)

pub get_some : (X : List Ext) (k : ℕ) → k < length X → (x : Ext) × (slice_get X k ≡ Some x)
get_some [] k lt = absurd (omega arith)
get_some (y ∷ ys) zero lt = (y, refl)
get_some (y ∷ ys) (suc k) lt = get_some ys k (omega arith)

-- a computation whole is that of its external event
pub whole_is : (P : Play) (s : Script) (X : List Ext) → PlaysScript P s X → (k : ℕ) (x : Ext) → slice_get X k ≡ Some x
    → stood P k ≡ (serial s (take k X)).states → whole_of P k ≡ ran_of s (take k X) ((serial s (take k X)).states x.node.0) x
whole_is P s X plays k x e same =
    let R : Rules = rules_of s (take k X) x in
    let budget : ℕ = (decl_of s x).budget in
    let before : States = (serial s (take k X)).states x.node.0 in
    let states : stood P k (P.node k) ≡ before =
    ap (λ (f : At State). f (P.node k)) same ∙ ap (λ (v : ℕ). (serial s (take k X)).states v) (plays.node k x e) in
    ap (λ (r : Rules). event_whole r (P.budget k) (stood P k (P.node k)) (P.root k) (P.args k)) (plays.rules k x e)
    ∙ (ap (λ (b : ℕ). event_whole R b (stood P k (P.node k)) (P.root k) (P.args k)) (plays.budget k x e)
    ∙ (ap (λ (y : States). event_whole R budget y (P.root k) (P.args k)) states
    ∙ (ap (λ (g : EventId). event_whole R budget before g (P.args k)) (plays.root k x e)
    ∙ ap (λ (w : List ℕ). event_whole R budget before (root_of s x.cause) w) (plays.args k x e))))

push : (b : Bool) (f g : States) (p : ℕ) → (if b then f p else g p) ≡ (if b then f else g) p
push true f g p = refl
push false f g p = refl

swap : (f : At State) (r : Ran) (node : ℕ) → let A : Type 0 = At State in let a : A = λ v p. if v == node then r.world.states p else f v p in let b : A = λ v. if v == node then r.world.states else f v in a ≡ b
swap f r node = λ i. λ v p. push (v == node) r.world.states (f v) p i

pub stood_is : (P : Play) (s : Script) (X : List Ext) → PlaysScript P s X → (k : ℕ) → k ≤ length X → stood P k ≡ (serial s (take k X)).states
stood_is P s X plays zero le = plays.first_states
stood_is P s X plays (suc k) le =
    let got : (x : Ext) × (slice_get X k ≡ Some x) = get_some X k (omega arith) in
    let x : Ext = got.0 in
    let ih : stood P k ≡ (serial s (take k X)).states = stood_is P s X plays k (omega arith) in
    let old : At State = (serial s (take k X)).states in
    let ran : Ran = ran_of s (take k X) (old x.node.0) x in
    let whole : whole_of P k ≡ ran = whole_is P s X plays k x got.1 ih in
    let F : At State → Ran → ℕ → At State = λ f r node v p. if v == node then r.world.states p else f v p in
    let first : F (stood P k) (whole_of P k) (P.node k) ≡ F old (whole_of P k) (P.node k) = ap (λ (f : At State). F f (whole_of P k) (P.node k)) ih in
    let second : F old (whole_of P k) (P.node k) ≡ F old ran (P.node k) = ap (λ (r : Ran). F old r (P.node k)) whole in
    let third : F old ran (P.node k) ≡ F old ran x.node.0 = ap (λ (v : ℕ). F old ran v) (plays.node k x got.1) in
    let next : serial s (take (suc k) X) ≡ serve_one s (take k X) (serial s (take k X)) x =
    ap (λ (ys : List Ext). serial s ys) (take_next X k x got.1) ∙ serial-append s (take k X) x in
    first ∙ (second ∙ (third ∙ (swap old ran x.node.0 ∙ sym (ap (λ (d : Served). d.states) next))))

pub script_answers : (P : Play) (s : Script) (X : List Ext) → PlaysScript P s X → (core : Core) → Invariant P core → core.count ≤ length X
    → (k : ℕ) (x : Ext) → k < core.count → slice_get X k ≡ Some x → core.ended k ≡ true → AnswersSerially s X core k x
script_answers P s X plays core i le k x lt got e =
    let a : HasSerialAnswer P core k = ended_answers P core k i lt e in
    let whole : whole_of P k ≡ ran_of s (take k X) ((serial s (take k X)).states x.node.0) x =
    whole_is P s X plays k x got (stood_is P s X plays k (omega arith)) in
    record { entries = a.entries ∙ ap (λ (r : Ran). r.world.entries) whole; ending = a.ending ∙ ap (λ (r : Ran). Some r.value) whole }

-- the final states, by the script
pub script_states : (P : Play) (s : Script) (X : List Ext) → PlaysScript P s X → (core : Core) → Invariant P core → core.count ≡ length X → AllEnded core
    → (v p : ℕ) → core.boxes v p ≡ (serial s X).states v p
script_states P s X plays core i all_admitted all v p =
    final_states P core i all v p
    ∙ (ap (λ (f : At State). f v p) (stood_is P s X plays core.count (omega arith))
    ∙ (ap (λ (n : ℕ). (serial s (take n X)).states v p) all_admitted ∙ ap (λ (ys : List Ext). (serial s ys).states v p) (take-length X)))
