-- How many handler steps a trace has.
use Rattle.std.proofs.Common.{◌≡◌, ◌≤◌, ℕ, suc, ◌+◌, ◌*◌, refl, sym, ap, subst, ◌∙◌, arith, append_assoc, append-nil, List, [], ◌∷◌, ◌++◌, length, length-append, add-one}
use Rattle.std.proofs.Math.Nat.{mul-suc}
use Rattle.samoa_model.specs.Allowed.{Attempt}
use Rattle.samoa_model.specs.Scripts.{decl_of, root_of}
use Rattle.samoa_model.specs.declared.ids.EventId.{EventId}
use Rattle.samoa_model.specs.declared.ids.HandlerId.{HandlerId}
use Rattle.samoa_model.specs.declared.record.Ext.{Ext}
use Rattle.samoa_model.specs.declared.script.Script.{Script}
use Rattle.samoa_serial.specs.World.{Attempts, Turn}
use Rattle.samoa_serial.specs.SerialRun.{ran_of, rules_of, serial}
use Rattle.samoa_serial.proofs.Bound.{AcceptsAtMostFour, IsAtMostFour, turns_of_event-at_most}
use Rattle.samoa_laws.specs.trace.Trace.{HandlerStep, Walk, first_walk, trace, walk, walked}
use Rattle.samoa_laws.specs.trace.Causes.{IsSmall}
use Rattle.samoa_laws.proofs.trace.Stands.{Resolves}
use Rattle.samoa_laws.proofs.trace.Points.{resolves, trace-append}

pub walk-length : (comp node : ℕ) (w : Walk) (ts : List Turn) → length (walk comp node w ts).past ≡ length w.past + length ts
walk-length comp node w [] = omega arith
walk-length comp node w (t ∷ ts) = omega (arith, walk-length comp node (walked comp node w t) ts)

at_most_four : (attempt : Attempts) (handlers : EventId → List HandlerId) → Resolves attempt handlers → ((event : EventId) → length (handlers event) ≤ 4) → AcceptsAtMostFour attempt
at_most_four attempt handlers resolves few entries caller event = go (attempt entries caller event) refl
  where
    go : (a : Attempt) → attempt entries caller event ≡ a → IsAtMostFour a
    go (Attempt.Refuses r) e = tt
    go (Attempt.Accepts h hs) e =
        let len : length (handlers event) ≡ suc (length hs) = ap (λ (xs : List HandlerId). length xs) (resolves.all entries caller event h hs e) in
        omega (arith, few event, len)

times : (a n : ℕ) → a * (n + 1) ≡ a * n + a
times a n = rw add-one (mul-suc a n)

one-length : (script : Script) (b : ℕ) → IsSmall script b → (before : List Ext) (ext : Ext) → length (trace script (before ++ ext ∷ [])) ≤ length (trace script before) + (5 * b + 4)
one-length script b small before ext =
    let ran = ran_of script before ((serial script before).states ext.node.0) ext in
    let turns : length ran.world.turns ≤ 5 * (decl_of script ext).budget + 4 =
    turns_of_event-at_most (rules_of script before ext) (at_most_four _ _ (resolves _ _) (λ event. small.few (before ++ ext ∷ []) ext.node.0 event))
    (decl_of script ext).budget ((serial script before).states ext.node.0) (root_of script ext.cause) ext.args in
    let all : length (trace script (before ++ ext ∷ [])) ≡ length (trace script before) + length ran.world.turns =
    ap (λ (past : List HandlerStep). length past) (trace-append script before ext)
    ∙ walk-length (length before) ext.node.0 (first_walk script (serial script before) (trace script before) ext) ran.world.turns in
    omega (arith, small.budget ext, turns, all)

pub trace-length : (script : Script) (b : ℕ) → IsSmall script b → (exts : List Ext) → length (trace script exts) ≤ (5 * b + 4) * length exts
trace-length script b small exts = go [] exts (omega arith)
  where
    go : (before later : List Ext) → length (trace script before) ≤ (5 * b + 4) * length before → length (trace script (before ++ later)) ≤ (5 * b + 4) * length (before ++ later)
    go before [] le = subst (λ (xs : List Ext). length (trace script xs) ≤ (5 * b + 4) * length xs) (sym (append-nil before)) le
    go before (ext ∷ later) le =
        let len : length (before ++ ext ∷ []) ≡ length before + 1 = length-append before (ext ∷ []) in
        let one : length (trace script (before ++ ext ∷ [])) ≤ length (trace script before) + (5 * b + 4) = one-length script b small before ext in
        let step : (5 * b + 4) * (length before + 1) ≡ (5 * b + 4) * length before + (5 * b + 4) = times (5 * b + 4) (length before) in
        let now : length (trace script (before ++ ext ∷ [])) ≤ (5 * b + 4) * length (before ++ ext ∷ []) = rw len (omega (arith, one, le, step)) in
        subst (λ (xs : List Ext). length (trace script xs) ≤ (5 * b + 4) * length xs) (append_assoc before (ext ∷ []) later) (go (before ++ ext ∷ []) later now)
