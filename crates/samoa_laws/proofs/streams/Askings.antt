-- What was asked for at a node is what the replacement layer's box there asked for.
use Rattle.std.proofs.Common.{◌≡◌, ◌≢◌, ◌⊎◌, ℕ, inl, inr, refl, sym, ap, subst, ◌∙◌, append-nil, List, [], ◌∷◌, ◌++◌, map, Bool, true, false, ◌==◌, ◌&&◌, if◌then◌else◌}
use Rattle.std.proofs.lemmas.Bool.Decides.{eqb_tells}
use Rattle.std.proofs.lemmas.List.{map-append}
use Rattle.samoa_model.specs.declared.ids.ChangeId.{ChangeId}
use Rattle.samoa_model.specs.declared.handler.Outcome.{Outcome}
use Rattle.samoa_model.specs.declared.record.Entry.{Entry}
use Rattle.samoa_model.specs.declared.record.Ext.{Ext}
use Rattle.samoa_model.specs.declared.script.Script.{Script}
use Rattle.samoa_serial.specs.declared.call.Call.{Call}
use Rattle.samoa_serial.specs.Whole.{Ran}
use Rattle.samoa_serial.specs.SerialRun.{serial}
use Rattle.samoa_laws.specs.trace.Trace.{HandlerStep, given_at, micro_of, output_of, outputs, outputs_at, trace}
use Rattle.samoa_laws.specs.trace.Causes.{IsTrace}
use Rattle.samoa_laws.specs.trace.Group.{Asking, IsGroup, asked_at, asked_in}
use Rattle.samoa_laws.proofs.trace.Entries.{node_outputs}
use Rattle.samoa_laws.proofs.trace.Worlds.{outcome_is}
use Rattle.samoa_laws.specs.replacement.History.{asked, changes_in}
use Rattle.samoa_laws.specs.streams.Streams.{repl_at, repl_step_of}
use Rattle.samoa_laws.proofs.streams.Outlets.{NoChange, kind_changes}

abbrev pub pair : Asking → ChangeId × List ℕ
pair a = (a.change, a.arg)

asked-append : (xs ys : List Entry) → asked_in (xs ++ ys) ≡ asked_in xs ++ asked_in ys
asked-append [] ys = refl
asked-append (Entry.Asked call change arg ∷ xs) ys = ap (λ (qs : List Asking). record { change = change; arg = arg } ∷ qs) (asked-append xs ys)
asked-append (Entry.Delivered call micro arg ∷ xs) ys = asked-append xs ys
asked-append (Entry.Accepted number caller handler arg ∷ xs) ys = asked-append xs ys
asked-append (Entry.Refused caller event refusal ∷ xs) ys = asked-append xs ys
asked-append (Entry.Waiting call event arg ∷ xs) ys = asked-append xs ys
asked-append (Entry.Finished call reply ∷ xs) ys = asked-append xs ys
asked-append (Entry.Sent call to event arg ∷ xs) ys = asked-append xs ys

asked_outputs : (es : List Entry) → asked_in (outputs es) ≡ asked_in es
asked_outputs [] = refl
asked_outputs (Entry.Asked call change arg ∷ es) = ap (λ (qs : List Asking). record { change = change; arg = arg } ∷ qs) (asked_outputs es)
asked_outputs (Entry.Delivered call micro arg ∷ es) = asked_outputs es
asked_outputs (Entry.Accepted number caller handler arg ∷ es) = asked_outputs es
asked_outputs (Entry.Refused caller event refusal ∷ es) = asked_outputs es
asked_outputs (Entry.Waiting call event arg ∷ es) = asked_outputs es
asked_outputs (Entry.Finished call reply ∷ es) = asked_outputs es
asked_outputs (Entry.Sent call to event arg ∷ es) = asked_outputs es

asked_at_outputs : (v : ℕ) (exts : List Ext) (rans : List Ran) → asked_in (outputs_at v exts rans) ≡ asked_at v exts rans
asked_at_outputs v [] rans = refl
asked_at_outputs v (ext ∷ exts) [] = refl
asked_at_outputs v (ext ∷ exts) (ran ∷ rans) =
    asked-append (if ext.node.0 == v then outputs ran.world.entries else []) (outputs_at v exts rans)
    ∙ (ap (λ (qs : List Asking). asked_in (if ext.node.0 == v then outputs ran.world.entries else []) ++ qs) (asked_at_outputs v exts rans) ∙ go (ext.node.0 == v))
  where
    go : (b : Bool) → asked_in (if b then outputs ran.world.entries else []) ++ asked_at v exts rans ≡ (if b then asked_in ran.world.entries ++ asked_at v exts rans else asked_at v exts rans)
    go true = ap (λ (qs : List Asking). qs ++ asked_at v exts rans) (asked_outputs ran.world.entries)
    go false = refl

-- what one step asks for
one_asks : (c : Call) (o : Outcome) → map pair (asked_in (output_of c o)) ≡ changes_in o
one_asks c (Outcome.Change change arg frame) = refl
one_asks c (Outcome.Deliver arg frame) = refl
one_asks c (Outcome.Done reply) = refl
one_asks c (Outcome.Call event arg frame) = refl
one_asks c (Outcome.Later event arg frame) = refl
one_asks c (Outcome.Send to event arg frame) = refl

asks_nothing : (c : Call) (o : Outcome) → NoChange o → asked_in (output_of c o) ≡ []
asks_nothing c (Outcome.Change change arg frame) ne = absurd ne
asks_nothing c (Outcome.Deliver arg frame) ne = refl
asks_nothing c (Outcome.Done reply) ne = refl
asks_nothing c (Outcome.Call event arg frame) ne = refl
asks_nothing c (Outcome.Later event arg frame) ne = refl
asks_nothing c (Outcome.Send to event arg frame) ne = refl

-- what the steps at a node ask for is what its box asks for
pub box_asked : (script : Script) (exts : List Ext) → IsGroup script → (v : ℕ) (past : List HandlerStep) → IsTrace script exts past
    → map pair (asked_in (given_at v past)) ≡ asked (repl_at v past)
box_asked script exts group v [] t = refl
box_asked script exts group v (x ∷ past) t =
    ap (map pair) (asked-append (given_at v past) (if x.node == v then (if x.effective then output_of x.call x.outcome else []) else []))
    ∙ (map-append pair (asked_in (given_at v past)) (asked_in (if x.node == v then (if x.effective then output_of x.call x.outcome else []) else []))
    ∙ (ap (λ (qs : List (ChangeId × List ℕ)). qs ++ map pair (asked_in (if x.node == v then (if x.effective then output_of x.call x.outcome else []) else []))) (box_asked script exts group v past t.1)
    ∙ go (x.node == v) (eqb_tells (micro_of x) 6)))
  where
    here : (e : Bool) → map pair (asked_in (if e then output_of x.call x.outcome else [])) ≡ (if e then changes_in x.outcome else [])
    here true = one_asks x.call x.outcome
    here false = refl

    silent : micro_of x ≢ 6 → (e : Bool) → map pair (asked_in (if e then output_of x.call x.outcome else [])) ≡ []
    silent ne true =
        ap (map pair) (asks_nothing x.call x.outcome
        (subst NoChange (sym (outcome_is script exts group past x t.0)) (kind_changes script.nodes x.node (micro_of x) x.old x.moment ne)))
    silent ne false = refl

    go : (n : Bool) → ((micro_of x == 6) ≡ true) × (micro_of x ≡ 6) ⊎ ((micro_of x == 6) ≡ false) × (micro_of x ≢ 6)
        → asked (repl_at v past) ++ map pair (asked_in (if n then (if x.effective then output_of x.call x.outcome else []) else []))
        ≡ asked (if n && (micro_of x == 6) then repl_step_of x ∷ repl_at v past else repl_at v past)
    go true (inl six) = rw six.0 (ap (λ (qs : List (ChangeId × List ℕ)). asked (repl_at v past) ++ qs) (here x.effective))
    go true (inr other) = rw other.0 (ap (λ (qs : List (ChangeId × List ℕ)). asked (repl_at v past) ++ qs) (silent other.1 x.effective) ∙ append-nil (asked (repl_at v past)))
    go false which = append-nil (asked (repl_at v past))

-- of whole computations
pub asked_is : (script : Script) (exts before : List Ext) → IsGroup script → (v : ℕ) → IsTrace script exts (trace script before)
    → map pair (asked_at v before (serial script before).comps) ≡ asked (repl_at v (trace script before))
asked_is script exts before group v t =
    ap (map pair) (sym (asked_at_outputs v before (serial script before).comps) ∙ ap asked_in (node_outputs script before v))
    ∙ box_asked script exts group v (trace script before) t
