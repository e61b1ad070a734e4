-- The stream of a node is what its box delivered.
use Rattle.std.proofs.Common.{◌≡◌, ◌<◌, ◌≤◌, ◌^◌, ℕ, refl, sym, ap, subst, ◌∙◌, append-nil, arith, List, [], ◌∷◌, ◌++◌, length, Bool, true, false, ◌==◌, ◌&&◌, if◌then◌else◌}
use Rattle.samoa_model.specs.declared.handler.Outcome.{Outcome}
use Rattle.samoa_model.specs.declared.record.Entry.{Entry}
use Rattle.samoa_model.specs.declared.record.Ext.{Ext}
use Rattle.samoa_model.specs.declared.script.Script.{Script}
use Rattle.samoa_serial.specs.declared.call.Call.{Call}
use Rattle.samoa_serial.specs.Whole.{Ran}
use Rattle.samoa_serial.specs.SerialRun.{serial}
use Rattle.samoa_laws.specs.trace.Trace.{HandlerStep, given_at, micro_of, output_of, outputs, outputs_at, trace}
use Rattle.samoa_laws.specs.trace.Group.{IsGroupHistory}
use Rattle.samoa_laws.proofs.transport.Accepted.{group_length}
use Rattle.samoa_laws.proofs.trace.Entries.{node_outputs}
use Rattle.samoa_laws.proofs.trace.Points.{trace-is_trace}
use Rattle.samoa_laws.specs.lists.Lists.{IsApart}
use Rattle.samoa_laws.specs.replacement.History.{begin_alike, stream, words_in}
use Rattle.samoa_laws.proofs.replacement.Histories.{stream_apart}
use Rattle.samoa_laws.specs.streams.Streams.{repl_setup, delivered_at, delivered_in, repl_at, repl_step_of, stream_at}
use Rattle.samoa_laws.proofs.streams.Views.{goes_on_at, history_at, length-repl_at}

-- the stream of these entries, one after another
delivered-append : (xs ys : List Entry) → delivered_in (xs ++ ys) ≡ delivered_in xs ++ delivered_in ys
delivered-append [] ys = refl
delivered-append (Entry.Delivered call micro arg ∷ xs) ys = go (micro.0 == 6) (delivered-append xs ys)
  where
    go : (b : Bool) → delivered_in (xs ++ ys) ≡ delivered_in xs ++ delivered_in ys
        → (if b then arg ∷ delivered_in (xs ++ ys) else delivered_in (xs ++ ys)) ≡ (if b then arg ∷ delivered_in xs else delivered_in xs) ++ delivered_in ys
    go true ih = ap (λ (ws : List (List ℕ)). arg ∷ ws) ih
    go false ih = ih
delivered-append (Entry.Accepted number caller handler arg ∷ xs) ys = delivered-append xs ys
delivered-append (Entry.Refused caller event refusal ∷ xs) ys = delivered-append xs ys
delivered-append (Entry.Waiting call event arg ∷ xs) ys = delivered-append xs ys
delivered-append (Entry.Finished call reply ∷ xs) ys = delivered-append xs ys
delivered-append (Entry.Sent call to event arg ∷ xs) ys = delivered-append xs ys
delivered-append (Entry.Asked call change arg ∷ xs) ys = delivered-append xs ys

-- only outputs are delivered
delivered_outputs : (es : List Entry) → delivered_in (outputs es) ≡ delivered_in es
delivered_outputs [] = refl
delivered_outputs (Entry.Delivered call micro arg ∷ es) =
    ap (λ (ws : List (List ℕ)). if micro.0 == 6 then arg ∷ ws else ws) (delivered_outputs es)
delivered_outputs (Entry.Accepted number caller handler arg ∷ es) = delivered_outputs es
delivered_outputs (Entry.Refused caller event refusal ∷ es) = delivered_outputs es
delivered_outputs (Entry.Waiting call event arg ∷ es) = delivered_outputs es
delivered_outputs (Entry.Finished call reply ∷ es) = delivered_outputs es
delivered_outputs (Entry.Sent call to event arg ∷ es) = delivered_outputs es
delivered_outputs (Entry.Asked call change arg ∷ es) = delivered_outputs es

delivered_at_outputs : (v : ℕ) (exts : List Ext) (rans : List Ran) → delivered_in (outputs_at v exts rans) ≡ delivered_at v exts rans
delivered_at_outputs v [] rans = refl
delivered_at_outputs v (ext ∷ exts) [] = refl
delivered_at_outputs v (ext ∷ exts) (ran ∷ rans) =
    delivered-append (if ext.node.0 == v then outputs ran.world.entries else []) (outputs_at v exts rans)
    ∙ (ap (λ (ws : List (List ℕ)). delivered_in (if ext.node.0 == v then outputs ran.world.entries else []) ++ ws) (delivered_at_outputs v exts rans)
    ∙ ap (λ (ws : List (List ℕ)). ws ++ delivered_at v exts rans) (go (ext.node.0 == v)))
  where
    go : (b : Bool) → delivered_in (if b then outputs ran.world.entries else []) ≡ (if b then delivered_in ran.world.entries else [])
    go true = delivered_outputs ran.world.entries
    go false = refl

-- what one step delivers
nothing : (b : Bool) → ◌≡◌ {A = List (List ℕ)} [] (if b then [] else [])
nothing true = refl
nothing false = refl

one_delivers : (c : Call) (o : Outcome) → delivered_in (output_of c o) ≡ (if c.handler.micro.0 == 6 then words_in o else [])
one_delivers c (Outcome.Deliver arg frame) = refl
one_delivers c (Outcome.Done reply) = nothing (c.handler.micro.0 == 6)
one_delivers c (Outcome.Call event arg frame) = nothing (c.handler.micro.0 == 6)
one_delivers c (Outcome.Later event arg frame) = nothing (c.handler.micro.0 == 6)
one_delivers c (Outcome.Send to event arg frame) = nothing (c.handler.micro.0 == 6)
one_delivers c (Outcome.Change change arg frame) = nothing (c.handler.micro.0 == 6)

-- what the steps at a node deliver is the stream of its box
pub box_stream : (v : ℕ) (past : List HandlerStep) → delivered_in (given_at v past) ≡ stream (repl_at v past)
box_stream v [] = refl
box_stream v (x ∷ past) =
    delivered-append (given_at v past) (if x.node == v then (if x.effective then output_of x.call x.outcome else []) else [])
    ∙ (ap (λ (ws : List (List ℕ)). ws ++ delivered_in (if x.node == v then (if x.effective then output_of x.call x.outcome else []) else [])) (box_stream v past)
    ∙ go (x.node == v) (micro_of x == 6) (one_delivers x.call x.outcome))
  where
    words : Bool → List (List ℕ)
    words e = if e then words_in x.outcome else []

    here : (e : Bool) → delivered_in (output_of x.call x.outcome) ≡ words_in x.outcome → delivered_in (if e then output_of x.call x.outcome else []) ≡ words e
    here true is = is
    here false is = refl

    silent : (e : Bool) → delivered_in (output_of x.call x.outcome) ≡ [] → delivered_in (if e then output_of x.call x.outcome else []) ≡ []
    silent true is = is
    silent false is = refl

    go : (n m : Bool) → delivered_in (output_of x.call x.outcome) ≡ (if m then words_in x.outcome else [])
        → stream (repl_at v past) ++ delivered_in (if n then (if x.effective then output_of x.call x.outcome else []) else [])
        ≡ stream (if n && m then repl_step_of x ∷ repl_at v past else repl_at v past)
    go true true is = ap (λ (ws : List (List ℕ)). stream (repl_at v past) ++ ws) (here x.effective is)
    go true false is = ap (λ (ws : List (List ℕ)). stream (repl_at v past) ++ ws) (silent x.effective is) ∙ append-nil (stream (repl_at v past))
    go false m is = append-nil (stream (repl_at v past))

-- the stream of a node is what its box delivered
pub stream_is : (script : Script) (exts : List Ext) (v : ℕ) → stream_at script exts v ≡ stream (repl_at v (trace script exts))
stream_is script exts v =
    sym (delivered_at_outputs v exts (serial script exts).comps)
    ∙ (ap (λ (es : List Entry). delivered_in es) (node_outputs script exts v) ∙ box_stream v (trace script exts))

-- no message stands twice in it
pub apart : (script : Script) (exts : List Ext) (v : ℕ) → IsGroupHistory script exts → IsApart begin_alike (stream_at script exts v)
apart script exts v history =
    let short : length (trace script exts) < 2 ^ 32 = group_length script exts history in
    let fewer : length (repl_at v (trace script exts)) ≤ length (trace script exts) = length-repl_at v (trace script exts) in
    subst (IsApart begin_alike) (sym (stream_is script exts v))
    (stream_apart (repl_setup script v) (repl_at v (trace script exts)) (history_at script exts history.group v (trace script exts) (trace-is_trace script exts))
    (goes_on_at script exts history.group v (trace script exts) (trace-is_trace script exts)) (omega (arith, short, fewer)))
