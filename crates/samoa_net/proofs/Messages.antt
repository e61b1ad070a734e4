-- Messages, one receiver after another.
use Rattle.std.proofs.Common.{◌≡◌, ℕ, ◌+◌, Bool, true, false, ◌&&◌, cond, List, [], ◌∷◌, map, refl, ap, ◌∙◌}
use Rattle.std.specs.Prelude.{filter}
use Rattle.samoa_model.specs.declared.handler.Dest.{Dest}
use Rattle.samoa_model.specs.declared.record.Ext.{Ext}
use Rattle.samoa_model.specs.declared.script.Script.{Script}
use Rattle.samoa_serial.specs.Batch.{is_due, is_up, message_due, receivers}
use Rattle.samoa_net.specs.Messages.{admission_at, reaches, sender_of}
use Rattle.samoa_net.specs.declared.sent.Message.{Message}

-- the admissions by a message at some nodes
abbrev pub arrived : Script → Message → List ℕ → List Ext
arrived script message nodes = filter (reaches script message) (map (admission_at message) nodes)

one_test : (due up : Bool) (x : Ext) (n : ℕ) (ns : List ℕ) (test : Ext → Bool) (at : ℕ → Ext) (rest : List Ext) → at n ≡ x → test x ≡ up → filter test (map at ns) ≡ rest
    → filter test (map at (cond due (n ∷ ns) ns)) ≡ cond (due && up) (x ∷ rest) rest
one_test true up x n ns test at rest e t h =
    ap (λ (y : Ext). cond (test y) (y ∷ filter test (map at ns)) (filter test (map at ns))) e
    ∙ ap (λ b. cond b (x ∷ filter test (map at ns)) (filter test (map at ns))) t ∙ ap (λ (l : List Ext). cond up (x ∷ l) l) h
one_test false up x n ns test at rest e t h = h

-- the tests may be made at once
at_once : (script : Script) (message : Message) (nodes : List ℕ)
    → filter (is_up script (message.tick + 1)) (map (admission_at message) (filter (λ node. is_due script message.from.0 node message.tick (message.tick + 1)) nodes))
    ≡ arrived script message nodes
at_once script message [] = refl
at_once script message (n ∷ ns) =
    one_test (is_due script message.from.0 n message.tick (message.tick + 1)) (is_up script (message.tick + 1) (admission_at message n)) (admission_at message n) n
    (filter (λ node. is_due script message.from.0 node message.tick (message.tick + 1)) ns) (is_up script (message.tick + 1)) (admission_at message)
    (arrived script message ns) refl refl (at_once script message ns)

pub arrived-is : (script : Script) (message : Message) (to : Dest)
    → filter (is_up script (message.tick + 1)) (message_due script (message.tick + 1) (sender_of message) to message.event message.args)
    ≡ arrived script message (receivers script to)
arrived-is script message to = at_once script message (receivers script to)
