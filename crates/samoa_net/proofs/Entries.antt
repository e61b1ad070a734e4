-- What an entry sends or asks for rests on the node and the tick of its computation alone.
use Rattle.std.proofs.Common.{◌≡◌, ℕ, ◌+◌, ◌≤◌, ◌==◌, Bool, cond, List, [], ◌∷◌, ◌++◌, length, take, refl, sym, ap, ◌∙◌, append-nil, eq-eqb}
use Rattle.std.proofs.lemmas.List.{take_all}
use Rattle.std.specs.Prelude.{filter}
use Rattle.samoa_model.specs.declared.handler.Dest.{Dest}
use Rattle.samoa_model.specs.declared.ids.ChangeId.{ChangeId}
use Rattle.samoa_model.specs.declared.ids.EventId.{EventId}
use Rattle.samoa_model.specs.declared.ids.NodeId.{NodeId}
use Rattle.samoa_model.specs.declared.record.Cause.{Cause}
use Rattle.samoa_model.specs.declared.record.Entry.{Entry}
use Rattle.samoa_model.specs.declared.record.Ext.{Ext}
use Rattle.samoa_model.specs.declared.script.Script.{Script}
use Rattle.samoa_serial.specs.Batch.{admission, asked_by, message_due, sent_by}

pub asked_by-alike : (a b : Ext) (tick : ℕ) (entry : Entry) → a.node ≡ b.node → a.tick ≡ b.tick → asked_by tick a entry ≡ asked_by tick b entry
asked_by-alike a b tick (Entry.Asked call change args) node at =
    ap (λ (n : NodeId). cond (tick == a.tick + 1) (admission tick n.0 (Cause.Change change) args ∷ []) []) node
    ∙ ap (λ t. cond (tick == t + 1) (admission tick b.node.0 (Cause.Change change) args ∷ []) []) at
asked_by-alike a b tick (Entry.Sent call to event args) node at = refl
asked_by-alike a b tick (Entry.Accepted call caller handler arg) node at = refl
asked_by-alike a b tick (Entry.Finished call words) node at = refl
asked_by-alike a b tick (Entry.Refused caller event refusal) node at = refl
asked_by-alike a b tick (Entry.Waiting call event arg) node at = refl
asked_by-alike a b tick (Entry.Delivered call micro arg) node at = refl

pub sent_by-alike : (script : Script) (a b : Ext) (tick : ℕ) (entry : Entry) → a.node ≡ b.node → a.tick ≡ b.tick → sent_by script tick a entry ≡ sent_by script tick b entry
sent_by-alike script a b tick (Entry.Sent call to event args) node at =
    ap (λ (n : NodeId). message_due script tick (record a { node = n }) to event args) node ∙ ap (λ t. message_due script tick (record b { tick = t; cause = a.cause; args = a.args }) to event args) at
sent_by-alike script a b tick (Entry.Asked call change args) node at = refl
sent_by-alike script a b tick (Entry.Accepted call caller handler arg) node at = refl
sent_by-alike script a b tick (Entry.Finished call words) node at = refl
sent_by-alike script a b tick (Entry.Refused caller event refusal) node at = refl
sent_by-alike script a b tick (Entry.Waiting call event arg) node at = refl
sent_by-alike script a b tick (Entry.Delivered call micro arg) node at = refl

-- a change that was asked for is due in the next tick
pub asked_by-next : (ext : Ext) (call : ℕ) (change : ChangeId) (args : List ℕ) → asked_by (ext.tick + 1) ext (Entry.Asked call change args) ≡ admission (ext.tick + 1) ext.node.0 (Cause.Change change) args ∷ []
asked_by-next ext call change args = ap (λ b. cond b (admission (ext.tick + 1) ext.node.0 (Cause.Change change) args ∷ []) []) (eq-eqb (ext.tick + 1) (ext.tick + 1) refl)

-- what else is entered asks for nothing and sends nothing
pub asks_nothing : (ext : Ext) (tick : ℕ) (entry : Entry) → ((call : ℕ) (change : ChangeId) (args : List ℕ) → entry ≡ Entry.Asked call change args → ⊥) → asked_by tick ext entry ≡ []
asks_nothing ext tick (Entry.Asked call change args) other = absurd (other call change args refl)
asks_nothing ext tick (Entry.Sent call to event args) other = refl
asks_nothing ext tick (Entry.Accepted call caller handler arg) other = refl
asks_nothing ext tick (Entry.Finished call words) other = refl
asks_nothing ext tick (Entry.Refused caller event refusal) other = refl
asks_nothing ext tick (Entry.Waiting call event arg) other = refl
asks_nothing ext tick (Entry.Delivered call micro arg) other = refl

pub sends_nothing : (script : Script) (ext : Ext) (tick : ℕ) (entry : Entry)
    → ((call : ℕ) (to : Dest) (event : EventId) (args : List ℕ) → entry ≡ Entry.Sent call to event args → ⊥) → sent_by script tick ext entry ≡ []
sends_nothing script ext tick (Entry.Sent call to event args) other = absurd (other call to event args refl)
sends_nothing script ext tick (Entry.Asked call change args) other = refl
sends_nothing script ext tick (Entry.Accepted call caller handler arg) other = refl
sends_nothing script ext tick (Entry.Finished call words) other = refl
sends_nothing script ext tick (Entry.Refused caller event refusal) other = refl
sends_nothing script ext tick (Entry.Waiting call event arg) other = refl
sends_nothing script ext tick (Entry.Delivered call micro arg) other = refl

-- a list to which nothing is added stays within its limit
pub nothing_more : (most : ℕ) (up : Ext → Bool) (olds olds' news more : List Ext) → length olds ≤ most → olds ≡ olds' → news ≡ olds → more ≡ []
    → news ≡ take most (olds' ++ filter up more)
nothing_more most up olds olds' news more few same now none =
    now ∙ sym (ap (λ (xs : List Ext). take most (olds' ++ filter up xs)) none ∙ ap (take most) (append-nil olds') ∙ ap (take most) (sym same) ∙ take_all most olds few)
