-- What holds of every list of handlers that an event can be bound to, and attempts that are never refused.
use Rattle.std.proofs.Common.{◌≡◌, ℕ, zero, suc, refl, List, [], ◌∷◌, ◌++◌, get_or, set, Option, None, Bool, true, false, ◌==◌, if◌then◌else◌}
use Rattle.samoa_model.specs.Allowed.{Attempt, attempt_all, declares, first_refusal}
use Rattle.samoa_model.specs.Scripts.{Table, caused, change_at, first_table, rebound, table_after, table_from, table_of}
use Rattle.samoa_model.specs.declared.ids.ChangeId.{ChangeId}
use Rattle.samoa_model.specs.declared.ids.HandlerId.{HandlerId}
use Rattle.samoa_model.specs.declared.record.Cause.{Cause}
use Rattle.samoa_model.specs.declared.record.Entry.{Entry}
use Rattle.samoa_model.specs.declared.record.Ext.{Ext}
use Rattle.samoa_model.specs.declared.script.Decl.{Decl}
use Rattle.samoa_model.specs.declared.script.Script.{Script}
use Rattle.samoa_model.specs.declared.script.TableDef.{TableDef}
use Rattle.samoa_serial.specs.Lists.{Each}

-- each event's list in a table is such
abbrev pub HoldsIn : (ℕ → List HandlerId → Type 0) → Table → Type 0
HoldsIn P table = (event : ℕ) → P event (get_or table event [])

set-holds : (P : ℕ → List HandlerId → Type 0) (table : Table) (i : ℕ) (hs : List HandlerId) → P i hs → HoldsIn P table → HoldsIn P (set table i hs)
set-holds P [] i hs new all event = all event
set-holds P (xs ∷ table) zero hs new all zero = new
set-holds P (xs ∷ table) zero hs new all (suc event) = all (suc event)
set-holds P (xs ∷ table) (suc i) hs new all zero = all zero
set-holds P (xs ∷ table) (suc i) hs new all (suc event) = set-holds (λ (e : ℕ). P (suc e)) table i hs new (λ e. all (suc e)) event

rebound-holds : (P : ℕ → List HandlerId → Type 0) (ts : List TableDef) (table : Table) → Each (λ (t : TableDef). P t.event.0 t.handlers) ts → HoldsIn P table
    → HoldsIn P (rebound ts table)
rebound-holds P [] table new all = all
rebound-holds P (t ∷ ts) table new all = rebound-holds P ts (set table t.event.0 t.handlers) new.1 (set-holds P table t.event.0 t.handlers new.0 all)

-- what holds of the first lists and of those of each change
pub record IsBound (script : Script) (P : ℕ → List HandlerId → Type 0) : Type 0 where
  pub first : HoldsIn P (first_table script)
  pub changed : (change : ChangeId) → Each (λ (t : TableDef). P t.event.0 t.handlers) (change_at script change.0).table

-- holds of all lists of all tables
pub table-holds : (script : Script) (P : ℕ → List HandlerId → Type 0) → IsBound script P → (exts : List Ext) (node : ℕ) → HoldsIn P (table_of script exts node)
table-holds script P bound exts node = go exts (first_table script) bound.first
  where
    caused-holds : (cause : Cause) (table : Table) → HoldsIn P table → HoldsIn P (caused script cause table)
    caused-holds (Cause.Event event) table all = all
    caused-holds (Cause.Change change) table all = rebound-holds P (change_at script change.0).table table (bound.changed change) all

    after-holds : (b : Bool) (cause : Cause) (table : Table) → HoldsIn P table → HoldsIn P (if b then caused script cause table else table)
    after-holds true cause table all = caused-holds cause table all
    after-holds false cause table all = all

    go : (exts : List Ext) (table : Table) → HoldsIn P table → HoldsIn P (table_from script node table exts)
    go [] table all = all
    go (ext ∷ later) table all = go later (table_after script node table ext) (after-holds (ext.node.0 == node) ext.cause table all)

-- a set that declares all of these refuses none
first_refusal-none : (micros : List ℕ) (entries : List Entry) (caller : Option HandlerId) (before hs : List HandlerId)
    → Each (λ (h : HandlerId). declares (Decl.Set micros) h.micro.0 ≡ true) hs → first_refusal (Decl.Set micros) entries caller before hs ≡ None
first_refusal-none micros entries caller before [] all = refl
first_refusal-none micros entries caller before (h ∷ hs) all = rw all.0 (first_refusal-none micros entries caller (before ++ h ∷ []) hs all.1)

pub never_refused : (micros : List ℕ) (entries : List Entry) (caller : Option HandlerId) (h : HandlerId) (hs : List HandlerId)
    → Each (λ (g : HandlerId). declares (Decl.Set micros) g.micro.0 ≡ true) (h ∷ hs) → attempt_all (Decl.Set micros) entries caller (h ∷ hs) ≡ Attempt.Accepts h hs
never_refused micros entries caller h hs all = rw (first_refusal-none micros entries caller [] (h ∷ hs) all) refl
