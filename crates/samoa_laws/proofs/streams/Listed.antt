-- The handlers that the group stack's events can be bound to.
use Rattle.std.proofs.Common.{◌≡◌, ◌⊎◌, ℕ, zero, suc, inl, inr, refl, sym, ap, subst, arith, List, [], ◌∷◌, ◌++◌, map, get_or}
use Rattle.samoa_model.specs.Scripts.{no_change, resolve, table_of}
use Rattle.samoa_model.specs.declared.ids.EventId.{EventId}
use Rattle.samoa_model.specs.declared.ids.HandlerId.{HandlerId}
use Rattle.samoa_model.specs.declared.record.Ext.{Ext}
use Rattle.samoa_model.specs.declared.script.ChangeDef.{ChangeDef}
use Rattle.samoa_model.specs.declared.script.EventDef.{EventDef}
use Rattle.samoa_model.specs.declared.script.Script.{Script}
use Rattle.samoa_model.specs.declared.script.TableDef.{TableDef}
use Rattle.samoa_serial.specs.Lists.{Each}
use Rattle.samoa_laws.specs.trace.Trace.{HandlerStep}
use Rattle.samoa_laws.specs.trace.Causes.{FollowsIn}
use Rattle.samoa_laws.specs.trace.Group.{IsGroup, group_changes, group_events, handler}
use Rattle.samoa_laws.proofs.trace.Steps.{setting}
use Rattle.samoa_laws.proofs.trace.Tables.{IsBound, table-holds}

-- the events that matter here: send, rb_up, rb_cast, propose, ab_up, ab_cast, switched
pub record IsListed (e : ℕ) (hs : List HandlerId) : Type 0 where
  pub send : e ≡ 1 → hs ≡ handler 0 0 ∷ []
  pub rb_up : e ≡ 7 → hs ≡ handler 3 2 ∷ handler 4 1 ∷ []
  pub rb_cast : e ≡ 8 → hs ≡ handler 2 0 ∷ []
  pub propose : e ≡ 10 → hs ≡ handler 3 0 ∷ []
  pub ab_up : e ≡ 11 → hs ≡ handler 6 1 ∷ []
  pub ab_cast : e ≡ 12 → (hs ≡ handler 4 0 ∷ []) ⊎ (hs ≡ handler 5 0 ∷ [])
  pub switched : e ≡ 18 → hs ≡ handler 6 2 ∷ []

abbrev first_list : ℕ → List HandlerId
first_list e = get_or (map (λ (d : EventDef). d.handlers) group_events) e []

first-listed : (e : ℕ) → IsListed e (first_list e)
first-listed e = record {
  send = λ is. ap first_list is;
  rb_up = λ is. ap first_list is;
  rb_cast = λ is. ap first_list is;
  propose = λ is. ap first_list is;
  ab_up = λ is. ap first_list is;
  ab_cast = λ is. inl (ap first_list is);
  switched = λ is. ap first_list is;
}

cast-listed : (hs : List HandlerId) → (hs ≡ handler 4 0 ∷ []) ⊎ (hs ≡ handler 5 0 ∷ []) → IsListed 12 hs
cast-listed hs which = record {
  send = λ is. absurd (omega (arith, is));
  rb_up = λ is. absurd (omega (arith, is));
  rb_cast = λ is. absurd (omega (arith, is));
  propose = λ is. absurd (omega (arith, is));
  ab_up = λ is. absurd (omega (arith, is));
  ab_cast = λ is. which;
  switched = λ is. absurd (omega (arith, is));
}

change-listed : (c : ℕ) → Each (λ (t : TableDef). IsListed t.event.0 t.handlers) (get_or group_changes c no_change).table
change-listed zero = (cast-listed _ (inr refl), tt)
change-listed (suc zero) = (cast-listed _ (inl refl), tt)
change-listed (suc (suc c)) = tt

all-listed : (script : Script) → IsGroup script → IsBound script IsListed
all-listed script group = record {
  first = λ e. subst (λ (ds : List EventDef). IsListed e (get_or (map (λ (d : EventDef). d.handlers) ds) e [])) (sym group.events) (first-listed e);
  changed = λ change. subst (λ (cs : List ChangeDef). Each (λ (t : TableDef). IsListed t.event.0 t.handlers) (get_or cs change.0 no_change).table) (sym group.changes) (change-listed change.0);
}

-- the handlers of an event in a computation
pub listed : (script : Script) (exts : List Ext) → IsGroup script → (past : List HandlerStep) (x : HandlerStep) (f : FollowsIn script exts past x) (e : EventId)
    → IsListed e.0 ((setting f).handlers e)
listed script exts group past x f e = table-holds script IsListed (all-listed script group) (f.before ++ f.ext ∷ []) f.ext.node.0 e.0

pub listed_of : (script : Script) → IsGroup script → (exts : List Ext) (node : ℕ) (e : EventId) → IsListed e.0 (resolve (table_of script exts node) e)
listed_of script group exts node e = table-holds script IsListed (all-listed script group) exts node e.0
