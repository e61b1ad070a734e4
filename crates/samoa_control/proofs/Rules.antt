-- What a script in range makes of the rules of an admission.
use Rattle.std.proofs.Common.{arith, ◌≡◌, ◌<◌, ◌≤◌, ◌+◌, ◌⊎◌, inl, inr, ℕ, zero, suc, List, [], ◌∷◌, length, replicate, get_or, ap, refl, ◌∙◌}
use Rattle.std.proofs.lemmas.Bool.{cases_lt}
use Rattle.std.proofs.lemmas.List.{length-map, length-replicate}
use Rattle.std.proofs.lemmas.List.Elements.{All-get_or}
use Rattle.samoa_model.specs.declared.ids.EventId.{EventId}
use Rattle.samoa_model.specs.declared.ids.NodeId.{NodeId}
use Rattle.samoa_model.specs.declared.script.EventDef.{EventDef}
use Rattle.samoa_bind.specs.Bound.{epochs_of, first_tables, table_at as bound_at}
use Rattle.samoa_control.specs.Kept.{AreTables}
use Rattle.samoa_control.proofs.Names.{counted}
use Rattle.samoa_model.specs.declared.record.Cause.{Cause}
use Rattle.samoa_model.specs.declared.record.Cause.TheVariants.{Event, Change}
use Rattle.samoa_model.specs.declared.record.Ext.{Ext}
use Rattle.samoa_model.specs.declared.script.DeclDef.{DeclDef}
use Rattle.samoa_model.specs.declared.script.Script.{Script}
use Rattle.samoa_model.specs.Range.{IsInRange, IsExtOf, IsCauseOf, IsChangeInRange, IsDeclOf, IsEventInRange, IsEventOf}
use Rattle.samoa_model.specs.Scripts.{Table, change_at, decl_of, event_at, root_of, no_change, no_decl, no_event, first_table}
use Rattle.samoa_control.specs.Known.{decl_number}

pub decl-within : (script : Script) (ext : Ext) → IsInRange script → IsExtOf script ext → decl_number script ext < length script.decls
decl-within script ext in_range known = go ext.cause known.cause
  where
    at : (event : EventId) → IsEventOf script event → (event_at script event.0).decl < length script.decls
    at event lt = (All-get_or (IsEventInRange script) script.events event.0 no_event lt in_range.events).decl

    go : (cause : Cause) → IsCauseOf script cause → (event_at script (root_of script cause).0).decl < length script.decls
    go (Event event) lt = at event lt
    go (Change change) lt = at (change_at script change.0).event (All-get_or (IsChangeInRange script) script.changes change.0 no_change lt in_range.changes).event

pub decl-of : (script : Script) (ext : Ext) → IsInRange script → IsExtOf script ext → IsDeclOf script (decl_of script ext).decl
decl-of script ext in_range known =
    All-get_or (λ (d : DeclDef). IsDeclOf script d.decl) script.decls (decl_number script ext) no_decl (decl-within script ext in_range known) in_range.decls

-- the tables of a script in range
tables-at : (n : ℕ) (table : Table) (v : ℕ) → v < n → get_or (replicate n (table ∷ [])) v [] ≡ table ∷ []
tables-at zero table v lt = absurd (omega (arith, lt))
tables-at (suc n) table zero lt = refl
tables-at (suc n) table (suc v) lt = tables-at n table v (omega (arith, lt))

tables-past : (n : ℕ) (table : Table) (v : ℕ) → n ≤ v → get_or (replicate n (table ∷ [])) v [] ≡ []
tables-past zero table v le = refl
tables-past (suc n) table zero le = absurd (omega (arith, le))
tables-past (suc n) table (suc v) le = tables-past n table v (omega (arith, le))

first_at : (script : Script) (node : NodeId) (epoch : ℕ) → epoch < length (epochs_of (first_tables script) node) → bound_at (first_tables script) node epoch ≡ first_table script
first_at script node epoch lt = go (cases_lt node.0 script.nodes)
  where
    go : (node.0 < script.nodes) ⊎ (script.nodes ≤ node.0) → bound_at (first_tables script) node epoch ≡ first_table script
    go (inl below) =
        let is : epochs_of (first_tables script) node ≡ first_table script ∷ [] = tables-at script.nodes (first_table script) node.0 below in
        let zeroth : epoch ≡ 0 = (let long : length (epochs_of (first_tables script) node) ≡ 1 = ap length is in omega (arith, long, lt)) in
        ap (λ (ts : List Table). get_or ts epoch []) is ∙ ap (λ (e : ℕ). get_or (first_table script ∷ []) e []) zeroth
    go (inr le) =
        let is : epochs_of (first_tables script) node ≡ [] = tables-past script.nodes (first_table script) node.0 le in
        let none : length (epochs_of (first_tables script) node) ≡ 0 = ap length is in
        absurd (omega (arith, none, lt))

pub tables-first : (script : Script) → IsInRange script → AreTables script (first_tables script)
tables-first script in_range = record {
  size = length-replicate script.nodes (first_table script ∷ []);
  changes = refl;
  some = λ node lt. let one : length (epochs_of (first_tables script) node) ≡ 1 = ap length (tables-at script.nodes (first_table script) node.0 lt) in omega (arith, one);
  counted = λ node epoch lt. rw (first_at script node epoch lt) (counted script in_range);
  events = λ node epoch lt. ap length (first_at script node epoch lt) ∙ length-map script.events (λ (e : EventDef). e.handlers);
}

pub first-present : (script : Script) (node : NodeId) (epoch : ℕ) → node.0 < script.nodes → epoch + 1 ≡ length (epochs_of (first_tables script) node)
    → bound_at (first_tables script) node epoch ≡ first_table script
first-present script node epoch lt last = first_at script node epoch (omega (arith, last))

pub first-epochs : (script : Script) (node : NodeId) → length (epochs_of (first_tables script) node) ≤ 1
first-epochs script node = go (cases_lt node.0 script.nodes)
  where
    go : (node.0 < script.nodes) ⊎ (script.nodes ≤ node.0) → length (epochs_of (first_tables script) node) ≤ 1
    go (inl below) = (let one : length (epochs_of (first_tables script) node) ≡ 1 = ap length (tables-at script.nodes (first_table script) node.0 below) in omega (arith, one))
    go (inr le) = (let none : length (epochs_of (first_tables script) node) ≡ 0 = ap length (tables-past script.nodes (first_table script) node.0 le) in omega (arith, none))
