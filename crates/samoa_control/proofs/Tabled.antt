-- What an admission makes of the tables.
use Rattle.std.proofs.Common.{arith, ◌≡◌, ◌≢◌, ◌⊎◌, inl, inr, ℕ, ◌+◌, ◌-◌, ◌<◌, ◌≤◌, refl, sym, ap, subst, ◌∙◌, List, [], ◌∷◌, ◌++◌, length, length-append, get_or, set}
use Rattle.std.proofs.Math.ListN.{get_or-map}
use Rattle.std.proofs.lemmas.Bool.{cases_eq, cases_lt}
use Rattle.std.proofs.lemmas.List.{get_or-set_other, get_or-set_same, get_or_append_left, get_or_push, length-set}
use Rattle.std.proofs.lemmas.List.Elements.{All-get_or, All-head, All-set, All-tail, All-weaker}
use Rattle.std.specs.List.{All}
use Rattle.samoa_model.specs.declared.ids.HandlerId.{HandlerId}
use Rattle.samoa_model.specs.declared.ids.NodeId.{NodeId}
use Rattle.samoa_model.specs.declared.ids.ChangeId.{ChangeId}
use Rattle.samoa_model.specs.declared.record.Cause.{Cause}
use Rattle.samoa_model.specs.declared.record.Cause.TheVariants.{Event, Change}
use Rattle.samoa_model.specs.declared.script.ChangeDef.{ChangeDef}
use Rattle.samoa_model.specs.declared.script.TableDef.{TableDef}
use Rattle.samoa_model.specs.declared.script.Script.{Script}
use Rattle.samoa_model.specs.Range.{IsBindable, IsCauseOf, IsChangeInRange, IsChangeOf, IsInRange}
use Rattle.samoa_model.specs.Scripts.{Table, caused, change_at, no_change, rebound}
use Rattle.samoa_bind.specs.Bound.{Bindings, epochs_of, last_table, lists_of, table_at, with_change}
use Rattle.samoa_bind.proofs.Histories.{length-rebound}
use Rattle.samoa_calls.specs.Handed.{AreCounted, IsCounted}
use Rattle.samoa_control.specs.Admission.{tables_after}
use Rattle.samoa_control.specs.Kept.{AreTables}
use Rattle.samoa_control.proofs.Keeps.{tables-room}

-- an admission keeps all epochs. A rebinding adds one at its node, with its change
pub record ChangesTables (script : Script) (before after : Bindings) (node : NodeId) (cause : Cause) : Type 0 where
  pub are : AreTables script after
  pub kept : (v : NodeId) (e : ℕ) → e < length (epochs_of before v) → e < length (epochs_of after v)
  pub older : (v : NodeId) (e : ℕ) → e < length (epochs_of before v) → table_at after v e ≡ table_at before v e
  pub others : (v : NodeId) → v.0 ≢ node.0 → epochs_of after v ≡ epochs_of before v
  pub last : (e : ℕ) → e + 1 ≡ length (epochs_of after node) → table_at after node e ≡ caused script cause (last_table before node)
  pub few : (v : NodeId) → length (epochs_of after v) ≤ length (epochs_of before v) + 1

-- new lists are counted as well
counted-rebound : (rows : List TableDef) (table : Table) → All (λ (row : TableDef). AreCounted row.handlers) rows → IsCounted table → IsCounted (rebound rows table)
counted-rebound [] table all is = is
counted-rebound (row ∷ rows) table all is =
    counted-rebound rows (set table row.event.0 row.handlers) (All-tail (λ (r : TableDef). AreCounted r.handlers) row rows all)
    (All-set AreCounted table row.event.0 row.handlers (All-head (λ (r : TableDef). AreCounted r.handlers) row rows all) is)

counted-change : (script : Script) (change : ChangeId) → IsInRange script → IsChangeOf script change → All (λ (row : TableDef). AreCounted row.handlers) (change_at script change.0).table
counted-change script change in_range lt =
    let is : IsChangeInRange script (change_at script change.0) = All-get_or (IsChangeInRange script) script.changes change.0 no_change lt in_range.changes in
    All-weaker (λ (row : TableDef). IsBindable script row.handlers) (λ (row : TableDef). AreCounted row.handlers)
    (λ row may. All-weaker (λ (h : HandlerId). h.micro.0 < length script.micros) (λ (h : HandlerId). h.micro.0 < 24)
    (λ h below. let few : length script.micros ≤ 24 = in_range.few_micros in omega (arith, below, few)) row.handlers may.known)
    (change_at script change.0).table is.handlers

lists-are : (script : Script) (tables : Bindings) (change : ChangeId) → AreTables script tables → lists_of tables change ≡ (change_at script change.0).table
lists-are script tables change are =
    ap (λ (cs : List (List TableDef)). get_or cs change.0 []) are.changes ∙ get_or-map (λ (c : ChangeDef). c.table) script.changes change.0 no_change

abbrev new_table : Bindings → NodeId → ChangeId → Table
new_table tables node change = rebound (lists_of tables change) (last_table tables node)

abbrev after_change : Bindings → NodeId → ChangeId → Bindings
after_change tables node change = record tables { epochs = with_change tables node change; room = 0 }

changed : (script : Script) (tables : Bindings) (node : NodeId) (change : ChangeId) → IsInRange script → AreTables script tables → node.0 < script.nodes → IsChangeOf script change
    → ChangesTables script tables (record tables { epochs = with_change tables node change; room = 0 }) node (Change change)
changed script tables node change in_range are lt known = record {
  are = record {
    size = length-set tables.epochs node.0 _ ∙ are.size;
    changes = are.changes;
    some = λ v there. kept_at v 0 (are.some v there);
    counted = λ v e within. counted_at v e within (cases_lt e (length (epochs_of tables v)));
    events = λ v e within. events_at v e within (cases_lt e (length (epochs_of tables v)));
  };
  kept = kept_at;
  older = older_at;
  others = others_at;
  last = λ e is. last_at e is ∙ ap (λ (rows : List TableDef). rebound rows (last_table tables node)) (lists-are script tables change are);
  few = λ v. few_at v (cases_eq v.0 node.0);
}
  where
    here : epochs_of (after_change tables node change) node ≡ epochs_of tables node ++ (new_table tables node change) ∷ []
    here = let size : length tables.epochs ≡ script.nodes = are.size in get_or-set_same tables.epochs node.0 (epochs_of tables node ++ rebound (lists_of tables change) (last_table tables node) ∷ []) [] (omega (arith, lt, size))

    others_at : (v : NodeId) → v.0 ≢ node.0 → epochs_of (after_change tables node change) v ≡ epochs_of tables v
    others_at v ne = get_or-set_other tables.epochs node.0 v.0 (epochs_of tables node ++ rebound (lists_of tables change) (last_table tables node) ∷ []) [] ne

    is_here : (v : NodeId) → v.0 ≡ node.0 → epochs_of (after_change tables node change) v ≡ epochs_of tables v ++ (new_table tables node change) ∷ []
    is_here v e = ap (λ (n : ℕ). get_or (after_change tables node change).epochs n []) e ∙ (here ∙ ap (λ (n : ℕ). get_or tables.epochs n [] ++ (new_table tables node change) ∷ []) (sym e))

    kept_at : (v : NodeId) (e : ℕ) → e < length (epochs_of tables v) → e < length (epochs_of (after_change tables node change) v)
    kept_at v e below = go (cases_eq v.0 node.0)
      where
        go : (v.0 ≡ node.0) ⊎ (v.0 ≢ node.0) → e < length (epochs_of (after_change tables node change) v)
        go (inl is) = (let long = ap (λ (ts : List Table). length ts) (is_here v is) in let more = length-append (epochs_of tables v) ((new_table tables node change) ∷ []) in omega (arith, below, long, more))
        go (inr ne) = subst (λ (ts : List Table). e < length ts) (sym (others_at v ne)) below

    older_at : (v : NodeId) (e : ℕ) → e < length (epochs_of tables v) → table_at (after_change tables node change) v e ≡ table_at tables v e
    older_at v e below = go (cases_eq v.0 node.0)
      where
        go : (v.0 ≡ node.0) ⊎ (v.0 ≢ node.0) → table_at (after_change tables node change) v e ≡ table_at tables v e
        go (inl is) = ap (λ (ts : List Table). get_or ts e []) (is_here v is) ∙ get_or_append_left (epochs_of tables v) ((new_table tables node change) ∷ []) [] e below
        go (inr ne) = ap (λ (ts : List Table). get_or ts e []) (others_at v ne)

    few_at : (v : NodeId) → (v.0 ≡ node.0) ⊎ (v.0 ≢ node.0) → length (epochs_of (after_change tables node change) v) ≤ length (epochs_of tables v) + 1
    few_at v (inl is) = (let long = ap (λ (ts : List Table). length ts) (is_here v is) in let more = length-append (epochs_of tables v) ((new_table tables node change) ∷ []) in omega (arith, long, more))
    few_at v (inr ne) = (let long = ap (λ (ts : List Table). length ts) (others_at v ne) in omega (arith, long))

    last_at : (e : ℕ) → e + 1 ≡ length (epochs_of (after_change tables node change) node) → table_at (after_change tables node change) node e ≡ (new_table tables node change)
    last_at e is =
        let long = ap (λ (ts : List Table). length ts) here in
        let more = length-append (epochs_of tables node) ((new_table tables node change) ∷ []) in
        ap (λ (ts : List Table). get_or ts e []) here ∙ get_or_push (epochs_of tables node) (new_table tables node change) [] e (omega (arith, is, long, more))

    -- a table that wasn't there is the new one
    is_new : (v : NodeId) (e : ℕ) → e < length (epochs_of (after_change tables node change) v) → length (epochs_of tables v) ≤ e → table_at (after_change tables node change) v e ≡ (new_table tables node change)
    is_new v e within le = go (cases_eq v.0 node.0)
      where
        go : (v.0 ≡ node.0) ⊎ (v.0 ≢ node.0) → table_at (after_change tables node change) v e ≡ (new_table tables node change)
        go (inl is) =
            let long = ap (λ (ts : List Table). length ts) (is_here v is) in
            let more = length-append (epochs_of tables v) ((new_table tables node change) ∷ []) in
            ap (λ (ts : List Table). get_or ts e []) (is_here v is) ∙ get_or_push (epochs_of tables v) (new_table tables node change) [] e (omega (arith, within, le, long, more))
        go (inr ne) = (let long = ap (λ (ts : List Table). length ts) (others_at v ne) in absurd (omega (arith, within, le, long)))

    last_there : length (epochs_of tables node) - 1 < length (epochs_of tables node)
    last_there = let some = are.some node lt in omega (arith, some)

    new_counted : IsCounted (new_table tables node change)
    new_counted =
        counted-rebound (lists_of tables change) (last_table tables node)
        (subst (λ (rows : List TableDef). All (λ (row : TableDef). AreCounted row.handlers) rows) (sym (lists-are script tables change are)) (counted-change script change in_range known))
        (are.counted node (length (epochs_of tables node) - 1) last_there)

    counted_at : (v : NodeId) (e : ℕ) → e < length (epochs_of (after_change tables node change) v) → (e < length (epochs_of tables v)) ⊎ (length (epochs_of tables v) ≤ e) → IsCounted (table_at (after_change tables node change) v e)
    counted_at v e within (inl below) = subst IsCounted (sym (older_at v e below)) (are.counted v e below)
    counted_at v e within (inr le) = subst IsCounted (sym (is_new v e within le)) new_counted

    events_at : (v : NodeId) (e : ℕ) → e < length (epochs_of (after_change tables node change) v) → (e < length (epochs_of tables v)) ⊎ (length (epochs_of tables v) ≤ e) → length (table_at (after_change tables node change) v e) ≡ length script.events
    events_at v e within (inl below) = ap (λ (t : Table). length t) (older_at v e below) ∙ are.events v e below
    events_at v e within (inr le) =
        ap (λ (t : Table). length t) (is_new v e within le)
        ∙ (length-rebound (lists_of tables change) (last_table tables node) ∙ are.events node (length (epochs_of tables node) - 1) last_there)

pub changes-tables : (script : Script) (tables : Bindings) (node : NodeId) (cause : Cause) → IsInRange script → AreTables script tables → node.0 < script.nodes → IsCauseOf script cause
    → ChangesTables script tables (tables_after tables node cause) node cause
changes-tables script tables node (Event event) in_range are lt known = record {
  are = are;
  kept = λ v e below. below;
  older = λ v e below. refl;
  others = λ v ne. refl;
  last = λ e is. ap (λ (n : ℕ). table_at tables node n) (let same : e ≡ length (epochs_of tables node) - 1 = omega (arith, is) in same);
  few = λ v. omega arith;
}
changes-tables script tables node (Change change) in_range are lt known = changed script tables node change in_range are lt known

same-change : (script : Script) (tables after : Bindings) (room : ℕ) (node : NodeId) (cause : Cause) → ChangesTables script (record tables { room = room }) after node cause
    → ChangesTables script tables after node cause
same-change script tables after room node cause changes = record {
  are = changes.are;
  kept = changes.kept;
  older = changes.older;
  others = changes.others;
  last = changes.last;
  few = changes.few;
}

-- the same, where room was made before
pub changes-with_room : (script : Script) (tables ready after : Bindings) (node : NodeId) (cause : Cause) → IsInRange script → AreTables script tables → node.0 < script.nodes → IsCauseOf script cause
    → ready ≡ record tables { room = ready.room } → after ≡ tables_after ready node cause → ChangesTables script tables after node cause
changes-with_room script tables ready after node cause in_range are lt known is_ready is_after =
    let made = changes-tables script (record tables { room = ready.room }) node cause in_range (tables-room script tables ready.room are) lt known in
    same-change script tables after ready.room node cause
    (subst (λ (b : Bindings). ChangesTables script (record tables { room = ready.room }) b node cause) (sym (is_after ∙ ap (λ (b : Bindings). tables_after b node cause) is_ready)) made)
