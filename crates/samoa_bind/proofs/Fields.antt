-- The fields of the tables.
use Rattle.std.proofs.Common.{arith, ◌≡◌, ◌⊎◌, inl, inr, ◌<◌, ◌≤◌, ◌+◌, ◌-◌, ℕ, zero, suc, refl, sym, ap, subst, ◌∙◌, List, [], ◌∷◌, ◌++◌, length, get_or, set, map, replicate, Some, None, add-one}
use Rattle.std.specs.List.{All}
use Rattle.std.proofs.lemmas.List.{get_or-map, get_or_past, get_or_push, get_or-replicate, get_or-set_same, length-map, length-replicate, map-set}
use Rattle.std.proofs.Math.ListN.{get_or-map as get_or_map_default}
use Rattle.std.proofs.lemmas.Bool.{cases_lt}
use Rattle.std.proofs.lemmas.List.Elements.{All-map, All-nil, All-replicate, All-weaker}
use Rattle.samoa_model.specs.declared.ids.ChangeId.{ChangeId}
use Rattle.samoa_model.specs.declared.ids.NodeId.{NodeId}
use Rattle.samoa_model.specs.declared.script.TableDef.{TableDef}
use Rattle.samoa_model.specs.declared.script.ChangeDef.{ChangeDef}
use Rattle.samoa_model.specs.declared.script.Script.{Script}
use Rattle.samoa_model.specs.Range.{IsChangeInRange, IsInRange}
use Rattle.samoa_model.specs.Scripts.{Table, first_table, rebound}
use Rattle.samoa_model.specs.declared.script.EventDef.{EventDef}
use Rattle.samoa_bind.specs.declared.history.Binding.{Binding}
use Rattle.samoa_bind.specs.declared.epochs.Epochs.{Epochs}
use Rattle.samoa_bind.specs.declared.tables.Tables.TheInside.{Inside}
use Rattle.samoa_bind.specs.Bound.{Bindings, epochs_of, first_tables, last_table, lists_of, table_at, with_change}
use Rattle.samoa_bind.specs.Histories.{Past, found_after, meant_or, no_past, table_in, tables_to}
use Rattle.samoa_bind.specs.Kept.{AreRows, IsBinding, IsFirst, IsKept, IsNode, IsRoomier, bindings_in, histories_of, tables_of}
use Rattle.samoa_bind.proofs.Histories.{found-one, length-rebound, length-table, length-tables, table-at, table-first, tables-at, tables-roomier}

-- the tables of a node
pub epochs-at : (t : Inside) (node : ℕ) (x : Epochs) → node < length t.nodes.items → x ≡ get_or t.nodes.items node x
    → get_or (bindings_in t).epochs node [] ≡ tables_of t.changes.items t.first.items x
epochs-at t node x lt is = get_or-map (tables_of t.changes.items t.first.items) t.nodes.items node x [] lt ∙ ap (tables_of t.changes.items t.first.items) (sym is)

pub length-epochs : (t : Inside) (node : ℕ) (x : Epochs) → node < length t.nodes.items → x ≡ get_or t.nodes.items node x
    → length (get_or (bindings_in t).epochs node []) ≡ x.last + 1
length-epochs t node x lt is =
    ap (λ (ts : List Table). length ts) (epochs-at t node x lt is)
    ∙ (length-tables (λ epoch. table_in t.changes.items epoch t.first.items (histories_of x)) (suc x.last) ∙ sym (add-one x.last))

-- the table of an epoch
pub table-is : (t : Inside) (node : NodeId) (epoch : ℕ) (x : Epochs) → node.0 < length t.nodes.items → x ≡ get_or t.nodes.items node.0 x → epoch < x.last + 1
    → table_at (bindings_in t) node epoch ≡ table_in t.changes.items epoch t.first.items (histories_of x)
table-is t node epoch x lt is below =
    ap (λ (ts : List Table). get_or ts epoch []) (epochs-at t node.0 x lt is)
    ∙ tables-at (λ e. table_in t.changes.items e t.first.items (histories_of x)) (suc x.last) epoch (omega (arith, below))

-- a node that has an epoch is there
pub node-within : (t : Inside) (node : NodeId) (epoch : ℕ) → epoch < length (epochs_of (bindings_in t) node) → node.0 < length t.nodes.items
node-within t node epoch lt = go (cases_lt node.0 (length t.nodes.items))
  where
    go : (node.0 < length t.nodes.items) ⊎ (length t.nodes.items ≤ node.0) → node.0 < length t.nodes.items
    go (inl below) = below
    go (inr le) =
        let many = length-map t.nodes.items (tables_of t.changes.items t.first.items) in
        let none : length (epochs_of (bindings_in t) node) ≡ 0 = ap (λ (ts : List Table). length ts) (get_or_past (map (tables_of t.changes.items t.first.items) t.nodes.items) node.0 [] (omega (arith, le, many))) in
        absurd (omega (arith, none, lt))

pub epoch-within : (t : Inside) (node : NodeId) (epoch : ℕ) (x : Epochs) → x ≡ get_or t.nodes.items node.0 x → epoch < length (epochs_of (bindings_in t) node) → epoch < x.last + 1
epoch-within t node epoch x is lt = let long = length-epochs t node.0 x (node-within t node epoch lt) is in omega (arith, long, lt)

pub node-is : (t : Inside) (node : ℕ) (x : Epochs) → IsKept t → node < length t.nodes.items → x ≡ get_or t.nodes.items node x → IsNode (length t.first.items) t.changes.items t.room x
node-is t node x kept lt is = subst (IsNode (length t.first.items) t.changes.items t.room) (sym is) (kept.nodes node x lt)

-- the events of a table are those that have first handlers
pub event-within : (t : Inside) (node : NodeId) (epoch event : ℕ) (x : Epochs) → x ≡ get_or t.nodes.items node.0 x → epoch < length (epochs_of (bindings_in t) node)
    → event < length (table_at (bindings_in t) node epoch) → event < length t.first.items
event-within t node epoch event x is lt below =
    let table = table-is t node epoch x (node-within t node epoch lt) is (epoch-within t node epoch x is lt) in
    let one = ap (λ (ts : Table). length ts) table in
    let two = length-table t.changes.items epoch t.first.items (histories_of x) in
    omega (arith, one, two, below)

-- the bindings of an event
pub history-is : (x : Epochs) (event : ℕ) → get_or (histories_of x) event [] ≡ (get_or x.histories.items event no_past).bindings
history-is x event = get_or_map_default (λ (p : Past). p.bindings) x.histories.items event no_past

-- what an event has in an epoch
pub resolve-is : (t : Inside) (node : NodeId) (epoch event : ℕ) (x : Epochs) → IsKept t → x ≡ get_or t.nodes.items node.0 x → epoch < length (epochs_of (bindings_in t) node)
    → event < length (table_at (bindings_in t) node epoch)
    → get_or (table_at (bindings_in t) node epoch) event []
    ≡ meant_or t.changes.items (get_or t.first.items event []) (found_after epoch None (get_or x.histories.items event no_past).bindings)
resolve-is t node epoch event x kept is lt below =
    let table = table-is t node epoch x (node-within t node epoch lt) is (epoch-within t node epoch x is lt) in
    let mine = node-is t node.0 x kept (node-within t node epoch lt) is in
    let long : length (histories_of x) ≡ length x.histories.items = length-map x.histories.items (λ (p : Past). p.bindings) in
    let size : length x.histories.items ≡ length t.first.items = mine.size in
    ap (λ (ts : Table). get_or ts event []) table
    ∙ (table-at t.changes.items epoch t.first.items (histories_of x) event (omega (arith, long, size)) (event-within t node epoch event x is lt below)
    ∙ ap (λ (bs : List Binding). meant_or t.changes.items (get_or t.first.items event []) (found_after epoch None bs)) (history-is x event))

-- what is found is a binding
pub found-is : (t : Inside) (node : NodeId) (epoch event : ℕ) (x : Epochs) (b : Binding) → IsKept t → x ≡ get_or t.nodes.items node.0 x → epoch < length (epochs_of (bindings_in t) node)
    → event < length (table_at (bindings_in t) node epoch) → Some b ≡ found_after epoch None (get_or x.histories.items event no_past).bindings → IsBinding t.changes.items x.last b
found-is t node epoch event x b kept is lt below found =
    let mine = node-is t node.0 x kept (node-within t node epoch lt) is in
    let long : length (histories_of x) ≡ length x.histories.items = length-map x.histories.items (λ (p : Past). p.bindings) in
    let size : length x.histories.items ≡ length t.first.items = mine.size in
    let first = event-within t node epoch event x is lt below in
    found-one (IsBinding t.changes.items x.last) epoch (get_or x.histories.items event no_past).bindings b
    (subst (All (IsBinding t.changes.items x.last)) (history-is x event) (mine.bindings event [] (omega (arith, long, size, first)))) (sym found)

-- more room changes no table
pub same-map : {A B : Type 0} (f : A → B) (xs ys : List A) → length ys ≡ length xs → ((i : ℕ) (d : A) → f (get_or ys i d) ≡ f (get_or xs i d)) → map f ys ≡ map f xs
same-map f [] [] e same = refl
same-map f [] (y ∷ ys) e same = absurd (omega (arith, e))
same-map f (x ∷ xs) [] e same = absurd (omega (arith, e))
same-map {B = B} f (x ∷ xs) (y ∷ ys) e same =
    ap (λ (b : B). b ∷ map f ys) (same 0 x) ∙ ap (λ (bs : List B). f x ∷ bs) (same-map f xs ys (omega (arith, e)) (λ i d. same (suc i) d))

pub epochs-roomier : (changes : List (List TableDef)) (first : Table) (xs ys : List Epochs) → length ys ≡ length xs
    → ((node : ℕ) (none : Epochs) → IsRoomier (get_or xs node none) (get_or ys node none)) → map (tables_of changes first) ys ≡ map (tables_of changes first) xs
epochs-roomier changes first xs ys e all = same-map (tables_of changes first) xs ys e (λ i d. tables-roomier changes first (get_or xs i d) (get_or ys i d) (all i d))

-- a change at a node
pub rebound-at : (t : Inside) (node : NodeId) (change : ChangeId) (x y : Epochs) → IsKept t → node.0 < length t.nodes.items → x ≡ get_or t.nodes.items node.0 x
    → ((first : Table) → length first ≡ length x.histories.items
    → tables_of t.changes.items first y ≡ tables_of t.changes.items first x ++ rebound (get_or t.changes.items change.0 []) (table_in t.changes.items x.last first (histories_of x)) ∷ [])
    → map (tables_of t.changes.items t.first.items) (set t.nodes.items node.0 y) ≡ with_change (bindings_in t) node change
rebound-at t node change x y kept lt is tables =
    let f : Epochs → List Table = tables_of t.changes.items t.first.items in
    let mine : IsNode (length t.first.items) t.changes.items t.room x = subst (IsNode (length t.first.items) t.changes.items t.room) (sym is) (kept.nodes node.0 x lt) in
    let long : length (get_or (bindings_in t).epochs node.0 []) ≡ x.last + 1 = length-epochs t node.0 x lt is in
    let last : last_table (bindings_in t) node ≡ table_in t.changes.items x.last t.first.items (histories_of x) =
    ap (λ (e : ℕ). table_at (bindings_in t) node e) (let e : length (get_or (bindings_in t).epochs node.0 []) - 1 ≡ x.last = omega (arith, long) in e) ∙ table-is t node x.last x lt is (omega arith) in
    map-set f t.nodes.items node.0 y
    ∙ ap (λ (ts : List Table). set (map f t.nodes.items) node.0 ts)
    (tables t.first.items (sym mine.size)
    ∙ (ap (λ (ts : List Table). ts ++ rebound (get_or t.changes.items change.0 []) (table_in t.changes.items x.last t.first.items (histories_of x)) ∷ []) (sym (epochs-at t node.0 x lt is))
    ∙ ap (λ (table : Table). get_or (bindings_in t).epochs node.0 [] ++ rebound (get_or t.changes.items change.0 []) table ∷ []) (sym last)))

-- one epoch for each node
pub first-epochs : (changes : List (List TableDef)) (first : Table) (xs : List Epochs) (n : ℕ) → length xs ≡ n → All (IsFirst (length first)) xs
    → map (tables_of changes first) xs ≡ replicate n (first ∷ [])
first-epochs changes first [] zero e all = refl
first-epochs changes first [] (suc n) e all = absurd (omega (arith, e))
first-epochs changes first (x ∷ xs) zero e all = absurd (omega (arith, e))
first-epochs changes first (x ∷ xs) (suc n) e all =
    let mine : IsFirst (length first) x = all 0 x (omega arith) in
    let is : tables_of changes first x ≡ first ∷ [] =
    ap (λ (m : ℕ). tables_to (λ epoch. table_in changes epoch first (histories_of x)) (suc m)) mine.last
    ∙ (ap (λ (hs : List (List Binding)). table_in changes 0 first hs ∷ []) mine.histories ∙ ap (λ (table : Table). table ∷ []) (table-first changes 0 first (length first))) in
    ap (λ (ts : List Table). ts ∷ map (tables_of changes first) xs) is
    ∙ ap (λ (tss : List (List Table)). (first ∷ []) ∷ tss) (first-epochs changes first xs n (omega (arith, e)) (λ k d lt. all (suc k) d (omega (arith, lt))))

pub nodes-first : (events : ℕ) (changes : List (List TableDef)) (xs : List Epochs) → All (IsFirst events) xs → All (IsNode events changes 0) xs
nodes-first events changes xs all = All-weaker (IsFirst events) (IsNode events changes 0) (λ x is. node x is) xs all
  where
    node : (x : Epochs) → IsFirst events x → IsNode events changes 0 x
    node x is = record {
      size = (let long = ap length is.histories in
          let one = length-map x.histories.items (λ (p : Past). p.bindings) in
          let two = length-replicate {A = List Binding} events [] in
          omega (arith, long, one, two));
      bindings = subst (λ (hs : List (List Binding)). All (λ (h : List Binding). All (IsBinding changes x.last) h) hs) (sym is.histories)
          (All-replicate (λ (h : List Binding). All (IsBinding changes x.last) h) events [] (All-nil (IsBinding changes x.last)));
      spare = λ some. absurd (omega (arith, some));
    }

pub node-there : (t : Inside) (node : ℕ) → node < length (bindings_in t).epochs → node < length t.nodes.items
node-there t node lt = let many = length-map t.nodes.items (tables_of t.changes.items t.first.items) in omega (arith, lt, many)

-- the rows of the changes of a script in range
pub rows-first : (script : Script) → IsInRange script → AreRows (length script.events) (map (λ c. c.table) script.changes)
rows-first script range =
    All-map (λ (rows : List TableDef). All (λ (row : TableDef). row.event.0 < length script.events) rows) (λ (c : ChangeDef). c.table) script.changes
    (All-weaker (IsChangeInRange script) (λ (c : ChangeDef). All (λ (row : TableDef). row.event.0 < length script.events) c.table) (λ c is. is.events) script.changes range.changes)

-- the table of a new epoch has as many events as the last one
pub length-new : (tables : Bindings) (node : NodeId) (change : ChangeId) → node.0 < length tables.epochs
    → length (table_at (record tables { epochs = with_change tables node change; room = 0 }) node (length (epochs_of tables node))) ≡ length (last_table tables node)
length-new tables node change lt =
    ap (λ (ts : List Table). length (get_or ts (length (epochs_of tables node)) []))
    (get_or-set_same tables.epochs node.0 (epochs_of tables node ++ rebound (lists_of tables change) (last_table tables node) ∷ []) [] lt)
    ∙ (ap (λ (t : Table). length t) (get_or_push (epochs_of tables node) (rebound (lists_of tables change) (last_table tables node)) [] (length (epochs_of tables node)) refl)
    ∙ length-rebound (lists_of tables change) (last_table tables node))

-- and each table has as many as the first one
pub length-first : (script : Script) (node : NodeId) (room : ℕ) → node.0 < script.nodes → length (last_table (record (first_tables script) { room = room }) node) ≡ length script.events
length-first script node room lt =
    ap (λ (ts : List Table). length (get_or ts (length ts - 1) [])) (get_or-replicate script.nodes node.0 (first_table script ∷ []) [] lt) ∙ length-map script.events (λ (e : EventDef). e.handlers)
