-- The rows of a change are bound one after another.
use Rattle.std.proofs.Common.{arith, ◌≡◌, ◌<◌, ◌≤◌, ◌+◌, ◌-◌, ℕ, suc, refl, sym, ap, subst, ◌∙◌, List, [], ◌∷◌, ◌++◌, length, get_or, set, take, map, add-one}
use Rattle.std.specs.List.{All}
use Rattle.std.proofs.lemmas.List.{get_or-map, length-map, length-set, take_more, get_or_read}
use Rattle.std.proofs.lemmas.List.Elements.{All-push, All-set, All-weaker}
use Rattle.samoa_model.specs.declared.ids.ChangeId.{ChangeId}
use Rattle.samoa_model.specs.declared.script.TableDef.{TableDef}
use Rattle.samoa_model.specs.Scripts.{Table, rebound}
use Rattle.samoa_bind.specs.declared.history.Binding.{Binding}
use Rattle.samoa_bind.specs.declared.epochs.Epochs.{Epochs}
use Rattle.samoa_bind.specs.Histories.{Past, meant, no_past, no_row, table_in, tables_to}
use Rattle.samoa_bind.specs.Kept.{AreRows, IsBinding, IsNode, histories_of, tables_of}
use Rattle.samoa_bind.proofs.Histories.{more-bindings, one-less-room, rebound-push, table-before, table-bound, table-later, tables-same}

-- the first n rows are bound in a new epoch, older epochs are as they were, and there is room for the other rows
pub record AreBound (changes : List (List TableDef)) (rows : List TableDef) (n : ℕ) (before after : Epochs) : Type 0 where
  pub size : length after.histories.items ≡ length before.histories.items
  pub last : after.last ≡ before.last
  pub bindings : All (λ (h : List Binding). All (IsBinding changes (before.last + 1)) h) (histories_of after)
  pub older : (first : Table) (epoch : ℕ) → epoch ≤ before.last → table_in changes epoch first (histories_of after) ≡ table_in changes epoch first (histories_of before)
  pub newest : (first : Table) → length first ≡ length before.histories.items
      → table_in changes (before.last + 1) first (histories_of after) ≡ rebound (take n rows) (table_in changes before.last first (histories_of before))
  pub room : All (λ (row : TableDef). length rows ≤ (get_or after.histories.items row.event.0 no_past).room + n) rows

pub none-bound : (changes : List (List TableDef)) (change : ChangeId) (events : ℕ) (node : Epochs) → IsNode events changes 1 node → change.0 < length changes
    → AreBound changes (get_or changes change.0 []) 0 node node
none-bound changes change events node is lt = record {
  size = refl;
  last = refl;
  bindings = λ i d below j e within. let b = is.bindings i d below j e within in record { epoch = (let le = b.epoch in omega (arith, le)); change = b.change; row = b.row };
  older = λ first epoch le. refl;
  newest = λ first long. table-later changes node.last (node.last + 1) first (histories_of node) is.bindings (omega arith);
  room = λ j e below. let has = is.spare (omega arith) change.0 [] lt j e below in omega (arith, has);
}

pub one-bound : (changes : List (List TableDef)) (change : ChangeId) (rows : List TableDef) (n : ℕ) (before now next : Epochs) (h x : Past) (row : TableDef) (b : Binding)
    → change.0 < length changes → rows ≡ get_or changes change.0 [] → AreBound changes rows n before now
    → n < length rows → row ≡ get_or rows n row → row.event.0 < length now.histories.items
    → h ≡ get_or now.histories.items row.event.0 h → b ≡ record { epoch = before.last + 1; change = change; row = n }
    → x ≡ record { bindings = h.bindings ++ b ∷ []; room = h.room - 1 }
    → next.last ≡ now.last → next.histories.items ≡ set now.histories.items row.event.0 x
    → AreBound changes rows (n + 1) before next
one-bound changes change rows n before now next h x row b lt rows_is is below row_is event h_is b_is x_is last items =
    let i : ℕ = row.event.0 in
    let hs : List (List Binding) = histories_of now in
    let more : histories_of next ≡ set hs i (get_or hs i [] ++ b ∷ []) =
    ap (λ (ps : List Past). map (λ (p : Past). p.bindings) ps) items ∙ more-bindings now.histories.items i h x b event h_is (ap (λ (p : Past). p.bindings) x_is) in
    let epoch : b.epoch ≡ before.last + 1 = ap (λ (y : Binding). y.epoch) b_is in
    let as_many : length hs ≡ length now.histories.items = length-map now.histories.items (λ (p : Past). p.bindings) in
    let size = is.size in
    let means : meant changes b ≡ row.handlers =
    ap (λ (y : Binding). meant changes y) b_is ∙ ap (λ (t : TableDef). t.handlers) (ap (λ (rs : List TableDef). get_or rs n no_row) (sym rows_is) ∙ sym (get_or_read rows n row below row_is no_row)) in
    let new : IsBinding changes (before.last + 1) b = rw b_is (record { epoch = omega arith; change = lt; row = subst (λ (rs : List TableDef). n < length rs) rows_is below }) in
    let old : All (IsBinding changes (before.last + 1)) (get_or hs i []) = is.bindings i [] (omega (arith, as_many, event)) in
    record {
      size = ap length items ∙ (length-set now.histories.items i x ∙ size);
      last = last ∙ is.last;
      bindings = rw more (All-set (λ (bs : List Binding). All (IsBinding changes (before.last + 1)) bs) hs i (get_or hs i [] ++ b ∷ []) (All-push (IsBinding changes (before.last + 1)) (get_or hs i []) b old new) is.bindings);
      older = λ first e le. ap (λ (gs : List (List Binding)). table_in changes e first gs) more ∙ (table-before changes e first hs i b (omega (arith, epoch, le)) ∙ is.older first e le);
      newest = λ first long.
          ap (λ (gs : List (List Binding)). table_in changes (before.last + 1) first gs) more
          ∙ (table-bound changes (before.last + 1) first hs i b (omega (arith, epoch)) (omega (arith, long, as_many, size))
          ∙ (ap (λ (t : Table). set t i (meant changes b)) (is.newest first long)
          ∙ (ap (λ (l : List _). set (rebound (take n rows) (table_in changes before.last first (histories_of before))) i l) means
          ∙ (sym (rebound-push (take n rows) row (table_in changes before.last first (histories_of before)))
          ∙ ap (λ (ts : List TableDef). rebound ts (table_in changes before.last first (histories_of before))) (ap (λ (t : TableDef). take n rows ++ t ∷ []) row_is ∙ sym (take_more rows n row below))))));
      room = λ j d within.
          let was = is.room j d within in
          let less : (get_or now.histories.items (get_or rows j d).event.0 no_past).room ≤ (get_or next.histories.items (get_or rows j d).event.0 no_past).room + 1 =
          subst (λ (ps : List Past). (get_or now.histories.items (get_or rows j d).event.0 no_past).room ≤ (get_or ps (get_or rows j d).event.0 no_past).room + 1) (sym items)
          (one-less-room now.histories.items i h x (get_or rows j d).event.0 h_is (ap (λ (p : Past). p.room) x_is)) in
          omega (arith, was, less);
    }

-- the event of a row
pub row-event : (events : ℕ) (changes : List (List TableDef)) (change : ChangeId) (rows : List TableDef) (n : ℕ) (row : TableDef) → AreRows events changes → change.0 < length changes
    → rows ≡ get_or changes change.0 [] → n < length rows → row ≡ get_or rows n row → row.event.0 < events
row-event events changes change rows n row all lt rows_is below row_is =
    let there : All (λ (r : TableDef). r.event.0 < events) rows = subst (λ (rs : List TableDef). All (λ (r : TableDef). r.event.0 < events) rs) (sym rows_is) (all change.0 [] lt) in
    subst (λ (r : TableDef). r.event.0 < events) (sym row_is) (there n row below)

-- all rows are bound: the node has one more epoch
pub all-bound : (changes : List (List TableDef)) (rows : List TableDef) (n : ℕ) (before now after : Epochs) → AreBound changes rows n before now → take n rows ≡ rows
    → after.last ≡ before.last + 1 → after.histories.items ≡ now.histories.items → (first : Table) → length first ≡ length before.histories.items
    → tables_of changes first after ≡ tables_of changes first before ++ rebound rows (table_in changes before.last first (histories_of before)) ∷ []
all-bound changes rows n before now after is whole last items first long =
    let same : histories_of after ≡ histories_of now = ap (λ (ps : List Past). map (λ (p : Past). p.bindings) ps) items in
    ap (λ (gs : List (List Binding)). tables_to (λ epoch. table_in changes epoch first gs) (suc after.last)) same
    ∙ (ap (λ (m : ℕ). tables_to (λ epoch. table_in changes epoch first (histories_of now)) (suc m)) (last ∙ add-one before.last)
    ∙ (ap (λ (ts : List Table). ts ++ table_in changes (suc before.last) first (histories_of now) ∷ [])
    (tables-same (λ epoch. table_in changes epoch first (histories_of now)) (λ epoch. table_in changes epoch first (histories_of before)) (suc before.last)
    (λ e lt. is.older first e (omega (arith, lt))))
    ∙ ap (λ (t : Table). tables_of changes first before ++ t ∷ [])
    (ap (λ (m : ℕ). table_in changes m first (histories_of now)) (sym (add-one before.last)) ∙ (is.newest first long ∙ ap (λ (ts : List TableDef). rebound ts (table_in changes before.last first (histories_of before))) whole))))

pub node-bound : (changes : List (List TableDef)) (rows : List TableDef) (n events : ℕ) (before now after : Epochs) → AreBound changes rows n before now
    → length before.histories.items ≡ events → after.last ≡ before.last + 1 → after.histories.items ≡ now.histories.items → IsNode events changes 0 after
node-bound changes rows n events before now after is long last items =
    let same : histories_of after ≡ histories_of now = ap (λ (ps : List Past). map (λ (p : Past). p.bindings) ps) items in
    record {
      size = ap length items ∙ (is.size ∙ long);
      bindings = rw (same, last) is.bindings;
      spare = λ some. absurd (omega (arith, some));
    }

-- no binding of an event is of a later epoch
pub none-later : (changes : List (List TableDef)) (rows : List TableDef) (n : ℕ) (before now : Epochs) (i : ℕ) (h : Past) → AreBound changes rows n before now → i < length now.histories.items
    → h ≡ get_or now.histories.items i h → All (λ (b : Binding). b.epoch ≤ before.last + 1) h.bindings
none-later changes rows n before now i h is lt h_is =
    let as_many : length (histories_of now) ≡ length now.histories.items = length-map now.histories.items (λ (p : Past). p.bindings) in
    let mine : get_or (histories_of now) i [] ≡ h.bindings = get_or-map (λ (p : Past). p.bindings) now.histories.items i h [] lt ∙ ap (λ (p : Past). p.bindings) (sym h_is) in
    All-weaker (IsBinding changes (before.last + 1)) (λ (b : Binding). b.epoch ≤ before.last + 1) (λ b known. known.epoch) h.bindings
    (subst (λ (bs : List Binding). All (IsBinding changes (before.last + 1)) bs) mine (is.bindings i [] (omega (arith, as_many, lt))))
