-- The canonical tree of a script whose names have their form: it passes the first pass, and means the script with its
-- names again.
use Rattle.std.proofs.Common.{◌≡◌, ℕ, ◌≤◌, Bool, true, false, List, [], ◌∷◌, length, map, Option, Some, None, refl, sym, ap, ap₂, ◌∙◌, subst, cond, arith}
use Rattle.std.specs.Prelude.{◌&&◌, codes, is_some}
use Rattle.std.proofs.lemmas.List.{length-map, map-id}
use Rattle.serde_json.specs.Data.{Data, string, object}
use Rattle.samoa_model.specs.declared.ids.HandlerId.{HandlerId}
use Rattle.samoa_model.specs.declared.setup.Kind.{Kind}
use Rattle.samoa_model.specs.declared.setup.Kind.TheVariants.{Prog, Link, Fd, Rbcast, Cons, Abcast, Seqcast, Repl, Views}
use Rattle.samoa_model.specs.declared.record.Cause.{Cause}
use Rattle.samoa_model.specs.declared.record.Cause.TheVariants as causes
use Rattle.samoa_model.specs.declared.script.CodeDef.{CodeDef}
use Rattle.samoa_model.specs.declared.script.MicroDef.{MicroDef}
use Rattle.samoa_model.specs.declared.script.Decl.{Decl}
use Rattle.samoa_model.specs.declared.script.DeclDef.{DeclDef}
use Rattle.samoa_model.specs.declared.script.EventDef.{EventDef}
use Rattle.samoa_model.specs.declared.script.TableDef.{TableDef}
use Rattle.samoa_model.specs.declared.script.ChangeDef.{ChangeDef}
use Rattle.samoa_model.specs.declared.script.DoDef.{DoDef}
use Rattle.samoa_model.specs.declared.script.LossDef.{LossDef}
use Rattle.samoa_model.specs.declared.script.CrashDef.{CrashDef}
use Rattle.samoa_model.specs.declared.script.Script.{Script}
use Rattle.samoa_grammar.specs.declared.fault.WalkFault.{WalkFault}
use Rattle.samoa_grammar.specs.declared.fault.WalkFault.TheVariants.{WrongForm}
use Rattle.samoa_grammar.specs.declared.draft.MicroDraft.{MicroDraft}
use Rattle.samoa_grammar.specs.declared.draft.Form.TheVariants as forms
use Rattle.samoa_grammar.specs.declared.draft.BodyDraft.TheVariants as bodies
use Rattle.samoa_grammar.specs.declared.draft.CauseDraft.TheVariants.{Event, Change}
use Rattle.samoa_grammar.specs.Tree.{part, list_of, is_number, number_of, text_of}
use Rattle.samoa_grammar.specs.Names.{is_name, is_handler_name}
use Rattle.samoa_grammar.specs.Instrs.{is_instr, instr_of}
use Rattle.samoa_grammar.specs.Walks.{◌then◌}
use Rattle.samoa_grammar.specs.Tests.{object_fault, required, optional, form_test, name_fault, items_fault, list_fault}
use Rattle.samoa_grammar.specs.Forms.{numbers_of, texts_of, code_fault, code_of, kind_named, kind_in, is_kind, kind_or_prog, is_prog, has_handlers, micro_keys, handlers_fault, micro_fault, handlers_of, micro_of, bound_fault, bound_of, is_edge, edge_of, decl_keys, decl_fault, decl_of, event_fault, event_of, table_fault, table_of, change_fault, change_of, do_fault, do_of, loss_fault, loss_of, crash_fault, crash_of, script_keys, form_of_all, draft_of}
use Rattle.samoa_model.specs.Handlers.{handler_text}
use Rattle.samoa_print.specs.Texts.{micro_text, decl_text, event_text, change_text, kind_text}
use Rattle.samoa_print.specs.Canonical.{number_tree, list_tree, instr_tree, code_tree, micro_members, micro_tree, bound_tree, edge_tree, decl_members, decl_tree, event_tree, table_tree, change_tree, do_members, do_tree, loss_tree, crash_tree, tree_of}
use Rattle.samoa_print.proofs.Back.{handlers_back, micro_back, bound_back, vertex_text, edge_back, body_back, decl_back, event_back, table_back, change_back, cause_back, do_back, loss_back, crash_back, draft_back}
use Rattle.samoa_print.proofs.Parts.{none_then, each_map, each_more, each_all, IsNamed, IsHandlerNamed, IsWithin, keys_pass, name_passes, number_again, from_again, items_again, objects_again, of_again}
use Rattle.samoa_print.proofs.Instrs.{IsProper, is_instr_again, instr_of_again}
use Rattle.samoa_print.proofs.Forms.{AreListed, AreHandlers, AreAll, CodeForm, HandlersForm, MicroForm, BoundForm, EdgeForm, BodyForm, DeclForm, EventForm, TableForm, ChangeForm, CauseForm, DoForm, DraftForm}
use Rattle.std.specs.List.{AllByRecursion}

-- ---- lists

-- names, seen through the text of each
names_again : {X : Type 0} (text : X → List ℕ) (least most : ℕ) (key : List ℕ) (xs : List X) → AreListed least most (map text xs) → items_fault least most is_name key (list_tree (λ x. string (text x)) xs) ≡ None
names_again text least most key xs h =
    items_again least most is_name key (λ x. string (text x)) xs (each_map IsNamed text xs h.each)
    (rw (length-map xs text) at h.some) (rw (length-map xs text) at h.few)

handlers_again : {X : Type 0} (text : X → List ℕ) (most : ℕ) (key : List ℕ) (xs : List X) → AreHandlers most (map text xs) → items_fault 0 most is_handler_name key (list_tree (λ x. string (text x)) xs) ≡ None
handlers_again text most key xs h =
    items_again 0 most is_handler_name key (λ x. string (text x)) xs (each_map IsHandlerNamed text xs h.each)
    (omega arith) (rw (length-map xs text) at h.few)

numbers_again : (key : List ℕ) (ns : List ℕ) → length ns ≤ 12 → items_fault 0 12 is_number key (list_tree number_tree ns) ≡ None
numbers_again key ns h = items_again 0 12 is_number key number_tree ns (each_all (λ n. is_number (number_tree n) ≡ true) (λ n. refl) ns) (omega arith) h

texts_same : {X : Type 0} (text : X → List ℕ) (xs : List X) → map text_of (list_of (list_tree (λ x. string (text x)) xs)) ≡ map text xs
texts_same text xs = of_again text_of (λ x. string (text x)) text xs (each_all (λ x. text x ≡ text x) (λ x. refl) xs)

numbers_same : (ns : List ℕ) → map number_of (list_of (list_tree number_tree ns)) ≡ ns
numbers_same ns = of_again number_of number_tree (λ n. n) ns (each_all (λ (n : ℕ). n ≡ n) (λ n. refl) ns) ∙ map-id ns

-- a part of a script whose canonical tree passes as an object and means the part with its names again
pub record IsAgain {Y : Type 0} (fault : List ℕ → Data → Option WalkFault) (of : Data → Y) (tree : Data) (back : Y) : Type 0 where
  pub passes : (list : List ℕ) → fault list tree ≡ None
  pub means : of tree ≡ back

objects_all : {X Y : Type 0} (P : Y → Type 0) (fault : List ℕ → Data → Option WalkFault) (of : Data → Y) (tree : X → Data) (back : X → Y)
    → ((x : X) → P (back x) → IsAgain fault of (tree x) (back x)) → (least most : ℕ) (key : List ℕ) (xs : List X) → AreAll least most P (map back xs) → list_fault least most fault key (list_tree tree xs) ≡ None
objects_all P fault of tree back again least most key xs h =
    objects_again least most fault key tree xs
    (each_more (λ x. P (back x)) (λ x. fault key (tree x) ≡ None) (λ x p. (again x p).passes key) xs (each_map P back xs h.each))
    (rw (length-map xs back) at h.some) (rw (length-map xs back) at h.few)

objects_same : {X Y : Type 0} (P : Y → Type 0) (fault : List ℕ → Data → Option WalkFault) (of : Data → Y) (tree : X → Data) (back : X → Y)
    → ((x : X) → P (back x) → IsAgain fault of (tree x) (back x)) → (xs : List X) → AllByRecursion P (map back xs) → map of (list_of (list_tree tree xs)) ≡ map back xs
objects_same P fault of tree back again xs h =
    of_again of tree back xs (each_more (λ x. P (back x)) (λ x. of (tree x) ≡ back x) (λ x p. (again x p).means) xs (each_map P back xs h))

-- ---- objects

as_it_is : (o : Option WalkFault) → o ≡ o
as_it_is o = refl

code_again : (c : CodeDef) → CodeForm c → IsAgain code_fault code_of (code_tree c) c
unfolding code_fault code_of code_tree
code_again c f = record {
  passes = λ list.
      none_then _ _ (keys_pass list (codes "name" ∷ codes "code" ∷ []) (code_tree c) refl)
      (none_then _ _ (name_passes (codes "name") c.name f.name)
      (items_again 0 32 is_instr (codes "code") instr_tree c.code (each_more IsProper (λ i. is_instr (instr_tree i) ≡ true) is_instr_again c.code f.code) (omega arith) f.few));
  means =
      let code = of_again instr_of instr_tree (λ i. i) c.code (each_more IsProper (λ i. instr_of (instr_tree i) ≡ i) instr_of_again c.code f.code) ∙ map-id c.code in
      λ i. record { name = c.name; code = code i };
}

kind_named_text : (k : Kind) → kind_named (kind_text k) ≡ Some k
kind_named_text Prog = refl
kind_named_text Link = refl
kind_named_text Fd = refl
kind_named_text Rbcast = refl
kind_named_text Cons = refl
kind_named_text Abcast = refl
kind_named_text Seqcast = refl
kind_named_text Repl = refl
kind_named_text Views = refl

kind_is : (k : Kind) → is_kind (string (kind_text k)) ≡ true
kind_is k = ap is_some (kind_named_text k)

kind_in_again : (b : Bool) (s : Script) (m : MicroDef) → kind_in (object (micro_members b s m)) ≡ Some m.kind
kind_in_again true s m = kind_named_text m.kind
kind_in_again false s m = kind_named_text m.kind

-- the tests of a microprotocol, with or without handlers in its table
abbrev micro_test : Bool → List ℕ → Data → Option WalkFault
micro_test b list d =
    object_fault list (micro_keys b) d
    then required (codes "name") name_fault d
    then required (codes "kind") (form_test is_kind) d
    then optional (codes "nums") (items_fault 0 12 is_number) d
    then optional (codes "ports") (items_fault 0 16 is_name) d
    then optional (codes "changes") (items_fault 0 16 is_name) d
    then handlers_fault b d

micro_passes : (b : Bool) (s : Script) (m : MicroDef) (list : List ℕ) → MicroForm (micro_back s m) → HandlersForm b (handlers_back b m.handlers) → micro_test b list (object (micro_members b s m)) ≡ None
unfolding micro_back
micro_passes true s m list f h =
    none_then _ _ (keys_pass list (micro_keys true) (object (micro_members true s m)) refl)
    (none_then _ _ (name_passes (codes "name") m.name f.name)
    (none_then _ _ (ap (λ b. cond b None (Some (WrongForm (codes "kind")))) (kind_is m.kind))
    (none_then _ _ (numbers_again (codes "nums") m.nums f.nums)
    (none_then _ _ (names_again (event_text s) 0 16 (codes "ports") m.ports f.ports)
    (none_then _ _ (names_again (change_text s) 0 16 (codes "changes") m.changes f.changes)
    (objects_all CodeForm code_fault code_of code_tree (λ c. c) code_again 1 16 (codes "handlers") m.handlers (subst (AreAll 1 16 CodeForm) (sym (map-id m.handlers)) h)))))))
micro_passes false s m list f h =
    none_then _ _ (keys_pass list (micro_keys false) (object (micro_members false s m)) refl)
    (none_then _ _ (name_passes (codes "name") m.name f.name)
    (none_then _ _ (ap (λ b. cond b None (Some (WrongForm (codes "kind")))) (kind_is m.kind))
    (none_then _ _ (numbers_again (codes "nums") m.nums f.nums)
    (none_then _ _ (names_again (event_text s) 0 16 (codes "ports") m.ports f.ports)
    (none_then _ _ (names_again (change_text s) 0 16 (codes "changes") m.changes f.changes) refl)))))

-- what a microprotocol means, with or without handlers in its table
abbrev micro_read : Bool → Data → MicroDraft
micro_read b d = record {
  name = text_of (part (codes "name") d);
  kind = kind_or_prog (kind_in d);
  nums = numbers_of (codes "nums") d;
  ports = texts_of (codes "ports") d;
  changes = texts_of (codes "changes") d;
  handlers = handlers_of b d;
}

micro_means : (b : Bool) (s : Script) (m : MicroDef) → HandlersForm b (handlers_back b m.handlers)
    → micro_read b (object (micro_members b s m)) ≡ record { name = m.name; kind = m.kind; nums = m.nums; ports = map (event_text s) m.ports; changes = map (change_text s) m.changes; handlers = handlers_back b m.handlers }
micro_means true s m h =
    let kind = ap kind_or_prog (kind_in_again true s m) in
    let nums = numbers_same m.nums in
    let ports = texts_same (event_text s) m.ports in
    let changes = texts_same (change_text s) m.changes in
    let handlers = objects_same CodeForm code_fault code_of code_tree (λ c. c) code_again m.handlers (subst (AllByRecursion CodeForm) (sym (map-id m.handlers)) h.each) ∙ map-id m.handlers in
    λ i. record { name = m.name; kind = kind i; nums = nums i; ports = ports i; changes = changes i; handlers = handlers i }
micro_means false s m h =
    let kind = ap kind_or_prog (kind_in_again false s m) in
    let nums = numbers_same m.nums in
    let ports = texts_same (event_text s) m.ports in
    let changes = texts_same (change_text s) m.changes in
    λ i. record { name = m.name; kind = kind i; nums = nums i; ports = ports i; changes = changes i; handlers = [] }

micro_again : (s : Script) (m : MicroDef) → MicroForm (micro_back s m) → IsAgain micro_fault micro_of (micro_tree s m) (micro_back s m)
unfolding micro_fault micro_of micro_tree micro_back
micro_again s m f =
    let known = ap has_handlers (kind_in_again (is_prog m.kind) s m) in
    record {
      passes = λ list. subst (λ b. micro_test b list (object (micro_members (is_prog m.kind) s m)) ≡ None) (sym known) (micro_passes (is_prog m.kind) s m list f f.handlers);
      means = ap (λ b. micro_read b (object (micro_members (is_prog m.kind) s m))) known ∙ micro_means (is_prog m.kind) s m f.handlers;
    }

bound_again : (s : Script) (b : ℕ × ℕ) → BoundForm (bound_back s b) → IsAgain bound_fault bound_of (bound_tree s b) (bound_back s b)
unfolding bound_fault bound_of bound_tree bound_back
bound_again s b f = record {
  passes = λ list.
      none_then _ _ (keys_pass list (codes "micro" ∷ codes "calls" ∷ []) (bound_tree s b) refl)
      (none_then _ _ (name_passes (codes "micro") (micro_text s b.0) f.micro) (number_again 1 256 b.1 (codes "calls") f.calls));
  means = refl;
}

edge_passes : (s : Script) (vertices : List HandlerId) (e : ℕ × ℕ) → EdgeForm (edge_back s vertices e) → is_edge (edge_tree s vertices e) ≡ true
unfolding edge_tree edge_back
edge_passes s vertices e f = ap₂ (λ a b. a && b) f.origin f.to

edge_means : (s : Script) (vertices : List HandlerId) (e : ℕ × ℕ) → edge_of (edge_tree s vertices e) ≡ edge_back s vertices e
unfolding edge_tree edge_back
edge_means s vertices e = refl

edges_again : (s : Script) (vertices : List HandlerId) (es : List (ℕ × ℕ)) → AreAll 0 256 EdgeForm (map (edge_back s vertices) es) → items_fault 0 256 is_edge (codes "edges") (list_tree (edge_tree s vertices) es) ≡ None
edges_again s vertices es h =
    items_again 0 256 is_edge (codes "edges") (edge_tree s vertices) es
    (each_more (λ e. EdgeForm (edge_back s vertices e)) (λ e. is_edge (edge_tree s vertices e) ≡ true) (edge_passes s vertices) es (each_map EdgeForm (edge_back s vertices) es h.each))
    (omega arith) (rw (length-map es (edge_back s vertices)) at h.few)

edges_same : (s : Script) (vertices : List HandlerId) (es : List (ℕ × ℕ)) → map edge_of (list_of (list_tree (edge_tree s vertices) es)) ≡ map (edge_back s vertices) es
edges_same s vertices es = of_again edge_of (edge_tree s vertices) (edge_back s vertices) es (each_all (λ e. edge_of (edge_tree s vertices e) ≡ edge_back s vertices e) (edge_means s vertices) es)

decl_passes : (s : Script) (name : List ℕ) (budget : ℕ) (decl : Decl) → IsNamed name → IsWithin 1 256 budget → BodyForm (body_back s decl) → (list : List ℕ) → decl_fault list (object (decl_members s name budget decl)) ≡ None
unfolding decl_fault
decl_passes s name budget (Decl.Set micros) n b f list =
    none_then _ _ (keys_pass list (decl_keys (Some forms.Set)) (object (decl_members s name budget (Decl.Set micros))) refl)
    (none_then _ _ (name_passes (codes "name") name n)
    (none_then _ _ (as_it_is None)
    (none_then _ _ (number_again 1 256 budget (codes "budget") b) (names_again (micro_text s) 1 24 (codes "micros") micros f))))
decl_passes s name budget (Decl.Bound bounds) n b f list =
    none_then _ _ (keys_pass list (decl_keys (Some forms.Bound)) (object (decl_members s name budget (Decl.Bound bounds))) refl)
    (none_then _ _ (name_passes (codes "name") name n)
    (none_then _ _ (as_it_is None)
    (none_then _ _ (number_again 1 256 budget (codes "budget") b)
    (objects_all BoundForm bound_fault bound_of (bound_tree s) (bound_back s) (bound_again s) 1 24 (codes "bounds") bounds f))))
decl_passes s name budget (Decl.Route vertices roots edges) n b f list =
    none_then _ _ (keys_pass list (decl_keys (Some forms.Route)) (object (decl_members s name budget (Decl.Route vertices roots edges))) refl)
    (none_then _ _ (name_passes (codes "name") name n)
    (none_then _ _ (as_it_is None)
    (none_then _ _ (number_again 1 256 budget (codes "budget") b)
    (none_then _ _ (handlers_again (vertex_text s vertices) 32 (codes "roots") roots f.0) (edges_again s vertices edges f.1)))))

decl_means : (s : Script) (name : List ℕ) (budget : ℕ) (decl : Decl) → BodyForm (body_back s decl) → decl_of (object (decl_members s name budget decl)) ≡ record { name = name; budget = budget; body = body_back s decl }
unfolding decl_of
decl_means s name budget (Decl.Set micros) f = let same = texts_same (micro_text s) micros in λ i. record { name = name; budget = budget; body = bodies.Set (same i) }
decl_means s name budget (Decl.Bound bounds) f =
    let same = objects_same BoundForm bound_fault bound_of (bound_tree s) (bound_back s) (bound_again s) bounds f.each in
    λ i. record { name = name; budget = budget; body = bodies.Bound (same i) }
decl_means s name budget (Decl.Route vertices roots edges) f =
    let start = texts_same (vertex_text s vertices) roots in
    let same = edges_same s vertices edges in
    λ i. record { name = name; budget = budget; body = bodies.Route (start i) (same i) }

decl_again : (s : Script) (d : DeclDef) → DeclForm (decl_back s d) → IsAgain decl_fault decl_of (decl_tree s d) (decl_back s d)
unfolding decl_tree decl_back
decl_again s d f = record { passes = decl_passes s d.name d.budget d.decl f.name f.budget f.body; means = decl_means s d.name d.budget d.decl f.body }

event_again : (s : Script) (e : EventDef) → EventForm (event_back s e) → IsAgain event_fault event_of (event_tree s e) (event_back s e)
unfolding event_fault event_of event_tree event_back
event_again s e f = record {
  passes = λ list.
      none_then _ _ (keys_pass list (codes "name" ∷ codes "decl" ∷ codes "handlers" ∷ []) (event_tree s e) refl)
      (none_then _ _ (name_passes (codes "name") e.name f.name)
      (none_then _ _ (name_passes (codes "decl") (decl_text s e.decl) f.decl) (handlers_again (handler_text s) 4 (codes "handlers") e.handlers f.handlers)));
  means = let same = texts_same (handler_text s) e.handlers in λ i. record { name = e.name; decl = decl_text s e.decl; handlers = same i };
}

table_again : (s : Script) (t : TableDef) → TableForm (table_back s t) → IsAgain table_fault table_of (table_tree s t) (table_back s t)
unfolding table_fault table_of table_tree table_back
table_again s t f = record {
  passes = λ list.
      none_then _ _ (keys_pass list (codes "event" ∷ codes "handlers" ∷ []) (table_tree s t) refl)
      (none_then _ _ (name_passes (codes "event") (event_text s t.event) f.event) (handlers_again (handler_text s) 4 (codes "handlers") t.handlers f.handlers));
  means = let same = texts_same (handler_text s) t.handlers in λ i. record { event = event_text s t.event; handlers = same i };
}

change_again : (s : Script) (c : ChangeDef) → ChangeForm (change_back s c) → IsAgain change_fault change_of (change_tree s c) (change_back s c)
unfolding change_fault change_of change_tree change_back
change_again s c f = record {
  passes = λ list.
      none_then _ _ (keys_pass list (codes "name" ∷ codes "event" ∷ codes "table" ∷ []) (change_tree s c) refl)
      (none_then _ _ (name_passes (codes "name") c.name f.name)
      (none_then _ _ (name_passes (codes "event") (event_text s c.event) f.event)
      (objects_all TableForm table_fault table_of (table_tree s) (table_back s) (table_again s) 1 16 (codes "table") c.table f.table)));
  means =
      let same = objects_same TableForm table_fault table_of (table_tree s) (table_back s) (table_again s) c.table f.table.each in
      λ i. record { name = c.name; event = event_text s c.event; table = same i };
}

do_passes : (s : Script) (item : DoDef) (cause : Cause) → 1 ≤ item.tick → CauseForm (cause_back s cause) → length item.args ≤ 12 → (list : List ℕ) → do_fault list (object (do_members s item cause)) ≡ None
unfolding do_fault
do_passes s item (causes.Event event) t f a list =
    none_then _ _ (keys_pass list (codes "tick" ∷ codes "node" ∷ codes "event" ∷ codes "change" ∷ codes "args" ∷ []) (object (do_members s item (causes.Event event))) refl)
    (none_then _ _ (as_it_is None)
    (none_then _ _ (from_again 1 item.tick (codes "tick") t)
    (none_then _ _ (from_again 0 item.node.0 (codes "node") (omega arith))
    (none_then _ _ (none_then _ _ (name_passes (codes "event") (event_text s event) f) (as_it_is None)) (numbers_again (codes "args") item.args a)))))
do_passes s item (causes.Change change) t f a list =
    none_then _ _ (keys_pass list (codes "tick" ∷ codes "node" ∷ codes "event" ∷ codes "change" ∷ codes "args" ∷ []) (object (do_members s item (causes.Change change))) refl)
    (none_then _ _ (as_it_is None)
    (none_then _ _ (from_again 1 item.tick (codes "tick") t)
    (none_then _ _ (from_again 0 item.node.0 (codes "node") (omega arith))
    (none_then _ _ (none_then _ _ (as_it_is None) (name_passes (codes "change") (change_text s change) f)) (numbers_again (codes "args") item.args a)))))

do_means : (s : Script) (item : DoDef) (cause : Cause) → do_of (object (do_members s item cause)) ≡ record { tick = item.tick; node = item.node.0; cause = cause_back s cause; args = item.args }
unfolding do_of
do_means s item (causes.Event event) = let same = numbers_same item.args in λ i. record { tick = item.tick; node = item.node.0; cause = Event (event_text s event); args = same i }
do_means s item (causes.Change change) = let same = numbers_same item.args in λ i. record { tick = item.tick; node = item.node.0; cause = Change (change_text s change); args = same i }

do_again : (s : Script) (item : DoDef) → DoForm (do_back s item) → IsAgain do_fault do_of (do_tree s item) (do_back s item)
unfolding do_tree do_back
do_again s item f = record { passes = do_passes s item item.cause f.tick f.cause f.args; means = do_means s item item.cause }

loss_again : (l : LossDef) → IsAgain loss_fault loss_of (loss_tree l) (loss_back l)
unfolding loss_fault loss_of loss_tree loss_back
loss_again l = record {
  passes = λ list.
      none_then _ _ (keys_pass list (codes "from" ∷ codes "to" ∷ codes "first" ∷ codes "last" ∷ []) (loss_tree l) refl)
      (none_then _ _ (from_again 0 l.from.0 (codes "from") (omega arith))
      (none_then _ _ (from_again 0 l.to.0 (codes "to") (omega arith))
      (none_then _ _ (from_again 0 l.first (codes "first") (omega arith)) (from_again 0 l.last (codes "last") (omega arith)))));
  means = refl;
}

crash_again : (c : CrashDef) → IsAgain crash_fault crash_of (crash_tree c) (crash_back c)
unfolding crash_fault crash_of crash_tree crash_back
crash_again c = record {
  passes = λ list.
      none_then _ _ (keys_pass list (codes "node" ∷ codes "tick" ∷ []) (crash_tree c) refl)
      (none_then _ _ (from_again 0 c.node.0 (codes "node") (omega arith)) (from_again 0 c.tick (codes "tick") (omega arith)));
  means = refl;
}

losses_pass : (ls : List LossDef) → length (map loss_back ls) ≤ 256 → list_fault 0 256 loss_fault (codes "lose") (list_tree loss_tree ls) ≡ None
losses_pass ls h =
    objects_again 0 256 loss_fault (codes "lose") loss_tree ls (each_all (λ l. loss_fault (codes "lose") (loss_tree l) ≡ None) (λ l. (loss_again l).passes (codes "lose")) ls)
    (omega arith) (rw (length-map ls loss_back) at h)

crashes_pass : (cs : List CrashDef) → length (map crash_back cs) ≤ 8 → list_fault 0 8 crash_fault (codes "crash") (list_tree crash_tree cs) ≡ None
crashes_pass cs h =
    objects_again 0 8 crash_fault (codes "crash") crash_tree cs (each_all (λ c. crash_fault (codes "crash") (crash_tree c) ≡ None) (λ c. (crash_again c).passes (codes "crash")) cs)
    (omega arith) (rw (length-map cs crash_back) at h)

-- ---- the whole

pub tree_passes : (s : Script) → DraftForm (draft_back s) → form_of_all (tree_of s) ≡ None
unfolding form_of_all tree_of draft_back
tree_passes s f =
    none_then _ _ (keys_pass (codes "script") script_keys (tree_of s) refl)
    (none_then _ _ (as_it_is None)
    (none_then _ _ (number_again 1 8 s.nodes (codes "nodes") f.nodes)
    (none_then _ _ (number_again 1 10000 s.ticks (codes "ticks") f.ticks)
    (none_then _ _ (objects_all MicroForm micro_fault micro_of (micro_tree s) (micro_back s) (micro_again s) 1 24 (codes "micros") s.micros f.micros)
    (none_then _ _ (objects_all DeclForm decl_fault decl_of (decl_tree s) (decl_back s) (decl_again s) 1 64 (codes "decls") s.decls f.decls)
    (none_then _ _ (objects_all EventForm event_fault event_of (event_tree s) (event_back s) (event_again s) 1 64 (codes "events") s.events f.events)
    (none_then _ _ (objects_all ChangeForm change_fault change_of (change_tree s) (change_back s) (change_again s) 0 16 (codes "changes") s.changes f.changes)
    (none_then _ _ (objects_all DoForm do_fault do_of (do_tree s) (do_back s) (do_again s) 0 8192 (codes "do") s.does f.does)
    (none_then _ _ (losses_pass s.losses f.losses) (crashes_pass s.crashes f.crashes))))))))))

pub tree_means : (s : Script) → DraftForm (draft_back s) → draft_of (tree_of s) ≡ draft_back s
unfolding draft_of tree_of draft_back
tree_means s f =
    let micros = objects_same MicroForm micro_fault micro_of (micro_tree s) (micro_back s) (micro_again s) s.micros f.micros.each in
    let decls = objects_same DeclForm decl_fault decl_of (decl_tree s) (decl_back s) (decl_again s) s.decls f.decls.each in
    let events = objects_same EventForm event_fault event_of (event_tree s) (event_back s) (event_again s) s.events f.events.each in
    let changes = objects_same ChangeForm change_fault change_of (change_tree s) (change_back s) (change_again s) s.changes f.changes.each in
    let does = objects_same DoForm do_fault do_of (do_tree s) (do_back s) (do_again s) s.does f.does.each in
    let losses = of_again loss_of loss_tree loss_back s.losses (each_all (λ l. loss_of (loss_tree l) ≡ loss_back l) (λ l. (loss_again l).means) s.losses) in
    let crashes = of_again crash_of crash_tree crash_back s.crashes (each_all (λ c. crash_of (crash_tree c) ≡ crash_back c) (λ c. (crash_again c).means) s.crashes) in
    λ i. record {
      nodes = s.nodes;
      ticks = s.ticks;
      micros = micros i;
      decls = decls i;
      events = events i;
      changes = changes i;
      does = does i;
      losses = losses i;
      crashes = crashes i;
    }
