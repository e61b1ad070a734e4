-- The canonical tree has no float, and isn't deep.
use Rattle.std.proofs.Common.{◌≡◌, ℕ, suc, ◌≤◌, Bool, true, false, List, [], ◌∷◌, map, refl, ap₂, arith}
use Rattle.std.specs.Prelude.{◌||◌}
use Rattle.serde_json.specs.Data.{Data, string, array, object, Members, member, no_members, Items, depth, items_depth, members_depth}
use Rattle.serde_json.specs.View.{items_of}
use Rattle.serde_json.specs.Written.{has_float, items_have_float, members_have_float}
use Rattle.serde_json.specs.Read.{max_depth}
use Rattle.samoa_model.specs.declared.ids.HandlerId.{HandlerId}
use Rattle.samoa_model.specs.declared.setup.Instr.{Instr}
use Rattle.samoa_model.specs.declared.setup.Instr.TheVariants as instr
use Rattle.samoa_model.specs.declared.record.Cause.{Cause}
use Rattle.samoa_model.specs.declared.record.Cause.TheVariants.{Event, Change}
use Rattle.samoa_model.specs.declared.script.CodeDef.{CodeDef}
use Rattle.samoa_model.specs.declared.script.MicroDef.{MicroDef}
use Rattle.samoa_model.specs.declared.script.Decl.{Decl}
use Rattle.samoa_model.specs.declared.script.DeclDef.{DeclDef}
use Rattle.samoa_model.specs.declared.script.EventDef.{EventDef}
use Rattle.samoa_model.specs.declared.script.TableDef.{TableDef}
use Rattle.samoa_model.specs.declared.script.ChangeDef.{ChangeDef}
use Rattle.samoa_model.specs.declared.script.DoDef.{DoDef}
use Rattle.samoa_model.specs.declared.script.LossDef.{LossDef}
use Rattle.samoa_model.specs.declared.script.CrashDef.{CrashDef}
use Rattle.samoa_model.specs.declared.script.Script.{Script}
use Rattle.samoa_grammar.specs.Forms.{is_prog}
use Rattle.samoa_print.specs.Canonical.{number_tree, list_tree, event_name_tree, change_name_tree, handler_name_tree, micro_name_tree, instr_tree, code_tree, with_handlers, kind_members, micro_tree, bound_tree, vertex_tree, edge_tree, decl_members, decl_tree, event_tree, table_tree, change_tree, cause_members, do_tree, loss_tree, crash_tree, tree_of}

-- a tree with no float that nests at most so deep
pub record IsPlain (n : ℕ) (d : Data) : Type 0 where
  pub plain : has_float d ≡ false
  pub flat : depth d ≤ n

pub record ArePlain (n : ℕ) (ds : Items) : Type 0 where
  pub plain : items_have_float ds ≡ false
  pub flat : items_depth ds ≤ n

pub record HasPlain (n : ℕ) (ms : Members) : Type 0 where
  pub plain : members_have_float ms ≡ false
  pub flat : members_depth ms ≤ n

string_plain : (n : ℕ) (s : List ℕ) → IsPlain n (string s)
string_plain n s = record { plain = refl; flat = omega arith }

number_plain : (n : ℕ) (k : ℕ) → IsPlain n (number_tree k)
number_plain n k = record { plain = refl; flat = omega arith }

none_plain : (n : ℕ) → HasPlain n no_members
none_plain n = record { plain = refl; flat = omega arith }

member_plain : (n : ℕ) (k : List ℕ) (d : Data) (ms : Members) → IsPlain n d → HasPlain n ms → HasPlain n (member k d ms)
member_plain n k d ms p q = record { plain = ap₂ (λ a b. a || b) p.plain q.plain; flat = let a = p.flat in let b = q.flat in omega arith }

object_plain : (n : ℕ) (ms : Members) → HasPlain n ms → IsPlain (suc n) (object ms)
object_plain n ms p = record { plain = p.plain; flat = let a = p.flat in omega arith }

array_plain : (n : ℕ) (ds : Items) → ArePlain n ds → IsPlain (suc n) (array ds)
array_plain n ds p = record { plain = p.plain; flat = let a = p.flat in omega arith }

items_plain : {X : Type 0} (n : ℕ) (tree : X → Data) (xs : List X) → ((x : X) → IsPlain n (tree x)) → ArePlain n (items_of (map tree xs))
items_plain n tree [] each = record { plain = refl; flat = omega arith }
items_plain n tree (x ∷ xs) each =
    let rest = items_plain n tree xs each in
    let first = each x in
    let a = first.flat in
    let b = rest.flat in
    record { plain = ap₂ (λ c e. c || e) first.plain rest.plain; flat = omega arith }

list_plain : {X : Type 0} (n : ℕ) (tree : X → Data) (xs : List X) → ((x : X) → IsPlain n (tree x)) → IsPlain (suc n) (list_tree tree xs)
list_plain n tree xs each = array_plain n (items_of (map tree xs)) (items_plain n tree xs each)

numbers_plain : (n : ℕ) (xs : List ℕ) → IsPlain (suc n) (list_tree number_tree xs)
numbers_plain n xs = list_plain n number_tree xs (number_plain n)

instr_plain : (i : Instr) → IsPlain 1 (instr_tree i)
unfolding instr_tree
instr_plain (instr.Set d n) = record { plain = refl; flat = omega arith }
instr_plain (instr.Copy d s) = record { plain = refl; flat = omega arith }
instr_plain (instr.Add d s) = record { plain = refl; flat = omega arith }
instr_plain (instr.Sub d s) = record { plain = refl; flat = omega arith }
instr_plain (instr.Less s t j) = record { plain = refl; flat = omega arith }
instr_plain (instr.Call port k) = record { plain = refl; flat = omega arith }
instr_plain (instr.Later port k) = record { plain = refl; flat = omega arith }
instr_plain (instr.Send s port k) = record { plain = refl; flat = omega arith }
instr_plain (instr.Deliver k) = record { plain = refl; flat = omega arith }
instr_plain (instr.Change c k) = record { plain = refl; flat = omega arith }
instr_plain (instr.Done k) = record { plain = refl; flat = omega arith }

code_plain : (c : CodeDef) → IsPlain 3 (code_tree c)
unfolding code_tree
code_plain c =
    object_plain 2 _
    (member_plain 2 _ _ _ (list_plain 1 instr_tree c.code instr_plain)
    (member_plain 2 _ _ _ (string_plain 2 c.name) (none_plain 2)))

handlers_plain : (handlers : Bool) (codes : List CodeDef) (rest : Members) → HasPlain 4 rest → HasPlain 4 (with_handlers handlers codes rest)
handlers_plain true codes rest p = member_plain 4 _ _ _ (list_plain 3 code_tree codes code_plain) p
handlers_plain false codes rest p = p

kind_plain : (script : Script) (m : MicroDef) → HasPlain 4 (kind_members script m)
kind_plain script m =
    member_plain 4 _ _ _ (string_plain 4 _)
    (member_plain 4 _ _ _ (string_plain 4 _)
    (member_plain 4 _ _ _ (numbers_plain 3 m.nums)
    (member_plain 4 _ _ _ (list_plain 3 (event_name_tree script) m.ports (λ x. string_plain 3 _)) (none_plain 4))))

micro_plain : (script : Script) (m : MicroDef) → IsPlain 5 (micro_tree script m)
unfolding micro_tree
micro_plain script m =
    object_plain 4 _
    (member_plain 4 _ _ _ (list_plain 3 (change_name_tree script) m.changes (λ x. string_plain 3 _))
    (handlers_plain (is_prog m.kind) m.handlers _ (kind_plain script m)))

bound_plain : (script : Script) (b : ℕ × ℕ) → IsPlain 3 (bound_tree script b)
unfolding bound_tree
bound_plain script b =
    object_plain 2 _ (member_plain 2 _ _ _ (number_plain 2 _) (member_plain 2 _ _ _ (string_plain 2 _) (none_plain 2)))

edge_plain : (script : Script) (vertices : List HandlerId) (e : ℕ × ℕ) → IsPlain 3 (edge_tree script vertices e)
unfolding edge_tree
edge_plain script vertices e = record { plain = refl; flat = omega arith }

members_plain : (script : Script) (name : List ℕ) (budget : ℕ) (decl : Decl) → HasPlain 4 (decl_members script name budget decl)
members_plain script name budget (Decl.Set micros) =
    member_plain 4 _ _ _ (number_plain 4 _)
    (member_plain 4 _ _ _ (string_plain 4 _)
    (member_plain 4 _ _ _ (list_plain 3 (micro_name_tree script) micros (λ x. string_plain 3 _))
    (member_plain 4 _ _ _ (string_plain 4 _) (none_plain 4))))
members_plain script name budget (Decl.Bound bounds) =
    member_plain 4 _ _ _ (list_plain 3 (bound_tree script) bounds (bound_plain script))
    (member_plain 4 _ _ _ (number_plain 4 _)
    (member_plain 4 _ _ _ (string_plain 4 _)
    (member_plain 4 _ _ _ (string_plain 4 _) (none_plain 4))))
members_plain script name budget (Decl.Route vertices roots edges) =
    member_plain 4 _ _ _ (number_plain 4 _)
    (member_plain 4 _ _ _ (list_plain 3 (edge_tree script vertices) edges (edge_plain script vertices))
    (member_plain 4 _ _ _ (string_plain 4 _)
    (member_plain 4 _ _ _ (string_plain 4 _)
    (member_plain 4 _ _ _ (list_plain 3 (vertex_tree script vertices) roots (λ x. string_plain 3 _)) (none_plain 4)))))

decl_plain : (script : Script) (d : DeclDef) → IsPlain 5 (decl_tree script d)
unfolding decl_tree
decl_plain script d = object_plain 4 _ (members_plain script d.name d.budget d.decl)

event_plain : (script : Script) (e : EventDef) → IsPlain 5 (event_tree script e)
unfolding event_tree
event_plain script e =
    object_plain 4 _
    (member_plain 4 _ _ _ (string_plain 4 _)
    (member_plain 4 _ _ _ (list_plain 3 (handler_name_tree script) e.handlers (λ x. string_plain 3 _))
    (member_plain 4 _ _ _ (string_plain 4 _) (none_plain 4))))

table_plain : (script : Script) (t : TableDef) → IsPlain 3 (table_tree script t)
unfolding table_tree
table_plain script t =
    object_plain 2 _
    (member_plain 2 _ _ _ (string_plain 2 _)
    (member_plain 2 _ _ _ (list_plain 1 (handler_name_tree script) t.handlers (λ x. string_plain 1 _)) (none_plain 2)))

change_plain : (script : Script) (c : ChangeDef) → IsPlain 5 (change_tree script c)
unfolding change_tree
change_plain script c =
    object_plain 4 _
    (member_plain 4 _ _ _ (string_plain 4 _)
    (member_plain 4 _ _ _ (string_plain 4 _)
    (member_plain 4 _ _ _ (list_plain 3 (table_tree script) c.table (table_plain script)) (none_plain 4))))

cause_plain : (script : Script) (cause : Cause) (rest : Members) → HasPlain 4 rest → HasPlain 4 (cause_members script cause rest)
cause_plain script (Event event) rest p = member_plain 4 _ _ _ (string_plain 4 _) p
cause_plain script (Change change) rest p = member_plain 4 _ _ _ (string_plain 4 _) p

do_plain : (script : Script) (item : DoDef) → IsPlain 5 (do_tree script item)
unfolding do_tree
do_plain script item =
    object_plain 4 _
    (member_plain 4 _ _ _ (numbers_plain 3 item.args)
    (cause_plain script item.cause _
    (member_plain 4 _ _ _ (number_plain 4 _) (member_plain 4 _ _ _ (number_plain 4 _) (none_plain 4)))))

loss_plain : (l : LossDef) → IsPlain 5 (loss_tree l)
unfolding loss_tree
loss_plain l = record { plain = refl; flat = omega arith }

crash_plain : (c : CrashDef) → IsPlain 5 (crash_tree c)
unfolding crash_tree
crash_plain c = record { plain = refl; flat = omega arith }

-- ---- the lists of the whole

changes_plain : (script : Script) → IsPlain 6 (list_tree (change_tree script) script.changes)
changes_plain script = list_plain 5 (change_tree script) script.changes (change_plain script)

decls_plain : (script : Script) → IsPlain 6 (list_tree (decl_tree script) script.decls)
decls_plain script = list_plain 5 (decl_tree script) script.decls (decl_plain script)

events_plain : (script : Script) → IsPlain 6 (list_tree (event_tree script) script.events)
events_plain script = list_plain 5 (event_tree script) script.events (event_plain script)

micros_plain : (script : Script) → IsPlain 6 (list_tree (micro_tree script) script.micros)
micros_plain script = list_plain 5 (micro_tree script) script.micros (micro_plain script)

losses_plain : (ls : List LossDef) → IsPlain 6 (list_tree loss_tree ls)
losses_plain ls = list_plain 5 loss_tree ls loss_plain

crashes_plain : (cs : List CrashDef) → IsPlain 6 (list_tree crash_tree cs)
crashes_plain cs = list_plain 5 crash_tree cs crash_plain

tree_plain : (script : Script) → IsPlain 7 (tree_of script)
unfolding tree_of
tree_plain script =
    object_plain 6 _
    (member_plain 6 _ _ _ (changes_plain script)
    (member_plain 6 _ _ _ (crashes_plain script.crashes)
    (member_plain 6 _ _ _ (decls_plain script)
    (member_plain 6 _ _ _ (list_plain 5 (do_tree script) script.does (do_plain script))
    (member_plain 6 _ _ _ (events_plain script)
    (member_plain 6 _ _ _ (losses_plain script.losses)
    (member_plain 6 _ _ _ (micros_plain script)
    (member_plain 6 _ _ _ (number_plain 6 _)
    (member_plain 6 _ _ _ (number_plain 6 _)
    (member_plain 6 _ _ _ (number_plain 6 _) (none_plain 6)))))))))))

pub is_flat : (script : Script) → depth (tree_of script) ≤ max_depth
is_flat script = let flat = (tree_plain script).flat in omega arith

-- ---- what a text of each list asks for

flat_within : (d : Data) → IsPlain 6 d → depth d ≤ max_depth
flat_within d p = let flat = p.flat in omega arith

pub changes_no_float : (script : Script) → has_float (list_tree (change_tree script) script.changes) ≡ false
changes_no_float script = (changes_plain script).plain

pub changes_flat : (script : Script) → depth (list_tree (change_tree script) script.changes) ≤ max_depth
changes_flat script = flat_within _ (changes_plain script)

pub decls_no_float : (script : Script) → has_float (list_tree (decl_tree script) script.decls) ≡ false
decls_no_float script = (decls_plain script).plain

pub decls_flat : (script : Script) → depth (list_tree (decl_tree script) script.decls) ≤ max_depth
decls_flat script = flat_within _ (decls_plain script)

pub events_no_float : (script : Script) → has_float (list_tree (event_tree script) script.events) ≡ false
events_no_float script = (events_plain script).plain

pub events_flat : (script : Script) → depth (list_tree (event_tree script) script.events) ≤ max_depth
events_flat script = flat_within _ (events_plain script)

pub micros_no_float : (script : Script) → has_float (list_tree (micro_tree script) script.micros) ≡ false
micros_no_float script = (micros_plain script).plain

pub micros_flat : (script : Script) → depth (list_tree (micro_tree script) script.micros) ≤ max_depth
micros_flat script = flat_within _ (micros_plain script)

pub losses_no_float : (ls : List LossDef) → has_float (list_tree loss_tree ls) ≡ false
losses_no_float ls = (losses_plain ls).plain

pub losses_flat : (ls : List LossDef) → depth (list_tree loss_tree ls) ≤ max_depth
losses_flat ls = flat_within _ (losses_plain ls)

pub crashes_no_float : (cs : List CrashDef) → has_float (list_tree crash_tree cs) ≡ false
crashes_no_float cs = (crashes_plain cs).plain

pub crashes_flat : (cs : List CrashDef) → depth (list_tree crash_tree cs) ≤ max_depth
crashes_flat cs = flat_within _ (crashes_plain cs)

pub ruleset parts_plain = (changes_no_float, changes_flat, decls_no_float, decls_flat, events_no_float, events_flat, micros_no_float, micros_flat)
