-- A valid script's canonical tree passes the walk, and means the script.
use Rattle.std.proofs.Common.{◌≡◌, ℕ, ◌+◌, ◌*◌, ◌<◌, ◌≤◌, Bool, true, cond, List, [], ◌∷◌, ◌++◌, length, map, get_or, Option, Some, None, refl, sym, ap, ap₂, ◌∙◌, subst, arith}
use Rattle.std.specs.Prelude.{codes, nat_le, nat_lt, count_by, fold, unwrap_or, Result, Ok, Err, IfOk, Vec}
use Rattle.std.specs.List.{All, flat_map}
use Rattle.std.specs.declared.alloc.Global.{Global}
use Rattle.std.proofs.lemmas.Bool.{lt-ltb}
use Rattle.std.proofs.lemmas.Bool.Decides.{nat_tests}
use Rattle.std.proofs.lemmas.List.{length-map}
use Rattle.std.proofs.lemmas.List.Elements.{All-map, All-head, All-tail}
use Rattle.samoa_model.specs.declared.listed.NoMemory.{NoMemory}
use Rattle.samoa_model.specs.declared.ids.EventId.{EventId}
use Rattle.samoa_model.specs.declared.ids.ChangeId.{ChangeId}
use Rattle.samoa_model.specs.declared.ids.HandlerId.{HandlerId}
use Rattle.samoa_model.specs.declared.setup.Kind.{Kind}
use Rattle.samoa_model.specs.declared.setup.Kind.TheVariants.{Prog, Link, Fd, Rbcast, Cons, Abcast, Seqcast, Repl, Views}
use Rattle.samoa_model.specs.declared.setup.Instr.{Instr}
use Rattle.samoa_model.specs.declared.setup.Instr.TheVariants as instr
use Rattle.samoa_model.specs.contracts.setup.KindPartialEq.TheImpl.{ghosts}
use Rattle.samoa_model.specs.declared.record.Cause.{Cause}
use Rattle.samoa_model.specs.declared.record.Cause.TheVariants as causes
use Rattle.samoa_model.specs.declared.script.CodeDef.{CodeDef}
use Rattle.samoa_model.specs.declared.script.MicroDef.{MicroDef}
use Rattle.samoa_model.specs.declared.script.Decl.{Decl}
use Rattle.samoa_model.specs.declared.script.DeclDef.{DeclDef}
use Rattle.samoa_model.specs.declared.script.EventDef.{EventDef}
use Rattle.samoa_model.specs.declared.script.TableDef.{TableDef}
use Rattle.samoa_model.specs.declared.script.ChangeDef.{ChangeDef}
use Rattle.samoa_model.specs.declared.script.DoDef.{DoDef}
use Rattle.samoa_model.specs.declared.script.LossDef.{LossDef}
use Rattle.samoa_model.specs.declared.script.CrashDef.{CrashDef}
use Rattle.samoa_model.specs.declared.script.Script.{Script}
use Rattle.samoa_model.specs.Allowed.{same_handler, no_handler}
use Rattle.samoa_model.specs.Handlers.{handler_text}
use Rattle.samoa_model.specs.Range.{ports_needed, HasPosition, IsBindable, IsEventOf, IsChangeOf, IsCauseOf, IsMicroInRange, IsEventInRange, IsChangeInRange, IsDoInRange, IsLossInRange, IsSetOf, IsRouteOf, IsDeclOf}
use Rattle.samoa_model.specs.Routes.{once, vertex_at, ends_at, met}
use Rattle.samoa_model.specs.Valid.{AreApart, AreNames, IsMicroValid, IsRouteValid, IsDeclValid, IsChangeValid, IsValid}
use Rattle.samoa_grammar.specs.declared.fault.WalkFault.{WalkFault}
use Rattle.samoa_grammar.specs.declared.fault.WalkFault.TheVariants.{WrongForm, Over}
use Rattle.samoa_grammar.specs.declared.draft.MicroDraft.{MicroDraft}
use Rattle.samoa_grammar.specs.declared.draft.BoundDraft.{BoundDraft}
use Rattle.samoa_grammar.specs.declared.draft.EdgeDraft.{EdgeDraft}
use Rattle.samoa_grammar.specs.declared.draft.BodyDraft.TheVariants as bodies
use Rattle.samoa_grammar.specs.declared.draft.DeclDraft.{DeclDraft}
use Rattle.samoa_grammar.specs.declared.draft.EventDraft.{EventDraft}
use Rattle.samoa_grammar.specs.declared.draft.TableDraft.{TableDraft}
use Rattle.samoa_grammar.specs.declared.draft.ChangeDraft.{ChangeDraft}
use Rattle.samoa_grammar.specs.declared.draft.DoDraft.{DoDraft}
use Rattle.samoa_grammar.specs.declared.draft.CrashDraft.{CrashDraft}
use Rattle.samoa_grammar.specs.Walks.{◌then◌, first_along}
use Rattle.samoa_grammar.specs.Tree.{IsJson}
use Rattle.samoa_grammar.specs.Forms.{form_of_all, draft_of}
use Rattle.samoa_grammar.specs.Meaning.{number_in_names, handler_of, same_edge, edges_after, vertex_of, vertices_of, edge_numbers, route_of, micros_named, event_named, change_named, micro_meant, body_meant, decl_meant, event_meant, table_meant, change_meant, cause_meant, do_meant, loss_meant, crash_meant, script_of}
use Rattle.samoa_grammar.specs.Passes.{twice, body_twice, twice_fault, among, micro_names, decl_names, event_names, change_names, handler_unknown, micro_unknown, body_unknown, event_unknown, table_unknown, change_unknown, cause_unknown, unknown_fault, is_instr_of, instr_fault, ports_fault, code_total, vertices_fault, node_fault, loss_total, tick_fault, kind_fault, kinds_fault, totals_fault}
use Rattle.samoa_grammar.specs.Held.{walk_fault, script_meant, Holds}
use Rattle.samoa_grammar.proofs.Dedup.{same_handlers, same_edges, once_is, edges_is}
use Rattle.samoa_grammar.proofs.Apart.{place_at, apart_map, twice_none, dedup_itself, dedup_apart}
use Rattle.samoa_print.specs.Texts.{micro_text, decl_text, event_text, change_text}
use Rattle.samoa_print.specs.Canonical.{tree_of}
use Rattle.samoa_print.proofs.Back.{micro_back, bound_back, vertex_text, edge_back, body_back, decl_back, event_back, table_back, change_back, cause_back, do_back, loss_back, crash_back, draft_back}
use Rattle.samoa_grammar.proofs.Lists.{map_map}
use Rattle.samoa_print.proofs.Parts.{none_then, map_itself}
use Rattle.samoa_print.proofs.Again.{tree_passes, tree_means}
use Rattle.samoa_print.proofs.Named.{known, again, handlers_kept, micros_back, decls_back, events_back, changes_back, micro_kept, decl_kept, event_kept, change_kept}
use Rattle.samoa_print.proofs.Formed.{each_from, unmapped, vertex_kept, handlers_known, draft_form}

-- ---- lists

along_none : {X : Type 0} (fault : X → Option WalkFault) (xs : List X) → All (λ x. fault x ≡ None) xs → first_along fault xs ≡ None
along_none fault [] all = refl
along_none fault (x ∷ xs) all = none_then (fault x) (first_along fault xs) (All-head (λ y. fault y ≡ None) x xs all) (along_none fault xs (All-tail (λ y. fault y ≡ None) x xs all))

along_map : {X Y : Type 0} (fault : Y → Option WalkFault) (back : X → Y) (xs : List X) → All (λ x. fault (back x) ≡ None) xs → first_along fault (map back xs) ≡ None
along_map fault back xs all = along_none fault (map back xs) (All-map (λ y. fault y ≡ None) back xs all)

list_again : {X Y : Type 0} (meant : Y → X) (back : X → Y) (xs : List X) → All (λ x. meant (back x) ≡ x) xs → map meant (map back xs) ≡ xs
list_again meant back xs all = map_map meant back xs ∙ map_itself (λ x. meant (back x)) xs (each_from (λ x. meant (back x) ≡ x) xs all)

test_passes : (b : Bool) (f : WalkFault) → b ≡ true → cond b None (Some f) ≡ None
test_passes b f h = ap (λ c. cond c None (Some f)) h

least_test : (a b : ℕ) → a ≤ b → nat_le a b ≡ true
least_test a b h = grind (arith, nat_tests)

most_passes : (most n : ℕ) (f : WalkFault) → n ≤ most → cond (nat_lt most n) (Some f) None ≡ None
most_passes most n f h = grind (arith, nat_tests)

module _ (s : Script) (v : IsValid s) where
  -- ---- numbers again

  micros_again : (ps : List ℕ) → All (λ p. p < length s.micros) ps → All (λ p. number_in_names (micro_names (draft_back s)) (micro_text s p) ≡ p) ps
  micros_again ps in_range k d below = (micro_kept s v (get_or ps k d) (in_range k d below)).number

  event_again : (event : EventId) → IsEventOf s event → event_named (draft_back s) (event_text s event) ≡ event
  event_again event below = let number = (event_kept s v event below).number in λ i. record { 0 = number i }

  change_again : (change : ChangeId) → IsChangeOf s change → change_named (draft_back s) (change_text s change) ≡ change
  change_again change below = let number = (change_kept s v change below).number in λ i. record { 0 = number i }

  handlers_again : (hs : List HandlerId) → IsBindable s hs → All (λ (h : HandlerId). handler_of (draft_back s).micros (handler_text s h) ≡ h) hs
  handlers_again hs bindable k d below = let h = get_or hs k d in again (draft_back s).micros (handler_text s h) h (handlers_known s v hs bindable k d below)

  handlers_apart : (hs : List HandlerId) → IsBindable s hs → AreApart hs → twice (map (handler_text s) hs) ≡ None
  handlers_apart hs bindable apart = twice_none (map (handler_text s) hs) (apart_map (handler_text s) (handler_of (draft_back s).micros) hs (handlers_again hs bindable) apart)

  handlers_pass : (hs : List HandlerId) → IsBindable s hs → first_along (handler_unknown (draft_back s).micros) (map (handler_text s) hs) ≡ None
  handlers_pass hs bindable =
      along_map (handler_unknown (draft_back s).micros) (handler_text s) hs
      (λ k d below. known (draft_back s).micros (handler_text s (get_or hs k d)) (get_or hs k d) (handlers_known s v hs bindable k d below))

  -- ---- routes

  vertex_again : (vs : List HandlerId) (roots : List ℕ) (edges : List (ℕ × ℕ)) → IsRouteOf s vs roots edges → (r : ℕ) → r < length vs → handler_of (draft_back s).micros (vertex_text s vs r) ≡ vertex_at vs r
  vertex_again vs roots edges route r below = again (draft_back s).micros (vertex_text s vs r) (vertex_at vs r) (vertex_kept s v vs roots edges route r below)

  roots_again : (vs : List HandlerId) (roots : List ℕ) (edges : List (ℕ × ℕ)) → IsRouteOf s vs roots edges → map (handler_of (draft_back s).micros) (map (vertex_text s vs) roots) ≡ map (vertex_at vs) roots
  roots_again vs roots edges route = go roots route.first
    where
      go : (rs : List ℕ) → All (λ r. r < length vs) rs → map (handler_of (draft_back s).micros) (map (vertex_text s vs) rs) ≡ map (vertex_at vs) rs
      go [] all = refl
      go (r ∷ rs) all =
          ap₂ (λ h hs. h ∷ hs) (vertex_again vs roots edges route r (All-head (λ r. r < length vs) r rs all)) (go rs (All-tail (λ r. r < length vs) r rs all))

  abbrev Below : List HandlerId → ℕ × ℕ → Type 0
  Below vs e = (e.0 < length vs) × (e.1 < length vs)

  abbrev ends_named : EdgeDraft → List HandlerId
  ends_named e = handler_of (draft_back s).micros e.from ∷ handler_of (draft_back s).micros e.to ∷ []

  ends_again : (vs : List HandlerId) (roots : List ℕ) (edges : List (ℕ × ℕ)) → IsRouteOf s vs roots edges → flat_map ends_named (map (edge_back s vs) edges) ≡ flat_map (ends_at vs) edges
  unfolding edge_back
  ends_again vs roots edges route = go edges route.ends
    where
      go : (es : List (ℕ × ℕ)) → All (Below vs) es → flat_map ends_named (map (edge_back s vs) es) ≡ flat_map (ends_at vs) es
      go [] all = refl
      go (e ∷ es) all =
          let below = All-head (Below vs) e es all in
          ap₂ (λ a b. a ∷ b ∷ flat_map ends_named (map (edge_back s vs) es)) (vertex_again vs roots edges route e.0 below.0) (vertex_again vs roots edges route e.1 below.1)
          ∙ ap (λ hs. vertex_at vs e.0 ∷ vertex_at vs e.1 ∷ hs) (go es (All-tail (Below vs) e es all))

  vertices_again : (vs : List HandlerId) (roots : List ℕ) (edges : List (ℕ × ℕ)) → IsRouteOf s vs roots edges → IsRouteValid vs roots edges
      → vertices_of (draft_back s).micros (map (vertex_text s vs) roots) (map (edge_back s vs) edges) ≡ vs
  vertices_again vs roots edges route valid =
      ap₂ (λ a b. once (a ++ b)) (roots_again vs roots edges route) (ends_again vs roots edges route) ∙ sym valid.vertices_met

  vertices_apart : (vs : List HandlerId) (roots : List ℕ) (edges : List (ℕ × ℕ)) → IsRouteValid vs roots edges → AreApart vs
  vertices_apart vs roots edges valid =
      subst AreApart (sym (valid.vertices_met ∙ once_is [] (met vs roots edges))) (dedup_apart same_handler same_handlers (met vs roots edges))

  number_again : (vs : List HandlerId) → AreApart vs → (r : ℕ) → r < length vs → vertex_of vs (vertex_at vs r) ≡ r
  number_again vs apart r below = ap (λ o. unwrap_or o 0) (place_at same_handler same_handlers vs r no_handler apart below)

  numbers_again : (vs : List HandlerId) (roots : List ℕ) (edges : List (ℕ × ℕ)) → IsRouteOf s vs roots edges → AreApart vs → map (edge_numbers (draft_back s).micros vs) (map (edge_back s vs) edges) ≡ edges
  unfolding edge_back
  numbers_again vs roots edges route apart = go edges route.ends
    where
      go : (es : List (ℕ × ℕ)) → All (Below vs) es → map (edge_numbers (draft_back s).micros vs) (map (edge_back s vs) es) ≡ es
      go [] all = refl
      go (e ∷ es) all =
          let below = All-head (Below vs) e es all in
          let a = ap (vertex_of vs) (vertex_again vs roots edges route e.0 below.0) ∙ number_again vs apart e.0 below.0 in
          let b = ap (vertex_of vs) (vertex_again vs roots edges route e.1 below.1) ∙ number_again vs apart e.1 below.1 in
          ap₂ (λ x xs. x ∷ xs) (λ i. (a i, b i)) (go es (All-tail (Below vs) e es all))

  route_again : (vs : List HandlerId) (roots : List ℕ) (edges : List (ℕ × ℕ)) → IsRouteOf s vs roots edges → IsRouteValid vs roots edges
      → body_meant (draft_back s) (bodies.Route (map (vertex_text s vs) roots) (map (edge_back s vs) edges)) ≡ Decl.Route vs roots edges
  route_again vs roots edges route valid =
      let apart = vertices_apart vs roots edges valid in
      let back : All (λ r. vertex_of vs (vertex_at vs r) ≡ r) roots = λ k d below. number_again vs apart (get_or roots k d) (route.first k d below) in
      let hs = map (vertex_at vs) roots in
      let first : once hs ≡ hs = once_is [] hs ∙ dedup_itself same_handler same_handlers hs (apart_map (vertex_at vs) (vertex_of vs) roots back valid.roots_apart) in
      let later : edges_after [] edges ≡ edges = edges_is [] edges ∙ dedup_itself same_edge same_edges edges valid.edges_apart in
      ap (route_of (draft_back s).micros (map (vertex_text s vs) roots) (map (edge_back s vs) edges)) (vertices_again vs roots edges route valid)
      ∙ ap₂ (λ a b. Decl.Route vs (map (vertex_of vs) (once a)) (edges_after [] b)) (roots_again vs roots edges route) (numbers_again vs roots edges route apart)
      ∙ ap₂ (λ a b. Decl.Route vs (map (vertex_of vs) a) b) first later
      ∙ ap (λ a. Decl.Route vs a edges) (list_again (vertex_of vs) (vertex_at vs) roots back)

  -- ---- declarations

  bounds_named : (bounds : List (ℕ × ℕ)) → map (λ (b : BoundDraft). b.micro) (map (bound_back s) bounds) ≡ map (micro_text s) (map (λ (b : ℕ × ℕ). b.0) bounds)
  unfolding bound_back
  bounds_named [] = refl
  bounds_named (b ∷ bounds) = ap (λ ns. micro_text s b.0 ∷ ns) (bounds_named bounds)

  set_apart : (ps : List ℕ) → IsSetOf s ps → twice (map (micro_text s) ps) ≡ None
  set_apart ps set = twice_none (map (micro_text s) ps) (apart_map (micro_text s) (number_in_names (micro_names (draft_back s))) ps (micros_again ps set.known) set.apart)

  body_apart : (d : Decl) → IsDeclOf s d → body_twice (body_back s d) ≡ None
  body_apart (Decl.Set micros) set = set_apart micros set
  body_apart (Decl.Bound bounds) set = ap twice (bounds_named bounds) ∙ set_apart (map (λ (b : ℕ × ℕ). b.0) bounds) set.0
  body_apart (Decl.Route vertices roots edges) route = refl

  micro_passes : (p : ℕ) → p < length s.micros → among (micro_names (draft_back s)) (micro_text s p) ≡ None
  micro_passes p below = (micro_kept s v p below).known

  bound_passes : (b : ℕ × ℕ) → b.0 < length s.micros → among (micro_names (draft_back s)) (bound_back s b).micro ≡ None
  unfolding bound_back
  bound_passes b below = micro_passes b.0 below

  vertex_passes : (vs : List HandlerId) (roots : List ℕ) (edges : List (ℕ × ℕ)) → IsRouteOf s vs roots edges → (r : ℕ) → r < length vs → handler_unknown (draft_back s).micros (vertex_text s vs r) ≡ None
  vertex_passes vs roots edges route r below = known (draft_back s).micros (vertex_text s vs r) (vertex_at vs r) (vertex_kept s v vs roots edges route r below)

  abbrev edge_test : EdgeDraft → Option WalkFault
  edge_test e = handler_unknown (draft_back s).micros e.from then handler_unknown (draft_back s).micros e.to

  edge_passes : (vs : List HandlerId) (roots : List ℕ) (edges : List (ℕ × ℕ)) → IsRouteOf s vs roots edges → (e : ℕ × ℕ) → Below vs e → edge_test (edge_back s vs e) ≡ None
  unfolding edge_back
  edge_passes vs roots edges route e below =
      none_then (handler_unknown (draft_back s).micros (vertex_text s vs e.0)) (handler_unknown (draft_back s).micros (vertex_text s vs e.1))
      (vertex_passes vs roots edges route e.0 below.0) (vertex_passes vs roots edges route e.1 below.1)

  body_passes : (d : Decl) → IsDeclOf s d → body_unknown (draft_back s) (body_back s d) ≡ None
  body_passes (Decl.Set micros) set = along_map (among (micro_names (draft_back s))) (micro_text s) micros (λ k d below. micro_passes (get_or micros k d) (set.known k d below))
  body_passes (Decl.Bound bounds) set =
      let below_all = unmapped (λ p. p < length s.micros) (λ (b : ℕ × ℕ). b.0) bounds set.0.known in
      along_map (λ (b : BoundDraft). among (micro_names (draft_back s)) b.micro) (bound_back s) bounds (λ k d below. bound_passes (get_or bounds k d) (below_all k d below))
  body_passes (Decl.Route vertices roots edges) route =
      none_then (first_along (handler_unknown (draft_back s).micros) (map (vertex_text s vertices) roots)) (first_along edge_test (map (edge_back s vertices) edges))
      (along_map (handler_unknown (draft_back s).micros) (vertex_text s vertices) roots (λ k d below. vertex_passes vertices roots edges route (get_or roots k d) (route.first k d below)))
      (along_map edge_test (edge_back s vertices) edges (λ k d below. edge_passes vertices roots edges route (get_or edges k d) (route.ends k d below)))

  body_small : (d : Decl) → IsDeclOf s d → IsDeclValid d → vertices_fault (draft_back s).micros (body_back s d) ≡ None
  body_small (Decl.Set micros) set valid = refl
  body_small (Decl.Bound bounds) set valid = refl
  body_small (Decl.Route vertices roots edges) route valid =
      ap (λ vs. cond (nat_lt 32 (length vs)) (Some (Over (codes "edges") 32)) None) (vertices_again vertices roots edges route valid)
      ∙ most_passes 32 (length vertices) (Over (codes "edges") 32) route.few

  bound_again : (b : ℕ × ℕ) → b.0 < length s.micros → (number_in_names (micros_named (draft_back s)) (bound_back s b).micro, (bound_back s b).calls) ≡ b
  unfolding bound_back
  bound_again b below = let number = (micro_kept s v b.0 below).number in λ i. (number i, b.1)

  body_again : (d : Decl) → IsDeclOf s d → IsDeclValid d → body_meant (draft_back s) (body_back s d) ≡ d
  body_again (Decl.Set micros) set valid = ap (λ ps. Decl.Set ps) (list_again (number_in_names (micro_names (draft_back s))) (micro_text s) micros (micros_again micros set.known))
  body_again (Decl.Bound bounds) set valid =
      let below_all = unmapped (λ p. p < length s.micros) (λ (b : ℕ × ℕ). b.0) bounds set.0.known in
      ap (λ bs. Decl.Bound bs) (list_again (λ (b : BoundDraft). (number_in_names (micros_named (draft_back s)) b.micro, b.calls)) (bound_back s) bounds (λ k d below. bound_again (get_or bounds k d) (below_all k d below)))
  body_again (Decl.Route vertices roots edges) route valid = route_again vertices roots edges route valid

  -- ---- the second pass

  micro_apart : (m : MicroDef) → IsMicroValid m → twice (map (λ (h : CodeDef). h.name) (micro_back s m).handlers) ≡ None
  unfolding micro_back
  micro_apart m valid =
      ap (λ cs. twice (map (λ (h : CodeDef). h.name) cs)) (handlers_kept m.kind m.handlers valid.own) ∙ twice_none (map (λ (h : CodeDef). h.name) m.handlers) valid.names.apart

  decl_apart : (d : DeclDef) → IsDeclOf s d.decl → body_twice (decl_back s d).body ≡ None
  unfolding decl_back
  decl_apart d of = body_apart d.decl of

  event_apart : (e : EventDef) → IsEventInRange s e → AreApart e.handlers → twice (event_back s e).handlers ≡ None
  unfolding event_back
  event_apart e range apart = handlers_apart e.handlers range.handlers apart

  rows_named : (ts : List TableDef) → map (λ (t : TableDraft). t.event) (map (table_back s) ts) ≡ map (event_text s) (map (λ (t : TableDef). t.event) ts)
  unfolding table_back
  rows_named [] = refl
  rows_named (t ∷ ts) = ap (λ ns. event_text s t.event ∷ ns) (rows_named ts)

  rebound_apart : (c : ChangeDef) → IsChangeInRange s c → IsChangeValid c → twice (map (λ (t : TableDraft). t.event) (change_back s c).table) ≡ None
  unfolding change_back
  rebound_apart c range valid =
      let events = map (λ (t : TableDef). t.event) c.table in
      let in_range = All-map (IsEventOf s) (λ (t : TableDef). t.event) c.table range.events in
      ap twice (rows_named c.table)
      ∙ twice_none (map (event_text s) events)
      (apart_map (event_text s) (event_named (draft_back s)) events (λ k d below. event_again (get_or events k d) (in_range k d below)) valid.events)

  row_apart : (t : TableDef) → IsBindable s t.handlers → AreApart t.handlers → twice (table_back s t).handlers ≡ None
  unfolding table_back
  row_apart t bindable apart = handlers_apart t.handlers bindable apart

  table_apart : (c : ChangeDef) → IsChangeInRange s c → IsChangeValid c → first_along (λ (t : TableDraft). twice t.handlers) (change_back s c).table ≡ None
  unfolding change_back
  table_apart c range valid =
      along_map (λ (t : TableDraft). twice t.handlers) (table_back s) c.table (λ k d below. row_apart (get_or c.table k d) (range.handlers k d below) (valid.handlers k d below))

  names_apart : (names backs : List (List ℕ)) → backs ≡ names → AreNames names → twice backs ≡ None
  names_apart names backs is valid = ap twice is ∙ twice_none names valid.apart

  none_twice : twice_fault (draft_back s) ≡ None
  unfolding twice_fault draft_back
  none_twice =
      let range = v.in_range in
      none_then _ _ (names_apart _ _ (micros_back s s.micros) v.micro_names)
      (none_then _ _ (along_map (λ (m : MicroDraft). twice (map (λ (h : CodeDef). h.name) m.handlers)) (micro_back s) s.micros (λ k d below. micro_apart (get_or s.micros k d) (v.micros k d below)))
      (none_then _ _ (names_apart _ _ (decls_back s s.decls) v.decl_names)
      (none_then _ _ (names_apart _ _ (events_back s s.events) v.event_names)
      (none_then _ _ (names_apart _ _ (changes_back s s.changes) v.change_names)
      (none_then _ _ (along_map (λ (d : DeclDraft). body_twice d.body) (decl_back s) s.decls (λ k d below. decl_apart (get_or s.decls k d) (range.decls k d below)))
      (none_then _ _ (along_map (λ (e : EventDraft). twice e.handlers) (event_back s) s.events (λ k d below. event_apart (get_or s.events k d) (range.events k d below) (v.events k d below)))
      (none_then _ _ (along_map (λ (c : ChangeDraft). twice (map (λ (t : TableDraft). t.event) c.table)) (change_back s) s.changes (λ k d below. rebound_apart (get_or s.changes k d) (range.changes k d below) (v.changes k d below)))
      (along_map (λ (c : ChangeDraft). first_along (λ (t : TableDraft). twice t.handlers) c.table) (change_back s) s.changes (λ k d below. table_apart (get_or s.changes k d) (range.changes k d below) (v.changes k d below))))))))))

  -- ---- the third pass

  event_passes : (event : EventId) → IsEventOf s event → among (event_names (draft_back s)) (event_text s event) ≡ None
  event_passes event below = (event_kept s v event below).known

  change_passes : (change : ChangeId) → IsChangeOf s change → among (change_names (draft_back s)) (change_text s change) ≡ None
  change_passes change below = (change_kept s v change below).known

  micro_known : (m : MicroDef) → IsMicroInRange s m → micro_unknown (draft_back s) (micro_back s m) ≡ None
  unfolding micro_back
  micro_known m range =
      none_then (first_along (among (event_names (draft_back s))) (map (event_text s) m.ports)) (first_along (among (change_names (draft_back s))) (map (change_text s) m.changes))
      (along_map (among (event_names (draft_back s))) (event_text s) m.ports (λ k d below. event_passes (get_or m.ports k d) (range.ports k d below)))
      (along_map (among (change_names (draft_back s))) (change_text s) m.changes (λ k d below. change_passes (get_or m.changes k d) (range.changes k d below)))

  decl_known : (d : DeclDef) → IsDeclOf s d.decl → body_unknown (draft_back s) (decl_back s d).body ≡ None
  unfolding decl_back
  decl_known d of = body_passes d.decl of

  event_known : (e : EventDef) → IsEventInRange s e → event_unknown (draft_back s) (event_back s e) ≡ None
  unfolding event_back
  event_known e range =
      none_then (among (decl_names (draft_back s)) (decl_text s e.decl)) (first_along (handler_unknown (draft_back s).micros) (map (handler_text s) e.handlers))
      (decl_kept s v e.decl range.decl).known (handlers_pass e.handlers range.handlers)

  row_known : (t : TableDef) → IsEventOf s t.event → IsBindable s t.handlers → table_unknown (draft_back s) (table_back s t) ≡ None
  unfolding table_back
  row_known t event bindable =
      none_then (among (event_names (draft_back s)) (event_text s t.event)) (first_along (handler_unknown (draft_back s).micros) (map (handler_text s) t.handlers))
      (event_passes t.event event) (handlers_pass t.handlers bindable)

  change_known : (c : ChangeDef) → IsChangeInRange s c → change_unknown (draft_back s) (change_back s c) ≡ None
  unfolding change_back
  change_known c range =
      none_then (among (event_names (draft_back s)) (event_text s c.event)) (first_along (table_unknown (draft_back s)) (map (table_back s) c.table))
      (event_passes c.event range.event)
      (along_map (table_unknown (draft_back s)) (table_back s) c.table (λ k d below. row_known (get_or c.table k d) (range.events k d below) (range.handlers k d below)))

  cause_known : (cause : Cause) → IsCauseOf s cause → cause_unknown (draft_back s) (cause_back s cause) ≡ None
  cause_known (causes.Event event) below = event_passes event below
  cause_known (causes.Change change) below = change_passes change below

  do_known : (item : DoDef) → IsDoInRange s item → cause_unknown (draft_back s) (do_back s item).cause ≡ None
  unfolding do_back
  do_known item range = cause_known item.cause range.cause

  none_unknown : unknown_fault (draft_back s) ≡ None
  unfolding unknown_fault draft_back
  none_unknown =
      let range = v.in_range in
      none_then _ _ (along_map (micro_unknown (draft_back s)) (micro_back s) s.micros (λ k d below. micro_known (get_or s.micros k d) (range.micros k d below)))
      (none_then _ _ (along_map (λ (d : DeclDraft). body_unknown (draft_back s) d.body) (decl_back s) s.decls (λ k d below. decl_known (get_or s.decls k d) (range.decls k d below)))
      (none_then _ _ (along_map (event_unknown (draft_back s)) (event_back s) s.events (λ k d below. event_known (get_or s.events k d) (range.events k d below)))
      (none_then _ _ (along_map (change_unknown (draft_back s)) (change_back s) s.changes (λ k d below. change_known (get_or s.changes k d) (range.changes k d below)))
      (along_map (λ (item : DoDraft). cause_unknown (draft_back s) item.cause) (do_back s) s.does (λ k d below. do_known (get_or s.does k d) (range.does k d below))))))

  -- ---- the fourth pass

  micro_ports : (m : MicroDef) → IsMicroInRange s m → ports_fault (micro_back s m) ≡ None
  unfolding micro_back
  micro_ports m range =
      test_passes (nat_le (ports_needed m.kind) (length (map (event_text s) m.ports))) (WrongForm (codes "ports")) (least_test (ports_needed m.kind) (length (map (event_text s) m.ports)) (rw length-map range.enough_ports))

  position_test : (m : MicroDef) (i : Instr) → HasPosition m i → is_instr_of (length m.ports) (length m.changes) i ≡ true
  position_test m (instr.Set d n) h = refl
  position_test m (instr.Copy d t) h = refl
  position_test m (instr.Add d t) h = refl
  position_test m (instr.Sub d t) h = refl
  position_test m (instr.Less a t j) h = refl
  position_test m (instr.Call port k) h = lt-ltb port (length m.ports) h
  position_test m (instr.Later port k) h = lt-ltb port (length m.ports) h
  position_test m (instr.Send a port k) h = lt-ltb port (length m.ports) h
  position_test m (instr.Deliver k) h = refl
  position_test m (instr.Change c k) h = lt-ltb c (length m.changes) h
  position_test m (instr.Done k) h = refl

  instr_passes : (m : MicroDef) (i : Instr) → HasPosition m i → instr_fault (micro_back s m) i ≡ None
  unfolding micro_back
  instr_passes m i at =
      let here = position_test m i at in
      test_passes (is_instr_of (length (map (event_text s) m.ports)) (length (map (change_text s) m.changes)) i) (WrongForm (codes "code"))
      (ap₂ (λ a b. is_instr_of a b i) (length-map m.ports (event_text s)) (length-map m.changes (change_text s)) ∙ here)

  handlers_are : (m : MicroDef) → IsMicroValid m → (micro_back s m).handlers ≡ m.handlers
  unfolding micro_back
  handlers_are m valid = handlers_kept m.kind m.handlers valid.own

  codes_pass : (m : MicroDef) → IsMicroValid m → All (λ (c : CodeDef). All (HasPosition m) c.code) m.handlers → code_total (micro_back s m) ≡ None
  codes_pass m valid at =
      ap (first_along (λ (h : CodeDef). first_along (instr_fault (micro_back s m)) h.code)) (handlers_are m valid)
      ∙ along_none (λ (h : CodeDef). first_along (instr_fault (micro_back s m)) h.code) m.handlers
      (λ k d below. along_none (instr_fault (micro_back s m)) (get_or m.handlers k d).code (λ j e inside. instr_passes m (get_or (get_or m.handlers k d).code j e) (at k d below j e inside)))

  decl_small : (d : DeclDef) → IsDeclOf s d.decl → IsDeclValid d.decl → vertices_fault (draft_back s).micros (decl_back s d).body ≡ None
  unfolding decl_back
  decl_small d of valid = body_small d.decl of valid

  node_passes : (nodes : ℕ) (key : List ℕ) (node : ℕ) → node < nodes → node_fault nodes key node ≡ None
  node_passes nodes key node below = test_passes (nat_lt node nodes) _ (lt-ltb node nodes below)

  do_node : (item : DoDef) → IsDoInRange s item → node_fault s.nodes (codes "node") (do_back s item).node ≡ None
  unfolding do_back
  do_node item range = node_passes s.nodes (codes "node") item.node.0 range.node

  loss_nodes : (l : LossDef) → IsLossInRange s l → loss_total s.nodes (loss_back l) ≡ None
  unfolding loss_back
  loss_nodes l range =
      none_then (node_fault s.nodes (codes "from") l.from.0) (node_fault s.nodes (codes "to") l.to.0)
      (node_passes s.nodes (codes "from") l.from.0 range.origin) (node_passes s.nodes (codes "to") l.to.0 range.to)

  crash_node : (c : CrashDef) → c.node.0 < s.nodes → node_fault s.nodes (codes "node") (crash_back c).node ≡ None
  unfolding crash_back
  crash_node c below = node_passes s.nodes (codes "node") c.node.0 below

  do_tick : (item : DoDef) → IsDoInRange s item → tick_fault s.ticks (do_back s item) ≡ None
  unfolding do_back
  do_tick item range = most_passes s.ticks item.tick _ range.last

  kinds_back : (kind : Kind) (ms : List MicroDef) (n : ℕ) → fold (λ a (m : MicroDraft). a + cond (ghosts.eq m.kind kind) 1 0) n (map (micro_back s) ms) ≡ fold (λ a (m : MicroDef). a + cond (ghosts.eq m.kind kind) 1 0) n ms
  unfolding micro_back
  kinds_back kind [] n = refl
  kinds_back kind (m ∷ ms) n = kinds_back kind ms (n + cond (ghosts.eq m.kind kind) 1 0)

  kind_passes : (name : List ℕ) (kind : Kind) → kind_fault (draft_back s) name kind ≡ None
  unfolding draft_back
  kind_passes name kind =
      most_passes 32 (s.nodes * count_by (λ (m : MicroDraft). ghosts.eq m.kind kind) (map (micro_back s) s.micros)) (Over name 32)
      (subst (λ n. s.nodes * n ≤ 32) (sym (kinds_back kind s.micros 0)) (v.few_of_each kind))

  kinds_pass : kinds_fault (draft_back s) ≡ None
  kinds_pass =
      none_then _ _ (kind_passes (codes "prog") Prog)
      (none_then _ _ (kind_passes (codes "link") Link)
      (none_then _ _ (kind_passes (codes "fd") Fd)
      (none_then _ _ (kind_passes (codes "rbcast") Rbcast)
      (none_then _ _ (kind_passes (codes "cons") Cons)
      (none_then _ _ (kind_passes (codes "abcast") Abcast)
      (none_then _ _ (kind_passes (codes "seqcast") Seqcast)
      (none_then _ _ (kind_passes (codes "repl") Repl) (kind_passes (codes "views") Views))))))))

  none_over : totals_fault (draft_back s) ≡ None
  unfolding totals_fault draft_back
  none_over =
      let range = v.in_range in
      none_then _ _ (along_map ports_fault (micro_back s) s.micros (λ k d below. micro_ports (get_or s.micros k d) (range.micros k d below)))
      (none_then _ _ (along_map code_total (micro_back s) s.micros (λ k d below. codes_pass (get_or s.micros k d) (v.micros k d below) (range.positions k d below)))
      (none_then _ _ (along_map (λ (d : DeclDraft). vertices_fault (map (micro_back s) s.micros) d.body) (decl_back s) s.decls (λ k d below. decl_small (get_or s.decls k d) (range.decls k d below) (v.decls k d below)))
      (none_then _ _ (along_map (λ (item : DoDraft). node_fault s.nodes (codes "node") item.node) (do_back s) s.does (λ k d below. do_node (get_or s.does k d) (range.does k d below)))
      (none_then _ _ (along_map (loss_total s.nodes) loss_back s.losses (λ k d below. loss_nodes (get_or s.losses k d) (range.losses k d below)))
      (none_then _ _ (along_map (λ (c : CrashDraft). node_fault s.nodes (codes "node") c.node) crash_back s.crashes (λ k d below. crash_node (get_or s.crashes k d) (range.crashes k d below)))
      (none_then _ _ (along_map (tick_fault s.ticks) (do_back s) s.does (λ k d below. do_tick (get_or s.does k d) (range.does k d below)))
      kinds_pass))))))

  -- ---- the meaning

  micro_again : (m : MicroDef) → IsMicroInRange s m → IsMicroValid m → micro_meant (draft_back s) (micro_back s m) ≡ m
  unfolding micro_meant micro_back
  micro_again m range valid =
      let ports = list_again (event_named (draft_back s)) (event_text s) m.ports (λ k d below. event_again (get_or m.ports k d) (range.ports k d below)) in
      let changes = list_again (change_named (draft_back s)) (change_text s) m.changes (λ k d below. change_again (get_or m.changes k d) (range.changes k d below)) in
      let handlers = handlers_kept m.kind m.handlers valid.own in
      λ i. record { name = m.name; kind = m.kind; nums = m.nums; ports = ports i; changes = changes i; handlers = handlers i }

  decl_again : (d : DeclDef) → IsDeclOf s d.decl → IsDeclValid d.decl → decl_meant (draft_back s) (decl_back s d) ≡ d
  unfolding decl_meant decl_back
  decl_again d of valid = let body = body_again d.decl of valid in λ i. record { name = d.name; budget = d.budget; decl = body i }

  events_meant_again : (e : EventDef) → IsEventInRange s e → event_meant (draft_back s) (event_back s e) ≡ e
  unfolding event_meant event_back
  events_meant_again e range =
      let decl = (decl_kept s v e.decl range.decl).number in
      let handlers = list_again (handler_of (draft_back s).micros) (handler_text s) e.handlers (handlers_again e.handlers range.handlers) in
      λ i. record { name = e.name; decl = decl i; handlers = handlers i }

  row_again : (t : TableDef) → IsEventOf s t.event → IsBindable s t.handlers → table_meant (draft_back s) (table_back s t) ≡ t
  unfolding table_meant table_back
  row_again t known bindable =
      let event = event_again t.event known in
      let handlers = list_again (handler_of (draft_back s).micros) (handler_text s) t.handlers (handlers_again t.handlers bindable) in
      λ i. record { event = event i; handlers = handlers i }

  changes_meant_again : (c : ChangeDef) → IsChangeInRange s c → change_meant (draft_back s) (change_back s c) ≡ c
  unfolding change_meant change_back
  changes_meant_again c range =
      let event = event_again c.event range.event in
      let table = list_again (table_meant (draft_back s)) (table_back s) c.table (λ k d below. row_again (get_or c.table k d) (range.events k d below) (range.handlers k d below)) in
      λ i. record { name = c.name; event = event i; table = table i }

  cause_again : (cause : Cause) → IsCauseOf s cause → cause_meant (draft_back s) (cause_back s cause) ≡ cause
  cause_again (causes.Event event) below = ap (λ e. causes.Event e) (event_again event below)
  cause_again (causes.Change change) below = ap (λ c. causes.Change c) (change_again change below)

  do_again : (item : DoDef) → IsDoInRange s item → do_meant (draft_back s) (do_back s item) ≡ item
  unfolding do_meant do_back
  do_again item range = let cause = cause_again item.cause range.cause in λ i. record { tick = item.tick; node = item.node; cause = cause i; args = item.args }

  loss_again : (l : LossDef) → loss_meant (loss_back l) ≡ l
  unfolding loss_back
  loss_again l = refl

  crash_again : (c : CrashDef) → crash_meant (crash_back c) ≡ c
  unfolding crash_back
  crash_again c = refl

  script_again : script_of (draft_back s) ≡ s
  unfolding script_of draft_back
  script_again =
      let range = v.in_range in
      let micros = list_again (micro_meant (draft_back s)) (micro_back s) s.micros (λ k d below. micro_again (get_or s.micros k d) (range.micros k d below) (v.micros k d below)) in
      let decls = list_again (decl_meant (draft_back s)) (decl_back s) s.decls (λ k d below. decl_again (get_or s.decls k d) (range.decls k d below) (v.decls k d below)) in
      let events = list_again (event_meant (draft_back s)) (event_back s) s.events (λ k d below. events_meant_again (get_or s.events k d) (range.events k d below)) in
      let changes = list_again (change_meant (draft_back s)) (change_back s) s.changes (λ k d below. changes_meant_again (get_or s.changes k d) (range.changes k d below)) in
      let does = list_again (do_meant (draft_back s)) (do_back s) s.does (λ k d below. do_again (get_or s.does k d) (range.does k d below)) in
      let losses = list_again loss_meant loss_back s.losses (λ k d below. loss_again (get_or s.losses k d)) in
      let crashes = list_again crash_meant crash_back s.crashes (λ k d below. crash_again (get_or s.crashes k d)) in
      λ i. record {
        nodes = s.nodes;
        ticks = s.ticks;
        micros = micros i;
        decls = decls i;
        events = events i;
        changes = changes i;
        does = does i;
        losses = losses i;
        crashes = crashes i;
      }

  -- ---- the law

  pub valid_passes : walk_fault (tree_of s) ≡ None
  unfolding walk_fault
  valid_passes =
      let form = draft_form s v in
      let is : draft_of (tree_of s) ≡ draft_back s = tree_means s form in
      none_then (form_of_all (tree_of s)) _ (tree_passes s form)
      (ap (λ x. twice_fault x then unknown_fault x then totals_fault x) is
      ∙ none_then (twice_fault (draft_back s)) _ none_twice (none_then (unknown_fault (draft_back s)) (totals_fault (draft_back s)) none_unknown none_over))

  pub valid_means : script_meant (tree_of s) ≡ s
  unfolding script_meant
  valid_means = ap script_of (tree_means s (draft_form s v)) ∙ script_again

-- the text of a valid script that isn't too long holds the script
holds_again : (bytes : List ℕ) (script : Script) → IsJson bytes (tree_of script) → IsValid script → length bytes ≤ 1048576 → Holds bytes script
holds_again bytes script json valid short = record {
  short = short;
  tree = tree_of script;
  json = json;
  passes = valid_passes script valid;
  means = sym (valid_means script valid);
}

-- so does the text that was written, where there was memory
pub written_holds : (written : Result (Vec ℕ Global) NoMemory) (script : Script) → IfOk written (λ bytes. IsJson bytes.items (tree_of script))
    → IfOk written (λ bytes. IsValid script → length bytes.items ≤ 1048576 → Holds bytes.items script)
written_holds (Ok bytes) script json = λ valid short. holds_again bytes.items script json valid short
written_holds (Err e) script json = tt
