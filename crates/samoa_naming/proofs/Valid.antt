-- The script of a draft that passes is valid.
use Rattle.std.proofs.Common.{◌≡◌, ℕ, true, List, [], ◌∷◌, ◌++◌, get_or, map, None, refl, sym, ap, ap₂, ◌∙◌, subst}
use Rattle.std.specs.List.{All, list_any, flat_map}
use Rattle.std.proofs.lemmas.List.Elements.{All-map, All-head, All-tail}
use Rattle.samoa_model.specs.declared.ids.EventId.{EventId}
use Rattle.samoa_model.specs.declared.ids.HandlerId.{HandlerId}
use Rattle.samoa_model.specs.declared.script.CodeDef.{CodeDef}
use Rattle.samoa_model.specs.declared.script.MicroDef.{MicroDef}
use Rattle.samoa_model.specs.declared.script.DeclDef.{DeclDef}
use Rattle.samoa_model.specs.declared.script.EventDef.{EventDef}
use Rattle.samoa_model.specs.declared.script.TableDef.{TableDef}
use Rattle.samoa_model.specs.Allowed.{same_handler, no_handler}
use Rattle.samoa_model.specs.Scripts.{event_at}
use Rattle.samoa_model.specs.Handlers.{handler_text}
use Rattle.samoa_model.specs.NameRule.{IsScriptName}
use Rattle.samoa_model.specs.Routes.{once, vertex_at, ends_at, met}
use Rattle.samoa_model.specs.Valid.{AreApart, AreNames, IsMicroValid, IsDeclValid, IsChangeValid, IsValid}
use Rattle.samoa_grammar.specs.declared.draft.MicroDraft.{MicroDraft}
use Rattle.samoa_grammar.specs.declared.draft.EdgeDraft.{EdgeDraft}
use Rattle.samoa_grammar.specs.declared.draft.BodyDraft.{BodyDraft}
use Rattle.samoa_grammar.specs.declared.draft.BodyDraft.TheVariants as bodies
use Rattle.samoa_grammar.specs.declared.draft.DeclDraft.{DeclDraft}
use Rattle.samoa_grammar.specs.declared.draft.EventDraft.{EventDraft}
use Rattle.samoa_grammar.specs.declared.draft.TableDraft.{TableDraft}
use Rattle.samoa_grammar.specs.declared.draft.ChangeDraft.{ChangeDraft}
use Rattle.samoa_grammar.specs.declared.draft.Draft.{Draft}
use Rattle.samoa_grammar.specs.Names.{IsHandlerText}
use Rattle.samoa_grammar.specs.Walks.{first_along}
use Rattle.samoa_grammar.specs.Meaning.{handler_of, same_edge, edges_after, vertices_of, vertex_of, edge_numbers, event_named, micro_meant, body_meant, decl_meant, event_meant, table_meant, change_meant, script_of}
use Rattle.samoa_grammar.specs.Passes.{twice, among, event_names, handler_unknown, event_unknown, table_unknown, change_unknown, twice_fault, unknown_fault, totals_fault}
use Rattle.samoa_grammar.proofs.Dedup.{same_handlers, same_edges, place_back, dedup, once_is, edges_is, dedup_append, front_once, ends_once}
use Rattle.samoa_grammar.proofs.Apart.{apart_map, twice_apart, dedup_apart}
use Rattle.samoa_form.specs.Limits.{HasMicroLimits, HasEventLimits, HasTableLimits, HasChangeLimits, HasLimits}
use Rattle.samoa_naming.specs.Routes.{ends_of}
use Rattle.samoa_grammar.proofs.Chains.{then_none}
use Rattle.samoa_naming.proofs.Passed.{along_all, events_defined, changes_defined, micros_apart, handlers_apart, decls_apart, events_apart, changes_apart, lists_apart, rebound_apart, tables_apart}
use Rattle.samoa_naming.proofs.Defined.{micros_kept, decls_kept, events_kept, changes_kept, event_back_is, handler_back_is}
use Rattle.samoa_naming.proofs.Range.{script_in_range}
use Rattle.samoa_naming.proofs.Sound.{few_of_each}
use Rattle.samoa_naming.proofs.Vertices.{roots_are, ends_are}

-- ---- names

named : {X : Type 0} (name : X → List ℕ) (xs : List X) (names : List (List ℕ)) → names ≡ map name xs → All (λ x. IsScriptName (name x)) xs → twice (map name xs) ≡ None → AreNames names
named name xs names is each apart =
    subst AreNames (sym is) (record { each = All-map IsScriptName name xs each; apart = twice_apart (map name xs) apart })

micro_valid : (x : Draft) (m : MicroDraft) → HasMicroLimits m → twice (map (λ (h : CodeDef). h.name) m.handlers) ≡ None → IsMicroValid (micro_meant x m)
unfolding micro_meant
micro_valid x m limits apart = record { own = limits.own; names = named (λ (h : CodeDef). h.name) m.handlers (map (λ (h : CodeDef). h.name) m.handlers) refl limits.names apart }

-- ---- lists of handlers

handlers_valid : (x : Draft) (names : List (List ℕ)) → All IsHandlerText names → first_along (handler_unknown x.micros) names ≡ None → twice names ≡ None → AreApart (map (handler_of x.micros) names)
handlers_valid x names formed unknown apart =
    let known = along_all (handler_unknown x.micros) names unknown in
    apart_map (handler_of x.micros) (handler_text (script_of x)) names (λ k d below. handler_back_is x (get_or names k d) (known k d below) (formed k d below)) (twice_apart names apart)

event_valid : (x : Draft) (e : EventDraft) → HasEventLimits e → event_unknown x e ≡ None → twice e.handlers ≡ None → AreApart (event_meant x e).handlers
unfolding event_meant
event_valid x e limits unknown apart = handlers_valid x e.handlers limits.formed (then_none (among _ e.decl) (first_along (handler_unknown x.micros) e.handlers) unknown).1 apart

row_valid : (x : Draft) (t : TableDraft) → HasTableLimits t → table_unknown x t ≡ None → twice t.handlers ≡ None → AreApart (table_meant x t).handlers
unfolding table_meant
row_valid x t limits unknown apart =
    handlers_valid x t.handlers limits.formed (then_none (among (event_names x) t.event) (first_along (handler_unknown x.micros) t.handlers) unknown).1 apart

-- ---- changes

rows_are : (x : Draft) (ts : List TableDraft) → map (λ (t : TableDef). t.event) (map (table_meant x) ts) ≡ map (event_named x) (map (λ (t : TableDraft). t.event) ts)
unfolding table_meant
rows_are x [] = refl
rows_are x (t ∷ ts) = ap (λ es. event_named x t.event ∷ es) (rows_are x ts)

change_valid : (x : Draft) (c : ChangeDraft) → HasChangeLimits c → change_unknown x c ≡ None → twice (map (λ (t : TableDraft). t.event) c.table) ≡ None
    → first_along (λ (t : TableDraft). twice t.handlers) c.table ≡ None → IsChangeValid (change_meant x c)
unfolding change_meant
change_valid x c limits unknown rebound tables =
    let rows = along_all (table_unknown x) c.table (then_none (among (event_names x) c.event) (first_along (table_unknown x) c.table) unknown).1 in
    let apart = along_all (λ (t : TableDraft). twice t.handlers) c.table tables in
    let names = map (λ (t : TableDraft). t.event) c.table in
    let known = All-map (λ n. among (event_names x) n ≡ None) (λ (t : TableDraft). t.event) c.table
    (λ k d below. (then_none (among (event_names x) (get_or c.table k d).event) (first_along (handler_unknown x.micros) (get_or c.table k d).handlers) (rows k d below)).0) in
    record {
      events = subst AreApart (sym (rows_are x c.table))
          (apart_map (event_named x) (λ (event : EventId). (event_at (script_of x) event.0).name) names (λ k d below. event_back_is x (get_or names k d) (known k d below)) (twice_apart names rebound));
      handlers = All-map (λ (t : TableDef). AreApart t.handlers) (table_meant x) c.table
          (λ k d below. row_valid x (get_or c.table k d) (limits.rows k d below) (rows k d below) (apart k d below));
    }

-- ---- routes

-- a handler that stands among the vertices is that of its number
vertex_back : (vs : List HandlerId) (h : HandlerId) → list_any (same_handler h) vs ≡ true → vertex_at vs (vertex_of vs h) ≡ h
vertex_back vs h stands = place_back same_handler same_handlers vs h no_handler stands

roots_back : (vs hs : List HandlerId) → All (λ h. vertex_at vs (vertex_of vs h) ≡ h) hs → map (vertex_at vs) (map (vertex_of vs) hs) ≡ hs
roots_back vs [] all = refl
roots_back vs (h ∷ hs) all = ap₂ (λ g gs. g ∷ gs) (All-head (λ h. vertex_at vs (vertex_of vs h) ≡ h) h hs all) (roots_back vs hs (All-tail (λ h. vertex_at vs (vertex_of vs h) ≡ h) h hs all))

abbrev EndsBack : List MicroDraft → List HandlerId → EdgeDraft → Type 0
EndsBack micros vs e = (vertex_at vs (vertex_of vs (handler_of micros e.from)) ≡ handler_of micros e.from) × (vertex_at vs (vertex_of vs (handler_of micros e.to)) ≡ handler_of micros e.to)

ends_back : (micros : List MicroDraft) (vs : List HandlerId) (es : List EdgeDraft) → All (EndsBack micros vs) es → flat_map (ends_at vs) (map (edge_numbers micros vs) es) ≡ flat_map (ends_of micros) es
ends_back micros vs [] all = refl
ends_back micros vs (e ∷ es) all =
    let back = All-head (EndsBack micros vs) e es all in
    ap₂ (λ a b. a ∷ b ∷ flat_map (ends_at vs) (map (edge_numbers micros vs) es)) back.0 back.1
    ∙ ap (λ r. handler_of micros e.from ∷ handler_of micros e.to ∷ r) (ends_back micros vs es (All-tail (EndsBack micros vs) e es all))

none_covered : (vs : List HandlerId) (b : List HandlerId) (n : ℕ × ℕ) → list_any (same_edge n) [] ≡ true
    → (list_any (same_handler (vertex_at vs n.0)) b ≡ true) × (list_any (same_handler (vertex_at vs n.1)) b ≡ true)
none_covered vs b n h = absurd (cc)

route_valid : (x : Draft) (roots : List (List ℕ)) (edges : List EdgeDraft) → IsDeclValid (body_meant x (bodies.Route roots edges))
route_valid x roots edges =
    let hs = map (handler_of x.micros) roots in
    let others = flat_map (ends_of x.micros) edges in
    let vs = vertices_of x.micros roots edges in
    let ns = map (edge_numbers x.micros vs) edges in
    let ends = flat_map (ends_at vs) in
    let roots_there = roots_are hs others (λ h. vertex_at vs (vertex_of vs h) ≡ h) (vertex_back vs) in
    let ends_there = ends_are x.micros hs edges (λ h. vertex_at vs (vertex_of vs h) ≡ h) (vertex_back vs) in
    let once_apart : AreApart (once hs) = subst AreApart (sym (once_is [] hs)) (dedup_apart same_handler same_handlers hs) in
    let met_is : once (met vs (map (vertex_of vs) (once hs)) (edges_after [] ns)) ≡ vs =
    ap₂ (λ a b. once (a ++ ends b)) (roots_back vs (once hs) roots_there ∙ once_is [] hs) (edges_is [] ns)
    ∙ once_is [] (dedup same_handler [] hs ++ ends (dedup same_edge [] ns))
    ∙ front_once same_handler same_handlers hs (ends (dedup same_edge [] ns))
    ∙ dedup_append same_handler same_handlers [] hs (ends (dedup same_edge [] ns))
    ∙ ap (λ v. dedup same_handler [] hs ++ v) (ends_once same_handler same_handlers (vertex_at vs) same_edge same_edges hs [] ns (none_covered vs hs))
    ∙ sym (dedup_append same_handler same_handlers [] hs (ends ns))
    ∙ ap (λ f. dedup same_handler [] (hs ++ f)) (ends_back x.micros vs edges ends_there)
    ∙ sym (once_is [] (hs ++ others)) in
    record {
      roots_apart = apart_map (vertex_of vs) (vertex_at vs) (once hs) roots_there once_apart;
      edges_apart = subst AreApart (sym (edges_is [] ns)) (dedup_apart same_edge same_edges ns);
      vertices_met = sym met_is;
    }

body_valid : (x : Draft) (body : BodyDraft) → IsDeclValid (body_meant x body)
body_valid x (bodies.Set micros) = tt
body_valid x (bodies.Bound bounds) = tt
body_valid x (bodies.Route roots edges) = route_valid x roots edges

decl_valid : (x : Draft) (d : DeclDraft) → IsDeclValid (decl_meant x d).decl
unfolding decl_meant
decl_valid x d = body_valid x d.body

-- ---- the whole

pub script_valid : (x : Draft) → HasLimits x → twice_fault x ≡ None → unknown_fault x ≡ None → totals_fault x ≡ None → IsValid (script_of x)
unfolding script_of
script_valid x limits apart known totals = record {
  in_range = script_in_range x limits apart known totals;
  few_of_each = few_of_each x totals;
  micro_names = named (λ (m : MicroDraft). m.name) x.micros (map (λ (m : MicroDef). m.name) (map (micro_meant x) x.micros)) (micros_kept x x.micros) (λ k d below. (limits.micros k d below).name) (micros_apart x apart);
  decl_names = named (λ (d : DeclDraft). d.name) x.decls _ (decls_kept x x.decls) (λ k d below. (limits.decls k d below).name) (decls_apart x apart);
  event_names = named (λ (e : EventDraft). e.name) x.events _ (events_kept x x.events) (λ k d below. (limits.events k d below).name) (events_apart x apart);
  change_names = named (λ (c : ChangeDraft). c.name) x.changes _ (changes_kept x x.changes) (λ k d below. (limits.changes k d below).name) (changes_apart x apart);
  micros = All-map IsMicroValid (micro_meant x) x.micros (λ k d below. micro_valid x (get_or x.micros k d) (limits.micros k d below) (handlers_apart x apart k d below));
  decls = All-map (λ (d : DeclDef). IsDeclValid d.decl) (decl_meant x) x.decls (λ k d below. decl_valid x (get_or x.decls k d));
  events = All-map (λ (e : EventDef). AreApart e.handlers) (event_meant x) x.events
      (λ k d below. event_valid x (get_or x.events k d) (limits.events k d below) (events_defined x known k d below) (lists_apart x apart k d below));
  changes = All-map IsChangeValid (change_meant x) x.changes
      (λ k d below. change_valid x (get_or x.changes k d) (limits.changes k d below) (changes_defined x known k d below) (rebound_apart x apart k d below) (tables_apart x apart k d below));
}
