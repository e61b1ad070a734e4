-- What the declarations of a draft that passes allow is of its script.
use Rattle.std.proofs.Common.{◌≡◌, ℕ, zero, suc, ◌<◌, ◌≤◌, List, [], ◌∷◌, ◌++◌, length, get_or, map, ltb, None, refl, sym, ◌∙◌, subst, arith}
use Rattle.std.specs.List.{All, flat_map}
use Rattle.std.proofs.lemmas.Bool.{ltb-false}
use Rattle.std.proofs.lemmas.List.{length-map}
use Rattle.std.proofs.lemmas.List.Elements.{All-map, All-append}
use Rattle.samoa_model.specs.declared.ids.HandlerId.{HandlerId}
use Rattle.samoa_model.specs.declared.script.DeclDef.{DeclDef}
use Rattle.samoa_model.specs.Range.{IsSetOf, IsDeclOf, HasDecls}
use Rattle.samoa_model.specs.Scripts.{no_micro}
use Rattle.samoa_model.specs.Handlers.{names_of_handlers, IsHandlerOf}
use Rattle.samoa_grammar.specs.declared.draft.MicroDraft.{MicroDraft}
use Rattle.samoa_grammar.specs.declared.draft.BoundDraft.{BoundDraft}
use Rattle.samoa_grammar.specs.declared.draft.EdgeDraft.{EdgeDraft}
use Rattle.samoa_grammar.specs.declared.draft.BodyDraft.{BodyDraft}
use Rattle.samoa_grammar.specs.declared.draft.BodyDraft.TheVariants as bodies
use Rattle.samoa_grammar.specs.declared.draft.DeclDraft.{DeclDraft}
use Rattle.samoa_grammar.specs.declared.draft.Draft.{Draft}
use Rattle.samoa_grammar.specs.Walks.{◌then◌, first_along}
use Rattle.samoa_model.specs.Routes.{once}
use Rattle.samoa_grammar.specs.Meaning.{number_in_names, micros_named, no_micro_draft, handler_names, handler_of, edges_after, vertices_of, vertex_of, edge_numbers, micro_meant, body_meant, decl_meant, script_of}
use Rattle.samoa_grammar.specs.Passes.{twice, body_twice, among, micro_names, handler_unknown, body_unknown, vertices_fault, twice_fault, unknown_fault, totals_fault}
use Rattle.samoa_form.specs.Limits.{HasBodyLimits, HasDeclLimits, HasLimits}
use Rattle.samoa_naming.specs.Routes.{ends_of}
use Rattle.samoa_grammar.proofs.Chains.{then_none}
use Rattle.samoa_grammar.proofs.Lists.{map_map}
use Rattle.samoa_naming.proofs.Passed.{along_all, bodies_apart, bodies_defined, vertices_few}
use Rattle.samoa_naming.proofs.Sizes.{when_fails}
use Rattle.samoa_naming.proofs.Numbers.{number_below, handler_below, handler_there}
use Rattle.samoa_naming.proofs.Apart.{numbers_apart}
use Rattle.samoa_naming.proofs.Vertices.{once_all, edges_all, once_few, edges_few, all_ends, roots_below, ends_below}

micros_many : (x : Draft) → length (micros_named x) ≡ length (script_of x).micros
unfolding script_of
micros_many x = length-map x.micros (λ m. m.name) ∙ sym (length-map x.micros (micro_meant x))

-- names of microprotocols, 1 to 24, each known and none twice, are a set of the script
set_in : (x : Draft) (names : List (List ℕ)) → (1 ≤ length names) × (length names ≤ 24) → twice names ≡ None → All (λ n. among (micro_names x) n ≡ None) names → IsSetOf (script_of x) (map (number_in_names (micros_named x)) names)
set_in x names many apart known =
    record {
      some = rw length-map many.0;
      few = rw length-map many.1;
      known = All-map (λ p. p < length (script_of x).micros) (number_in_names (micros_named x)) names
          (λ k d below. subst (λ n. number_in_names (micros_named x) (get_or names k d) < n) (micros_many x) (number_below (micros_named x) (get_or names k d) (known k d below)));
      apart = numbers_apart (micros_named x) names apart known;
    }

bound_in : (x : Draft) (bounds : List BoundDraft) → (1 ≤ length bounds) × (length bounds ≤ 24) → twice (map (λ (b : BoundDraft). b.micro) bounds) ≡ None → All (λ (b : BoundDraft). among (micro_names x) b.micro ≡ None) bounds
    → IsSetOf (script_of x) (map (λ (b : ℕ × ℕ). b.0) (map (λ (b : BoundDraft). (number_in_names (micros_named x) b.micro, b.calls)) bounds))
bound_in x bounds many apart known =
    let number : List ℕ → ℕ = number_in_names (micros_named x) in
    let names = map (λ (b : BoundDraft). b.micro) bounds in
    let same : map number names ≡ map (λ b. b.0) (map (λ (b : BoundDraft). (number b.micro, b.calls)) bounds) =
    map_map number (λ (b : BoundDraft). b.micro) bounds ∙ sym (map_map (λ (b : ℕ × ℕ). b.0) (λ (b : BoundDraft). (number b.micro, b.calls)) bounds) in
    subst (IsSetOf (script_of x)) same (set_in x names (rw length-map many.0, rw length-map many.1) apart (All-map (λ n. among (micro_names x) n ≡ None) (λ (b : BoundDraft). b.micro) bounds known))

-- ---- routes

-- a name of a handler that is known names one of the script
micro_known : (x : Draft) (name : List ℕ) → handler_unknown x.micros name ≡ None → (handler_of x.micros name).micro.0 < length (script_of x).micros
unfolding script_of
micro_known x name h = subst (λ n. (handler_of x.micros name).micro.0 < n) (sym (length-map x.micros (micro_meant x))) (handler_below x.micros name h)

pub names_kept : (x : Draft) (ms : List MicroDraft) (p : ℕ) → names_of_handlers (get_or (map (micro_meant x) ms) p no_micro) ≡ handler_names (get_or ms p no_micro_draft)
unfolding micro_meant
names_kept x [] p = refl
names_kept x (m ∷ ms) zero = refl
names_kept x (m ∷ ms) (suc p) = names_kept x ms p

index_known : (x : Draft) (name : List ℕ) → handler_unknown x.micros name ≡ None → IsHandlerOf (script_of x) (handler_of x.micros name)
unfolding script_of
index_known x name h =
    let made = handler_of x.micros name in
    subst (λ (names : List (List ℕ)). made.index < length names) (sym (names_kept x x.micros made.micro.0)) (handler_there x.micros name h)

pub micros_known : (x : Draft) (names : List (List ℕ)) → All (λ n. handler_unknown x.micros n ≡ None) names
    → All (λ (h : HandlerId). h.micro.0 < length (script_of x).micros) (map (handler_of x.micros) names)
micros_known x names known = All-map (λ (h : HandlerId). h.micro.0 < length (script_of x).micros) (handler_of x.micros) names (λ k d below. micro_known x (get_or names k d) (known k d below))

pub indexes_known : (x : Draft) (names : List (List ℕ)) → All (λ n. handler_unknown x.micros n ≡ None) names → All (IsHandlerOf (script_of x)) (map (handler_of x.micros) names)
indexes_known x names known = All-map (IsHandlerOf (script_of x)) (handler_of x.micros) names (λ k d below. index_known x (get_or names k d) (known k d below))

vertices_32 : (x : Draft) (roots : List (List ℕ)) (edges : List EdgeDraft) → vertices_fault x.micros (bodies.Route roots edges) ≡ None → length (vertices_of x.micros roots edges) ≤ 32
vertices_32 x roots edges h =
    let many = length (vertices_of x.micros roots edges) in
    ltb-false 32 many (when_fails (ltb 32 many) _ h)

-- what each known handler is, each vertex is
vertices_all : (x : Draft) (P : HandlerId → Type 0) → ((name : List ℕ) → handler_unknown x.micros name ≡ None → P (handler_of x.micros name))
    → (roots : List (List ℕ)) (edges : List EdgeDraft) → All (λ n. handler_unknown x.micros n ≡ None) roots
    → All (λ (e : EdgeDraft). (handler_unknown x.micros e.from then handler_unknown x.micros e.to) ≡ None) edges → All P (vertices_of x.micros roots edges)
vertices_all x P each roots edges first later =
    let both : (e : EdgeDraft) → (handler_unknown x.micros e.from then handler_unknown x.micros e.to) ≡ None → P (handler_of x.micros e.from) × P (handler_of x.micros e.to) =
    λ e h. (let parts = then_none (handler_unknown x.micros e.from) (handler_unknown x.micros e.to) h in (each e.from parts.0, each e.to parts.1)) in
    once_all P (map (handler_of x.micros) roots ++ flat_map (ends_of x.micros) edges)
    (All-append P (map (handler_of x.micros) roots) (flat_map (ends_of x.micros) edges)
    (All-map P (handler_of x.micros) roots (λ k d below. each (get_or roots k d) (first k d below)))
    (all_ends x.micros P edges (λ k d below. both (get_or edges k d) (later k d below))))

route_in : (x : Draft) (roots : List (List ℕ)) (edges : List EdgeDraft) → (length roots ≤ 32) × (length edges ≤ 256) → vertices_fault x.micros (bodies.Route roots edges) ≡ None → body_unknown x (bodies.Route roots edges) ≡ None
    → IsDeclOf (script_of x) (body_meant x (bodies.Route roots edges))
route_in x roots edges many few h =
    let parts = then_none (first_along (handler_unknown x.micros) roots) (first_along (λ (e : EdgeDraft). handler_unknown x.micros e.from then handler_unknown x.micros e.to) edges) h in
    let first = along_all (handler_unknown x.micros) roots parts.0 in
    let later = along_all (λ (e : EdgeDraft). handler_unknown x.micros e.from then handler_unknown x.micros e.to) edges parts.1 in
    let hs = map (handler_of x.micros) roots in
    let vs = vertices_of x.micros roots edges in
    let Below : (ℕ × ℕ) → Type 0 = λ e. (e.0 < length vs) × (e.1 < length vs) in
    let few_once = once_few hs in
    let roots_many = length-map roots (handler_of x.micros) in
    let first_many = length-map (once hs) (vertex_of vs) in
    let few_roots : length (map (vertex_of vs) (once hs)) ≤ 32 = (let few = many.0 in omega arith) in
    let edges_many = length-map edges (edge_numbers x.micros vs) in
    let few_kept = edges_few (map (edge_numbers x.micros vs) edges) in
    let few_edges : length (edges_after [] (map (edge_numbers x.micros vs) edges)) ≤ 256 = (let few = many.1 in omega arith) in
    record {
      few = vertices_32 x roots edges few;
      known = vertices_all x (λ (h : HandlerId). h.micro.0 < length (script_of x).micros) (micro_known x) roots edges first later;
      there = vertices_all x (IsHandlerOf (script_of x)) (index_known x) roots edges first later;
      few_roots = few_roots;
      few_edges = few_edges;
      first = All-map (λ r. r < length vs) (vertex_of vs) (once hs) (roots_below hs (flat_map (ends_of x.micros) edges));
      ends = edges_all Below (map (edge_numbers x.micros vs) edges) (All-map Below (edge_numbers x.micros vs) edges (ends_below x.micros hs edges));
    }

-- ---- any declaration

body_in : (x : Draft) (body : BodyDraft) → HasBodyLimits body → body_twice body ≡ None → body_unknown x body ≡ None → vertices_fault x.micros body ≡ None → IsDeclOf (script_of x) (body_meant x body)
body_in x (bodies.Set micros) limits apart known few = set_in x micros limits apart (along_all (among (micro_names x)) micros known)
body_in x (bodies.Bound bounds) limits apart known few =
    let Within : (ℕ × ℕ) → Type 0 = λ b. (1 ≤ b.1) × (b.1 ≤ 256) in (
      bound_in x bounds (limits.0, limits.1) apart (along_all (λ (b : BoundDraft). among (micro_names x) b.micro) bounds known),
      All-map Within (λ (b : BoundDraft). (number_in_names (micros_named x) b.micro, b.calls)) bounds limits.2,
    )
body_in x (bodies.Route roots edges) limits apart known few = route_in x roots edges limits few known

decl_in : (x : Draft) (d : DeclDraft) → HasDeclLimits d → body_twice d.body ≡ None → body_unknown x d.body ≡ None → vertices_fault x.micros d.body ≡ None → IsDeclOf (script_of x) (decl_meant x d).decl
unfolding decl_meant
decl_in x d limits apart known few = body_in x d.body limits.body apart known few

pub decls_in : (x : Draft) → HasLimits x → twice_fault x ≡ None → unknown_fault x ≡ None → totals_fault x ≡ None → HasDecls (script_of x)
unfolding script_of
decls_in x limits apart known totals =
    All-map (λ (d : DeclDef). IsDeclOf (script_of x) d.decl) (decl_meant x) x.decls
    (λ k d below. decl_in x (get_or x.decls k d) (limits.decls k d below) (bodies_apart x apart k d below) (bodies_defined x known k d below) (vertices_few x totals k d below))
