-- The roots and the ends of a route's edges are among its vertices.
use Rattle.std.proofs.Common.{◌≡◌, ℕ, ◌<◌, ◌≤◌, Bool, true, List, [], ◌∷◌, ◌++◌, length, sym, ap, ◌∙◌, subst}
use Rattle.std.specs.Prelude.{unwrap_or}
use Rattle.std.specs.List.{All, list_any, flat_map}
use Rattle.std.proofs.lemmas.Bool.{or_left, or_right}
use Rattle.std.proofs.lemmas.List.Elements.{All-nil, All-cons, All-head, All-tail}
use Rattle.std.proofs.lemmas.List.Folds.{list_any-append}
use Rattle.samoa_model.specs.declared.ids.HandlerId.{HandlerId}
use Rattle.samoa_model.specs.Allowed.{same_handler}
use Rattle.samoa_grammar.specs.declared.draft.MicroDraft.{MicroDraft}
use Rattle.samoa_grammar.specs.declared.draft.EdgeDraft.{EdgeDraft}
use Rattle.samoa_model.specs.Routes.{once}
use Rattle.samoa_grammar.specs.Meaning.{same_edge, edges_after, vertex_of, handler_of}
use Rattle.samoa_naming.specs.Routes.{ends_of}
use Rattle.samoa_grammar.proofs.Dedup.{same_handlers, place_below, position_found, once_is, edges_is, dedup_all, dedup_kept, length_dedup}

abbrev has : List HandlerId → HandlerId → Bool
has hs h = list_any (same_handler h) hs

-- ---- the list of the first ones

pub once_all : (P : HandlerId → Type 0) (hs : List HandlerId) → All P hs → All P (once hs)
once_all P hs each = subst (All P) (sym (once_is [] hs)) (dedup_all P same_handler [] hs each)

pub edges_all : (P : (ℕ × ℕ) → Type 0) (es : List (ℕ × ℕ)) → All P es → All P (edges_after [] es)
edges_all P es each = subst (All P) (sym (edges_is [] es)) (dedup_all P same_edge [] es each)

pub once_few : (hs : List HandlerId) → length (once hs) ≤ length hs
once_few hs = subst (λ l. length l ≤ length hs) (sym (once_is [] hs)) (length_dedup same_handler [] hs)

pub edges_few : (es : List (ℕ × ℕ)) → length (edges_after [] es) ≤ length es
edges_few es = subst (λ l. length l ≤ length es) (sym (edges_is [] es)) (length_dedup same_edge [] es)

once_has : (hs : List HandlerId) (h : HandlerId) → has hs h ≡ true → has (once hs) h ≡ true
once_has hs h some = ap (list_any (same_handler h)) (once_is [] hs) ∙ dedup_kept same_handler same_handlers [] hs h ∙ some

each_of : (Q : HandlerId → Type 0) (hs : List HandlerId) → ((h : HandlerId) → has hs h ≡ true → Q h) → All Q hs
each_of Q [] q = All-nil Q
each_of Q (g ∷ hs) q =
    All-cons Q g hs (q g (or_left (same_handler g g) (has hs g) (same_handlers.itself g))) (each_of Q hs (λ h some. q h (or_right (same_handler h g) (has hs h) some)))

vertex_below : (vs : List HandlerId) (h : HandlerId) → has vs h ≡ true → vertex_of vs h < length vs
vertex_below vs h some = subst (λ o. unwrap_or o 0 < length vs) (sym (position_found (same_handler h) vs some)) (place_below (same_handler h) vs some)

-- ---- routes

pub all_ends : (micros : List MicroDraft) (P : HandlerId → Type 0) (es : List EdgeDraft) → All (λ (e : EdgeDraft). P (handler_of micros e.from) × P (handler_of micros e.to)) es → All P (flat_map (ends_of micros) es)
all_ends micros P [] each = All-nil P
all_ends micros P (e ∷ es) each =
    let Both : EdgeDraft → Type 0 = λ e. P (handler_of micros e.from) × P (handler_of micros e.to) in
    let first = All-head Both e es each in
    let rest = all_ends micros P es (All-tail Both e es each) in
    All-cons P (handler_of micros e.from) (handler_of micros e.to ∷ flat_map (ends_of micros) es) first.0 (All-cons P (handler_of micros e.to) (flat_map (ends_of micros) es) first.1 rest)

from_ends : (micros : List MicroDraft) (P : HandlerId → Type 0) (es : List EdgeDraft) → All P (flat_map (ends_of micros) es) → All (λ (e : EdgeDraft). P (handler_of micros e.from) × P (handler_of micros e.to)) es
from_ends micros P [] each = All-nil (λ (e : EdgeDraft). P (handler_of micros e.from) × P (handler_of micros e.to))
from_ends micros P (e ∷ es) each =
    let Both : EdgeDraft → Type 0 = λ e. P (handler_of micros e.from) × P (handler_of micros e.to) in
    let a = handler_of micros e.from in
    let b = handler_of micros e.to in
    let rest = flat_map (ends_of micros) es in
    let later = All-tail P a (b ∷ rest) each in
    All-cons Both e es (All-head P a (b ∷ rest) each, All-head P b rest later) (from_ends micros P es (All-tail P b rest later))

-- what each vertex is, each root is
pub roots_are : (hs others : List HandlerId) (Q : HandlerId → Type 0) → ((h : HandlerId) → has (once (hs ++ others)) h ≡ true → Q h) → All Q (once hs)
roots_are hs others Q each =
    once_all Q hs (each_of Q hs (λ h some. each h (once_has (hs ++ others) h (list_any-append (same_handler h) hs others ∙ or_left (has hs h) (has others h) some))))

-- and so are the ends of each edge
pub ends_are : (micros : List MicroDraft) (hs : List HandlerId) (es : List EdgeDraft) (Q : HandlerId → Type 0) → ((h : HandlerId) → has (once (hs ++ flat_map (ends_of micros) es)) h ≡ true → Q h)
    → All (λ (e : EdgeDraft). Q (handler_of micros e.from) × Q (handler_of micros e.to)) es
ends_are micros hs es Q each =
    let others = flat_map (ends_of micros) es in
    from_ends micros Q es
    (each_of Q others (λ h some. each h (once_has (hs ++ others) h (list_any-append (same_handler h) hs others ∙ or_right (has hs h) (has others h) some))))

-- the numbers of the roots
pub roots_below : (hs others : List HandlerId) → All (λ h. vertex_of (once (hs ++ others)) h < length (once (hs ++ others))) (once hs)
roots_below hs others = let vs = once (hs ++ others) in roots_are hs others (λ h. vertex_of vs h < length vs) (vertex_below vs)

-- the numbers of the ends of edges
pub ends_below : (micros : List MicroDraft) (hs : List HandlerId) (es : List EdgeDraft)
    → All (λ (e : EdgeDraft). (vertex_of (once (hs ++ flat_map (ends_of micros) es)) (handler_of micros e.from) < length (once (hs ++ flat_map (ends_of micros) es)))
    × (vertex_of (once (hs ++ flat_map (ends_of micros) es)) (handler_of micros e.to) < length (once (hs ++ flat_map (ends_of micros) es)))) es
ends_below micros hs es = let vs = once (hs ++ flat_map (ends_of micros) es) in ends_are micros hs es (λ h. vertex_of vs h < length vs) (vertex_below vs)
