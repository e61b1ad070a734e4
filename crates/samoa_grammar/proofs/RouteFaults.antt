-- The fault of a route of many handlers, each of which stands once. `refl` alone doesn't come to it: both branches of each test
-- for a handler that stood before would be computed.
use Rattle.std.specs.Prelude.{◌≡◌, refl, Option, not, ◌&&◌, Bool, true, false, List, [], ◌∷◌, ◌++◌, map, length, nat_lt, codes, Some, None, if◌then◌else◌}
use Rattle.std.proofs.Common.{ap, cond, ◌∙◌}
use Rattle.std.specs.List.{list_any, flat_map}
use Rattle.serde_json.specs.Data.{Data}
use Rattle.samoa_model.specs.declared.ids.HandlerId.{HandlerId}
use Rattle.samoa_model.specs.Allowed.{same_handler}
use Rattle.samoa_model.specs.Routes.{once_after}
use Rattle.samoa_grammar.specs.declared.draft.EdgeDraft.{EdgeDraft}
use Rattle.samoa_grammar.specs.declared.draft.Form.TheVariants as forms
use Rattle.samoa_grammar.specs.declared.fault.WalkFault.{WalkFault}
use Rattle.samoa_grammar.specs.Tree.{part, list_of}
use Rattle.samoa_grammar.specs.Forms.{draft_of, form_in, body_of, texts_of, edge_of}
use Rattle.samoa_grammar.specs.Passes.{vertices_fault}
use Rattle.samoa_grammar.specs.Meaning.{handler_of}
use Rattle.samoa_grammar.proofs.ReferenceTrees.{over}

-- no handler stands a second time, also not after those before
abbrev pub apart : List HandlerId → List HandlerId → Bool
apart before [] = true
apart before (h ∷ hs) = not (list_any (same_handler h) before) && apart (before ++ h ∷ []) hs

kept : (k r : Bool) (h : HandlerId) (us vs ws : List HandlerId) → (not k && r) ≡ true → (r ≡ true → vs ≡ ws) → cond k us (h ∷ vs) ≡ h ∷ ws
kept true r h us vs ws e f = cc
kept false r h us vs ws e f = ap (λ ts. h ∷ ts) (f e)

-- each of them is taken once then
once_apart : (before hs : List HandlerId) → apart before hs ≡ true → once_after before hs ≡ hs
once_apart before [] e = refl
once_apart before (h ∷ hs) e =
    kept (list_any (same_handler h) before) (apart (before ++ h ∷ []) hs) h (once_after before hs) (once_after (before ++ h ∷ []) hs) hs e (once_apart (before ++ h ∷ []) hs)

-- the handlers of a declaration's roots and edges, in a script
abbrev pub met : Data → Data → List HandlerId
met script decl =
    map (handler_of (draft_of script).micros) (texts_of (codes "roots") decl)
    ++ flat_map (λ (e : EdgeDraft). handler_of (draft_of script).micros e.from ∷ handler_of (draft_of script).micros e.to ∷ []) (map edge_of (list_of (part (codes "edges") decl)))

-- the fault of a declaration's handlers in a script
pub route_fault : Data → Data → Option WalkFault
route_fault script decl = vertices_fault (draft_of script).micros (body_of (form_in decl) decl)

pub route_fault_is : (script decl : Data) → form_in decl ≡ Some forms.Route → apart [] (met script decl) ≡ true
    → route_fault script decl ≡ (if nat_lt 32 (length (met script decl)) then over "edges" 32 else None)
unfolding route_fault
route_fault_is script decl form e =
    ap (λ f. vertices_fault (draft_of script).micros (body_of f decl)) form
    ∙ ap (λ hs. if nat_lt 32 (length hs) then over "edges" 32 else None) (once_apart [] (met script decl) e)
