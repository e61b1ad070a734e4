-- One more handler, and one more edge, in a list that has each once.
use Rattle.std.proofs.Common.{◌≡◌, ℕ, ◌+◌, ◌<◌, Bool, true, false, cond, List, [], ◌∷◌, ◌++◌, length, get_or, map, take, refl, sym, ap, ◌∙◌, append_assoc}
use Rattle.std.specs.List.{list_any, flat_map}
use Rattle.std.proofs.lemmas.List.{map_more, take_more, append-nil}
use Rattle.std.proofs.lemmas.Grind.{flat_map-append}
use Rattle.samoa_model.specs.declared.ids.HandlerId.{HandlerId}
use Rattle.samoa_model.specs.Allowed.{same_handler}
use Rattle.samoa_grammar.specs.declared.draft.MicroDraft.{MicroDraft}
use Rattle.samoa_grammar.specs.declared.draft.EdgeDraft.{EdgeDraft}
use Rattle.samoa_model.specs.Routes.{once_after, once}
use Rattle.samoa_grammar.specs.Meaning.{same_edge, edges_after, handler_of}
use Rattle.samoa_naming.specs.Routes.{with_handler, with_edge, ends_of}

-- for any list that keeps what isn't there before
module _ {X : Type 0} (same : X → X → Bool) (kept : List X → List X → List X)
    (none : (before : List X) → kept before [] ≡ [])
    (more : (before : List X) (x : X) (xs : List X) → kept before (x ∷ xs) ≡ cond (list_any (same x) before) (kept before xs) (x ∷ kept (before ++ x ∷ []) xs)) where
  abbrev with_one : List X → X → List X
  with_one xs x = cond (list_any (same x) xs) xs (xs ++ x ∷ [])

  alone_if : (b : Bool) (before : List X) (x : X) → before ++ cond b [] (x ∷ []) ≡ cond b before (before ++ x ∷ [])
  alone_if true before x = append-nil before
  alone_if false before x = refl

  alone : (before : List X) (x : X) → before ++ kept before (x ∷ []) ≡ with_one before x
  alone before x =
      ap (λ l. before ++ l) (more before x []) ∙ ap (λ l. before ++ cond (list_any (same x) before) l (x ∷ kept (before ++ x ∷ []) [])) (none before)
      ∙ ap (λ l. before ++ cond (list_any (same x) before) [] (x ∷ l)) (none (before ++ x ∷ [])) ∙ alone_if (list_any (same x) before) before x

  step_if : (b : Bool) (before there there' here here' : List X) (y x : X) → before ++ there ≡ with_one (before ++ there') x → (before ++ y ∷ []) ++ here ≡ with_one ((before ++ y ∷ []) ++ here') x
      → before ++ cond b there (y ∷ here) ≡ with_one (before ++ cond b there' (y ∷ here')) x
  step_if true before there there' here here' y x p q = p
  step_if false before there there' here here' y x p q =
      sym (append_assoc before (y ∷ []) here) ∙ q ∙ ap (λ l. with_one l x) (append_assoc before (y ∷ []) here')

  push : (xs before : List X) (x : X) → before ++ kept before (xs ++ x ∷ []) ≡ with_one (before ++ kept before xs) x
  push [] before x =
      alone before x ∙ ap (λ l. with_one l x) (sym (append-nil before)) ∙ ap (λ l. with_one (before ++ l) x) (sym (none before))
  push (y ∷ ys) before x =
      ap (λ l. before ++ l) (more before y (ys ++ x ∷ []))
      ∙ step_if (list_any (same y) before) before (kept before (ys ++ x ∷ [])) (kept before ys) (kept (before ++ y ∷ []) (ys ++ x ∷ [])) (kept (before ++ y ∷ []) ys) y x (push ys before x) (push ys (before ++ y ∷ []) x)
      ∙ ap (λ l. with_one (before ++ l) x) (sym (more before y ys))

-- ---- handlers

once_push : (hs : List HandlerId) (h : HandlerId) → once (hs ++ h ∷ []) ≡ with_handler (once hs) h
once_push hs h = push same_handler once_after (λ _. refl) (λ _ _ _. refl) hs [] h

pub once_more : {X : Type 0} (f : X → HandlerId) (xs : List X) (i : ℕ) (x : X) → i < length xs → x ≡ get_or xs i x → once (map f (take (i + 1) xs)) ≡ with_handler (once (map f (take i xs))) (f x)
once_more f xs i x below here =
    ap once (map_more f xs i x below ∙ ap (λ y. map f (take i xs) ++ f y ∷ []) (sym here)) ∙ once_push (map f (take i xs)) (f x)

two_more : (hs : List HandlerId) (g h : HandlerId) → once (hs ++ (g ∷ h ∷ [])) ≡ with_handler (with_handler (once hs) g) h
two_more hs g h =
    ap once (sym (append_assoc hs (g ∷ []) (h ∷ []))) ∙ once_push (hs ++ g ∷ []) h ∙ ap (λ l. with_handler l h) (once_push hs g)

ends_push : (micros : List MicroDraft) (es : List EdgeDraft) (i : ℕ) (e : EdgeDraft) → i < length es → e ≡ get_or es i e
    → flat_map (ends_of micros) (take (i + 1) es) ≡ flat_map (ends_of micros) (take i es) ++ ends_of micros e
ends_push micros es i e below here =
    ap (flat_map (ends_of micros)) (take_more es i e below ∙ ap (λ y. take i es ++ y ∷ []) (sym here)) ∙ flat_map-append (ends_of micros) (take i es) (e ∷ [])

pub ends_more : (micros : List MicroDraft) (roots : List HandlerId) (es : List EdgeDraft) (i : ℕ) (e : EdgeDraft) → i < length es → e ≡ get_or es i e
    → once (roots ++ flat_map (ends_of micros) (take (i + 1) es)) ≡ with_handler (with_handler (once (roots ++ flat_map (ends_of micros) (take i es))) (handler_of micros e.from)) (handler_of micros e.to)
ends_more micros roots es i e below here =
    ap (λ l. once (roots ++ l)) (ends_push micros es i e below here)
    ∙ ap once (sym (append_assoc roots (flat_map (ends_of micros) (take i es)) (ends_of micros e)))
    ∙ two_more (roots ++ flat_map (ends_of micros) (take i es)) (handler_of micros e.from) (handler_of micros e.to)

-- ---- edges

edges_push : (es : List (ℕ × ℕ)) (e : ℕ × ℕ) → edges_after [] (es ++ e ∷ []) ≡ with_edge (edges_after [] es) e
edges_push es e = push same_edge edges_after (λ _. refl) (λ _ _ _. refl) es [] e

pub edges_more : {X : Type 0} (f : X → ℕ × ℕ) (xs : List X) (i : ℕ) (x : X) → i < length xs → x ≡ get_or xs i x → edges_after [] (map f (take (i + 1) xs)) ≡ with_edge (edges_after [] (map f (take i xs))) (f x)
edges_more f xs i x below here =
    ap (edges_after []) (map_more f xs i x below ∙ ap (λ y. map f (take i xs) ++ f y ∷ []) (sym here)) ∙ edges_push (map f (take i xs)) (f x)
