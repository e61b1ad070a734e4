-- What a valid script names by numbers, in the draft that has its names again: each name is known there, has its form,
-- and has that number.
use Rattle.std.proofs.Common.{◌≡◌, ℕ, suc, ◌+◌, ◌<◌, true, false, List, [], ◌∷◌, ◌++◌, length, map, get_or, take, drop, Some, None, refl, sym, ap, ap₂, ◌∙◌, cond, arith, subst}
use Rattle.std.specs.Prelude.{◌&&◌, not, nat_le, unwrap_or, option_map, option_and_then, is_some, codes, bytes_eq}
use Rattle.std.specs.List.{All, list_all, position, position_or_len}
use Rattle.std.proofs.lemmas.Bool.{and_parts, and_from, lt-ltb}
use Rattle.std.proofs.lemmas.Bool.Decides.{nat_tests}
use Rattle.std.proofs.lemmas.List.{append_assoc, append-nil, length-map, length-append, get_or-map}
use Rattle.std.proofs.lemmas.List.Elements.{All-nil, All-cons, All-get_or}
use Rattle.std.proofs.Math.Seq.{take-append_seam, drop-append-add}
use Rattle.samoa_model.specs.NameRule.{is_letter, is_name_byte, is_script_name, IsScriptName}
use Rattle.samoa_model.specs.Allowed.{no_handler}
use Rattle.samoa_model.specs.Scripts.{no_micro, no_decl, no_event, no_change, micro_at}
use Rattle.samoa_model.specs.Handlers.{handlers_of_kind, names_of_handlers, handler_text, IsHandlerOf}
use Rattle.samoa_model.specs.Range.{HasHandlers, IsEventOf, IsChangeOf}
use Rattle.samoa_model.specs.Valid.{AreNames, IsMicroValid, IsValid}
use Rattle.samoa_model.specs.declared.ids.EventId.{EventId}
use Rattle.samoa_model.specs.declared.ids.ChangeId.{ChangeId}
use Rattle.samoa_model.specs.declared.ids.HandlerId.{HandlerId}
use Rattle.samoa_model.specs.declared.setup.Kind.{Kind}
use Rattle.samoa_model.specs.declared.setup.Kind.TheVariants.{Prog, Link, Fd, Rbcast, Cons, Abcast, Seqcast, Repl, Views}
use Rattle.samoa_model.specs.declared.script.CodeDef.{CodeDef}
use Rattle.samoa_model.specs.declared.script.MicroDef.{MicroDef}
use Rattle.samoa_model.specs.declared.script.DeclDef.{DeclDef}
use Rattle.samoa_model.specs.declared.script.EventDef.{EventDef}
use Rattle.samoa_model.specs.declared.script.ChangeDef.{ChangeDef}
use Rattle.samoa_model.specs.declared.script.Script.{Script}
use Rattle.samoa_grammar.specs.declared.fault.WalkFault.TheVariants.{Unknown}
use Rattle.samoa_grammar.specs.declared.draft.MicroDraft.{MicroDraft}
use Rattle.samoa_grammar.specs.declared.draft.DeclDraft.{DeclDraft}
use Rattle.samoa_grammar.specs.declared.draft.EventDraft.{EventDraft}
use Rattle.samoa_grammar.specs.declared.draft.ChangeDraft.{ChangeDraft}
use Rattle.samoa_grammar.specs.Forms.{is_prog}
use Rattle.samoa_grammar.specs.Names.{is_dot, has_dot, micro_part, handler_part}
use Rattle.samoa_grammar.specs.Meaning.{number_in_names, handler_names, no_micro_draft, handler_in, handler_of}
use Rattle.samoa_grammar.specs.Passes.{twice, among, micro_names, decl_names, event_names, change_names, handler_unknown}
use Rattle.samoa_grammar.proofs.Dedup.{same_bytes}
use Rattle.samoa_grammar.proofs.Lists.{name_at}
use Rattle.samoa_grammar.proofs.Apart.{stands_at, place_at, twice_apart}
use Rattle.samoa_print.specs.Texts.{micro_text, decl_text, event_text, change_text}
use Rattle.samoa_print.proofs.Back.{handlers_back, micro_back, decl_back, event_back, change_back, draft_back}
use Rattle.samoa_print.proofs.Parts.{IsNamed, IsHandlerNamed}

-- ---- names of a script

-- a text is known, has the form of a name, and has this number
pub record IsText (names : List (List ℕ)) (text : List ℕ) (n : ℕ) : Type 0 where
  pub known : among names text ≡ None
  pub formed : IsNamed text
  pub number : number_in_names names text ≡ n

text_kept : (names : List (List ℕ)) (n : ℕ) → AreNames names → n < length names → IsText names (get_or names n []) n
text_kept names n valid below =
    let name = get_or names n [] in
    record {
      known = ap (λ b. cond b None (Some (Unknown name))) (stands_at bytes_eq same_bytes names n [] below);
      formed = All-get_or IsScriptName names n [] below valid.each;
      number = ap (λ o. unwrap_or o 0) (place_at bytes_eq same_bytes names n [] valid.apart below);
    }

kept : {Y : Type 0} (g : Y → List ℕ) (d : Y) → g d ≡ [] → (ys : List Y) (names : List (List ℕ)) → names ≡ map g ys → AreNames (map g ys) → (i : ℕ) → i < length ys → IsText names (g (get_or ys i d)) i
kept g d none ys names is valid i below =
    subst (λ ns. IsText ns (g (get_or ys i d)) i) (sym is)
    (subst (λ t. IsText (map g ys) t i) (sym (name_at g d none ys i)) (text_kept (map g ys) i valid (subst (λ n. i < n) (sym (length-map ys g)) below)))

pub micros_back : (s : Script) (ms : List MicroDef) → map (λ (m : MicroDraft). m.name) (map (micro_back s) ms) ≡ map (λ (m : MicroDef). m.name) ms
unfolding micro_back
micros_back s [] = refl
micros_back s (m ∷ ms) = ap (λ ns. m.name ∷ ns) (micros_back s ms)

pub decls_back : (s : Script) (ds : List DeclDef) → map (λ (d : DeclDraft). d.name) (map (decl_back s) ds) ≡ map (λ (d : DeclDef). d.name) ds
unfolding decl_back
decls_back s [] = refl
decls_back s (d ∷ ds) = ap (λ ns. d.name ∷ ns) (decls_back s ds)

pub events_back : (s : Script) (es : List EventDef) → map (λ (e : EventDraft). e.name) (map (event_back s) es) ≡ map (λ (e : EventDef). e.name) es
unfolding event_back
events_back s [] = refl
events_back s (e ∷ es) = ap (λ ns. e.name ∷ ns) (events_back s es)

pub changes_back : (s : Script) (cs : List ChangeDef) → map (λ (c : ChangeDraft). c.name) (map (change_back s) cs) ≡ map (λ (c : ChangeDef). c.name) cs
unfolding change_back
changes_back s [] = refl
changes_back s (c ∷ cs) = ap (λ ns. c.name ∷ ns) (changes_back s cs)

pub micro_kept : (s : Script) → IsValid s → (p : ℕ) → p < length s.micros → IsText (micro_names (draft_back s)) (micro_text s p) p
unfolding draft_back
micro_kept s v p below = kept (λ (m : MicroDef). m.name) no_micro refl s.micros (micro_names (draft_back s)) (micros_back s s.micros) v.micro_names p below

pub decl_kept : (s : Script) → IsValid s → (d : ℕ) → d < length s.decls → IsText (decl_names (draft_back s)) (decl_text s d) d
unfolding draft_back
decl_kept s v d below = kept (λ (d : DeclDef). d.name) no_decl refl s.decls (decl_names (draft_back s)) (decls_back s s.decls) v.decl_names d below

pub event_kept : (s : Script) → IsValid s → (event : EventId) → IsEventOf s event → IsText (event_names (draft_back s)) (event_text s event) event.0
unfolding draft_back
event_kept s v event below = kept (λ (e : EventDef). e.name) no_event refl s.events (event_names (draft_back s)) (events_back s s.events) v.event_names event.0 below

pub change_kept : (s : Script) → IsValid s → (change : ChangeId) → IsChangeOf s change → IsText (change_names (draft_back s)) (change_text s change) change.0
unfolding draft_back
change_kept s v change below = kept (λ (c : ChangeDef). c.name) no_change refl s.changes (change_names (draft_back s)) (changes_back s s.changes) v.change_names change.0 below

-- ---- handlers of a microprotocol

all_named : (ns : List (List ℕ)) → list_all is_script_name ns ≡ true → All IsScriptName ns
all_named [] h = All-nil IsScriptName
all_named (n ∷ ns) h =
    let parts = and_parts (is_script_name n) (list_all is_script_name ns) h in
    All-cons IsScriptName n ns parts.0 (all_named ns parts.1)

tested_names : (ns : List (List ℕ)) → list_all is_script_name ns ≡ true → twice ns ≡ None → AreNames ns
tested_names ns formed once = record { each = all_named ns formed; apart = twice_apart ns once }

kind_names : (kind : Kind) → AreNames (handlers_of_kind kind)
kind_names Prog = tested_names [] refl refl
kind_names Link = tested_names (handlers_of_kind Link) refl refl
kind_names Fd = tested_names (handlers_of_kind Fd) refl refl
kind_names Rbcast = tested_names (handlers_of_kind Rbcast) refl refl
kind_names Cons = tested_names (handlers_of_kind Cons) refl refl
kind_names Abcast = tested_names (handlers_of_kind Abcast) refl refl
kind_names Seqcast = tested_names (handlers_of_kind Seqcast) refl refl
kind_names Repl = tested_names (handlers_of_kind Repl) refl refl
kind_names Views = tested_names (handlers_of_kind Views) refl refl

abbrev all_names : List CodeDef → Kind → List (List ℕ)
all_names cs kind = map (λ (c : CodeDef). c.name) cs ++ handlers_of_kind kind

none_scripted : (kind : Kind) (cs : List CodeDef) → cs ≡ [] → AreNames (all_names cs kind)
none_scripted kind cs none = subst (λ l. AreNames (all_names l kind)) (sym none) (kind_names kind)

both_names : (kind : Kind) (cs : List CodeDef) → HasHandlers kind cs → AreNames (map (λ (c : CodeDef). c.name) cs) → AreNames (all_names cs kind)
both_names Prog cs own names = subst AreNames (sym (append-nil (map (λ (c : CodeDef). c.name) cs))) names
both_names Link cs own names = none_scripted Link cs own
both_names Fd cs own names = none_scripted Fd cs own
both_names Rbcast cs own names = none_scripted Rbcast cs own
both_names Cons cs own names = none_scripted Cons cs own
both_names Abcast cs own names = none_scripted Abcast cs own
both_names Seqcast cs own names = none_scripted Seqcast cs own
both_names Repl cs own names = none_scripted Repl cs own
both_names Views cs own names = none_scripted Views cs own

pub handlers_kept : (kind : Kind) (cs : List CodeDef) → HasHandlers kind cs → handlers_back (is_prog kind) cs ≡ cs
handlers_kept Prog cs own = refl
handlers_kept Link cs own = sym own
handlers_kept Fd cs own = sym own
handlers_kept Rbcast cs own = sym own
handlers_kept Cons cs own = sym own
handlers_kept Abcast cs own = sym own
handlers_kept Seqcast cs own = sym own
handlers_kept Repl cs own = sym own
handlers_kept Views cs own = sym own

-- ---- two names joined by a dot

no_dot : (c : ℕ) → is_name_byte c ≡ true → is_dot c ≡ false
no_dot c h = grind (arith, nat_tests)

before_dot : (a b : List ℕ) → list_all is_name_byte a ≡ true → position_or_len is_dot (a ++ 46 ∷ b) ≡ length a
before_dot [] b h = refl
before_dot (c ∷ a) b h =
    let parts = and_parts (is_name_byte c) (list_all is_name_byte a) h in
    ap (λ d. cond (not d) (1 + position_or_len is_dot (a ++ 46 ∷ b)) 0) (no_dot c parts.0)
    ∙ ap (λ n. 1 + n) (before_dot a b parts.1)
    ∙ one_more (length a)
  where
    one_more : (n : ℕ) → 1 + n ≡ suc n
    one_more n = omega arith

name_bytes : (a : List ℕ) → IsScriptName a → list_all is_name_byte a ≡ true
name_bytes a h =
    (and_parts (nat_le (length a) 16) (list_all is_name_byte a) (and_parts (is_letter (get_or a 0 0)) (nat_le (length a) 16 && list_all is_name_byte a) h).1).1

abbrev joined : List ℕ → List ℕ → List ℕ
joined a b = a ++ 46 ∷ b

joined_micro : (a b : List ℕ) → IsScriptName a → micro_part (joined a b) ≡ a
joined_micro a b h = ap (λ n. take n (joined a b)) (before_dot a b (name_bytes a h)) ∙ take-append_seam a (46 ∷ b)

joined_handler : (a b : List ℕ) → IsScriptName a → handler_part (joined a b) ≡ b
joined_handler a b h = ap (λ n. drop (n + 1) (joined a b)) (before_dot a b (name_bytes a h)) ∙ drop-append-add a (46 ∷ b) 1

longer : (a b : List ℕ) → length a < length (joined a b)
longer a b = let many = length-append a (46 ∷ b) in omega arith

joined_formed : (a b : List ℕ) → IsScriptName a → IsScriptName b → IsHandlerNamed (joined a b)
joined_formed a b p q =
    let t = joined a b in
    let dot : has_dot t ≡ true = lt-ltb (position_or_len is_dot t) (length t) (subst (λ n. n < length t) (sym (before_dot a b (name_bytes a p))) (longer a b)) in
    and_from (has_dot t) (is_script_name (micro_part t) && is_script_name (handler_part t)) dot
    (and_from (is_script_name (micro_part t)) (is_script_name (handler_part t))
    (ap is_script_name (joined_micro a b p) ∙ p) (ap is_script_name (joined_handler a b p) ∙ q))

-- ---- handlers

-- a text names this handler, and has the form of a handler's name
pub record IsHandlerText (micros : List MicroDraft) (text : List ℕ) (h : HandlerId) : Type 0 where
  pub found : handler_in micros text ≡ Some h
  pub formed : IsHandlerNamed text

pub known : (micros : List MicroDraft) (text : List ℕ) (h : HandlerId) → IsHandlerText micros text h → handler_unknown micros text ≡ None
known micros text h is = ap (λ o. cond (is_some o) None (Some (Unknown text))) is.found

pub again : (micros : List MicroDraft) (text : List ℕ) (h : HandlerId) → IsHandlerText micros text h → handler_of micros text ≡ h
again micros text h is = ap (λ o. unwrap_or o no_handler) is.found

abbrev at : ℕ → ℕ → HandlerId
at p i = record { micro = record { 0 = p }; index = i }

found_at : (micros : List MicroDraft) (text a b : List ℕ) (p i : ℕ) → micro_part text ≡ a → handler_part text ≡ b
    → position (bytes_eq a) (map (λ (m : MicroDraft). m.name) micros) ≡ Some p
    → position (bytes_eq b) (handler_names (get_or micros p no_micro_draft)) ≡ Some i → handler_in micros text ≡ Some (at p i)
found_at micros text a b p i micro_is own_is micro own =
    ap₂ (λ x y. option_and_then (λ q. option_map (at q) (position (bytes_eq y) (handler_names (get_or micros q no_micro_draft)))) (position (bytes_eq x) (map (λ (m : MicroDraft). m.name) micros))) micro_is own_is
    ∙ ap (λ o. option_and_then (λ q. option_map (at q) (position (bytes_eq b) (handler_names (get_or micros q no_micro_draft)))) o) micro
    ∙ ap (λ o. option_map (at p) o) own

-- the names of the handlers of a microprotocol again
own_back : (s : Script) (ms : List MicroDef) → All IsMicroValid ms → (p : ℕ) → p < length ms → handler_names (get_or (map (micro_back s) ms) p no_micro_draft) ≡ names_of_handlers (get_or ms p no_micro)
unfolding micro_back
own_back s ms valid p below =
    let m = get_or ms p no_micro in
    let own = (All-get_or IsMicroValid ms p no_micro below valid).own in
    ap handler_names (get_or-map (micro_back s) ms p no_micro no_micro_draft below)
    ∙ ap (λ cs. all_names cs m.kind) (handlers_kept m.kind m.handlers own)

pub handler_kept : (s : Script) → IsValid s → (h : HandlerId) → h.micro.0 < length s.micros → IsHandlerOf s h → IsHandlerText (draft_back s).micros (handler_text s h) h
unfolding draft_back
handler_kept s v h micro own =
    let p = h.micro.0 in
    let m = micro_at s p in
    let valid : IsMicroValid m = All-get_or IsMicroValid s.micros p no_micro micro v.micros in
    let names : List (List ℕ) = names_of_handlers m in
    let named : AreNames names = both_names m.kind m.handlers valid.own valid.names in
    let a = m.name in
    let b = get_or names h.index [] in
    let first = micro_kept s v p micro in
    let own_formed : IsScriptName b = All-get_or IsScriptName names h.index [] own named.each in
    let text_is : handler_text s h ≡ joined a b = append_assoc a (codes ".") b in
    let here : position (bytes_eq a) (map (λ (m : MicroDef). m.name) s.micros) ≡ Some p =
    ap (λ t. position (bytes_eq t) (map (λ (m : MicroDef). m.name) s.micros)) (name_at (λ (m : MicroDef). m.name) no_micro refl s.micros p)
    ∙ place_at bytes_eq same_bytes (map (λ (m : MicroDef). m.name) s.micros) p [] v.micro_names.apart (subst (λ n. p < n) (sym (length-map s.micros (λ (m : MicroDef). m.name))) micro) in
    let inside = place_at bytes_eq same_bytes names h.index [] named.apart own in
    record {
      found = found_at (map (micro_back s) s.micros) (handler_text s h) a b p h.index
          (ap micro_part text_is ∙ joined_micro a b first.formed) (ap handler_part text_is ∙ joined_handler a b first.formed)
          (ap (position (bytes_eq a)) (micros_back s s.micros) ∙ here)
          (ap (position (bytes_eq b)) (own_back s s.micros v.micros p micro) ∙ inside);
      formed = subst IsHandlerNamed (sym text_is) (joined_formed a b first.formed own_formed);
    }
