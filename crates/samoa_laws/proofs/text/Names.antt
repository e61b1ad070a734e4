-- Names by the rule, in any script that has them and in those of the group stack.
use Rattle.std.proofs.Common.{◌≡◌, ◌⊎◌, inl, inr, refl, sym, ap, subst, ◌∙◌, ℕ, zero, suc, ◌<◌, ◌≤◌, arith, Bool, true, false, ◌&&◌, List, [], ◌∷◌, get_or, length, map, codes, bytes_eq}
use Rattle.std.specs.List.{list_all}
use Rattle.std.proofs.lemmas.Bool.{false≢true, cases_order}
use Rattle.samoa_model.specs.Handlers.{handlers_of_kind, names_of_handlers, own_name}
use Rattle.samoa_model.specs.NameRule.{is_script_name}
use Rattle.samoa_model.specs.declared.ids.HandlerId.{HandlerId}
use Rattle.samoa_model.specs.declared.setup.Kind.{Kind}
use Rattle.samoa_model.specs.Scripts.{micro_at, no_micro, no_event, no_change}
use Rattle.samoa_model.specs.declared.script.ChangeDef.{ChangeDef}
use Rattle.samoa_model.specs.declared.script.CodeDef.{CodeDef}
use Rattle.samoa_model.specs.declared.script.EventDef.{EventDef}
use Rattle.samoa_model.specs.declared.script.MicroDef.{MicroDef}
use Rattle.samoa_model.specs.declared.script.Script.{Script}
use Rattle.samoa_serial.specs.Lists.{Each}
use Rattle.samoa_serial.proofs.ListLaws.{each_append, each_weaker}
use Rattle.samoa_laws.specs.trace.Group.{IsGroup, group_changes, group_events, group_micros}
use Rattle.samoa_laws.specs.text.Deliveries.{HasNames, IsName}
use Rattle.samoa_laws.proofs.text.Texts.{Lacks, Plain, name_field, name_line, name_some}
use Rattle.samoa_laws.proofs.text.Reports.{IsClean}
use Rattle.samoa_laws.proofs.text.Lines.{IsAlone}

-- at any place: an element, or what stands past the end
each_or : {A : Type 0} (P : A → Type 0) (xs : List A) (d : A) → Each P xs → P d → (i : ℕ) → P (get_or xs i d)
each_or P [] d all past i = past
each_or P (x ∷ xs) d all past zero = all.0
each_or P (x ∷ xs) d all past (suc i) = each_or P xs d all.1 past i

past_end : {A : Type 0} (xs : List A) (i : ℕ) (d : A) → length xs ≤ i → get_or xs i d ≡ d
past_end [] i d le = refl
past_end (x ∷ xs) zero d le = absurd (omega arith)
past_end (x ∷ xs) (suc i) d le = past_end xs i d (omega arith)

-- a name, or none
record IsNamed (name : List ℕ) : Type 0 where
  line : Plain name
  one : Lacks 32 name

named : (name : List ℕ) → IsName name → IsNamed name
named name h = record { line = record { lacks = name_line name h }; one = name_field name h }

nameless : IsNamed []
nameless = record { line = record { lacks = tt }; one = tt }

each_by : {A : Type 0} (test : A → Bool) (xs : List A) → list_all test xs ≡ true → Each (λ (x : A). test x ≡ true) xs
each_by test [] h = tt
each_by test (x ∷ xs) h = go (test x) refl (λ rest. each_by test xs rest) h
  where
    go : (b : Bool) → test x ≡ b → (list_all test xs ≡ true → Each (λ (y : _). test y ≡ true) xs) → (b && list_all test xs) ≡ true
        → Each (λ (y : _). test y ≡ true) (x ∷ xs)
    go true e more rest = (e, more rest)
    go false e more rest = absurd (false≢true rest)

-- the names of a microprotocol's handlers: those of its script, and those of its kind
kind_names : (kind : Kind) → Each IsName (handlers_of_kind kind)
kind_names Kind.Prog = tt
kind_names Kind.Link = each_by is_script_name (handlers_of_kind Kind.Link) refl
kind_names Kind.Fd = each_by is_script_name (handlers_of_kind Kind.Fd) refl
kind_names Kind.Rbcast = each_by is_script_name (handlers_of_kind Kind.Rbcast) refl
kind_names Kind.Cons = each_by is_script_name (handlers_of_kind Kind.Cons) refl
kind_names Kind.Abcast = each_by is_script_name (handlers_of_kind Kind.Abcast) refl
kind_names Kind.Seqcast = each_by is_script_name (handlers_of_kind Kind.Seqcast) refl
kind_names Kind.Repl = each_by is_script_name (handlers_of_kind Kind.Repl) refl
kind_names Kind.Views = each_by is_script_name (handlers_of_kind Kind.Views) refl

code_names : (codes : List CodeDef) → Each (λ (c : CodeDef). IsName c.name) codes → Each IsName (map (λ (c : CodeDef). c.name) codes)
code_names [] all = tt
code_names (c ∷ cs) all = (all.0, code_names cs all.1)

handler_names : (m : MicroDef) → Each (λ (c : CodeDef). IsName c.name) m.handlers → Each IsName (names_of_handlers m)
handler_names m all = each_append IsName (map (λ (c : CodeDef). c.name) m.handlers) (handlers_of_kind m.kind) (code_names m.handlers all) (kind_names m.kind)

record AreNamed (micros : List MicroDef) (events : List EventDef) (changes : List ChangeDef) : Type 0 where
  micro : Each (λ (m : MicroDef). IsName m.name) micros
  handler : Each (λ (m : MicroDef). Each (λ (c : CodeDef). IsName c.name) m.handlers) micros
  event : Each (λ (e : EventDef). IsName e.name) events
  change : Each (λ (c : ChangeDef). IsName c.name) changes

clean_of : (script : Script) → AreNamed script.micros script.events script.changes → IsClean script
clean_of script names = record {
  micro = λ p. (micro p).line;
  micro_field = λ p. (micro p).one;
  handler = handler;
  event = λ e. (each_or (λ (x : EventDef). IsNamed x.name) script.events no_event (each_weaker (λ (x : EventDef). IsName x.name) (λ (x : EventDef). IsNamed x.name) (λ x h. named x.name h) script.events names.event) nameless e).line;
  change = λ c. (each_or (λ (x : ChangeDef). IsNamed x.name) script.changes no_change (each_weaker (λ (x : ChangeDef). IsName x.name) (λ (x : ChangeDef). IsNamed x.name) (λ x h. named x.name h) script.changes names.change) nameless c).line;
}
  where
    micro : (p : ℕ) → IsNamed (micro_at script p).name
    micro p = each_or (λ (m : MicroDef). IsNamed m.name) script.micros no_micro
        (each_weaker (λ (m : MicroDef). IsName m.name) (λ (m : MicroDef). IsNamed m.name) (λ m h. named m.name h) script.micros names.micro) nameless p

    handler : (h : HandlerId) → Plain (own_name script h)
    handler h =
        let m : MicroDef = micro_at script h.micro.0 in
        let all : Each (λ (c : CodeDef). IsName c.name) m.handlers =
        each_or (λ (m : MicroDef). Each (λ (c : CodeDef). IsName c.name) m.handlers) script.micros no_micro names.handler tt h.micro.0 in
        (each_or IsNamed (names_of_handlers m) [] (each_weaker IsName IsNamed named (names_of_handlers m) (handler_names m all)) nameless h.index).line

-- ---- any script that has names
pub clean_names : (script : Script) → HasNames script → IsClean script
clean_names script names = clean_of script (record { micro = names.micros; handler = names.handlers; event = names.events; change = names.changes })

pub alone_names : (script : Script) → HasNames script → (p : ℕ) → p < length script.micros → IsAlone script p
alone_names script names p there q same = go (cases_order q (length script.micros))
  where
    at : (i : ℕ) (ms : List MicroDef) → Each (λ (m : MicroDef). IsName m.name) ms → i < length ms → IsName (get_or ms i no_micro).name
    at i [] all less = absurd (omega arith)
    at zero (m ∷ ms) all less = all.0
    at (suc i) (m ∷ ms) all less = at i ms all.1 (omega arith)

    none : length script.micros ≤ q → q ≡ p
    none le = absurd (name_some (micro_at script p).name (at p script.micros names.micros there) (sym same ∙ ap (λ (m : MicroDef). m.name) (past_end script.micros q no_micro le)))

    go : (q ≡ length script.micros) ⊎ ((q < length script.micros) ⊎ (length script.micros < q)) → q ≡ p
    go (inl e) = none (omega (arith, e))
    go (inr (inl less)) = names.apart q p less there same
    go (inr (inr more)) = none (omega (arith, more))

-- ---- the group stack
group_named : AreNamed group_micros group_events group_changes
group_named = record {
  micro = each_by (λ (m : MicroDef). is_script_name m.name) group_micros refl;
  handler = (tt, (tt, (tt, (tt, (tt, (tt, (tt, (tt, tt))))))));
  event = each_by (λ (e : EventDef). is_script_name e.name) group_events refl;
  change = each_by (λ (c : ChangeDef). is_script_name c.name) group_changes refl;
}

pub clean_group : (script : Script) → IsGroup script → IsClean script
clean_group script group =
    clean_of script
    (subst (λ (ms : List MicroDef). AreNamed ms script.events script.changes) (sym group.micros)
    (subst (λ (es : List EventDef). AreNamed group_micros es script.changes) (sym group.events)
    (subst (λ (cs : List ChangeDef). AreNamed group_micros group_events cs) (sym group.changes) group_named)))

other_name : (name : List ℕ) (q : ℕ) → bytes_eq name (codes "repl") ≡ false → name ≡ codes "repl" → q ≡ 6
other_name name q differ same = absurd (false≢true (sym differ ∙ ap (λ (n : List ℕ). bytes_eq n (codes "repl")) same))

repl_alone : (q : ℕ) → (get_or group_micros q no_micro).name ≡ codes "repl" → q ≡ 6
repl_alone zero e = other_name (codes "link") 0 refl e
repl_alone (suc zero) e = other_name (codes "fd") 1 refl e
repl_alone (suc (suc zero)) e = other_name (codes "rb") 2 refl e
repl_alone (suc (suc (suc zero))) e = other_name (codes "cons") 3 refl e
repl_alone (suc (suc (suc (suc zero)))) e = other_name (codes "ab") 4 refl e
repl_alone (suc (suc (suc (suc (suc zero))))) e = other_name (codes "sq") 5 refl e
repl_alone (suc (suc (suc (suc (suc (suc zero)))))) e = refl
repl_alone (suc (suc (suc (suc (suc (suc (suc zero))))))) e = other_name (codes "views") 7 refl e
repl_alone (suc (suc (suc (suc (suc (suc (suc (suc q)))))))) e = other_name [] (suc (suc (suc (suc (suc (suc (suc (suc q)))))))) refl e

pub repl_name : (script : Script) → IsGroup script → (micro_at script 6).name ≡ codes "repl"
repl_name script group = ap (λ (ms : List MicroDef). (get_or ms 6 no_micro).name) group.micros

pub alone_group : (script : Script) → IsGroup script → IsAlone script 6
alone_group script group q same =
    repl_alone q (ap (λ (ms : List MicroDef). (get_or ms q no_micro).name) (sym group.micros) ∙ (same ∙ repl_name script group))
