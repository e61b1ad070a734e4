-- A tree without a fault of the form means a draft within its limits.
use Rattle.std.proofs.Common.{◌≡◌, ℕ, ◌≤◌, Bool, true, false, ◌&&◌, cond, List, [], ◌∷◌, length, map, nat_le, nat_lt, Option, Some, None, unwrap_or, codes, refl, subst, arith}
use Rattle.std.specs.Prelude.{is_some, option_and_then}
use Rattle.std.proofs.lemmas.List.{length-map}
use Rattle.std.specs.List.{All, list_all}
use Rattle.std.specs.Option.{option_map_or}
use Rattle.std.proofs.lemmas.Bool.{and_parts}
use Rattle.std.proofs.lemmas.Bool.Decides.{nat_tests}
use Rattle.std.proofs.lemmas.List.Elements.{All-nil, All-cons}
use Rattle.serde_json.specs.Data.{Data, null}
use Rattle.serde_json.specs.Find.{get, as_str}
use Rattle.samoa_model.specs.declared.setup.Kind.{Kind}
use Rattle.samoa_model.specs.declared.setup.Kind.TheVariants.{Prog, Link, Fd, Rbcast, Cons, Abcast, Seqcast, Repl, Views}
use Rattle.samoa_model.specs.declared.script.CodeDef.{CodeDef}
use Rattle.samoa_model.specs.NameRule.{is_script_name, IsScriptName}
use Rattle.samoa_model.specs.Range.{IsInstr, IsCode, HasHandlers}
use Rattle.samoa_grammar.specs.declared.fault.WalkFault.{WalkFault}
use Rattle.samoa_grammar.specs.declared.fault.WalkFault.TheVariants.{Missing, WrongForm, Over}
use Rattle.samoa_grammar.specs.declared.draft.Form.{Form}
use Rattle.samoa_grammar.specs.declared.draft.Form.TheVariants as forms
use Rattle.samoa_grammar.specs.Tree.{part, is_list, list_of, is_number, number_of, is_text, text_of}
use Rattle.samoa_grammar.specs.Names.{is_name, is_handler_text, IsHandlerText, is_handler_name}
use Rattle.samoa_grammar.specs.Instrs.{is_instr, instr_of}
use Rattle.samoa_grammar.specs.Walks.{◌then◌, first_along}
use Rattle.samoa_grammar.specs.Tests.{object_fault, required, optional, form_test, number_fault, number_from_fault, name_fault, is_list_of, within_fault, items_fault, list_fault}
use Rattle.samoa_grammar.specs.Forms.{code_fault, code_of, kind_named, kind_in, is_kind, kind_or_prog, is_prog, has_handlers, micro_keys, handlers_fault, handlers_of, micro_fault, micro_of, bound_fault, bound_of, is_edge, form_named, form_in, is_form, decl_keys, body_fault, body_of, decl_fault, decl_of, event_fault, event_of, table_fault, table_of, change_fault, change_of, cause_count_fault, cause_fault, do_fault, do_of, loss_fault, crash_fault, script_keys, is_version, form_of_all, draft_of}
use Rattle.samoa_grammar.proofs.Chains.{then_none, then_three, then_four, then_five}
use Rattle.samoa_grammar.proofs.Instrs.{instr_kept}
use Rattle.samoa_form.specs.Limits.{HasMicroLimits, HasCalls, HasBodyLimits, HasDeclLimits, HasEventLimits, HasTableLimits, HasChangeLimits, HasDoLimits, HasLimits}

-- ---- the values at the keys

at_required : (P : Data → Type 0) (test : Data → Option WalkFault) (o : Option Data) (f : WalkFault) → ((d : Data) → test d ≡ None → P d)
    → option_map_or test o (Some f) ≡ None → P (unwrap_or o null)
at_required P test None f each h = absurd (cc)
at_required P test (Some d) f each h = each d h

at_optional : (P : Data → Type 0) (test : Data → Option WalkFault) (o : Option Data) → P null → ((d : Data) → test d ≡ None → P d)
    → option_map_or test o None ≡ None → P (unwrap_or o null)
at_optional P test None none each h = none
at_optional P test (Some d) none each h = each d h

both_within : (least most found : ℕ) (key : List ℕ) → within_fault least most found key ≡ None → (least ≤ found) × (found ≤ most)
both_within least most found key h = (grind (arith, nat_tests), grind (arith, nat_tests))

-- the items of a list without keys
record Items (least most : ℕ) (passes : Data → Bool) (d : Data) : Type 0 where
  each : list_all passes (list_of d) ≡ true
  some : least ≤ length (list_of d)
  few : length (list_of d) ≤ most

choice_none : (b : Bool) (x : Option WalkFault) (f : WalkFault) → cond b x (Some f) ≡ None → (b ≡ true) × (x ≡ None)
choice_none true x f h = (refl, h)
choice_none false x f h = absurd (cc)

few_within : (most found : ℕ) (key : List ℕ) → cond (nat_lt most found) (Some (Over key most)) None ≡ None → found ≤ most
few_within most found key h = grind (arith, nat_tests)

items_kept : (least most : ℕ) (passes : Data → Bool) (key : List ℕ) (d : Data) → items_fault least most passes key d ≡ None → Items least most passes d
items_kept least most passes key d h =
    let many = length (list_of d) in
    let parts = choice_none (is_list_of least passes d) (cond (nat_lt most many) (Some (Over key most)) None) (WrongForm key) h in
    let inner = (and_parts (is_list d) (list_all passes (list_of d) && nat_le least many) parts.0).1 in
    let both = and_parts (list_all passes (list_of d)) (nat_le least many) inner in
    let e : nat_le least many ≡ true = both.1 in
    record { each = both.0; some = grind (arith, nat_tests); few = few_within most many key parts.1 }

required_items : (least most : ℕ) (passes : Data → Bool) (key : List ℕ) (d : Data) → required key (items_fault least most passes) d ≡ None → Items least most passes (part key d)
required_items least most passes key d h =
    at_required (Items least most passes) (items_fault least most passes key) (get key d) (Missing key) (items_kept least most passes key) h

optional_items : (most : ℕ) (passes : Data → Bool) (key : List ℕ) (d : Data) → optional key (items_fault 0 most passes) d ≡ None → Items 0 most passes (part key d)
optional_items most passes key d h =
    at_optional (Items 0 most passes) (items_fault 0 most passes key) (get key d) (record { each = refl; some = omega arith; few = omega arith })
    (items_kept 0 most passes key) h

-- what each item is has a property
All-items : {X : Type 0} (P : X → Type 0) (passes : Data → Bool) (meaning : Data → X) → ((d : Data) → passes d ≡ true → P (meaning d))
    → (ds : List Data) → list_all passes ds ≡ true → All P (map meaning ds)
All-items P passes meaning each [] h = All-nil P
All-items P passes meaning each (d ∷ ds) h =
    let parts = and_parts (passes d) (list_all passes ds) h in
    All-cons P (meaning d) (map meaning ds) (each d parts.0) (All-items P passes meaning each ds parts.1)

handler_texts : (ds : List Data) → list_all is_handler_name ds ≡ true → All IsHandlerText (map text_of ds)
handler_texts ds h = All-items IsHandlerText is_handler_name text_of (λ d passes. (and_parts (is_text d) (is_handler_text (text_of d)) passes).1) ds h

named : (key : List ℕ) (d : Data) → required key name_fault d ≡ None → IsScriptName (text_of (part key d))
named key d h =
    at_required (λ v. IsScriptName (text_of v)) (name_fault key) (get key d) (Missing key)
    (λ v passes. (and_parts (is_text v) (is_script_name (text_of v)) (choice_none (is_name v) None (WrongForm key) passes).0).1) h

number_parts : (b : Bool) (least most found : ℕ) (key : List ℕ) → cond b (within_fault least most found key) (Some (WrongForm key)) ≡ None → (least ≤ found) × (found ≤ most)
number_parts true least most found key h = both_within least most found key h
number_parts false least most found key h = absurd (cc)

abbrev IsWithin : ℕ → ℕ → Data → Type 0
IsWithin least most d = (least ≤ number_of d) × (number_of d ≤ most)

number_within : (least most : ℕ) (key : List ℕ) (d : Data) → number_fault least most key d ≡ None → IsWithin least most d
number_within least most key d h = number_parts (is_number d) least most (number_of d) key h

required_within : (least most : ℕ) (key : List ℕ) (d : Data) → required key (number_fault least most) d ≡ None → IsWithin least most (part key d)
required_within least most key d h =
    at_required (IsWithin least most) (number_fault least most key) (get key d) (Missing key) (number_within least most key) h

option_within : (least most missing : ℕ) (key : List ℕ) (o : Option Data) → (least ≤ missing) × (missing ≤ most)
    → option_map_or (number_fault least most key) o None ≡ None → (least ≤ option_map_or number_of o missing) × (option_map_or number_of o missing ≤ most)
option_within least most missing key None none h = none
option_within least most missing key (Some d) none h = number_within least most key d h

tick_parts : (n : Bool) (least found : ℕ) (key : List ℕ) → cond (n && nat_le least found) None (Some (WrongForm key)) ≡ None → least ≤ found
tick_parts true least found key h = grind (arith, nat_tests)
tick_parts false least found key h = absurd (cc)

abbrev IsFrom : ℕ → Data → Type 0
IsFrom least d = least ≤ number_of d

number_from : (least : ℕ) (key : List ℕ) (d : Data) → number_from_fault least key d ≡ None → IsFrom least d
number_from least key d h = tick_parts (is_number d) least (number_of d) key h

required_from : (least : ℕ) (key : List ℕ) (d : Data) → required key (number_from_fault least) d ≡ None → IsFrom least (part key d)
required_from least key d h = at_required (IsFrom least) (number_from_fault least key) (get key d) (Missing key) (number_from least key) h

-- ---- lists of objects

-- a list of objects within its limits, none of them with a fault
record Passes (least most : ℕ) (fault : Data → Option WalkFault) (d : Data) : Type 0 where
  some : least ≤ length (list_of d)
  few : length (list_of d) ≤ most
  along : first_along fault (list_of d) ≡ None

list_parts : (b : Bool) (least most found : ℕ) (key : List ℕ) (rest : Option WalkFault)
    → cond b (within_fault least most found key then rest) (Some (WrongForm key)) ≡ None → (least ≤ found) × (found ≤ most) × (rest ≡ None)
list_parts true least most found key rest h =
    let parts = then_none (within_fault least most found key) rest h in
    let bounds = both_within least most found key parts.0 in
    (bounds.0, bounds.1, parts.1)
list_parts false least most found key rest h = absurd (cc)

list_passes : (least most : ℕ) (fault : List ℕ → Data → Option WalkFault) (key : List ℕ) (d : Data) → list_fault least most fault key d ≡ None → Passes least most (fault key) d
list_passes least most fault key d h =
    let parts = list_parts (is_list d) least most (length (list_of d)) key (first_along (fault key) (list_of d)) h in
    record { some = parts.0; few = parts.1; along = parts.2 }

required_passes : (least most : ℕ) (fault : List ℕ → Data → Option WalkFault) (key : List ℕ) (d : Data) → required key (list_fault least most fault) d ≡ None
    → Passes least most (fault key) (part key d)
required_passes least most fault key d h =
    at_required (Passes least most (fault key)) (list_fault least most fault key) (get key d) (Missing key) (list_passes least most fault key) h

optional_passes : (most : ℕ) (fault : List ℕ → Data → Option WalkFault) (key : List ℕ) (d : Data) → optional key (list_fault 0 most fault) d ≡ None
    → Passes 0 most (fault key) (part key d)
optional_passes most fault key d h =
    at_optional (Passes 0 most (fault key)) (list_fault 0 most fault key) (get key d) (record { some = omega arith; few = omega arith; along = refl })
    (list_passes 0 most fault key) h

-- what each object without a fault means has a property
All-meaning : {X : Type 0} (P : X → Type 0) (fault : Data → Option WalkFault) (meaning : Data → X) → ((d : Data) → fault d ≡ None → P (meaning d))
    → (ds : List Data) → first_along fault ds ≡ None → All P (map meaning ds)
All-meaning P fault meaning each [] h = All-nil P
All-meaning P fault meaning each (d ∷ ds) h =
    let parts = then_none (fault d) (first_along fault ds) h in
    All-cons P (meaning d) (map meaning ds) (each d parts.0) (All-meaning P fault meaning each ds parts.1)

-- ---- the objects

abbrev IsNamedCode : CodeDef → Type 0
IsNamedCode code = IsScriptName code.name × IsCode code

named_code : (list : List ℕ) (d : Data) → code_fault list d ≡ None → IsNamedCode (code_of d)
unfolding code_fault code_of
named_code list d h =
    let parts = then_three
    (object_fault list (codes "name" ∷ codes "code" ∷ []) d)
    (required (codes "name") name_fault d)
    (required (codes "code") (items_fault 0 32 is_instr) d)
    h in
    let items = required_items 0 32 is_instr (codes "code") d parts.2 in
    (named (codes "name") d parts.1, record { few = rw length-map items.few; instrs = All-items IsInstr is_instr instr_of instr_kept (list_of (part (codes "code") d)) items.each })

-- the handlers of a microprotocol of the scripted kind, or of another
record HasCodes (handlers : Bool) (cs : List CodeDef) : Type 0 where
  own : cond handlers (1 ≤ length cs) (cs ≡ [])
  few : length cs ≤ 16
  each : All IsNamedCode cs

handlers_within : (handlers : Bool) (d : Data) → handlers_fault handlers d ≡ None → HasCodes handlers (handlers_of handlers d)
handlers_within true d h =
    let passed = required_passes 1 16 code_fault (codes "handlers") d h in
    record {
      own = rw length-map passed.some;
      few = rw length-map passed.few;
      each = All-meaning IsNamedCode (code_fault (codes "handlers")) code_of (named_code (codes "handlers")) (list_of (part (codes "handlers") d)) passed.along;
    }
handlers_within false d h = record { own = refl; few = omega arith; each = All-nil IsNamedCode }

own_handlers : (kind : Kind) (cs : List CodeDef) → cond (is_prog kind) (1 ≤ length cs) (cs ≡ []) → HasHandlers kind cs
own_handlers Prog cs h = h
own_handlers Link cs h = h
own_handlers Fd cs h = h
own_handlers Rbcast cs h = h
own_handlers Cons cs h = h
own_handlers Abcast cs h = h
own_handlers Seqcast cs h = h
own_handlers Repl cs h = h
own_handlers Views cs h = h

known_kind : (o : Option Kind) → is_some o ≡ true → has_handlers o ≡ is_prog (kind_or_prog o)
known_kind None h = absurd (cc)
known_kind (Some kind) h = refl

kind_known : (d : Data) → required (codes "kind") (form_test is_kind) d ≡ None → is_some (kind_in d) ≡ true
kind_known d h = at_kind (get (codes "kind") d) h
  where
    at_kind : (o : Option Data) → option_map_or (form_test is_kind (codes "kind")) o (Some (Missing (codes "kind"))) ≡ None → is_some (option_and_then kind_named (option_and_then as_str o)) ≡ true
    at_kind None h = absurd (cc)
    at_kind (Some v) h = (choice_none (is_kind v) None (WrongForm (codes "kind")) h).0

micro_limits : (list : List ℕ) (d : Data) → micro_fault list d ≡ None → HasMicroLimits (micro_of d)
unfolding micro_fault micro_of
micro_limits list d h =
    let nums = optional (codes "nums") (items_fault 0 12 is_number) d in
    let ports = optional (codes "ports") (items_fault 0 16 is_name) d in
    let changes = optional (codes "changes") (items_fault 0 16 is_name) d in
    let handlers = handlers_fault (has_handlers (kind_in d)) d in
    let head = then_four
    (object_fault list (micro_keys (has_handlers (kind_in d))) d)
    (required (codes "name") name_fault d)
    (required (codes "kind") (form_test is_kind) d)
    (nums then ports then changes then handlers)
    h in
    let rest = then_four nums ports changes handlers head.3 in
    let within = handlers_within (has_handlers (kind_in d)) d rest.3 in
    let cs = handlers_of (has_handlers (kind_in d)) d in
    record {
      name = named (codes "name") d head.1;
      nums = rw length-map (optional_items 12 is_number (codes "nums") d rest.0).few;
      ports = rw length-map (optional_items 16 is_name (codes "ports") d rest.1).few;
      changes = rw length-map (optional_items 16 is_name (codes "changes") d rest.2).few;
      handlers = within.few;
      own = own_handlers (kind_or_prog (kind_in d)) cs (subst (λ b. cond b (1 ≤ length cs) (cs ≡ [])) (known_kind (kind_in d) (kind_known d head.2)) within.own);
      names = λ k e below. (within.each k e below).0;
      codes = λ k e below. (within.each k e below).1;
    }

bound_limits : (list : List ℕ) (d : Data) → bound_fault list d ≡ None → HasCalls (bound_of d)
unfolding bound_fault bound_of
bound_limits list d h =
    let parts = then_three
    (object_fault list (codes "micro" ∷ codes "calls" ∷ []) d)
    (required (codes "micro") name_fault d)
    (required (codes "calls") (number_fault 1 256) d)
    h in
    required_within 1 256 (codes "calls") d parts.2

body_limits : (form : Option Form) (d : Data) → is_some form ≡ true → body_fault form d ≡ None → HasBodyLimits (body_of form d)
body_limits None d known h = absurd (cc)
body_limits (Some forms.Set) d known h =
    let items = required_items 1 24 is_name (codes "micros") d h in
    (rw length-map items.some, rw length-map items.few)
body_limits (Some forms.Bound) d known h =
    let passed = required_passes 1 24 bound_fault (codes "bounds") d h in
    (rw length-map passed.some, rw length-map passed.few, All-meaning HasCalls (bound_fault (codes "bounds")) bound_of (bound_limits (codes "bounds")) (list_of (part (codes "bounds") d)) passed.along)
body_limits (Some forms.Route) d known h =
    let parts = then_none (required (codes "roots") (items_fault 0 32 is_handler_name) d) (optional (codes "edges") (items_fault 0 256 is_edge) d) h in
    (rw length-map (required_items 0 32 is_handler_name (codes "roots") d parts.0).few, rw length-map (optional_items 256 is_edge (codes "edges") d parts.1).few)

form_known : (d : Data) → required (codes "form") (form_test is_form) d ≡ None → is_some (form_in d) ≡ true
form_known d h = at_form (get (codes "form") d) h
  where
    at_form : (o : Option Data) → option_map_or (form_test is_form (codes "form")) o (Some (Missing (codes "form"))) ≡ None → is_some (option_and_then form_named (option_and_then as_str o)) ≡ true
    at_form None h = absurd (cc)
    at_form (Some v) h = (choice_none (is_form v) None (WrongForm (codes "form")) h).0

decl_limits : (list : List ℕ) (d : Data) → decl_fault list d ≡ None → HasDeclLimits (decl_of d)
unfolding decl_fault decl_of
decl_limits list d h =
    let parts = then_five
    (object_fault list (decl_keys (form_in d)) d)
    (required (codes "name") name_fault d)
    (required (codes "form") (form_test is_form) d)
    (optional (codes "budget") (number_fault 1 256) d)
    (body_fault (form_in d) d)
    h in
    let budget = option_within 1 256 32 (codes "budget") (get (codes "budget") d) (omega arith, omega arith) parts.3 in
    record { name = named (codes "name") d parts.1; least_budget = budget.0; budget = budget.1; body = body_limits (form_in d) d (form_known d parts.2) parts.4 }

event_limits : (list : List ℕ) (d : Data) → event_fault list d ≡ None → HasEventLimits (event_of d)
unfolding event_fault event_of
event_limits list d h =
    let parts = then_four
    (object_fault list (codes "name" ∷ codes "decl" ∷ codes "handlers" ∷ []) d)
    (required (codes "name") name_fault d)
    (required (codes "decl") name_fault d)
    (required (codes "handlers") (items_fault 0 4 is_handler_name) d)
    h in
    let items = required_items 0 4 is_handler_name (codes "handlers") d parts.3 in
    record { name = named (codes "name") d parts.1; handlers = rw length-map items.few; formed = handler_texts (list_of (part (codes "handlers") d)) items.each }

table_limits : (list : List ℕ) (d : Data) → table_fault list d ≡ None → HasTableLimits (table_of d)
unfolding table_fault table_of
table_limits list d h =
    let parts = then_three
    (object_fault list (codes "event" ∷ codes "handlers" ∷ []) d)
    (required (codes "event") name_fault d)
    (required (codes "handlers") (items_fault 0 4 is_handler_name) d)
    h in
    let items = required_items 0 4 is_handler_name (codes "handlers") d parts.2 in
    record { handlers = rw length-map items.few; formed = handler_texts (list_of (part (codes "handlers") d)) items.each }

change_limits : (list : List ℕ) (d : Data) → change_fault list d ≡ None → HasChangeLimits (change_of d)
unfolding change_fault change_of
change_limits list d h =
    let parts = then_four
    (object_fault list (codes "name" ∷ codes "event" ∷ codes "table" ∷ []) d)
    (required (codes "name") name_fault d)
    (required (codes "event") name_fault d)
    (required (codes "table") (list_fault 1 16 table_fault) d)
    h in
    let passed = required_passes 1 16 table_fault (codes "table") d parts.3 in
    record {
      name = named (codes "name") d parts.1;
      some_row = rw length-map passed.some;
      table = rw length-map passed.few;
      rows = All-meaning HasTableLimits (table_fault (codes "table")) table_of (table_limits (codes "table")) (list_of (part (codes "table") d)) passed.along;
    }

do_limits : (list : List ℕ) (d : Data) → do_fault list d ≡ None → HasDoLimits (do_of d)
unfolding do_fault do_of
do_limits list d h =
    let parts = then_four
    (object_fault list (codes "tick" ∷ codes "node" ∷ codes "event" ∷ codes "change" ∷ codes "args" ∷ []) d)
    (cause_count_fault list d)
    (required (codes "tick") (number_from_fault 1) d)
    (required (codes "node") (number_from_fault 0) d then cause_fault d then optional (codes "args") (items_fault 0 12 is_number) d)
    h in
    let rest = then_three (required (codes "node") (number_from_fault 0) d) (cause_fault d) (optional (codes "args") (items_fault 0 12 is_number) d) parts.3 in
    record { tick = required_from 1 (codes "tick") d parts.2; args = rw length-map (optional_items 12 is_number (codes "args") d rest.2).few }

-- ---- the whole

record Parts (d : Data) : Type 0 where
  nodes : IsWithin 1 8 (part (codes "nodes") d)
  ticks : IsWithin 1 10000 (part (codes "ticks") d)
  micros : Passes 1 24 (micro_fault (codes "micros")) (part (codes "micros") d)
  decls : Passes 1 64 (decl_fault (codes "decls")) (part (codes "decls") d)
  events : Passes 1 64 (event_fault (codes "events")) (part (codes "events") d)
  changes : Passes 0 16 (change_fault (codes "changes")) (part (codes "changes") d)
  does : Passes 0 8192 (do_fault (codes "do")) (part (codes "do") d)
  losses : Passes 0 256 (loss_fault (codes "lose")) (part (codes "lose") d)
  crashes : Passes 0 8 (crash_fault (codes "crash")) (part (codes "crash") d)

all_parts : (d : Data) → form_of_all d ≡ None → Parts d
unfolding form_of_all
all_parts d h =
    let micros = required (codes "micros") (list_fault 1 24 micro_fault) d in
    let decls = required (codes "decls") (list_fault 1 64 decl_fault) d in
    let events = required (codes "events") (list_fault 1 64 event_fault) d in
    let changes = optional (codes "changes") (list_fault 0 16 change_fault) d in
    let does = optional (codes "do") (list_fault 0 8192 do_fault) d in
    let losses = optional (codes "lose") (list_fault 0 256 loss_fault) d in
    let crashes = optional (codes "crash") (list_fault 0 8 crash_fault) d in
    let head = then_five
    (object_fault (codes "script") script_keys d)
    (required (codes "version") (form_test is_version) d)
    (required (codes "nodes") (number_fault 1 8) d)
    (required (codes "ticks") (number_fault 1 10000) d)
    (micros then decls then events then changes then does then losses then crashes)
    h in
    let middle = then_four micros decls events (changes then does then losses then crashes) head.4 in
    let last = then_four changes does losses crashes middle.3 in
    record {
      nodes = required_within 1 8 (codes "nodes") d head.2;
      ticks = required_within 1 10000 (codes "ticks") d head.3;
      micros = required_passes 1 24 micro_fault (codes "micros") d middle.0;
      decls = required_passes 1 64 decl_fault (codes "decls") d middle.1;
      events = required_passes 1 64 event_fault (codes "events") d middle.2;
      changes = optional_passes 16 change_fault (codes "changes") d last.0;
      does = optional_passes 8192 do_fault (codes "do") d last.1;
      losses = optional_passes 256 loss_fault (codes "lose") d last.2;
      crashes = optional_passes 8 crash_fault (codes "crash") d last.3;
    }

pub draft_limits : (d : Data) → form_of_all d ≡ None → HasLimits (draft_of d)
unfolding draft_of
draft_limits d h =
    let parts = all_parts d h in
    record {
      some_node = parts.nodes.0;
      few_nodes = parts.nodes.1;
      some_tick = parts.ticks.0;
      few_ticks = parts.ticks.1;
      some_micro = rw length-map parts.micros.some;
      few_micros = rw length-map parts.micros.few;
      micros = All-meaning HasMicroLimits (micro_fault (codes "micros")) micro_of (micro_limits (codes "micros")) (list_of (part (codes "micros") d)) parts.micros.along;
      some_decl = rw length-map parts.decls.some;
      few_decls = rw length-map parts.decls.few;
      decls = All-meaning HasDeclLimits (decl_fault (codes "decls")) decl_of (decl_limits (codes "decls")) (list_of (part (codes "decls") d)) parts.decls.along;
      some_event = rw length-map parts.events.some;
      few_events = rw length-map parts.events.few;
      events = All-meaning HasEventLimits (event_fault (codes "events")) event_of (event_limits (codes "events")) (list_of (part (codes "events") d)) parts.events.along;
      few_changes = rw length-map parts.changes.few;
      changes = All-meaning HasChangeLimits (change_fault (codes "changes")) change_of (change_limits (codes "changes")) (list_of (part (codes "changes") d)) parts.changes.along;
      few_does = rw length-map parts.does.few;
      does = All-meaning HasDoLimits (do_fault (codes "do")) do_of (do_limits (codes "do")) (list_of (part (codes "do") d)) parts.does.along;
      few_losses = rw length-map parts.losses.few;
      few_crashes = rw length-map parts.crashes.few;
    }
