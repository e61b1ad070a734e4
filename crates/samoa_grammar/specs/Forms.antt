-- The first pass: the form of each object, key by key in the order of its table, and what it means with its names as they stand.
use Rattle.std.specs.Prelude.{ℕ, Bool, true, false, ◌&&◌, ◌==◌, not, List, [], ◌∷◌, map, codes, bytes_eq, Option, Some, None, option_and_then, is_some, if◌then◌else◌}
use Rattle.std.specs.Option.{option_map_or}
use Rattle.serde_json.specs.Data.{Data}
use Rattle.serde_json.specs.Find.{get, as_str}
use Rattle.samoa_model.specs.declared.setup.Kind.{Kind}
use Rattle.samoa_model.specs.declared.setup.Kind.TheVariants.{Prog, Link, Fd, Rbcast, Cons, Abcast, Seqcast, Repl, Views}
use Rattle.samoa_model.specs.declared.script.CodeDef.{CodeDef}
use Rattle.samoa_grammar.specs.Tree.{part, list_of, is_list, number_of, is_number, text_of}
use Rattle.samoa_grammar.specs.Names.{is_name, is_handler_name}
use Rattle.samoa_grammar.specs.Instrs.{is_instr, instr_of}
use Rattle.samoa_grammar.specs.declared.fault.WalkFault.{WalkFault}
use Rattle.samoa_grammar.specs.declared.fault.WalkFault.TheVariants.{WrongForm}
use Rattle.samoa_grammar.specs.declared.draft.MicroDraft.{MicroDraft}
use Rattle.samoa_grammar.specs.declared.draft.Form.{Form}
use Rattle.samoa_grammar.specs.declared.draft.Form.TheVariants as forms
use Rattle.samoa_grammar.specs.declared.draft.BoundDraft.{BoundDraft}
use Rattle.samoa_grammar.specs.declared.draft.EdgeDraft.{EdgeDraft}
use Rattle.samoa_grammar.specs.declared.draft.BodyDraft.{BodyDraft}
use Rattle.samoa_grammar.specs.declared.draft.BodyDraft.TheVariants as bodies
use Rattle.samoa_grammar.specs.declared.draft.DeclDraft.{DeclDraft}
use Rattle.samoa_grammar.specs.declared.draft.EventDraft.{EventDraft}
use Rattle.samoa_grammar.specs.declared.draft.TableDraft.{TableDraft}
use Rattle.samoa_grammar.specs.declared.draft.ChangeDraft.{ChangeDraft}
use Rattle.samoa_grammar.specs.declared.draft.CauseDraft.{CauseDraft}
use Rattle.samoa_grammar.specs.declared.draft.CauseDraft.TheVariants.{Event, Change}
use Rattle.samoa_grammar.specs.declared.draft.DoDraft.{DoDraft}
use Rattle.samoa_grammar.specs.declared.draft.LossDraft.{LossDraft}
use Rattle.samoa_grammar.specs.declared.draft.CrashDraft.{CrashDraft}
use Rattle.samoa_grammar.specs.declared.draft.Draft.{Draft}
use Rattle.samoa_grammar.specs.Walks.{◌then◌}
use Rattle.samoa_grammar.specs.Tests.{object_fault, required, optional, form_test, number_fault, number_from_fault, name_fault, items_fault, list_fault}

abbrev pub number_or : ℕ → List ℕ → Data → ℕ
number_or missing key d = option_map_or number_of (get key d) missing

abbrev pub numbers_of : List ℕ → Data → List ℕ
numbers_of key d = map number_of (list_of (part key d))

abbrev pub texts_of : List ℕ → Data → List (List ℕ)
texts_of key d = map text_of (list_of (part key d))

-- ---- a handler of a microprotocol

unfoldable pub code_fault : List ℕ → Data → Option WalkFault
code_fault list d =
    object_fault list (codes "name" ∷ codes "code" ∷ []) d
    then required (codes "name") name_fault d
    then required (codes "code") (items_fault 0 32 is_instr) d

unfoldable pub code_of : Data → CodeDef
code_of d = record { name = text_of (part (codes "name") d); code = map instr_of (list_of (part (codes "code") d)) }

-- ---- a microprotocol

abbrev pub kind_named : List ℕ → Option Kind
kind_named text =
    if bytes_eq text (codes "prog") then Some Prog else
    if bytes_eq text (codes "link") then Some Link else
    if bytes_eq text (codes "fd") then Some Fd else
    if bytes_eq text (codes "rbcast") then Some Rbcast else
    if bytes_eq text (codes "cons") then Some Cons else
    if bytes_eq text (codes "abcast") then Some Abcast else
    if bytes_eq text (codes "seqcast") then Some Seqcast else
    if bytes_eq text (codes "repl") then Some Repl else
    if bytes_eq text (codes "views") then Some Views else
    None

-- the kind that a microprotocol names, if it names one
abbrev pub kind_in : Data → Option Kind
kind_in d = option_and_then kind_named (option_and_then as_str (get (codes "kind") d))

abbrev pub is_kind : Data → Bool
is_kind d = is_some (option_and_then kind_named (as_str d))

abbrev pub kind_or_prog : Option Kind → Kind
kind_or_prog None = Prog
kind_or_prog (Some kind) = kind

abbrev pub is_prog : Kind → Bool
is_prog Prog = true
is_prog _ = false

-- whether the table of a microprotocol has handlers: that of the scripted kind, and where none is named that of every kind
abbrev pub has_handlers : Option Kind → Bool
has_handlers None = true
has_handlers (Some kind) = is_prog kind

abbrev pub micro_keys : Bool → List (List ℕ)
micro_keys handlers =
    if handlers then codes "name" ∷ codes "kind" ∷ codes "nums" ∷ codes "ports" ∷ codes "changes" ∷ codes "handlers" ∷ []
    else codes "name" ∷ codes "kind" ∷ codes "nums" ∷ codes "ports" ∷ codes "changes" ∷ []

abbrev pub handlers_fault : Bool → Data → Option WalkFault
handlers_fault handlers d = if handlers then required (codes "handlers") (list_fault 1 16 code_fault) d else None

unfoldable pub micro_fault : List ℕ → Data → Option WalkFault
micro_fault list d =
    object_fault list (micro_keys (has_handlers (kind_in d))) d
    then required (codes "name") name_fault d
    then required (codes "kind") (form_test is_kind) d
    then optional (codes "nums") (items_fault 0 12 is_number) d
    then optional (codes "ports") (items_fault 0 16 is_name) d
    then optional (codes "changes") (items_fault 0 16 is_name) d
    then handlers_fault (has_handlers (kind_in d)) d

abbrev pub handlers_of : Bool → Data → List CodeDef
handlers_of handlers d = if handlers then map code_of (list_of (part (codes "handlers") d)) else []

unfoldable pub micro_of : Data → MicroDraft
micro_of d = record {
  name = text_of (part (codes "name") d);
  kind = kind_or_prog (kind_in d);
  nums = numbers_of (codes "nums") d;
  ports = texts_of (codes "ports") d;
  changes = texts_of (codes "changes") d;
  handlers = handlers_of (has_handlers (kind_in d)) d;
}

-- ---- an item of `bounds`

unfoldable pub bound_fault : List ℕ → Data → Option WalkFault
bound_fault list d =
    object_fault list (codes "micro" ∷ codes "calls" ∷ []) d
    then required (codes "micro") name_fault d
    then required (codes "calls") (number_fault 1 256) d

unfoldable pub bound_of : Data → BoundDraft
bound_of d = record { micro = text_of (part (codes "micro") d); calls = number_of (part (codes "calls") d) }

-- ---- an item of `edges`: two handler names

abbrev pub are_two_handlers : List Data → Bool
are_two_handlers (a ∷ b ∷ []) = is_handler_name a && is_handler_name b
are_two_handlers _ = false

abbrev pub is_edge : Data → Bool
is_edge d = is_list d && are_two_handlers (list_of d)

abbrev pub edge_among : List Data → EdgeDraft
edge_among (a ∷ b ∷ rest) = record { from = text_of a; to = text_of b }
edge_among _ = record { from = []; to = [] }

abbrev pub edge_of : Data → EdgeDraft
edge_of d = edge_among (list_of d)

-- ---- a declaration

abbrev pub form_named : List ℕ → Option Form
form_named text =
    if bytes_eq text (codes "set") then Some forms.Set else
    if bytes_eq text (codes "bound") then Some forms.Bound else
    if bytes_eq text (codes "route") then Some forms.Route else
    None

-- the form that a declaration names, if it names one
abbrev pub form_in : Data → Option Form
form_in d = option_and_then form_named (option_and_then as_str (get (codes "form") d))

abbrev pub is_form : Data → Bool
is_form d = is_some (option_and_then form_named (as_str d))

-- the table of each form, and where none is named that of every form
abbrev pub decl_keys : Option Form → List (List ℕ)
decl_keys None =
    codes "name" ∷ codes "form" ∷ codes "budget" ∷ codes "micros" ∷ codes "bounds" ∷ codes "roots" ∷ codes "edges" ∷ []
decl_keys (Some forms.Set) = codes "name" ∷ codes "form" ∷ codes "budget" ∷ codes "micros" ∷ []
decl_keys (Some forms.Bound) = codes "name" ∷ codes "form" ∷ codes "budget" ∷ codes "bounds" ∷ []
decl_keys (Some forms.Route) = codes "name" ∷ codes "form" ∷ codes "budget" ∷ codes "roots" ∷ codes "edges" ∷ []

abbrev pub body_fault : Option Form → Data → Option WalkFault
body_fault None d = None
body_fault (Some forms.Set) d = required (codes "micros") (items_fault 1 24 is_name) d
body_fault (Some forms.Bound) d = required (codes "bounds") (list_fault 1 24 bound_fault) d
body_fault (Some forms.Route) d =
    required (codes "roots") (items_fault 0 32 is_handler_name) d
    then optional (codes "edges") (items_fault 0 256 is_edge) d

abbrev pub body_of : Option Form → Data → BodyDraft
body_of None d = bodies.Set []
body_of (Some forms.Set) d = bodies.Set (texts_of (codes "micros") d)
body_of (Some forms.Bound) d = bodies.Bound (map bound_of (list_of (part (codes "bounds") d)))
body_of (Some forms.Route) d = bodies.Route (texts_of (codes "roots") d) (map edge_of (list_of (part (codes "edges") d)))

unfoldable pub decl_fault : List ℕ → Data → Option WalkFault
decl_fault list d =
    object_fault list (decl_keys (form_in d)) d
    then required (codes "name") name_fault d
    then required (codes "form") (form_test is_form) d
    then optional (codes "budget") (number_fault 1 256) d
    then body_fault (form_in d) d

unfoldable pub decl_of : Data → DeclDraft
decl_of d = record { name = text_of (part (codes "name") d); budget = number_or 32 (codes "budget") d; body = body_of (form_in d) d }

-- ---- an event

unfoldable pub event_fault : List ℕ → Data → Option WalkFault
event_fault list d =
    object_fault list (codes "name" ∷ codes "decl" ∷ codes "handlers" ∷ []) d
    then required (codes "name") name_fault d
    then required (codes "decl") name_fault d
    then required (codes "handlers") (items_fault 0 4 is_handler_name) d

unfoldable pub event_of : Data → EventDraft
event_of d = record { name = text_of (part (codes "name") d); decl = text_of (part (codes "decl") d); handlers = texts_of (codes "handlers") d }

-- ---- a change of bindings

unfoldable pub table_fault : List ℕ → Data → Option WalkFault
table_fault list d =
    object_fault list (codes "event" ∷ codes "handlers" ∷ []) d
    then required (codes "event") name_fault d
    then required (codes "handlers") (items_fault 0 4 is_handler_name) d

unfoldable pub table_of : Data → TableDraft
table_of d = record { event = text_of (part (codes "event") d); handlers = texts_of (codes "handlers") d }

unfoldable pub change_fault : List ℕ → Data → Option WalkFault
change_fault list d =
    object_fault list (codes "name" ∷ codes "event" ∷ codes "table" ∷ []) d
    then required (codes "name") name_fault d
    then required (codes "event") name_fault d
    then required (codes "table") (list_fault 1 16 table_fault) d

unfoldable pub change_of : Data → ChangeDraft
change_of d = record {
  name = text_of (part (codes "name") d);
  event = text_of (part (codes "event") d);
  table = map table_of (list_of (part (codes "table") d));
}

-- ---- an item of `do`

abbrev pub same_test : Bool → Bool → Bool
same_test a b = if a then b else not b

-- exactly one of `event` and `change`
abbrev pub cause_count_fault : List ℕ → Data → Option WalkFault
cause_count_fault list d =
    if same_test (is_some (get (codes "event") d)) (is_some (get (codes "change") d)) then Some (WrongForm list) else None

abbrev pub cause_fault : Data → Option WalkFault
cause_fault d = optional (codes "event") name_fault d then optional (codes "change") name_fault d

unfoldable pub do_fault : List ℕ → Data → Option WalkFault
do_fault list d =
    object_fault list (codes "tick" ∷ codes "node" ∷ codes "event" ∷ codes "change" ∷ codes "args" ∷ []) d
    then cause_count_fault list d
    then required (codes "tick") (number_from_fault 1) d
    then required (codes "node") (number_from_fault 0) d
    then cause_fault d
    then optional (codes "args") (items_fault 0 12 is_number) d

abbrev pub cause_of : Data → CauseDraft
cause_of d = option_map_or (λ v. Event (text_of v)) (get (codes "event") d) (Change (text_of (part (codes "change") d)))

unfoldable pub do_of : Data → DoDraft
do_of d = record {
  tick = number_of (part (codes "tick") d);
  node = number_of (part (codes "node") d);
  cause = cause_of d;
  args = numbers_of (codes "args") d;
}

-- ---- losses and crashes

unfoldable pub loss_fault : List ℕ → Data → Option WalkFault
loss_fault list d =
    object_fault list (codes "from" ∷ codes "to" ∷ codes "first" ∷ codes "last" ∷ []) d
    then required (codes "from") (number_from_fault 0) d
    then required (codes "to") (number_from_fault 0) d
    then required (codes "first") (number_from_fault 0) d
    then required (codes "last") (number_from_fault 0) d

unfoldable pub loss_of : Data → LossDraft
loss_of d = record {
  from = number_of (part (codes "from") d);
  to = number_of (part (codes "to") d);
  first = number_of (part (codes "first") d);
  last = number_of (part (codes "last") d);
}

unfoldable pub crash_fault : List ℕ → Data → Option WalkFault
crash_fault list d =
    object_fault list (codes "node" ∷ codes "tick" ∷ []) d
    then required (codes "node") (number_from_fault 0) d
    then required (codes "tick") (number_from_fault 0) d

unfoldable pub crash_of : Data → CrashDraft
crash_of d = record { node = number_of (part (codes "node") d); tick = number_of (part (codes "tick") d) }

-- ---- the whole

abbrev pub script_keys : List (List ℕ)
script_keys =
    codes "version" ∷ codes "nodes" ∷ codes "ticks" ∷ codes "micros" ∷ codes "decls" ∷ codes "events" ∷ codes "changes" ∷ codes "do" ∷ codes "lose" ∷ codes "crash" ∷ []

abbrev pub is_version : Data → Bool
is_version d = is_number d && (number_of d == 1)

unfoldable pub form_of_all : Data → Option WalkFault
form_of_all d =
    object_fault (codes "script") script_keys d
    then required (codes "version") (form_test is_version) d
    then required (codes "nodes") (number_fault 1 8) d
    then required (codes "ticks") (number_fault 1 10000) d
    then required (codes "micros") (list_fault 1 24 micro_fault) d
    then required (codes "decls") (list_fault 1 64 decl_fault) d
    then required (codes "events") (list_fault 1 64 event_fault) d
    then optional (codes "changes") (list_fault 0 16 change_fault) d
    then optional (codes "do") (list_fault 0 8192 do_fault) d
    then optional (codes "lose") (list_fault 0 256 loss_fault) d
    then optional (codes "crash") (list_fault 0 8 crash_fault) d

unfoldable pub draft_of : Data → Draft
draft_of d = record {
  nodes = number_of (part (codes "nodes") d);
  ticks = number_of (part (codes "ticks") d);
  micros = map micro_of (list_of (part (codes "micros") d));
  decls = map decl_of (list_of (part (codes "decls") d));
  events = map event_of (list_of (part (codes "events") d));
  changes = map change_of (list_of (part (codes "changes") d));
  does = map do_of (list_of (part (codes "do") d));
  losses = map loss_of (list_of (part (codes "lose") d));
  crashes = map crash_of (list_of (part (codes "crash") d));
}
