-- A valid script with its names again has the form of a draft.
use Rattle.std.proofs.Common.{◌≡◌, ℕ, ◌<◌, ◌≤◌, true, List, [], ◌∷◌, length, map, get_or, refl, sym, subst, arith}
use Rattle.std.specs.Prelude.{◌&&◌}
use Rattle.std.specs.List.{AllByRecursion, All}
use Rattle.std.proofs.lemmas.Bool.{and_from}
use Rattle.std.proofs.lemmas.Bool.Decides.{nat_tests}
use Rattle.std.proofs.lemmas.List.{length-map, get_or-map}
use Rattle.std.proofs.lemmas.List.Elements.{All-head, All-tail, All-get_or}
use Rattle.samoa_model.specs.NameRule.{IsScriptName}
use Rattle.samoa_model.specs.Allowed.{no_handler}
use Rattle.samoa_model.specs.Handlers.{handler_text, IsHandlerOf}
use Rattle.samoa_model.specs.Range.{IsPlace, IsInstr, IsCode, HasPosition, HasHandlers, IsBindable, IsEventOf, IsCauseOf, IsMicroInRange, IsEventInRange, IsChangeInRange, IsDoInRange, IsRouteOf, IsDeclOf, HasBudget}
use Rattle.samoa_model.specs.Valid.{IsMicroValid, IsValid}
use Rattle.samoa_model.specs.declared.ids.HandlerId.{HandlerId}
use Rattle.samoa_model.specs.declared.setup.Kind.{Kind}
use Rattle.samoa_model.specs.declared.setup.Kind.TheVariants.{Prog, Link, Fd, Rbcast, Cons, Abcast, Seqcast, Repl, Views}
use Rattle.samoa_model.specs.declared.setup.Place.{Place}
use Rattle.samoa_model.specs.declared.setup.Place.TheVariants.{Reg, Local}
use Rattle.samoa_model.specs.declared.setup.Instr.{Instr}
use Rattle.samoa_model.specs.declared.setup.Instr.TheVariants as instr
use Rattle.samoa_model.specs.declared.record.Cause.{Cause}
use Rattle.samoa_model.specs.declared.record.Cause.TheVariants as causes
use Rattle.samoa_model.specs.declared.script.CodeDef.{CodeDef}
use Rattle.samoa_model.specs.declared.script.MicroDef.{MicroDef}
use Rattle.samoa_model.specs.declared.script.Decl.{Decl}
use Rattle.samoa_model.specs.declared.script.DeclDef.{DeclDef}
use Rattle.samoa_model.specs.declared.script.EventDef.{EventDef}
use Rattle.samoa_model.specs.declared.script.TableDef.{TableDef}
use Rattle.samoa_model.specs.declared.script.ChangeDef.{ChangeDef}
use Rattle.samoa_model.specs.declared.script.DoDef.{DoDef}
use Rattle.samoa_model.specs.declared.script.Script.{Script}
use Rattle.samoa_grammar.specs.Forms.{is_prog}
use Rattle.samoa_print.proofs.Instrs.{is_place, is_count, is_skip, is_position, IsProper}
use Rattle.samoa_print.specs.Texts.{micro_text, event_text, change_text}
use Rattle.samoa_print.proofs.Back.{handlers_back, micro_back, bound_back, vertex_text, edge_back, body_back, decl_back, event_back, table_back, change_back, cause_back, do_back, loss_back, crash_back, draft_back}
use Rattle.samoa_print.proofs.Parts.{map_each, IsNamed, IsHandlerNamed}
use Rattle.samoa_print.proofs.Forms.{AreListed, AreHandlers, AreAll, CodeForm, HandlersForm, MicroForm, BoundForm, EdgeForm, BodyForm, DeclForm, EventForm, TableForm, ChangeForm, CauseForm, DoForm, DraftForm}
use Rattle.samoa_print.proofs.Named.{IsHandlerText, micro_kept, decl_kept, event_kept, change_kept, handler_kept}

pub each_from : {X : Type 0} (P : X → Type 0) (xs : List X) → All P xs → AllByRecursion P xs
each_from P [] all = tt
each_from P (x ∷ xs) all = (All-head P x xs all, each_from P xs (All-tail P x xs all))

pub unmapped : {X Y : Type 0} (P : Y → Type 0) (f : X → Y) (xs : List X) → All P (map f xs) → All (λ x. P (f x)) xs
unmapped P f xs all k d below = subst P (get_or-map f xs k d (f d) below) (all k (f d) (subst (λ n. k < n) (sym (length-map xs f)) below))

-- ---- lists of texts

listed : {X : Type 0} (text : X → List ℕ) (least most : ℕ) (xs : List X) → All (λ x. IsNamed (text x)) xs → least ≤ length xs → length xs ≤ most → AreListed least most (map text xs)
listed text least most xs named some few = record {
  each = map_each IsNamed text xs (each_from (λ x. IsNamed (text x)) xs named);
  some = rw length-map some;
  few = rw length-map few;
}

handlers_listed : {X : Type 0} (text : X → List ℕ) (most : ℕ) (xs : List X) → All (λ x. IsHandlerNamed (text x)) xs → length xs ≤ most → AreHandlers most (map text xs)
handlers_listed text most xs named few = record {
  each = map_each IsHandlerNamed text xs (each_from (λ x. IsHandlerNamed (text x)) xs named);
  few = rw length-map few;
}

all_listed : {X Y : Type 0} (P : Y → Type 0) (back : X → Y) (least most : ℕ) (xs : List X) → All (λ x. P (back x)) xs → least ≤ length xs → length xs ≤ most → AreAll least most P (map back xs)
all_listed P back least most xs formed some few = record {
  each = map_each P back xs (each_from (λ x. P (back x)) xs formed);
  some = rw length-map some;
  few = rw length-map few;
}

-- ---- instructions

place_test : (p : Place) → IsPlace p → is_place p ≡ true
place_test (Reg n) h = grind (arith, nat_tests)
place_test (Local n) h = grind (arith, nat_tests)

count_test : (k : ℕ) → k ≤ 4 → is_count k ≡ true
count_test k h = grind (arith, nat_tests)

skip_test : (j : ℕ) → 1 ≤ j → j ≤ 31 → is_skip j ≡ true
skip_test j some few = grind (arith, nat_tests)

position_test : (n most : ℕ) → n < most → most ≤ 16 → is_position n ≡ true
position_test n most below few = grind (arith, nat_tests)

positioned : (n k most : ℕ) → n < most → most ≤ 16 → k ≤ 4 → (is_position n && is_count k) ≡ true
positioned n k most below few count = and_from (is_position n) (is_count k) (position_test n most below few) (count_test k count)

two_places : (d s : Place) → IsPlace d → IsPlace s → (is_place d && is_place s) ≡ true
two_places d s p q = and_from (is_place d) (is_place s) (place_test d p) (place_test s q)

proper : (m : MicroDef) (i : Instr) → length m.ports ≤ 16 → length m.changes ≤ 16 → IsInstr i → HasPosition m i → IsProper i
proper m (instr.Set d n) ports changes own at = place_test d own
proper m (instr.Copy d s) ports changes own at = two_places d s own.0 own.1
proper m (instr.Add d s) ports changes own at = two_places d s own.0 own.1
proper m (instr.Sub d s) ports changes own at = two_places d s own.0 own.1
proper m (instr.Less s t j) ports changes own at =
    and_from (is_place s) (is_place t && is_skip j) (place_test s own.0) (and_from (is_place t) (is_skip j) (place_test t own.1) (skip_test j own.2 own.3))
proper m (instr.Call port k) ports changes own at = positioned port k (length m.ports) at ports own
proper m (instr.Later port k) ports changes own at = positioned port k (length m.ports) at ports own
proper m (instr.Send s port k) ports changes own at =
    and_from (is_place s) (is_position port && is_count k) (place_test s own.0) (positioned port k (length m.ports) at ports own.1)
proper m (instr.Deliver k) ports changes own at = count_test k own
proper m (instr.Change c k) ports changes own at = positioned c k (length m.changes) at changes own
proper m (instr.Done k) ports changes own at = count_test k own

-- ---- microprotocols

code_form : (m : MicroDef) (c : CodeDef) → length m.ports ≤ 16 → length m.changes ≤ 16 → IsScriptName c.name → IsCode c → All (HasPosition m) c.code → CodeForm c
code_form m c ports changes name code at = record {
  name = name;
  code = each_from IsProper c.code (λ k d below. proper m (get_or c.code k d) ports changes (code.instrs k d below) (at k d below));
  few = code.few;
}

handlers_form : (kind : Kind) (cs : List CodeDef) → HasHandlers kind cs → length cs ≤ 16 → All CodeForm cs → HandlersForm (is_prog kind) (handlers_back (is_prog kind) cs)
handlers_form Prog cs own few formed = record { each = each_from CodeForm cs formed; some = own; few = few }
handlers_form Link cs own few formed = refl
handlers_form Fd cs own few formed = refl
handlers_form Rbcast cs own few formed = refl
handlers_form Cons cs own few formed = refl
handlers_form Abcast cs own few formed = refl
handlers_form Seqcast cs own few formed = refl
handlers_form Repl cs own few formed = refl
handlers_form Views cs own few formed = refl

module _ (s : Script) (v : IsValid s) where
  micro_form : (m : MicroDef) → IsMicroInRange s m → IsMicroValid m → IsScriptName m.name → All (λ (c : CodeDef). All (HasPosition m) c.code) m.handlers → MicroForm (micro_back s m)
  unfolding micro_back
  micro_form m range valid name at =
      let names = unmapped IsScriptName (λ (c : CodeDef). c.name) m.handlers valid.names.each in
      record {
        name = name;
        nums = range.few_nums;
        ports = listed (event_text s) 0 16 m.ports (λ k d below. (event_kept s v (get_or m.ports k d) (range.ports k d below)).formed) (omega arith) range.few_ports;
        changes = listed (change_text s) 0 16 m.changes (λ k d below. (change_kept s v (get_or m.changes k d) (range.changes k d below)).formed) (omega arith) range.few_changes;
        handlers = handlers_form m.kind m.handlers valid.own range.handlers
            (λ k d below. code_form m (get_or m.handlers k d) range.few_ports range.few_changes (names k d below) (range.codes k d below) (at k d below));
      }

  -- ---- declarations

  bound_form : (b : ℕ × ℕ) → b.0 < length s.micros → (1 ≤ b.1) × (b.1 ≤ 256) → BoundForm (bound_back s b)
  unfolding bound_back
  bound_form b known calls = record { micro = (micro_kept s v b.0 known).formed; calls = record { least_passes = calls.0; most_passes = calls.1 } }

  pub vertex_kept : (vs : List HandlerId) (roots : List ℕ) (edges : List (ℕ × ℕ)) → IsRouteOf s vs roots edges → (r : ℕ) → r < length vs → IsHandlerText (draft_back s).micros (vertex_text s vs r) (get_or vs r no_handler)
  vertex_kept vs roots edges route r below =
      handler_kept s v (get_or vs r no_handler) (All-get_or (λ (h : HandlerId). h.micro.0 < length s.micros) vs r no_handler below route.known) (All-get_or (IsHandlerOf s) vs r no_handler below route.there)

  edge_form : (vs : List HandlerId) (roots : List ℕ) (edges : List (ℕ × ℕ)) → IsRouteOf s vs roots edges → (e : ℕ × ℕ) → (e.0 < length vs) × (e.1 < length vs) → EdgeForm (edge_back s vs e)
  unfolding edge_back
  edge_form vs roots edges route e below = record { origin = (vertex_kept vs roots edges route e.0 below.0).formed; to = (vertex_kept vs roots edges route e.1 below.1).formed }

  body_form : (d : Decl) → IsDeclOf s d → BodyForm (body_back s d)
  body_form (Decl.Set micros) set = listed (micro_text s) 1 24 micros (λ k d below. (micro_kept s v (get_or micros k d) (set.known k d below)).formed) set.some set.few
  body_form (Decl.Bound bounds) set =
      let known = unmapped (λ p. p < length s.micros) (λ (b : ℕ × ℕ). b.0) bounds set.0.known in
      all_listed BoundForm (bound_back s) 1 24 bounds (λ k d below. bound_form (get_or bounds k d) (known k d below) (set.1 k d below))
      (rw (length-map bounds (λ (b : ℕ × ℕ). b.0)) at set.0.some) (rw (length-map bounds (λ (b : ℕ × ℕ). b.0)) at set.0.few)
  body_form (Decl.Route vertices roots edges) route = (
    handlers_listed (vertex_text s vertices) 32 roots (λ k d below. (vertex_kept vertices roots edges route (get_or roots k d) (route.first k d below)).formed) route.few_roots,
    all_listed EdgeForm (edge_back s vertices) 0 256 edges (λ k d below. edge_form vertices roots edges route (get_or edges k d) (route.ends k d below)) (omega arith) route.few_edges,
  )

  decl_form : (d : DeclDef) → IsScriptName d.name → HasBudget d → IsDeclOf s d.decl → DeclForm (decl_back s d)
  unfolding decl_back
  decl_form d name budget body = record { name = name; budget = record { least_passes = budget.0; most_passes = budget.1 }; body = body_form d.decl body }

  -- ---- events and changes

  pub handlers_known : (hs : List HandlerId) → IsBindable s hs → All (λ (h : HandlerId). IsHandlerText (draft_back s).micros (handler_text s h) h) hs
  handlers_known hs bindable k d below = handler_kept s v (get_or hs k d) (bindable.known k d below) (bindable.there k d below)

  bound_handlers : (hs : List HandlerId) → IsBindable s hs → AreHandlers 4 (map (handler_text s) hs)
  bound_handlers hs bindable = handlers_listed (handler_text s) 4 hs (λ k d below. (handlers_known hs bindable k d below).formed) bindable.few

  event_form : (e : EventDef) → IsScriptName e.name → IsEventInRange s e → EventForm (event_back s e)
  unfolding event_back
  event_form e name range = record { name = name; decl = (decl_kept s v e.decl range.decl).formed; handlers = bound_handlers e.handlers range.handlers }

  table_form : (t : TableDef) → IsEventOf s t.event → IsBindable s t.handlers → TableForm (table_back s t)
  unfolding table_back
  table_form t event handlers = record { event = (event_kept s v t.event event).formed; handlers = bound_handlers t.handlers handlers }

  change_form : (c : ChangeDef) → IsScriptName c.name → IsChangeInRange s c → ChangeForm (change_back s c)
  unfolding change_back
  change_form c name range = record {
    name = name;
    event = (event_kept s v c.event range.event).formed;
    table = all_listed TableForm (table_back s) 1 16 c.table (λ k d below. table_form (get_or c.table k d) (range.events k d below) (range.handlers k d below)) range.some_row range.few_rows;
  }

  -- ---- what happens to the stack

  cause_form : (cause : Cause) → IsCauseOf s cause → CauseForm (cause_back s cause)
  cause_form (causes.Event event) known = (event_kept s v event known).formed
  cause_form (causes.Change change) known = (change_kept s v change known).formed

  do_form : (item : DoDef) → IsDoInRange s item → DoForm (do_back s item)
  unfolding do_back
  do_form item range = record { tick = range.first; cause = cause_form item.cause range.cause; args = range.args }

  -- ---- the whole

  pub draft_form : DraftForm (draft_back s)
  unfolding draft_back
  draft_form =
      let range = v.in_range in
      let micro_names = unmapped IsScriptName (λ (m : MicroDef). m.name) s.micros v.micro_names.each in
      let decl_names = unmapped IsScriptName (λ (d : DeclDef). d.name) s.decls v.decl_names.each in
      let event_names = unmapped IsScriptName (λ (e : EventDef). e.name) s.events v.event_names.each in
      let change_names = unmapped IsScriptName (λ (c : ChangeDef). c.name) s.changes v.change_names.each in
      record {
        nodes = record { least_passes = range.some_node; most_passes = range.few_nodes };
        ticks = record { least_passes = range.some_tick; most_passes = range.few_ticks };
        micros = all_listed MicroForm (micro_back s) 1 24 s.micros
            (λ k d below. micro_form (get_or s.micros k d) (range.micros k d below) (v.micros k d below) (micro_names k d below) (range.positions k d below)) range.some_micro range.few_micros;
        decls = all_listed DeclForm (decl_back s) 1 64 s.decls
            (λ k d below. decl_form (get_or s.decls k d) (decl_names k d below) (range.budgets k d below) (range.decls k d below)) range.some_decl range.few_decls;
        events = all_listed EventForm (event_back s) 1 64 s.events (λ k d below. event_form (get_or s.events k d) (event_names k d below) (range.events k d below)) range.some_event range.few_events;
        changes = all_listed ChangeForm (change_back s) 0 16 s.changes (λ k d below. change_form (get_or s.changes k d) (change_names k d below) (range.changes k d below)) (omega arith) range.few_changes;
        does = all_listed DoForm (do_back s) 0 8192 s.does (λ k d below. do_form (get_or s.does k d) (range.does k d below)) (omega arith) range.few_does;
        losses = rw (length-map s.losses loss_back) range.few_losses;
        crashes = rw (length-map s.crashes crash_back) range.few_crashes;
      }
