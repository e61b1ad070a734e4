-- The script of a draft that passes is in range.
use Rattle.std.proofs.Common.{◌≡◌, ℕ, ◌≤◌, ◌<◌, List, length, get_or, map, codes, None, sym, subst, arith}
use Rattle.std.proofs.lemmas.List.{length-map}
use Rattle.std.proofs.lemmas.List.Elements.{All-map}
use Rattle.samoa_model.specs.declared.script.TableDef.{TableDef}
use Rattle.samoa_model.specs.declared.script.Script.{Script}
use Rattle.samoa_model.specs.Range.{IsBindable, IsEventOf, IsChangeOf, IsCauseOf, IsMicroInRange, IsEventInRange, IsChangeInRange, IsDoInRange, HasBudget, IsInRange}
use Rattle.samoa_grammar.specs.declared.draft.MicroDraft.{MicroDraft}
use Rattle.samoa_grammar.specs.declared.draft.DeclDraft.{DeclDraft}
use Rattle.samoa_grammar.specs.declared.draft.EventDraft.{EventDraft}
use Rattle.samoa_grammar.specs.declared.draft.TableDraft.{TableDraft}
use Rattle.samoa_grammar.specs.declared.draft.ChangeDraft.{ChangeDraft}
use Rattle.samoa_grammar.specs.declared.draft.CauseDraft.{CauseDraft}
use Rattle.samoa_grammar.specs.declared.draft.CauseDraft.TheVariants.{Event, Change}
use Rattle.samoa_grammar.specs.declared.draft.DoDraft.{DoDraft}
use Rattle.samoa_grammar.specs.declared.draft.Draft.{Draft}
use Rattle.samoa_grammar.specs.Walks.{first_along}
use Rattle.samoa_grammar.specs.Meaning.{number_in_names, event_named, change_named, handler_of, micro_meant, decl_meant, event_meant, table_meant, change_meant, cause_meant, do_meant, loss_meant, crash_meant, script_of}
use Rattle.samoa_grammar.specs.Passes.{among, decl_names, event_names, change_names, handler_unknown, micro_unknown, event_unknown, table_unknown, change_unknown, cause_unknown, ports_fault, node_fault, tick_fault, twice_fault, unknown_fault, totals_fault}
use Rattle.samoa_form.specs.Limits.{HasMicroLimits, HasDeclLimits, HasEventLimits, HasTableLimits, HasChangeLimits, HasDoLimits, HasLimits}
use Rattle.samoa_grammar.proofs.Chains.{then_none}
use Rattle.samoa_naming.proofs.Passed.{along_all, micros_defined, events_defined, changes_defined, causes_defined, ports_there, does_inside, ticks_inside}
use Rattle.samoa_naming.proofs.Sizes.{node_below, tick_upto}
use Rattle.samoa_naming.proofs.Numbers.{number_below}
use Rattle.samoa_naming.proofs.Decls.{micros_known, indexes_known, decls_in}
use Rattle.samoa_naming.proofs.Sound.{ports_in, positions_there, losses_of, crashes_of}

event_in : (x : Draft) (name : List ℕ) → among (event_names x) name ≡ None → IsEventOf (script_of x) (event_named x name)
unfolding script_of
event_in x name h =
    let below : (event_named x name).0 < length (event_names x) = number_below (event_names x) name h in
    let here = length-map x.events (λ (e : EventDraft). e.name) in
    let there = length-map x.events (event_meant x) in
    omega arith

change_in : (x : Draft) (name : List ℕ) → among (change_names x) name ≡ None → IsChangeOf (script_of x) (change_named x name)
unfolding script_of
change_in x name h =
    let below : (change_named x name).0 < length (change_names x) = number_below (change_names x) name h in
    let here = length-map x.changes (λ (c : ChangeDraft). c.name) in
    let there = length-map x.changes (change_meant x) in
    omega arith

cause_in : (x : Draft) (cause : CauseDraft) → cause_unknown x cause ≡ None → IsCauseOf (script_of x) (cause_meant x cause)
cause_in x (Event name) h = event_in x name h
cause_in x (Change name) h = change_in x name h

bindable : (x : Draft) (names : List (List ℕ)) → length names ≤ 4 → first_along (handler_unknown x.micros) names ≡ None → IsBindable (script_of x) (map (handler_of x.micros) names)
bindable x names few h =
    let known = along_all (handler_unknown x.micros) names h in
    record { few = subst (λ n. n ≤ 4) (sym (length-map names (handler_of x.micros))) few; known = micros_known x names known; there = indexes_known x names known }

micro_in_range : (x : Draft) (m : MicroDraft) → HasMicroLimits m → micro_unknown x m ≡ None → ports_fault m ≡ None → IsMicroInRange (script_of x) (micro_meant x m)
unfolding micro_meant
micro_in_range x m limits h enough =
    let parts = then_none (first_along (among (event_names x)) m.ports) (first_along (among (change_names x)) m.changes) h in
    let ports = along_all (among (event_names x)) m.ports parts.0 in
    let changes = along_all (among (change_names x)) m.changes parts.1 in
    record {
      few_nums = limits.nums;
      enough_ports = ports_in x m enough;
      few_ports = rw length-map limits.ports;
      ports = All-map (IsEventOf (script_of x)) (event_named x) m.ports (λ k d below. event_in x (get_or m.ports k d) (ports k d below));
      few_changes = rw length-map limits.changes;
      changes = All-map (IsChangeOf (script_of x)) (change_named x) m.changes (λ k d below. change_in x (get_or m.changes k d) (changes k d below));
      handlers = limits.handlers;
      codes = limits.codes;
    }

decl_in : (x : Draft) (name : List ℕ) → among (decl_names x) name ≡ None → number_in_names (decl_names x) name < length (script_of x).decls
unfolding script_of
decl_in x name h =
    let below = number_below (decl_names x) name h in
    let here = length-map x.decls (λ (d : DeclDraft). d.name) in
    let there = length-map x.decls (decl_meant x) in
    omega arith

event_in_range : (x : Draft) (e : EventDraft) → HasEventLimits e → event_unknown x e ≡ None → IsEventInRange (script_of x) (event_meant x e)
unfolding event_meant
event_in_range x e limits h =
    let parts = then_none (among (decl_names x) e.decl) (first_along (handler_unknown x.micros) e.handlers) h in
    record { decl = decl_in x e.decl parts.0; handlers = bindable x e.handlers limits.handlers parts.1 }

row_parts : (x : Draft) (t : TableDraft) → HasTableLimits t → table_unknown x t ≡ None → IsEventOf (script_of x) (table_meant x t).event × IsBindable (script_of x) (table_meant x t).handlers
unfolding table_meant
row_parts x t few h =
    let parts = then_none (among (event_names x) t.event) (first_along (handler_unknown x.micros) t.handlers) h in
    (event_in x t.event parts.0, bindable x t.handlers few.handlers parts.1)

change_in_range : (x : Draft) (c : ChangeDraft) → HasChangeLimits c → change_unknown x c ≡ None → IsChangeInRange (script_of x) (change_meant x c)
unfolding change_meant
change_in_range x c limits h =
    let parts = then_none (among (event_names x) c.event) (first_along (table_unknown x) c.table) h in
    let rows = along_all (table_unknown x) c.table parts.1 in
    record {
      event = event_in x c.event parts.0;
      some_row = rw length-map limits.some_row;
      few_rows = rw length-map limits.table;
      events = All-map (λ (t : TableDef). IsEventOf (script_of x) t.event) (table_meant x) c.table (λ k d below. (row_parts x (get_or c.table k d) (limits.rows k d below) (rows k d below)).0);
      handlers = All-map (λ (t : TableDef). IsBindable (script_of x) t.handlers) (table_meant x) c.table (λ k d below. (row_parts x (get_or c.table k d) (limits.rows k d below) (rows k d below)).1);
    }

do_in_range : (x : Draft) (item : DoDraft) → HasDoLimits item → tick_fault x.ticks item ≡ None → node_fault x.nodes (codes "node") item.node ≡ None → cause_unknown x item.cause ≡ None
    → IsDoInRange (script_of x) (do_meant x item)
unfolding do_meant script_of
do_in_range x item limits last node cause =
    record { first = limits.tick; args = limits.args; last = tick_upto x.ticks item last; node = node_below x.nodes (codes "node") item.node node; cause = cause_in x item.cause cause }

decl_budget : (x : Draft) (d : DeclDraft) → HasDeclLimits d → HasBudget (decl_meant x d)
unfolding decl_meant
decl_budget x d limits = (limits.least_budget, limits.budget)

pub script_in_range : (x : Draft) → HasLimits x → twice_fault x ≡ None → unknown_fault x ≡ None → totals_fault x ≡ None → IsInRange (script_of x)
unfolding script_of
script_in_range x limits apart known totals =
    let s : Script = script_of x in
    record {
      some_node = limits.some_node;
      few_nodes = limits.few_nodes;
      some_tick = limits.some_tick;
      few_ticks = limits.few_ticks;
      some_micro = subst (λ n. 1 ≤ n) (sym (length-map x.micros (micro_meant x))) limits.some_micro;
      few_micros = subst (λ n. n ≤ 24) (sym (length-map x.micros (micro_meant x))) limits.few_micros;
      micros = All-map (IsMicroInRange s) (micro_meant x) x.micros (λ k d below. micro_in_range x (get_or x.micros k d) (limits.micros k d below) (micros_defined x known k d below) (ports_there x totals k d below));
      positions = positions_there x totals;
      some_decl = subst (λ n. 1 ≤ n) (sym (length-map x.decls (decl_meant x))) limits.some_decl;
      few_decls = subst (λ n. n ≤ 64) (sym (length-map x.decls (decl_meant x))) limits.few_decls;
      decls = decls_in x limits apart known totals;
      budgets = All-map HasBudget (decl_meant x) x.decls (λ k d below. decl_budget x (get_or x.decls k d) (limits.decls k d below));
      some_event = subst (λ n. 1 ≤ n) (sym (length-map x.events (event_meant x))) limits.some_event;
      few_events = subst (λ n. n ≤ 64) (sym (length-map x.events (event_meant x))) limits.few_events;
      events = All-map (IsEventInRange s) (event_meant x) x.events (λ k d below. event_in_range x (get_or x.events k d) (limits.events k d below) (events_defined x known k d below));
      few_changes = subst (λ n. n ≤ 16) (sym (length-map x.changes (change_meant x))) limits.few_changes;
      changes = All-map (IsChangeInRange s) (change_meant x) x.changes (λ k d below. change_in_range x (get_or x.changes k d) (limits.changes k d below) (changes_defined x known k d below));
      few_does = subst (λ n. n ≤ 8192) (sym (length-map x.does (do_meant x))) limits.few_does;
      does = All-map (IsDoInRange s) (do_meant x) x.does (λ k d below. do_in_range x (get_or x.does k d) (limits.does k d below) (ticks_inside x totals k d below) (does_inside x totals k d below) (causes_defined x known k d below));
      few_losses = subst (λ n. n ≤ 256) (sym (length-map x.losses loss_meant)) limits.few_losses;
      losses = losses_of x totals;
      few_crashes = subst (λ n. n ≤ 8) (sym (length-map x.crashes crash_meant)) limits.few_crashes;
      crashes = crashes_of x totals;
    }
