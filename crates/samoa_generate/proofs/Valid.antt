-- The generated script is valid, and a script of the group stack.
use Rattle.std.proofs.Common.{◌≡◌, ◌≤◌, ℕ, List, refl, arith}
use Rattle.std.proofs.lemmas.List.Elements.{All-from_recursion, All-nil}
use Rattle.samoa_model.specs.declared.script.ChangeDef.{ChangeDef}
use Rattle.samoa_model.specs.declared.script.CrashDef.{CrashDef}
use Rattle.samoa_model.specs.declared.script.DeclDef.{DeclDef}
use Rattle.samoa_model.specs.declared.script.DoDef.{DoDef}
use Rattle.samoa_model.specs.declared.script.EventDef.{EventDef}
use Rattle.samoa_model.specs.declared.script.LossDef.{LossDef}
use Rattle.samoa_model.specs.declared.script.MicroDef.{MicroDef}
use Rattle.samoa_model.specs.declared.script.Script.{Script}
use Rattle.samoa_model.specs.Range.{HasBudget, IsCrashInRange, IsInRange, IsLossInRange}
use Rattle.samoa_model.specs.Valid.{IsDeclValid, IsValid}
use Rattle.samoa_laws.specs.trace.Group.{IsGroup, group_decls}
use Rattle.samoa_generate.specs.Generated.{generated_script}
use Rattle.samoa_generate.proofs.Casts.{casts_are_free, casts_in_range, few_casts}
use Rattle.samoa_generate.proofs.Parts.{change_names, changes_in_range, changes_valid, decl_names, decls_in_range, event_names, events_apart, events_in_range, few_of_each, micro_names, micros_in_range, micros_valid, no_positions}

in_range : (n : ℕ) → n ≤ 600 → IsInRange (generated_script n)
in_range n most = record {
  some_node = omega arith;
  few_nodes = omega arith;
  some_tick = omega arith;
  few_ticks = omega arith;
  some_micro = omega arith;
  few_micros = omega arith;
  micros = micros_in_range n;
  positions = no_positions n;
  some_decl = omega arith;
  few_decls = omega arith;
  decls = decls_in_range n;
  budgets = All-from_recursion HasBudget group_decls ((omega arith, omega arith), tt);
  some_event = omega arith;
  few_events = omega arith;
  events = events_in_range n;
  few_changes = omega arith;
  changes = changes_in_range n;
  few_does = few_casts n most;
  does = casts_in_range n most;
  few_losses = omega arith;
  losses = All-nil (IsLossInRange (generated_script n));
  few_crashes = omega arith;
  crashes = All-nil (IsCrashInRange (generated_script n));
}

pub generated_valid : (n : ℕ) → n ≤ 600 → IsValid (generated_script n)
generated_valid n most = record {
  in_range = in_range n most;
  few_of_each = few_of_each n;
  micro_names = micro_names;
  decl_names = decl_names;
  event_names = event_names;
  change_names = change_names;
  micros = micros_valid;
  decls = All-from_recursion (λ (d : DeclDef). IsDeclValid d.decl) group_decls (tt, tt);
  events = events_apart;
  changes = changes_valid;
}

pub generated_group : (n : ℕ) → IsGroup (generated_script n)
generated_group n = record { micros = refl; decls = refl; events = refl; changes = refl; does = casts_are_free n }

abbrev eight_nodes : ℕ → List MicroDef → List DeclDef → List EventDef → List ChangeDef → List DoDef → List LossDef → List CrashDef → Script
eight_nodes ticks micros decls events changes does losses crashes = record {
  nodes = 8;
  ticks = ticks;
  micros = micros;
  decls = decls;
  events = events;
  changes = changes;
  does = does;
  losses = losses;
  crashes = crashes;
}

-- scripts of equal parts are equal
pub same_parts : (ticks : ℕ) (micros micros2 : List MicroDef) (decls decls2 : List DeclDef) (events events2 : List EventDef) (changes changes2 : List ChangeDef)
    (does does2 : List DoDef) (losses losses2 : List LossDef) (crashes crashes2 : List CrashDef) → micros ≡ micros2 → decls ≡ decls2 → events ≡ events2
    → changes ≡ changes2 → does ≡ does2 → losses ≡ losses2 → crashes ≡ crashes2
    → eight_nodes ticks micros decls events changes does losses crashes ≡ eight_nodes ticks micros2 decls2 events2 changes2 does2 losses2 crashes2
same_parts ticks micros micros2 decls decls2 events events2 changes changes2 does does2 losses losses2 crashes crashes2 a b c d e f g = cc
