-- The fixed parts of the group stack are in range, and their names are names.
use Rattle.std.proofs.Common.{◌≡◌, ◌<◌, ℕ, Bool, true, List, [], ◌∷◌, map, length, eqb, eq-eqb, refl, subst, arith}
use Rattle.std.specs.Prelude.{◌&&◌, nat_eq, nat_le, nat_lt}
use Rattle.std.specs.List.{All, list_all}
use Rattle.std.proofs.lemmas.List.{length-map}
use Rattle.std.proofs.lemmas.List.Elements.{All-from_recursion}
use Rattle.samoa_model.specs.declared.ids.ChangeId.{ChangeId}
use Rattle.samoa_model.specs.declared.ids.EventId.{EventId}
use Rattle.samoa_model.specs.declared.ids.HandlerId.{HandlerId}
use Rattle.samoa_model.specs.declared.setup.Kind.TheVariants.{Prog, Link, Fd, Rbcast, Cons, Abcast, Seqcast, Repl, Views}
use Rattle.samoa_model.specs.declared.script.ChangeDef.{ChangeDef}
use Rattle.samoa_model.specs.declared.script.CodeDef.{CodeDef}
use Rattle.samoa_model.specs.declared.script.DeclDef.{DeclDef}
use Rattle.samoa_model.specs.declared.script.EventDef.{EventDef}
use Rattle.samoa_model.specs.declared.script.MicroDef.{MicroDef}
use Rattle.samoa_model.specs.declared.script.Script.{Script}
use Rattle.samoa_model.specs.declared.script.TableDef.{TableDef}
use Rattle.samoa_model.specs.Allowed.{same_handler}
use Rattle.samoa_model.specs.Handlers.{IsHandlerOf, names_of_handlers}
use Rattle.samoa_model.specs.Scripts.{micro_at}
use Rattle.samoa_model.specs.Range.{HasDecls, HasPosition, HasPositions, IsBindable, IsChangeInRange, IsDeclOf, IsEventInRange, IsEventOf, IsMicroInRange, IsSetOf, ports_needed}
use Rattle.samoa_model.specs.Valid.{AreApart, AreNames, HasFewOfEach, IsChangeValid, IsMicroValid}
use Rattle.samoa_laws.specs.trace.Group.{group_changes, group_decls, group_events, group_micros}
use Rattle.samoa_generate.specs.Generated.{generated_script}
use Rattle.samoa_generate.proofs.Listing.{alone, apart, below, both, names, once, pass}

-- ---- names
pub micro_names : AreNames (map (λ (m : MicroDef). m.name) group_micros)
micro_names = names (map (λ (m : MicroDef). m.name) group_micros) refl refl

pub decl_names : AreNames (map (λ (d : DeclDef). d.name) group_decls)
decl_names = names (map (λ (d : DeclDef). d.name) group_decls) refl refl

pub event_names : AreNames (map (λ (e : EventDef). e.name) group_events)
event_names = names (map (λ (e : EventDef). e.name) group_events) refl refl

pub change_names : AreNames (map (λ (c : ChangeDef). c.name) group_changes)
change_names = names (map (λ (c : ChangeDef). c.name) group_changes) refl refl

no_names : AreNames []
no_names = names [] refl refl

-- ---- lists of handlers
module _ (n : ℕ) where
  abbrev s : Script
  s = generated_script n

  -- the microprotocol is there, and has the handler
  abbrev is_there : HandlerId → Bool
  is_there h = nat_lt h.micro.0 8 && nat_lt h.index (length (names_of_handlers (micro_at s h.micro.0)))

  abbrev can_bind : List HandlerId → Bool
  can_bind hs = nat_le (length hs) 4 && list_all is_there hs

  bindable : (hs : List HandlerId) → can_bind hs ≡ true → IsBindable s hs
  bindable hs e =
      let parts = both (nat_le (length hs) 4) (list_all is_there hs) e in
      record {
        few = grind (arith, parts.0);
        known = pass is_there (λ (h : HandlerId). h.micro.0 < 8) (λ h t. grind (arith, (both (nat_lt h.micro.0 8) (nat_lt h.index (length (names_of_handlers (micro_at s h.micro.0)))) t).0)) hs parts.1;
        there = pass is_there (IsHandlerOf s) (λ h t. grind (arith, (both (nat_lt h.micro.0 8) (nat_lt h.index (length (names_of_handlers (micro_at s h.micro.0)))) t).1)) hs parts.1;
      }

  -- ---- microprotocols
  abbrev fits : MicroDef → Bool
  fits m =
      (nat_le (length m.nums) 12 && (nat_le (ports_needed m.kind) (length m.ports) && (nat_le (length m.ports) 16 && (nat_le (length m.changes) 16 && nat_eq (length m.handlers) 0))))
      && (list_all (λ (e : EventId). nat_lt e.0 19) m.ports && list_all (λ (c : ChangeId). nat_lt c.0 2) m.changes)

  fitting : (m : MicroDef) → fits m ≡ true → IsMicroInRange s m
  fitting m e =
      let parts = both (nat_le (length m.nums) 12 && (nat_le (ports_needed m.kind) (length m.ports) && (nat_le (length m.ports) 16 && (nat_le (length m.changes) 16 && nat_eq (length m.handlers) 0))))
      (list_all (λ (e : EventId). nat_lt e.0 19) m.ports && list_all (λ (c : ChangeId). nat_lt c.0 2) m.changes) e in
      let lists = both (list_all (λ (e : EventId). nat_lt e.0 19) m.ports) (list_all (λ (c : ChangeId). nat_lt c.0 2) m.changes) parts.1 in
      let a = both (nat_le (length m.nums) 12) (nat_le (ports_needed m.kind) (length m.ports) && (nat_le (length m.ports) 16 && (nat_le (length m.changes) 16 && nat_eq (length m.handlers) 0))) parts.0 in
      let b = both (nat_le (ports_needed m.kind) (length m.ports)) (nat_le (length m.ports) 16 && (nat_le (length m.changes) 16 && nat_eq (length m.handlers) 0)) a.1 in
      let c = both (nat_le (length m.ports) 16) (nat_le (length m.changes) 16 && nat_eq (length m.handlers) 0) b.1 in
      let d = both (nat_le (length m.changes) 16) (nat_eq (length m.handlers) 0) c.1 in
      let none : length m.handlers ≡ 0 = grind (arith, d.1) in
      record {
        few_nums = grind (arith, a.0);
        enough_ports = grind (arith, b.0);
        few_ports = grind (arith, c.0);
        ports = below (λ (e : EventId). e.0) 19 m.ports lists.0;
        few_changes = grind (arith, d.0);
        changes = below (λ (c : ChangeId). c.0) 2 m.changes lists.1;
        handlers = omega arith;
        codes = λ k d there. absurd (omega arith);
      }

  pub micros_in_range : All (IsMicroInRange s) group_micros
  micros_in_range = pass fits (IsMicroInRange s) fitting group_micros refl

  pub no_positions : HasPositions s
  no_positions = pass (λ (m : MicroDef). nat_eq (length m.handlers) 0) (λ (m : MicroDef). All (λ (code : CodeDef). All (HasPosition m) code.code) m.handlers) none group_micros refl
    where
      none : (m : MicroDef) → nat_eq (length m.handlers) 0 ≡ true → All (λ (code : CodeDef). All (HasPosition m) code.code) m.handlers
      none m e = let empty : length m.handlers ≡ 0 = grind (arith, e) in λ k d there. absurd (omega arith)

  pub few_of_each : HasFewOfEach s
  few_of_each Prog = omega arith
  few_of_each Link = omega arith
  few_of_each Fd = omega arith
  few_of_each Rbcast = omega arith
  few_of_each Cons = omega arith
  few_of_each Abcast = omega arith
  few_of_each Seqcast = omega arith
  few_of_each Repl = omega arith
  few_of_each Views = omega arith

  -- ---- the declaration
  pub decls_in_range : HasDecls s
  decls_in_range = All-from_recursion (λ (d : DeclDef). IsDeclOf s d.decl) group_decls (all_micros, tt)
    where
      all_micros : IsSetOf s (0 ∷ 1 ∷ 2 ∷ 3 ∷ 4 ∷ 5 ∷ 6 ∷ 7 ∷ [])
      all_micros = record {
        some = omega arith;
        few = omega arith;
        known = below (λ (p : ℕ). p) 8 (0 ∷ 1 ∷ 2 ∷ 3 ∷ 4 ∷ 5 ∷ 6 ∷ 7 ∷ []) refl;
        apart = apart eqb eq-eqb (0 ∷ 1 ∷ 2 ∷ 3 ∷ 4 ∷ 5 ∷ 6 ∷ 7 ∷ []) refl;
      }

  -- ---- events
  abbrev is_event : EventDef → Bool
  is_event e = nat_eq e.decl 0 && can_bind e.handlers

  pub events_in_range : All (IsEventInRange s) group_events
  events_in_range = pass is_event (IsEventInRange s) in_range group_events refl
    where
      in_range : (e : EventDef) → is_event e ≡ true → IsEventInRange s e
      in_range e t =
          let parts = both (nat_eq e.decl 0) (can_bind e.handlers) t in
          record { decl = grind (arith, parts.0); handlers = bindable e.handlers parts.1 }

  -- ---- changes
  abbrev is_row : TableDef → Bool
  is_row t = nat_lt t.event.0 19 && can_bind t.handlers

  abbrev is_change : ChangeDef → Bool
  is_change c = (nat_lt c.event.0 19 && nat_eq (length c.table) 1) && list_all is_row c.table

  pub changes_in_range : All (IsChangeInRange s) group_changes
  changes_in_range = pass is_change (IsChangeInRange s) in_range group_changes refl
    where
      in_range : (c : ChangeDef) → is_change c ≡ true → IsChangeInRange s c
      in_range c e =
          let parts = both (nat_lt c.event.0 19 && nat_eq (length c.table) 1) (list_all is_row c.table) e in
          let sizes = both (nat_lt c.event.0 19) (nat_eq (length c.table) 1) parts.0 in
          let one : length c.table ≡ 1 = grind (arith, sizes.1) in
          record {
            event = grind (arith, sizes.0);
            some_row = omega arith;
            few_rows = omega arith;
            events = pass is_row (λ (t : TableDef). IsEventOf s t.event) (λ t u. grind (arith, (both (nat_lt t.event.0 19) (can_bind t.handlers) u).0)) c.table parts.1;
            handlers = pass is_row (λ (t : TableDef). IsBindable s t.handlers) (λ t u. bindable t.handlers (both (nat_lt t.event.0 19) (can_bind t.handlers) u).1) c.table parts.1;
          }

-- ---- nothing stands twice
pub micros_valid : All IsMicroValid group_micros
micros_valid = All-from_recursion IsMicroValid group_micros (
  record { own = refl; names = no_names },
  (
    record { own = refl; names = no_names },
    (
      record { own = refl; names = no_names },
      (
        record { own = refl; names = no_names },
        (
          record { own = refl; names = no_names },
          (
            record { own = refl; names = no_names },
            (
              record { own = refl; names = no_names },
              (record { own = refl; names = no_names }, tt),
            ),
          ),
        ),
      ),
    ),
  ),
)

same_handlers : (g h : HandlerId) → g ≡ h → same_handler g h ≡ true
same_handlers g h is = subst (λ (x : HandlerId). same_handler g x ≡ true) is (itself (eqb g.micro.0 g.micro.0) (eqb g.index g.index) (eq-eqb g.micro.0 g.micro.0 refl) (eq-eqb g.index g.index refl))
  where
    itself : (a b : Bool) → a ≡ true → b ≡ true → (a && b) ≡ true
    itself a b p q = cc

pub events_apart : All (λ (e : EventDef). AreApart e.handlers) group_events
events_apart = pass (λ (e : EventDef). once same_handler e.handlers) (λ (e : EventDef). AreApart e.handlers) (λ e t. apart same_handler same_handlers e.handlers t) group_events refl

abbrev is_lone : ChangeDef → Bool
is_lone c = nat_eq (length c.table) 1 && list_all (λ (t : TableDef). nat_eq (length t.handlers) 1) c.table

pub changes_valid : All IsChangeValid group_changes
changes_valid = pass is_lone IsChangeValid valid group_changes refl
  where
    valid : (c : ChangeDef) → is_lone c ≡ true → IsChangeValid c
    valid c e =
        let parts = both (nat_eq (length c.table) 1) (list_all (λ (t : TableDef). nat_eq (length t.handlers) 1) c.table) e in
        let one : length c.table ≡ 1 = grind (arith, parts.0) in
        record {
          events = alone (map (λ (t : TableDef). t.event) c.table) (omega (arith, length-map c.table (λ (t : TableDef). t.event)));
          handlers = pass (λ (t : TableDef). nat_eq (length t.handlers) 1) (λ (t : TableDef). AreApart t.handlers) (λ t u. alone t.handlers (grind (arith, u))) c.table parts.1;
        }
