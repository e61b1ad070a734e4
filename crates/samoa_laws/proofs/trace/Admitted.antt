-- What a script of the group stack admits is a group history.
use Rattle.std.proofs.Common.{◌≡◌, ◌⊎◌, inl, inr, refl, sym, ap, subst, ◌∙◌, ℕ, zero, suc, get_or, List, [], ◌∷◌, ◌++◌}
use Rattle.std.specs.List as list
use Rattle.std.proofs.lemmas.List.Elements.{All-head, All-tail, All-nil, All-weaker}
use Rattle.samoa_model.specs.Range.{IsInRange, IsChangeOf, IsEventOf, IsMicroInRange}
use Rattle.samoa_model.specs.Scripts.{micro_at, no_micro, setup_of}
use Rattle.samoa_model.specs.declared.ids.ChangeId.{ChangeId}
use Rattle.samoa_model.specs.declared.handler.Moment.{Moment}
use Rattle.samoa_model.specs.declared.handler.Outcome.{Outcome}
use Rattle.samoa_model.specs.declared.setup.Kind.TheVariants.{Prog}
use Rattle.samoa_model.specs.declared.script.MicroDef.{MicroDef}
use Rattle.samoa_serial.specs.declared.call.Call.{Call}
use Rattle.samoa_serial.specs.Kinds.{kind_step}
use Rattle.samoa_serial.specs.State.{State, Registers}
use Rattle.samoa_model.specs.declared.ids.EventId.{EventId}
use Rattle.samoa_model.specs.declared.handler.Dest.{Dest}
use Rattle.samoa_model.specs.declared.record.Cause.{Cause}
use Rattle.samoa_model.specs.declared.record.Entry.{Entry}
use Rattle.samoa_model.specs.declared.record.Ext.{Ext}
use Rattle.samoa_model.specs.declared.script.DoDef.{DoDef}
use Rattle.samoa_model.specs.declared.script.Script.{Script}
use Rattle.samoa_serial.specs.Whole.{Ran}
use Rattle.samoa_serial.specs.SerialRun.{serial}
use Rattle.samoa_serial.specs.History.{ext_of}
use Rattle.samoa_serial.specs.Lists.{Begins, Each}
use Rattle.samoa_serial.specs.Batch.{receivers}
use Rattle.samoa_serial.specs.Known.{IsDestOf, IsKnown}
use Rattle.samoa_serial.specs.Origins.{IsMessage, IsAsked, IsOwn}
use Rattle.samoa_serial.specs.Rebindings.{rebinding_of, asked_at, rebindings_at}
use Rattle.samoa_serial.specs.Ticks.{admitted, most_admitted}
use Rattle.samoa_serial.proofs.ListLaws.{each_in}
use Rattle.samoa_serial.proofs.EntryLaws.{EachEntry, GivesAlways, IsGiven, serial_entries}
use Rattle.samoa_serial.proofs.TicksLaws.{admitted-few, each_admitted}
use Rattle.samoa_serial.proofs.RangeLaws.{admitted_in_range, in_zip_second}
use Rattle.samoa_serial.proofs.RebindingLaws.{IsNoRebinding, admitted_rebindings}
use Rattle.samoa_serial.specs.Lists.{Each, In}
use Rattle.samoa_laws.specs.trace.Group.{IsFree, IsGroup, IsGroupHistory, IsRebinding, IsTo, IsWire, event}
use Rattle.samoa_serial.proofs.ListLaws.{each_in}
use Rattle.samoa_laws.proofs.trace.Worlds.{group_micro, setup_from}
use Rattle.samoa_laws.proofs.trace.Given.{IsNodeOf, IsOneOf, IsOut, link_given, fd_given, rbcast_given, cons_given, abcast_given, seqcast_given, repl_given, views_given}

-- the group stack sends the event `wire` alone
abbrev pub IsWired : Entry → Type 0
IsWired (Entry.Sent call to sent arg) = sent ≡ event 0
IsWired _ = Unit {0}

free_is_event : (item : DoDef) → IsFree item.cause → IsNoRebinding (ext_of item)
free_is_event item (inl e) = ap (λ (cause : Cause). rebinding_of cause item.args) e
free_is_event item (inr (inl e)) = ap (λ (cause : Cause). rebinding_of cause item.args) e
free_is_event item (inr (inr (inl e))) = ap (λ (cause : Cause). rebinding_of cause item.args) e
free_is_event item (inr (inr (inr (inl e)))) = ap (λ (cause : Cause). rebinding_of cause item.args) e
free_is_event item (inr (inr (inr (inr none)))) = absurd none

no_rebinding : (items : List DoDef) → Each (λ (item : DoDef). IsFree item.cause) items → Each (λ (item : DoDef). IsNoRebinding (ext_of item)) items
no_rebinding [] all = tt
no_rebinding (item ∷ items) all = (free_is_event item all.0, no_rebinding items all.1)

is_to : (script : Script) (to : Dest) (node : ℕ) → In node (receivers script to) → IsTo node to
is_to script (Dest.One n) node (inl e) = sym e
is_to script (Dest.One n) node (inr h) = absurd h
is_to script Dest.All node h = tt

-- a message of the group stack
wire_of : (script : Script) → GivesAlways IsWired script → (before : List Ext) (x : Ext) → IsMessage script before x → IsWire script before x
wire_of script wired before x m =
    let rans : List Ran = (serial script before).comps in
    let served : In m.ran rans = in_zip_second before rans m.sender m.ran m.served in
    let all : EachEntry IsWired m.ran = each_in (EachEntry IsWired) rans m.ran (serial_entries IsWired script wired before) served in
    let is : m.event ≡ event 0 = each_in IsWired m.ran.world.entries (Entry.Sent m.call m.to m.event x.args) all m.entry in
    record {
      cause = m.cause ∙ ap (λ (e : EventId). Cause.Event e) is;
      sent = record {
        ran = m.ran;
        served = served;
        call = m.call;
        to = m.to;
        here = is_to script m.to x.node.0 m.here;
        entry = subst (λ (e : EventId). In (Entry.Sent m.call m.to e x.args) m.ran.world.entries) is m.entry;
      };
    }

rebinding : (script : Script) (before : List Ext) (x : Ext) → IsAsked script before x
    → Begins (rebindings_at x.node.0 (before ++ x ∷ [])) (asked_at x.node.0 before (serial script before).comps) → IsRebinding script before x
rebinding script before x s b = record { change = s.change; cause = s.cause; rest = b.rest; first = b.is }

-- what a script of the group stack admits
pub admitted_by_group : (script : Script) → IsGroup script → IsInRange script → GivesAlways (IsKnown script) script → GivesAlways IsWired script
    → IsGroupHistory script (admitted script)
admitted_by_group script group range known wired = record {
  group = group;
  few = admitted-few most_admitted script;
  known = admitted_in_range most_admitted script range known;
  allowed = λ before x later e.
      of before x (admitted_rebindings most_admitted script x.node.0 (no_rebinding script.does group.does) before x later e) (each_admitted most_admitted script before x later e).origin;
}
  where
    of : (before : List Ext) (x : Ext) → Begins (rebindings_at x.node.0 (before ++ x ∷ [])) (asked_at x.node.0 before (serial script before).comps)
        → IsAsked script before x ⊎ (IsOwn script x ⊎ IsMessage script before x) → IsFree x.cause ⊎ (IsWire script before x ⊎ IsRebinding script before x)
    of before x b (inl s) = inr (inr (rebinding script before x s b))
    of before x b (inr (inl own)) =
        inl (subst (λ (y : Ext). IsFree y.cause) (sym own.is) (each_in (λ (item : DoDef). IsFree item.cause) script.does own.item group.does own.there))
    of before x b (inr (inr m)) = inr (inl (wire_of script wired before x m))

-- each box of the group stack
box_given : (nodes node p : ℕ) (s : State) (m : Moment)
    → IsOut (setup_from nodes node (group_micro p)) (kind_step (group_micro p).kind (setup_from nodes node (group_micro p)) s m).1
box_given nodes node zero s m = link_given (setup_from nodes node (group_micro 0)) refl s m
box_given nodes node (suc zero) s m = fd_given (setup_from nodes node (group_micro 1)) s m
box_given nodes node (suc (suc zero)) s m = rbcast_given (setup_from nodes node (group_micro 2)) s m
box_given nodes node (suc (suc (suc zero))) s m = cons_given (setup_from nodes node (group_micro 3)) s m
box_given nodes node (suc (suc (suc (suc zero)))) s m = abcast_given (setup_from nodes node (group_micro 4)) s m
box_given nodes node (suc (suc (suc (suc (suc zero))))) s m = seqcast_given (setup_from nodes node (group_micro 5)) s m
box_given nodes node (suc (suc (suc (suc (suc (suc zero)))))) s m = repl_given (setup_from nodes node (group_micro 6)) s m
box_given nodes node (suc (suc (suc (suc (suc (suc (suc zero))))))) s m = views_given (setup_from nodes node (group_micro 7)) s m
box_given nodes node (suc (suc (suc (suc (suc (suc (suc (suc p)))))))) s m = nobody s m
  where
    nobody : (s : State) (m : Moment) → IsOut (setup_from nodes node no_micro) (kind_step Prog (setup_from nodes node no_micro) s m).1
    nobody (Registers registers) (Moment.Begin handler arg) = tt
    nobody (Registers registers) (Moment.Resume handler frame reply) = tt
    nobody _ m = tt

script_given : (script : Script) → IsGroup script → (node p : ℕ) (s : State) (m : Moment)
    → IsOut (setup_of script node p) (kind_step (micro_at script p).kind (setup_of script node p) s m).1
script_given script group node p s m =
    let is : micro_at script p ≡ group_micro p = ap (λ (ms : List MicroDef). get_or ms p no_micro) group.micros in
    subst (λ (micro : MicroDef). IsOut (setup_from script.nodes node micro) (kind_step micro.kind (setup_from script.nodes node micro) s m).1) (sym is)
    (box_given script.nodes node p s m)

all_or : {A : Type 0} (P : A → Type 0) (xs : List A) (k : ℕ) (d : A) → list.All P xs → P d → P (get_or xs k d)
all_or P [] k d all p = p
all_or P (x ∷ xs) zero d all p = All-head P x xs all
all_or P (x ∷ xs) (suc k) d all p = all_or P xs k d (All-tail P x xs all) p

changes_known : (script : Script) → IsInRange script → (node p : ℕ) (change : ChangeId) → IsOneOf (setup_of script node p) change → IsChangeOf script change
changes_known script range node p change one =
    let all : list.All (IsChangeOf script) (micro_at script p).changes
    = all_or (λ (micro : MicroDef). list.All (IsChangeOf script) micro.changes) script.micros p no_micro
    (All-weaker (IsMicroInRange script) (λ (micro : MicroDef). list.All (IsChangeOf script) micro.changes) (λ micro is. is.changes) script.micros range.micros)
    (All-nil (IsChangeOf script)) in
    subst (λ (c : ChangeId). IsChangeOf script c) (sym one.is) (all one.at (record { 0 = 0 }) one.below)

node_known : (script : Script) (node p : ℕ) (to : Dest) → IsNodeOf (setup_of script node p) to → IsDestOf script to
node_known script node p (Dest.One n) below = below
node_known script node p Dest.All all = tt

group_known : (script : Script) → IsGroup script → IsInRange script → GivesAlways (IsKnown script) script
group_known script group range before ext = record {
  accepted = λ call caller h arg. tt;
  finished = λ call words. tt;
  refused = λ caller event refusal. tt;
  waiting = λ call event arg. tt;
  given = λ c state m. of c _ (script_given script group ext.node.0 c.handler.micro.0 state m);
}
  where
    of : (c : Call) (o : Outcome) → IsOut (setup_of script ext.node.0 c.handler.micro.0) o → IsGiven (IsKnown script) c o
    of c (Outcome.Send to event arg frame) out =
        (node_known script ext.node.0 c.handler.micro.0 to out.0, subst (λ (e : EventId). IsEventOf script e) (sym out.1) range.some_event)
    of c (Outcome.Change change arg frame) out = changes_known script range ext.node.0 c.handler.micro.0 change out
    of c (Outcome.Done reply) out = tt
    of c (Outcome.Deliver arg frame) out = tt
    of c (Outcome.Call event arg frame) out = tt
    of c (Outcome.Later event arg frame) out = tt

group_wired : (script : Script) → IsGroup script → GivesAlways IsWired script
group_wired script group before ext = record {
  accepted = λ call caller h arg. tt;
  finished = λ call words. tt;
  refused = λ caller event refusal. tt;
  waiting = λ call event arg. tt;
  given = λ c state m. of c _ (script_given script group ext.node.0 c.handler.micro.0 state m);
}
  where
    of : (c : Call) (o : Outcome) → IsOut (setup_of script ext.node.0 c.handler.micro.0) o → IsGiven IsWired c o
    of c (Outcome.Send to event arg frame) out = out.1
    of c (Outcome.Change change arg frame) out = tt
    of c (Outcome.Done reply) out = tt
    of c (Outcome.Deliver arg frame) out = tt
    of c (Outcome.Call event arg frame) out = tt
    of c (Outcome.Later event arg frame) out = tt

-- what every script of the group stack admits is a group history
pub admitted_is_group_history : (script : Script) → IsGroup script → IsInRange script → IsGroupHistory script (admitted script)
admitted_is_group_history script group range = admitted_by_group script group range (group_known script group range) (group_wired script group)
