-- In the group stack no call is refused.
use Rattle.std.proofs.Common.{◌≡◌, ◌≤◌, ◌<◌, ◌^◌, ◌*◌, ◌⊎◌, ℕ, zero, suc, inl, inr, refl, sym, ap, subst, ◌∙◌, arith, List, [], ◌∷◌, ◌++◌, length, map, get_or, Option, Some, true}
use Rattle.std.specs.Prelude.{⊤, slice_index_or}
use Rattle.samoa_model.specs.Allowed.{Attempt, attempt_all, declares}
use Rattle.samoa_model.specs.Scripts.{decl_of, event_at, no_change, no_decl, no_event, no_micro, root_of}
use Rattle.samoa_model.specs.declared.handler.Dest.{Dest}
use Rattle.samoa_model.specs.declared.handler.Moment.{Moment}
use Rattle.samoa_model.specs.declared.handler.Outcome.{Outcome}
use Rattle.samoa_model.specs.declared.handler.Refusal.{Refusal}
use Rattle.samoa_model.specs.declared.ids.EventId.{EventId}
use Rattle.samoa_model.specs.declared.ids.HandlerId.{HandlerId}
use Rattle.samoa_model.specs.declared.record.Entry.{Entry}
use Rattle.samoa_model.specs.declared.record.Ext.{Ext}
use Rattle.samoa_model.specs.declared.script.ChangeDef.{ChangeDef}
use Rattle.samoa_model.specs.declared.script.Decl.{Decl}
use Rattle.samoa_model.specs.declared.script.DeclDef.{DeclDef}
use Rattle.samoa_model.specs.declared.script.EventDef.{EventDef}
use Rattle.samoa_model.specs.declared.script.Script.{Script}
use Rattle.samoa_model.specs.declared.script.TableDef.{TableDef}
use Rattle.samoa_model.specs.declared.setup.Setup.{Setup}
use Rattle.samoa_serial.specs.Kinds.{kind_step}
use Rattle.samoa_serial.specs.Rows.{port_at}
use Rattle.samoa_serial.specs.State.{State}
use Rattle.samoa_serial.specs.World.{handler_of}
use Rattle.samoa_serial.specs.Lists.{Each}
use Rattle.samoa_laws.specs.trace.Trace.{HandlerStep, is_done, micro_of, trace}
use Rattle.samoa_laws.specs.trace.Causes.{BeginsFirst, FollowsIn, IsNext, IsRefused, IsSmall, IsTrace, Leads}
use Rattle.samoa_laws.specs.trace.Group.{IsGroup, IsGroupHistory, group_changes, group_events}
use Rattle.samoa_laws.proofs.trace.Counts.{trace-length}
use Rattle.samoa_serial.proofs.ListLaws.{each_weaker}
use Rattle.samoa_laws.proofs.trace.Steps.{goes_on_at_once, setting, trace-rest}
use Rattle.samoa_laws.proofs.trace.Tables.{IsBound, never_refused, table-holds}
use Rattle.samoa_laws.proofs.trace.Shapes.{AbCasts, AbHandsOn, AbNothing, AbProposes, AbSays, Asks, AtPort, Casts, ConsAnnounces, ConsDecides, ConsNothing, ConsSays, ConsTells, Hands, HandsUp, IsDone, IsQuiet, LinkShape, Quiet, RbShape, Relays, Rests, Sends, Silent, Talks, abcast-step, cons-step, fd-step, link-step, rbcast-step, repl-step, seqcast-step, views-step}
use Rattle.samoa_laws.specs.transport.Transport.{BeginsNext}
use Rattle.samoa_laws.proofs.trace.Points.{trace-is_trace}
use Rattle.samoa_laws.proofs.transport.Received.{no_box}
use Rattle.samoa_laws.proofs.trace.Worlds.{group_micro, group_setup, outcome_is, setup_from}

-- a call is of an event that stands at a port
abbrev pub CallsPort : Setup → Outcome → Type 0
CallsPort setup o = (event : EventId) (arg frame : List ℕ) → o ≡ Outcome.Call event arg frame → (port : ℕ) × (event ≡ port_at setup port)

at_port : (setup : Setup) (port : ℕ) (a f : List ℕ) (o : Outcome) → o ≡ Outcome.Call (port_at setup port) a f → CallsPort setup o
at_port setup port a f o is event arg frame e =
    let both : Outcome.Call (port_at setup port) a f ≡ Outcome.Call event arg frame = sym is ∙ e in
    (port, (let same : port_at setup port ≡ event = cc in sym same))

quiet_port : (setup : Setup) (o : Outcome) → IsQuiet o → CallsPort setup o
quiet_port setup o q event arg frame e = absurd (subst IsQuiet e q)

done_port : (setup : Setup) (o : Outcome) → IsDone o → CallsPort setup o
done_port setup o d event arg frame e = absurd (subst IsDone e d)

asks_port : (setup : Setup) (ports : List ℕ) (o : Outcome) → Asks setup ports o → CallsPort setup o
asks_port setup ports o (Quiet q) = quiet_port setup o q
asks_port setup ports o (AtPort port i arg frame is) = at_port setup port arg frame o is

talks_port : (setup : Setup) (ports : List ℕ) (o : Outcome) → Talks setup ports o → CallsPort setup o
talks_port setup ports o (inl t) = at_port setup 0 _ _ o t.is
talks_port setup ports o (inr a) = asks_port setup ports o a

send_port : (setup : Setup) (to : Dest) (sent : EventId) (a f : List ℕ) (o : Outcome) → o ≡ Outcome.Send to sent a f → CallsPort setup o
send_port setup to sent a f o is event arg frame e = let both : Outcome.Send to sent a f ≡ Outcome.Call event arg frame = sym is ∙ e in cc

link_port : (setup : Setup) (m : Moment) (o : Outcome) → LinkShape setup m o → CallsPort setup o
link_port setup m o (Sends a begun is) = send_port setup _ _ _ _ o is
link_port setup m o (Hands a begun lt is) = at_port setup _ _ _ o is
link_port setup m o (Silent q) = quiet_port setup o q

rb_port : (setup : Setup) (m : Moment) (o : Outcome) → RbShape setup m o → CallsPort setup o
rb_port setup m o (Casts a begun number is) = at_port setup 0 _ _ o is
rb_port setup m o (Relays a begun is) = at_port setup 0 _ _ o is
rb_port setup m o (HandsUp i f r resumed one next two is) = at_port setup 1 _ _ o is
rb_port setup m o (Rests d) = done_port setup o d

cons_port : (setup : Setup) (o : Outcome) → ConsSays setup o → CallsPort setup o
cons_port setup o (ConsNothing d) = done_port setup o d
cons_port setup o (ConsTells to tag b ts m frame is) = at_port setup 0 _ _ o is
cons_port setup o (ConsAnnounces i m is) = at_port setup 1 _ _ o is
cons_port setup o (ConsDecides i m is) = at_port setup 2 _ _ o is

ab_port : (setup : Setup) (o : Outcome) → AbSays setup o → CallsPort setup o
ab_port setup o (AbNothing d) = done_port setup o d
ab_port setup o (AbCasts m is) = at_port setup 0 _ _ o is
ab_port setup o (AbProposes i m is) = at_port setup 1 _ _ o is
ab_port setup o (AbHandsOn i m is) = at_port setup 2 _ _ o is

pub kind_port : (nodes v p : ℕ) (s : State) (m : Moment) → CallsPort (group_setup nodes v p) (kind_step (group_micro p).kind (group_setup nodes v p) s m).1
kind_port nodes v zero s m = link_port (group_setup nodes v 0) m _ (link-step (group_setup nodes v 0) s m)
kind_port nodes v (suc zero) s m = talks_port (group_setup nodes v 1) _ _ (fd-step (group_setup nodes v 1) s m)
kind_port nodes v (suc (suc zero)) s m = rb_port (group_setup nodes v 2) m _ (rbcast-step (group_setup nodes v 2) s m)
kind_port nodes v (suc (suc (suc zero))) s m = cons_port (group_setup nodes v 3) _ (cons-step (group_setup nodes v 3) s m)
kind_port nodes v (suc (suc (suc (suc zero)))) s m = ab_port (group_setup nodes v 4) _ (abcast-step (group_setup nodes v 4) s m)
kind_port nodes v (suc (suc (suc (suc (suc zero))))) s m = talks_port (group_setup nodes v 5) _ _ (seqcast-step (group_setup nodes v 5) s m)
kind_port nodes v (suc (suc (suc (suc (suc (suc zero)))))) s m = asks_port (group_setup nodes v 6) _ _ (repl-step (group_setup nodes v 6) s m)
kind_port nodes v (suc (suc (suc (suc (suc (suc (suc zero))))))) s m = asks_port (group_setup nodes v 7) _ _ (views-step (group_setup nodes v 7) s m)
kind_port nodes v (suc (suc (suc (suc (suc (suc (suc (suc p)))))))) s m = asks_port (setup_from nodes v no_micro) _ _ (no_box nodes v s m)

-- every port is an event of the stack
small_at : (ports : List EventId) (port : ℕ) → Each (λ (e : EventId). e.0 < 19) ports → (slice_index_or ports port (record { 0 = 0 })).0 < 19
small_at [] port all = omega arith
small_at (e ∷ es) zero all = all.0
small_at (e ∷ es) (suc port) all = small_at es port all.1

port_small : (nodes v p port : ℕ) → (port_at (group_setup nodes v p) port).0 < 19
port_small nodes v p port = small_at (group_micro p).ports port (ports p)
  where
    ports : (p : ℕ) → Each (λ (e : EventId). e.0 < 19) (group_micro p).ports
    ports zero = (omega arith, (omega arith, (omega arith, (omega arith, (omega arith, tt)))))
    ports (suc zero) = (omega arith, (omega arith, tt))
    ports (suc (suc zero)) = (omega arith, (omega arith, tt))
    ports (suc (suc (suc zero))) = (omega arith, (omega arith, (omega arith, tt)))
    ports (suc (suc (suc (suc zero)))) = (omega arith, (omega arith, (omega arith, tt)))
    ports (suc (suc (suc (suc (suc zero))))) = (omega arith, (omega arith, tt))
    ports (suc (suc (suc (suc (suc (suc zero)))))) = (omega arith, (omega arith, tt))
    ports (suc (suc (suc (suc (suc (suc (suc zero))))))) = (omega arith, tt)
    ports (suc (suc (suc (suc (suc (suc (suc (suc p)))))))) = tt

-- a list of handlers of the stack's microprotocols, of which there is at least one
abbrev pub IsSomeList : List HandlerId → Type 0
IsSomeList [] = ⊥
IsSomeList (h ∷ hs) = ⊤

abbrev pub IsServed : ℕ → List HandlerId → Type 0
IsServed e hs = (e < 19 → IsSomeList hs) × Each (λ (h : HandlerId). h.micro.0 < 8) hs

abbrev pub AllServed : List EventDef → Type 0
AllServed ds = Each (λ (d : EventDef). IsSomeList d.handlers × Each (λ (h : HandlerId). h.micro.0 < 8) d.handlers) ds

served-at : (ds : List EventDef) (n : ℕ) → AllServed ds → length ds ≡ n → (e : ℕ) → (e < n → IsSomeList (get_or (map (λ (d : EventDef). d.handlers) ds) e []))
    × Each (λ (h : HandlerId). h.micro.0 < 8) (get_or (map (λ (d : EventDef). d.handlers) ds) e [])
served-at [] n all len e = (λ lt. absurd (omega (arith, len)), tt)
served-at (d ∷ ds) n all len zero = (λ lt. all.0.0, all.0.1)
served-at (d ∷ ds) n all len (suc e) = let rest = served-at ds (length ds) all.1 refl e in (λ lt. rest.0 (omega (arith, len)), rest.1)

pub group_served : AllServed group_events
group_served = (
  (tt, (omega arith, tt)),
  (
    (tt, (omega arith, tt)),
    (
      (tt, (omega arith, tt)),
      (
        (tt, (omega arith, tt)),
        (
          (tt, (omega arith, tt)),
          (
            (tt, (omega arith, tt)),
            (
              (tt, (omega arith, tt)),
              (
                (tt, (omega arith, (omega arith, tt))),
                (
                  (tt, (omega arith, tt)),
                  (
                    (tt, (omega arith, tt)),
                    (
                      (tt, (omega arith, tt)),
                      (
                        (tt, (omega arith, tt)),
                        (
                          (tt, (omega arith, tt)),
                          (
                            (tt, (omega arith, tt)),
                            (
                              (tt, (omega arith, tt)),
                              (
                                (tt, (omega arith, tt)),
                                (
                                  (tt, (omega arith, tt)),
                                  (
                                    (tt, (omega arith, tt)),
                                    ((tt, (omega arith, tt)), tt),
                                  ),
                                ),
                              ),
                            ),
                          ),
                        ),
                      ),
                    ),
                  ),
                ),
              ),
            ),
          ),
        ),
      ),
    ),
  ),
)

change_served : (c : ℕ) → Each (λ (t : TableDef). IsServed t.event.0 t.handlers) (get_or group_changes c no_change).table
change_served zero = ((λ lt. tt, (omega arith, tt)), tt)
change_served (suc zero) = ((λ lt. tt, (omega arith, tt)), tt)
change_served (suc (suc c)) = tt

pub all_served : (script : Script) → IsGroup script → IsBound script IsServed
all_served script group = record {
  first = λ e. subst (λ (ds : List EventDef). IsServed e (get_or (map (λ (d : EventDef). d.handlers) ds) e [])) (sym group.events) (served-at group_events 19 group_served refl e);
  changed = λ change. subst (λ (cs : List ChangeDef). Each (λ (t : TableDef). IsServed t.event.0 t.handlers) (get_or cs change.0 no_change).table) (sym group.changes) (change_served change.0);
}

-- the one declaration, whatever the event
decl_zero : (ds : List EventDef) → Each (λ (d : EventDef). d.decl ≡ 0) ds → (e : ℕ) → (get_or ds e no_event).decl ≡ 0
decl_zero [] all e = refl
decl_zero (d ∷ ds) all zero = all.0
decl_zero (d ∷ ds) all (suc e) = decl_zero ds all.1 e

group_decl_number : (script : Script) → IsGroup script → (ext : Ext) → (event_at script (root_of script ext.cause).0).decl ≡ 0
group_decl_number script group ext =
    let e : ℕ = (root_of script ext.cause).0 in
    subst (λ (ds : List EventDef). (get_or ds e no_event).decl ≡ 0) (sym group.events)
    (decl_zero group_events (refl, (refl, (refl, (refl, (refl, (refl, (refl, (refl, (refl, (refl, (refl, (refl, (refl, (refl, (refl, (refl, (refl, (refl, (refl, tt))))))))))))))))))) e)

pub group_decl : (script : Script) → IsGroup script → (ext : Ext) → (decl_of script ext).decl ≡ Decl.Set (0 ∷ 1 ∷ 2 ∷ 3 ∷ 4 ∷ 5 ∷ 6 ∷ 7 ∷ [])
group_decl script group ext =
    ap (λ (d : ℕ). (get_or script.decls d no_decl).decl) (group_decl_number script group ext) ∙ ap (λ (ds : List DeclDef). (get_or ds 0 no_decl).decl) group.decls

declared : (p : ℕ) → p < 8 → declares (Decl.Set (0 ∷ 1 ∷ 2 ∷ 3 ∷ 4 ∷ 5 ∷ 6 ∷ 7 ∷ [])) p ≡ true
declared zero lt = refl
declared (suc zero) lt = refl
declared (suc (suc zero)) lt = refl
declared (suc (suc (suc zero))) lt = refl
declared (suc (suc (suc (suc zero)))) lt = refl
declared (suc (suc (suc (suc (suc zero))))) lt = refl
declared (suc (suc (suc (suc (suc (suc zero)))))) lt = refl
declared (suc (suc (suc (suc (suc (suc (suc zero))))))) lt = refl
declared (suc (suc (suc (suc (suc (suc (suc (suc p)))))))) lt = absurd (omega arith)

pub accepts : (hs : List HandlerId) (decl : Decl) → decl ≡ Decl.Set (0 ∷ 1 ∷ 2 ∷ 3 ∷ 4 ∷ 5 ∷ 6 ∷ 7 ∷ []) → IsSomeList hs → Each (λ (h : HandlerId). h.micro.0 < 8) hs
    → (entries : List Entry) (caller : Option HandlerId) (r : Refusal) → attempt_all decl entries caller hs ≡ Attempt.Refuses r → ⊥
accepts [] decl is some small entries caller r refuses = absurd some
accepts (h ∷ hs) decl is some small entries caller r refuses =
    let set : Decl = Decl.Set (0 ∷ 1 ∷ 2 ∷ 3 ∷ 4 ∷ 5 ∷ 6 ∷ 7 ∷ []) in
    let yes : attempt_all set entries caller (h ∷ hs) ≡ Attempt.Accepts h hs =
    never_refused (0 ∷ 1 ∷ 2 ∷ 3 ∷ 4 ∷ 5 ∷ 6 ∷ 7 ∷ []) entries caller h hs (each_weaker (λ (g : HandlerId). g.micro.0 < 8) (λ (g : HandlerId). declares set g.micro.0 ≡ true) (λ g lt. declared g.micro.0 lt) (h ∷ hs) small) in
    let both : Attempt.Accepts h hs ≡ Attempt.Refuses r = sym yes ∙ (ap (λ (d : Decl). attempt_all d entries caller (h ∷ hs)) (sym is) ∙ refuses) in
    cc

-- after a call that took effect the event's first handler begins
pub call_begins : (script : Script) (exts : List Ext) → IsGroup script → (b : HandlerStep) (past : List HandlerStep) (x : HandlerStep)
    → IsTrace script exts (b ∷ past) → (f : FollowsIn script exts (b ∷ past) x) → b.effective ≡ true
    → (event : EventId) (arg frame : List ℕ) → b.outcome ≡ Outcome.Call event arg frame → BeginsFirst (setting f) event arg x.call x.moment
call_begins script exts group b past x trace f effective event arg frame is = go leads
  where
    next : IsNext (setting f) b x.call x.moment
    next = goes_on_at_once script exts b past x f effective (ap is_done is)

    leads : Leads (setting f) b.call (Outcome.Call event arg frame) x.call x.moment
    leads = subst (λ (o : Outcome). Leads (setting f) b.call o x.call x.moment) is next.leads

    small : event.0 < 19
    small =
        let port : (port : ℕ) × (event ≡ port_at (group_setup script.nodes b.node (micro_of b)) port) =
        kind_port script.nodes b.node (micro_of b) b.old b.moment event arg frame (sym (outcome_is script exts group past b trace.0) ∙ is) in
        subst (λ (e : EventId). e.0 < 19) (sym port.1) (port_small script.nodes b.node (micro_of b) port.0)

    served : IsServed event.0 ((setting f).handlers event)
    served = table-holds script IsServed (all_served script group) (f.before ++ f.ext ∷ []) f.ext.node.0 event.0

    go : BeginsFirst (setting f) event arg x.call x.moment ⊎ IsRefused (setting f) b.call event frame x.call x.moment → BeginsFirst (setting f) event arg x.call x.moment
    go (inl begins) = begins
    go (inr refused) =
        absurd (accepts ((setting f).handlers event) (decl_of script f.ext).decl (group_decl script group f.ext) (served.0 small) served.1
        refused.entries (handler_of (Some b.call)) refused.refusal refused.refuses)

-- the same, of a step of a group history
pub begins_next : (script : Script) (exts : List Ext) (more past : List HandlerStep) (b x : HandlerStep) (called : EventId) (arg frame : List ℕ)
    → IsGroupHistory script exts → trace script exts ≡ more ++ x ∷ b ∷ past → b.effective ≡ true → b.outcome ≡ Outcome.Call called arg frame
    → BeginsNext script exts b x called arg
begins_next script exts more past b x called arg frame history split effective is =
    let t : IsTrace script exts (x ∷ b ∷ past) = trace-rest script exts more (x ∷ b ∷ past) (subst (IsTrace script exts) split (trace-is_trace script exts)) in
    let f : FollowsIn script exts (b ∷ past) x = t.0 in
    let next : IsNext (setting f) b x.call x.moment = goes_on_at_once script exts b past x f effective (ap is_done is) in
    record {
      before = f.before;
      ext = f.ext;
      later = f.later;
      admitted = f.admitted;
      comp = f.follows.comp;
      same = next.acts.comp ∙ sym f.follows.comp;
      begins = call_begins script exts history.group b past x t.1 f effective called arg frame is;
    }

-- every budget is 64, and no event has more than two handlers
few_at : (ds : List EventDef) → Each (λ (d : EventDef). length d.handlers ≤ 4) ds → (e : ℕ) → length (get_or (map (λ (d : EventDef). d.handlers) ds) e []) ≤ 4
few_at [] all e = omega arith
few_at (d ∷ ds) all zero = all.0
few_at (d ∷ ds) all (suc e) = few_at ds all.1 e

abbrev AreFew : ℕ → List HandlerId → Type 0
AreFew e hs = length hs ≤ 4

all_few : (script : Script) → IsGroup script → IsBound script AreFew
all_few script group = record {
  first = λ e. subst (λ (ds : List EventDef). length (get_or (map (λ (d : EventDef). d.handlers) ds) e []) ≤ 4) (sym group.events) (few_at group_events few e);
  changed = λ change. subst (λ (cs : List ChangeDef). Each (λ (t : TableDef). length t.handlers ≤ 4) (get_or cs change.0 no_change).table) (sym group.changes) (few_changed change.0);
}
  where
    few : Each (λ (d : EventDef). length d.handlers ≤ 4) group_events
    few = (omega arith, (omega arith, (omega arith, (omega arith, (omega arith, (omega arith, (omega arith, (omega arith, (omega arith, (omega arith, (omega arith, (omega arith, (omega arith, (omega arith, (omega arith, (omega arith, (omega arith, (omega arith, (omega arith, tt)))))))))))))))))))

    few_changed : (c : ℕ) → Each (λ (t : TableDef). length t.handlers ≤ 4) (get_or group_changes c no_change).table
    few_changed zero = (omega arith, tt)
    few_changed (suc zero) = (omega arith, tt)
    few_changed (suc (suc c)) = tt

pub group_small : (script : Script) → IsGroup script → IsSmall script 64
group_small script group = record {
  budget = λ ext. let is : (decl_of script ext).budget ≡ 64 = budget_is ext in omega (arith, is);
  few = λ exts node event. table-holds script AreFew (all_few script group) exts node event.0;
}
  where
    budget_is : (ext : Ext) → (decl_of script ext).budget ≡ 64
    budget_is ext = ap (λ (d : ℕ). (get_or script.decls d no_decl).budget) (group_decl_number script group ext) ∙ ap (λ (ds : List DeclDef). (get_or ds 0 no_decl).budget) group.decls

-- a group history has fewer than 2 ^ 32 steps, so that no count of steps comes to the end of its type
pub group_length : (script : Script) (exts : List Ext) → IsGroupHistory script exts → length (trace script exts) < 2 ^ 32
group_length script exts history =
    let few : length exts ≤ 100000 = history.few in
    let all : length (trace script exts) ≤ 324 * length exts = trace-length script 64 (group_small script history.group) exts in
    omega (arith, all, few)
