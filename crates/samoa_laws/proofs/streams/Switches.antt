-- `switched` begins once in each rebinding at its node, before all else, and nowhere else.
use Rattle.std.proofs.Common.{◌≡◌, ◌≢◌, ◌⊎◌, ◌<◌, ℕ, zero, suc, ◌+◌, inl, inr, refl, sym, ap, subst, ◌∙◌, append_assoc, append-nil, arith, List, [], ◌∷◌, ◌++◌, length, length-append, get_or, None, Bool, true, false, ◌==◌, ◌&&◌, if◌then◌else◌}
use Rattle.std.proofs.lemmas.Bool.{eqb-true}
use Rattle.std.proofs.lemmas.Bool.Decides.{eqb_tells}
use Rattle.samoa_model.specs.Allowed.{Attempt, attempt_all}
use Rattle.samoa_model.specs.Range.{IsCauseOf, IsExtOf}
use Rattle.samoa_model.specs.Scripts.{no_change, resolve, root_of, table_of}
use Rattle.samoa_model.specs.declared.ids.EventId.{EventId}
use Rattle.samoa_model.specs.declared.ids.HandlerId.{HandlerId}
use Rattle.samoa_model.specs.declared.handler.Moment.{Moment}
use Rattle.samoa_model.specs.declared.record.Cause.{Cause as Reason}
use Rattle.samoa_model.specs.declared.record.Ext.{Ext}
use Rattle.samoa_model.specs.declared.script.ChangeDef.{ChangeDef}
use Rattle.samoa_model.specs.declared.script.Decl.{Decl}
use Rattle.samoa_model.specs.declared.script.Script.{Script}
use Rattle.samoa_serial.specs.SerialRun.{rules_of}
use Rattle.samoa_serial.specs.Lists.{Each, In}
use Rattle.samoa_serial.proofs.RebindingLaws.{rebindings_at-append}
use Rattle.samoa_laws.specs.trace.Trace.{HandlerStep, micro_of, trace}
use Rattle.samoa_laws.specs.trace.Causes.{BeginsFirst, Calls, Comes, FollowsIn, IsFirst, IsNext, IsNextIn, IsTrace, Setting}
use Rattle.samoa_laws.specs.trace.Group.{Asking, IsFree, IsGroup, IsGroupHistory, IsRebinding, IsWire, event, group_changes, handler, rebinding_of, rebindings_at}
use Rattle.samoa_laws.proofs.transport.Accepted.{group_decl, kind_port}
use Rattle.samoa_serial.proofs.ListLaws.{each_in, in_middle}
use Rattle.samoa_laws.proofs.trace.Points.{Adds, Point, adds_at, point_at}
use Rattle.samoa_laws.proofs.trace.Steps.{Before, IsAt, before, same_admission, setting, trace-rest}
use Rattle.samoa_laws.proofs.trace.Worlds.{bound_stands, event_for, outcome_is}
use Rattle.samoa_laws.specs.replacement.Casts.{begins_switch, handler_of, switches}
use Rattle.samoa_laws.specs.streams.Streams.{is_repl, repl_at, repl_step_of}
use Rattle.samoa_laws.proofs.trace.Boxes.{IsElsewhere, IsHere, here_or_away, test_here}
use Rattle.samoa_laws.proofs.streams.Listed.{listed, listed_of}
use Rattle.samoa_laws.proofs.streams.Opened.{adds_some}
use Rattle.samoa_laws.proofs.streams.Outlets.{port_no_switch}
use Rattle.samoa_laws.proofs.transport.Events.{never_later}
use Rattle.samoa_laws.proofs.streams.Views.{step-index}

-- whether `switched` begins here with this step
abbrev pub switch_here : ℕ → HandlerStep → Bool
switch_here v x = is_repl v x && begins_switch x.moment

switch_index : (m : Moment) → begins_switch m ≡ true → handler_of m ≡ 2
switch_index (Moment.Begin i arg) e = eqb-true i 2 e
switch_index (Moment.Resume i frame reply) e = absurd (cc)

-- how it comes: as the root call of its computation, before all other steps of it
pub record SwitchBegin (script : Script) (exts : List Ext) (past : List HandlerStep) (x : HandlerStep) (f : FollowsIn script exts past x) : Type 0 where
  pub root : (root_of script f.ext.cause).0 ≡ 18
  pub first : past ≡ trace script f.before
  pub moment : x.moment ≡ Moment.Begin 2 f.ext.args

switch_handler : (h : HandlerId) → 6 ≡ h.micro.0 → h.index ≡ 2 → h ≡ handler 6 2
switch_handler h p i =
    ap (λ (n : ℕ). handler h.micro.0 n) i ∙ ap (λ (n : ℕ). handler n 2) (sym p)

pub switch_begin : (script : Script) (exts : List Ext) → IsGroup script → (v : ℕ) (past : List HandlerStep) (x : HandlerStep) → IsTrace script exts past → (f : FollowsIn script exts past x)
    → IsAt x v 6 → begins_switch x.moment ≡ true → SwitchBegin script exts past x f
switch_begin script exts group v past x t f at begins = go f.follows.comes
  where
    S : Setting
    S = setting f

    h : HandlerId
    h = x.call.handler

    index : h.index ≡ 2
    index = sym (step-index script exts past x f) ∙ switch_index x.moment begins

    is : h ≡ handler 6 2
    is = switch_handler h at.1 index

    stands : (e : EventId) → In h (S.handlers e) → e.0 ≡ 18
    stands e bound =
        sym (each_in (λ (g : HandlerId). event_for g ≡ e.0) (S.handlers e) h (bound_stands script exts group past x f e) bound) ∙ ap event_for is

    not_called : (y : HandlerStep) → In y past → Calls S y x.call x.moment → SwitchBegin script exts past x f
    not_called y there calls =
        let b : Before script exts past y = before script exts past y t there in
        let port : (port : ℕ) × (calls.event ≡ _) =
        kind_port script.nodes y.node (micro_of y) y.old y.moment calls.event calls.arg calls.frame (sym (outcome_is script exts group b.earlier y b.follows) ∙ calls.outcome) in
        absurd (port_no_switch script.nodes y.node (micro_of y) port.0 (ap (λ (e : EventId). e.0) (sym port.1) ∙ stands calls.event calls.bound))

    go : Comes S past x.call x.moment → SwitchBegin script exts past x f
    go (Comes.AsFirst root first) = record { root = stands S.root root.bound; first = f.over ∙ ap (λ (own : List HandlerStep). own ++ trace script f.before) (none f.own refl); moment = root.moment ∙ ap (λ (n : ℕ). Moment.Begin n f.ext.args) index }
      where
        none : (own : List HandlerStep) → f.own ≡ own → f.own ≡ []
        none [] e = e
        none (b ∷ own) e =
            let there : In b past = subst (λ (zs : List HandlerStep). In b zs) (sym f.over) (subst (λ (zs : List HandlerStep). In b (zs ++ trace script f.before)) (sym e) (inl refl)) in
            let comp : b.comp ≡ S.comp = (subst (λ (zs : List HandlerStep). Each (λ (y : HandlerStep). (y.comp ≡ length f.before) × (y.node ≡ f.ext.node.0)) zs) e f.own_steps).0.0 in
            let less : b.comp < S.comp = first b there in
            absurd (omega (arith, less, comp))
    go (Comes.AsOther o) =
        let bound : In h (S.handlers o.event) = subst (λ (hs : List HandlerId). In h hs) (sym o.list) (inr o.bound) in
        let only : o.first ∷ o.others ≡ handler 6 2 ∷ [] = sym o.list ∙ (listed script exts group past x f o.event).switched (stands o.event bound) in
        let alone : o.others ≡ [] = cc in
        absurd (subst (λ (hs : List HandlerId). In h hs) alone o.bound)
    go (Comes.AtOnce y earlier is calls) = not_called y (subst (λ (zs : List HandlerStep). In y zs) (sym is) (inl refl)) calls
    go (Comes.AsDeferred y there calls) = absurd (never_later script exts group past t y there calls.event calls.arg calls.frame calls.outcome)
    go (Comes.OnAgain frame reply moment) = absurd (let both : true ≡ false = sym begins ∙ ap begins_switch moment in cc)

-- a computation of the event `switched` is a rebinding, and the other way round
pub is_rebinding : (script : Script) (exts : List Ext) → IsGroupHistory script exts → (before : List Ext) (ext : Ext) (later : List Ext) → exts ≡ before ++ ext ∷ later
    → (root_of script ext.cause).0 ≡ 18 → IsRebinding script before ext
is_rebinding script exts history before ext later is eighteen = go (history.allowed before ext later is)
  where
    other : (e : ℕ) → e ≢ 18 → ext.cause ≡ Reason.Event (event e) → IsRebinding script before ext
    other e ne cause = absurd (ne (ap (λ (c : Reason). (root_of script c).0) (sym cause) ∙ eighteen))

    go : IsFree ext.cause ⊎ (IsWire script before ext ⊎ IsRebinding script before ext) → IsRebinding script before ext
    go (inl (inl c)) = other 14 (λ e. omega (arith, e)) c
    go (inl (inr (inl c))) = other 15 (λ e. omega (arith, e)) c
    go (inl (inr (inr (inl c)))) = other 16 (λ e. omega (arith, e)) c
    go (inl (inr (inr (inr (inl c))))) = other 17 (λ e. omega (arith, e)) c
    go (inl (inr (inr (inr (inr none))))) = absurd none
    go (inr (inl wire)) = other 0 (λ e. omega (arith, e)) wire.cause
    go (inr (inr r)) = r

pub rebinding_root : (script : Script) (exts : List Ext) → IsGroupHistory script exts → (before : List Ext) (ext : Ext) (later : List Ext) → exts ≡ before ++ ext ∷ later
    → IsRebinding script before ext → root_of script ext.cause ≡ event 18
rebinding_root script exts history before ext later is r =
    ap (root_of script) r.cause ∙ (ap (λ (cs : List ChangeDef). (get_or cs r.change.0 no_change).event) history.group.changes ∙ changed r.change.0 lt)
  where
    changed : (c : ℕ) → c < length group_changes → (get_or group_changes c no_change).event ≡ event 18
    changed zero lt = refl
    changed (suc zero) lt = refl
    changed (suc (suc c)) lt = absurd (omega arith)

    known : IsExtOf script ext
    known = each_in (IsExtOf script) exts ext history.known (subst (λ (xs : List Ext). In ext xs) (sym is) (in_middle ext before later))

    in_range : r.change.0 < length script.changes
    in_range = subst (IsCauseOf script) r.cause known.cause

    lt : r.change.0 < length group_changes
    lt = subst (λ (cs : List ChangeDef). r.change.0 < length cs) history.group.changes in_range

-- ---- how often it begins
quiet-switches : (v : ℕ) (steps past : List HandlerStep) → Each (λ (x : HandlerStep). switch_here v x ≡ false) steps → switches (repl_at v (steps ++ past)) ≡ switches (repl_at v past)
quiet-switches v [] past all = refl
quiet-switches v (x ∷ steps) past all = go (is_repl v x) all.0 ∙ quiet-switches v steps past all.1
  where
    n : ℕ
    n = switches (repl_at v (steps ++ past))

    go : (a : Bool) → (a && begins_switch x.moment) ≡ false → switches (if a then repl_step_of x ∷ repl_at v (steps ++ past) else repl_at v (steps ++ past)) ≡ n
    go true e = ap (λ (b : Bool). if b then suc n else n) e
    go false e = refl

-- a step of this computation, as one of those before it
pub record Of (script : Script) (before : List Ext) (ext : Ext) (past : List HandlerStep) (x : HandlerStep) (f : List Ext) (g : Ext) : Type 0 where
  pub before_is : f ≡ before
  pub ext_is : g ≡ ext

of : (script : Script) (exts before : List Ext) (ext : Ext) (later : List Ext) → exts ≡ before ++ ext ∷ later → (past : List HandlerStep) (x : HandlerStep) (f : FollowsIn script exts past x)
    → x.comp ≡ length before → Of script before ext past x f.before f.ext
of script exts before ext later is past x f comp =
    let same = same_admission f.before before f.ext ext f.later later (sym f.follows.comp ∙ comp) (sym f.admitted ∙ is) in
    record { before_is = same.0; ext_is = same.1 }

abbrev pub Own : List Ext → Ext → List HandlerStep → Type 0
Own before ext own = Each (λ (b : HandlerStep). (b.comp ≡ length before) × (b.node ≡ ext.node.0)) own

-- the test of a step that begins it, or of one that does not
pub record Switching (v : ℕ) (x : HandlerStep) : Type 0 where
  pub at : IsAt x v 6
  pub begins : begins_switch x.moment ≡ true

pub switching : (v : ℕ) (x : HandlerStep) → Switching v x ⊎ (switch_here v x ≡ false)
switching v x = go (here_or_away v 6 x) (begins_switch x.moment) refl
  where
    go : IsHere v 6 x ⊎ IsElsewhere v 6 x → (b : Bool) → begins_switch x.moment ≡ b → Switching v x ⊎ (switch_here v x ≡ false)
    go (inl here) true e = inl (record { at = here.at; begins = e })
    go (inl here) false e = inr (ap (λ (b : Bool). b && begins_switch x.moment) here.test ∙ e)
    go (inr away) b e = inr (ap (λ (c : Bool). c && begins_switch x.moment) away.test)

-- none where the computation is no rebinding here
none_switch : (script : Script) (exts : List Ext) → IsGroup script → (v : ℕ) (before : List Ext) (ext : Ext) (later : List Ext) → exts ≡ before ++ ext ∷ later
    → (v ≡ ext.node.0 → (root_of script ext.cause).0 ≡ 18 → ⊥) → (own : List HandlerStep) → Own before ext own → IsTrace script exts (own ++ trace script before)
    → Each (λ (x : HandlerStep). switch_here v x ≡ false) own
none_switch script exts group v before ext later is other [] all t = tt
none_switch script exts group v before ext later is other (x ∷ own) all t =
    (go (switching v x), none_switch script exts group v before ext later is other own all.1 t.1)
  where
    go : Switching v x ⊎ (switch_here v x ≡ false) → switch_here v x ≡ false
    go (inr e) = e
    go (inl s) =
        let b : SwitchBegin script exts (own ++ trace script before) x t.0 = switch_begin script exts group v (own ++ trace script before) x t.1 t.0 s.at s.begins in
        let o : Of script before ext (own ++ trace script before) x t.0.before t.0.ext = of script exts before ext later is (own ++ trace script before) x t.0 all.0.0 in
        absurd (other (s.at.0 ∙ all.0.1) (ap (λ (e : Ext). (root_of script e.cause).0) (sym o.ext_is) ∙ b.root))

-- none after the first step
later_switch : (script : Script) (exts : List Ext) → IsGroup script → (v : ℕ) (before : List Ext) (ext : Ext) (later : List Ext) → exts ≡ before ++ ext ∷ later
    → (b : HandlerStep) (own : List HandlerStep) → Own before ext own → IsTrace script exts (own ++ b ∷ trace script before)
    → Each (λ (x : HandlerStep). switch_here v x ≡ false) own
later_switch script exts group v before ext later is b [] all t = tt
later_switch script exts group v before ext later is b (x ∷ own) all t =
    (go (switching v x), later_switch script exts group v before ext later is b own all.1 t.1)
  where
    past : List HandlerStep
    past = own ++ b ∷ trace script before

    go : Switching v x ⊎ (switch_here v x ≡ false) → switch_here v x ≡ false
    go (inr e) = e
    go (inl s) =
        let begun : SwitchBegin script exts past x t.0 = switch_begin script exts group v past x t.1 t.0 s.at s.begins in
        let o : Of script before ext past x t.0.before t.0.ext = of script exts before ext later is past x t.0 all.0.0 in
        let same : past ≡ trace script before = begun.first ∙ ap (λ (xs : List Ext). trace script xs) o.before_is in
        let len : length past ≡ length (trace script before) = ap (λ (zs : List HandlerStep). length zs) same in
        absurd (omega (arith, len, length-append own (b ∷ trace script before)))

pub record LastOf (own : List HandlerStep) : Type 0 where
  pub front : List HandlerStep
  pub last : HandlerStep
  pub is : own ≡ front ++ last ∷ []

last_of : (own : List HandlerStep) → own ≢ [] → LastOf own
last_of [] ne = absurd (ne refl)
last_of (x ∷ []) ne = record { front = []; last = x; is = refl }
last_of (x ∷ y ∷ own) ne =
    let l : LastOf (y ∷ own) = last_of (y ∷ own) (λ e. cc) in
    record { front = x ∷ l.front; last = l.last; is = ap (λ (zs : List HandlerStep). x ∷ zs) l.is }

-- the first step of a rebinding begins it
first_switch : (script : Script) (exts : List Ext) → IsGroup script → (before : List Ext) (ext : Ext) (later : List Ext) → exts ≡ before ++ ext ∷ later
    → root_of script ext.cause ≡ event 18 → (b : HandlerStep) → b.comp ≡ length before → b.node ≡ ext.node.0 → (f : FollowsIn script exts (trace script before) b)
    → Each (λ (y : HandlerStep). y.comp < length before) (trace script before) → switch_here ext.node.0 b ≡ true
first_switch script exts group before ext later is root b comp node f earlier = go (trace script before) refl f.follows.next
  where
    S : Setting
    S = setting f

    o : Of script before ext (trace script before) b f.before f.ext
    o = of script exts before ext later is (trace script before) b f comp

    eighteen : S.root.0 ≡ 18
    eighteen = ap (λ (e : Ext). (root_of script e.cause).0) o.ext_is ∙ ap (λ (e : EventId). e.0) root

    begun : BeginsFirst S S.root S.arg b.call b.moment → switch_here ext.node.0 b ≡ true
    begun first =
        let both : b.call.handler ∷ first.others ≡ handler 6 2 ∷ [] = sym first.first ∙ (listed script exts group (trace script before) b f S.root).switched eighteen in
        let is : b.call.handler ≡ handler 6 2 = cc in
        let here : is_repl ext.node.0 b ≡ true = test_here ext.node.0 6 b (sym node, sym (ap (λ (h : HandlerId). h.micro.0) is)) in
        let moment : b.moment ≡ Moment.Begin 2 S.arg = first.moment ∙ ap (λ (h : HandlerId). Moment.Begin h.index S.arg) is in
        ap (λ (c : Bool). c && begins_switch b.moment) here ∙ ap begins_switch moment

    go : (past : List HandlerStep) → trace script before ≡ past → IsNextIn S (trace script before) b.call b.moment → switch_here ext.node.0 b ≡ true
    go [] e next = begun (subst (λ (zs : List HandlerStep). IsNextIn S zs b.call b.moment) e next).begins
    go (y ∷ past) e next = one (subst (λ (zs : List HandlerStep). IsNextIn S zs b.call b.moment) e next)
      where
        one : IsNext S y b.call b.moment ⊎ IsFirst S (y ∷ past) b.call b.moment → switch_here ext.node.0 b ≡ true
        one (inr first) = begun first.begins
        one (inl on) =
            let less : y.comp < length before = (subst (λ (zs : List HandlerStep). Each (λ (z : HandlerStep). z.comp < length before) zs) e earlier).0 in
            let same : y.comp ≡ length before = on.acts.comp ∙ ap (λ (xs : List Ext). length xs) o.before_is in
            absurd (omega (arith, less, same))

-- a rebinding is accepted
rebinding_accepted : (script : Script) (exts : List Ext) → IsGroupHistory script exts → (before : List Ext) (ext : Ext) (later : List Ext) → exts ≡ before ++ ext ∷ later
    → root_of script ext.cause ≡ event 18 → (rules_of script before ext).attempt [] None (root_of script ext.cause) ≡ Attempt.Accepts (handler 6 2) []
rebinding_accepted script exts history before ext later is root =
    ap (λ (d : Decl). attempt_all d [] None (resolve (table_of script (before ++ ext ∷ []) ext.node.0) (root_of script ext.cause))) (group_decl script history.group ext)
    ∙ ap (λ (hs : List HandlerId). attempt_all (Decl.Set (0 ∷ 1 ∷ 2 ∷ 3 ∷ 4 ∷ 5 ∷ 6 ∷ 7 ∷ [])) [] None hs)
    ((listed_of script history.group (before ++ ext ∷ []) ext.node.0 (root_of script ext.cause)).switched (ap (λ (e : EventId). e.0) root))

-- the rebindings of one computation
abbrev pub rebindings_of : ℕ → Ext → List Asking
rebindings_of v ext = if ext.node.0 == v then rebinding_of ext.cause ext.args ++ [] else []

own-front : (before : List Ext) (ext : Ext) (xs ys : List HandlerStep) → Own before ext (xs ++ ys) → Own before ext xs
own-front before ext [] ys all = tt
own-front before ext (x ∷ xs) ys all = (all.0, own-front before ext xs ys all.1)

counts : (v : ℕ) (x : HandlerStep) (past : List HandlerStep) → switch_here v x ≡ true → switches (repl_at v (x ∷ past)) ≡ suc (switches (repl_at v past))
counts v x past first = go (is_repl v x) (begins_switch x.moment) refl first
  where
    n : ℕ
    n = switches (repl_at v past)

    go : (a b : Bool) → begins_switch x.moment ≡ b → (a && b) ≡ true → switches (if a then repl_step_of x ∷ repl_at v past else repl_at v past) ≡ suc n
    go true true e f = ap (λ (c : Bool). if c then suc n else n) e
    go true false e f = cc
    go false b e f = cc

rebindings_none : (v : ℕ) (ext : Ext) → (ext.node.0 == v) ≡ false → length (rebindings_of v ext) ≡ 0
rebindings_none v ext e = ap (λ (b : Bool). length (if b then rebinding_of ext.cause ext.args ++ [] else [])) e

rebindings_here : (v : ℕ) (ext : Ext) (c : Reason) → (ext.node.0 == v) ≡ true → ext.cause ≡ c → rebindings_of v ext ≡ rebinding_of c ext.args ++ []
rebindings_here v ext c e is =
    ap (λ (b : Bool). if b then rebinding_of ext.cause ext.args ++ [] else []) e ∙ ap (λ (d : Reason). rebinding_of d ext.args ++ []) is

-- once the computation has made a step
pub count_in : (script : Script) (exts : List Ext) → IsGroupHistory script exts → (v : ℕ) (before : List Ext) (ext : Ext) (later : List Ext) → exts ≡ before ++ ext ∷ later
    → (own : List HandlerStep) → Own before ext own → IsTrace script exts (own ++ trace script before) → (IsRebinding script before ext → own ≢ [])
    → switches (repl_at v (own ++ trace script before)) ≡ switches (repl_at v (trace script before)) + length (rebindings_of v ext)
count_in script exts history v before ext later is own steps t some = go (eqb_tells ext.node.0 v) ext.cause refl
  where
    n : ℕ
    n = switches (repl_at v (trace script before))

    none : (v ≡ ext.node.0 → (root_of script ext.cause).0 ≡ 18 → ⊥) → switches (repl_at v (own ++ trace script before)) ≡ n
    none other = quiet-switches v own (trace script before) (none_switch script exts history.group v before ext later is other own steps t)

    one : v ≡ ext.node.0 → IsRebinding script before ext → switches (repl_at v (own ++ trace script before)) ≡ suc n
    one at r =
        let root : root_of script ext.cause ≡ event 18 = rebinding_root script exts history before ext later is r in
        let l : LastOf own = last_of own (some r) in
        let split : own ++ trace script before ≡ l.front ++ l.last ∷ trace script before =
        ap (λ (zs : List HandlerStep). zs ++ trace script before) l.is ∙ append_assoc l.front (l.last ∷ []) (trace script before) in
        let whole : IsTrace script exts (l.front ++ l.last ∷ trace script before) = subst (IsTrace script exts) split t in
        let owned : Own before ext (l.front ++ l.last ∷ []) = subst (λ (zs : List HandlerStep). Own before ext zs) l.is steps in
        let mine : (l.last.comp ≡ length before) × (l.last.node ≡ ext.node.0) = each_in _ (l.front ++ l.last ∷ []) l.last owned (in_middle l.last l.front []) in
        let f : IsTrace script exts (l.last ∷ trace script before) = trace-rest script exts l.front (l.last ∷ trace script before) whole in
        let p : Point script exts before = point_at script exts before (ext ∷ later) is in
        let first : switch_here v l.last ≡ true =
        subst (λ (u : ℕ). switch_here u l.last ≡ true) (sym at) (first_switch script exts history.group before ext later is root l.last mine.0 mine.1 f.0 p.comps) in
        ap (λ (zs : List HandlerStep). switches (repl_at v zs)) split
        ∙ (quiet-switches v l.front (l.last ∷ trace script before) (later_switch script exts history.group v before ext later is l.last l.front (own-front before ext l.front (l.last ∷ []) owned) whole)
        ∙ counts v l.last (trace script before) first)

    go : ((ext.node.0 == v) ≡ true) × (ext.node.0 ≡ v) ⊎ ((ext.node.0 == v) ≡ false) × (ext.node.0 ≢ v) → (c : Reason) → ext.cause ≡ c
        → switches (repl_at v (own ++ trace script before)) ≡ n + length (rebindings_of v ext)
    go (inr away) c e = let zero_is : length (rebindings_of v ext) ≡ 0 = rebindings_none v ext away.0 in none (λ at root. away.1 (sym at)) ∙ omega (arith, zero_is)
    go (inl here) (Reason.Change change) e =
        let len : length (rebindings_of v ext) ≡ 1 = ap (λ (rs : List Asking). length rs) (rebindings_here v ext (Reason.Change change) here.0 e) in
        one (sym here.1) (changes (history.allowed before ext later is)) ∙ omega (arith, len)
      where
        free : (ev : EventId) → ext.cause ≡ Reason.Event ev → IsRebinding script before ext
        free ev f = absurd (let both : Reason.Change change ≡ Reason.Event ev = sym e ∙ f in cc)

        changes : IsFree ext.cause ⊎ (IsWire script before ext ⊎ IsRebinding script before ext) → IsRebinding script before ext
        changes (inl (inl f)) = free (event 14) f
        changes (inl (inr (inl f))) = free (event 15) f
        changes (inl (inr (inr (inl f)))) = free (event 16) f
        changes (inl (inr (inr (inr (inl f))))) = free (event 17) f
        changes (inl (inr (inr (inr (inr out))))) = absurd out
        changes (inr (inl wire)) = free (event 0) wire.cause
        changes (inr (inr r)) = r
    go (inl here) (Reason.Event ev) e =
        let len : length (rebindings_of v ext) ≡ 0 = ap (λ (rs : List Asking). length rs) (rebindings_here v ext (Reason.Event ev) here.0 e) in
        none (λ at root.
        let r : IsRebinding script before ext = is_rebinding script exts history before ext later is root in
        absurd (let both : Reason.Event ev ≡ Reason.Change r.change = sym e ∙ r.cause in cc)) ∙ omega (arith, len)

-- one more computation
count_one : (script : Script) (exts : List Ext) → IsGroupHistory script exts → (v : ℕ) (before : List Ext) (ext : Ext) (later : List Ext) → exts ≡ before ++ ext ∷ later
    → switches (repl_at v (trace script (before ++ ext ∷ []))) ≡ switches (repl_at v (trace script before)) + length (rebindings_of v ext)
count_one script exts history v before ext later is =
    ap (λ (zs : List HandlerStep). switches (repl_at v zs)) a.over
    ∙ count_in script exts history v before ext later is a.own a.own_steps (subst (IsTrace script exts) a.over a.point.fact)
    (λ r. adds_some script exts before ext (handler 6 2) [] a
    (rebinding_accepted script exts history before ext later is (rebinding_root script exts history before ext later is r)))
  where
    a : Adds script exts before ext
    a = adds_at script exts before ext later is

-- as many rebindings began as there are
counts_from : (script : Script) (exts : List Ext) → IsGroupHistory script exts → (v : ℕ) (before later more : List Ext) → exts ≡ (before ++ later) ++ more
    → switches (repl_at v (trace script before)) ≡ length (rebindings_at v before)
    → switches (repl_at v (trace script (before ++ later))) ≡ length (rebindings_at v (before ++ later))
counts_from script exts history v before [] more is h = subst (λ (xs : List Ext). switches (repl_at v (trace script xs)) ≡ length (rebindings_at v xs)) (sym (append-nil before)) h
counts_from script exts history v before (ext ∷ later) more is h =
    subst (λ (xs : List Ext). switches (repl_at v (trace script xs)) ≡ length (rebindings_at v xs)) (append_assoc before (ext ∷ []) later)
    (counts_from script exts history v (before ++ ext ∷ []) later more (is ∙ ap (λ (xs : List Ext). xs ++ more) (sym (append_assoc before (ext ∷ []) later)))
    (count_one script exts history v before ext (later ++ more) (is ∙ append_assoc before (ext ∷ later) more)
    ∙ (ap (λ (n : ℕ). n + length (rebindings_of v ext)) h
    ∙ (sym (length-append (rebindings_at v before) (rebindings_of v ext)) ∙ ap (λ (rs : List Asking). length rs) (sym (rebindings_at-append v before (ext ∷ [])))))))

pub switch_count : (script : Script) (exts : List Ext) → IsGroupHistory script exts → (v : ℕ) (before later : List Ext) → exts ≡ before ++ later
    → switches (repl_at v (trace script before)) ≡ length (rebindings_at v before)
switch_count script exts history v before later is = counts_from script exts history v [] before later is refl

-- within a computation that has made a step
pub switch_count_in : (script : Script) (exts : List Ext) → IsGroupHistory script exts → (v : ℕ) (past : List HandlerStep) (y : HandlerStep) → IsTrace script exts (y ∷ past)
    → (f : FollowsIn script exts past y) → switches (repl_at v (y ∷ past)) ≡ length (rebindings_at v (f.before ++ f.ext ∷ []))
switch_count_in script exts history v past y t f =
    ap (λ (zs : List HandlerStep). switches (repl_at v (y ∷ zs))) f.over
    ∙ (count_in script exts history v f.before f.ext f.later f.admitted (y ∷ f.own) ((f.follows.comp, f.follows.node), f.own_steps)
    (subst (λ (zs : List HandlerStep). IsTrace script exts (y ∷ zs)) f.over t) (λ r e. absurd (cc))
    ∙ (ap (λ (n : ℕ). n + length (rebindings_of v f.ext)) (switch_count script exts history v f.before (f.ext ∷ f.later) f.admitted)
    ∙ (sym (length-append (rebindings_at v f.before) (rebindings_of v f.ext)) ∙ ap (λ (rs : List Asking). length rs) (sym (rebindings_at-append v f.before (f.ext ∷ []))))))
