-- The claims of the group stack are kept by each of its steps.
use Rattle.std.proofs.Common.{◌≡◌, ◌≢◌, ◌≤◌, ◌⊎◌, ℕ, zero, suc, ◌+◌, inl, inr, refl, sym, ap, subst, ◌∙◌, arith, List, [], ◌∷◌, length, take, drop, true}
use Rattle.samoa_model.specs.declared.handler.Moment.{Moment}
use Rattle.samoa_model.specs.declared.handler.Outcome.{Outcome}
use Rattle.samoa_model.specs.declared.handler.Reply.{Reply}
use Rattle.samoa_model.specs.declared.ids.EventId.{EventId}
use Rattle.samoa_model.specs.declared.ids.HandlerId.{HandlerId}
use Rattle.samoa_model.specs.declared.record.Ext.{Ext}
use Rattle.samoa_model.specs.declared.script.Script.{Script}
use Rattle.samoa_model.specs.declared.setup.Setup.{Setup}
use Rattle.samoa_serial.specs.declared.call.Call.{Call}
use Rattle.samoa_serial.specs.Rows.{V, dest_of, port_at, word, message_words}
use Rattle.samoa_serial.specs.Lists.{Each}
use Rattle.samoa_laws.specs.trace.Trace.{HandlerStep, micro_of}
use Rattle.samoa_laws.specs.trace.Causes.{Cause, FollowsIn, Setting}
use Rattle.samoa_laws.specs.trace.Group.{IsGroup, event, handler}
use Rattle.samoa_laws.specs.transport.Transport.{IsCalled, IsCast, owner}
use Rattle.samoa_laws.proofs.transport.Claims.{HasArrived, Hears, IsAsked, IsGood, IsGoodCall, Passes, called-more, good_resume, group_claims, is_cast-more, may_begin, other_call, told-more}
use Rattle.samoa_laws.proofs.trace.Guarantee.{MayGoOn, Owes}
use Rattle.samoa_laws.proofs.trace.Shapes.{AbCasts, AbHandsOn, AbNothing, AbProposes, AbSays, Asks, AtPort, Casts, ConsAnnounces, ConsDecides, ConsNothing, ConsSays, ConsTells, Hands, HandsUp, IsDone, IsQuiet, LinkShape, Quiet, RbShape, Relays, Rests, Sends, Silent, Talks}
use Rattle.samoa_serial.proofs.ListLaws.{each_in}
use Rattle.samoa_laws.proofs.trace.Steps.{setting}
use Rattle.samoa_laws.proofs.trace.Worlds.{group_setup}

-- the moment of a step is its handler's
pub data IsMomentOf (h : HandlerId) (m : Moment) : Type 0 where
  Begins : (arg : List ℕ) → m ≡ Moment.Begin h.index arg → IsMomentOf h m
  Resumes : (frame : List ℕ) (reply : Reply) → m ≡ Moment.Resume h.index frame reply → IsMomentOf h m

pub moment_of : (S : Setting) (past : List HandlerStep) (c : Call) (m : Moment) → Cause S past c m → IsMomentOf c.handler m
moment_of S past c m (Cause.Root root) = Begins S.arg root.moment
moment_of S past c m (Cause.Called y there calls) = Begins calls.arg calls.moment
moment_of S past c m (Cause.Deferred y there calls) = Begins calls.arg calls.moment
moment_of S past c m (Cause.Resumed r) = Resumes r.goes_on.frame r.goes_on.reply r.goes_on.moment

pub begin_index : (h : HandlerId) (m : Moment) (i : ℕ) (arg : List ℕ) → IsMomentOf h m → m ≡ Moment.Begin i arg → h.index ≡ i
begin_index h m i arg (Begins a e) is = let both : Moment.Begin h.index a ≡ Moment.Begin i arg = sym e ∙ is in cc
begin_index h m i arg (Resumes f r e) is = let both : Moment.Resume h.index f r ≡ Moment.Begin i arg = sym e ∙ is in cc

pub resume_index : (h : HandlerId) (m : Moment) (i : ℕ) (frame : List ℕ) (reply : Reply) → IsMomentOf h m → m ≡ Moment.Resume i frame reply → h.index ≡ i
resume_index h m i frame reply (Begins a e) is = let both : Moment.Begin h.index a ≡ Moment.Resume i frame reply = sym e ∙ is in cc
resume_index h m i frame reply (Resumes f r e) is = let both : Moment.Resume h.index f r ≡ Moment.Resume i frame reply = sym e ∙ is in cc

pub handler_is : (h : HandlerId) (p i : ℕ) → h.micro.0 ≡ p → h.index ≡ i → h ≡ handler p i
handler_is h p i e e' = ap (λ (q : ℕ). handler q h.index) e ∙ ap (λ (j : ℕ). handler p j) e'

take_all : (n : ℕ) (xs : List ℕ) → length xs ≤ n → take n xs ≡ xs
take_all n [] le = take_nil n
  where
    take_nil : (n : ℕ) → take n (let none : List ℕ = [] in none) ≡ []
    take_nil zero = refl
    take_nil (suc n) = refl
take_all zero (x ∷ xs) le = absurd (omega arith)
take_all (suc n) (x ∷ xs) le = ap (λ (ys : List ℕ). x ∷ ys) (take_all n xs (omega arith))

length-take : (n : ℕ) (xs : List ℕ) → length (take n xs) ≤ n
length-take zero xs = omega arith
length-take (suc n) [] = omega arith
length-take (suc n) (x ∷ xs) = let ih = length-take n xs in omega arith

-- what is known of a step: it is in the group stack, and its moment is good
pub record Stepping (script : Script) (exts : List Ext) (past : List HandlerStep) (x : HandlerStep) : Type 0 where
  pub group : IsGroup script
  pub follows : FollowsIn script exts past x
  pub good : IsGood script past x.node x.call.handler x.moment

-- what is owed
abbrev pub OwesAll : {script : Script} {exts : List Ext} {past : List HandlerStep} {x : HandlerStep} → Stepping script exts past x → Outcome → Type 0
OwesAll {script} {exts} {past} {x} s o = Owes (group_claims script) (setting s.follows).handlers (x ∷ past) x.node x.call.handler o

owes_quiet : (script : Script) (exts : List Ext) (past : List HandlerStep) (x : HandlerStep) (s : Stepping script exts past x)
    → ((frame : List ℕ) → MayGoOn (group_claims script) (x ∷ past) x.node x.call.handler frame) → (o : Outcome) → IsQuiet o → OwesAll s o
owes_quiet script exts past x s on (Outcome.Done reply) q = tt
owes_quiet script exts past x s on (Outcome.Deliver arg frame) q = on frame
owes_quiet script exts past x s on (Outcome.Change change arg frame) q = on frame
owes_quiet script exts past x s on (Outcome.Call event arg frame) q = absurd q
owes_quiet script exts past x s on (Outcome.Later event arg frame) q = absurd q
owes_quiet script exts past x s on (Outcome.Send to event arg frame) q = absurd q

-- a call of an event, good for whatever stands there
owes_call : (script : Script) (exts : List Ext) (past : List HandlerStep) (x : HandlerStep) (s : Stepping script exts past x) (e : EventId) (arg frame : List ℕ)
    → IsGoodCall script (x ∷ past) x.node e.0 arg → MayGoOn (group_claims script) (x ∷ past) x.node x.call.handler frame
    → (o : Outcome) → o ≡ Outcome.Call e arg frame → OwesAll s o
owes_call script exts past x s e arg frame call on o is =
    subst (λ (p : Outcome). OwesAll s p) (sym is) (may_begin script exts s.group past x s.follows (x ∷ past) e arg call, on)

-- a call of `send`
send_call : (script : Script) (past : List HandlerStep) (v : ℕ) (arg : List ℕ) → IsAsked past v arg → IsGoodCall script past v 1 arg
send_call script past v arg asked = record { send = λ i. asked; get = λ i. absurd (omega arith); hear = λ chan le i. absurd (omega arith); up = λ i. absurd (omega arith); cast = λ i. absurd (omega arith) }

up_call : (script : Script) (past : List HandlerStep) (v : ℕ) (arg : List ℕ) → IsCast past arg → IsGoodCall script past v 7 arg
up_call script past v arg cast = record { send = λ i. absurd (omega arith); get = λ i. absurd (omega arith); hear = λ chan le i. absurd (omega arith); up = λ i. cast; cast = λ i. absurd (omega arith) }

-- the ports of these numbers call events that nothing is owed to
abbrev AreOther : Setup → List ℕ → Type 0
AreOther setup ports = Each (λ (port : ℕ). ((port_at setup port).0 ≡ 6) ⊎ (9 ≤ (port_at setup port).0)) ports

pub asks_owes : (script : Script) (exts : List Ext) (past : List HandlerStep) (x : HandlerStep) (s : Stepping script exts past x) → micro_of x ≢ 2
    → (setup : Setup) (ports : List ℕ) → AreOther setup ports → (o : Outcome) → Asks setup ports o → OwesAll s o
asks_owes script exts past x s ne setup ports other o (Quiet q) =
    owes_quiet script exts past x s (λ frame. good_resume script (x ∷ past) x.node x.call.handler frame ne) o q
asks_owes script exts past x s ne setup ports other o (AtPort port i arg frame is) =
    owes_call script exts past x s (port_at setup port) arg frame (other_call script (x ∷ past) x.node _ arg (each_in _ ports port other i))
    (good_resume script (x ∷ past) x.node x.call.handler frame ne) o is

pub talks_owes : (script : Script) (exts : List Ext) (past : List HandlerStep) (x : HandlerStep) (s : Stepping script exts past x) → micro_of x ≢ 2
    → (chan : ℕ) → chan ≤ 3 → chan ≢ 1 → micro_of x ≡ owner chan
    → (setup : Setup) (ports : List ℕ) → AreOther setup ports → port_at setup 0 ≡ event 1 → V setup 0 ≡ chan
    → x.effective ≡ true → Talks setup ports x.outcome → OwesAll s x.outcome
talks_owes script exts past x s ne chan le free micro setup ports other port own effective (inr asks) = asks_owes script exts past x s ne setup ports other x.outcome asks
talks_owes script exts past x s ne chan le free micro setup ports other port own effective (inl tells) =
    let is : x.outcome ≡ Outcome.Call (event 1) (tells.to ∷ chan ∷ tells.words) tells.frame =
    tells.is ∙ (ap (λ (e : EventId). Outcome.Call e (tells.to ∷ V setup 0 ∷ tells.words) tells.frame) port
    ∙ ap (λ (c : ℕ). Outcome.Call (event 1) (tells.to ∷ c ∷ tells.words) tells.frame) own) in
    owes_call script exts past x s (event 1) (tells.to ∷ chan ∷ tells.words) tells.frame
    (send_call script (x ∷ past) x.node _ (record {
      to = tells.to;
      chan = chan;
      words = tells.words;
      is = refl;
      told = record {
        step = x;
        there = inl refl;
        at = refl;
        micro = micro;
        effective = effective;
        frame = tells.frame;
        outcome = is;
        known = le;
        short = tells.short;
        content = λ e. absurd (free e);
      };
    }))
    (good_resume script (x ∷ past) x.node x.call.handler tells.frame ne) x.outcome is

cast_call : (script : Script) (past : List HandlerStep) (v : ℕ) (arg : List ℕ) → IsCalled past v arg → IsGoodCall script past v 8 arg
cast_call script past v arg called =
    record { send = λ i. absurd (omega arith); get = λ i. absurd (omega arith); hear = λ chan le i. absurd (omega arith); up = λ i. absurd (omega arith); cast = λ i. called }

owes_done : (script : Script) (exts : List Ext) (past : List HandlerStep) (x : HandlerStep) (s : Stepping script exts past x) (o : Outcome) → IsDone o → OwesAll s o
owes_done script exts past x s (Outcome.Done reply) d = tt
owes_done script exts past x s (Outcome.Deliver arg frame) d = absurd d
owes_done script exts past x s (Outcome.Change change arg frame) d = absurd d
owes_done script exts past x s (Outcome.Call event arg frame) d = absurd d
owes_done script exts past x s (Outcome.Later event arg frame) d = absurd d
owes_done script exts past x s (Outcome.Send to event arg frame) d = absurd d

-- the step is at consensus
pub cons_owes : (script : Script) (exts : List Ext) (past : List HandlerStep) (x : HandlerStep) (s : Stepping script exts past x) → micro_of x ≡ 3 → x.effective ≡ true
    → ConsSays (group_setup script.nodes x.node 3) x.outcome → OwesAll s x.outcome
cons_owes script exts past x s micro effective (ConsNothing d) = owes_done script exts past x s x.outcome d
cons_owes script exts past x s micro effective (ConsTells to tag b ts m frame is) =
    talks_owes script exts past x s (λ e. absurd (omega arith)) 2 (omega arith) (λ e. absurd (omega arith)) micro (group_setup script.nodes x.node 3) [] tt refl refl effective
    (inl (record { to = to; words = tag ∷ b.instance ∷ b.round ∷ ts ∷ message_words m; frame = take 12 frame; is = is; short = omega arith }))
cons_owes script exts past x s micro effective (ConsAnnounces instance m is) =
    owes_call script exts past x s (event 8) (1 ∷ instance ∷ message_words m) []
    (cast_call script (x ∷ past) x.node _
    (record { step = x; there = inl refl; at = refl; effective = effective; frame = []; outcome = is; by = inl (micro, refl) }))
    (good_resume script (x ∷ past) x.node x.call.handler [] (λ e. absurd (omega arith))) x.outcome is
cons_owes script exts past x s micro effective (ConsDecides instance m is) =
    owes_call script exts past x s (event 9) (instance ∷ message_words m) [] (other_call script (x ∷ past) x.node 9 _ (inr (omega arith)))
    (good_resume script (x ∷ past) x.node x.call.handler [] (λ e. absurd (omega arith))) x.outcome is

-- the step is at the broadcast through consensus
pub ab_owes : (script : Script) (exts : List Ext) (past : List HandlerStep) (x : HandlerStep) (s : Stepping script exts past x) → micro_of x ≡ 4 → x.effective ≡ true
    → AbSays (group_setup script.nodes x.node 4) x.outcome → OwesAll s x.outcome
ab_owes script exts past x s micro effective (AbNothing d) = owes_done script exts past x s x.outcome d
ab_owes script exts past x s micro effective (AbCasts m is) =
    owes_call script exts past x s (event 8) (0 ∷ message_words m) (0 ∷ [])
    (cast_call script (x ∷ past) x.node _
    (record { step = x; there = inl refl; at = refl; effective = effective; frame = 0 ∷ []; outcome = is; by = inr (micro, refl) }))
    (good_resume script (x ∷ past) x.node x.call.handler (0 ∷ []) (λ e. absurd (omega arith))) x.outcome is
ab_owes script exts past x s micro effective (AbProposes instance m is) =
    owes_call script exts past x s (event 10) (instance ∷ message_words m) (0 ∷ []) (other_call script (x ∷ past) x.node 10 _ (inr (omega arith)))
    (good_resume script (x ∷ past) x.node x.call.handler (0 ∷ []) (λ e. absurd (omega arith))) x.outcome is
ab_owes script exts past x s micro effective (AbHandsOn instance m is) =
    owes_call script exts past x s (event 11) (message_words m) (1 ∷ instance ∷ []) (other_call script (x ∷ past) x.node 11 _ (inr (omega arith)))
    (good_resume script (x ∷ past) x.node x.call.handler (1 ∷ instance ∷ []) (λ e. absurd (omega arith))) x.outcome is

link_port : (nodes v chan : ℕ) → chan ≤ 3 → port_at (group_setup nodes v 0) (chan + 1) ≡ event (chan + 2)
link_port nodes v zero le = refl
link_port nodes v (suc zero) le = refl
link_port nodes v (suc (suc zero)) le = refl
link_port nodes v (suc (suc (suc zero))) le = refl
link_port nodes v (suc (suc (suc (suc chan)))) le = absurd (omega arith)

-- what the link hands on
hear_call : (script : Script) (past : List HandlerStep) (v chan : ℕ) (arg : List ℕ) → chan ≤ 3 → Hears script past v chan arg → IsGoodCall script past v (chan + 2) arg
hear_call script past v chan arg le hears = record {
  send = λ i. absurd (omega arith);
  get = λ i. absurd (omega arith);
  hear = λ c most i. let same : chan ≡ c = omega arith in subst (λ (n : ℕ). Hears script past v n arg) same hears;
  up = λ i. absurd (omega arith);
  cast = λ i. absurd (omega arith);
}

-- the step is at the link
pub link_owes : (script : Script) (exts : List Ext) (past : List HandlerStep) (x : HandlerStep) (s : Stepping script exts past x) → micro_of x ≡ 0
    → LinkShape (group_setup script.nodes x.node 0) x.moment x.outcome → OwesAll s x.outcome
link_owes script exts past x s micro (Silent q) =
    owes_quiet script exts past x s (λ frame. good_resume script (x ∷ past) x.node x.call.handler frame (λ e. absurd (omega arith))) x.outcome q
link_owes script exts past x s micro (Sends arg begun is) =
    let h : HandlerId = x.call.handler in
    let setup : Setup = group_setup script.nodes x.node 0 in
    let index : h.index ≡ 0 = begin_index h x.moment 0 arg (moment_of _ past x.call x.moment s.follows.follows.cause) begun in
    let asked : IsAsked past x.node arg = s.good.send arg (handler_is h 0 0 micro index) begun in
    let whole : take 10 asked.words ≡ asked.words = take_all 10 asked.words asked.told.short in
    let out : x.outcome ≡ Outcome.Send (dest_of setup asked.to) (event 0) (x.node ∷ asked.chan ∷ asked.words) [] =
    is ∙ (ap (λ (a : List ℕ). Outcome.Send (dest_of setup (word a 0)) (event 0) (take 12 (x.node ∷ word a 1 ∷ drop 2 a)) []) asked.is
    ∙ ap (λ (ws : List ℕ). Outcome.Send (dest_of setup asked.to) (event 0) (x.node ∷ asked.chan ∷ ws) []) whole) in
    subst (λ (o : Outcome). OwesAll s o) (sym out) (
      λ wire. record {
        to = asked.to;
        chan = asked.chan;
        words = asked.words;
        is = refl;
        told = told-more x past x.node asked.to asked.chan asked.words asked.told;
        dest_is = refl;
      },
      good_resume script (x ∷ past) x.node h [] (λ e. absurd (omega arith)),
    )
link_owes script exts past x s micro (Hands arg begun lt is) =
    let h : HandlerId = x.call.handler in
    let setup : Setup = group_setup script.nodes x.node 0 in
    let index : h.index ≡ 1 = begin_index h x.moment 1 arg (moment_of _ past x.call x.moment s.follows.follows.cause) begun in
    let a : HasArrived script past x.node arg = s.good.get arg (handler_is h 0 1 micro index) begun in
    let short : length a.words ≤ 10 = a.told.short in
    let whole : take 11 a.words ≡ a.words = take_all 11 a.words (omega arith) in
    let out : x.outcome ≡ Outcome.Call (event (a.chan + 2)) (a.from ∷ a.words) [] =
    is ∙ (ap (λ (b : List ℕ). Outcome.Call (port_at setup (word b 1 + 1)) (take 12 (word b 0 ∷ drop 2 b)) []) a.is
    ∙ (ap (λ (ws : List ℕ). Outcome.Call (port_at setup (a.chan + 1)) (a.from ∷ ws) []) whole
    ∙ ap (λ (e : EventId). Outcome.Call e (a.from ∷ a.words) []) (link_port script.nodes x.node a.chan a.told.known))) in
    owes_call script exts past x s (event (a.chan + 2)) (a.from ∷ a.words) []
    (hear_call script (x ∷ past) x.node a.chan _ a.told.known
    (record { from = a.from; to = a.to; words = a.words; is = refl; told = told-more x past a.from a.to a.chan a.words a.told; here = a.here }))
    (good_resume script (x ∷ past) x.node h [] (λ e. absurd (omega arith))) x.outcome out

-- reliable broadcast passes on what was cast
passes_on : (script : Script) (exts : List Ext) (past : List HandlerStep) (x : HandlerStep) (s : Stepping script exts past x) → micro_of x ≡ 2 → x.effective ≡ true
    → (origin number : ℕ) (rest : List ℕ) → IsCast (x ∷ past) (origin ∷ number ∷ rest) → length rest ≤ 8
    → x.outcome ≡ Outcome.Call (event 1) (take 12 (script.nodes ∷ 1 ∷ origin ∷ number ∷ rest)) (take 12 (1 ∷ origin ∷ number ∷ rest))
    → OwesAll s x.outcome
passes_on script exts past x s micro effective origin number rest cast short is =
    let words : List ℕ = origin ∷ number ∷ rest in
    let eight : take 8 rest ≡ rest = take_all 8 rest short in
    let nine : take 9 rest ≡ rest = take_all 9 rest (omega arith) in
    let out : x.outcome ≡ Outcome.Call (event 1) (script.nodes ∷ 1 ∷ origin ∷ number ∷ rest) (1 ∷ origin ∷ number ∷ rest) =
    is ∙ (ap (λ (ws : List ℕ). Outcome.Call (event 1) (script.nodes ∷ 1 ∷ origin ∷ number ∷ ws) (1 ∷ origin ∷ number ∷ take 9 rest)) eight
    ∙ ap (λ (ws : List ℕ). Outcome.Call (event 1) (script.nodes ∷ 1 ∷ origin ∷ number ∷ rest) (1 ∷ origin ∷ number ∷ ws)) nine) in
    owes_call script exts past x s (event 1) (script.nodes ∷ 1 ∷ words) (1 ∷ words)
    (send_call script (x ∷ past) x.node _ (record {
      to = script.nodes;
      chan = 1;
      words = words;
      is = refl;
      told = record {
        step = x;
        there = inl refl;
        at = refl;
        micro = micro;
        effective = effective;
        frame = 1 ∷ words;
        outcome = out;
        known = omega arith;
        short = omega arith;
        content = λ e. cast;
      };
    }))
    (λ reply. record {
      send = λ arg h m. cc;
      get = λ arg h m. cc;
      hear = λ chan le arg h m. cc;
      pass = λ i frame r h m one. record { words = words; is = resume_frame _ _ _ _ _ _ (sym m); cast = cast };
      up = λ arg h m. cc;
      cast = λ arg h m. cc;
    }) x.outcome out
  where
    resume_frame : (i j : ℕ) (f g : List ℕ) (r q : Reply) → Moment.Resume i f r ≡ Moment.Resume j g q → f ≡ g
    resume_frame i j f g r q e = cc

-- the step is at reliable broadcast
pub rb_owes : (script : Script) (exts : List Ext) (past : List HandlerStep) (x : HandlerStep) (s : Stepping script exts past x) → micro_of x ≡ 2 → x.effective ≡ true
    → RbShape (group_setup script.nodes x.node 2) x.moment x.outcome → OwesAll s x.outcome
rb_owes script exts past x s micro effective (Rests done) = owes_done script exts past x s x.outcome done
rb_owes script exts past x s micro effective (Casts arg begun number is) =
    let h : HandlerId = x.call.handler in
    let index : h.index ≡ 0 = begin_index h x.moment 0 arg (moment_of _ past x.call x.moment s.follows.follows.cause) begun in
    let short : length (take 8 arg) ≤ 8 = length-take 8 arg in
    passes_on script exts past x s micro effective x.node number (take 8 arg)
    (record {
      origin = x.node;
      number = number;
      rest = take 8 arg;
      is = refl;
      cast = record {
        step = x;
        there = inl refl;
        cast = handler_is h 2 0 micro index;
        arg = arg;
        moment = begun;
        first = refl;
        called = called-more x past x.node arg (s.good.cast arg (handler_is h 2 0 micro index) begun);
      };
      short = short;
    }) short is
rb_owes script exts past x s micro effective (Relays arg begun is) =
    let h : HandlerId = x.call.handler in
    let index : h.index ≡ 1 = begin_index h x.moment 1 arg (moment_of _ past x.call x.moment s.follows.follows.cause) begun in
    let hears : Hears script past x.node 1 arg = s.good.hear 1 (omega arith) arg (handler_is h 2 1 micro index) begun in
    let cast : IsCast past hears.words = hears.told.content refl in
    let arg_is : arg ≡ hears.from ∷ cast.origin ∷ cast.number ∷ cast.rest = hears.is ∙ ap (λ (ws : List ℕ). hears.from ∷ ws) cast.is in
    let whole : take 8 cast.rest ≡ cast.rest = take_all 8 cast.rest cast.short in
    let now : IsCast (x ∷ past) (cast.origin ∷ cast.number ∷ cast.rest) = is_cast-more x past _ (subst (λ (ws : List ℕ). IsCast past ws) cast.is cast) in
    passes_on script exts past x s micro effective cast.origin cast.number cast.rest now cast.short
    (is ∙ (ap (λ (a : List ℕ). Outcome.Call (event 1) (take 12 (script.nodes ∷ 1 ∷ word a 1 ∷ word a 2 ∷ take 8 (drop 3 a))) (take 12 (1 ∷ word a 1 ∷ word a 2 ∷ take 8 (drop 3 a)))) arg_is
    ∙ ap (λ (ws : List ℕ). Outcome.Call (event 1) (take 12 (script.nodes ∷ 1 ∷ cast.origin ∷ cast.number ∷ ws)) (take 12 (1 ∷ cast.origin ∷ cast.number ∷ ws))) whole))
rb_owes script exts past x s micro effective (HandsUp i frame reply resumed one next two is) =
    let h : HandlerId = x.call.handler in
    let index : h.index ≡ i = resume_index h x.moment i frame reply (moment_of _ past x.call x.moment s.follows.follows.cause) resumed in
    let p : Passes past frame = s.good.pass i frame reply (handler_is h 2 i micro index) resumed one in
    let cast : IsCast past p.words = p.cast in
    let short : length cast.rest ≤ 8 = cast.short in
    let frame_is : frame ≡ 1 ∷ cast.origin ∷ cast.number ∷ cast.rest = p.is ∙ ap (λ (ws : List ℕ). 1 ∷ ws) cast.is in
    let whole : take 10 cast.rest ≡ cast.rest = take_all 10 cast.rest (omega arith) in
    let now : IsCast (x ∷ past) (cast.origin ∷ cast.number ∷ cast.rest) = is_cast-more x past _ (subst (λ (ws : List ℕ). IsCast past ws) cast.is cast) in
    let out : x.outcome ≡ Outcome.Call (event 7) (cast.origin ∷ cast.number ∷ cast.rest) next =
    is ∙ (ap (λ (f : List ℕ). Outcome.Call (event 7) (take 12 (word f 1 ∷ word f 2 ∷ drop 3 f)) next) frame_is
    ∙ ap (λ (ws : List ℕ). Outcome.Call (event 7) (cast.origin ∷ cast.number ∷ ws) next) whole) in
    owes_call script exts past x s (event 7) (cast.origin ∷ cast.number ∷ cast.rest) next (up_call script (x ∷ past) x.node _ now)
    (λ answer. record {
      send = λ arg e m. cc;
      get = λ arg e m. cc;
      hear = λ chan le arg e m. cc;
      pass = λ j f r e m first. absurd (not_one f (resume_frame _ _ _ _ _ _ m) first);
      up = λ arg e m. cc;
      cast = λ arg e m. cc;
    }) x.outcome out
  where
    resume_frame : (i j : ℕ) (f g : List ℕ) (r q : Reply) → Moment.Resume i f r ≡ Moment.Resume j g q → f ≡ g
    resume_frame i j f g r q e = cc

    not_one : (f : List ℕ) → next ≡ f → word f 0 ≡ 1 → ⊥
    not_one f same first = let both : word next 0 ≡ word f 0 = ap (λ (g : List ℕ). word g 0) same in omega arith
