-- How a computation stands after its steps: what each active call comes from, which step is next, and what waits.
use Rattle.std.proofs.Common.{◌≡◌, ◌<◌, ◌≤◌, ℕ, ◌+◌, inl, inr, refl, sym, ap, subst, ◌∙◌, arith, List, [], ◌∷◌, ◌++◌, length, Option, Some}
use Rattle.samoa_model.specs.Allowed.{Attempt}
use Rattle.samoa_model.specs.Entries.{calls_made}
use Rattle.samoa_model.specs.declared.ids.EventId.{EventId}
use Rattle.samoa_model.specs.declared.ids.HandlerId.{HandlerId}
use Rattle.samoa_model.specs.declared.handler.Moment.{Moment}
use Rattle.samoa_model.specs.declared.handler.Outcome.{Outcome}
use Rattle.samoa_model.specs.declared.handler.Refusal.{Refusal}
use Rattle.samoa_model.specs.declared.handler.Reply.{Reply}
use Rattle.samoa_model.specs.declared.record.Ending.{Ending}
use Rattle.samoa_model.specs.declared.record.Entry.{Entry}
use Rattle.samoa_serial.specs.declared.call.Active.{Active}
use Rattle.samoa_serial.specs.declared.call.Call.{Call}
use Rattle.samoa_serial.specs.declared.call.Due.{Due}
use Rattle.samoa_serial.specs.declared.call.Waiting.{Waiting}
use Rattle.samoa_serial.specs.World.{Attempts, Books, accepted, begin, calls_from, next_call, refused, resume}
use Rattle.samoa_serial.specs.Calls.{Computation, at_frame, at_moment, attempted, first_answer, given, replied, to_begin, woken}
use Rattle.samoa_serial.specs.Lists.{Each, In}
use Rattle.samoa_laws.specs.trace.Trace.{HandlerStep}
use Rattle.samoa_laws.specs.trace.Causes.{Acts, BeginsFirst, Cause, Comes, GoesOn, IsOther, Setting}
use Rattle.samoa_serial.proofs.ListLaws.{in_middle}
use Rattle.samoa_laws.proofs.trace.Numbers.{AllUpTo, calls_made-accepted, up_to-calls, up_to-more}
use Rattle.samoa_laws.proofs.trace.Levels.{AllBegin, At, Base, Ground, Inside, Levels, Outside, Over, Top, Waits, Within, begin-append, begin-calls, begin-map, inside-from, lift, CallsOther}

-- where an attempt accepts, it accepts all handlers of the event
pub record Resolves (attempt : Attempts) (handlers : EventId → List HandlerId) : Type 0 where
  pub all : (entries : List Entry) (caller : Option Call) (event : EventId) (h : HandlerId) (hs : List HandlerId)
      → attempt entries caller event ≡ Attempt.Accepts h hs → handlers event ≡ h ∷ hs

-- the innermost call, at its moment
pub record Runs (S : Setting) (past : List HandlerStep) (Next : Call → Moment → Type 0) (a : Active) (rest : List Active) : Type 0 where
  pub moment : Moment
  pub due : a.due ≡ Due.Next moment
  pub cause : Cause S past a.call moment
  pub next : Next a.call moment
  pub comes : Comes S past a.call moment
  pub top : Top
  pub levels : Levels S top past rest
  pub inside : Inside S top a.call moment

abbrev pub Stands : Setting → List HandlerStep → (Call → Moment → Type 0) → Type 0 → List Active → Type 0
Stands S past Next End [] = End
Stands S past Next End (a ∷ rest) = Runs S past Next a rest

-- a waiting call was asked for by one of these steps
pub record IsDeferred (S : Setting) (past : List HandlerStep) (w : Waiting) : Type 0 where
  pub by : HandlerStep
  pub there : In by past
  pub frame : List ℕ
  pub acts : Acts S by
  pub outcome : by.outcome ≡ Outcome.Later w.event w.arg frame

pub deferred-more : (S : Setting) (past : List HandlerStep) (x : HandlerStep) (w : Waiting) → IsDeferred S past w → IsDeferred S (x ∷ past) w
deferred-more S past x w d = record { by = d.by; there = inr d.there; frame = d.frame; acts = d.acts; outcome = d.outcome }

pub record Standing (S : Setting) (past : List HandlerStep) (Next : Call → Moment → Type 0) (End : Type 0) (comp : Computation) : Type 0 where
  pub stands : Stands S past Next End comp.active
  pub waiting : Each (IsDeferred S past) comp.waiting
  pub numbers : AllUpTo (calls_made comp.entries) comp.active

-- an attempt of a call that comes so
pub record Tries (S : Setting) (past : List HandlerStep) (Next : Call → Moment → Type 0) (entries : List Entry) (event : EventId) (arg : List ℕ)
    (rest : List Active) (From : Call → Moment → Type 0) : Type 0 where
  pub comes : (d : Call) → In d.handler (S.handlers event) → calls_made entries < d.number → From d (begin d arg)
  pub cause : (d : Call) (m : Moment) → From d m → Cause S past d m
  pub next : (d : Call) (m : Moment) → BeginsFirst S event arg d m → Next d m
  pub top : Top
  pub when : (d : Call) (m : Moment) → From d m → Comes S past d m
  pub levels : (begun : List Active) → AllBegin (λ (d : Call) (m : Moment). From d m × IsOther S d) begun → Levels S top past (begun ++ rest)
  pub inside : (d : Call) (m : Moment) → From d m → Inside S top d m

pub attempted-stands : (S : Setting) → Resolves S.rules.attempt S.handlers → (past : List HandlerStep) (Next : Call → Moment → Type 0) (End : Type 0)
    (books : Books) (caller : Option Call) (event : EventId) (arg : List ℕ) (answer : Option Ending) (rest : List Active)
    (next : Books → Reply → Computation) (From : Call → Moment → Type 0)
    → Tries S past Next books.entries event arg rest From → Each (IsDeferred S past) books.waiting → AllUpTo (calls_made books.entries) rest
    → ((r : Refusal) → S.rules.attempt books.entries caller event ≡ Attempt.Refuses r → Standing S past Next End (next (refused books caller event r) (Reply.Refused r)))
    → Standing S past Next End (attempted books caller event arg answer rest next (S.rules.attempt books.entries caller event))
attempted-stands S resolves past Next End books caller event arg answer rest next From tries waiting numbers refuse = go (S.rules.attempt books.entries caller event) refl
  where
    go : (a : Attempt) → S.rules.attempt books.entries caller event ≡ a → Standing S past Next End (attempted books caller event arg answer rest next a)
    go (Attempt.Refuses r) e = refuse r e
    go (Attempt.Accepts h hs) e =
        let c : Call = next_call books.entries h in
        let n : ℕ = calls_made books.entries + 1 in
        let is : S.handlers event ≡ h ∷ hs = resolves.all books.entries caller event h hs e in
        let first : From c (begin c arg) = tries.comes c (subst (λ (xs : List HandlerId). In h xs) (sym is) (inl refl)) (omega arith) in
        let begun : AllBegin (λ (d : Call) (m : Moment). From d m × IsOther S d) (to_begin arg (calls_from n hs)) =
        begin-calls (λ (d : Call) (m : Moment). From d m × IsOther S d) arg n hs (λ d i lt. (
          tries.comes d (subst (λ (xs : List HandlerId). In d.handler xs) (sym is) (inr i)) (omega arith),
          record { event = event; first = h; others = hs; list = is; bound = i },
        )) in
        let made : calls_made (accepted books caller arg (c ∷ calls_from n hs)).entries ≡ calls_made books.entries + 1 + length hs = calls_made-accepted books caller arg h hs in
        record {
          stands = record {
            moment = begin c arg;
            due = refl;
            cause = tries.cause c (begin c arg) first;
            next = tries.next c (begin c arg) (record { others = hs; first = is; moment = refl });
            comes = tries.when c (begin c arg) first;
            top = tries.top;
            levels = tries.levels (to_begin arg (calls_from n hs)) begun;
            inside = tries.inside c (begin c arg) first;
          };
          waiting = waiting;
          numbers = (omega (arith, made), up_to-calls arg n _ hs rest (omega (arith, made)) (up_to-more _ _ rest (omega (arith, made)) numbers));
        }

outside_cause : (S : Setting) (past : List HandlerStep) (c : Call) (m : Moment) → Outside S past c m → Cause S past c m
outside_cause S past c m (inl later) = Cause.Root later.0
outside_cause S past c m (inr d) = Cause.Deferred d.0 d.1 d.2

outside_comes : (S : Setting) (past : List HandlerStep) (c : Call) (m : Moment) → Outside S past c m → Comes S past c m
outside_comes S past c m (inl later) = Comes.AsOther later.1
outside_comes S past c m (inr d) = Comes.AsDeferred d.0 d.1 d.2

-- where any step may be next: the waiting calls are attempted
woken-stands : (S : Setting) → Resolves S.rules.attempt S.handlers → (past : List HandlerStep) (Next : Call → Moment → Type 0) (End : Type 0)
    → ((c : Call) (m : Moment) → Next c m) → End → (waiting : List Waiting) (books : Books) (answer : Option Ending)
    → Each (IsDeferred S past) waiting → Standing S past Next End (woken S.rules.attempt waiting books answer)
woken-stands S resolves past Next End any end [] books answer all = record { stands = end; waiting = tt; numbers = tt }
woken-stands S resolves past Next End any end (first ∷ later) books answer all =
    let d : IsDeferred S past first = all.0 in
    attempted-stands S resolves past Next End (record books { waiting = later }) (Some first.asker) first.event first.arg answer []
    (λ b r. woken S.rules.attempt later b answer) (Outside S past)
    (record {
      comes = λ c i lt. inr (d.by, d.there, record { event = first.event; arg = first.arg; frame = d.frame; acts = d.acts; outcome = d.outcome; bound = i; moment = refl });
      cause = λ c m from. outside_cause S past c m from;
      next = λ c m first. any c m;
      when = λ c m from. outside_comes S past c m from;
      top = Ground;
      levels = λ begun all. Base (begin-append (Outside S past) begun [] (begin-map _ _ (λ c m from. from.0) begun all) tt);
      inside = λ c m from. tt;
    })
    all.1 tt
    (λ r e. woken-stands S resolves past Next End any end later _ answer all.1)

given-next : (c : Call) (d : Due) (m : Moment) (r : Reply) → d ≡ Due.Next m → given c d r ≡ at_moment c m
given-next c d m r e = ap (λ (x : Due). given c x r) e

-- the innermost call has ended: the next one runs, or goes on with a reply
popped : (S : Setting) (Next : Call → Moment → Type 0) → ((c : Call) (m : Moment) → Next c m) → (past : List HandlerStep) (active : List Active)
    (top : Top) → Levels S top past active → (a : Active) (rest : List Active) (r : Reply) → active ≡ a ∷ rest → Runs S past Next (given a.call a.due r) rest
popped S Next any past active Ground (Base all) a rest r is =
    let begun : AllBegin (Outside S past) (a ∷ rest) = subst (λ (xs : List Active). AllBegin (Outside S past) xs) is all in
    let m : Moment = begun.0.0 in
    subst (λ (b : Active). Runs S past Next b rest) (sym (given-next a.call a.due m r begun.0.1)) (record {
      moment = m;
      due = refl;
      cause = outside_cause S past a.call m begun.0.2;
      next = any a.call m;
      comes = outside_comes S past a.call m begun.0.2;
      top = Ground;
      levels = Base begun.1;
      inside = tt;
    })
popped S Next any past active (At last since) (Over w top below under) a rest r is = go w.waiting refl
  where
    go : (ws : List Active) → w.waiting ≡ ws → Runs S past Next (given a.call a.due r) rest
    go [] e =
        let c : Call = w.last.call in
        let m : Moment = resume c w.frame r in
        let both : a ∷ rest ≡ at_frame c w.frame ∷ w.rest = sym is ∙ (w.stack ∙ ap (λ (ws : List Active). ws ++ at_frame c w.frame ∷ w.rest) e) in
        let head : a ≡ at_frame c w.frame = cc in
        let tail : rest ≡ w.rest = cc in
        let l : Within S w.last past w.rest = lift S w.last past w.since w.before (w.last ∷ w.before) top w.rest below under refl w.split w.nested in
        let on : GoesOn S w.last c m = record { frame = w.frame; reply = r; acts = w.acts; call = refl; frame_is = w.frame_is; moment = refl } in
        subst (λ (b : Active). Runs S past Next (given b.call b.due r) rest) (sym head) (
        subst (λ (bs : List Active). Runs S past Next (at_moment c m) bs) (sym tail) (record {
          moment = m;
          due = refl;
          cause = Cause.Resumed (record { last = w.last; since = w.since; before = w.before; split = w.split; goes_on = on; nested = w.nested });
          next = any c m;
          comes = Comes.OnAgain w.frame r refl;
          top = l.top;
          levels = l.levels;
          inside = inside-from S w.last l.top c m l.under (inr on);
        }))
    go (v ∷ vs) e =
        let both : a ∷ rest ≡ v ∷ (vs ++ at_frame w.last.call w.frame ∷ w.rest) = sym is ∙ (w.stack ∙ ap (λ (ws : List Active). ws ++ at_frame w.last.call w.frame ∷ w.rest) e) in
        let head : a ≡ v = cc in
        let tail : rest ≡ vs ++ at_frame w.last.call w.frame ∷ w.rest = cc in
        let begun : AllBegin (CallsOther S w.last) (v ∷ vs) = subst (λ (xs : List Active). AllBegin (CallsOther S w.last) xs) e w.begins in
        let m : Moment = begun.0.0 in
        let waits : Waits S past rest = record {
          last = w.last;
          since = w.since;
          before = w.before;
          waiting = vs;
          rest = w.rest;
          frame = w.frame;
          split = w.split;
          stack = tail;
          acts = w.acts;
          frame_is = w.frame_is;
          nested = w.nested;
          begins = begun.1;
        } in
        subst (λ (b : Active). Runs S past Next (given b.call b.due r) rest) (sym head) (
        subst (λ (b : Active). Runs S past Next b rest) (sym (given-next v.call v.due m r begun.0.1)) (record {
          moment = m;
          due = refl;
          cause = Cause.Called w.last (subst (λ (xs : List HandlerStep). In w.last xs) (sym w.split) (in_middle w.last w.since w.before)) begun.0.2.0;
          next = any v.call m;
          comes = Comes.AsOther begun.0.2.1;
          top = At w.last w.since;
          levels = Over waits top below under;
          inside = inl begun.0.2.0;
        }))

given-number : (c : Call) (d : Due) (r : Reply) → (given c d r).call ≡ c
given-number c (Due.Next m) r = refl
given-number c (Due.Frame frame) r = refl

pub replied-stands : (S : Setting) → Resolves S.rules.attempt S.handlers → (past : List HandlerStep) (Next : Call → Moment → Type 0) (End : Type 0)
    → ((c : Call) (m : Moment) → Next c m) → End → (books : Books) (answer : Option Ending) (rest : List Active) (r : Reply)
    (top : Top) → Levels S top past rest → Each (IsDeferred S past) books.waiting → AllUpTo (calls_made books.entries) rest
    → Standing S past Next End (replied S.rules.attempt books answer rest r)
replied-stands S resolves past Next End any end books answer [] r top levels waiting numbers =
    woken-stands S resolves past Next End any end books.waiting books (first_answer answer r) waiting
replied-stands S resolves past Next End any end books answer (a ∷ rest) r top levels waiting numbers =
    record {
      stands = popped S Next any past (a ∷ rest) top levels a rest r refl;
      waiting = waiting;
      numbers = (subst (λ (c : Call). c.number ≤ calls_made books.entries) (sym (given-number a.call a.due r)) numbers.0, numbers.1);
    }
