-- An outcome is taken: the computation stands so after that step.
use Rattle.std.proofs.Common.{◌≡◌, ◌≤◌, ℕ, zero, suc, inl, inr, refl, sym, ap, subst, ◌∙◌, arith, List, [], ◌∷◌, ◌++◌, Option, Some, true, false}
use Rattle.samoa_model.specs.Entries.{calls_made}
use Rattle.samoa_model.specs.declared.handler.Moment.{Moment}
use Rattle.samoa_model.specs.declared.handler.Outcome.{Outcome}
use Rattle.samoa_model.specs.declared.handler.Reply.{Reply}
use Rattle.samoa_model.specs.declared.record.Ending.{Ending}
use Rattle.samoa_model.specs.declared.record.Entry.{Entry}
use Rattle.samoa_serial.specs.declared.call.Active.{Active}
use Rattle.samoa_serial.specs.World.{Books, noted, resume, waits}
use Rattle.samoa_serial.specs.Calls.{Computation, at_frame, at_moment, goes_on, outcome_effect, outcome_spends, outcome_taken, replied}
use Rattle.samoa_serial.specs.Lists.{Each}
use Rattle.samoa_laws.specs.trace.Trace.{HandlerStep, has_effect, is_done}
use Rattle.samoa_laws.specs.trace.Causes.{Acts, Calls, Cause, Comes, EndsWell, GoesOn, IsNextIn, Leads, Setting, frame_of}
use Rattle.samoa_serial.proofs.ListLaws.{each_append}
use Rattle.samoa_laws.proofs.trace.Numbers.{AllUpTo, calls_made-noted, up_to-more}
use Rattle.samoa_laws.proofs.trace.Levels.{At, Over, Within, inside-from}
use Rattle.samoa_laws.proofs.trace.Stands.{IsDeferred, Resolves, Runs, Standing, attempted-stands, replied-stands}

-- the step x was made by the innermost call, over the calls `rest`
pub record Makes (S : Setting) (past : List HandlerStep) (x : HandlerStep) (books : Books) (rest : List Active) : Type 0 where
  pub comp : x.comp ≡ S.comp
  pub node : x.node ≡ S.node
  pub within : Within S x (x ∷ past) rest
  pub waiting : Each (IsDeferred S (x ∷ past)) books.waiting
  pub number : x.call.number ≤ calls_made books.entries
  pub numbers : AllUpTo (calls_made books.entries) rest

-- after the step x
abbrev pub StandsAfter : Setting → List HandlerStep → HandlerStep → Computation → Type 0
StandsAfter S past x comp = Standing S (x ∷ past) (IsNextIn S (x ∷ past)) (EndsWell (x ∷ past)) comp

-- the call goes on after its step x
on-runs : (S : Setting) (past : List HandlerStep) (x : HandlerStep) (books : Books) (rest : List Active) → Makes S past x books rest → Acts S x
    → (frame : List ℕ) (r : Reply) → frame_of x.outcome ≡ Some frame → Leads S x.call x.outcome x.call (resume x.call frame r)
    → Runs S (x ∷ past) (IsNextIn S (x ∷ past)) (at_moment x.call (resume x.call frame r)) rest
on-runs S past x books rest makes acts frame r is leads =
    let m : Moment = resume x.call frame r in
    let on : GoesOn S x x.call m = record { frame = frame; reply = r; acts = acts; call = refl; frame_is = is; moment = refl } in
    let l : Within S x (x ∷ past) rest = makes.within in
    record {
      moment = m;
      due = refl;
      cause = Cause.Resumed (record { last = x; since = []; before = past; split = refl; goes_on = on; nested = tt });
      next = inl (record { acts = acts; leads = leads });
      comes = Comes.OnAgain frame r refl;
      top = l.top;
      levels = l.levels;
      inside = inside-from S x l.top x.call m l.under (inr on);
    }

-- an entry was noted, and the call goes on
on-stands : (S : Setting) (past : List HandlerStep) (x : HandlerStep) (books : Books) (rest : List Active) → Makes S past x books rest → Acts S x
    → (new : Books) (answer : Option Ending) (frame : List ℕ) → frame_of x.outcome ≡ Some frame → Leads S x.call x.outcome x.call (resume x.call frame (Reply.Words []))
    → Each (IsDeferred S (x ∷ past)) new.waiting → calls_made books.entries ≤ calls_made new.entries
    → StandsAfter S past x (goes_on new answer rest x.call frame)
on-stands S past x books rest makes acts new answer frame is leads waiting le =
    let number : x.call.number ≤ calls_made books.entries = makes.number in
    record {
      stands = on-runs S past x books rest makes acts frame (Reply.Words []) is leads;
      waiting = waiting;
      numbers = (omega arith, up_to-more _ _ rest le makes.numbers);
    }

effect-stands : (S : Setting) → Resolves S.rules.attempt S.handlers → (past : List HandlerStep) (x : HandlerStep) (books : Books) (answer : Option Ending) (rest : List Active)
    → Makes S past x books rest → Acts S x → (o : Outcome) → x.outcome ≡ o
    → StandsAfter S past x (outcome_effect S.rules.attempt books answer rest x.call o)
effect-stands S resolves past x books answer rest makes acts (Outcome.Call event arg frame) e =
    attempted-stands S resolves (x ∷ past) (IsNextIn S (x ∷ past)) (EndsWell (x ∷ past)) books (Some x.call) event arg answer (at_frame x.call frame ∷ rest)
    (λ b r. replied S.rules.attempt b answer (at_frame x.call frame ∷ rest) r) (Calls S x)
    (record {
      comes = λ d i lt. let number : x.call.number ≤ calls_made books.entries = makes.number in
          record { event = event; arg = arg; frame = frame; acts = acts; outcome = e; bound = i; moment = refl; less = omega arith };
      cause = λ d m from. Cause.Called x (inl refl) from;
      next = λ d m first. inl (record { acts = acts; leads = subst (λ (o : Outcome). Leads S x.call o d m) (sym e) (inl first) });
      when = λ d m from. Comes.AtOnce x past refl from;
      top = At x [];
      levels = λ begun all. Over (record {
        last = x;
        since = [];
        before = past;
        waiting = begun;
        rest = rest;
        frame = frame;
        split = refl;
        stack = refl;
        acts = acts;
        frame_is = ap frame_of e;
        nested = tt;
        begins = all;
      }) makes.within.top makes.within.levels makes.within.under;
      inside = λ d m from. inl from;
    })
    makes.waiting (makes.number, makes.numbers)
    (λ r refuses. record {
      stands = on-runs S past x books rest makes acts frame (Reply.Refused r) (ap frame_of e)
          (subst (λ (o : Outcome). Leads S x.call o x.call (resume x.call frame (Reply.Refused r))) (sym e)
          (inr (record { entries = books.entries; refusal = r; refuses = refuses; call = refl; moment = refl })));
      waiting = makes.waiting;
      numbers =
          let le : calls_made books.entries ≤ calls_made (books.entries ++ Entry.Refused x.call.number (Some event) r ∷ []) = calls_made-noted books.entries _ in
          let number : x.call.number ≤ calls_made books.entries = makes.number in
          (omega arith, up_to-more _ _ rest le makes.numbers);
    })
effect-stands S resolves past x books answer rest makes acts (Outcome.Later event arg frame) e =
    on-stands S past x books rest makes acts (waits books x.call event arg) answer frame (ap frame_of e)
    (subst (λ (o : Outcome). Leads S x.call o x.call (resume x.call frame (Reply.Words []))) (sym e) (record { call = refl; moment = refl }))
    (each_append _ books.waiting _ makes.waiting (record { by = x; there = inl refl; frame = frame; acts = acts; outcome = e }, tt))
    (calls_made-noted books.entries _)
effect-stands S resolves past x books answer rest makes acts (Outcome.Send to event arg frame) e =
    on-stands S past x books rest makes acts (noted books (Entry.Sent x.call.number to event arg)) answer frame (ap frame_of e)
    (subst (λ (o : Outcome). Leads S x.call o x.call (resume x.call frame (Reply.Words []))) (sym e) (record { call = refl; moment = refl }))
    makes.waiting (calls_made-noted books.entries _)
effect-stands S resolves past x books answer rest makes acts (Outcome.Deliver arg frame) e =
    on-stands S past x books rest makes acts (noted books (Entry.Delivered x.call.number x.call.handler.micro arg)) answer frame (ap frame_of e)
    (subst (λ (o : Outcome). Leads S x.call o x.call (resume x.call frame (Reply.Words []))) (sym e) (record { call = refl; moment = refl }))
    makes.waiting (calls_made-noted books.entries _)
effect-stands S resolves past x books answer rest makes acts (Outcome.Change change arg frame) e =
    on-stands S past x books rest makes acts (noted books (Entry.Asked x.call.number change arg)) answer frame (ap frame_of e)
    (subst (λ (o : Outcome). Leads S x.call o x.call (resume x.call frame (Reply.Words []))) (sym e) (record { call = refl; moment = refl }))
    makes.waiting (calls_made-noted books.entries _)
effect-stands S resolves past x books answer rest makes acts (Outcome.Done reply) e =
    done-stands S resolves past x books answer rest makes acts reply e
  where
    done-stands : (S : Setting) → Resolves S.rules.attempt S.handlers → (past : List HandlerStep) (x : HandlerStep) (books : Books) (answer : Option Ending) (rest : List Active)
        → Makes S past x books rest → Acts S x → (reply : List ℕ) → x.outcome ≡ Outcome.Done reply
        → StandsAfter S past x (replied S.rules.attempt books answer rest (Reply.Words reply))
    done-stands S resolves past x books answer rest makes acts reply e =
        replied-stands S resolves (x ∷ past) (IsNextIn S (x ∷ past)) (EndsWell (x ∷ past))
        (λ c m. inl (record { acts = acts; leads = subst (λ (o : Outcome). Leads S x.call o c m) (sym e) tt }))
        (λ acts. ap is_done e) books answer rest (Reply.Words reply) makes.within.top makes.within.levels makes.waiting makes.numbers

-- where no unit is left, the step takes no effect and all is cut
spends-stands : (S : Setting) → Resolves S.rules.attempt S.handlers → (past : List HandlerStep) (x : HandlerStep) (books : Books) (answer : Option Ending) (rest : List Active)
    → Makes S past x books rest → (o : Outcome) → x.outcome ≡ o → is_done o ≡ false → (units : ℕ) → x.effective ≡ has_effect units o
    → StandsAfter S past x (outcome_spends S.rules.attempt books answer rest x.call o units)
spends-stands S resolves past x books answer rest makes o e asks zero effective =
    let none : has_effect zero o ≡ false = rw asks refl in
    record { stands = λ acts. absurd (let both : true ≡ false = sym acts ∙ (effective ∙ none) in cc); waiting = tt; numbers = tt }
spends-stands S resolves past x books answer rest makes o e asks (suc left) effective =
    let some : has_effect (suc left) o ≡ true = rw asks refl in
    effect-stands S resolves past x (record books { units = left }) answer rest
    (record { comp = makes.comp; node = makes.node; within = makes.within; waiting = makes.waiting; number = makes.number; numbers = makes.numbers })
    (record { comp = makes.comp; node = makes.node; effective = effective ∙ some }) o e

pub taken-stands : (S : Setting) → Resolves S.rules.attempt S.handlers → (past : List HandlerStep) (x : HandlerStep) (books : Books) (answer : Option Ending) (rest : List Active)
    → Makes S past x books rest → (o : Outcome) → x.outcome ≡ o → x.effective ≡ has_effect books.units o
    → StandsAfter S past x (outcome_taken S.rules.attempt books answer rest x.call o)
taken-stands S resolves past x books answer rest makes (Outcome.Done reply) e effective =
    let acts : Acts S x = record { comp = makes.comp; node = makes.node; effective = effective } in
    replied-stands S resolves (x ∷ past) (IsNextIn S (x ∷ past)) (EndsWell (x ∷ past))
    (λ c m. inl (record { acts = acts; leads = subst (λ (o : Outcome). Leads S x.call o c m) (sym e) tt }))
    (λ acts. ap is_done e) (noted books (Entry.Finished x.call.number reply)) answer rest (Reply.Words reply) makes.within.top makes.within.levels makes.waiting
    (up_to-more _ _ rest (calls_made-noted books.entries _) makes.numbers)
taken-stands S resolves past x books answer rest makes (Outcome.Call event arg frame) e effective =
    spends-stands S resolves past x books answer rest makes _ e refl books.units effective
taken-stands S resolves past x books answer rest makes (Outcome.Later event arg frame) e effective =
    spends-stands S resolves past x books answer rest makes _ e refl books.units effective
taken-stands S resolves past x books answer rest makes (Outcome.Send to event arg frame) e effective =
    spends-stands S resolves past x books answer rest makes _ e refl books.units effective
taken-stands S resolves past x books answer rest makes (Outcome.Deliver arg frame) e effective =
    spends-stands S resolves past x books answer rest makes _ e refl books.units effective
taken-stands S resolves past x books answer rest makes (Outcome.Change change arg frame) e effective =
    spends-stands S resolves past x books answer rest makes _ e refl books.units effective
