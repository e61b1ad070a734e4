-- The outputs of a computation after an outcome.
use Rattle.std.proofs.Common.{◌≡◌, ℕ, zero, suc, refl, sym, ap, ◌∙◌, append_assoc, append-nil, List, [], ◌∷◌, ◌++◌, map, Option, Some, None, Bool, true, false, if◌then◌else◌}
use Rattle.samoa_model.specs.Allowed.{Attempt}
use Rattle.samoa_model.specs.declared.ids.EventId.{EventId}
use Rattle.samoa_model.specs.declared.handler.Outcome.{Outcome}
use Rattle.samoa_model.specs.declared.handler.Reply.{Reply}
use Rattle.samoa_model.specs.declared.record.Ending.{Ending}
use Rattle.samoa_model.specs.declared.record.Entry.{Entry}
use Rattle.samoa_serial.specs.declared.call.Active.{Active}
use Rattle.samoa_serial.specs.declared.call.Call.{Call}
use Rattle.samoa_serial.specs.declared.call.Waiting.{Waiting}
use Rattle.samoa_serial.specs.World.{Attempts, Books, calls_from, caller_number, entry_of, next_call, noted}
use Rattle.samoa_serial.specs.Calls.{Computation, at_frame, attempted, first_answer, outcome_effect, outcome_spends, outcome_taken, replied, start, woken}
use Rattle.samoa_laws.specs.trace.Trace.{HandlerStep, given, has_effect, is_left, is_output, output_of, outputs}

pub outputs-append : (xs ys : List Entry) → outputs (xs ++ ys) ≡ outputs xs ++ outputs ys
outputs-append [] ys = refl
outputs-append (x ∷ xs) ys = go (outputs-append xs ys) (is_output x)
  where
    go : outputs (xs ++ ys) ≡ outputs xs ++ outputs ys → (b : Bool)
        → (if b then x ∷ outputs (xs ++ ys) else outputs (xs ++ ys)) ≡ (if b then x ∷ outputs xs else outputs xs) ++ outputs ys
    go ih true = ap (λ (es : List Entry). x ∷ es) ih
    go ih false = ih

outputs-accepted : (caller : ℕ) (arg : List ℕ) (cs : List Call) → outputs (map (entry_of caller arg) cs) ≡ []
outputs-accepted caller arg [] = refl
outputs-accepted caller arg (c ∷ cs) = outputs-accepted caller arg cs

-- an entry that is no output
silent : (xs : List Entry) (e : Entry) → is_output e ≡ false → outputs (xs ++ e ∷ []) ≡ outputs xs
silent xs e not_one = outputs-append xs (e ∷ []) ∙ (ap (λ (b : Bool). outputs xs ++ (if b then e ∷ [] else [])) not_one ∙ append-nil (outputs xs))

attempted-outputs : (books : Books) (caller : Option Call) (event : EventId) (arg : List ℕ) (answer : Option Ending) (rest : List Active)
    (next : Books → Reply → Computation) (a : Attempt) → ((b : Books) (r : Reply) → outputs (next b r).entries ≡ outputs b.entries)
    → outputs (attempted books caller event arg answer rest next a).entries ≡ outputs books.entries
attempted-outputs books caller event arg answer rest next (Attempt.Refuses r) h = h _ _ ∙ silent books.entries _ refl
attempted-outputs books caller event arg answer rest next (Attempt.Accepts x xs) h =
    let c : Call = next_call books.entries x in
    let new : List Entry = map (entry_of (caller_number caller) arg) (c ∷ calls_from c.number xs) in
    let none : outputs new ≡ [] = outputs-accepted (caller_number caller) arg (c ∷ calls_from c.number xs) in
    outputs-append books.entries new ∙ (ap (λ (es : List Entry). outputs books.entries ++ es) none ∙ append-nil (outputs books.entries))

woken-outputs : (attempt : Attempts) (waiting : List Waiting) (books : Books) (answer : Option Ending) → outputs (woken attempt waiting books answer).entries ≡ outputs books.entries
woken-outputs attempt [] books answer = refl
woken-outputs attempt (first ∷ later) books answer =
    attempted-outputs (record books { waiting = later }) (Some first.asker) first.event first.arg answer [] (λ b r. woken attempt later b answer)
    (attempt books.entries (Some first.asker) first.event) (λ b r. woken-outputs attempt later b answer)

replied-outputs : (attempt : Attempts) (books : Books) (answer : Option Ending) (rest : List Active) (r : Reply) → outputs (replied attempt books answer rest r).entries ≡ outputs books.entries
replied-outputs attempt books answer [] r = woken-outputs attempt books.waiting books (first_answer answer r)
replied-outputs attempt books answer (a ∷ rest) r = refl

effect-outputs : (attempt : Attempts) (books : Books) (answer : Option Ending) (rest : List Active) (c : Call) (o : Outcome)
    → outputs (outcome_effect attempt books answer rest c o).entries ≡ outputs books.entries ++ output_of c o
effect-outputs attempt books answer rest c (Outcome.Call event arg frame) =
    attempted-outputs books (Some c) event arg answer (at_frame c frame ∷ rest) (λ b r. replied attempt b answer (at_frame c frame ∷ rest) r)
    (attempt books.entries (Some c) event) (λ b r. refl) ∙ sym (append-nil (outputs books.entries))
effect-outputs attempt books answer rest c (Outcome.Later event arg frame) = silent books.entries _ refl ∙ sym (append-nil (outputs books.entries))
effect-outputs attempt books answer rest c (Outcome.Send to event arg frame) = outputs-append books.entries _
effect-outputs attempt books answer rest c (Outcome.Deliver arg frame) = outputs-append books.entries _
effect-outputs attempt books answer rest c (Outcome.Change change arg frame) = outputs-append books.entries _
effect-outputs attempt books answer rest c (Outcome.Done reply) =
    replied-outputs attempt books answer rest (Reply.Words reply) ∙ sym (append-nil (outputs books.entries))

spends-outputs : (attempt : Attempts) (books : Books) (answer : Option Ending) (rest : List Active) (c : Call) (o : Outcome) (units : ℕ)
    → outputs (outcome_spends attempt books answer rest c o units).entries ≡ outputs books.entries ++ (if is_left units then output_of c o else [])
spends-outputs attempt books answer rest c o zero = silent books.entries _ refl ∙ sym (append-nil (outputs books.entries))
spends-outputs attempt books answer rest c o (suc left) = effect-outputs attempt (record books { units = left }) answer rest c o

pub taken-outputs : (attempt : Attempts) (books : Books) (answer : Option Ending) (rest : List Active) (c : Call) (o : Outcome)
    → outputs (outcome_taken attempt books answer rest c o).entries ≡ outputs books.entries ++ (if has_effect books.units o then output_of c o else [])
taken-outputs attempt books answer rest c (Outcome.Done reply) =
    replied-outputs attempt (noted books (Entry.Finished c.number reply)) answer rest (Reply.Words reply)
    ∙ (silent books.entries _ refl ∙ sym (append-nil (outputs books.entries)))
taken-outputs attempt books answer rest c (Outcome.Call event arg frame) = spends-outputs attempt books answer rest c (Outcome.Call event arg frame) books.units
taken-outputs attempt books answer rest c (Outcome.Later event arg frame) = spends-outputs attempt books answer rest c (Outcome.Later event arg frame) books.units
taken-outputs attempt books answer rest c (Outcome.Send to event arg frame) = spends-outputs attempt books answer rest c (Outcome.Send to event arg frame) books.units
taken-outputs attempt books answer rest c (Outcome.Deliver arg frame) = spends-outputs attempt books answer rest c (Outcome.Deliver arg frame) books.units
taken-outputs attempt books answer rest c (Outcome.Change change arg frame) = spends-outputs attempt books answer rest c (Outcome.Change change arg frame) books.units

pub start-outputs : (attempt : Attempts) (budget : ℕ) (event : EventId) (arg : List ℕ) → outputs (start attempt budget event arg).entries ≡ []
start-outputs attempt budget event arg =
    attempted-outputs (record { units = budget; waiting = []; entries = [] }) None event arg None [] (λ b r. replied attempt b None [] r)
    (attempt [] None event) (λ b r. replied-outputs attempt b None [] r)

pub given-append : (xs ys : List HandlerStep) → given (xs ++ ys) ≡ given ys ++ given xs
given-append [] ys = sym (append-nil (given ys))
given-append (x ∷ xs) ys =
    let out : List Entry = if x.effective then output_of x.call x.outcome else [] in
    ap (λ (es : List Entry). es ++ out) (given-append xs ys) ∙ append_assoc (given ys) (given xs) out
