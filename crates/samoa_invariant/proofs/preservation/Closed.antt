-- What every outcome keeps of a computation: from the parts of what an outcome does to the whole run.
use Rattle.std.proofs.Common.{◌≡◌, ℕ, zero, suc, ◌⊎◌, inl, inr, refl, sym, subst, List, [], ◌∷◌, ◌++◌, map, Option, Some, None}
use Rattle.samoa_serial.specs.declared.call.Active.{Active}
use Rattle.samoa_serial.specs.declared.call.Call.{Call}
use Rattle.samoa_serial.specs.declared.call.Due.{Due}
use Rattle.samoa_model.specs.declared.record.Ending.{Ending}
use Rattle.samoa_model.specs.declared.record.Entry.{Entry}
use Rattle.samoa_model.specs.declared.ids.EventId.{EventId}
use Rattle.samoa_model.specs.declared.ids.HandlerId.{HandlerId}
use Rattle.samoa_model.specs.declared.handler.Moment.{Moment}
use Rattle.samoa_model.specs.declared.handler.Outcome.{Outcome}
use Rattle.samoa_model.specs.declared.handler.Refusal.{Refusal}
use Rattle.samoa_model.specs.declared.handler.Reply.{Reply}
use Rattle.samoa_serial.specs.declared.call.Waiting.{Waiting}
use Rattle.samoa_model.specs.Allowed.{Attempt}
use Rattle.samoa_serial.specs.World.{Attempts, Books, caller_number, calls_from, entry_of, noted, refused, Rules, stepped}
use Rattle.samoa_model.specs.Entries.{calls_made}
use Rattle.samoa_serial.specs.Calls.{at_frame, attempted, Computation, first_answer, given, outcome_effect, outcome_spends, outcome_taken, replied, start, take_outcome, take_outcome_at, to_begin, woken}
use Rattle.samoa_serial.specs.Alone.{Machine, next_step, turn}
use Rattle.samoa_serial.proofs.Point.{turn_is}
use Rattle.samoa_invariant.specs.Play.{Play, rules, attempts, point, drive}
use Rattle.samoa_invariant.proofs.refinement.Points.{some_or_none, turn_still}

-- over the active calls, the waiting calls and the entries
abbrev pub Kind : Type 1
Kind = List Active → List Waiting → List Entry → Type 0

abbrev pub Of : Kind → Computation → Type 0
Of K comp = K comp.active comp.waiting comp.entries

-- the calls of an accepted list, and their entries
abbrev pub begun : List Entry → List ℕ → List HandlerId → List Active
begun es arg hs = to_begin arg (calls_from (calls_made es) hs)

abbrev pub entered : List Entry → Option Call → List ℕ → List HandlerId → List Entry
entered es caller arg hs = map (entry_of (caller_number caller) arg) (calls_from (calls_made es) hs)

-- an entry that accepts nothing
abbrev pub IsPlain : Entry → Type 0
IsPlain (Entry.Accepted call caller handler arg) = ⊥
IsPlain _ = Unit {0}

pub record IsClosed (attempt : Attempts) (K : List Active → List Waiting → List Entry → Type 0) : Type 0 where
  pub due : (c : Call) (d e : Due) (rest : List Active) (w : List Waiting) (es : List Entry)
      → K (record { call = c; due = d } ∷ rest) w es → K (record { call = c; due = e } ∷ rest) w es
  pub drop : (a : Active) (rest : List Active) (w : List Waiting) (es : List Entry) → K (a ∷ rest) w es → K rest w es
  pub cut : (active : List Active) (w : List Waiting) (es : List Entry) → K active w es → K [] [] es
  pub noted : (active : List Active) (w : List Waiting) (es : List Entry) (e : Entry) → IsPlain e → K active w es → K active w (es ++ e ∷ [])
  pub later : (a : Active) (rest : List Active) (w : List Waiting) (es : List Entry) (event : EventId) (arg : List ℕ) → K (a ∷ rest) w es
      → K (a ∷ rest) (w ++ record { asker = a.call; event = event; arg = arg } ∷ []) es
  pub called : (a : Active) (rest : List Active) (w : List Waiting) (es : List Entry) (event : EventId) (arg : List ℕ) (h : HandlerId) (hs : List HandlerId)
      → attempt es (Some a.call) event ≡ Attempt.Accepts h hs → K (a ∷ rest) w es
      → K (begun es arg (h ∷ hs) ++ (a ∷ rest)) w (es ++ entered es (Some a.call) arg (h ∷ hs))
  pub woken : (first : Waiting) (w : List Waiting) (es : List Entry) (h : HandlerId) (hs : List HandlerId)
      → attempt es (Some first.asker) first.event ≡ Attempt.Accepts h hs → K [] (first ∷ w) es
      → K (begun es first.arg (h ∷ hs) ++ []) w (es ++ entered es (Some first.asker) first.arg (h ∷ hs))
  pub unwoken : (first : Waiting) (w : List Waiting) (es : List Entry) → K [] (first ∷ w) es → K [] w es

closed_attempted : (K : List Active → List Waiting → List Entry → Type 0) (books : Books) (caller : Option Call) (event : EventId) (arg : List ℕ) (answer : Option Ending)
    (rest : List Active) (next : Books → Reply → Computation) (a : Attempt)
    → ((h : HandlerId) (hs : List HandlerId) → a ≡ Attempt.Accepts h hs
    → K (begun books.entries arg (h ∷ hs) ++ rest) books.waiting (books.entries ++ entered books.entries caller arg (h ∷ hs)))
    → ((r : Refusal) → Of K (next (refused books caller event r) (Reply.Refused r)))
    → Of K (attempted books caller event arg answer rest next a)
closed_attempted K books caller event arg answer rest next (Attempt.Refuses r) accepts refuses = refuses r
closed_attempted K books caller event arg answer rest next (Attempt.Accepts h hs) accepts refuses = accepts h hs refl

pub closed_woken : (attempt : Attempts) (K : List Active → List Waiting → List Entry → Type 0) → IsClosed attempt K
    → (waiting : List Waiting) (books : Books) (answer : Option Ending) → K [] waiting books.entries → Of K (woken attempt waiting books answer)
closed_woken attempt K closed [] books answer k = k
closed_woken attempt K closed (first ∷ later) books answer k =
    closed_attempted K (record books { waiting = later }) (Some first.asker) first.event first.arg answer []
    (λ b r. woken attempt later b answer) (attempt books.entries (Some first.asker) first.event)
    (λ h hs e. closed.woken first later books.entries h hs e k)
    (λ r. closed_woken attempt K closed later (refused (record books { waiting = later }) (Some first.asker) first.event r) answer
    (closed.noted [] later books.entries _ tt (closed.unwoken first later books.entries k)))

pub closed_replied : (attempt : Attempts) (K : List Active → List Waiting → List Entry → Type 0) → IsClosed attempt K
    → (books : Books) (answer : Option Ending) (rest : List Active) (r : Reply) → K rest books.waiting books.entries → Of K (replied attempt books answer rest r)
closed_replied attempt K closed books answer [] r k = closed_woken attempt K closed books.waiting books (first_answer answer r) k
closed_replied attempt K closed books answer (a ∷ rest) r k = go a.due refl
  where
    go : (d : Due) → a.due ≡ d → K (given a.call d r ∷ rest) books.waiting books.entries
    go (Due.Next m) e = closed.due a.call a.due (Due.Next m) rest books.waiting books.entries k
    go (Due.Frame frame) e = closed.due a.call a.due _ rest books.waiting books.entries k

closed_effect : (attempt : Attempts) (K : List Active → List Waiting → List Entry → Type 0) → IsClosed attempt K
    → (books : Books) (answer : Option Ending) (rest : List Active) (c : Call) (d : Due) (o : Outcome)
    → K (record { call = c; due = d } ∷ rest) books.waiting books.entries → Of K (outcome_effect attempt books answer rest c o)
closed_effect attempt K closed books answer rest c d (Outcome.Call event arg frame) k =
    let held : K (at_frame c frame ∷ rest) books.waiting books.entries = closed.due c d (Due.Frame frame) rest books.waiting books.entries k in
    closed_attempted K books (Some c) event arg answer (at_frame c frame ∷ rest) (λ b r. replied attempt b answer (at_frame c frame ∷ rest) r)
    (attempt books.entries (Some c) event)
    (λ h hs e. closed.called (at_frame c frame) rest books.waiting books.entries event arg h hs e held)
    (λ r. closed_replied attempt K closed (refused books (Some c) event r) answer (at_frame c frame ∷ rest) (Reply.Refused r)
    (closed.noted (at_frame c frame ∷ rest) books.waiting books.entries _ tt held))
closed_effect attempt K closed books answer rest c d (Outcome.Later event arg frame) k =
    closed.due c d _ rest _ _ (closed.noted _ _ _ _ tt (closed.later (record { call = c; due = d }) rest books.waiting books.entries event arg k))
closed_effect attempt K closed books answer rest c d (Outcome.Send to event arg frame) k =
    closed.due c d _ rest _ _ (closed.noted _ books.waiting books.entries _ tt k)
closed_effect attempt K closed books answer rest c d (Outcome.Deliver arg frame) k =
    closed.due c d _ rest _ _ (closed.noted _ books.waiting books.entries _ tt k)
closed_effect attempt K closed books answer rest c d (Outcome.Change change arg frame) k =
    closed.due c d _ rest _ _ (closed.noted _ books.waiting books.entries _ tt k)
closed_effect attempt K closed books answer rest c d (Outcome.Done reply) k =
    closed_replied attempt K closed books answer rest (Reply.Words reply) (closed.drop _ rest books.waiting books.entries k)

closed_spends : (attempt : Attempts) (K : List Active → List Waiting → List Entry → Type 0) → IsClosed attempt K
    → (books : Books) (answer : Option Ending) (rest : List Active) (c : Call) (d : Due) (o : Outcome) (units : ℕ)
    → K (record { call = c; due = d } ∷ rest) books.waiting books.entries → Of K (outcome_spends attempt books answer rest c o units)
closed_spends attempt K closed books answer rest c d o zero k =
    closed.cut _ books.waiting _ (closed.noted _ books.waiting books.entries (Entry.Refused c.number None Refusal.OverBudget) tt k)
closed_spends attempt K closed books answer rest c d o (suc left) k = closed_effect attempt K closed (record books { units = left }) answer rest c d o k

closed_taken : (attempt : Attempts) (K : List Active → List Waiting → List Entry → Type 0) → IsClosed attempt K
    → (books : Books) (answer : Option Ending) (rest : List Active) (c : Call) (d : Due) (o : Outcome)
    → K (record { call = c; due = d } ∷ rest) books.waiting books.entries → Of K (outcome_taken attempt books answer rest c o)
closed_taken attempt K closed books answer rest c d (Outcome.Done reply) k =
    closed_replied attempt K closed (noted books (Entry.Finished c.number reply)) answer rest (Reply.Words reply)
    (closed.noted rest books.waiting books.entries _ tt (closed.drop _ rest books.waiting books.entries k))
closed_taken attempt K closed books answer rest c d o k = closed_spends attempt K closed books answer rest c d o books.units k

pub closed_take : (attempt : Attempts) (K : List Active → List Waiting → List Entry → Type 0) → IsClosed attempt K
    → (comp : Computation) (o : Outcome) → Of K comp → Of K (take_outcome attempt comp o)
closed_take attempt K closed comp o k = go comp.active k
  where
    go : (active : List Active) → K active comp.waiting comp.entries → Of K (take_outcome_at attempt active comp.books comp.answer o)
    go [] h = h
    go (a ∷ rest) h = closed_taken attempt K closed comp.books comp.answer rest a.call a.due o h

pub closed_drive : (attempt : Attempts) (K : List Active → List Waiting → List Entry → Type 0) → IsClosed attempt K
    → (comp : Computation) (os : List Outcome) → Of K comp → Of K (drive attempt comp os)
closed_drive attempt K closed comp [] k = k
closed_drive attempt K closed comp (o ∷ os) k = closed_drive attempt K closed (take_outcome attempt comp o) os (closed_take attempt K closed comp o k)

-- what the root call begins with
abbrev pub IsRooted : Attempts → (List Active → List Waiting → List Entry → Type 0) → Type 0
IsRooted attempt K = (event : EventId) (arg : List ℕ) (h : HandlerId) (hs : List HandlerId) → attempt [] None event ≡ Attempt.Accepts h hs
    → K (begun [] arg (h ∷ hs) ++ []) [] ([] ++ entered [] None arg (h ∷ hs))

pub closed_start : (attempt : Attempts) (K : List Active → List Waiting → List Entry → Type 0) → IsClosed attempt K → K [] [] [] → IsRooted attempt K
    → (budget : ℕ) (event : EventId) (arg : List ℕ) → Of K (start attempt budget event arg)
closed_start attempt K closed none root budget event arg =
    let books : Books = record { units = budget; waiting = []; entries = [] } in
    closed_attempted K books None event arg None [] (λ b r. replied attempt b None [] r) (attempt [] None event)
    (λ h hs e. root event arg h hs e)
    (λ r. closed_replied attempt K closed (refused books None event r) None [] (Reply.Refused r) (closed.noted [] [] [] _ tt none))

pub closed_turn : (rs : Rules) (K : List Active → List Waiting → List Entry → Type 0) → IsClosed rs.attempt K → (m : Machine) → Of K m.comp → Of K (turn rs m).comp
closed_turn rs K closed m k = go (some_or_none (next_step m.comp))
  where
    go : (next_step m.comp ≡ None) ⊎ ((y : Call × Moment) × (next_step m.comp ≡ Some y)) → Of K (turn rs m).comp
    go (inl none) = subst (λ (x : Machine). Of K x.comp) (sym (turn_still rs m none)) k
    go (inr some) =
        let c : Call = some.0.0 in
        let moment : Moment = some.0.1 in
        let is : next_step m.comp ≡ Some (c, moment) = some.1 in
        subst (λ (x : Machine). Of K x.comp) (sym (turn_is rs m c moment is)) (closed_take rs.attempt K closed m.comp (stepped rs m.states c moment).1 k)

pub closed_points : (P : Play) (k : ℕ) (K : List Active → List Waiting → List Entry → Type 0) → IsClosed (attempts P k) K → K [] [] [] → IsRooted (attempts P k) K
    → (n : ℕ) → Of K (point P k n).comp
closed_points P k K closed none root zero = closed_start (attempts P k) K closed none root (P.budget k) (P.root k) (P.args k)
closed_points P k K closed none root (suc n) = closed_turn (rules P k) K closed (point P k n) (closed_points P k K closed none root n)
