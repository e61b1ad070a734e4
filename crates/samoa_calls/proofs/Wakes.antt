-- One waiting call is attempted.
use Rattle.std.proofs.Common.{arith, drop, drop-cons, add-one, get_or, All, zero, suc, ◌≡◌, ℕ, ◌+◌, ◌<◌, sym, ap, ap₂, ◌∙◌, ◌∷◌, [], List, reverse, length, Option, Some}
use Rattle.std.proofs.lemmas.List.{reverse-reverse}
use Rattle.samoa_model.specs.declared.record.Entry.{Entry}
use Rattle.samoa_model.specs.declared.record.Ending.{Ending}
use Rattle.samoa_serial.specs.declared.call.Waiting.{Waiting}
use Rattle.samoa_serial.specs.declared.call.Active.{Active}
use Rattle.samoa_model.specs.declared.ids.HandlerId.{HandlerId}
use Rattle.samoa_model.specs.declared.handler.Refusal.{Refusal}
use Rattle.samoa_serial.specs.World.{Books, Attempts, refused}
use Rattle.samoa_model.specs.Allowed.{Attempt}
use Rattle.samoa_serial.specs.Calls.{Computation, woken, attempted}
use Rattle.samoa_model.specs.declared.script.Decl.{Decl}
use Rattle.samoa_model.specs.Scripts.{Table, resolve}
use Rattle.samoa_serial.specs.World.{handler_of, attempts_of}
use Rattle.samoa_model.specs.Allowed.{attempt_all}
use Rattle.samoa_calls.specs.Tried.{entries_after, active_after}
use Rattle.samoa_calls.proofs.Tries.{IsAccepted}

-- the waiting calls with an answer for the first one: it is taken out, and a refusal goes on to the next
pub woken-refused : (attempt : Attempts) (waiting later : List Waiting) (first : Waiting) (books : Books) (answer : Option Ending) (r : Refusal)
    → waiting ≡ first ∷ later → attempt books.entries (Some first.asker) first.event ≡ Attempt.Refuses r
    → woken attempt waiting books answer ≡ woken attempt later (refused (record books { waiting = later }) (Some first.asker) first.event r) answer
woken-refused attempt waiting later first books answer r e f =
    ap (λ (ws : List Waiting). woken attempt ws books answer) e
    ∙ ap (λ (a : Attempt). attempted (record books { waiting = later }) (Some first.asker) first.event first.arg answer []
    (λ b q. woken attempt later b answer) a) f

pub woken-accepted : (attempt : Attempts) (waiting later : List Waiting) (first : Waiting) (books : Books) (answer : Option Ending) (a : Attempt) (handlers : List HandlerId)
    → waiting ≡ first ∷ later → attempt books.entries (Some first.asker) first.event ≡ a → IsAccepted a handlers
    → record {
      active = active_after books.entries [] first.arg a;
      books = record { units = books.units; waiting = later; entries = entries_after books.entries (Some first.asker) first.event first.arg a };
      answer = answer;
    }
    ≡ woken attempt waiting books answer
woken-accepted attempt waiting later first books answer a handlers e f is =
    rw is.is (sym (ap (λ (ws : List Waiting). woken attempt ws books answer) e
    ∙ ap (λ (b : Attempt). attempted (record books { waiting = later }) (Some first.asker) first.event first.arg answer []
    (λ b' q. woken attempt later b' answer) b) (f ∙ is.is)))

pub names_split : (n : ℕ) (ws : List Waiting) (i : ℕ) (w : Waiting) → i < length ws → All (λ (v : Waiting). v.event.0 < n) (drop i ws)
    → All (λ (v : Waiting). v.event.0 < n) (get_or ws i w ∷ drop (suc i) ws)
names_split n ws i w lt all = rw (drop-cons ws i w lt) at all

pub names_first : (n : ℕ) (ws : List Waiting) (i : ℕ) (w : Waiting) → w ≡ get_or ws i w → i < length ws → All (λ (v : Waiting). v.event.0 < n) (drop i ws)
    → w.event.0 < n
names_first n ws i w e lt all =
    let first : (get_or ws i w).event.0 < n = names_split n ws i w lt all zero w (omega arith) in rw e first

pub names_later : (n : ℕ) (ws : List Waiting) (i : ℕ) (w : Waiting) → i < length ws → All (λ (v : Waiting). v.event.0 < n) (drop i ws)
    → All (λ (v : Waiting). v.event.0 < n) (drop (i + 1) ws)
names_later n ws i w lt all =
    let later : All (λ (v : Waiting). v.event.0 < n) (drop (suc i) ws) = λ k d lt'. names_split n ws i w lt all (suc k) d (omega arith) in
    rw add-one later

pub empty_backwards : (xs : List Active) → reverse xs ≡ [] → xs ≡ []
empty_backwards xs e = sym (reverse-reverse xs) ∙ ap (λ (ys : List Active). reverse ys) e

pub waiting_split : (ws : List Waiting) (i : ℕ) (w : Waiting) → w ≡ get_or ws i w → i < length ws → drop i ws ≡ w ∷ drop (i + 1) ws
waiting_split ws i w e lt =
    drop-cons ws i w lt ∙ (ap (λ (x : Waiting). x ∷ drop (suc i) ws) (sym e) ∙ ap (λ (j : ℕ). w ∷ drop j ws) (sym (add-one i)))

pub wake_accepted : (decl : Decl) (table : Table) (ws : List Waiting) (i units : ℕ) (first : Waiting) (es es' : List Entry) (answer : Option Ending)
    (handlers : List HandlerId) (active' : List Active)
    → first ≡ get_or ws i first → i < length ws → handlers ≡ resolve table first.event
    → IsAccepted (attempt_all decl es (handler_of (Some first.asker)) handlers) handlers
    → active' ≡ active_after es [] first.arg (attempt_all decl es (handler_of (Some first.asker)) handlers)
    → es' ≡ entries_after es (Some first.asker) first.event first.arg (attempt_all decl es (handler_of (Some first.asker)) handlers)
    → let after : Computation = record { active = active'; books = record { units = units; waiting = drop (i + 1) ws; entries = es' }; answer = answer } in
    after ≡ woken (attempts_of decl table) (drop i ws) (record { units = units; waiting = drop i ws; entries = es }) answer
wake_accepted decl table ws i units first es es' answer handlers active' at lt list acc active_is entries_is =
    let make : List Active → List Entry → Computation =
    λ active entries. record { active = active; books = record { units = units; waiting = drop (i + 1) ws; entries = entries }; answer = answer } in
    ap₂ make active_is entries_is
    ∙ woken-accepted (attempts_of decl table) (drop i ws) (drop (i + 1) ws) first (record { units = units; waiting = drop i ws; entries = es }) answer
    (attempt_all decl es (handler_of (Some first.asker)) handlers) handlers (waiting_split ws i first at lt)
    (ap (λ (hs : List HandlerId). attempt_all decl es (handler_of (Some first.asker)) hs) (sym list)) acc

pub wake_refused : (decl : Decl) (table : Table) (ws : List Waiting) (i units : ℕ) (first : Waiting) (es es' : List Entry) (answer : Option Ending)
    (handlers : List HandlerId) (r : Refusal)
    → first ≡ get_or ws i first → i < length ws → handlers ≡ resolve table first.event
    → attempt_all decl es (handler_of (Some first.asker)) handlers ≡ Attempt.Refuses r
    → es' ≡ entries_after es (Some first.asker) first.event first.arg (attempt_all decl es (handler_of (Some first.asker)) handlers)
    → woken (attempts_of decl table) (drop (i + 1) ws) (record { units = units; waiting = drop (i + 1) ws; entries = es' }) answer
    ≡ woken (attempts_of decl table) (drop i ws) (record { units = units; waiting = drop i ws; entries = es }) answer
wake_refused decl table ws i units first es es' answer handlers r at lt list refuses entries_is =
    let next : List Entry → Computation =
    λ entries. woken (attempts_of decl table) (drop (i + 1) ws) (record { units = units; waiting = drop (i + 1) ws; entries = entries }) answer in
    ap next (entries_is ∙ ap (λ (a : Attempt). entries_after es (Some first.asker) first.event first.arg a) refuses)
    ∙ sym (woken-refused (attempts_of decl table) (drop i ws) (drop (i + 1) ws) first (record { units = units; waiting = drop i ws; entries = es }) answer r
    (waiting_split ws i first at lt)
    (ap (λ (hs : List HandlerId). attempt_all decl es (handler_of (Some first.asker)) hs) (sym list) ∙ refuses))
