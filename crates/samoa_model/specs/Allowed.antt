-- Which calls a declaration allows, and what an attempt to call an event's handlers answers.
use Rattle.std.specs.Prelude.{ℕ, ◌+◌, Bool, ◌&&◌, List, [], ◌∷◌, ◌++◌, Option, Some, None, ◌==◌, if◌then◌else◌, nat_le, get_or, count_by}
use Rattle.std.specs.List.{list_any}
use Rattle.samoa_model.specs.declared.ids.HandlerId.{HandlerId}
use Rattle.samoa_model.specs.declared.handler.Refusal.{Refusal}
use Rattle.samoa_model.specs.declared.record.Entry.{Entry}
use Rattle.samoa_model.specs.declared.script.Decl.{Decl}
use Rattle.samoa_model.specs.Entries.{calls_at}

-- how many of these handlers are at a microprotocol
abbrev pub handlers_at : List HandlerId → ℕ → ℕ
handlers_at hs p = count_by (λ h. h.micro.0 == p) hs

abbrev pub same_handler : HandlerId → HandlerId → Bool
same_handler a b = (a.micro.0 == b.micro.0) && (a.index == b.index)

abbrev pub no_handler : HandlerId
no_handler = record { micro = record { 0 = 0 }; index = 0 }

-- whether a microprotocol is in the declaration
abbrev pub declares : Decl → ℕ → Bool
declares (Decl.Set micros) p = list_any (λ q. q == p) micros
declares (Decl.Bound bounds) p = list_any (λ b. b.0 == p) bounds
declares (Decl.Route vertices roots edges) p = list_any (λ v. v.micro.0 == p) vertices

-- the bound of a microprotocol, 0 where it has none
abbrev pub bound_in : List (ℕ × ℕ) → ℕ → ℕ
bound_in [] p = 0
bound_in (b ∷ bs) p = if b.0 == p then b.1 else bound_in bs p

-- whether a route leads from the caller to the callee: to a root from the external event, else along an edge
abbrev pub leads : List HandlerId → List ℕ → List (ℕ × ℕ) → Option HandlerId → HandlerId → Bool
leads vertices roots edges None callee = list_any (λ r. same_handler (get_or vertices r no_handler) callee) roots
leads vertices roots edges (Some caller) callee =
    list_any (λ e. same_handler (get_or vertices e.0 no_handler) caller && same_handler (get_or vertices e.1 no_handler) callee) edges

-- what the form of the declaration refuses, of a callee that is in it
abbrev pub form_refuses : Decl → List Entry → List HandlerId → Option HandlerId → HandlerId → Option Refusal
form_refuses (Decl.Set micros) entries before caller callee = None
form_refuses (Decl.Bound bounds) entries before caller callee =
    let p = callee.micro.0 in
    if nat_le (bound_in bounds p) (calls_at entries p + handlers_at before p) then Some Refusal.OverBound else None
form_refuses (Decl.Route vertices roots edges) entries before caller callee =
    if leads vertices roots edges caller callee then None else Some Refusal.OffRoute

-- the refusal of a handler, None where it is allowed; `before` are the handlers already tested in this attempt,
-- and no caller is the external event
abbrev pub refusal_of : Decl → List Entry → List HandlerId → Option HandlerId → HandlerId → Option Refusal
refusal_of decl entries before caller callee =
    if declares decl callee.micro.0 then form_refuses decl entries before caller callee else Some Refusal.Undeclared

abbrev pub or_next : Option Refusal → Option Refusal → Option Refusal
or_next (Some r) next = Some r
or_next None next = next

-- the first refusal in a list of handlers, each tested after those before it
abbrev pub first_refusal : Decl → List Entry → Option HandlerId → List HandlerId → List HandlerId → Option Refusal
first_refusal decl entries caller before [] = None
first_refusal decl entries caller before (h ∷ hs) =
    or_next (refusal_of decl entries before caller h) (first_refusal decl entries caller (before ++ h ∷ []) hs)

-- what an attempt answers: a refusal, or the handlers that are called, of which there is at least one
pub data Attempt : Type 0 where
  Refuses : Refusal → Attempt
  Accepts : HandlerId → List HandlerId → Attempt

abbrev pub unless_refused : Option Refusal → HandlerId → List HandlerId → Attempt
unless_refused (Some r) h hs = Attempt.Refuses r
unless_refused None h hs = Attempt.Accepts h hs

-- an attempt on the handlers that are bound to an event
abbrev pub attempt_all : Decl → List Entry → Option HandlerId → List HandlerId → Attempt
attempt_all decl entries caller [] = Attempt.Refuses Refusal.Unbound
attempt_all decl entries caller (h ∷ hs) = unless_refused (first_refusal decl entries caller [] (h ∷ hs)) h hs

-- the weight of a microprotocol: its bound, or 1 where it is declared without one, and 0 where it isn't declared
abbrev pub weight : Decl → ℕ → ℕ
weight (Decl.Bound bounds) p = bound_in bounds p
weight (Decl.Set micros) p = if declares (Decl.Set micros) p then 1 else 0
weight (Decl.Route vertices roots edges) p = if declares (Decl.Route vertices roots edges) p then 1 else 0
