-- What a bound and a route answer to one call.
use Rattle.std.specs.Prelude.{ℕ, List, Option, Some, None, nat_le, if◌then◌else◌}
use Rattle.samoa_model.specs.declared.ids.HandlerId.{HandlerId}
use Rattle.samoa_model.specs.declared.handler.Refusal.{Refusal}
use Rattle.samoa_model.specs.declared.script.Decl.{Decl}
use Rattle.samoa_model.specs.Allowed.{bound_in, declares, leads}

-- a bound, after so many calls at a microprotocol
abbrev pub bound_answer : List (ℕ × ℕ) → ℕ → ℕ → Option Refusal
bound_answer bounds made p =
    if declares (Decl.Bound bounds) p then (if nat_le (bound_in bounds p) made then Some Refusal.OverBound else None) else Some Refusal.Undeclared

abbrev pub route_answer : List HandlerId → List ℕ → List (ℕ × ℕ) → Option HandlerId → HandlerId → Option Refusal
route_answer vertices roots edges caller callee =
    if declares (Decl.Route vertices roots edges) callee.micro.0 then (if leads vertices roots edges caller callee then None else Some Refusal.OffRoute) else Some Refusal.Undeclared
