-- The handlers of microprotocols, and their names.
use Rattle.std.specs.Prelude.{ℕ, ◌<◌, List, [], ◌∷◌, ◌++◌, map, length, codes, get_or}
use Rattle.samoa_model.specs.declared.ids.HandlerId.{HandlerId}
use Rattle.samoa_model.specs.declared.setup.Kind.{Kind}
use Rattle.samoa_model.specs.declared.setup.Kind.TheVariants.{Prog, Link, Fd, Rbcast, Cons, Abcast, Seqcast, Repl, Views}
use Rattle.samoa_model.specs.declared.script.CodeDef.{CodeDef}
use Rattle.samoa_model.specs.declared.script.MicroDef.{MicroDef}
use Rattle.samoa_model.specs.declared.script.Script.{Script}
use Rattle.samoa_model.specs.Scripts.{micro_at}

-- the handlers of the kinds that aren't scripted, in the order of their numbers
abbrev pub handlers_of_kind : Kind → List (List ℕ)
handlers_of_kind Prog = []
handlers_of_kind Link = codes "send" ∷ codes "recv" ∷ []
handlers_of_kind Fd = codes "beat" ∷ codes "heard" ∷ []
handlers_of_kind Rbcast = codes "cast" ∷ codes "recv" ∷ []
handlers_of_kind Cons = codes "propose" ∷ codes "recv" ∷ codes "decide" ∷ codes "advance" ∷ codes "suspect" ∷ []
handlers_of_kind Abcast = codes "cast" ∷ codes "heard" ∷ codes "decided" ∷ []
handlers_of_kind Seqcast = codes "cast" ∷ codes "recv" ∷ []
handlers_of_kind Repl = codes "cast" ∷ codes "deliver" ∷ codes "switched" ∷ []
handlers_of_kind Views = codes "ask" ∷ codes "install" ∷ []

-- the handlers of a microprotocol, in the order of their numbers: those of its script, and those of its kind
abbrev pub names_of_handlers : MicroDef → List (List ℕ)
names_of_handlers micro = map (λ (h : CodeDef). h.name) micro.handlers ++ handlers_of_kind micro.kind

-- a handler that its microprotocol has
abbrev pub IsHandlerOf : Script → HandlerId → Type 0
IsHandlerOf script handler = handler.index < length (names_of_handlers (micro_at script handler.micro.0))

-- the name of a handler without that of its microprotocol, empty past the last
abbrev pub own_name : Script → HandlerId → List ℕ
own_name script handler = get_or (names_of_handlers (micro_at script handler.micro.0)) handler.index []

-- the name of a handler, after that of its microprotocol and a dot
abbrev pub handler_text : Script → HandlerId → List ℕ
handler_text script handler = (micro_at script handler.micro.0).name ++ codes "." ++ own_name script handler
