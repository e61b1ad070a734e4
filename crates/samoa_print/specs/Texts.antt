-- The texts of what a script has as numbers. A number that names nothing has the empty name.
use Rattle.std.specs.Prelude.{ℕ, List, ◌==◌, if◌then◌else◌, codes}
use Rattle.samoa_model.specs.declared.ids.EventId.{EventId}
use Rattle.samoa_model.specs.declared.ids.ChangeId.{ChangeId}
use Rattle.samoa_model.specs.declared.setup.Kind.{Kind}
use Rattle.samoa_model.specs.declared.setup.Kind.TheVariants.{Prog, Link, Fd, Rbcast, Cons, Abcast, Seqcast, Repl, Views}
use Rattle.samoa_model.specs.declared.setup.Place.{Place}
use Rattle.samoa_model.specs.declared.setup.Place.TheVariants.{Reg, Local}
use Rattle.samoa_model.specs.declared.script.Script.{Script}
use Rattle.samoa_model.specs.Scripts.{micro_at, decl_at, event_at, change_at}

abbrev pub micro_text : Script → ℕ → List ℕ
micro_text script p = (micro_at script p).name

abbrev pub decl_text : Script → ℕ → List ℕ
decl_text script d = (decl_at script d).name

abbrev pub event_text : Script → EventId → List ℕ
event_text script event = (event_at script event.0).name

abbrev pub change_text : Script → ChangeId → List ℕ
change_text script change = (change_at script change.0).name

abbrev pub kind_text : Kind → List ℕ
kind_text Prog = codes "prog"
kind_text Link = codes "link"
kind_text Fd = codes "fd"
kind_text Rbcast = codes "rbcast"
kind_text Cons = codes "cons"
kind_text Abcast = codes "abcast"
kind_text Seqcast = codes "seqcast"
kind_text Repl = codes "repl"
kind_text Views = codes "views"

-- a register or a local. There are four of each, and a greater number is read as the last
abbrev pub place_text : Place → List ℕ
place_text (Reg n) = if n == 0 then codes "r0" else (if n == 1 then codes "r1" else (if n == 2 then codes "r2" else codes "r3"))
place_text (Local n) = if n == 0 then codes "x0" else (if n == 1 then codes "x1" else (if n == 2 then codes "x2" else codes "x3"))
