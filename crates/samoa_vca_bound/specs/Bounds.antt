-- Declarations that are bounds.
use Rattle.samoa_model.specs.declared.script.Decl.{Decl}

abbrev pub IsBound : Decl → Type 0
IsBound (Decl.Set micros) = ⊥
IsBound (Decl.Bound bounds) = Unit {0}
IsBound (Decl.Route vertices roots edges) = ⊥
