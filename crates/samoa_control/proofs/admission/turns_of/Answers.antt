use Rattle.std.proofs.lemmas.List.Elements.{All-get_or}
use Rattle.samoa_model.specs.Range.{IsDeclOf}
use Rattle.samoa_model.specs.Scripts.{no_decl}
use Rattle.samoa_model.specs.declared.script.DeclDef.{DeclDef}
use Rattle.samoa_control.proofs.Declares.{weight-most}
use Rattle.samoa_control.proofs.admission.turns_of.Goals as goal

pub take_turns-requires-clause-weights : goal.take_turns-requires-clause-weights
take_turns-requires-clause-weights c p =
    weight-most c.args.script.now _ p
    (rw c.decl_in-decl.ensures (All-get_or (λ (d : DeclDef). IsDeclOf c.args.script.now d.decl) c.args.script.now.decls c.args.decl no_decl c.requires.decl c.requires.in_range.decls))
