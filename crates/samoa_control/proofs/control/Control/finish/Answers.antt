use Rattle.std.proofs.Common.{arith, ◌<◌, sym, subst}
use Rattle.samoa_model.specs.declared.record.Step.{Step}
use Rattle.samoa_invariant.specs.Runs.{IsDue, Trace}
use Rattle.samoa_control.specs.Fields.{fields_of}
use Rattle.samoa_control.specs.Since.{cleared_comps}
use Rattle.samoa_control.proofs.Going.{end-there, kept-ended, some-unended}
use Rattle.samoa_control.proofs.Keeps.{some_promised}
use Rattle.samoa_control.proofs.control.Control.finish.Goals as goal

pub overflow_sub-self : goal.overflow_sub-self
overflow_sub-self g c =
    let some = some-unended (fields_of c.self.inside) c.args.comp c.self.invariant (subst (λ (x : Trace). IsDue x (Step.End c.args.comp)) (sym c.self.view_is) c.requires.due) in
    omega (arith, some)

pub note-requires : goal.note-requires
note-requires g c =
    some_promised (fields_of c.self.inside) (Step.End c.args.comp) c.self.invariant tt (subst (λ (x : Trace). IsDue x (Step.End c.args.comp)) (sym c.self.view_is) c.requires.due)

pub end_at-requires : goal.end_at-requires
end_at-requires g c =
    end-there (fields_of c.self.inside) c.args.comp c.self.invariant (subst (λ (x : Trace). IsDue x (Step.End c.args.comp)) (sym c.self.view_is) c.requires.due)
    (subst (λ (x : Trace). cleared_comps x < c.args.comp) (sym c.self.view_is) c.requires.kept)

pub invariant_of-self : goal.invariant_of-self
invariant_of-self g c =
    rw c.note.ensures
    (kept-ended (fields_of c.self.inside) c.args.comp _ c.self.invariant (subst (λ (x : Trace). IsDue x (Step.End c.args.comp)) (sym c.self.view_is) c.requires.due)
    (subst (λ (x : Trace). cleared_comps x < c.args.comp) (sym c.self.view_is) c.requires.kept) c.end_at.ensures)
