use Rattle.std.proofs.Common.{arith, ◌≡◌, ◌≤◌, ◌<◌, ◌*◌, min, refl, length, sym, subst}
use Rattle.samoa_invariant.specs.State as model
use Rattle.samoa_invariant.specs.Runs.{Trace, state}
use Rattle.samoa_control.specs.Fields.{fields_of}
use Rattle.samoa_control.specs.Kept.{Fields, trace_of}
use Rattle.samoa_control.proofs.Answered.{kept-clear}
use Rattle.samoa_control.proofs.Facts.{few}
use Rattle.samoa_control.proofs.control.Control.clear_held.Goals as goal

pub overflow_cast-self : goal.overflow_cast-self
overflow_cast-self g c =
    let fs : Fields = fields_of c.self.inside in
    let most : length fs.exts ≤ 100000 = few fs c.self.invariant in
    let ok = c.self.inside.exts.ok in
    omega (arith, most, ok, c.len-2.ensures)

pub invariant_of-self : goal.invariant_of-self
invariant_of-self g c =
    let fs : Fields = fields_of c.self.inside in
    let all : model.AllEnded (state (trace_of fs)) = subst (λ (x : Trace). model.AllEnded (state x)) (sym c.self.view_is) c.requires.all in
    let held : 0 < (state (trace_of fs)).cells = subst (λ (x : Trace). 0 < (state x).cells) (sym c.self.view_is) c.requires.held in
    let ok = c.self.inside.exts.ok in
    let first : c.len-2.result ≡ length fs.exts = omega (arith, ok, c.len-2.ensures) in
    rw (c.push_reserved.ensures.items, c.push_reserved.ensures.capacity, c.len.ensures, c.keep.ensures, c.from.ensures, c.clear.ensures.items)
    (kept-clear fs c.len-2.result (min fs.promised (3 * c.len-2.result)) c.self.invariant all held first refl)
