use Rattle.std.proofs.Common.{arith, ◌≡◌, ◌∙◌, ◌+◌, ◌++◌, ◌∷◌, [], ℕ, List, length, length-append, ap, sym, subst, refl}
use Rattle.std.specs.Prelude.{vec_capacity}
use Rattle.samoa_invariant.specs.Runs.{Trace}
use Rattle.samoa_control.specs.Fields.{fields_of}
use Rattle.samoa_model.specs.declared.record.Ext.{Ext}
use Rattle.samoa_control.specs.Kept.{Fields, trace_of}
use Rattle.samoa_control.proofs.Admitted.{Admits, kept-taken, small, unended-fits}
use Rattle.samoa_control.proofs.Keeps.{kept-room}
use Rattle.samoa_control.proofs.Tabled.{ChangesTables, changes-with_room}
use Rattle.samoa_control.proofs.control.Control.take.Goals as goal

pub invariant_of-self-in_err-room_for_one : goal.invariant_of-self-in_err-room_for_one
invariant_of-self-in_err-room_for_one g c =
    rw (c.room_for_one.ensures.exts, c.room_for_one.ensures.running, c.room_for_one.ensures.clears)
    (kept-room (fields_of c.self.inside) _ _ c.self.invariant c.room_for_one.ensures.clears_kept)

pub invariant_of-self-in_err-room_for_change : goal.invariant_of-self-in_err-room_for_change
invariant_of-self-in_err-room_for_change g c =
    rw (c.room_for_one.ensures.exts, c.room_for_one.ensures.running, c.room_for_one.ensures.clears, c.room_for_change.ensures.tables)
    (kept-room (fields_of c.self.inside) _ _ c.self.invariant c.room_for_one.ensures.clears_kept)

pub turns_of-turns-requires-clause-small : goal.turns_of-turns-requires-clause-small
turns_of-turns-requires-clause-small g c p below =
    let fs : Fields = fields_of c.self.inside in
    let admits : Admits _ c.args.ext.now = subst (λ (x : Trace). Admits x c.args.ext.now) (sym c.self.view_is) (record { known = c.requires.known; few = c.requires.few; fits = c.requires.fits }) in
    let few = admits.few in
    let most = small fs c.args.ext.now.node.0 p c.self.invariant admits.known.node below in
    omega (arith, most, few)

pub overflow_add-self-2 : goal.overflow_add-self-2
overflow_add-self-2 g c =
    let most = unended-fits (fields_of c.self.inside) c.self.invariant in
    omega (arith, most)

pub invariant_of-self-in_err-steps : goal.invariant_of-self-in_err-steps
invariant_of-self-in_err-steps g c =
    rw (c.room_for_one.ensures.exts, c.room_for_one.ensures.running, c.room_for_one.ensures.clears, c.room_for_change.ensures.tables)
    (kept-room (fields_of c.self.inside) _ _ c.self.invariant c.room_for_one.ensures.clears_kept)

pub invariant_of-self-in_err-promise : goal.invariant_of-self-in_err-promise
invariant_of-self-in_err-promise g c =
    rw (c.room_for_one.ensures.exts, c.room_for_one.ensures.running, c.room_for_one.ensures.clears, c.room_for_change.ensures.tables, c.in_err-promise.ensures.err)
    (kept-room (fields_of c.self.inside) _ _ c.self.invariant c.room_for_one.ensures.clears_kept)

pub begin-requires-clause-tables : goal.begin-requires-clause-tables
begin-requires-clause-tables g c =
    let fs : Fields = fields_of c.self.inside in
    let admits : Admits _ c.args.ext.now = subst (λ (x : Trace). Admits x c.args.ext.now) (sym c.self.view_is) (record { known = c.requires.known; few = c.requires.few; fits = c.requires.fits }) in
    let changes : ChangesTables fs.script fs.tables c.change_tables.new.tables c.args.ext.now.node c.args.ext.now.cause =
    changes-with_room fs.script fs.tables c.room_for_change.new.tables c.change_tables.new.tables c.args.ext.now.node c.args.ext.now.cause c.self.invariant.in_range c.self.invariant.tables
    admits.known.node admits.known.cause c.room_for_change.ensures.tables c.change_tables.ensures in
    changes.are

pub invariant_of-self-2 : goal.invariant_of-self-2
invariant_of-self-2 g c =
    let fs : Fields = fields_of c.self.inside in
    let ext : Ext = c.args.ext.now in
    let admits : Admits (trace_of fs) ext = subst (λ (x : Trace). Admits x ext) (sym c.self.view_is) (record { known = c.requires.known; few = c.requires.few; fits = c.requires.fits }) in
    let was = c.room_for_one.ensures in
    let longer : length c.push_reserved.new.self.items ≡ length fs.exts + 1 =
    ap length c.push_reserved.ensures.items ∙ (ap (λ (xs : List Ext). length (xs ++ ext ∷ [])) was.exts ∙ length-append fs.exts (ext ∷ [])) in
    let ok = c.push_reserved.new.self.ok in
    let number : c.len-comp.result ≡ length fs.exts + 1 = omega (arith, c.len-comp.ensures, ok, longer) in
    let as_many : length c.room_for_one.new.clears.items ≡ length fs.clears = ap length was.clears in
    let clears_room = c.in_ok-room_for_one.ensures.clears_room in
    let changes : ChangesTables fs.script fs.tables c.change_tables.new.tables ext.node ext.cause =
    changes-with_room fs.script fs.tables c.room_for_change.new.tables c.change_tables.new.tables ext.node ext.cause c.self.invariant.in_range c.self.invariant.tables
    admits.known.node admits.known.cause c.room_for_change.ensures.tables c.change_tables.ensures in
    rw (
      c.note.ensures,
      c.in_ok-promise.ensures.ok,
      c.push_reserved.ensures.items,
      c.push_reserved-2.ensures.items,
      was.exts,
      was.running,
      was.clears,
      c.turns_of-turns.ensures.lv,
    )
    (kept-taken fs ext c.len-comp.result (fs.held + c.cells_of.result) c.in_ok-steps.steps (vec_capacity c.room_for_one.new.clears) c.decl_number-number.result c.decl_number-number.result c.decl_in.result.now
    c.turns_of-turns.new.versions.gv c.change_tables.new.tables _ c.self.invariant admits changes refl c.current.ensures refl c.begin.ensures.calls c.begin.ensures.none_waits
    c.decl_number-number.ensures.number c.decl_number-number.ensures.number c.decl_in.ensures
    c.in_ok-steps.ensures c.turns_of-turns.ensures.turns c.turns_of-turns.ensures.gv number (ap (λ (n : ℕ). fs.held + n) c.cells_of.ensures.cells) (omega (arith, clears_room, as_many)))
