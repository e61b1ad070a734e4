use Rattle.std.proofs.Common.{arith, ◌≤◌, length}
use Rattle.samoa_control.specs.Fields.{fields_of}
use Rattle.samoa_control.specs.Kept.{Fields}
use Rattle.samoa_control.proofs.Facts.{few}
use Rattle.samoa_control.proofs.control.Control.admitted.Goals as goal

pub overflow_cast-result : goal.overflow_cast-result
overflow_cast-result g c =
    let fs : Fields = fields_of c.self.inside in
    let most : length fs.exts ≤ 100000 = few fs c.self.invariant in
    omega (arith, most, c.len.ensures)
