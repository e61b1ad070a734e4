use Rattle.std.proofs.Common.{List, length, arith, length-append, length-drop, ap}
use Rattle.std.proofs.lemmas.List.{length-reverse}
use Rattle.samoa_serial.specs.declared.call.Active.{Active}
use Rattle.samoa_serial.proofs.Lengths.{length-calls_from, length-to_begin}
use Rattle.samoa_calls.proofs.stack.activate.Goals as goal

pub push_reserved-requires : goal.push_reserved-requires
push_reserved-requires c =
    let lengths = ap (λ (xs : List Active). length xs) c.loop-left.invariant.active in
    omega (arith, simp (length-append, length-reverse, length-to_begin, length-calls_from, length-drop) at lengths)
