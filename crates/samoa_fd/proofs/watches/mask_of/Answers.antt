use Rattle.std.proofs.Common.{◌<◌, ◌^◌, drop, arith, length-drop}
use Rattle.samoa_serial.specs.FdTable.{fd_mask}
use Rattle.samoa_fd.proofs.Masks.{mask_small}
use Rattle.samoa_fd.proofs.watches.mask_of.Goals as goal
use Rattle.samoa_fd.proofs.watches.mask_of.Goals.{then-watches-at, else-watches-at}

pub overflow_mul-mask : goal.overflow_mul-mask
overflow_mul-mask c =
    let rest = drop c.loop-at.at c.args.watches.now in
    let small : fd_mask rest < 2 ^ 63 = mask_small rest 63 (omega (arith, length-drop c.loop-at.at c.args.watches.now)) in
    omega arith

pub overflow_add-mask : goal.overflow_add-mask
overflow_add-mask c =
    let rest = drop c.loop-at.at c.args.watches.now in
    let small : fd_mask rest < 2 ^ 63 = mask_small rest 63 (omega (arith, length-drop c.loop-at.at c.args.watches.now)) in
    elim c.if-watches-at.branch [ then-watches-at w ↦ omega arith | else-watches-at w ↦ omega arith ]
