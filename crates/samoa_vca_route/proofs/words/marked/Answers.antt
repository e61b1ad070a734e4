use Rattle.samoa_vca_route.proofs.Masking.{one_marked, one_unmarked}
use Rattle.samoa_vca_route.proofs.words.marked.Goals as goal
use Rattle.samoa_vca_route.proofs.words.marked.Goals.{then-marks-place, else-marks-place}

pub loop-place-preserved : goal.loop-place-preserved
loop-place-preserved c = elim c.if-marks-place.branch [
  | then-marks-place w ↦ one_marked c.args.vertices.now c.args.marks.now c.loop-place.place c.loop-place.word c.if-marks-place.word w.bit-word.result
      c.loop-place.invariant w.bit-word.ensures w.word-is w.if-marks-place.true
  | else-marks-place w ↦ one_unmarked c.args.vertices.now c.args.marks.now c.loop-place.place c.loop-place.word c.if-marks-place.word c.loop-place.invariant w.word-is w.if-marks-place.false
]
