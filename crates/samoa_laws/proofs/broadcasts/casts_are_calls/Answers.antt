use Rattle.samoa_laws.proofs.broadcasts.Agree.{cast_down}
use Rattle.samoa_laws.proofs.broadcasts.casts_are_calls.Goals as goal

pub returns : goal.returns
returns c = record { at_once = λ script exts past x arg history part is moment. cast_down script exts past x history part is arg moment }
