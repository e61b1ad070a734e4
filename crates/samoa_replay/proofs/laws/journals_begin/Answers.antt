use Rattle.std.proofs.Common.{◌∙◌, sym}
use Rattle.samoa_replay.proofs.Steady.{begun-of, begun-state, is_steady-take, of-finished, steady-of}
use Rattle.samoa_replay.proofs.laws.journals_begin.Goals as goal

pub returns-clause-finished : goal.returns-clause-finished
returns-clause-finished c script steps finished = (of-finished script steps finished).begun

pub returns-clause-first : goal.returns-clause-first
returns-clause-first c script steps n begun = begun-of script _ (is_steady-take script steps n (steady-of script steps begun))

pub returns-clause-determined : goal.returns-clause-determined
returns-clause-determined c script steps a b = begun-state script steps a ∙ sym (begun-state script steps b)
