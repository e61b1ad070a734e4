-- Steps that a core is asked for one at a time.
use Rattle.samoa_model.specs.declared.record.Step.{Step}

-- it admits nothing
abbrev pub IsNoAdmit : Step → Type 0
IsNoAdmit (Step.Admit comp) = ⊥
IsNoAdmit (Step.Enter comp micro) = Unit {0}
IsNoAdmit (Step.Leave comp) = Unit {0}
IsNoAdmit (Step.Abandon comp) = Unit {0}
IsNoAdmit (Step.Release comp micro) = Unit {0}
IsNoAdmit (Step.End comp) = Unit {0}
