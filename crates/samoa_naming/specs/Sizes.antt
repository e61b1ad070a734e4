-- Numbers of a draft that fit into those of a script.
use Rattle.std.specs.Prelude.{◌<◌, ◌^◌}
use Rattle.samoa_grammar.specs.declared.draft.DoDraft.{DoDraft}
use Rattle.samoa_grammar.specs.declared.draft.LossDraft.{LossDraft}
use Rattle.samoa_grammar.specs.declared.draft.CrashDraft.{CrashDraft}

abbrev pub FitsDo : DoDraft → Type 0
FitsDo item = (item.tick < 2 ^ 32) × (item.node < 2 ^ 32)

abbrev pub FitsLoss : LossDraft → Type 0
FitsLoss l = (l.from < 2 ^ 32) × (l.to < 2 ^ 32)

abbrev pub FitsCrash : CrashDraft → Type 0
FitsCrash c = c.node < 2 ^ 32
