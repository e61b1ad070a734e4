pub mod BatchLaws
pub mod Bound
pub mod CodeLaws
pub mod Declared
pub mod DrainLaws
pub mod End
mod Example
pub mod EntryLaws
pub mod Falls
pub mod Fixed
pub mod HistoryLaws
pub mod Instances
pub mod KeptLaws
pub mod Lengths
pub mod LimitLaws
pub mod ListLaws
pub mod Point
pub mod RangeLaws
pub mod Reach
pub mod RebindingLaws
pub mod Refine
mod ReferenceConsensus
mod ReferenceHandlers
mod ReferenceOrdering
mod ReferencePassing
mod ReferenceReplacing
mod ReferenceReport
mod ReferenceRuns
pub mod ReferenceScripts
mod ReferenceTicks
pub mod ReferenceWords
pub mod ReportLaws
pub mod RowLaws
pub mod ScriptLaws
pub mod SerialLaws
pub mod StillLaws
pub mod TicksLaws
