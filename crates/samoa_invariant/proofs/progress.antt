-- Some step can always be made.
pub mod Progress
pub mod Onward
pub mod WholeRuns
