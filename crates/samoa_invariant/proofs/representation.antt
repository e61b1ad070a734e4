-- A core as the run of its journal over a script and what is admitted.
pub mod Scripted
pub mod Journals
pub mod Extended
pub mod Agrees
pub mod Traces
pub mod Due
pub mod Standing
