pub mod Cuts
pub mod StepLines
