pub mod Swept
pub mod Placed
