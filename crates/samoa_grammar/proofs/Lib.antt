pub mod Apart
pub mod Chains
pub mod Dedup
pub mod Instrs
pub mod Lists
mod ReferenceInstructions
mod ReferenceMeaning
mod ReferenceNames
mod ReferenceObjects
pub mod ReferenceParts
mod ReferenceRoutes
mod ReferenceTotals
pub mod ReferenceTrees
mod ReferenceWalk
pub mod RouteFaults
