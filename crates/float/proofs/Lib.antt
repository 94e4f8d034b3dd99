pub mod LeafLaws
pub mod Bits
pub mod Floor
pub mod Held
pub mod Trip
