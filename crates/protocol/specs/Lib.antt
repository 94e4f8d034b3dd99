pub mod Protocol
pub mod ButtonKinds
