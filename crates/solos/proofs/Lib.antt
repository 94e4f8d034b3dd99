pub mod PeersLaws
pub mod Laws
