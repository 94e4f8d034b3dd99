pub mod FewLaws
pub mod Said
