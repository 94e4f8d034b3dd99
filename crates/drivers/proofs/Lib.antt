pub mod AnswersLaws
pub mod BytesLaws
pub mod PairedLaws
pub mod Laws
pub mod Paired
pub mod Numbers
