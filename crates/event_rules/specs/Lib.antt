pub mod Table
pub mod Raised
pub mod Laws
pub mod Staging
pub mod Recent
pub mod Subjects
