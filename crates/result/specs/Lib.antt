pub mod Result
pub mod Image
