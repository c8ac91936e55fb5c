pub mod Image
pub mod Writer
