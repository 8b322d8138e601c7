pub mod Follows
pub mod Lesson
pub mod Finished
pub mod Going
pub mod Derives
