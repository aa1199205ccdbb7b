pub mod Built
pub mod Commands
pub mod Numbers
pub mod Program
pub mod Seen
pub mod Stated
