-- What the private functions keep and pass on. Nothing here has to be believed: the contract of `tidy` doesn't name it.
pub mod Parts
pub mod Writers
pub mod Marks
pub mod Reads
pub mod Reader
