pub mod Edits
pub mod Copied
pub mod Table
pub mod Sliced
pub mod Lengths
