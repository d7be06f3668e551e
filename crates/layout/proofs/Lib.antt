pub mod Turning
pub mod Homing
pub mod Listing
pub mod Coding
pub mod Marking
