pub mod Places
pub mod Members
pub mod Super
