pub mod Components
pub mod Literals
pub mod Options
pub mod Short
pub mod Splits
pub mod Taking
pub mod Texts
