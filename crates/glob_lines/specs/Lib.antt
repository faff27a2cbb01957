pub mod LineFaults
pub mod Lines
pub mod Private
pub mod Watch
