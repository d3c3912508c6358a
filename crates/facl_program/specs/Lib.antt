pub mod FileStores
pub mod Files
pub mod Lines
pub mod Words
pub mod Program
