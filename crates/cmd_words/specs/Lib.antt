pub mod Size
pub mod Command
pub mod Forms
pub mod Table
