pub mod Fold
pub mod Looking
pub mod Judging
pub mod Given
pub mod Telling
pub mod Loop
pub mod Ending
pub mod Unopened
