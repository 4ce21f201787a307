pub mod Again
pub mod InOrder
pub mod InOrderWhole
pub mod Noted
pub mod Putting
pub mod Written
