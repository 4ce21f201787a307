pub mod Appended
pub mod CodeLaws
pub mod EffectiveLaws
