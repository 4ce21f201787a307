pub mod OwnRight
pub mod SightLaws
pub mod AllowedLaws
pub mod MaskLaws
