mod RightLaws
mod Asking
