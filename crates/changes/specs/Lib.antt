pub mod Signs
pub mod Contents
