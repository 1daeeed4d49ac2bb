pub mod Apart
pub mod Beginnings
pub mod Chosen
pub mod Laws
pub mod Wanting
