pub mod Checked
pub mod Lent
pub mod Met
pub mod Numbered
pub mod Parts
pub mod Places
