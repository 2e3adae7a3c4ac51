pub mod Witness
pub mod CompanyWitness
pub mod ProgressWitness
