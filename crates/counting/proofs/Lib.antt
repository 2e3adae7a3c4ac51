pub mod GoesUp
