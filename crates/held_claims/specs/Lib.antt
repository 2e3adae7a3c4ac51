pub mod HeldClaims
