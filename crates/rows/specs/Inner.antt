-- Inner definitions, which inner functions and laws share. No contract of a public call cites one.
pub mod Code
pub mod Held
pub mod Written
