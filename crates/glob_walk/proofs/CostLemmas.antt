-- What a walk of a plain pattern costs: a polynomial in the number of keys.
pub mod Totals
pub mod Sizes
pub mod Polynomial
